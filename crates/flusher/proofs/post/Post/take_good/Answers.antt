use Rattle.std.proofs.Common.{rules, ◌<◌, ◌≤◌, ℕ, List, length, ap, sym, subst, arith}
use Rattle.std.specs.Prelude.{IsErr}
use Rattle.std.proofs.lemmas.List.{length-map}
use Rattle.flusher.specs.Post.{View}
use Rattle.flusher.specs.Marks.{RefusesGood}
use Rattle.flusher.proofs.Taken.{done_none, done_more, refused_at}
use Rattle.flusher.proofs.post.Post.take_good.Goals as goal

pub loop-peer-init : goal.loop-peer-init
loop-peer-init g c = (
  done_none c.args.number c.args.line.now.peers.items c.args.self.now.names c.args.marks.now.items
      c.args.taken.now.amount,
  search rules,
)

pub loop-peer-preserved : goal.loop-peer-preserved
loop-peer-preserved g c =
    let l = c.loop-peer in
    let long = ap (λ (v : View). length v.names) c.self.view_is in
    let within : l.peer < length c.args.marks.now.items =
    omega (
      arith,
      long,
      length-map c.self.inside.peers.items (λ q. q.name),
      c.requires.marks,
      c.loop-peer-test.true,
      c.len-peer-end.ensures,
    ) in (
      done_more c.args.number c.args.line.now.peers.items c.args.self.now.names c.args.marks.now.items l.peer
          l.marks.items c.take_named.new.marks.items
          c.args.taken.now.amount l.taken.amount c.take_named.new.taken.amount within l.invariant.0 (search rules),
      c.take_named.ensures.part,
    )

pub returns-clause-raised : goal.returns-clause-raised
returns-clause-raised g c =
    let l = c.loop-peer in
    let long = ap (λ (v : View). length v.names) c.self.view_is in
    let all : length c.args.self.now.names ≤ l.peer =
    omega (arith, long, length-map c.self.inside.peers.items (λ q. q.name), c.len-peer-end.ensures) in
    λ peer below. l.invariant.0.2 peer (omega (arith, all, below))

-- the fault names the peer that was asked, which the line names
pub returns-in_err-take_named-clause-refuses : goal.returns-in_err-take_named-clause-refuses
returns-in_err-take_named-clause-refuses g c =
    let l = c.loop-peer in
    let number = c.args.number in
    let names = c.args.self.now.names in
    let named = c.args.line.now.peers.items in
    let was = c.args.marks.now.items in
    let fault = c.in_err-take_named.field-0.0 in
    let long = ap (λ (v : View). length v.names) c.self.view_is in
    let within : l.peer < length names =
    omega (
      arith,
      long,
      length-map c.self.inside.peers.items (λ q. q.name),
      c.loop-peer-test.true,
      c.len-peer-end.ensures,
    ) in
    let refused : IsErr c.take_named.result = search rules in
    let before : RefusesGood number named names fault was l.marks.items =
    refused_at number named names was l.peer l.marks.items c.args.taken.now.amount l.taken.amount fault within
    l.invariant.0 (c.take_named.ensures.named refused) c.in_err-take_named.ensures.kinds in
    let told : RefusesGood number named names fault was c.take_named.new.marks.items =
    subst (λ (m : List ℕ). RefusesGood number named names fault was m) (sym c.in_err-take_named.ensures.unchanged.0)
    before in
    search (rules, told)
