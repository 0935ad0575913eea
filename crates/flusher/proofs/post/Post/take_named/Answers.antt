use Rattle.std.proofs.Common.{rules, ◌≡◌, ◌+◌, ◌<◌, ℕ, List, [], length, inl, sym, ap, ◌∙◌, subst, arith}
use Rattle.std.specs.Prelude.{nat_lt, max, if◌then◌else◌, slice_set, slice_index, slice_index_or, Contains}
use Rattle.std.proofs.lemmas.List.{get_or-map, get_or_read, length-map}
use Rattle.flusher.specs.Post.{View}
use Rattle.flusher.proofs.post.Post.take_named.Goals as goal

-- the name of the peer that is asked
pub returns-in_err-take_at-clause-named : goal.returns-in_err-take_at-clause-named
returns-in_err-take_at-clause-named g c refused =
    let k = c.args.peer in
    let posts = c.self.inside.peers.items in
    let within_posts : k < length posts =
    omega (
      arith,
      c.requires.peer,
      ap (λ (v : View). length v.names) c.self.view_is,
      length-map posts (λ q. q.name),
    ) in
    let name_is : c.index.result.now.name ≡ slice_index_or c.args.self.now.names k [] =
    ap (λ q. q.name) c.index.ensures ∙ sym (get_or-map (λ q. q.name) posts k _ [] within_posts)
    ∙ ap (λ (v : View). slice_index_or v.names k []) c.self.view_is in
    let yes : Contains c.args.line.now.peers.items c.index.result.now.name = search rules in
    subst (λ (n : List ℕ). Contains c.args.line.now.peers.items n) name_is yes

pub returns-clause-taken : goal.returns-clause-taken
returns-clause-taken g c =
    let k = c.args.peer in
    let marks = c.args.marks.now.items in
    let named = c.args.line.now.peers.items in
    let posts = c.self.inside.peers.items in
    let within : k < length marks = omega (arith, c.requires.peer, c.requires.marks) in
    let within_posts : k < length posts =
    omega (
      arith,
      c.requires.peer,
      ap (λ (v : View). length v.names) c.self.view_is,
      length-map posts (λ q. q.name),
    ) in
    let mark_was : c.index-2.result.now ≡ slice_index marks k = get_or_read marks _ _ within c.index-2.ensures 0 in
    let name_is : c.index.result.now.name ≡ slice_index_or c.args.self.now.names k [] =
    ap (λ q. q.name) c.index.ensures ∙ sym (get_or-map (λ q. q.name) posts k _ [] within_posts)
    ∙ ap (λ (v : View). slice_index_or v.names k []) c.self.view_is in
    let yes : Contains named c.index.result.now.name = search rules in
    inl (
      subst (λ (n : List ℕ). Contains named n) name_is yes,
      ap (λ (m : ℕ). slice_set marks k m)
          (c.in_ok-take_at.ensures.marked ∙ ap (λ (m : ℕ). max m c.args.number) mark_was),
      c.in_ok-take_at.ensures.counted
          ∙ ap (λ (m : ℕ). c.args.taken.now.amount + (if nat_lt m c.args.number then 1 else 0)) mark_was,
    )
