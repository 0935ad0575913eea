use Rattle.std.proofs.Common.{ℕ, List, sym, ◌∙◌, subst}
use Rattle.std.specs.List.{Contains}
use Rattle.peer_queue.proofs.Claims.{candidate_placed, placed_hold}
use Rattle.peer_queue.proofs.front.Front.claim_key.Goals as goal

pub invariant_of-self : goal.invariant_of-self
invariant_of-self c =
    let old = c.args.self.now in
    record {
      all_placed = placed_hold c.hold.result old.index c.hold.new.self c.in-Some.key c.args.connection.0
          c.hold.ensures.ok c.hold.ensures.unchanged ∙ old.all_placed;
    }

pub returns-clause-some : goal.returns-clause-some
returns-clause-some c =
    let old = c.args.self.now in
    let n = c.in-Some.key in (
      sym c.in-Some.ensures.least,
      subst (λ (l : List ℕ). Contains l n) old.all_placed
          (candidate_placed c.args.now n old.index (sym c.in-Some.ensures.least)),
      c.in_ok-hold.ensures.ok,
    )
