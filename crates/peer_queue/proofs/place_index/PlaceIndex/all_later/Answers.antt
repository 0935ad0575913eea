use Rattle.std.proofs.Common.{ℕ, Bool, sym, subst}
use Rattle.deferral.specs.Due.{IsDue, IsLeastDue}
use Rattle.peer_queue.specs.Index.{Holders, holder_in, holds}
use Rattle.peer_queue.proofs.AllLater.{AreLater, are_later, none_due, none_held, none_in, told}
use Rattle.peer_queue.proofs.Kept.{held_due}
use Rattle.peer_queue.proofs.place_index.PlaceIndex.all_later.Goals as goal

pub returns-in-Some : goal.returns-in-Some
returns-in-Some c =
    let agenda = c.self.inside.agenda in
    let h : Holders = holder_in c.self.inside.held.keys in
    let k : ℕ → ℕ → Bool = holds c.self.inside.held in
    let pair = c.in-Some.field-0.now in (
      λ e. absurd (cc),
      λ all. absurd (none_held h agenda pair.1 (subst AreLater (sym c.self.view_is) all)
          (held_due h agenda k pair.1 pair.0 c.self.invariant
          ((c.self.invariant.told pair.0 pair.1).0 c.in-Some.ensures.member))),
    )

pub returns-in-None : goal.returns-in-None
returns-in-None c =
    let agenda = c.self.inside.agenda in
    let h : Holders = holder_in c.self.inside.held.keys in
    let now = c.due_at.result in
    told c.due_least.result c.is_none.result (IsLeastDue agenda now)
    ((n : ℕ) → IsDue agenda now n → ⊥) c.is_none.ensures c.due_least.ensures.some c.due_least.ensures.none
    (λ none. subst AreLater c.self.view_is
    (are_later h agenda now c.self.invariant.rising
    (λ n is. none_in c.self.inside.held n c.in-None.ensures.variant ((c.self.invariant.held n).0 is)) none))
    (λ all n least. none_due h agenda now n c.due_at.ensures (subst AreLater (sym c.self.view_is) all) least.due)
