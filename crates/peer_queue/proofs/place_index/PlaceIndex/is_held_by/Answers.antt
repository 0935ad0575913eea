use Rattle.std.proofs.Common.{ℕ, Bool, sym, ◌∙◌, subst}
use Rattle.peer_queue.specs.DebtPlace.{IsHeldBy, Places}
use Rattle.peer_queue.specs.Index.{Holders, holder_in, holds}
use Rattle.peer_queue.proofs.Kept as kept
use Rattle.peer_queue.proofs.place_index.PlaceIndex.is_held_by.Goals as goal

pub returns : goal.returns
returns c =
    let agenda = c.self.inside.agenda in
    let h : Holders = holder_in c.self.inside.held.keys in
    let k : ℕ → ℕ → Bool = holds c.self.inside.held in
    let n = c.args.key in
    let b = c.args.connection.0 in (
      λ is. subst (λ (p : Places). IsHeldBy p b n) c.self.view_is
          (kept.is_held_by h agenda k n b c.self.invariant
          ((c.self.invariant.told b n).0 (sym c.contains.ensures ∙ is))),
      λ held. c.contains.ensures ∙ (c.self.invariant.told b n).1
          (kept.held_by h agenda k n b c.self.invariant
          (subst (λ (p : Places). IsHeldBy p b n) (sym c.self.view_is) held)).0,
    )
