use Rattle.std.proofs.Common.{◌≡◌, ◌==◌, ℕ, Bool, false, cond, Option, Some, refl, sym, ap, ◌∙◌, subst, arith}
use Rattle.std.specs.Prelude.{IsSome}
use Rattle.std.specs.Ordering.{is_eq}
use Rattle.deferral.specs.Due.{Waiting, IsRising, due_of}
use Rattle.peer_queue.specs.DebtPlace.{IsHeldBy, Places, moved}
use Rattle.peer_queue.specs.Index.{Holders, holder_in, holds, pair_cmp, place_for, places_by}
use Rattle.peer_queue.proofs.Holders.{no_holder_now, others_hold}
use Rattle.peer_queue.proofs.Kept as kept
use Rattle.peer_queue.proofs.Moves as moves
use Rattle.peer_queue.proofs.place_index.PlaceIndex.give_up.Goals as goal

pub invariant_of-self : goal.invariant_of-self
invariant_of-self c =
    let agenda = c.self.inside.agenda in
    let h : Holders = holder_in c.self.inside.held.keys in
    let k : ℕ → ℕ → Bool = holds c.self.inside.held in
    let n = c.args.key in
    let b = c.args.connection.0 in
    let h' : Holders = holder_in c.remove.new.self.keys in
    let k' : ℕ → ℕ → Bool = holds c.remove.new.self in
    let held = subst (λ (p : Places). IsHeldBy p b n) (sym c.self.view_is) c.requires in
    let was = kept.held_by h agenda k n b c.self.invariant held in
    let old = c.self.inside.held in
    let new = c.remove.new.self in
    let pairs : (d m : ℕ) → k' d m ≡ cond (is_eq (pair_cmp (b, n) (d, m))) false (k d m) =
    λ d m. c.remove.ensures.updates.0 (d, m) in
    let others = others_hold agenda old new c.self.invariant b n false pairs in
    let left = c.set.ensures.new in
    let d = c.due_at.result in
    let due : Option ℕ = Some d in
    let moments : (m : ℕ) → due_of c.set.new.self m ≡ cond (n == m) (Some due) (due_of agenda m) = λ m.
    ap (λ (w : Waiting). due_of w m) left ∙ c.after_set.ensures.moments agenda n m due (subst IsSome (sym was.1) refl) in
    let own = moments n ∙ kept.own_due n (Some due) (due_of agenda n) in
    kept.kept_drop agenda c.set.new.self h h' k k' b n c.self.invariant
    (subst IsRising (sym left) (c.after_set.ensures.order agenda n due c.self.invariant.rising))
    (λ m apart. moments m ∙ kept.other_due n m (Some due) (due_of agenda m) apart) others was.0
    (kept.some_apart (due_of c.set.new.self n) d own)
    (λ t. kept.some_fits (due_of c.set.new.self n) d t own (omega (arith, c.due_at.type_inv)))
    (no_holder_now agenda old new c.self.invariant b n was.0 pairs) pairs

pub returns : goal.returns
returns c =
    let agenda = c.self.inside.agenda in
    let h : Holders = holder_in c.self.inside.held.keys in
    let k : ℕ → ℕ → Bool = holds c.self.inside.held in
    let n = c.args.key in
    let b = c.args.connection.0 in
    let h' : Holders = holder_in c.remove.new.self.keys in
    let k' : ℕ → ℕ → Bool = holds c.remove.new.self in
    let held = subst (λ (p : Places). IsHeldBy p b n) (sym c.self.view_is) c.requires in
    let was = kept.held_by h agenda k n b c.self.invariant held in
    let old = c.self.inside.held in
    let new = c.remove.new.self in
    let pairs : (d m : ℕ) → k' d m ≡ cond (is_eq (pair_cmp (b, n) (d, m))) false (k d m) =
    λ d m. c.remove.ensures.updates.0 (d, m) in
    let others = others_hold agenda old new c.self.invariant b n false pairs in
    let wait = c.args.wait in
    ap (places_by h') c.set.ensures.new
    ∙ (moves.moved_wait h' h agenda n c.due_at.result wait c.due_at.ensures
    (no_holder_now agenda old new c.self.invariant b n was.0 pairs) others
    ∙ ap (λ (p : Places). moved p n (place_for wait)) c.self.view_is)
