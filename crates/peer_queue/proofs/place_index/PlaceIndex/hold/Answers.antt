use Rattle.std.proofs.Common.{◌≡◌, ◌==◌, ℕ, Bool, true, cond, Some, None, refl, sym, ap, ◌∙◌, subst}
use Rattle.std.specs.Prelude.{IsSome}
use Rattle.std.specs.Ordering.{is_eq}
use Rattle.deferral.specs.Due.{Waiting, IsRising, due_of}
use Rattle.peer_queue.specs.DebtPlace.{Held, IsUnheld, Places, moved}
use Rattle.peer_queue.specs.Index.{Holders, holder_in, holds, pair_cmp, places_by}
use Rattle.peer_queue.proofs.Holders.{new_holder, others_hold}
use Rattle.peer_queue.proofs.Kept as kept
use Rattle.peer_queue.proofs.Moves as moves
use Rattle.peer_queue.proofs.place_index.PlaceIndex.hold.Goals as goal

pub invariant_of-self-2 : goal.invariant_of-self-2
invariant_of-self-2 c =
    let agenda = c.self.inside.agenda in
    let h : Holders = holder_in c.self.inside.held.keys in
    let k : ℕ → ℕ → Bool = holds c.self.inside.held in
    let n = c.args.key in
    let b = c.args.connection.0 in
    let h' : Holders = holder_in c.insert.new.self.keys in
    let k' : ℕ → ℕ → Bool = holds c.insert.new.self in
    let was = kept.unheld_due h agenda n (subst (λ (p : Places). IsUnheld p n) (sym c.self.view_is) c.requires) in
    let old = c.self.inside.held in
    let new = c.insert.new.self in
    let pairs : (d m : ℕ) → k' d m ≡ cond (is_eq (pair_cmp (b, n) (d, m))) true (k d m) =
    λ d m. c.in_ok-insert.ensures.updates.0 (d, m) in
    let others = others_hold agenda old new c.self.invariant b n true pairs in
    let left = c.set.ensures.new in
    let moments : (m : ℕ) → due_of c.set.new.self m ≡ cond (n == m) (Some None) (due_of agenda m) =
    λ m. ap (λ (w : Waiting). due_of w m) left ∙ c.after_set.ensures.moments agenda n m None (subst IsSome (sym was.1) refl) in
    kept.kept_hold agenda c.set.new.self h h' k k' b n c.self.invariant (subst IsRising (sym left) (c.after_set.ensures.order agenda n None c.self.invariant.rising))
    (λ m apart. moments m ∙ kept.other_due n m (Some None) (due_of agenda m) apart) others was.0 was.1
    (moments n ∙ kept.own_due n (Some None) (due_of agenda n))
    (new_holder agenda old new c.self.invariant b n was.0 was.1 pairs) pairs

pub returns-clause-ok : goal.returns-clause-ok
returns-clause-ok c =
    let agenda = c.self.inside.agenda in
    let h : Holders = holder_in c.self.inside.held.keys in
    let k : ℕ → ℕ → Bool = holds c.self.inside.held in
    let n = c.args.key in
    let b = c.args.connection.0 in
    let h' : Holders = holder_in c.insert.new.self.keys in
    let k' : ℕ → ℕ → Bool = holds c.insert.new.self in
    let was = kept.unheld_due h agenda n (subst (λ (p : Places). IsUnheld p n) (sym c.self.view_is) c.requires) in
    let old = c.self.inside.held in
    let new = c.insert.new.self in
    let pairs : (d m : ℕ) → k' d m ≡ cond (is_eq (pair_cmp (b, n) (d, m))) true (k d m) =
    λ d m. c.in_ok-insert.ensures.updates.0 (d, m) in
    let others = others_hold agenda old new c.self.invariant b n true pairs in
    ap (places_by h') c.set.ensures.new ∙ (moves.moved_by h' h agenda n None (Some b)
    (new_holder agenda old new c.self.invariant b n was.0 was.1 pairs) others ∙ ap (λ (p : Places). moved p n (Held b)) c.self.view_is)
