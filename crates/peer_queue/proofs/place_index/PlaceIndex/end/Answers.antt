use Rattle.std.proofs.Common.{◌≡◌, ◌==◌, ℕ, Bool, false, cond, None, sym, ap, ◌∙◌, subst}
use Rattle.std.specs.Ordering.{is_eq}
use Rattle.deferral.specs.Due.{Waiting, IsRising, due_of}
use Rattle.peer_queue.specs.DebtPlace.{IsHeldBy, Places, gone}
use Rattle.peer_queue.specs.Index.{Holders, holder_in, holds, pair_cmp, places_by}
use Rattle.peer_queue.proofs.Holders.{no_holder_now, others_hold}
use Rattle.peer_queue.proofs.Kept as kept
use Rattle.peer_queue.proofs.Moves as moves
use Rattle.peer_queue.proofs.place_index.PlaceIndex.end.Goals as goal

pub invariant_of-self : goal.invariant_of-self
invariant_of-self c =
    let agenda = c.self.inside.agenda in
    let h : Holders = holder_in c.self.inside.held.keys in
    let k : ℕ → ℕ → Bool = holds c.self.inside.held in
    let n = c.args.key in
    let b = c.args.connection.0 in
    let h' : Holders = holder_in c.remove.new.self.keys in
    let k' : ℕ → ℕ → Bool = holds c.remove.new.self in
    let was = kept.held_by h agenda k n b c.self.invariant (subst (λ (p : Places). IsHeldBy p b n) (sym c.self.view_is) c.requires) in
    let old = c.self.inside.held in
    let new = c.remove.new.self in
    let pairs : (d m : ℕ) → k' d m ≡ cond (is_eq (pair_cmp (b, n) (d, m))) false (k d m) =
    λ d m. c.remove.ensures.updates.0 (d, m) in
    let others = others_hold agenda old new c.self.invariant b n false pairs in
    let left = c.remove-2.ensures.new in
    let moments : (m : ℕ) → due_of c.remove-2.new.self m ≡ cond (n == m) None (due_of agenda m) =
    λ m. ap (λ (w : Waiting). due_of w m) left ∙ c.after_remove.ensures.moments agenda n m c.self.invariant.rising in
    kept.kept_drop agenda c.remove-2.new.self h h' k k' b n c.self.invariant (subst IsRising (sym left) (c.after_remove.ensures.order agenda n c.self.invariant.rising))
    (λ m apart. moments m ∙ kept.other_due n m None (due_of agenda m) apart) others was.0
    (kept.none_apart (due_of c.remove-2.new.self n) (moments n ∙ kept.own_due n None (due_of agenda n)))
    (λ t. kept.none_fits (due_of c.remove-2.new.self n) t (moments n ∙ kept.own_due n None (due_of agenda n)))
    (no_holder_now agenda old new c.self.invariant b n was.0 pairs) pairs

pub returns : goal.returns
returns c =
    let agenda = c.self.inside.agenda in
    let h : Holders = holder_in c.self.inside.held.keys in
    let k : ℕ → ℕ → Bool = holds c.self.inside.held in
    let n = c.args.key in
    let b = c.args.connection.0 in
    let h' : Holders = holder_in c.remove.new.self.keys in
    let k' : ℕ → ℕ → Bool = holds c.remove.new.self in
    let was = kept.held_by h agenda k n b c.self.invariant (subst (λ (p : Places). IsHeldBy p b n) (sym c.self.view_is) c.requires) in
    let old = c.self.inside.held in
    let new = c.remove.new.self in
    let pairs : (d m : ℕ) → k' d m ≡ cond (is_eq (pair_cmp (b, n) (d, m))) false (k d m) =
    λ d m. c.remove.ensures.updates.0 (d, m) in
    let others = others_hold agenda old new c.self.invariant b n false pairs in
    ap (places_by h') c.remove-2.ensures.new ∙ (moves.gone_by h' h agenda n c.self.invariant.rising others ∙ ap (λ (p : Places). gone p n) c.self.view_is)
