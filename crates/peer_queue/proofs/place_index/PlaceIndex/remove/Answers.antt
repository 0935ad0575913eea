use Rattle.std.proofs.Common.{◌≡◌, ◌==◌, ℕ, Bool, cond, None, refl, sym, ap, ◌∙◌, subst}
use Rattle.deferral.specs.Due.{Waiting, IsRising, due_of}
use Rattle.peer_queue.specs.DebtPlace.{IsUnheld, Places, gone}
use Rattle.peer_queue.specs.Index.{Holders, holder_in, holds, places_by}
use Rattle.peer_queue.proofs.Kept as kept
use Rattle.peer_queue.proofs.Moves as moves
use Rattle.peer_queue.proofs.place_index.PlaceIndex.remove.Goals as goal

pub invariant_of-self : goal.invariant_of-self
invariant_of-self c =
    let agenda = c.self.inside.agenda in
    let h : Holders = holder_in c.self.inside.held.keys in
    let k : ℕ → ℕ → Bool = holds c.self.inside.held in
    let n = c.args.key in
    let was = kept.unheld_due h agenda n (subst (λ (p : Places). IsUnheld p n) (sym c.self.view_is) c.requires) in
    let new = c.remove.ensures.new in
    let moments : (m : ℕ) → due_of c.remove.new.self m ≡ cond (n == m) None (due_of agenda m) = λ m. ap (λ (w : Waiting). due_of w m) new ∙ c.after_remove.ensures.moments agenda n m c.self.invariant.rising in
    kept.kept_free agenda c.remove.new.self h k n c.self.invariant
    (subst IsRising (sym new) (c.after_remove.ensures.order agenda n c.self.invariant.rising))
    (λ m apart. moments m ∙ kept.other_due n m None (due_of agenda m) apart)
    (λ b e. kept.free h agenda k n b was.0 c.self.invariant was.1 e)
    (kept.none_apart (due_of c.remove.new.self n) (moments n ∙ kept.own_due n None (due_of agenda n)))
    (λ t. kept.none_fits (due_of c.remove.new.self n) t (moments n ∙ kept.own_due n None (due_of agenda n)))

pub returns : goal.returns
returns c =
    let agenda = c.self.inside.agenda in
    let h : Holders = holder_in c.self.inside.held.keys in
    let k : ℕ → ℕ → Bool = holds c.self.inside.held in
    ap (places_by h) c.remove.ensures.new ∙ (moves.gone_by h h agenda c.args.key c.self.invariant.rising (λ m apart. refl) ∙ ap (λ (p : Places). gone p c.args.key) c.self.view_is)
