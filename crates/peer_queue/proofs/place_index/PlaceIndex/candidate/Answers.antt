use Rattle.std.proofs.Common.{◌≡◌, ℕ, Option, Some, sym, ap, ◌∙◌, subst}
use Rattle.std.specs.Prelude.{IfSome}
use Rattle.peer_queue.specs.DebtPlace.{AreRising, IsUnheld, Places, least_candidate}
use Rattle.peer_queue.specs.Index.{Holders, holder_in}
use Rattle.peer_queue.specs.ClaimLaws.{candidate_unheld}
use Rattle.peer_queue.proofs.Moves as moves
use Rattle.peer_queue.proofs.Releases.{rising_by}
use Rattle.peer_queue.proofs.place_index.PlaceIndex.candidate.Goals as goal

pub returns-clause-least : goal.returns-clause-least
returns-clause-least c =
    let agenda = c.self.inside.agenda in
    let h : Holders = holder_in c.self.inside.held.keys in
    moves.candidate_is c.due_least.result h agenda c.args.now c.self.invariant.rising c.due_least.ensures.some c.due_least.ensures.none ∙ ap (least_candidate c.args.now) c.self.view_is

-- the least that may be claimed is held by none
unheld_of : (r : Option ℕ) (p : Places) (now : ℕ) → AreRising p → r ≡ least_candidate now p → IfSome r (λ n. IsUnheld p n)
unheld_of (Some n) p now rising is = candidate_unheld now n p rising (sym is)
unheld_of _ p now rising is = tt

pub returns-clause-unheld : goal.returns-clause-unheld
returns-clause-unheld c =
    let agenda = c.self.inside.agenda in
    let h : Holders = holder_in c.self.inside.held.keys in
    let rising : AreRising c.args.self.now = subst AreRising c.self.view_is (rising_by h agenda c.self.invariant.rising) in
    let least = moves.candidate_is c.due_least.result h agenda c.args.now c.self.invariant.rising c.due_least.ensures.some c.due_least.ensures.none ∙ ap (least_candidate c.args.now) c.self.view_is in
    unheld_of c.due_least.result c.args.self.now c.args.now rising least
