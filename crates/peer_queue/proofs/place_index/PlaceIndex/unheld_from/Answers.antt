use Rattle.std.proofs.Common.{◌-◌, ◌^◌, ap, ◌∙◌, subst, arith}
use Rattle.std.specs.Prelude.{find, nat_le}
use Rattle.peer_queue.specs.DebtPlace.{AreRising, Places, unheld}
use Rattle.peer_queue.specs.Index.{Holders, holder_in}
use Rattle.peer_queue.proofs.Releases.{rising_by}
use Rattle.peer_queue.proofs.Unheld.{unheld_is}
use Rattle.peer_queue.proofs.place_index.PlaceIndex.unheld_from.Goals as goal

pub returns-clause-first : goal.returns-clause-first
returns-clause-first c =
    let agenda = c.self.inside.agenda in
    let h : Holders = holder_in c.self.inside.held.keys in
    let first = c.args.first in
    unheld_is c.due_from.result h agenda first (2 ^ 64 - 1) c.self.invariant.rising (λ n d e. omega (arith, c.self.invariant.moments n d e)) c.due_from.ensures.some c.due_from.ensures.none
    ∙ ap (λ (p : Places). find (λ m. nat_le first m) (unheld p)) c.self.view_is

pub returns-clause-rising : goal.returns-clause-rising
returns-clause-rising c = subst AreRising c.self.view_is (rising_by (holder_in c.self.inside.held.keys) c.self.inside.agenda c.self.invariant.rising)
