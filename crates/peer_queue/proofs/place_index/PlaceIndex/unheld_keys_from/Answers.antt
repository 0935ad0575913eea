use Rattle.std.proofs.Common.{◌≡◌, ◌-◌, ◌^◌, ap, ◌∙◌, arith}
use Rattle.std.specs.Prelude.{filter, nat_le}
use Rattle.deferral.specs.Due.{due_numbers}
use Rattle.peer_queue.specs.DebtPlace.{Places, unheld}
use Rattle.peer_queue.specs.Index.{Holders, holder_in}
use Rattle.peer_queue.proofs.Unheld.{unheld_due}
use Rattle.peer_queue.proofs.place_index.PlaceIndex.unheld_keys_from.Goals as goal

pub returns : goal.returns
returns c =
    let agenda = c.self.inside.agenda in
    let h : Holders = holder_in c.self.inside.held.keys in
    let first = c.args.first in
    let same : due_numbers first (2 ^ 64 - 1) agenda ≡ filter (λ m. nat_le first m) (unheld c.args.self.now) =
    unheld_due h agenda first (2 ^ 64 - 1) c.self.invariant.rising
    (λ n d e. omega (arith, c.self.invariant.moments n d e))
    ∙ ap (λ (p : Places). filter (λ m. nat_le first m) (unheld p)) c.self.view_is in
    rw (← same) c.due_keys_from.ensures
