use Rattle.std.proofs.Common.{◌++◌, ◌∷◌, [], subst, sym}
use Rattle.log_writer.specs.LogQueue.{State, StandsFor}
use Rattle.log_writer.proofs.Telling.{lose_last}
use Rattle.log_writer.proofs.log_queue.LogQueue.lose.Goals as goal

pub returns-clause-stands : goal.returns-clause-stands
returns-clause-stands c written lines line few stands =
    let waiting = c.self.inside.waiting.items in
    let old : State = record { waiting = waiting; missing = c.self.inside.missing } in
    let here = subst (λ s. StandsFor s written lines) (sym c.self.view_is) stands in
    let after = lose_last old line written lines few here in
    subst (λ n. StandsFor (record { waiting = waiting; missing = n }) written (lines ++ line ∷ []))
    (sym c.saturating_add-self-inside.ensures) after
