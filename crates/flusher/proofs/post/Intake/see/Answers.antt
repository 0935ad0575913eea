use Rattle.std.proofs.Common.{◌<◌, arith}
use Rattle.ledger_core.specs.State.{State}
use Rattle.recovery.specs.Words.{ledger_of}
use Rattle.flusher.proofs.Refused.{seal_fault_of, seen_taken}
use Rattle.flusher.proofs.post.Intake.see.Goals.{in-Ok, in-Err}
use Rattle.flusher.proofs.post.Intake.see.Goals as goal

pub returns-clause-kinds : goal.returns-clause-kinds
returns-clause-kinds g c =
    let state : State = ledger_of c.args.self.now.tape in
    let above : state.mark < c.args.number = omega arith in
    elim c.match-note.branch [
      | in-Ok w ↦ rw w.result-is tt
      | in-Err w ↦
          let refuses = w.in-Err.ensures.refuses in
          rw w.result-is (
            seal_fault_of w.in-Err.fault
                (λ refused is. seen_taken state c.args.number refused above ((refuses.note refused).0 is).1)
                refuses.kinds,
            refuses.kinds,
          )
    ]
