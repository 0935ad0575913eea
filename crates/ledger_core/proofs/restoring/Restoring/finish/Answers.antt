use Rattle.std.proofs.Common.{refl, arith}
use Rattle.ledger_core.specs.BaseLaws.{never_restored, restores_once}
use Rattle.ledger_core.specs.Ledger.{state_of}
use Rattle.ledger_core.specs.declared.restoring.RefusedPayload.{RefusedPayload}
use Rattle.ledger_core.specs.declared.restoring.Restoring.{Restoring}
use Rattle.ledger_core.proofs.Taking.{begun-reads, begun-restores, missing-with, stopped-with}
use Rattle.ledger_core.proofs.Taking.{unread-restores}
use Rattle.ledger_core.proofs.restoring.Restoring.finish.Goals as goal

-- the place that it tells
abbrev there : Restoring → RefusedPayload
there restoring = record { index = restoring.index; at = restoring.at }

pub returns-in-Unread-clause-all : goal.returns-in-Unread-clause-all
returns-in-Unread-clause-all c = λ payloads generation state taken whole.
    restores_once payloads 0 generation (state_of c.args.self.ledger) state
    (unread-restores c.args.self payloads c.in-Unread.is taken) whole

pub returns-then-self-taken-clause-all : goal.returns-then-self-taken-clause-all
returns-then-self-taken-clause-all c = λ payloads generation state taken whole.
    let stop = missing-with c.args.self c.in-Begun.generation c.in-Begun.taken payloads (there c.args.self)
    c.in-Begun.is (omega arith) refl refl taken in
    never_restored payloads stop.index generation state stop.stops whole

pub returns-then-self-taken-clause-refused : goal.returns-then-self-taken-clause-refused
returns-then-self-taken-clause-refused c = λ payloads taken.
    missing-with c.args.self c.in-Begun.generation c.in-Begun.taken payloads (there c.args.self) c.in-Begun.is
    (omega arith) refl refl taken

pub returns-else-self-taken-clause-all : goal.returns-else-self-taken-clause-all
returns-else-self-taken-clause-all c = λ payloads generation state taken whole.
    restores_once payloads c.in-Begun.generation generation (state_of c.args.self.ledger) state
    (begun-restores c.in-Begun.generation c.in-Begun.taken payloads (state_of c.args.self.ledger) (omega arith)
    (begun-reads c.args.self c.in-Begun.generation c.in-Begun.taken payloads c.in-Begun.is taken)) whole

pub returns-in-Refused-clause-all : goal.returns-in-Refused-clause-all
returns-in-Refused-clause-all c = λ payloads generation state taken whole.
    let stop = stopped-with c.args.self payloads (there c.args.self) c.in-Refused.is refl refl taken in
    never_restored payloads stop.index generation state stop.stops whole
