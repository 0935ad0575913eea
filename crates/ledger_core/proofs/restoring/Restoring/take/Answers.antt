use Rattle.std.proofs.Common.{◌∙◌, Err, ap, refl}
use Rattle.ledger_core.proofs.Taking.{going, gone-more, gone-stops, no-true, stopped, stopped-more}
use Rattle.ledger_core.proofs.restoring.Restoring.take.Goals as goal

pub returns-then-is_refused : goal.returns-then-is_refused
returns-then-is_refused c = λ payloads taken.
    stopped-more c.args.self.now payloads c.args.payload.now
    (stopped c.args.self.now payloads (c.if-is_refused.ensures.0 refl) taken)

pub returns-in-Ok : goal.returns-in-Ok
returns-in-Ok c = λ payloads taken.
    let gone = going c.args.self.now payloads (λ is. no-true (c.if-is_refused.ensures.1 is)) taken in
    gone-more c.args.self.now c.read.new.self c.step_over.new.self payloads c.args.payload.now gone
    (rw c.in-Ok.is at (c.read.ensures.reads payloads gone)) (rw c.in-Ok.is at (c.read.ensures.indexes payloads gone))
    c.read.ensures.place c.step_over.ensures.ledger c.step_over.ensures.stage c.step_over.ensures.index
    c.step_over.ensures.at

pub returns-in-Err-Refused : goal.returns-in-Err-Refused
returns-in-Err-Refused c = λ payloads taken.
    let gone = going c.args.self.now payloads (λ is. no-true (c.if-is_refused.ensures.1 is)) taken in
    gone-stops c.args.self.now c.refuse.new.self payloads c.args.payload.now gone
    (c.in-Err-Refused.ensures.refused payloads gone c.in-Err-Refused.field-0-0 (ap Err c.in-Err-Refused.field-0-is))
    c.refuse.ensures.stage
    (c.refuse.ensures.place.0 ∙ c.read.ensures.place.0) (c.refuse.ensures.place.1 ∙ c.read.ensures.place.1)
