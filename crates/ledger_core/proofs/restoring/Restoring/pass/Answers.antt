use Rattle.std.proofs.Common.{refl}
use Rattle.ledger_core.specs.Ledger.{state_of}
use Rattle.ledger_core.proofs.Taking.{going, gone-stops, long-stops, no-true, stopped, stopped-more}
use Rattle.ledger_core.proofs.restoring.Restoring.pass.Goals as goal

pub returns-then-is_refused : goal.returns-then-is_refused
returns-then-is_refused c = λ payloads payload long taken.
    stopped-more c.args.self.now payloads payload
    (stopped c.args.self.now payloads (c.if-is_refused.ensures.0 refl) taken)

pub returns : goal.returns
returns c = λ payloads payload long taken.
    let old = c.args.self.now in
    let gone = going old payloads (λ is. no-true (c.if-is_refused.ensures.1 is)) taken in
    gone-stops old c.refuse.new.self payloads payload gone
    (long-stops old.stage (state_of old.ledger) payloads payload long gone.reads) c.refuse.ensures.stage
    c.refuse.ensures.place.0 c.refuse.ensures.place.1
