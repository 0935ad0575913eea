use Rattle.std.proofs.Common.{◌≡◌, Ok, Err, None, ap, sym, ◌∙◌}
use Rattle.std.specs.Prelude.{is_some}
use Rattle.reply_reader.specs.Stream.{Working, IsShort}
use Rattle.reply_reader.specs.Next.{given_of}
use Rattle.conn_core.proofs.Reading.{at-work, begins-fault, begins-reply, reads-fault, reads-none, reads-reply, shorter-reply}
use Rattle.conn_core.proofs.conn.Conn.read_one.Goals as goal

pub returns-in_ok-on_reply-in-Ok-Some-clause-read : goal.returns-in_ok-on_reply-in-Ok-Some-clause-read
returns-in_ok-on_reply-in-Ok-Some-clause-read c = λ options waiting h reading.
    let reader : c.self.inside.reader ≡ Working waiting = ap (λ v. v.reader) c.self.view_is ∙ reading.reader in
    let gives = rw c.in-Ok-Some.field-0-is at c.in-Ok-Some.ensures.some in
    let begins = begins-reply c.self.inside.reader c.next.new.self waiting (given_of c.in-Ok-Some.reply) gives reader in
    reads-reply options c.args.self.now _ waiting h reading (given_of c.in-Ok-Some.reply) gives.rest begins gives.waits (rw (← c.self.view_is) c.in_ok-on_reply-in-Ok-Some.ensures.ok)
    c.is_none.result (ap is_some (sym c.closed-closed.ensures) ∙ c.is_none.ensures)

pub returns-in_ok-on_reply-in-Ok-Some-clause-shorter : goal.returns-in_ok-on_reply-in-Ok-Some-clause-shorter
returns-in_ok-on_reply-in-Ok-Some-clause-shorter c = λ more.
    let gives = rw c.in-Ok-Some.field-0-is at c.in-Ok-Some.ensures.some in
    rw (← c.self.view_is) (shorter-reply c.self.inside.reader c.next.new.self (given_of c.in-Ok-Some.reply) gives)

pub returns-in-Ok-None-clause-read : goal.returns-in-Ok-None-clause-read
returns-in-Ok-None-clause-read c = λ options waiting h reading.
    let reader : c.self.inside.reader ≡ Working waiting = ap (λ v. v.reader) c.self.view_is ∙ reading.reader in
    let none : c.next.result ≡ Ok None = c.in-Ok-None.is ∙ ap (λ o. Ok o) c.in-Ok-None.field-0-is in
    let short = at-work c.self.inside.reader waiting IsShort reader (c.next.ensures.none.0 none) in
    reads-none options c.args.self.now _ waiting h reading short (c.next.ensures.unchanged none ∙ ap (λ v. v.reader) c.self.view_is) (ap (λ v. v.state) c.self.view_is)

pub returns-in_default-clause-read : goal.returns-in_default-clause-read
returns-in_default-clause-read c = λ options waiting h reading.
    let reader : c.self.inside.reader ≡ Working waiting = ap (λ v. v.reader) c.self.view_is ∙ reading.reader in
    let begins = begins-fault c.self.inside.reader waiting c.in-Err.fault reader (λ e. c.next.ensures.refuses.too_long.0 (c.in-Err.is ∙ ap (λ f. Err f) e))
    (λ e. c.next.ensures.refuses.no_code.0 (c.in-Err.is ∙ ap (λ f. Err f) e)) (λ e. c.next.ensures.refuses.failed.0 (c.in-Err.is ∙ ap (λ f. Err f) e)) c.in_default.not-NoMemory in
    reads-fault options c.args.self.now _ waiting h reading c.in-Err.fault begins (rw (← c.self.view_is) c.on_fault.ensures)
