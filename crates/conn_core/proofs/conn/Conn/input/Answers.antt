use Rattle.std.proofs.Common.{◌≡◌, ap, sym, ◌∙◌, None}
use Rattle.std.specs.Prelude.{is_some, if◌then◌else◌}
use Rattle.conn_core.specs.History.{reason}
use Rattle.conn_core.specs.Machine.{close}
use Rattle.conn_core.specs.declared.reason.Reason.TheVariants.{Broken}
use Rattle.conn_core.proofs.Calls.{broke-call, if-open}
use Rattle.conn_core.proofs.Reading.{closed-receives, open-runs}
use Rattle.conn_core.proofs.conn.Conn.input.Goals as goal

pub returns-then-is_some-clause-ok : goal.returns-then-is_some-clause-ok
returns-then-is_some-clause-ok c = λ options unread h st.
    closed-receives options c.args.self.now unread c.args.octets.now h st (rw (← c.self.view_is) (ap is_some (sym c.closed.ensures) ∙ cc))

pub returns-in-Ok-clause-ok : goal.returns-in-Ok-clause-ok
returns-in-Ok-clause-ok c = λ options unread h st.
    c.in-Ok.ensures.ok options unread h st (open-runs options c.args.self.now unread h st (rw (← c.self.view_is) (ap is_some (sym c.closed.ensures) ∙ cc)))

pub returns-in-Err-clause-err : goal.returns-in-Err-clause-err
returns-in-Err-clause-err c = λ options unread h st.
    let running : reason options h ≡ None = open-runs options c.args.self.now unread h st (rw (← c.self.view_is) (ap is_some (sym c.closed.ensures) ∙ cc)) in
    let left = c.in-Err.ensures.err options unread h st running in
    let broke : c.broken.new.self ≡ (if is_some c.take_in.new.self.state.closed then c.take_in.new.self.state else close Broken c.take_in.new.self.state) =
    rw (← c.self-2.view_is) c.broken.ensures in (
      left.0,
      left.1,
      broke-call options c.take_in.new.self _ left.0 left.2.arises left.2.stands left.2.running
          (broke ∙ if-open c.take_in.new.self.state.closed _ _ (left.2.stands.closed_is ∙ left.2.running)),
    )

pub returns-in-Err-clause-dropped : goal.returns-in-Err-clause-dropped
returns-in-Err-clause-dropped c = λ options unread h st closed.
    let running : reason options h ≡ None = open-runs options c.args.self.now unread h st (rw (← c.self.view_is) (ap is_some (sym c.closed.ensures) ∙ cc)) in
    rw running at closed
