use Rattle.std.proofs.Common.{◌≢◌, ◌≤◌, length, get_or, arith, rules}
use Rattle.drill_script.proofs.Writing.{plain_from, escaped_from, escaped_to, escapes_none}
use Rattle.drill_script.proofs.action.first_octet.Goals as goal

pub returns-in_err-escaped_octet-in-92-clause-none : goal.returns-in_err-escaped_octet-in-92-clause-none
returns-in_err-escaped_octet-in-92-clause-none c =
    rw c.from_residual.ensures
    (λ some. escapes_none c.args.written.now (omega arith) (search rules)
    (c.in_err-escaped_octet-in-92.ensures {u = tt}))

pub returns-in_ok-escaped_octet-in-92-clause-from : goal.returns-in_ok-escaped_octet-in-92-clause-from
returns-in_ok-escaped_octet-in-92-clause-from c =
    escaped_from c.args.written.now c.in_ok-escaped_octet-in-92.field-0 (omega arith)
    (search rules) c.in_ok-escaped_octet-in-92.ensures

pub returns-in_ok-escaped_octet-in-92-clause-to : goal.returns-in_ok-escaped_octet-in-92-clause-to
returns-in_ok-escaped_octet-in-92-clause-to c =
    escaped_to c.args.written.now c.in_ok-escaped_octet-in-92.field-0 (omega arith)
    (search rules) c.in_ok-escaped_octet-in-92.ensures

pub returns-in-len1-up-clause-from : goal.returns-in-len1-up-clause-from
returns-in-len1-up-clause-from c =
    let some : 1 ≤ length c.args.written.now = grind arith in
    let other : get_or c.args.written.now 0 0 ≢ 92 = grind arith in
    plain_from c.args.written.now some other
