-- Each digit is counted as the decimal value counts it.
use Rattle.std.proofs.Common.{◌≡◌, [], sym, ap, ◌∙◌, arith, drop}
use Rattle.std.proofs.lemmas.List.{drop_all}
use Rattle.feed_conf.specs.Values.{decimal}
use Rattle.feed_conf.proofs.Decimals.{too_great}
use Rattle.feed_conf.proofs.digits.value_of.Goals as goal

pub returns-in_err-checked_mul : goal.returns-in_err-checked_mul
returns-in_err-checked_mul c =
    let loop = c.loop-digit in
    let great =
    too_great c.args.digits.now loop.digit-index loop.number c.loop-digit-test.true loop.invariant.value
    (omega (arith, c.in_err-checked_mul.ensures)) in
    rw c.from_residual.ensures great

pub returns-in_err-number : goal.returns-in_err-number
returns-in_err-number c =
    let loop = c.loop-digit in
    let great =
    too_great c.args.digits.now loop.digit-index loop.number c.loop-digit-test.true loop.invariant.value
    (omega (
      arith,
      c.in_err-number.ensures,
      c.in_ok-checked_mul.ensures,
      c.from.ensures,
      c.saturating_sub.ensures,
    )) in
    rw c.from_residual-in_err-number.ensures great

pub returns : goal.returns
returns c =
    let digits = c.args.digits.now in
    let loop = c.loop-digit in
    let none : drop loop.digit-index digits ≡ [] = drop_all loop.digit-index digits c.loop-digit-test.false in
    let whole : loop.number ≡ decimal 0 digits = sym (ap (decimal loop.number) none) ∙ loop.invariant.value in
    (whole, loop.invariant.small)
