-- The number so far is what the first digits write; if it grows too large, what all write is too large.
use Rattle.std.proofs.Common.{arith, ap, ◌+◌, ◌∙◌}
use Rattle.std.proofs.lemmas.List.{take_all}
use Rattle.std.specs.Str.Parse.{digits_value}
use Rattle.segments.proofs.Digits.{value_prefix, value_more}
use Rattle.segments.proofs.name.value_of.Goals as goal

pub returns-in_err-checked_mul : goal.returns-in_err-checked_mul
returns-in_err-checked_mul c =
    let loop = c.loop-digit in
    let more = value_more c.args.digits.now loop.digit-index c.requires c.loop-digit-test.true in
    let prefix = value_prefix c.args.digits.now (loop.digit-index + 1) in
    rw c.from_residual.ensures (omega (arith, more, prefix, loop.invariant.value, c.in_err-checked_mul.ensures))

pub returns-in_err-number : goal.returns-in_err-number
returns-in_err-number c =
    let loop = c.loop-digit in
    let more = value_more c.args.digits.now loop.digit-index c.requires c.loop-digit-test.true in
    let prefix = value_prefix c.args.digits.now (loop.digit-index + 1) in
    rw c.from_residual-in_err-number.ensures (omega (
      arith,
      more,
      prefix,
      loop.invariant.value,
      c.in_err-number.ensures,
      c.in_ok-checked_mul.ensures,
      c.from.ensures,
      c.saturating_sub.ensures,
    ))

pub loop-digit-preserved : goal.loop-digit-preserved
loop-digit-preserved c =
    let loop = c.loop-digit in
    let more = value_more c.args.digits.now loop.digit-index c.requires c.loop-digit-test.true in
    record {
      value = omega (
        arith,
        more,
        loop.invariant.value,
        c.in_ok-number.ensures,
        c.in_ok-checked_mul.ensures,
        c.from.ensures,
        c.saturating_sub.ensures,
      );
      small = omega (arith, c.in_ok-number.ensures);
    }

pub returns : goal.returns
returns c =
    let loop = c.loop-digit in
    let digits = c.args.digits.now in
    let all = take_all loop.digit-index digits c.loop-digit-test.false in
    (loop.invariant.value ∙ ap (λ xs. digits_value 10 xs) all, loop.invariant.small)
