-- The number so far is what the first digits write; if it grows too large, what all write is too large.
use Rattle.std.proofs.Common.{arith, ap, ◌+◌, ◌*◌, ◌∙◌}
use Rattle.std.proofs.lemmas.List.{take_all}
use Rattle.std.specs.Str.Parse.{digits_value}
use Rattle.innd_storage.proofs.Digits.{digit_at, too_large, value_more}
use Rattle.innd_storage.proofs.numbers.value_of.Goals as goal

pub digit_of-requires-clause-digit : goal.digit_of-requires-clause-digit
digit_of-requires-clause-digit c =
    digit_at c.args.radix c.args.digits.now c.loop-octet.octet-index c.requires.digits c.loop-octet-test.true

pub returns-in_err-number : goal.returns-in_err-number
returns-in_err-number c =
    let loop = c.loop-octet in
    let digits = c.args.digits.now in
    rw c.from_residual.ensures (too_large c.args.radix digits loop.octet-index loop.number (omega arith)
    c.loop-octet-test.true loop.invariant.value (omega (arith, c.in_err-number.ensures, c.digit_of.ensures)))

pub loop-octet-preserved : goal.loop-octet-preserved
loop-octet-preserved c =
    let loop = c.loop-octet in
    let digits = c.args.digits.now in
    let more =
    value_more c.args.radix digits loop.octet-index loop.number c.loop-octet-test.true loop.invariant.value in
    record {
      value = omega (arith, more, c.in_ok-number.ensures, c.digit_of.ensures);
      small = omega (arith, c.in_ok-number.ensures);
    }
