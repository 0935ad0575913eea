use Rattle.std.proofs.Common.{sym, ◌∙◌}
use Rattle.innd_storage.proofs.Digits.{all_digits}
use Rattle.innd_storage.proofs.numbers.read_number.Goals as goal

pub value_of-requires-clause-digits : goal.value_of-requires-clause-digits
value_of-requires-clause-digits c =
    all_digits c.args.radix c.args.digits.now (sym c.are_digits.ensures ∙ c.if-not-are_digits.false)
