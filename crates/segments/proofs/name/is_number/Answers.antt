use Rattle.segments.proofs.Digits.{all_digits}
use Rattle.segments.proofs.name.is_number.Goals as goal

pub returns-then-name-eq-DIGITS : goal.returns-then-name-eq-DIGITS
returns-then-name-eq-DIGITS c =
    let is = all_digits c.args.name.now c.are_digits.result c.are_digits.ensures in
    (λ h. record { twenty = c.if-name-eq-DIGITS.true; digits = is.0 h }, λ h. is.1 h.digits)
