-- A number that was read fits into 64 bits.
use Rattle.std.proofs.Common.{◌≡◌, ◌∙◌, ◌<◌, ◌^◌, ℕ, Some, ap, arith, refl, sym}
use Rattle.std.proofs.lemmas.Bool.Decides.{nat_tests}
use Rattle.feed_conf.specs.Values.{decimal}
use Rattle.drill_script.specs.Numbers.{within_u64}
use Rattle.drill_script.proofs.numbers.read_number.Goals as goal

within : (number : ℕ) → number < 2 ^ 64 → within_u64 number ≡ Some number
within number small = grind (arith, nat_tests)

pub returns-in-Ok : goal.returns-in-Ok
returns-in-Ok c =
    let fits = (c.in-Ok.ensures.ok c.in-Ok.number).0 refl in
    let whole = decimal 0 c.args.octets.now in
    rw fits.0 (ap Some (sym fits.1) ∙ sym (within whole (omega (arith, fits.1, fits.2))))
