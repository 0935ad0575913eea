-- A number that fits into 64 bits is below where the reader stops counting.
use Rattle.std.proofs.Common.{Some, ap, arith, refl}
use Rattle.feed_conf.proofs.value.number.Goals as goal

pub returns-in-Ok : goal.returns-in-Ok
returns-in-Ok c =
    let fits = (c.in-Ok.ensures.ok c.in-Ok.number).0 refl in
    rw fits.0 (ap Some (omega (arith, fits.1, fits.2)))
