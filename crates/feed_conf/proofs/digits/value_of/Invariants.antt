use Rattle.std.proofs.Common.{◌≡◌, ◌<◌, ◌^◌, drop}
use Rattle.feed_conf.specs.Values.{decimal}
use Rattle.feed_conf.proofs.digits.value_of.Given as goal

abbrev pub invariant-loop-digit : goal.invariant-loop-digit
invariant-loop-digit l = record {
  value : decimal l.number (drop l.digit-index l.digits) ≡ decimal 0 l.digits;
  small : l.number < 2 ^ 64;
}
