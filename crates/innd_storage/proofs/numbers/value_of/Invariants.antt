use Rattle.std.proofs.Common.{◌≡◌, ◌<◌, ◌^◌, take}
use Rattle.std.specs.Str.Parse.{digits_value}
use Rattle.innd_storage.proofs.numbers.value_of.Given as goal

abbrev pub invariant-loop-octet : goal.invariant-loop-octet
invariant-loop-octet l = record {
  value : l.number ≡ digits_value l.radix (take l.octet-index l.digits);
  small : l.number < 2 ^ 64;
}
