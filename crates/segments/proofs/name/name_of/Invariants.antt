use Rattle.std.proofs.Common.{◌≡◌, length, drop}
use Rattle.std.specs.Str.Parse.{AllDigits, digits_value_after}
use Rattle.segments.proofs.name.name_of.Given as goal

abbrev pub invariant-loop-place : goal.invariant-loop-place
invariant-loop-place l = record {
  count : length l.name ≡ 20;
  digits : AllDigits 10 (drop l.place l.name);
  value : digits_value_after 10 l.rest (drop l.place l.name) ≡ l.fn.first;
}
