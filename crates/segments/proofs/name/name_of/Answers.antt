-- Each digit is put before those that are written, and the rest of the number before that.
use Rattle.std.proofs.Common.{◌≡◌, drop, refl, subst, ◌∙◌, arith, length-set}
use Rattle.std.specs.Str.Parse.{AllDigits, digits_value_after}
use Rattle.segments.proofs.Digits.{digits_before, none_left, value_before, written}
use Rattle.segments.proofs.name.name_of.Goals as goal

pub loop-place-init : goal.loop-place-init
loop-place-init c = record { count = refl; digits = tt; value = refl }

pub loop-place-preserved : goal.loop-place-preserved
loop-place-preserved c =
    let loop = c.loop-place in
    let is = written loop.name loop.place _ c.loop-place-test.true (omega (arith, loop.invariant.count)) in
    record {
      count = length-set loop.name _ _ ∙ loop.invariant.count;
      digits = digits_before loop.rest (drop loop.place loop.name) _ loop.invariant.digits is;
      value = value_before loop.rest (drop loop.place loop.name) _ is ∙ loop.invariant.value;
    }

pub returns : goal.returns
returns c =
    let loop = c.loop-place in
    let begin : loop.place ≡ 0 = omega (arith, c.loop-place-test.false) in
    let digits : AllDigits 10 loop.name = subst (λ i. AllDigits 10 (drop i loop.name)) begin loop.invariant.digits in
    let value : digits_value_after 10 loop.rest loop.name ≡ c.args.first =
    subst (λ i. digits_value_after 10 loop.rest (drop i loop.name) ≡ c.args.first) begin loop.invariant.value in
    let none : loop.rest ≡ 0 =
    none_left loop.rest loop.name c.args.first loop.invariant.count c.ranges.first.fits value in
    record {
      digits = record { twenty = loop.invariant.count; digits = digits };
      value = subst (λ n. digits_value_after 10 n loop.name ≡ c.args.first) none value;
    }
