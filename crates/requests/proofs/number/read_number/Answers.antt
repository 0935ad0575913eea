use Rattle.std.proofs.Common.{◌≡◌, ◌<◌, ◌^◌, ◌∙◌, true, sym, subst, ap}
use Rattle.std.proofs.lemmas.Fmt.{IsAscii-decimal, parse-decimal}
use Rattle.std.proofs.lemmas.Slice.Eq.{bytes_eq-Decides}
use Rattle.std.proofs.lemmas.Str.{IsUtf8-from_ascii}
use Rattle.std.specs.Prelude.{decimal}
use Rattle.std.specs.Str.{IsUtf8, bytes_eq}
use Rattle.requests.specs.Numbers.{number_in}
use Rattle.requests.proofs.Decimals.{number_is, number_none}
use Rattle.requests.proofs.number.read_number.Goals as goal

pub returns-in_default : goal.returns-in_default
returns-in_default c =
    number_none c.args.text.now
    (λ n small e. c.in_default.ensures.cases.0 (subst IsUtf8 (sym e) (IsUtf8-from_ascii _ (IsAscii-decimal n small))))

pub returns-then-eq : goal.returns-then-eq
returns-then-eq c =
    let number = c.in-Ok-parse.number in
    let same : c.format.result.now ≡ c.in-Ok.digits.now =
    (bytes_eq-Decides c.format.result.now c.in-Ok.digits.now).0 (sym c.if-eq.ensures) in
    let text : c.args.text.now ≡ decimal number = sym c.in-Ok.ensures.cases.0 ∙ sym same ∙ c.format.ensures.text in
    let read = c.in-Ok-parse.ensures.value.0 in
    let small : number < 2 ^ 64 = subst (λ n. n < 2 ^ 64) (sym read.1) read.0.1 in
    sym (ap number_in text ∙ number_is number small)

pub returns-else-eq : goal.returns-else-eq
returns-else-eq c =
    number_none c.args.text.now (λ n small e.
    let digits : c.in-Ok.digits.now ≡ decimal n = c.in-Ok.ensures.cases.0 ∙ e in
    let parsed = parse-decimal 64 n c.in-Ok.digits.now _ small small digits c.parse.ensures.value.0 in
    let number : c.in-Ok-parse.number ≡ n = cc (c.in-Ok-parse.is, parsed) in
    let same : c.format.result.now ≡ c.in-Ok.digits.now = c.format.ensures.text ∙ ap decimal number ∙ sym digits in
    let holds : bytes_eq c.format.result.now c.in-Ok.digits.now ≡ true =
    (bytes_eq-Decides c.format.result.now c.in-Ok.digits.now).1 same in
    cc (c.if-eq.ensures, holds))

pub returns-in-Err : goal.returns-in-Err
returns-in-Err c =
    number_none c.args.text.now (λ n small e.
    let digits : c.in-Ok.digits.now ≡ decimal n = c.in-Ok.ensures.cases.0 ∙ e in
    let parsed = parse-decimal 64 n c.in-Ok.digits.now _ small small digits c.parse.ensures.value.0 in
    cc (c.in-Err.is, parsed))
