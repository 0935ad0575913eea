-- Texts of numbers in decimal.
use Rattle.std.proofs.Common.{◌≡◌, ◌↔◌, ◌&&◌, ◌<◌, ◌^◌, ◌∙◌, ℕ, Bool, true, false, cond, List, refl, sym, ap, subst}
use Rattle.std.proofs.Common.{arith, rules, Option, Some, None, Result, Ok, Err}
use Rattle.std.proofs.lemmas.Bool.{and_parts, ltb-true}
use Rattle.std.proofs.lemmas.Fmt.{digits_value-decimal}
use Rattle.std.proofs.lemmas.Slice.Eq.{bytes_eq-Decides}
use Rattle.std.proofs.lemmas.Str.Parse.{IsDigitsTest, IsNumeralModel, numerals_by_value}
use Rattle.std.specs.Prelude.{decimal, nat_lt}
use Rattle.std.specs.Char.{is_ascii_digit}
use Rattle.std.specs.List.{list_all}
use Rattle.std.specs.Result.{OkIff, result_ok}
use Rattle.std.specs.Str.{bytes_eq}
use Rattle.std.specs.Str.Parse.{digits_value}
use Rattle.requests.specs.Numbers.{number_in}

tells : IsDigitsTest (λ ds. list_all is_ascii_digit ds ≡ true)
tells = search rules

pub own : IsNumeralModel (λ ds. list_all is_ascii_digit ds ≡ true) (digits_value 10)
own = numerals_by_value (λ ds. list_all is_ascii_digit ds ≡ true) tells

-- a number is read from what is written of it
pub number_is : (n : ℕ) → n < 2 ^ 64 → number_in (decimal n) ≡ Some n
number_is n h =
    let value : digits_value 10 (decimal n) ≡ n = digits_value-decimal own n h in
    let small : nat_lt n (2 ^ 64) ≡ true = search (rules, h) in
    let same : bytes_eq (decimal n) (decimal n) ≡ true = (bytes_eq-Decides (decimal n) (decimal n)).1 refl in
    rw value (rw (small, same) refl)

-- a text from which a number is read is what is written of it
number_by : (text : List ℕ) (n : ℕ) (b : Bool)
    → (nat_lt (digits_value 10 text) (2 ^ 64) && bytes_eq text (decimal (digits_value 10 text))) ≡ b
    → cond b (Some (digits_value 10 text)) None ≡ Some n → (n < 2 ^ 64) × (text ≡ decimal n)
number_by text n true p e =
    let both = and_parts (nat_lt (digits_value 10 text) (2 ^ 64)) (bytes_eq text (decimal (digits_value 10 text))) p in
    let same : digits_value 10 text ≡ n = cc in
    subst (λ m. (m < 2 ^ 64) × (text ≡ decimal m)) same (
      ltb-true (digits_value 10 text) (2 ^ 64) both.0,
      (bytes_eq-Decides text (decimal (digits_value 10 text))).0 both.1,
    )
number_by text n false p e = absurd (cc e)

pub number_text : (text : List ℕ) (n : ℕ) → number_in text ≡ Some n → (n < 2 ^ 64) × (text ≡ decimal n)
number_text text n e =
    number_by text n (nat_lt (digits_value 10 text) (2 ^ 64) && bytes_eq text (decimal (digits_value 10 text))) refl e

-- no number is read from any other
none_by : (text : List ℕ) (o : Option ℕ) → number_in text ≡ o → ((n : ℕ) → n < 2 ^ 64 → text ≡ decimal n → ⊥)
    → None ≡ o
none_by text None e other = refl
none_by text (Some n) e other = let both = number_text text n e in absurd (other n both.0 both.1)

pub number_none : (text : List ℕ) → ((n : ℕ) → n < 2 ^ 64 → text ≡ decimal n → ⊥) → None ≡ number_in text
number_none text other = none_by text (number_in text) refl other

-- a number is read from a text, and is that of a process
pub pid_of : {E : Type 0} (text : List ℕ) (number : ℕ) (r : Result ℕ E) → number_in text ≡ Some number
    → OkIff r (number < 2 ^ 32) number → (pid : ℕ) → (result_ok r ≡ Some pid) ↔ ((pid < 2 ^ 32) × (text ≡ decimal pid))
pid_of text number (Ok x) read h pid = (
  λ e.
      let same : number ≡ pid = cc (e, h.1) in
      subst (λ n. (n < 2 ^ 32) × (text ≡ decimal n)) same (h.0, (number_text text number read).1),
  λ both.
      let again : number_in text ≡ Some pid = ap number_in both.1 ∙ number_is pid (omega (arith, both.0)) in
      cc (again, read, h.1),
)
pid_of text number (Err fault) read h pid = (
  λ e. absurd (cc e),
  λ both.
      let again : number_in text ≡ Some pid = ap number_in both.1 ∙ number_is pid (omega (arith, both.0)) in
      let same : pid ≡ number = cc (again, read) in
      absurd (h (subst (λ n. n < 2 ^ 32) same both.0)),
)

-- no number is read, so no process is named
pub no_pid : (text : List ℕ) → number_in text ≡ None → (pid : ℕ) → pid < 2 ^ 32 → text ≡ decimal pid → ⊥
no_pid text read pid small e =
    let again : number_in text ≡ Some pid = ap number_in e ∙ number_is pid (omega (arith, small)) in
    let clash : None ≡ Some pid = sym read ∙ again in
    cc clash
