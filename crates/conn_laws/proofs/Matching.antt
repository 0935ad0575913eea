-- A reply that comes in a mode answers the first open command that it fits, and is a stray if it fits none.
use Rattle.std.proofs.Common.{◌≡◌, ℕ, suc, zero, ◌+◌, ◌<◌, Bool, true, false, List, [], ◌∷◌, refl, sym, ◌∙◌, arith}
use Rattle.std.proofs.Common.{Option, Some, None}
use Rattle.std.specs.Prelude.{◌↔◌, ◌&&◌, if◌then◌else◌, not, slice_get}
use Rattle.std.proofs.lemmas.Bool.{false≢true}
use Rattle.reply_reader.specs.Stream.{Given}
use Rattle.conn_core.specs.Codes.{stray}
use Rattle.conn_core.specs.Used.{first_left, has}
use Rattle.conn_core.specs.Commands.{Ask}
use Rattle.conn_core.specs.History.{Event, Came, answered, answered_ask, answered_now, asks, closes, closes_in, is_mode}
use Rattle.conn_core.specs.History.{is_streaming, phase}
use Rattle.conn_core.specs.declared.options.Options.{Options}
use Rattle.conn_core.specs.declared.phase.Phase.{Phase}
use Rattle.conn_core.specs.declared.phase.Phase.TheVariants.{Greeting, Asking, Streaming, OneByOne, Leaving}
use Rattle.conn_laws.specs.Laws.{FitsNoneOpen, IsFirstOpen, fits_in}
use Rattle.conn_laws.proofs.Right.{answer_is_first}

module _ {A : Type 0} where
  here-step : (t b : Bool) (n m : ℕ) (x a : A) (rest : Option (ℕ × A)) → t ≡ true → b ≡ false → n ≡ m → x ≡ a
      → (if t && not b then Some (n, x) else rest) ≡ Some (m, a)
  here-step t b n m x a rest et eb en ex = rw (et, eb, en, ex) refl

  later-step : (t b : Bool) (n : ℕ) (x : A) (rest target : Option (ℕ × A)) → (t ≡ true → b ≡ true) → rest ≡ target
      → (if t && not b then Some (n, x) else rest) ≡ target
  later-step true b n x rest target gone e = rw (gone refl) e
  later-step false b n x rest target gone e = e

  -- the first item that passes and is not used up is the one that is found
  pub first_left-from : (test : A → Bool) (used : List ℕ) (n : ℕ) (xs : List A) (k : ℕ) (a : A)
      → slice_get xs k ≡ Some a → test a ≡ true → has used (n + k) ≡ false
      → ((j : ℕ) (y : A) → j < k → slice_get xs j ≡ Some y → test y ≡ true → has used (n + j) ≡ true)
      → first_left test used n xs ≡ Some (n + k, a)
  first_left-from test used n [] k a e good fresh gone = cc
  first_left-from test used n (x ∷ xs) zero a e good fresh gone =
      let same : x ≡ a = cc in
      let here : n + 0 ≡ n = omega arith in
      let free : has used n ≡ false = rw here at fresh in
      here-step (test x) (has used n) n (n + 0) x a _ (rw same good) free (sym here) same
  first_left-from test used n (x ∷ xs) (suc k) a e good fresh gone =
      let there : n + 1 + k ≡ n + suc k = omega arith in
      let here : n + 0 ≡ n = omega arith in
      let found : first_left test used (n + 1) xs ≡ Some (n + 1 + k, a) =
      first_left-from test used (n + 1) xs k a e good (rw there fresh)
      (λ j y q f g. let z : n + 1 + j ≡ n + suc j = omega arith in rw z (gone (suc j) y (omega arith) f g))
      in
      later-step (test x) (has used n) n x _ _
      (λ g. let u : has used (n + 0) ≡ true = gone 0 x (omega arith) refl g in rw here at u) (rw there at found)

  none-step : (t b : Bool) (n : ℕ) (x : A) (rest : Option (ℕ × A))
      → (if t && not b then Some (n, x) else rest) ≡ None → (t ≡ true → b ≡ true) × (rest ≡ None)
  none-step true true n x rest e = (λ _. refl, e)
  none-step true false n x rest e = cc
  none-step false b n x rest e = (λ f. absurd (false≢true f), e)

  -- if none is found, each item that passes is used up
  pub first_left-none : (test : A → Bool) (used : List ℕ) (n : ℕ) (xs : List A) → first_left test used n xs ≡ None
      → (k : ℕ) (y : A) → slice_get xs k ≡ Some y → test y ≡ true → has used (n + k) ≡ true
  first_left-none test used n [] e k y f good = cc
  first_left-none test used n (x ∷ xs) e zero y f good =
      let same : x ≡ y = cc in
      let here : n + 0 ≡ n = omega arith in
      rw here ((none-step (test x) (has used n) n x _ e).0 (rw same good))
  first_left-none test used n (x ∷ xs) e (suc k) y f good =
      let there : n + 1 + k ≡ n + suc k = omega arith in
      let rest : has used (n + 1 + k) ≡ true =
      first_left-none test used (n + 1) xs (none-step (test x) (has used n) n x _ e).1 k y f good in
      rw there at rest

  -- the converse
  pub first_left-all : (test : A → Bool) (used : List ℕ) (n : ℕ) (xs : List A)
      → ((k : ℕ) (y : A) → slice_get xs k ≡ Some y → test y ≡ true → has used (n + k) ≡ true)
      → first_left test used n xs ≡ None
  first_left-all test used n [] all = refl
  first_left-all test used n (x ∷ xs) all =
      let here : n + 0 ≡ n = omega arith in
      later-step (test x) (has used n) n x _ None
      (λ g. let u : has used (n + 0) ≡ true = all 0 x refl g in rw here at u)
      (first_left-all test used (n + 1) xs
      (λ k y f g. let z : n + 1 + k ≡ n + suc k = omega arith in rw z (all (suc k) y f g)))

-- in a mode the command answered is the first that the reply fits
in-mode : (p : Phase) (reply : Given) (done : List ℕ) (sent : List Ask) → is_mode p ≡ true
    → answered_now p reply done sent ≡ first_left (fits_in (is_streaming p) reply) done 0 sent
in-mode Greeting reply done sent m = cc
in-mode Asking reply done sent m = cc
in-mode Streaming reply done sent m = refl
in-mode OneByOne reply done sent m = refl
in-mode Leaving reply done sent m = cc

pub first_is_answered : (options : Options) (h : List Event) (reply : Given) (command : ℕ × Ask)
    → IsFirstOpen options h reply command → answered_ask options h reply ≡ Some command
first_is_answered options h reply command f =
    let zero_on : 0 + command.0 ≡ command.0 = omega arith in
    let found : first_left (fits_in (is_streaming (phase options h)) reply) (answered options h) 0 (asks h) ≡ Some
    (0 + command.0, command.1) =
    first_left-from (fits_in (is_streaming (phase options h)) reply) (answered options h) 0
    (asks h) command.0 command.1 f.is_command f.fit (rw zero_on f.unanswered)
    (λ j y q e g. let z : 0 + j ≡ j = omega arith in rw z (f.no_earlier j y q e g))
    in
    in-mode (phase options h) reply (answered options h) (asks h) f.mode ∙ (rw zero_on at found)

pub answers_first : (options : Options) (h : List Event) (reply : Given) (command : ℕ × Ask)
    → answered_ask options h reply ≡ Some command ↔ IsFirstOpen options h reply command
answers_first options h reply command =
    (answer_is_first options h reply command, first_is_answered options h reply command)

stray-to : (p : Phase) (o : Option (ℕ × Ask)) (code : ℕ) → is_mode p ≡ true → o ≡ None
    → closes_in p o code ≡ Some (stray code)
stray-to Greeting o code m e = cc
stray-to Asking o code m e = cc
stray-to Streaming None code m e = refl
stray-to Streaming (Some command) code m e = cc
stray-to OneByOne None code m e = refl
stray-to OneByOne (Some command) code m e = cc
stray-to Leaving o code m e = cc

stray-from : (p : Phase) (o : Option (ℕ × Ask)) (code : ℕ) → is_mode p ≡ true
    → closes_in p o code ≡ Some (stray code) → o ≡ None
stray-from Greeting o code m e = cc
stray-from Asking o code m e = cc
stray-from Streaming None code m e = refl
stray-from Streaming (Some command) code m e = cc
stray-from OneByOne None code m e = refl
stray-from OneByOne (Some command) code m e = cc
stray-from Leaving o code m e = cc

pub strays_fit_none : (options : Options) (h : List Event) (reply : Given) → is_mode (phase options h) ≡ true
    → FitsNoneOpen options h reply ↔ closes options h (Came reply) ≡ Some (stray reply.code)
strays_fit_none options h reply m =
    let same = in-mode (phase options h) reply (answered options h) (asks h) m in (
      λ none. stray-to (phase options h) (answered_ask options h reply) reply.code m
          (same ∙ first_left-all (fits_in (is_streaming (phase options h)) reply) (answered options h) 0 (asks h)
          (λ k y e g. let z : 0 + k ≡ k = omega arith in rw z (none k y e g))),
      λ shut k y e g.
          let gone : has (answered options h) (0 + k) ≡ true =
          first_left-none (fits_in (is_streaming (phase options h)) reply) (answered options h) 0 (asks h)
          (sym same ∙ stray-from (phase options h) (answered_ask options h reply) reply.code m shut) k y e g
          in
          let z : 0 + k ≡ k = omega arith in
          rw z at gone,
    )
