-- Sums over a list some of whose items are used up, and over the commands and the wants of a transcript.
use Rattle.std.proofs.Common.{◌≡◌, ℕ, ◌+◌, ◌≤◌, Bool, true, false, List, [], ◌∷◌, ◌++◌, length, refl, sym, ap, subst}
use Rattle.std.proofs.Common.{◌∙◌, arith, find, Option, Some, None, cond, map}
use Rattle.std.specs.Prelude.{◌==◌, ◌&&◌, if◌then◌else◌, option_map}
use Rattle.std.specs.Set.{remove_key}
use Rattle.reply_reader.specs.Stream.{Given}
use Rattle.conn_core.specs.Used.{first_left, left_from, times, with_ticket}
use Rattle.conn_core.specs.Commands.{Ask, Asks, Handing, Want, is_of}
use Rattle.conn_core.specs.History.{Event, Came, Handed, Put, answered, answered_ask, asks, first_want, is_streaming}
use Rattle.conn_core.specs.History.{phase, story, wanted, window}
use Rattle.conn_laws.specs.Laws.{fits_in, times_asked}
use Rattle.conn_core.specs.declared.codes.Verb.{Verb}
use Rattle.conn_core.specs.declared.options.Options.{Options}
use Rattle.conn_core.specs.UsedLaws.{AllBelow, find-left_from, left_from-append, left_from-used}
use Rattle.conn_core.specs.StoryLaws.{answered_below, handed_below}
use Rattle.conn_laws.proofs.Right.{answer_in}

module _ {A : Type 0} where
  -- the sum of what each item counts
  abbrev pub tally : (A → ℕ) → List A → ℕ
  tally f [] = 0
  tally f (x ∷ xs) = f x + tally f xs

  pub tally-append : (f : A → ℕ) (xs ys : List A) → tally f (xs ++ ys) ≡ tally f xs + tally f ys
  tally-append f [] ys = omega arith
  tally-append f (x ∷ xs) ys = omega (arith, tally-append f xs ys)

  pub tally-least : (f g : A → ℕ) → ((x : A) → f x ≤ g x) → (xs : List A) → tally f xs ≤ tally g xs
  tally-least f g less [] = omega arith
  tally-least f g less (x ∷ xs) = omega (arith, less x, tally-least f g less xs)

  removed-step : (b : Bool) (f : A → ℕ) (x a : A) (first : Option A) (left others : List A) → cond b (Some x) first ≡ Some a
      → (first ≡ Some a → tally f others + f a ≡ tally f left) → tally f (cond b left (x ∷ others)) + f a ≡ f x + tally f left
  removed-step true f x a first left others e rest = let same : x ≡ a = cc in let counts : f x ≡ f a = ap f same in omega arith
  removed-step false f x a first left others e rest = let less = rest e in omega arith

  -- without the first that passes
  tally-removed : (f : A → ℕ) (test : A → Bool) (xs : List A) (a : A) → find test xs ≡ Some a → tally f (remove_key test xs) + f a ≡ tally f xs
  tally-removed f test [] a e = cc
  tally-removed f test (x ∷ xs) a e = removed-step (test x) f x a _ xs (remove_key test xs) e (tally-removed f test xs a)

  -- one more ticket is used up
  pub tally-used : (f : A → ℕ) (test : A → Bool) (used : List ℕ) (xs : List A) (i : ℕ) (a : A) → first_left test used 0 xs ≡ Some (i, a)
      → tally f (left_from 0 xs (i ∷ used)) + f a ≡ tally f (left_from 0 xs used)
  tally-used f test used xs i a e =
      let at : find test (left_from 0 xs used) ≡ Some a = find-left_from test used 0 xs ∙ ap (λ (o : Option (ℕ × A)). option_map (λ (x : ℕ × A). x.1) o) e in
      subst (λ left. tally f left + f a ≡ tally f (left_from 0 xs used)) (sym (left_from-used test used 0 xs i a e)) (tally-removed f test (left_from 0 xs used) a at)

  -- one more item is left
  pub tally-more : (f : A → ℕ) (used : List ℕ) (xs : List A) (x : A) → AllBelow used (length xs)
      → tally f (left_from 0 (xs ++ x ∷ []) used) ≡ tally f (left_from 0 xs used) + f x
  tally-more f used xs x below =
      let grown = ap (tally f) (left_from-append used 0 xs x (λ k q. below k (omega arith))) in
      let parts = tally-append f (left_from 0 xs used) (x ∷ []) in
      omega arith

  pub times-tally : (ticket : A → ℕ) (xs : List A) (p : ℕ) → times (map ticket xs) p ≡ tally (λ x. if ticket x == p then 1 else 0) xs
  times-tally ticket [] p = refl
  times-tally ticket (x ∷ xs) p = ap (λ n. (if ticket x == p then 1 else 0) + n) (times-tally ticket xs p)

-- 1 for a command about the debt at a ticket with such a verb
abbrev pub asked : (Verb → Bool) → ℕ → Ask → ℕ
asked test p ask = if test ask.verb && ask.ticket == p then 1 else 0

pub asked-tally : (test : Verb → Bool) (p : ℕ) (xs : List Ask) → times_asked test p xs ≡ tally (asked test p) xs
asked-tally test p [] = refl
asked-tally test p (x ∷ xs) = ap (λ n. asked test p x + n) (asked-tally test p xs)

-- a command goes out
pub asks-put : (f : Ask → ℕ) (g : List Event) (ask : Ask) → tally f (asks (Put (Asks ask) ∷ g)) ≡ tally f (asks g) + f ask
asks-put f g ask = let parts = tally-append f (asks g) (ask ∷ []) in omega arith

pub window-put : (options : Options) (f : Ask → ℕ) (g : List Event) (ask : Ask)
    → tally f (window options (Put (Asks ask) ∷ g)) ≡ tally f (window options g) + f ask
window-put options f g ask = tally-more f (answered options g) (asks g) ask (answered_below options g)

-- a command has an answer
pub window-came : (options : Options) (f : Ask → ℕ) (h : List Event) (reply : Given) (command : ℕ × Ask) → answered_ask options h reply ≡ Some command
    → tally f (window options (Came reply ∷ h)) + f command.1 ≡ tally f (window options h)
window-came options f h reply command e =
    subst (λ (o : Option (ℕ × Ask)). tally f (left_from 0 (asks h) (with_ticket o (answered options h))) + f command.1 ≡ tally f (window options h)) (sym e)
    (tally-used f (fits_in (is_streaming (phase options h)) reply) (answered options h) (asks h) command.0 command.1
    (answer_in (phase options h) reply (answered options h) (asks h) command e))

pub window-none : (options : Options) (h : List Event) (reply : Given) → answered_ask options h reply ≡ None → window options (Came reply ∷ h) ≡ window options h
window-none options h reply e = ap (λ (o : Option (ℕ × Ask)). left_from 0 (asks h) (with_ticket o (answered options h))) e

-- an article is wanted
pub wanted-more : (options : Options) (f : Want → ℕ) (h : List Event) (want : Want)
    → tally f (left_from 0 ((story options h).wants ++ want ∷ []) (story options h).handed) ≡ tally f (wanted options h) + f want
wanted-more options f h want = tally-more f (story options h).handed (story options h).wants want (handed_below options h)

-- and is handed in
pub wanted-handed : (options : Options) (f : Want → ℕ) (h : List Event) (number : ℕ) (handing : Handing) (want : ℕ × Want) → first_want (story options h) number ≡ Some want
    → tally f (wanted options (Handed number handing ∷ h)) + f want.1 ≡ tally f (wanted options h)
unfolding story
wanted-handed options f h number handing want e =
    subst (λ (o : Option (ℕ × Want)). tally f (left_from 0 (story options h).wants (with_ticket o (story options h).handed)) + f want.1 ≡ tally f (wanted options h)) (sym e)
    (tally-used f (is_of number) (story options h).handed (story options h).wants want.0 want.1 e)

pub wanted-none : (options : Options) (h : List Event) (number : ℕ) (handing : Handing) → first_want (story options h) number ≡ None
    → wanted options (Handed number handing ∷ h) ≡ wanted options h
unfolding story
wanted-none options h number handing e =
    ap (λ (o : Option (ℕ × Want)). left_from 0 (story options h).wants (with_ticket o (story options h).handed)) e
