-- The blocks kept for the commands that are awaited, each of an IHAVE, and what is kept of a list of commands.
use Rattle.std.proofs.Common.{◌≡◌, ℕ, ◌+◌, Bool, true, false, List, [], ◌∷◌, ◌++◌, refl, sym, ap, subst, ◌∙◌, find, Some, None, cond, map, append_assoc}
use Rattle.std.specs.Prelude.{◌==◌, option_map, if◌then◌else◌}
use Rattle.std.specs.Set.{remove_key}
use Rattle.std.proofs.lemmas.Bool.{false≢true}
use Rattle.std.proofs.lemmas.List.{append-nil}
use Rattle.conn_core.specs.Codes.{meaning}
use Rattle.conn_core.specs.Commands.{Ask}
use Rattle.conn_core.specs.Used.{has, left_from, is_empty}
use Rattle.conn_core.specs.State.{kept_for, kept_blocks}
use Rattle.conn_core.specs.Machine.{first_block, let_go}
use Rattle.conn_core.specs.declared.codes.Verb.{Verb}
use Rattle.conn_core.specs.declared.codes.Verb.TheVariants.{Check, Takethis, Ihave, Block}
use Rattle.conn_core.specs.declared.codes.Meaning.TheVariants.{Wanted, SendBlock, Later, Final}
use Rattle.ledger_core.specs.declared.note.FinalCode.TheVariants.{IhaveReceived, TakethisReceived, IhaveRejected, CheckNotWanted, TakethisRejected}

module _ {A B : Type 0} where
  find-map-step : (b : Bool) (f : A → B) (test : B → Bool) (x : A) (xs : List A) → find test (map f xs) ≡ option_map f (find (λ a. test (f a)) xs)
      → cond b (Some (f x)) (find test (map f xs)) ≡ option_map f (cond b (Some x) (find (λ a. test (f a)) xs))
  find-map-step true f test x xs e = refl
  find-map-step false f test x xs e = e

  pub find-map : (f : A → B) (test : B → Bool) (xs : List A) → find test (map f xs) ≡ option_map f (find (λ a. test (f a)) xs)
  find-map f test [] = refl
  find-map f test (x ∷ xs) = find-map-step (test (f x)) f test x xs (find-map f test xs)

  remove-map-step : (b : Bool) (f : A → B) (test : B → Bool) (x : A) (xs : List A) → remove_key test (map f xs) ≡ map f (remove_key (λ a. test (f a)) xs)
      → cond b (map f xs) (f x ∷ remove_key test (map f xs)) ≡ map f (cond b xs (x ∷ remove_key (λ a. test (f a)) xs))
  remove-map-step true f test x xs e = refl
  remove-map-step false f test x xs e = ap (λ ys. f x ∷ ys) e

  pub remove-map : (f : A → B) (test : B → Bool) (xs : List A) → remove_key test (map f xs) ≡ map f (remove_key (λ a. test (f a)) xs)
  remove-map f test [] = refl
  remove-map f test (x ∷ xs) = remove-map-step (test (f x)) f test x xs (remove-map f test xs)

  pub is_empty-map : (f : A → B) (xs : List A) → is_empty (map f xs) ≡ is_empty xs
  is_empty-map f [] = refl
  is_empty-map f (x ∷ xs) = refl

module _ {A : Type 0} where
  none-step : (b : Bool) (test : A → Bool) (x : A) (xs : List A) → cond b (Some x) (find test xs) ≡ None → (find test xs ≡ None → remove_key test xs ≡ xs)
      → cond b xs (x ∷ remove_key test xs) ≡ x ∷ xs
  none-step true test x xs e rest = cc
  none-step false test x xs e rest = ap (λ ys. x ∷ ys) (rest e)

  -- if none passes, none is removed
  pub remove-none : (test : A → Bool) (xs : List A) → find test xs ≡ None → remove_key test xs ≡ xs
  remove-none test [] e = refl
  remove-none test (x ∷ xs) e = none-step (test x) test x xs e (remove-none test xs)

pub kept-append : (xs ys : List Ask) → kept_blocks (xs ++ ys) ≡ kept_blocks xs ++ kept_blocks ys
kept-append [] ys = refl
kept-append (x ∷ xs) ys = ap (λ bs. kept_for x.verb x.block ++ bs) (kept-append xs ys) ∙ sym (append_assoc (kept_for x.verb x.block) (kept_blocks xs) (kept_blocks ys))

-- one more command
pub kept-more : (xs : List Ask) (ask : Ask) → kept_blocks (xs ++ ask ∷ []) ≡ kept_blocks xs ++ kept_for ask.verb ask.block
kept-more xs ask = kept-append xs (ask ∷ []) ∙ ap (λ bs. kept_blocks xs ++ bs) (append-nil (kept_for ask.verb ask.block))

-- its own block is dropped
let_go-own : (v : Verb) (block : List ℕ) (bs : List (List ℕ)) → let_go v (kept_for v block ++ bs) ≡ bs
let_go-own Check block bs = refl
let_go-own Takethis block bs = refl
let_go-own Ihave block bs = refl
let_go-own Block block bs = refl

let_go-later : (v w : Verb) (block : List ℕ) (bs cs : List (List ℕ)) → (v ≡ Ihave → w ≡ Ihave → ⊥) → let_go v bs ≡ cs
    → let_go v (kept_for w block ++ bs) ≡ kept_for w block ++ cs
let_go-later Check w block bs cs apart e = ap (λ ds. kept_for w block ++ ds) e
let_go-later Takethis w block bs cs apart e = ap (λ ds. kept_for w block ++ ds) e
let_go-later Block w block bs cs apart e = ap (λ ds. kept_for w block ++ ds) e
let_go-later Ihave Check block bs cs apart e = e
let_go-later Ihave Takethis block bs cs apart e = e
let_go-later Ihave Block block bs cs apart e = e
let_go-later Ihave Ihave block bs cs apart e = absurd (apart refl refl)

-- the command that passes first is the first IHAVE, if it is one
abbrev pub PassesFirst : (Ask → Bool) → Ask → Type 0
PassesFirst test ask = ask.verb ≡ Ihave → (other : Ask) → other.verb ≡ Ihave → test other ≡ true

removed-step : (b : Bool) (test : Ask → Bool) (x : Ask) (xs : List Ask) (ask : Ask) → test x ≡ b → cond b (Some x) (find test xs) ≡ Some ask → PassesFirst test ask
    → (find test xs ≡ Some ask → let_go ask.verb (kept_blocks xs) ≡ kept_blocks (remove_key test xs))
    → let_go ask.verb (kept_for x.verb x.block ++ kept_blocks xs) ≡ kept_blocks (cond b xs (x ∷ remove_key test xs))
removed-step true test x xs ask t e first rest =
    let same : x ≡ ask = cc in
    subst (λ (y : Ask). let_go ask.verb (kept_for y.verb y.block ++ kept_blocks xs) ≡ kept_blocks xs) (sym same) (let_go-own ask.verb ask.block (kept_blocks xs))
removed-step false test x xs ask t e first rest =
    let_go-later ask.verb x.verb x.block _ _ (λ v w. false≢true (sym t ∙ first v x w)) (rest e)

-- the blocks kept without the command that passes first
pub kept-removed : (test : Ask → Bool) (xs : List Ask) (ask : Ask) → find test xs ≡ Some ask → PassesFirst test ask
    → let_go ask.verb (kept_blocks xs) ≡ kept_blocks (remove_key test xs)
kept-removed test [] ask e first = cc
kept-removed test (x ∷ xs) ask e first = removed-step (test x) test x xs ask refl e first (λ f. kept-removed test xs ask f first)

first-own : (v : Verb) (block : List ℕ) (bs : List (List ℕ)) → v ≡ Ihave → first_block (kept_for v block ++ bs) ≡ block
first-own v block bs e = rw e refl

first-later : (w : Verb) (block : List ℕ) (bs : List (List ℕ)) (r : List ℕ) → (w ≡ Ihave → ⊥) → first_block bs ≡ r → first_block (kept_for w block ++ bs) ≡ r
first-later Check block bs r apart e = e
first-later Takethis block bs r apart e = e
first-later Block block bs r apart e = e
first-later Ihave block bs r apart e = absurd (apart refl)

first-step : (b : Bool) (test : Ask → Bool) (x : Ask) (xs : List Ask) (ask : Ask) → test x ≡ b → cond b (Some x) (find test xs) ≡ Some ask → ask.verb ≡ Ihave → PassesFirst test ask
    → (find test xs ≡ Some ask → first_block (kept_blocks xs) ≡ ask.block)
    → first_block (kept_for x.verb x.block ++ kept_blocks xs) ≡ ask.block
first-step true test x xs ask t e v first rest =
    let same : x ≡ ask = cc in
    subst (λ (y : Ask). first_block (kept_for y.verb y.block ++ kept_blocks xs) ≡ ask.block) (sym same) (first-own ask.verb ask.block (kept_blocks xs) v)
first-step false test x xs ask t e v first rest = first-later x.verb x.block _ _ (λ w. false≢true (sym t ∙ first v x w)) (rest e)

-- the first block kept is that of the IHAVE that passes first
pub kept-first : (test : Ask → Bool) (xs : List Ask) (ask : Ask) → find test xs ≡ Some ask → ask.verb ≡ Ihave → PassesFirst test ask
    → first_block (kept_blocks xs) ≡ ask.block
kept-first test [] ask e v first = cc
kept-first test (x ∷ xs) ask e v first = first-step (test x) test x xs ask refl e v first (λ f. kept-first test xs ask f v first)

-- if no command keeps a block, none is an IHAVE
no_block-head : (v : Verb) (block : List ℕ) (bs : List (List ℕ)) → kept_for v block ++ bs ≡ [] → (bs ≡ []) × (v ≡ Ihave → ⊥)
no_block-head Check block bs e = (e, λ v. cc)
no_block-head Takethis block bs e = (e, λ v. cc)
no_block-head Ihave block bs e = cc
no_block-head Block block bs e = (e, λ v. cc)

no_block-step : (b : Bool) (test : Ask → Bool) (x : Ask) (xs : List Ask) (ask : Ask) → cond b (Some x) (find test xs) ≡ Some ask → (x.verb ≡ Ihave → ⊥)
    → (find test xs ≡ Some ask → ask.verb ≡ Ihave → ⊥) → ask.verb ≡ Ihave → ⊥
no_block-step true test x xs ask e apart rest v = let same : x ≡ ask = cc in apart (ap (λ (y : Ask). y.verb) same ∙ v)
no_block-step false test x xs ask e apart rest v = rest e v

pub no_block-find : (test : Ask → Bool) (xs : List Ask) (ask : Ask) → kept_blocks xs ≡ [] → find test xs ≡ Some ask → ask.verb ≡ Ihave → ⊥
no_block-find test [] ask none e v = cc
no_block-find test (x ∷ xs) ask none e v =
    let p = no_block-head x.verb x.block (kept_blocks xs) none in
    no_block-step (test x) test x xs ask e p.1 (no_block-find test xs ask p.0) v

left-step : (b : Bool) (x : Ask) (left : List Ask) → (x.verb ≡ Ihave → ⊥) → kept_blocks left ≡ [] → kept_blocks (if b then left else x ∷ left) ≡ []
left-step true x left apart e = e
left-step false x left apart e = no-kept x.verb apart ∙ e
  where
    no-kept : (v : Verb) → (v ≡ Ihave → ⊥) → kept_for v x.block ++ kept_blocks left ≡ kept_blocks left
    no-kept Check apart = refl
    no-kept Takethis apart = refl
    no-kept Ihave apart = absurd (apart refl)
    no-kept Block apart = refl

pub no_block-left : (n : ℕ) (xs : List Ask) (used : List ℕ) → kept_blocks xs ≡ [] → kept_blocks (left_from n xs used) ≡ []
no_block-left n [] used e = refl
no_block-left n (x ∷ xs) used e =
    let p = no_block-head x.verb x.block (kept_blocks xs) e in
    left-step (has used n) x _ p.1 (no_block-left (n + 1) xs used p.0)

check-sends : (a b c : Bool) → (if a then Some Wanted else if b then Some Later else if c then Some (Final CheckNotWanted) else None) ≡ Some SendBlock → ⊥
check-sends true b c e = cc
check-sends false true c e = cc
check-sends false false true e = cc
check-sends false false false e = cc

takethis-sends : (a b : Bool) → (if a then Some (Final TakethisReceived) else if b then Some (Final TakethisRejected) else None) ≡ Some SendBlock → ⊥
takethis-sends true b e = cc
takethis-sends false true e = cc
takethis-sends false false e = cc

block-sends : (a b c : Bool) → (if a then Some (Final IhaveReceived) else if b then Some (Final IhaveRejected) else if c then Some Later else None) ≡ Some SendBlock → ⊥
block-sends true b c e = cc
block-sends false true c e = cc
block-sends false false true e = cc
block-sends false false false e = cc

-- only an IHAVE is answered by sending a block
pub sends-ihave : (v : Verb) (code : ℕ) → meaning v code ≡ Some SendBlock → v ≡ Ihave
sends-ihave Check code e = absurd (check-sends (code == 238) (code == 431) (code == 438) e)
sends-ihave Takethis code e = absurd (takethis-sends (code == 239) (code == 439) e)
sends-ihave Ihave code e = refl
sends-ihave Block code e = absurd (block-sends (code == 235) (code == 437) (code == 436) e)
