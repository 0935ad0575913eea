-- Commands without an answer, and wants, are about debts held, each about its own: what each step makes of that.
use Rattle.std.proofs.Common.{◌≡◌, ℕ, ◌+◌, ◌≤◌, ◌<◌, Bool, true, false, List, [], ◌∷◌, ◌++◌, refl, sym, ap, subst, ◌∙◌}
use Rattle.std.proofs.Common.{arith, inl, inr}
use Rattle.std.proofs.Common.{find, Option, Some, None, cond, map}
use Rattle.std.specs.Prelude.{◌==◌, ◌&&◌, ◌||◌, if◌then◌else◌, not, option_map}
use Rattle.std.specs.List.{AllByRecursion}
use Rattle.std.specs.Set.{remove_key}
use Rattle.std.proofs.lemmas.Bool.{cases_lt, ne_eqb}
use Rattle.std.proofs.lemmas.Bool.Decides.{eqb_tells}
use Rattle.std.proofs.lemmas.List.{map-append}
use Rattle.reply_reader.specs.Stream.{Given}
use Rattle.ledger_core.specs.State.{Owing}
use Rattle.conn_core.specs.Codes.{belongs, names}
use Rattle.conn_core.specs.Commands.{Ask, Held, Want, fits_ask, is_at, want_of}
use Rattle.conn_core.specs.Machine.{fits_awaited, names_debt}
use Rattle.conn_core.specs.State.{awaited_of}
use Rattle.conn_core.specs.Stands.{AreTied, IsOfDebt, IsWantOfDebt, claims}
use Rattle.conn_core.specs.Used.{first_left, has, left_from, times}
use Rattle.conn_core.specs.HeldLaws.{tickets}
use Rattle.conn_core.specs.UsedLaws.{AllBelow, All-append, All-map, times-append}

module _ {A : Type 0} where
  found-step : (b : Bool) (P : A → Type 0) (x a : A) (first : Option A) → cond b (Some x) first ≡ Some a → P x
      → (first ≡ Some a → P a) → P a
  found-step true P x a first e p rest = let same : x ≡ a = cc in subst P same p
  found-step false P x a first e p rest = rest e

  -- what holds of each item holds of the first that passes
  All-found : (P : A → Type 0) (test : A → Bool) (xs : List A) (a : A) → AllByRecursion P xs → find test xs ≡ Some a
      → P a
  All-found P test [] a all e = cc
  All-found P test (x ∷ xs) a all e = found-step (test x) P x a _ e all.0 (All-found P test xs a all.1)

  kept-step : (b : Bool) (P : A → Type 0) (x : A) (xs others : List A) → P x → AllByRecursion P xs
      → AllByRecursion P others
      → AllByRecursion P (cond b xs (x ∷ others))
  kept-step true P x xs others p all rest = all
  kept-step false P x xs others p all rest = (p, rest)

  -- what holds of each item holds of those that are left
  All-removed : (P : A → Type 0) (test : A → Bool) (xs : List A) → AllByRecursion P xs
      → AllByRecursion P (remove_key test xs)
  All-removed P test [] all = tt
  All-removed P test (x ∷ xs) all = kept-step (test x) P x xs (remove_key test xs) all.0 all.1
      (All-removed P test xs all.1)

  removed-step : (b : Bool) (f : A → ℕ) (x a : A) (xs others : List A) (first : Option A) (t : ℕ)
      → cond b (Some x) first ≡ Some a
      → (first ≡ Some a → times (map f others) t + times (f a ∷ []) t ≡ times (map f xs) t)
      → times (map f (cond b xs (x ∷ others))) t + times (f a ∷ []) t ≡ times (f x ∷ map f xs) t
  removed-step true f x a xs others first t e rest =
      let same : x ≡ a = cc in
      let count : times (f x ∷ []) t ≡ times (f a ∷ []) t = ap (λ y. times (f y ∷ []) t) same in
      omega arith
  removed-step false f x a xs others first t e rest = let less = rest e in omega arith

  -- how often a ticket is there without the first item that passes
  times-removed : (f : A → ℕ) (test : A → Bool) (xs : List A) (a : A) (t : ℕ) → find test xs ≡ Some a
      → times (map f (remove_key test xs)) t + times (f a ∷ []) t ≡ times (map f xs) t
  times-removed f test [] a t e = cc
  times-removed f test (x ∷ xs) a t e = removed-step (test x) f x a xs (remove_key test xs) _ t e
      (times-removed f test xs a t)

  fewer-step : (b : Bool) (f : A → ℕ) (x : A) (xs others : List A) (t : ℕ) → times (map f others) t ≤ times (map f xs) t
      → times (map f (cond b xs (x ∷ others))) t ≤ times (f x ∷ map f xs) t
  fewer-step true f x xs others t few = omega arith
  fewer-step false f x xs others t few = omega arith

  -- and whether or not one passes
  times-fewer : (f : A → ℕ) (test : A → Bool) (xs : List A) (t : ℕ) → times (map f (remove_key test xs)) t ≤ times
      (map f xs) t
  times-fewer f test [] t = omega arith
  times-fewer f test (x ∷ xs) t = fewer-step (test x) f x xs (remove_key test xs) t (times-fewer f test xs t)

  -- one more, at the end
  times-more : (f : A → ℕ) (xs : List A) (x : A) (t : ℕ) → times (map f (xs ++ x ∷ [])) t ≡ times (map f xs) t + times
      (f x ∷ []) t
  times-more f xs x t = ap (λ ts. times ts t) (map-append f xs (x ∷ [])) ∙ times-append (map f xs) (f x ∷ []) t

-- one item is one ticket
times-same : (x t : ℕ) → x ≡ t → times (x ∷ []) t ≡ 1
times-same x t e =
    elim (eqb_tells x t) [
      | inl same ↦ rw same.0 refl
      | inr other ↦ absurd (other.1 e)
    ]

times-other : (x t : ℕ) → (x ≡ t → ⊥) → times (x ∷ []) t ≡ 0
times-other x t other = rw (ne_eqb x t other) refl

times-one : (x t : ℕ) → times (x ∷ []) t ≤ 1
times-one x t =
    elim (eqb_tells x t) [
      | inl same ↦ rw same.0 (omega arith)
      | inr other ↦ rw other.0 (omega arith)
    ]

abbrev id_of : Held → List ℕ
id_of x = x.debt.1.1

abbrev key_in : Held → ℕ
key_in x = x.debt.0

module _ {A : Type 0} (part : Held → A) where
  more-step : (b : Bool) (x : Held) (first more : Option Held) (a : A)
      → option_map part (cond b (Some x) first) ≡ Some a
      → (option_map part first ≡ Some a → option_map part more ≡ Some a)
      → option_map part (cond b (Some x) more) ≡ Some a
  more-step true x first more a e rest = e
  more-step false x first more a e rest = rest e

  -- a debt that is held still is with one more held
  find-more : (k : ℕ) (held later : List Held) (a : A) → option_map part (find (is_at k) held) ≡ Some a
      → option_map part (find (is_at k) (held ++ later)) ≡ Some a
  find-more k [] later a e = cc
  find-more k (x ∷ held) later a e = more-step (x.ticket == k) x _ _ a e (find-more k held later a)

last-step : (b more : Bool) → (b || more) ≡ false → (b ≡ false) × (more ≡ false)
last-step true more e = cc
last-step false more e = (refl, e)

-- and the one more is held
find-last : (n : ℕ) (held : List Held) (x : Held) → x.ticket ≡ n → has (tickets held) n ≡ false
    → find (is_at n) (held ++ x ∷ []) ≡ Some x
find-last n [] x e none = rw e (elim (eqb_tells n n) [ inl same ↦ rw same.0 refl | inr other ↦ absurd (other.1 refl) ])
find-last n (y ∷ held) x e none = let p = last-step (y.ticket == n) (has (tickets held) n) none in
    rw p.0 (find-last n held x e p.1)

other-step : (b : Bool) (k t : ℕ) (x : Held) (held others : List Held) → (x.ticket == t) ≡ b
    → (x.ticket ≡ t → x.ticket ≡ k → ⊥)
    → find (is_at k) others ≡ find (is_at k) held
    → find (is_at k) (cond b held (x ∷ others)) ≡ find (is_at k) (x ∷ held)
other-step true k t x held others e apart same =
    elim (eqb_tells x.ticket t) [
      | inl is ↦ rw (ne_eqb x.ticket k (apart is.1)) refl
      | inr other ↦ (let no : false ≡ true = sym other.0 ∙ e in cc)
    ]
other-step false k t x held others e apart same = ap (λ o. cond (x.ticket == k) (Some x) o) same

-- another debt that is held still is without this one
find-other : (k t : ℕ) (held : List Held) → (k ≡ t → ⊥) → find (is_at k) (remove_key (is_at t) held) ≡ find
    (is_at k) held
find-other k t [] apart = refl
find-other k t (x ∷ held) apart =
    other-step (x.ticket == t) k t x held (remove_key (is_at t) held) refl (λ is at. apart (sym at ∙ is))
    (find-other k t held apart)

none-step : (x t n : ℕ) → times (x ∷ []) t + n ≡ 0 → x ≡ t → ⊥
none-step x t n e same = let one = times-same x t same in absurd (omega arith)

-- commands about other debts than this
named-gone : (t : ℕ) (held : List Held) (asks : List Ask) → AllByRecursion (IsOfDebt held) asks
    → times (map (λ (ask : Ask). ask.ticket) asks) t ≡ 0 → AllByRecursion (IsOfDebt (remove_key (is_at t) held)) asks
named-gone t held [] all none = tt
named-gone t held (ask ∷ asks) all none =
    let apart : ask.ticket ≡ t → ⊥ = none-step ask.ticket t (times (map (λ (ask : Ask). ask.ticket) asks) t)
    (omega arith) in (
      ap (option_map id_of) (find-other ask.ticket t held apart) ∙ all.0,
      named-gone t held asks all.1 (omega arith),
    )

-- wants of other debts than this
numbered-gone : (t : ℕ) (held : List Held) (wants : List Want) → AllByRecursion (IsWantOfDebt held) wants
    → times (map (λ (want : Want). want.ticket) wants) t ≡ 0
    → AllByRecursion (IsWantOfDebt (remove_key (is_at t) held)) wants
numbered-gone t held [] all none = tt
numbered-gone t held (want ∷ wants) all none =
    let apart : want.ticket ≡ t → ⊥ = none-step want.ticket t (times (map (λ (want : Want). want.ticket) wants) t)
    (omega arith) in (
      ap (option_map key_in) (find-other want.ticket t held apart) ∙ all.0,
      numbered-gone t held wants all.1 (omega arith),
    )

abbrev ask_ticket : Ask → ℕ
ask_ticket ask = ask.ticket

abbrev want_ticket : Want → ℕ
want_ticket want = want.ticket

module _ (held : List Held) (asks : List Ask) (wants : List Want) (n : ℕ) (tied : AreTied held asks wants n) where
  -- only debts that were accepted have a command without an answer, or a want
  claimed-below : (t : ℕ) → 1 ≤ claims asks wants t → t < n
  claimed-below t some =
      elim (cases_lt t n) [ inl low ↦ low | inr high ↦ (let none = tied.below t high in absurd (omega arith)) ]

  -- a debt is accepted
  pub tied-accepted : (debt : Owing) → AreTied (held ++ record { ticket = n; debt = debt } ∷ []) asks wants (n + 1)
  tied-accepted debt = record {
    named = All-map (IsOfDebt held) (IsOfDebt (held ++ record { ticket = n; debt = debt } ∷ []))
        (λ ask e. find-more id_of ask.ticket held _ ask.id e) asks tied.named;
    numbered = All-map (IsWantOfDebt held) (IsWantOfDebt (held ++ record { ticket = n; debt = debt } ∷ []))
        (λ want e. find-more key_in want.ticket held _ want.key e) wants tied.numbered;
    once = tied.once;
    below = λ t high. tied.below t (omega arith);
  }

  -- a command goes out for a debt that has neither a command without an answer nor a want
  pub tied-asked : (ask : Ask) → IsOfDebt held ask → claims asks wants ask.ticket ≡ 0 → ask.ticket < n
      → AreTied held (asks ++ ask ∷ []) wants n
  tied-asked ask own free low = record {
    named = All-append (IsOfDebt held) asks (ask ∷ []) tied.named (own, tt);
    numbered = tied.numbered;
    once = λ t.
        let more = times-more ask_ticket asks ask t in
        elim (eqb_tells ask.ticket t) as (λ _. claims (asks ++ ask ∷ []) wants t ≤ 1) [
          | inl same ↦ (let none : claims asks wants t ≡ 0 = subst (λ k. claims asks wants k ≡ 0) same.1 free in
              let one = times-one ask.ticket t in omega arith)
          | inr other ↦ (let no = times-other ask.ticket t other.1 in let once = tied.once t in omega arith)
        ];
    below = λ t high.
        let more = times-more ask_ticket asks ask t in
        let none = tied.below t high in
        let no = times-other ask.ticket t (λ e. omega arith) in
        omega arith;
  }

  -- the article of such a debt is wanted
  pub tied-wanted : (want : Want) → IsWantOfDebt held want → claims asks wants want.ticket ≡ 0 → want.ticket < n
      → AreTied held asks (wants ++ want ∷ []) n
  tied-wanted want own free low = record {
    named = tied.named;
    numbered = All-append (IsWantOfDebt held) wants (want ∷ []) tied.numbered (own, tt);
    once = λ t.
        let more = times-more want_ticket wants want t in
        elim (eqb_tells want.ticket t) as (λ _. claims asks (wants ++ want ∷ []) t ≤ 1) [
          | inl same ↦ (let none : claims asks wants t ≡ 0 = subst (λ k. claims asks wants k ≡ 0) same.1 free in
              let one = times-one want.ticket t in omega arith)
          | inr other ↦ (let no = times-other want.ticket t other.1 in let once = tied.once t in omega arith)
        ];
    below = λ t high.
        let more = times-more want_ticket wants want t in
        let none = tied.below t high in
        let no = times-other want.ticket t (λ e. omega arith) in
        omega arith;
  }

  -- such a debt comes out
  pub tied-ended : (t : ℕ) → claims asks wants t ≡ 0 → AreTied (remove_key (is_at t) held) asks wants n
  tied-ended t free = record {
    named = named-gone t held asks tied.named (omega arith);
    numbered = numbered-gone t held wants tied.numbered (omega arith);
    once = tied.once;
    below =
        tied.below;
  }

  -- the first want that passes is met, if there is one
  pub tied-met : (test : Want → Bool) → AreTied held asks (remove_key test wants) n
  tied-met test = record {
    named = tied.named;
    numbered = All-removed (IsWantOfDebt held) test wants tied.numbered;
    once = λ t. let few = times-fewer want_ticket test wants t in let once = tied.once t in omega arith;
    below = λ t high. let few = times-fewer want_ticket test wants t in let none = tied.below t high in omega arith;
  }

  -- and then its debt has neither
  pub met-free : (test : Want → Bool) (want : Want) → find test wants ≡ Some want
      → (claims asks (remove_key test wants) want.ticket ≡ 0) × (want.ticket < n)
  met-free test want e =
      let less = times-removed want_ticket test wants want want.ticket e in
      let one = times-same want.ticket want.ticket refl in
      let once = tied.once want.ticket in
      (omega arith, claimed-below want.ticket (omega arith))

  -- the first command that passes is answered, if there is one
  pub tied-answered : (test : Ask → Bool) → AreTied held (remove_key test asks) wants n
  tied-answered test = record {
    named = All-removed (IsOfDebt held) test asks tied.named;
    numbered = tied.numbered;
    once = λ t. let few = times-fewer ask_ticket test asks t in let once = tied.once t in omega arith;
    below = λ t high. let few = times-fewer ask_ticket test asks t in let none = tied.below t high in omega arith;
  }

  -- and then its debt has neither
  pub answered-free : (test : Ask → Bool) (ask : Ask) → find test asks ≡ Some ask
      → (claims (remove_key test asks) wants ask.ticket ≡ 0) × (ask.ticket < n) × IsOfDebt held ask
  answered-free test ask e =
      let less = times-removed ask_ticket test asks ask ask.ticket e in
      let one = times-same ask.ticket ask.ticket refl in
      let once = tied.once ask.ticket in
      (omega arith, claimed-below ask.ticket (omega arith), All-found (IsOfDebt held) test asks ask tied.named e)

names-step : (named : Option (List ℕ)) (o : Option Held) (id : List ℕ) → option_map id_of o ≡ Some id
    → names_debt named o ≡ names named id
names-step named None id e = cc
names-step named (Some x) id e = let same : id_of x ≡ id = cc in ap (names named) same

-- a reply that fits a command by the id of its debt fits it by its own
fits-same : (held : List Held) (reply : Given) (ask : Ask) → IsOfDebt held ask
    → fits_awaited held reply (awaited_of ask) ≡ fits_ask reply ask
fits-same held reply ask own = ap (λ b. belongs reply ask.verb && b)
    (names-step reply.id (find (is_at ask.ticket) held) ask.id own)

and-false : (b : Bool) → (b && false) ≡ false
and-false true = refl
and-false false = refl

module _ {A : Type 0} (f g : A → Bool) where
  first-step : (b : Bool) (n : ℕ) (x : A) (left : List A) (p q : Option (ℕ × A)) → AllByRecursion (λ y. f y ≡ g y)
      (if b then left else x ∷ left)
      → (AllByRecursion (λ y. f y ≡ g y) left → p ≡ q)
      → (if f x && not b then Some (n, x) else p) ≡ (if g x && not b then Some (n, x) else q)
  first-step true n x left p q all rest = rw (and-false (f x), and-false (g x)) (rest all)
  first-step false n x left p q all rest =
      rw all.0 (ap (λ (o : Option (ℕ × A)). if g x && true then Some (n, x) else o) (rest all.1))

  first-same : (used : List ℕ) (n : ℕ) (xs : List A) → AllByRecursion (λ y. f y ≡ g y) (left_from n xs used)
      → first_left f used n xs ≡ first_left g used n xs
  first-same used n [] all = refl
  first-same used n (x ∷ xs) all = first-step (has used n) n x (left_from (n + 1) xs used) _ _ all
      (first-same used (n + 1) xs)

-- so it answers the same command
pub answers-same : (held : List Held) (reply : Given) (used : List ℕ) (asks : List Ask)
    → AllByRecursion (IsOfDebt held) (left_from 0 asks used)
    → first_left (λ ask. fits_awaited held reply (awaited_of ask)) used 0 asks ≡ first_left (fits_ask reply) used 0 asks
answers-same held reply used asks all =
    first-same (λ ask. fits_awaited held reply (awaited_of ask)) (fits_ask reply) used 0 asks
    (All-map (IsOfDebt held) (λ ask. fits_awaited held reply (awaited_of ask) ≡ fits_ask reply ask)
    (fits-same held reply) (left_from 0 asks used) all)

-- a debt that is accepted is held
pub accepted-own : (held : List Held) (x : Held) → AllBelow (tickets held) x.ticket
    → option_map id_of (find (is_at x.ticket) (held ++ x ∷ [])) ≡ Some x.debt.1.1
accepted-own held x below = ap (option_map id_of) (find-last x.ticket held x refl (below x.ticket (omega arith)))

-- and it is the debt that its own want is about
pub accepted-want : (held : List Held) (x : Held) → AllBelow (tickets held) x.ticket
    → IsWantOfDebt (held ++ x ∷ []) (want_of x)
accepted-want held x below = ap (option_map key_in) (find-last x.ticket held x refl (below x.ticket (omega arith)))
