-- The notes since: what becomes of a list of notes as more are noted, and as an opening finds only some of them; and
-- which debts they end.
use Rattle.std.proofs.Common.{◌≡◌, ◌⊎◌, ℕ, zero, suc, Bool, true, false, cond, not, List, [], ◌∷◌}
use Rattle.std.proofs.Common.{◌++◌, take, drop, refl, sym, ap, ◌∙◌, subst, inl, inr, arith}
use Rattle.std.proofs.Common.{append_assoc, append-nil, take-append-drop}
use Rattle.std.specs.Prelude.{◌==◌, Contains}
use Rattle.std.specs.Ordering.{match_ordering, nat_cmp}
use Rattle.std.specs.declared.cmp.Ordering.{Ordering}
use Rattle.std.specs.declared.cmp.Ordering.TheVariants.{Less, Equal, Greater}
use Rattle.std.proofs.lemmas.Bool.{cases_eq, eqb-true}
use Rattle.ledger_core.specs.declared.note.Note.{Note}
use Rattle.ledger_core.specs.declared.note.Note.TheVariants.{Owe, Final, Drop, Seen, Closed}
use Rattle.ledger_core.specs.State.{IsOwed, Owing, State, after, keys_in, step, with_debt, without}
use Rattle.recovery.specs.Notes.{History}
use Rattle.world_core.specs.DropLaws.{HasOwe, NotesSince}

-- ---- lists

pub contains_either : {A : Type 0} (xs ys : List A) (x : A) → Contains (xs ++ ys) x → Contains xs x ⊎ Contains ys x
contains_either [] ys x has = inr has
contains_either (y ∷ xs) ys x (zero, below, is) = inl (zero, omega arith, is)
contains_either (y ∷ xs) ys x (suc k, below, is) = elim (contains_either xs ys x (k, omega (arith, below), is)) [
  | inl prefix ↦ inl (suc prefix.0, omega (arith, prefix.1), prefix.2)
  | inr behind ↦ inr behind
]

contains_behind : {A : Type 0} (xs ys : List A) (x : A) → Contains ys x → Contains (xs ++ ys) x
contains_behind [] ys x has = has
contains_behind (y ∷ xs) ys x has =
    let rest = contains_behind xs ys x has in
    (suc rest.0, omega (arith, rest.1), rest.2)

pub contains_prefix : {A : Type 0} (xs ys : List A) (x : A) → Contains xs x → Contains (xs ++ ys) x
contains_prefix [] ys x (k, below, is) = absurd (omega (arith, below))
contains_prefix (y ∷ xs) ys x (zero, below, is) = (zero, omega arith, is)
contains_prefix (y ∷ xs) ys x (suc k, below, is) =
    let rest = contains_prefix xs ys x (k, omega (arith, below), is) in
    (suc rest.0, omega (arith, rest.1), rest.2)

-- one list, cut at two places: the first is a prefix of the second, or the other way round
record Longer {A : Type 0} (one two behind_one behind_two : List A) : Type 0 where
  more : List A
  is : two ≡ one ++ more
  rest : behind_one ≡ more ++ behind_two

cut_twice : {A : Type 0} (a b c d : List A) → a ++ b ≡ c ++ d → Longer a c b d ⊎ Longer c a d b
cut_twice [] b c d is = inl (record { more = c; is = refl; rest = is })
cut_twice (x ∷ a) b [] d is = inr (record { more = x ∷ a; is = refl; rest = sym is })
cut_twice (x ∷ a) b (y ∷ c) d is =
    let same : x ≡ y = cc in
    let others : a ++ b ≡ c ++ d = cc in
    elim (cut_twice a b c d others) [
      | inl l ↦ inl (record {
        more = l.more;
        is = ap (λ z. z ∷ c) (sym same) ∙ ap (λ xs. x ∷ xs) l.is;
        rest = l.rest;
      })
      | inr l ↦ inr (record {
        more = l.more;
        is = ap (λ z. z ∷ a) same ∙ ap (λ xs. y ∷ xs) l.is;
        rest = l.rest;
      })
    ]

same_behind : {A : Type 0} (a b c : List A) → a ++ b ≡ a ++ c → b ≡ c
same_behind [] b c is = is
same_behind (x ∷ a) b c is = let rest : a ++ b ≡ a ++ c = cc in same_behind a b c rest

-- ---- what a list of notes became

-- a note that ends a debt
abbrev pub IsEnd : Note → Type 0
IsEnd (Owe key token id) = ⊥
IsEnd (Final key code) = Unit {0}
IsEnd (Drop key cause) = Unit {0}
IsEnd (Seen number) = ⊥
IsEnd (Closed source) = ⊥

-- A prefix of the notes stands, and more were noted; V holds of each of these that ends a debt.
pub record Since (V : Note → Type 0) (was now : List Note) : Type 0 where
  pub kept : List Note
  pub lost : List Note
  pub more : List Note
  pub was_is : was ≡ kept ++ lost
  pub now_is : now ≡ kept ++ more
  pub each : (note : Note) → Contains more note → IsEnd note → V note

pub since_weaker : (V W : Note → Type 0) (was now : List Note) → ((note : Note) → V note → W note) → Since V was now
    → Since W was now
since_weaker V W was now weaker s = record {
  kept = s.kept;
  lost = s.lost;
  more = s.more;
  was_is = s.was_is;
  now_is = s.now_is;
  each = λ note among end. weaker note (s.each note among end);
}

module _ (V : Note → Type 0) where
  no_note : (note : Note) → Contains [] note → ⊥
  no_note note (k, below, is) = omega (arith, below)

  -- more notes, V holding of each that ends a debt
  pub since_more : (was now more : List Note) → now ≡ was ++ more
      → ((note : Note) → Contains more note → IsEnd note → V note) → Since V was now
  since_more was now more is each = record {
    kept = was;
    lost = [];
    more = more;
    was_is = sym (append-nil was);
    now_is = is;
    each = each;
  }

  pub since_same : (was now : List Note) → now ≡ was → Since V was now
  since_same was now is =
      since_more was now [] (is ∙ sym (append-nil was)) (λ note among end. absurd (no_note note among))

  -- only the first of them stand
  pub since_taken : (count : ℕ) (was now : List Note) → now ≡ take count was → Since V was now
  since_taken count was now is = record {
    kept = take count was;
    lost = drop count was;
    more = [];
    was_is = sym (take-append-drop count was);
    now_is = is ∙ sym (append-nil (take count was));
    each = λ note among end. absurd (no_note note among);
  }

  pub since_then : (was mid now : List Note) → Since V was mid → Since V mid now → Since V was now
  since_then was mid now one two =
      elim (cut_twice one.kept one.more two.kept two.lost (sym one.now_is ∙ two.was_is)) [
        | inl l ↦ record {
          kept = one.kept;
          lost = one.lost;
          more = l.more ++ two.more;
          was_is = one.was_is;
          now_is = two.now_is ∙ ap (λ ns. ns ++ two.more) l.is ∙ append_assoc one.kept l.more two.more;
          each = λ note among end. elim (contains_either l.more two.more note among) [
            | inl first ↦ one.each note (subst (λ (ns : List Note). Contains ns note) (sym l.rest)
                (contains_prefix l.more two.lost note first)) end
            | inr second ↦ two.each note second end
          ];
        }
        | inr l ↦ record {
          kept = two.kept;
          lost = l.more ++ one.lost;
          more = two.more;
          was_is = one.was_is ∙ ap (λ ns. ns ++ one.lost) l.is ∙ append_assoc two.kept l.more one.lost;
          now_is = two.now_is;
          each = two.each;
        }
      ]

  -- if the first of the notes, so many, are a prefix of those there are now, they stand
  pub since_kept : (was now : History) → Since V was.notes now.notes
      → (more : List Note) → now.notes ≡ take was.kept was.notes ++ more
      → (since : NotesSince was now) × ((note : Note) → Contains since.more note → IsEnd note → V note)
  since_kept was now s more is =
      let parts : take was.kept was.notes ++ drop was.kept was.notes ≡ was.notes =
      take-append-drop was.kept was.notes in
      elim (cut_twice (take was.kept was.notes) (drop was.kept was.notes) s.kept s.lost (parts ∙ s.was_is)) [
        | inl l ↦ (
          record {
            kept = s.kept;
            lost = s.lost;
            more = s.more;
            was_is = s.was_is;
            now_is = s.now_is;
            acknowledged = (l.more, l.is);
          },
          s.each,
        )
        | inr l ↦
            let all : s.kept ++ s.more ≡ s.kept ++ (l.more ++ more) =
            sym s.now_is ∙ (is ∙ (ap (λ ns. ns ++ more) l.is ∙ append_assoc s.kept l.more more)) in
            let behind : s.more ≡ l.more ++ more = same_behind s.kept s.more (l.more ++ more) all in (
              record {
                kept = take was.kept was.notes;
                lost = drop was.kept was.notes;
                more = more;
                was_is = sym parts;
                now_is = is;
                acknowledged = ([], sym (append-nil (take was.kept was.notes)));
              },
              λ note among end. s.each note (subst (λ (ns : List Note). Contains ns note) (sym behind)
                  (contains_behind l.more more note among)) end,
            )
      ]

-- ---- what is owed after more notes

-- one of these notes ends the debt of this number
abbrev pub EndsDebt : ℕ → Note → Type 0
EndsDebt number (Owe key token id) = ⊥
EndsDebt number (Final key code) = key ≡ number
EndsDebt number (Drop key cause) = key ≡ number
EndsDebt number (Seen n) = ⊥
EndsDebt number (Closed source) = ⊥

-- a key of the debts stays as another debt is put among them
put_step : (r : Ordering) (key number : ℕ) (v : List ℕ × List ℕ) (e : Owing) (es rest : List Owing)
    → (Contains (keys_in es) number → Contains (keys_in rest) number) → Contains (keys_in (e ∷ es)) number
    → Contains (keys_in (match_ordering r ((key, v) ∷ e ∷ es) ((e.0, v) ∷ es) (e ∷ rest))) number
put_step Less key number v e es rest more has =
    (suc has.0, omega (arith, has.1), has.2)
put_step Equal key number v e es rest more has = has
put_step Greater key number v e es rest more (zero, below, is) = (zero, omega arith, is)
put_step Greater key number v e es rest more (suc k, below, is) =
    let there = more (k, omega (arith, below), is) in
    (suc there.0, omega (arith, there.1), there.2)

key_put : (debts : List Owing) (key number : ℕ) (token id : List ℕ) → Contains (keys_in debts) number
    → Contains (keys_in (with_debt debts key token id)) number
key_put [] key number token id (k, below, is) = absurd (omega (arith, below))
key_put (e ∷ es) key number token id has =
    put_step (nat_cmp key e.0) key number (token, id) e es (with_debt es key token id)
    (key_put es key number token id) has

-- and no other key than its own comes
back_step : (r : Ordering) (key number : ℕ) (v : List ℕ × List ℕ) (e : Owing) (es rest : List Owing)
    → (Contains (keys_in rest) number → (key ≡ number) ⊎ Contains (keys_in es) number)
    → Contains (keys_in (match_ordering r ((key, v) ∷ e ∷ es) ((e.0, v) ∷ es) (e ∷ rest))) number
    → (key ≡ number) ⊎ Contains (keys_in (e ∷ es)) number
back_step Less key number v e es rest more (zero, below, is) = inl is
back_step Less key number v e es rest more (suc k, below, is) = inr (k, omega (arith, below), is)
back_step Equal key number v e es rest more has = inr has
back_step Greater key number v e es rest more (zero, below, is) = inr (zero, omega arith, is)
back_step Greater key number v e es rest more (suc k, below, is) =
    elim (more (k, omega (arith, below), is)) [
      | inl own ↦ inl own
      | inr other ↦ inr (suc other.0, omega (arith, other.1), other.2)
    ]

key_back : (debts : List Owing) (key number : ℕ) (token id : List ℕ)
    → Contains (keys_in (with_debt debts key token id)) number → (key ≡ number) ⊎ Contains (keys_in debts) number
key_back [] key number token id (zero, below, is) = inl is
key_back [] key number token id (suc k, below, is) = absurd (omega (arith, below))
key_back (e ∷ es) key number token id has =
    back_step (nat_cmp key e.0) key number (token, id) e es (with_debt es key token id)
    (key_back es key number token id) has

-- a key stays without the debt of another
stays_step : (b : Bool) (key number : ℕ) (e : Owing) (es rest : List Owing) → (e.0 == key) ≡ b
    → (number ≡ key → ⊥) → (Contains (keys_in es) number → Contains (keys_in rest) number)
    → Contains (keys_in (e ∷ es)) number → Contains (keys_in (cond (not b) (e ∷ rest) rest)) number
stays_step true key number e es rest is apart more (zero, below, at) =
    absurd (apart (sym at ∙ eqb-true e.0 key is))
stays_step true key number e es rest is apart more (suc k, below, at) = more (k, omega (arith, below), at)
stays_step false key number e es rest is apart more (zero, below, at) = (zero, omega arith, at)
stays_step false key number e es rest is apart more (suc k, below, at) =
    let there = more (k, omega (arith, below), at) in
    (suc there.0, omega (arith, there.1), there.2)

key_stays : (debts : List Owing) (key number : ℕ) → (number ≡ key → ⊥) → Contains (keys_in debts) number
    → Contains (keys_in (without key debts)) number
key_stays [] key number apart has = has
key_stays (e ∷ es) key number apart has =
    stays_step (e.0 == key) key number e es (without key es) refl apart (key_stays es key number apart) has

less_step : (b : Bool) (number : ℕ) (e : Owing) (es rest : List Owing)
    → (Contains (keys_in rest) number → Contains (keys_in es) number)
    → Contains (keys_in (cond (not b) (e ∷ rest) rest)) number → Contains (keys_in (e ∷ es)) number
less_step true number e es rest more has =
    let there = more has in
    (suc there.0, omega (arith, there.1), there.2)
less_step false number e es rest more (zero, below, at) = (zero, omega arith, at)
less_step false number e es rest more (suc k, below, at) =
    let there = more (k, omega (arith, below), at) in
    (suc there.0, omega (arith, there.1), there.2)

key_was : (debts : List Owing) (key number : ℕ) → Contains (keys_in (without key debts)) number
    → Contains (keys_in debts) number
key_was [] key number has = has
key_was (e ∷ es) key number has =
    less_step (e.0 == key) number e es (without key es) (key_was es key number) has

-- one of these notes ends the debt
abbrev pub IsEnded : List Note → ℕ → Type 0
IsEnded notes number = (note : Note) × Contains notes note × EndsDebt number note

ended_behind : (X : Type 0) (first : Note) (notes : List Note) (number : ℕ) → X ⊎ IsEnded notes number
    → X ⊎ IsEnded (first ∷ notes) number
ended_behind X first notes number (inl owed) = inl owed
ended_behind X first notes number (inr (note, among, ends)) =
    inr (note, (suc among.0, omega (arith, among.1), among.2), ends)

ended_here : (X : Type 0) (first : Note) (notes : List Note) (number : ℕ) → EndsDebt number first
    → X ⊎ IsEnded (first ∷ notes) number
ended_here X first notes number ends = inr (first, (0, omega arith, refl), ends)

-- a key that is owed still is after these notes, or one of them ends it
pub owed_on : (state : State) (notes : List Note) (number : ℕ) → IsOwed state number
    → IsOwed (after state notes) number ⊎ IsEnded notes number
owed_on state [] number owed = inl owed
owed_on state (Owe key token id ∷ notes) number owed =
    ended_behind _ (Owe key token id) notes number
    (owed_on (step state (Owe key token id)) notes number (key_put state.debts key number token id owed))
owed_on state (Final key code ∷ notes) number owed = elim (cases_eq number key) [
  | inl same ↦ ended_here _ (Final key code) notes number (sym same)
  | inr apart ↦ ended_behind _ (Final key code) notes number
      (owed_on (step state (Final key code)) notes number (key_stays state.debts key number apart owed))
]
owed_on state (Drop key cause ∷ notes) number owed = elim (cases_eq number key) [
  | inl same ↦ ended_here _ (Drop key cause) notes number (sym same)
  | inr apart ↦ ended_behind _ (Drop key cause) notes number
      (owed_on (step state (Drop key cause)) notes number (key_stays state.debts key number apart owed))
]
owed_on state (Seen n ∷ notes) number owed =
    ended_behind _ (Seen n) notes number (owed_on (step state (Seen n)) notes number owed)
owed_on state (Closed source ∷ notes) number owed =
    ended_behind _ (Closed source) notes number (owed_on (step state (Closed source)) notes number owed)

owe_behind : (X : Type 0) (first : Note) (notes : List Note) (number : ℕ) → X ⊎ HasOwe notes number
    → X ⊎ HasOwe (first ∷ notes) number
owe_behind X first notes number (inl owed) = inl owed
owe_behind X first notes number (inr (token, id, among)) =
    inr (token, id, (suc among.0, omega (arith, among.1), among.2))

-- a key that is owed after these notes was owed before, or one of them owes it
pub owed_from : (state : State) (notes : List Note) (number : ℕ) → IsOwed (after state notes) number
    → IsOwed state number ⊎ HasOwe notes number
owed_from state [] number owed = inl owed
owed_from state (Owe key token id ∷ notes) number owed =
    elim (owed_from (step state (Owe key token id)) notes number owed) [
      | inl there ↦ elim (key_back state.debts key number token id there) [
        | inl own ↦ inr (token, id, (0, omega arith, ap (λ (n : ℕ). Owe n token id) own))
        | inr before ↦ inl before
      ]
      | inr (t, i, among) ↦ inr (t, i, (suc among.0, omega (arith, among.1), among.2))
    ]
owed_from state (Final key code ∷ notes) number owed =
    owe_behind _ (Final key code) notes number (by (owed_from (step state (Final key code)) notes number owed))
  where
    by : IsOwed (step state (Final key code)) number ⊎ HasOwe notes number → IsOwed state number ⊎ HasOwe notes number
    by (inl there) = inl (key_was state.debts key number there)
    by (inr owes) = inr owes
owed_from state (Drop key cause ∷ notes) number owed =
    owe_behind _ (Drop key cause) notes number (by (owed_from (step state (Drop key cause)) notes number owed))
  where
    by : IsOwed (step state (Drop key cause)) number ⊎ HasOwe notes number → IsOwed state number ⊎ HasOwe notes number
    by (inl there) = inl (key_was state.debts key number there)
    by (inr owes) = inr owes
owed_from state (Seen n ∷ notes) number owed =
    owe_behind _ (Seen n) notes number (owed_from (step state (Seen n)) notes number owed)
owed_from state (Closed source ∷ notes) number owed =
    owe_behind _ (Closed source) notes number (owed_from (step state (Closed source)) notes number owed)
