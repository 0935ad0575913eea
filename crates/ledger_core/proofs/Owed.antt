-- The debts after a Base, from one to the next.
use Rattle.std.proofs.Common.{suc, ◌≡◌, ℕ, ◌+◌, ◌<◌, ◌≤◌, List, [], ◌∷◌, ◌++◌, length, get_or}
use Rattle.std.proofs.Common.{inl, inr, refl, sym, ap, ◌∙◌, subst, arith, length-take}
use Rattle.std.proofs.lemmas.Bool.{cases_lt}
use Rattle.std.proofs.lemmas.List.{get_or_append_left, get_or_push, length_push, length-map}
use Rattle.std.proofs.lemmas.List.{map_push, take_all, take-append-le}
use Rattle.std.proofs.lemmas.List.{get_or_default}
use Rattle.std.proofs.lemmas.List.Elements.{All-push}
use Rattle.std.proofs.lemmas.Map.Keys.{below_from_sorted, sorted_from_strictly_increasing}
use Rattle.std.specs.List.{All, Contains}
use Rattle.std.specs.List.Sorted.{IsStrictlyIncreasing}
use Rattle.ledger_core.specs.declared.base.Base.{Base}
use Rattle.ledger_core.specs.Base.{AreDebts, DebtsEnd, HasDebts, IsSound}
use Rattle.ledger_core.specs.Base.{based_on, marks_in, owe, owes}
use Rattle.ledger_core.specs.declared.marks.Marks.{Marks}
use Rattle.ledger_core.specs.BaseLaws.{length-owes}
use Rattle.ledger_core.specs.Keys.{number_of}
use Rattle.ledger_core.specs.KeyLaws.{key-is}
use Rattle.ledger_core.specs.Note.{AreNotes}
use Rattle.ledger_core.specs.Owing.{IsFurther, OwesAll, SpellsNoFurther, TakesDebt, last_key, owing_more}
use Rattle.ledger_core.specs.Owing.{owing_state}
use Rattle.ledger_core.specs.Spelling.{spelling, spellings}
use Rattle.ledger_core.specs.SpellingLaws.{AreNotes-append, AreNotes-back, spellings-append}
use Rattle.ledger_core.specs.State.{IsPast, Owing, State, keys_in, with_debt}
use Rattle.ledger_core.proofs.Debts.{octets-push, with-last}

number-some : (key : ℕ) → 1 ≤ number_of key → 0 < key
number-some key some = omega (arith, some, key-is key)

-- a key above the last
rising-last : (ns : List ℕ) (number : ℕ) → IsStrictlyIncreasing ns
    → ((k : ℕ) → k + 1 ≡ length ns → get_or ns k 0 < number)
    → IsStrictlyIncreasing (ns ++ number ∷ [])
rising-last ns number rising above = λ k within.
    elim (cases_lt (k + 1) (length ns)) [
      | inl before ↦
          let here : k < length ns = omega arith in
          rw (
            get_or_append_left ns (number ∷ []) 0 k here,
            get_or_append_left ns (number ∷ []) 0
                (k + 1) before,
          ) (rising k before)
      | inr last ↦
          let len : length (ns ++ number ∷ []) ≡ length ns + 1 = length_push ns number in
          let here : k < length ns = omega arith in
          let end : length ns ≡ k + 1 = omega arith in
          rw (get_or_append_left ns (number ∷ []) 0 k here, get_or_push ns number 0 (k + 1) end)
          (above k (sym end))
    ]

keys-push : (debts : List Owing) (debt : Owing)
    → 0 ∷ keys_in (debts ++ debt ∷ []) ≡ (0 ∷ keys_in debts) ++ debt.0 ∷ []
keys-push debts debt = ap (λ (ns : List ℕ). 0 ∷ ns) (map_push (λ (d : Owing). d.0) debts debt)

length-keys : (debts : List Owing) → length (keys_in debts) ≡ length debts
length-keys debts = length-map debts (λ (d : Owing). d.0)

-- the last key is the greatest
pub last-greatest : (debts : List Owing) → IsStrictlyIncreasing (0 ∷ keys_in debts) → All (λ n. n ≤ last_key debts) (keys_in debts)
last-greatest debts rising k d within =
    let all = 0 ∷ keys_in debts in
    let sorted = sorted_from_strictly_increasing all rising in
    let len : length (keys_in debts) ≡ length debts = length-keys debts in
    elim (cases_lt (suc k) (length debts)) [
      | inl before ↦ omega (
        arith,
        get_or_default all (suc k) 0 d (omega (arith, within)),
        below_from_sorted all (suc k) (length debts) 0 sorted before (omega (arith, len)),
      )
      | inr last ↦
          let is : suc k ≡ length debts = omega (arith, last, within, len) in
          omega (arith, get_or_default all (suc k) 0 d (omega (arith, within)), ap (λ n. get_or all n 0) is)
    ]

-- a key that may be owed and is above all others is above the last, which is 0 if there are none
last-below : (marks : Marks) (debts : List Owing) (key : ℕ) → IsPast marks key → All (λ n. n < key) (keys_in debts)
    → last_key debts < key
last-below marks [] key past above = number-some key past.some
last-below marks (debt ∷ debts) key past above =
    above (length debts) 0 (omega (arith, length-keys debts))

-- and one that is above the last is above all others
above-all : (debts : List Owing) (key : ℕ) → IsStrictlyIncreasing (0 ∷ keys_in debts) → last_key debts < key
    → All (λ n. n < key) (keys_in debts)
above-all debts key rising above k d within =
    omega (arith, above, last-greatest debts rising k d within)

-- a key that is above all others is none of them
pub not-among : (ns : List ℕ) (key : ℕ) → All (λ n. n < key) ns → Contains ns key → ⊥
not-among ns key above (k, within, is) = omega (arith, above k key within, is)

-- one debt further is one debt more
pub debts-more : (base : Base) (debts : List Owing) (debt : Owing) → AreDebts (marks_in base) debts
    → IsFurther (owing_state base debts) debt → AreDebts (marks_in base) (debts ++ debt ∷ [])
debts-more base debts debt are next = record {
  valid = subst AreNotes (sym (map_push owe debts debt))
      (AreNotes-append (owes debts) (owe debt ∷ []) are.valid (next.note, tt));
  rising = subst IsStrictlyIncreasing (sym (keys-push debts debt))
      (rising-last (0 ∷ keys_in debts) debt.0 are.rising
      (λ k last. let is : k ≡ length debts = omega (arith, length-keys debts) in
      subst (λ n. get_or (0 ∷ keys_in debts) n 0 < debt.0) (sym is)
      (last-below (marks_in base) debts debt.0 next.fits.past next.fits.above)));
  past = subst (All (IsPast (marks_in base))) (sym (map_push (λ (d : Owing). d.0) debts debt))
      (All-push (IsPast (marks_in base)) (keys_in debts) debt.0 are.past next.fits.past);
  octets = omega (arith, next.fits.octets, octets-push debts debt.0 debt.1.0 debt.1.1);
}

-- and that alone
pub debts-further : (base : Base) (debts : List Owing) (debt : Owing)
    → AreDebts (marks_in base) debts → AreDebts (marks_in base) (debts ++ debt ∷ [])
    → IsFurther (owing_state base debts) debt
debts-further base debts debt fewer are =
    let valid = AreNotes-back (owes debts) (owe debt ∷ []) (subst AreNotes (map_push owe debts debt)
    are.valid) in
    let ns = 0 ∷ keys_in debts in
    let long : length ns ≡ length debts + 1 = omega (arith, length-keys debts) in
    let rising = subst IsStrictlyIncreasing (keys-push debts debt) are.rising (length debts)
    (omega (arith, length_push ns debt.0)) in
    let here : length debts < length ns = omega arith in
    let above : get_or ns (length debts) 0 < debt.0 =
    rw (
      get_or_append_left ns (debt.0 ∷ []) 0 (length debts) here,
      get_or_push ns debt.0 0
          (length debts + 1) long,
    ) at rising in
    let past = subst (All (IsPast (marks_in base))) (map_push (λ (d : Owing). d.0) debts debt)
    are.past (length debts) 0
    (omega (arith, length_push (keys_in debts) debt.0, length-keys debts)) in
    record {
      note = valid.0;
      fits = record {
        above = above-all debts debt.0 fewer.rising above;
        past = subst (IsPast (marks_in base)) (get_or_push (keys_in debts) debt.0 0 (length debts) (length-keys debts)) past;
        octets = omega (arith, are.octets, octets-push debts debt.0 debt.1.0 debt.1.1);
      };
    }

pub owing-more : (base : Base) (debts : List Owing) (debt : Owing) → IsStrictlyIncreasing (0 ∷ keys_in debts)
    → last_key debts < debt.0
    → owing_more (owing_state base debts) debt ≡ owing_state base (debts ++ debt ∷ [])
owing-more base debts debt rising above =
    let taken : base.answered + base.dropped + length debts + 1 ≡ base.answered + base.dropped +
    length (debts ++ debt ∷ []) = omega (arith, length_push debts debt) in
    let pushed : with_debt debts debt.0 debt.1.0 debt.1.1 ≡ debts ++ debt ∷ [] =
    with-last debts (last_key debts) debt.0 debt.1.0 debt.1.1 above (last-greatest debts rising) in
    ap (λ (ds : List Owing). record (owing_state base debts) { debts = ds; taken = base.answered + base.dropped + length debts + 1 }) pushed
    ∙ ap (λ n. record (owing_state base debts) { debts = debts ++ debt ∷ []; taken = n }) taken

-- so many debts stand in at least so many payloads
pub has-count : (marks : Marks) (behind : List (List ℕ)) (debts : List Owing) → HasDebts marks behind debts
    → length debts ≤ length behind
has-count marks behind debts has =
    omega (arith, ap length has.spelled, length-owes debts, length-take (length debts) behind)

-- and in more payloads
pub has-longer : (marks : Marks) (behind more : List (List ℕ)) (debts : List Owing) → HasDebts marks behind debts
    → HasDebts marks (behind ++ more) debts
has-longer marks behind more debts has = record {
  are = has.are;
  spelled = take-append-le (length debts) behind more (has-count marks behind debts has) ∙ has.spelled;
}

-- and in fewer, if those are enough
pub has-shorter : (marks : Marks) (behind more : List (List ℕ)) (debts : List Owing) → length debts ≤ length behind
    → HasDebts marks (behind ++ more) debts → HasDebts marks behind debts
has-shorter marks behind more debts few has = record {
  are = has.are;
  spelled = sym (take-append-le (length debts) behind more few) ∙ has.spelled;
}

-- where they end they end in more payloads too
pub end-longer : (marks : Marks) (behind more : List (List ℕ)) (debts : List Owing) → length debts < length behind
    → DebtsEnd marks behind debts → DebtsEnd marks (behind ++ more) debts
end-longer marks behind more debts few end = record {
  has = has-longer marks behind more debts end.has;
  no_more = λ debt longer. end.no_more debt
      (has-shorter marks behind more (debts ++ debt ∷ []) (omega (arith, few, length_push debts debt)) longer);
}

-- of as many payloads as debts each is one
all-spelled : (marks : Marks) (behind : List (List ℕ)) (debts : List Owing) → length debts ≡ length behind
    → HasDebts marks behind debts → behind ≡ spellings (owes debts)
all-spelled marks behind debts all has = sym (take_all (length debts) behind (omega (arith, all))) ∙ has.spelled

spelled-push : (debts : List Owing) (debt : Owing)
    → spellings (owes (debts ++ debt ∷ [])) ≡ spellings (owes debts) ++ spelling (owe debt) ∷ []
spelled-push debts debt =
    ap spellings (map_push owe debts debt) ∙ spellings-append (owes debts) (owe debt ∷ [])

-- ---- what the debts so far leave

pub owes-none : (base : Base) (state : State) → state ≡ owing_state base [] → OwesAll base [] state
owes-none base state is = (
  [],
  record {
    are = record {
      valid = tt;
      rising = λ k within. absurd (omega arith);
      past = λ k d within. absurd (omega arith);
      octets = omega arith;
    };
    spelled = refl;
  },
  refl,
  is,
)

-- one debt more
pub owes-more : (base : Base) (behind : List (List ℕ)) (payload : List ℕ) (state new : State)
    → OwesAll base behind state → TakesDebt payload state new → OwesAll base (behind ++ payload ∷ []) new
owes-more base behind payload state new (debts, has, all, is) takes =
    let debt = takes.debt in
    let next : IsFurther (owing_state base debts) debt =
    subst (λ s. IsFurther s debt) is takes.further in
    let count : length (debts ++ debt ∷ []) ≡ length (behind ++ payload ∷ []) =
    omega (arith, all, length_push debts debt, length_push behind payload) in (
      debts ++ debt ∷ [],
      record {
        are = debts-more base debts debt has.are next;
        spelled = take_all (length (debts ++ debt ∷ [])) (behind ++ payload ∷ []) (omega (arith, count))
            ∙ (ap (λ (l : List (List ℕ)). l ++ payload ∷ []) (all-spelled (marks_in base) behind debts all has)
            ∙ (ap (λ (x : List ℕ). spellings (owes debts) ++ x ∷ []) takes.spelled
            ∙ sym (spelled-push debts debt)));
      },
      count,
      takes.state_is ∙ (ap (λ s. owing_more s debt) is
          ∙ owing-more base debts debt has.are.rising
          (last-below (marks_in base) debts debt.0 next.fits.past next.fits.above)),
    )

-- no debt more
pub owes-end : (base : Base) (behind : List (List ℕ)) (payload : List ℕ) (state : State)
    (owing : OwesAll base behind state) → SpellsNoFurther payload state → DebtsEnd (marks_in base) (behind ++ payload ∷ []) owing.0
owes-end base behind payload state (debts, has, all, is) none = record {
  has = has-longer (marks_in base) behind (payload ∷ []) debts has;
  no_more = λ debt more.
      let next = debts-further base debts debt has.are more.are in
      let whole : behind ++ payload ∷ [] ≡ spellings (owes (debts ++ debt ∷ [])) =
      all-spelled (marks_in base) (behind ++ payload ∷ []) (debts ++ debt ∷ [])
      (omega (arith, all, length_push debts debt, length_push behind payload)) more in
      let pushed : spellings (owes debts) ++ payload ∷ [] ≡ spellings (owes debts) ++ spelling (owe debt) ∷ [] =
      ap (λ (l : List (List ℕ)). l ++ payload ∷ []) (sym (all-spelled (marks_in base) behind debts all has))
      ∙ (whole ∙ spelled-push debts debt) in
      let last : payload ≡ spelling (owe debt) =
      sym (get_or_push (spellings (owes debts)) payload [] (length debts) (length-owes debts))
      ∙ (ap (λ (l : List (List ℕ)). get_or l (length debts) []) pushed
      ∙ get_or_push (spellings (owes debts)) (spelling (owe debt)) [] (length debts) (length-owes debts)) in
      none debt (subst (λ s. IsFurther s debt) (sym is) next) (sym last);
}

-- nothing more
pub owes-missing : (base : Base) (behind : List (List ℕ)) (state : State) (owing : OwesAll base behind state)
    → DebtsEnd (marks_in base) behind owing.0
owes-missing base behind state (debts, has, all, is) = record {
  has = has;
  no_more = λ debt more.
      omega (arith, all, has-count (marks_in base) behind (debts ++ debt ∷ []) more, length_push debts debt);
}

-- so many debts were taken
pub owes-count : (base : Base) (behind : List (List ℕ)) (state : State) → OwesAll base behind state
    → state.taken ≡ base.answered + base.dropped + length behind
owes-count base behind state (debts, has, all, is) = omega (arith, ap (λ (s : State). s.taken) is, all)

-- if all debts of a Base are there it has counted them
pub owing-whole : (base : Base) (debts : List Owing) (state : State) → IsSound base
    → length debts ≡ base.live → state ≡ owing_state base debts → state ≡ based_on base debts
owing-whole base debts state sound live is =
    let taken : base.answered + base.dropped + length debts ≡ base.taken =
    omega (arith, sound.counted) in
    is ∙ ap (λ n. record (based_on base debts) { taken = n }) taken
