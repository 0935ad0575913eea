-- Notes of lines: in each prefix of them, each line that names the peer is noted, up to the prefix's mark.
use Rattle.std.proofs.Common.{◌≡◌, ◌⊎◌, ℕ, zero, suc, ◌+◌, ◌<◌, ◌≤◌, ◌^◌, Bool, Some, List, [], ◌∷◌, ◌++◌, length, take}
use Rattle.std.proofs.Common.{refl, sym, ap, ◌∙◌, subst, inl, inr, arith, append-nil, append_assoc}
use Rattle.std.proofs.Math.Seq.{take-length}
use Rattle.std.proofs.lemmas.Bool.{cases_lt, le-ltb, lt-ltb}
use Rattle.std.specs.Prelude.{if◌then◌else◌}
use Rattle.std.specs.List.{AllByRecursion, slice_get}
use Rattle.ledger_core.specs.declared.note.Note.{Note}
use Rattle.ledger_core.specs.declared.note.Note.TheVariants.{Owe, Final, Drop, Seen, Closed}
use Rattle.ledger_core.specs.Keys.{IsLine}
use Rattle.ledger_core.specs.State.{State, after, start, step}
use Rattle.ledger_core.specs.StateLaws.{after-append}
use Rattle.sections.specs.ListLaws.{get_left, get_taken}
use Rattle.world_core.proofs.MarksAndNotes.{IsNoLine}

-- ---- lists

-- a prefix of a prefix is a prefix
prefix_of : {A : Type 0} (k n : ℕ) (xs : List A) → (m : ℕ) × (take k (take n xs) ≡ take m xs)
prefix_of zero n xs = (0, refl)
prefix_of (suc k) zero xs = (0, refl)
prefix_of (suc k) (suc n) [] = (0, refl)
prefix_of (suc k) (suc n) (x ∷ xs) =
    let rest = prefix_of k n xs in
    (suc rest.0, ap (λ l. x ∷ l) rest.1)

-- a prefix of a list with one more element is one of the list, or the whole
prefix_more : {A : Type 0} (k : ℕ) (xs : List A) (x : A)
    → (take k (xs ++ x ∷ []) ≡ take k xs) ⊎ (take k (xs ++ x ∷ []) ≡ xs ++ x ∷ [])
prefix_more zero xs x = inl refl
prefix_more (suc zero) [] x = inr refl
prefix_more (suc (suc k)) [] x = inr refl
prefix_more (suc k) (y ∷ xs) x = elim (prefix_more k xs x) [
  | inl is ↦ inl (ap (λ l. y ∷ l) is)
  | inr is ↦ inr (ap (λ l. y ∷ l) is)
]

-- the last of a list, or one before it
pub last_or : {A : Type 0} (xs : List A) (last : A) (index : ℕ) (x : A) → slice_get (xs ++ last ∷ []) index ≡ Some x
    → (slice_get xs index ≡ Some x) ⊎ (last ≡ x)
last_or [] last zero x here = inr cc
last_or [] last (suc index) x here = absurd cc
last_or (y ∷ xs) last zero x here = inl here
last_or (y ∷ xs) last (suc index) x here = last_or xs last index x here

get_end : {A : Type 0} (xs : List A) (last : A) → slice_get (xs ++ last ∷ []) (length xs) ≡ Some last
get_end [] last = refl
get_end (y ∷ xs) last = get_end xs last

-- ---- notes of lines, which are of these numbers, tokens and message-ids

-- a note is among these
abbrev pub IsNoted : List Note → Note → Type 0
IsNoted notes note = (index : ℕ) × (slice_get notes index ≡ Some note)

-- each line up to this number is noted
abbrev pub HasUpTo : (ℕ → List ℕ → List ℕ → Type 0) → ℕ → List Note → Type 0
HasUpTo Names mark notes = (number : ℕ) (token id : List ℕ) → number ≤ mark → Names number token id
    → IsNoted notes (Owe number token id)

pub record AreFed (Names : ℕ → List ℕ → List ℕ → Type 0) (notes : List Note) : Type 0 where
  -- each note of a line is of one of these
  pub lines : (index key : ℕ) (token id : List ℕ) → slice_get notes index ≡ Some (Owe key token id) → IsLine key
      → Names key token id
  -- in each prefix, each line up to its mark is noted
  pub order : (count : ℕ) → HasUpTo Names (after start (take count notes)).mark (take count notes)

-- these are lines: their numbers begin at 1, and each has one reading
pub record AreLines (Names : ℕ → List ℕ → List ℕ → Type 0) : Type 0 where
  pub above : (number : ℕ) (token id : List ℕ) → Names number token id → 0 < number
  pub once : (number : ℕ) (token id token' id' : List ℕ) → Names number token id → Names number token' id'
      → (token ≡ token') × (id ≡ id')

module _ (Names : ℕ → List ℕ → List ℕ → Type 0) (are : AreLines Names) where
  pub up_none : (notes : List Note) → HasUpTo Names 0 notes
  up_none notes number token id below names = absurd (omega (arith, below, are.above number token id names))

  pub up_less : (low high : ℕ) (notes : List Note) → low ≤ high → HasUpTo Names high notes → HasUpTo Names low notes
  up_less low high notes less up number token id below names = up number token id (omega (arith, below, less)) names

  pub up_more : (mark : ℕ) (notes more : List Note) → HasUpTo Names mark notes → HasUpTo Names mark (notes ++ more)
  up_more mark notes more up number token id below names =
      let one = up number token id below names in
      (one.0, get_left notes more one.0 (Owe number token id) one.1)

  pub fed_none : AreFed Names []
  fed_none = record {
    lines = λ index key token id here line. absurd cc;
    order = λ count. none count;
  }
    where
      none : (count : ℕ) → HasUpTo Names (after start (take count [])).mark (take count [])
      none zero = up_none []
      none (suc count) = up_none []

  pub fed_first : (count : ℕ) (notes : List Note) → AreFed Names notes → AreFed Names (take count notes)
  fed_first count notes fed = record {
    lines = λ index key token id here line.
        fed.lines index key token id (get_taken count notes index (Owe key token id) here).1 line;
    order = λ k.
        let is = prefix_of k count notes in
        subst (λ (l : List Note). HasUpTo Names (after start l).mark l) (sym is.1) (fed.order is.0);
  }

  -- all notes, up to their mark
  pub fed_mark : (notes : List Note) → AreFed Names notes → HasUpTo Names (after start notes).mark notes
  fed_mark notes fed =
      subst (λ (l : List Note). HasUpTo Names (after start l).mark l) (take-length notes) (fed.order (length notes))

  fed_push : (notes : List Note) (last : Note) → AreFed Names notes
      → ((key : ℕ) (token id : List ℕ) → last ≡ Owe key token id → IsLine key → Names key token id)
      → HasUpTo Names (step (after start notes) last).mark (notes ++ last ∷ [])
      → AreFed Names (notes ++ last ∷ [])
  fed_push notes last fed line up = record {
    lines = λ index key token id here is. elim (last_or notes last index (Owe key token id) here) [
      | inl before ↦ fed.lines index key token id before is
      | inr same ↦ line key token id same is
    ];
    order = λ count. elim (prefix_more count notes last) [
      | inl is ↦ subst (λ (l : List Note). HasUpTo Names (after start l).mark l) (sym is) (fed.order count)
      | inr is ↦ subst (λ (l : List Note). HasUpTo Names (after start l).mark l) (sym is)
          (subst (λ (s : State). HasUpTo Names s.mark (notes ++ last ∷ []))
          (sym (after-append start notes (last ∷ []))) up)
    ];
  }

  -- one more note, which no line made
  off_line : (notes : List Note) (last : Note) → IsNoLine last → AreFed Names notes
      → AreFed Names (notes ++ last ∷ [])
  off_line notes (Owe n t i) off fed =
      fed_push notes (Owe n t i) fed
      (λ key token id same line. absurd (let is : n ≡ key = cc in omega (arith, off, line, is)))
      (subst (λ (m : ℕ). HasUpTo Names m (notes ++ Owe n t i ∷ []))
      (sym (ap (λ (b : Bool). if b then n else (after start notes).mark) (le-ltb n (2 ^ 64) off)))
      (up_more (after start notes).mark notes (Owe n t i ∷ []) (fed_mark notes fed)))
  off_line notes (Final n code) off fed =
      fed_push notes (Final n code) fed (λ key token id same line. absurd cc)
      (up_more (after start notes).mark notes (Final n code ∷ []) (fed_mark notes fed))
  off_line notes (Drop n cause) off fed =
      fed_push notes (Drop n cause) fed (λ key token id same line. absurd cc)
      (up_more (after start notes).mark notes (Drop n cause ∷ []) (fed_mark notes fed))
  off_line notes (Seen n) off fed = absurd off
  off_line notes (Closed source) off fed =
      fed_push notes (Closed source) fed (λ key token id same line. absurd cc)
      (up_more (after start notes).mark notes (Closed source ∷ []) (fed_mark notes fed))

  pub fed_more : (notes more : List Note) → AllByRecursion IsNoLine more → AreFed Names notes
      → AreFed Names (notes ++ more)
  fed_more notes [] off fed = subst (AreFed Names) (sym (append-nil notes)) fed
  fed_more notes (note ∷ more) off fed =
      subst (AreFed Names) (append_assoc notes (note ∷ []) more)
      (fed_more (notes ++ note ∷ []) more off.1 (off_line notes note off.0 fed))

  -- once the next line is noted, each line up to it is
  pub up_next : (last : ℕ) (token id : List ℕ) (notes : List Note) → Names (last + 1) token id
      → HasUpTo Names last notes
      → HasUpTo Names (last + 1) (notes ++ Owe (last + 1) token id ∷ [])
  up_next last token id notes names up number t i below own = elim (cases_lt last number) [
    | inl above ↦ (
        let same : number ≡ last + 1 = omega (arith, above, below) in
        let its = are.once (last + 1) t i token id (subst (λ (n : ℕ). Names n t i) same own) names in (
          length notes,
          get_end notes (Owe (last + 1) token id)
              ∙ sym (ap (λ (n : ℕ). Some (Owe n t i)) same ∙ ap (λ (x : List ℕ). Some (Owe (last + 1) x i)) its.0
              ∙ ap (λ (x : List ℕ). Some (Owe (last + 1) token x)) its.1),
        ))
    | inr more ↦ up_more last notes (Owe (last + 1) token id ∷ []) up number t i more own
  ]

  -- one more note, of the next line
  pub fed_next : (last : ℕ) (token id : List ℕ) (notes : List Note) → Names (last + 1) token id
      → HasUpTo Names last notes → AreFed Names notes
      → AreFed Names (notes ++ Owe (last + 1) token id ∷ [])
  fed_next last token id notes names up fed =
      fed_push notes (Owe (last + 1) token id) fed own (marked (cases_lt (last + 1) (2 ^ 64)))
    where
      own : (key : ℕ) (t i : List ℕ) → Owe (last + 1) token id ≡ Owe key t i → IsLine key → Names key t i
      own key t i same line =
          let n : last + 1 ≡ key = cc in
          let x : token ≡ t = cc in
          let y : id ≡ i = cc in
          subst (λ (m : ℕ). Names m t i) n (subst (λ (z : List ℕ). Names (last + 1) z i) x
          (subst (λ (z : List ℕ). Names (last + 1) token z) y names))

      marked : ((last + 1 < 2 ^ 64) ⊎ (2 ^ 64 ≤ last + 1))
          → HasUpTo Names (step (after start notes) (Owe (last + 1) token id)).mark
          (notes ++ Owe (last + 1) token id ∷ [])
      marked (inl line) =
          subst (λ (m : ℕ). HasUpTo Names m (notes ++ Owe (last + 1) token id ∷ []))
          (sym (ap (λ (b : Bool). if b then last + 1 else (after start notes).mark) (lt-ltb (last + 1) (2 ^ 64) line)))
          (up_next last token id notes names up)
      marked (inr far) =
          subst (λ (m : ℕ). HasUpTo Names m (notes ++ Owe (last + 1) token id ∷ []))
          (sym (ap (λ (b : Bool). if b then last + 1 else (after start notes).mark) (le-ltb (last + 1) (2 ^ 64) far)))
          (up_more (after start notes).mark notes (Owe (last + 1) token id ∷ []) (fed_mark notes fed))

-- of the same lines
pub fed_same : (Names Others : ℕ → List ℕ → List ℕ → Type 0)
    → ((number : ℕ) (token id : List ℕ) → Names number token id → Others number token id)
    → ((number : ℕ) (token id : List ℕ) → Others number token id → Names number token id)
    → (notes : List Note) → AreFed Names notes → AreFed Others notes
fed_same Names Others to from notes fed = record {
  lines = λ index key token id here line. to key token id (fed.lines index key token id here line);
  order = λ count number token id below names. fed.order count number token id below (from number token id names);
}
