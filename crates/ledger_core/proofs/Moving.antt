-- The debts of a ledger, moved after a Base in one walk.
use Rattle.std.proofs.Common.{inl, inr, ◌≡◌, ℕ, ◌+◌, ◌-◌, ◌^◌, Bool, true, false, cond, List, [], ◌∷◌, ◌++◌, length}
use Rattle.std.proofs.Common.{map, min, refl, sym}
use Rattle.std.proofs.Common.{ap, ◌∙◌, subst, arith, length-append}
use Rattle.std.proofs.lemmas.List.{append_assoc, length-map}
use Rattle.std.proofs.lemmas.List.Elements.{All-cons}
use Rattle.std.proofs.lemmas.Bool.{lt-ltb, le-ltb}
use Rattle.std.specs.Prelude.{nat_lt, if◌then◌else◌, ◌*◌}
use Rattle.std.proofs.lemmas.List.Sums.{sum_by-cons}
use Rattle.ledger_core.specs.SpellingLaws.{key-length}
use Rattle.std.specs.List.{All}
use Rattle.std.specs.Map.Calls.{RetainsPairs}
use Rattle.ledger_core.specs.Base.{base_spelling, owe, owes}
use Rattle.ledger_core.specs.IndexLaws.{found-alone}
use Rattle.ledger_core.specs.Spelling.{key_head, sized_text, spelling, spellings}
use Rattle.ledger_core.specs.Spots.{Entries, IsFound, PointsAt, beyond, debt_of, debts_of, moved_to, owe_octets}
use Rattle.ledger_core.specs.Spots.{records_length}
use Rattle.ledger_core.specs.State.{Owing, State, import_count, imports_in, line_octets, octets_of_debts}
use Rattle.ledger_core.specs.Written.{base_of, written_octets}
use Rattle.ledger_core.specs.declared.base.Base.{Base}
use Rattle.ledger_core.specs.declared.spot.DebtEntry.{DebtEntry}
use Rattle.ledger_core.specs.declared.spot.Spot.{Spot}
use Rattle.ledger_core.proofs.Indexed.{base-length, records-push}

abbrev pub spot_at : ℕ × DebtEntry → ℕ × Spot
spot_at entry = (entry.0, entry.1.spot)

-- the spots from this offset on
abbrev pub anew : ℕ → List (ℕ × Spot) → List (ℕ × Spot)
anew at [] = []
anew at (entry ∷ rest) = (entry.0, moved_to at entry.1) ∷ anew (beyond at entry) rest

-- what was kept of a debt, moved to this offset
pub record IsMoved (at : ℕ) (old new : DebtEntry) : Type 0 where
  pub spot : new.spot ≡ moved_to at old.spot
  pub token : new.token.value ≡ old.token.value
  pub id : new.id.value ≡ old.id.value

-- the debts stay, and their spots are those from the first offset on
pub record AreMoved (at : ℕ) (old new : Entries) : Type 0 where
  pub debts : debts_of new ≡ debts_of old
  pub spots : map spot_at new ≡ anew at (map spot_at old)

-- each in its turn is moved to where the walk has come, which goes on behind it
pub moved_all : {F : Type 0} (T : F → ℕ → DebtEntry → Bool → DebtEntry → F → Type 0) (at_of : F → ℕ)
    → ((f : F) (k : ℕ) (v : DebtEntry) (b : Bool) (w : DebtEntry) (f' : F) → T f k v b w f'
    → (b ≡ true) × IsMoved (at_of f) v w × (at_of f' ≡ beyond (at_of f) (k, v.spot)))
    → (f : F) (old new : Entries) → RetainsPairs T f old new → AreMoved (at_of f) old new
moved_all T at_of told f [] new run = record {
  debts = ap debts_of run;
  spots = ap (λ (es : Entries). map spot_at es) run;
}
moved_all T at_of told f (entry ∷ old) new run =
    let at = at_of f in
    let w = run.1 in
    let kept = run.3 in
    let one = told f entry.0 entry.1 run.0 w run.2 run.4 in
    let all = moved_all T at_of told run.2 old kept run.5 in
    let here : new ≡ (entry.0, w) ∷ kept = run.6 ∙ ap (λ (b : Bool). cond b ((entry.0, w) ∷ kept) kept) one.0 in
    record {
      debts = ap debts_of here
          ∙ (ap (λ (x : List ℕ). (entry.0, (x, w.id.value)) ∷ debts_of kept) one.1.token
          ∙ (ap (λ (x : List ℕ). (entry.0, (entry.1.token.value, x)) ∷ debts_of kept) one.1.id
          ∙ ap (λ (ds : List Owing). debt_of entry ∷ ds) all.debts));
      spots = ap (λ (es : Entries). map spot_at es) here
          ∙ (ap (λ (s : Spot). (entry.0, s) ∷ map spot_at kept) one.1.spot
          ∙ (ap (λ (ss : List (ℕ × Spot)). (entry.0, moved_to at entry.1.spot) ∷ ss) all.spots
          ∙ ap (λ (n : ℕ). (entry.0, moved_to at entry.1.spot) ∷ anew n (map spot_at old)) one.2));
    }

pub same_count : (old new : Entries) → debts_of new ≡ debts_of old → length new ≡ length old
same_count old new same = omega (arith, ap length same, length-map new debt_of, length-map old debt_of)

-- ---- what they point at

pub owe-length : (debt : Owing) → length (spelling (owe debt)) + 5 ≡ owe_octets debt.0 + length debt.1.0 + length debt.1.1
owe-length debt =
    let texts = sized_text debt.1.0 ++ sized_text debt.1.1 in
    let whole = length-append (key_head 1 6 debt.0) texts in
    let both = length-append (sized_text debt.1.0) (sized_text debt.1.1) in
    elim (key-length 1 6 debt.0) [
      | inl low ↦ omega (arith, whole, both, low.1, ap {B = ℕ} (λ (b : Bool). if b then 16 else 20) (lt-ltb debt.0 (2 ^ 64) low.0))
      | inr high ↦ omega (arith, whole, both, high.1, ap {B = ℕ} (λ (b : Bool). if b then 16 else 20) (le-ltb debt.0 (2 ^ 64) high.0))
    ]

-- behind these payloads stand the notes of the debts
pub points-anew : (entries : Entries) (spots : List (ℕ × Spot)) (prefix : List (List ℕ)) (at : ℕ)
    → at ≡ min (records_length prefix) (2 ^ 64 - 1) → map spot_at entries ≡ anew at spots
    → All (PointsAt (length (prefix ++ spellings (owes (debts_of entries))))
    (prefix ++ spellings (owes (debts_of entries)))) entries
points-anew [] spots prefix at is same = λ k d within. absurd (omega arith)
points-anew (entry ∷ entries) [] prefix at is same = cc same
points-anew (entry ∷ entries) (spot ∷ spots) prefix at is same =
    let payload = spelling (owe (debt_of entry)) in
    let rest = spellings (owes (debts_of entries)) in
    let whole = prefix ++ payload ∷ rest in
    let moved : ◌≡◌ {A = ℕ × Spot} (spot_at entry) (spot.0, moved_to at spot.1) = cc same in
    let behind : map spot_at entries ≡ anew (beyond at spot) spots = cc same in
    let at_is : entry.1.spot.at ≡ at = ap (λ (s : ℕ × Spot). s.1.at) moved in
    let within_is : entry.1.spot.within ≡ 0 = ap (λ (s : ℕ × Spot). s.1.within) moved in
    let token_len : spot.1.token_len ≡ length entry.1.token.value =
    sym (ap (λ (s : ℕ × Spot). s.1.token_len) moved) ∙ entry.1.token_len in
    let id_len : spot.1.id_len ≡ length entry.1.id.value =
    sym (ap (λ (s : ℕ × Spot). s.1.id_len) moved) ∙ entry.1.id_len in
    let next : beyond at spot ≡ min (records_length (prefix ++ payload ∷ [])) (2 ^ 64 - 1) =
    let same_key : spot.0 ≡ entry.0 = sym (ap (λ (s : ℕ × Spot). s.0) moved) in
    omega (arith, is, records-push prefix payload, owe-length (debt_of entry), token_len, id_len, ap owe_octets same_key) in
    let split : (prefix ++ payload ∷ []) ++ rest ≡ whole = append_assoc prefix (payload ∷ []) rest in
    All-cons (PointsAt (length whole) whole) entry entries
    (subst (λ (n : ℕ). IsFound (length whole) whole entry.1.spot.at entry.1.spot.slot n payload) (sym within_is)
    (found-alone (length whole) whole entry.1.spot.at entry.1.spot.slot (owe (debt_of entry))
    (record {
      prefix = prefix;
      behind = rest;
      split = refl;
      at_is = at_is ∙ is;
      slot_is = λ pends. absurd (omega (arith, pends, length-append prefix (payload ∷ rest)));
    })))
    (subst (λ (w : List (List ℕ)). All (PointsAt (length w) w) entries) split
    (points-anew entries spots (prefix ++ payload ∷ []) (beyond at spot) next behind))

-- ---- how long they are

-- a Base has one length in each generation
pub same-length : (state : State) (generation : ℕ) (base : Base) → base ≡ base_of 1 state → (len : ℕ)
    → len ≡ 5 + length (base_spelling base) → len ≡ 5 + length (base_spelling (base_of generation state))
same-length state generation base is len e =
    omega (
      arith,
      e,
      ap (λ (b : Base). length (base_spelling b)) is,
      base-length (base_of 1 state),
      base-length (base_of generation state),
    )

-- what an Owe has beside its texts
beside : (key : ℕ) → owe_octets key ≡ 16 + 4 * import_count key
beside key = by-flag (nat_lt key (2 ^ 64))
  where
    by-flag : (b : Bool) → (if b then 16 else 20) ≡ 16 + 4 * (if b then 0 else 1)
    by-flag true = refl
    by-flag false = refl

pub owes-length : (debts : List Owing)
    → records_length (spellings (owes debts)) ≡ 14 * length debts + 4 * imports_in debts + octets_of_debts debts
owes-length [] = refl
owes-length (debt ∷ debts) = omega (
  arith,
  owes-length debts,
  owe-length debt,
  beside debt.0,
  sum_by-cons (λ (d : Owing). import_count d.0) debt debts,
  sum_by-cons (λ (d : Owing). line_octets d.1.0 d.1.1) debt debts,
)

pub written-length : (generation : ℕ) (state : State) → written_octets generation state
    ≡ 5 + length (base_spelling (base_of generation state))
    + (14 * length state.debts + 4 * imports_in state.debts + octets_of_debts state.debts)
written-length generation state =
    ap (λ (n : ℕ). 5 + length (base_spelling (base_of generation state)) + n) (owes-length state.debts)
