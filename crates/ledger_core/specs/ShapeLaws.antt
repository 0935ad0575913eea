-- Laws of shapes, for this crate and those above: the shape determines a note's step, and whether it is legal.
use Rattle.std.proofs.Common.{◌≡◌, ◌==◌, ◌↔◌, ℕ, ◌+◌, ◌<◌, ◌^◌, Bool, true, false, cond, not, List, [], ◌∷◌, map}
use Rattle.std.proofs.Common.{refl, sym, ap, ◌∙◌, subst, arith}
use Rattle.std.specs.Prelude.{nat_lt, if◌then◌else◌}
use Rattle.std.proofs.lemmas.List.{length-map}
use Rattle.std.proofs.lemmas.List.Sums.{sum_by-cons}
use Rattle.std.specs.BTreeMap.{insert_entry}
use Rattle.std.specs.List.{Contains}
use Rattle.std.specs.Ordering.{match_ordering, nat_cmp}
use Rattle.std.specs.declared.cmp.Ordering.{Ordering}
use Rattle.std.specs.declared.cmp.Ordering.TheVariants.{Less, Equal, Greater}
use Rattle.ledger_core.specs.declared.note.Note.{Note}
use Rattle.ledger_core.specs.declared.note.Note.TheVariants.{Owe, Final, Drop, Seen, Closed}
use Rattle.ledger_core.specs.Keys.{number_of}
use Rattle.ledger_core.specs.Ledger.{totals_of}
use Rattle.ledger_core.specs.Shape.{FitsShape, IsOldForShape, OverflowsShape, Shape, ShapeLacksDebt, Size, keys_sized}
use Rattle.ledger_core.specs.Shape.{octets_sized, shape_marks, shape_of, shape_step, shape_totals, size_of, without_key}
use Rattle.ledger_core.specs.State.{IsLegal, IsNext, IsOld, IsOwed, LacksDebt, Overflows, Owing, State, keys_in}
use Rattle.ledger_core.specs.State.{line_octets, marks_of, octets_of_debts, step, with_debt, without}

-- ---- entries by their keys, each value mapped

abbrev pub valued : {V W : Type 0} (f : V → W) → ℕ × V → ℕ × W
valued f entry = (entry.0, f entry.1)

insert-step : {V W : Type 0} (f : V → W) (order : Ordering) (key : ℕ) (value : V) (entry : ℕ × V)
    (entries rest : List (ℕ × V)) (other : List (ℕ × W)) → map (valued f) rest ≡ other
    → map (valued f) (match_ordering order ((key, value) ∷ entry ∷ entries) ((entry.0, value) ∷ entries) (entry ∷ rest))
    ≡ match_ordering order ((key, f value) ∷ map (valued f) (entry ∷ entries))
    ((entry.0, f value) ∷ map (valued f) entries) (valued f entry ∷ other)
insert-step f Less key value entry entries rest other same = refl
insert-step f Equal key value entry entries rest other same = refl
insert-step {V} {W} f Greater key value entry entries rest other same =
    ap (λ (l : List (ℕ × W)). valued f entry ∷ l) same

-- with one more
pub valued-with : {V W : Type 0} (f : V → W) (entries : List (ℕ × V)) (key : ℕ) (value : V)
    → map (valued f) (insert_entry nat_cmp entries key value)
    ≡ insert_entry nat_cmp (map (valued f) entries) key (f value)
valued-with f [] key value = refl
valued-with f (entry ∷ entries) key value =
    insert-step f (nat_cmp key entry.0) key value entry entries (insert_entry nat_cmp entries key value)
    (insert_entry nat_cmp (map (valued f) entries) key (f value)) (valued-with f entries key value)

without-step : {V W : Type 0} (f : V → W) (b : Bool) (entry : ℕ × V) (rest : List (ℕ × V)) (other : List (ℕ × W))
    → map (valued f) rest ≡ other
    → map (valued f) (cond b (entry ∷ rest) rest) ≡ cond b (valued f entry ∷ other) other
without-step {V} {W} f true entry rest other same = ap (λ (l : List (ℕ × W)). valued f entry ∷ l) same
without-step f false entry rest other same = same

-- without the one of a key
pub valued-without : {V W : Type 0} (f : V → W) (key : ℕ) (entries : List (ℕ × V))
    → map (valued f) (without_key key entries) ≡ without_key key (map (valued f) entries)
valued-without f key [] = refl
valued-without f key (entry ∷ entries) =
    without-step f (not (entry.0 == key)) entry (without_key key entries) (without_key key (map (valued f) entries))
    (valued-without f key entries)

-- the keys stay
pub valued-keys : {V W : Type 0} (f : V → W) (entries : List (ℕ × V))
    → map (λ (entry : ℕ × W). entry.0) (map (valued f) entries) ≡ map (λ (entry : ℕ × V). entry.0) entries
valued-keys f [] = refl
valued-keys f (entry ∷ entries) = ap (λ (l : List ℕ). entry.0 ∷ l) (valued-keys f entries)

-- ---- the debts of a ledger

abbrev octets_in : List ℕ × List ℕ → ℕ
octets_in texts = line_octets texts.0 texts.1

-- their sizes with one more
pub sizes-with : (debts : List Owing) (key : ℕ) (token id : List ℕ)
    → map size_of (with_debt debts key token id) ≡ insert_entry nat_cmp (map size_of debts) key (line_octets token id)
sizes-with debts key token id = valued-with octets_in debts key (token, id)

-- without one
pub sizes-without : (key : ℕ) (debts : List Owing)
    → map size_of (without key debts) ≡ without_key key (map size_of debts)
sizes-without key debts = valued-without octets_in key debts

-- their keys
pub sizes-keys : (debts : List Owing) → keys_sized (map size_of debts) ≡ keys_in debts
sizes-keys debts = valued-keys octets_in debts

-- and their octets
pub sizes-octets : (debts : List Owing) → octets_sized (map size_of debts) ≡ octets_of_debts debts
sizes-octets [] = refl
sizes-octets (debt ∷ debts) =
    sum_by-cons (λ (size : Size). size.1) (size_of debt) (map size_of debts)
    ∙ ap (λ (n : ℕ). line_octets debt.1.0 debt.1.1 + n) (sizes-octets debts)
    ∙ sym (sum_by-cons (λ (owing : Owing). line_octets owing.1.0 owing.1.1) debt debts)

-- ---- a note

-- the shape of a ledger determines its shape after a note
pub shape-steps : (state : State) (note : Note) → shape_of (step state note) ≡ shape_step (shape_of state) note
shape-steps state (Owe key token id) =
    ap (λ (l : List Size). record (shape_of state) {
      mark = if nat_lt key (2 ^ 64) then key else state.mark;
      import_mark = if nat_lt key (2 ^ 64) then state.import_mark else number_of key;
      sizes = l;
      taken = state.taken + 1;
    }) (sizes-with state.debts key token id)
shape-steps state (Final key code) =
    ap (λ (l : List Size). record (shape_of state) { sizes = l; answered = state.answered + 1 })
    (sizes-without key state.debts)
shape-steps state (Drop key cause) =
    ap (λ (l : List Size). record (shape_of state) { sizes = l; dropped = state.dropped + 1 })
    (sizes-without key state.debts)
shape-steps state (Seen number) = refl
shape-steps state (Closed source) = refl

-- a key may be noted next exactly if it may by the shape
pub shape-next : (state : State) (key : ℕ) → IsNext (marks_of state) key ↔ IsNext (shape_marks (shape_of state)) key
shape-next state key = (λ next. next, λ next. next)

-- and is owed exactly if it is by the shape
pub shape-owes : (state : State) (key : ℕ) → IsOwed state key ↔ Contains (keys_sized (shape_of state).sizes) key
shape-owes state key = (
  subst (λ (ns : List ℕ). Contains ns key) (sym (sizes-keys state.debts)),
  subst (λ (ns : List ℕ). Contains ns key) (sizes-keys state.debts),
)

-- a note is legal exactly if it is by the shape
pub shape-fits : (state : State) (note : Note) → IsLegal state note ↔ FitsShape (shape_of state) note
shape-fits state (Owe key token id) =
    let e = sizes-octets state.debts in (
      λ legal. (legal.0, legal.1, subst (λ (n : ℕ). n + line_octets token id < 2 ^ 64) (sym e) legal.2),
      λ fits. (fits.0, fits.1, subst (λ (n : ℕ). n + line_octets token id < 2 ^ 64) e fits.2),
    )
shape-fits state (Final key code) =
    let owed = shape-owes state key in
    (λ legal. (owed.0 legal.0, legal.1), λ fits. (owed.1 fits.0, fits.1))
shape-fits state (Drop key cause) =
    let owed = shape-owes state key in
    (λ legal. (owed.0 legal.0, legal.1), λ fits. (owed.1 fits.0, fits.1))
shape-fits state (Seen number) = (λ legal. legal, λ fits. fits)
shape-fits state (Closed source) = (λ legal. legal, λ fits. fits)

-- and is refused for the same reason
pub shape-old : (state : State) (note : Note) → IsOld state note ↔ IsOldForShape (shape_of state) note
shape-old state (Owe key token id) = (λ old. old, λ old. old)
shape-old state (Final key code) = (λ old. old, λ old. old)
shape-old state (Drop key cause) = (λ old. old, λ old. old)
shape-old state (Seen number) = (λ old. old, λ old. old)
shape-old state (Closed source) = (λ old. old, λ old. old)

pub shape-lacks : (state : State) (note : Note) → LacksDebt state note ↔ ShapeLacksDebt (shape_of state) note
shape-lacks state (Owe key token id) = (λ lacks. lacks, λ lacks. lacks)
shape-lacks state (Final key code) =
    let owed = shape-owes state key in
    (λ lacks has. lacks (owed.1 has), λ lacks has. lacks (owed.0 has))
shape-lacks state (Drop key cause) =
    let owed = shape-owes state key in
    (λ lacks has. lacks (owed.1 has), λ lacks has. lacks (owed.0 has))
shape-lacks state (Seen number) = (λ lacks. lacks, λ lacks. lacks)
shape-lacks state (Closed source) = (λ lacks. lacks, λ lacks. lacks)

pub shape-overflows : (state : State) (note : Note) → Overflows state note ↔ OverflowsShape (shape_of state) note
shape-overflows state (Owe key token id) =
    let e = sizes-octets state.debts in (
      λ full. (
        full.0,
        λ fits. full.1 (fits.0, subst (λ (n : ℕ). n + line_octets token id < 2 ^ 64) e fits.1),
      ),
      λ full. (
        full.0,
        λ fits. full.1 (fits.0, subst (λ (n : ℕ). n + line_octets token id < 2 ^ 64) (sym e) fits.1),
      ),
    )
shape-overflows state (Final key code) =
    let owed = shape-owes state key in
    (λ full. (owed.0 full.0, full.1), λ full. (owed.1 full.0, full.1))
shape-overflows state (Drop key cause) =
    let owed = shape-owes state key in
    (λ full. (owed.0 full.0, full.1), λ full. (owed.1 full.0, full.1))
shape-overflows state (Seen number) = (λ full. full, λ full. full)
shape-overflows state (Closed source) = (λ full. full, λ full. full)

-- it counts what the ledger counts
pub shape-counts : (state : State) → shape_totals (shape_of state) ≡ totals_of state
shape-counts state =
    ap (λ (n : ℕ). record (shape_totals (shape_of state)) { owed_bytes = n }) (sizes-octets state.debts)
    ∙ ap (λ (n : ℕ). record (totals_of state) { owed = n }) (length-map state.debts size_of)

-- ---- a note is refused for one reason at most, and a legal one for none

pub old-fits : (shape : Shape) (note : Note) → IsOldForShape shape note → FitsShape shape note → ⊥
old-fits shape (Owe key token id) old fits = old fits.0
old-fits shape (Final key code) old fits = old
old-fits shape (Drop key cause) old fits = old
old-fits shape (Seen number) old fits = omega arith
old-fits shape (Closed source) old fits = old fits.0

pub lacks-fits : (shape : Shape) (note : Note) → ShapeLacksDebt shape note → FitsShape shape note → ⊥
lacks-fits shape (Owe key token id) lacks fits = lacks
lacks-fits shape (Final key code) lacks fits = lacks fits.0
lacks-fits shape (Drop key cause) lacks fits = lacks fits.0
lacks-fits shape (Seen number) lacks fits = lacks
lacks-fits shape (Closed source) lacks fits = lacks

pub overflows-fits : (shape : Shape) (note : Note) → OverflowsShape shape note → FitsShape shape note → ⊥
overflows-fits shape (Owe key token id) full fits = full.1 (fits.1, fits.2)
overflows-fits shape (Final key code) full fits = full.1 fits.1
overflows-fits shape (Drop key cause) full fits = full.1 fits.1
overflows-fits shape (Seen number) full fits = full
overflows-fits shape (Closed source) full fits = full.1 fits.1

pub old-lacks : (shape : Shape) (note : Note) → IsOldForShape shape note → ShapeLacksDebt shape note → ⊥
old-lacks shape (Owe key token id) old lacks = lacks
old-lacks shape (Final key code) old lacks = old
old-lacks shape (Drop key cause) old lacks = old
old-lacks shape (Seen number) old lacks = lacks
old-lacks shape (Closed source) old lacks = lacks

pub old-overflows : (shape : Shape) (note : Note) → IsOldForShape shape note → OverflowsShape shape note → ⊥
old-overflows shape (Owe key token id) old full = old full.0
old-overflows shape (Final key code) old full = old
old-overflows shape (Drop key cause) old full = old
old-overflows shape (Seen number) old full = full
old-overflows shape (Closed source) old full = old full.0

pub lacks-overflows : (shape : Shape) (note : Note) → ShapeLacksDebt shape note → OverflowsShape shape note → ⊥
lacks-overflows shape (Owe key token id) lacks full = lacks
lacks-overflows shape (Final key code) lacks full = lacks full.0
lacks-overflows shape (Drop key cause) lacks full = lacks full.0
lacks-overflows shape (Seen number) lacks full = lacks
lacks-overflows shape (Closed source) lacks full = lacks
