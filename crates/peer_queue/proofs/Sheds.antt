-- What is shed: the octets of what stays, and the numbers that are owed.
use Rattle.std.proofs.Common.{◌≡◌, ◌==◌, ℕ, ◌+◌, ◌-◌, ◌<◌, ◌≤◌, Bool, true, false, cond, Option, Some, None, List, [], ◌∷◌, ◌++◌, length, take, refl, sym, ap, ◌∙◌, subst, inl, inr, arith}
use Rattle.std.specs.Prelude.{◌⊎◌, find, filter, map, nat_le, nat_lt, option_map, sum_by, unwrap_or, ◌||◌}
use Rattle.std.specs.List.{Contains, list_any, slice_get}
use Rattle.std.proofs.lemmas.Bool.{cases_lt, eqb-true, eqb-false, eq-eqb, ne_eqb}
use Rattle.std.proofs.lemmas.List.{length_push, take_all, take_more}
use Rattle.std.proofs.lemmas.List.Sums.{sum_by-cons}
use Rattle.ledger_core.specs.Shape.{Shape, Size, keys_sized, octets_sized, size_at}
use Rattle.ledger_core.specs.State.{State, IsOwed, Owing, after, line_octets, keys, octets_of_debts, owed_bytes, step}
use Rattle.ledger_core.specs.declared.note.Cause.TheVariants.{Limit}
use Rattle.ledger_core.specs.declared.note.Note.TheVariants.{Drop}
use Rattle.ledger_core.specs.declared.ledger.LedgerFault.TheVariants.{NotOwed}
use Rattle.recovery.specs.Notes.{AreOwed}
use Rattle.recovery.specs.Words.{IsDropFault}
use Rattle.recovery.specs.declared.fault.TapeFault.{TapeFault}
use Rattle.recovery.specs.declared.fault.TapeFault.TheVariants.{Damaged, Disk, Broken as BrokenTape, TapeFull, GenerationFull, PendingFull, NoMemory as NoTapeMemory, Note as RefusedNote}
use Rattle.peer_queue.specs.Faults.{station_fault}
use Rattle.peer_queue.specs.declared.fault.StationFault.TheVariants.{NoMemory}
use Rattle.peer_queue.specs.DebtPlace.{AreRising, Places, all_gone, gone, placed, unheld}
use Rattle.peer_queue.specs.Shed.{AreWithin, IsShedOf, IsShedSet, dropped, owed_without, sized_without}
use Rattle.peer_queue.specs.ShedLaws.{prefix_of}
use Rattle.peer_queue.specs.declared.limits.Limits.{Limits}
use Rattle.peer_queue.proofs.Ends.{placed_ended}
use Rattle.peer_queue.proofs.Prefixes.{Each, Rise, are_owed_all, at_none, at_some, each_contained, each_take, each_unheld, found_first, found_next, none_before, rise_placed, rise_take, rise_unheld}

-- ---- the octets of what stays

or_step : (a b c : Bool) → (a || cond b true c) ≡ cond b true (a || c)
or_step true true c = refl
or_step true false c = refl
or_step false b c = refl

or_last : (b : Bool) → (b || false) ≡ cond b true false
or_last true = refl
or_last false = refl

any_push : (test : ℕ → Bool) (set : List ℕ) (n : ℕ) → list_any test (set ++ n ∷ []) ≡ cond (test n) true (list_any test set)
any_push test [] n = or_last (test n)
any_push test (m ∷ set) n = ap (λ (c : Bool). test m || c) (any_push test set n) ∙ or_step (test m) (test n) (list_any test set)

-- of debts, each with a key and octets
module _ {X : Type 0} (key : X → ℕ) (octets : X → ℕ) where
  -- none of these numbers names the debt
  abbrev stays : List ℕ → X → Bool
  stays set debt = cond (list_any (λ (n : ℕ). n == key debt) set) false true

  -- one more number takes out no debt of another
  stays_other : (set : List ℕ) (n : ℕ) (debt : X) → (n == key debt) ≡ false → stays
      (set ++ n ∷ []) debt ≡ stays set debt
  stays_other set n debt apart =
      ap (λ (b : Bool). cond b false true) (any_push (λ (m : ℕ). m == key debt) set n ∙ ap (λ (b : Bool). cond b true
      (list_any (λ (m : ℕ). m == key debt) set)) apart)

  absent : (debts : List X) (set : List ℕ) (n : ℕ) → Each (λ m. n < m) (map key debts) → filter (stays
      (set ++ n ∷ [])) debts ≡ filter (stays set) debts
  absent [] set n above = refl
  absent (d ∷ debts) set n above =
      ap (λ (b : Bool). cond b (d ∷ filter (stays (set ++ n ∷ [])) debts) (filter (stays (set ++ n ∷ [])) debts))
      (stays_other set n d (ne_eqb n (key d) (omega (arith, above.0))))
      ∙ ap (λ (l : List X). cond (stays set d) (d ∷ l) l) (absent debts set n above.1)

  -- the octets of the debt of a number, 0 if there is none
  abbrev pub octets_at : List X → ℕ → ℕ
  octets_at debts n = unwrap_or (option_map octets (find (λ (debt : X). key debt == n) debts)) 0

  kept_step : (b : Bool) (d : X) (xs ys : List X) (v : ℕ) → sum_by octets xs ≡ sum_by octets ys + v → sum_by octets
      (cond b (d ∷ xs) xs) ≡ sum_by octets (cond b (d ∷ ys) ys) + v
  kept_step true d xs ys v h = omega (arith, h, sum_by-cons octets d xs, sum_by-cons octets d ys)
  kept_step false d xs ys v h = h

  -- the octets that stay fall by those of the debt of one more number
  octets_fall : (debts : List X) (set : List ℕ) (n : ℕ) → Rise (map key debts) → list_any
      (λ (m : ℕ). m == n) set ≡ false
      → sum_by octets (filter (stays set) debts) ≡ sum_by octets (filter (stays
      (set ++ n ∷ [])) debts) + octets_at debts n
  octets_fall [] set n rise new = refl
  octets_fall (d ∷ debts) set n rise new = on (octets_fall debts set n rise.1 new) (key d == n) refl
    where
      xs : List X
      xs = filter (stays set) debts

      ys : List X
      ys = filter (stays (set ++ n ∷ [])) debts

      on : sum_by octets xs ≡ sum_by octets ys + octets_at debts n → (b : Bool) → (key d == n) ≡ b → sum_by octets
          (filter (stays set) (d ∷ debts)) ≡ sum_by octets (filter (stays (set ++ n ∷ [])) (d ∷ debts)) + octets_at
          (d ∷ debts) n
      on later true e =
          let number : key d ≡ n = eqb-true (key d) n e in
          let any : list_any (λ (m : ℕ). m == key d) set ≡ false = subst (λ (k : ℕ). list_any
          (λ (m : ℕ). m == k) set ≡ false) (sym number) new in
          let here : stays set d ≡ true = ap (λ (b : Bool). cond b false true) any in
          let out : stays (set ++ n ∷ []) d ≡ false =
          ap (λ (b : Bool). cond b false true) (any_push (λ (m : ℕ). m == key d) set n ∙ ap (λ (b : Bool). cond b true
          (list_any (λ (m : ℕ). m == key d) set)) (eq-eqb n (key d) (sym number))) in
          let found : octets_at (d ∷ debts) n ≡ octets d = ap (λ (b : Bool). unwrap_or (option_map octets (cond b
          (Some d) (find (λ (debt : X). key debt == n) debts))) 0) e in
          let left : sum_by octets (cond (stays set d) (d ∷ xs) xs) ≡ sum_by octets (d ∷ xs) =
          ap (λ (b : Bool). sum_by octets (cond b (d ∷ xs) xs)) here in
          let right : sum_by octets (cond (stays (set ++ n ∷ []) d) (d ∷ ys) ys) ≡ sum_by octets ys =
          ap (λ (b : Bool). sum_by octets (cond b (d ∷ ys) ys)) out in
          let same : ys ≡ xs = absent debts set n (subst (λ (k : ℕ). Each (λ m. k < m)
          (map key debts)) number rise.0) in
          omega (arith, left, right, found, sum_by-cons octets d xs, ap (λ (l : List X). sum_by octets l) same)
      on later false e =
          let apart : (n == key d) ≡ false = ne_eqb n (key d) (λ same. eqb-false (key d) n e (sym same)) in
          let found : octets_at (d ∷ debts) n ≡ octets_at debts n = ap (λ (b : Bool). unwrap_or (option_map octets
          (cond b (Some d) (find (λ (debt : X). key debt == n) debts))) 0) e in
          let right : sum_by octets (cond (stays (set ++ n ∷ []) d) (d ∷ ys) ys) ≡ sum_by octets (cond (stays set d)
          (d ∷ ys) ys) = ap (λ (b : Bool). sum_by octets (cond b (d ∷ ys) ys)) (stays_other set n d apart) in
          let step = kept_step (stays set d) d xs ys (octets_at debts n) later in
          omega (arith, found, right, step)

  all_stay : (debts : List X) → filter (stays []) debts ≡ debts
  all_stay [] = refl
  all_stay (d ∷ debts) = ap (λ (l : List X). d ∷ l) (all_stay debts)

-- ---- of a ledger, and of its shape

abbrev number_of : Owing → ℕ
number_of debt = debt.0

abbrev octets_of : Owing → ℕ
octets_of debt = line_octets debt.1.0 debt.1.1

abbrev sized_number : Size → ℕ
sized_number size = size.0

abbrev sized_octets : Size → ℕ
sized_octets size = size.1

-- the octets of the debt of a number, 0 if there is none
abbrev pub owed_at : State → ℕ → ℕ
owed_at state n = octets_at number_of octets_of state.debts n

abbrev pub sized_at : Shape → ℕ → ℕ
sized_at shape n = unwrap_or (size_at shape.sizes n) 0

-- none is taken out at first
pub owed_first : (state : State) → owed_without state [] ≡ owed_bytes state
owed_first state = ap (λ (l : List Owing). octets_of_debts l) (all_stay number_of octets_of state.debts)

pub sized_first : (shape : Shape) → sized_without shape.sizes [] ≡ octets_sized shape.sizes
sized_first shape = ap (λ (l : List Size). octets_sized l) (all_stay sized_number sized_octets shape.sizes)

-- they fall by those of each that is taken out
pub owed_fall : (state : State) (places : Places) (set : List ℕ) (n : ℕ) → AreRising places → placed places ≡ keys state
    → list_any (λ (m : ℕ). m == n) set ≡ false
    → owed_without state set ≡ owed_without state (set ++ n ∷ []) + owed_at state n
owed_fall state places set n rising same new =
    octets_fall number_of octets_of state.debts set n (subst (λ (l : List ℕ). Rise l) same
    (rise_placed places rising)) new

same_size : (sizes : List Size) (n : ℕ)
    → size_at sizes n ≡ option_map sized_octets (find (λ (size : Size). size.0 == n) sizes)
same_size [] n = refl
same_size (size ∷ sizes) n = on (size.0 == n) (same_size sizes n)
  where
    on : (b : Bool) → size_at sizes n ≡ option_map sized_octets (find (λ (other : Size). other.0 == n) sizes)
        → cond b (Some size.1) (size_at sizes n)
        ≡ option_map sized_octets (cond b (Some size) (find (λ (other : Size). other.0 == n) sizes))
    on true rest = refl
    on false rest = rest

pub sized_fall : (shape : Shape) (places : Places) (set : List ℕ) (n : ℕ) → AreRising places
    → placed places ≡ keys_sized shape.sizes → list_any (λ (m : ℕ). m == n) set ≡ false
    → sized_without shape.sizes set ≡ sized_without shape.sizes (set ++ n ∷ []) + sized_at shape n
sized_fall shape places set n rising same new =
    octets_fall sized_number sized_octets shape.sizes set n
    (subst (λ (l : List ℕ). Rise l) same (rise_placed places rising)) new
    ∙ ap (λ (o : Option ℕ). sized_without shape.sizes (set ++ n ∷ []) + unwrap_or o 0) (sym (same_size shape.sizes n))

-- ---- a prefix of the numbers that no connection holds

-- These are a prefix of the numbers that no connection holds, after which the candidate comes. Without them `octets`
-- octets are owed, and without fewer of them more than the limit.
pub record IsPrefix (limit : ℕ) (octets_without : List ℕ → ℕ) (places : Places) (set : List ℕ) (candidate : Option ℕ)
    (octets : ℕ) : Type 0 where
  pub few : length set ≤ length (unheld places)
  pub prefix : set ≡ take (length set) (unheld places)
  pub next : candidate ≡ slice_get (unheld places) (length set)
  pub owed : octets ≡ octets_without set
  pub shortest : (fewer : ℕ) → fewer < length set → limit < octets_without (take fewer (unheld places))

pub prefix_none : (limit : ℕ) (octets_without : List ℕ → ℕ) (places : Places) (next : Option ℕ) (owed : ℕ)
    → next ≡ find (λ m. nat_le 0 m) (unheld places) → owed ≡ octets_without []
    → IsPrefix limit octets_without places [] next owed
prefix_none limit octets_without places next owed found is = record {
  few = omega arith;
  prefix = refl;
  next = found ∙ found_first (unheld places);
  owed = is;
  shortest = λ fewer less. absurd (omega arith);
}

pub prefix_more : (limit : ℕ) (octets_without : List ℕ → ℕ) (places : Places) (set : List ℕ) (n : ℕ) (next : Option ℕ)
    (owed owed' octets : ℕ) → AreRising places → IsPrefix limit octets_without places set (Some n) owed → limit < owed
    → next ≡ find (λ m. nat_lt n m) (unheld places) → owed' ≡ owed - octets
    → (list_any (λ (m : ℕ). m == n) set ≡ false → octets_without set ≡ octets_without (set ++ n ∷ []) + octets)
    → IsPrefix limit octets_without places (set ++ n ∷ []) next owed'
prefix_more limit octets_without places set n next owed owed' octets rising is above found fall falls =
    let U = unheld places in
    let rise : Rise U = rise_unheld places rising in
    let at = at_some U (length set) n (sym is.next) in
    let more : length (set ++ n ∷ []) ≡ length set + 1 = length_push set n in
    let new : list_any (λ (m : ℕ). m == n) set ≡ false = subst (λ (l : List ℕ). list_any (λ (m : ℕ). m == n) l ≡ false) (sym is.prefix) (none_before U (length set) n rise at.0 at.1) in
    let less = falls new in
    record {
      few = omega (arith, at.0, more);
      prefix = ap (λ (l : List ℕ). l ++ n ∷ []) is.prefix ∙ (ap (λ (m : ℕ). take (length set) U ++ m ∷ []) at.1 ∙ (sym (take_more U (length set) 0 at.0) ∙ ap (λ (k : ℕ). take k U) (sym more)));
      next = found ∙ (found_next U (length set) n rise at.0 at.1 ∙ ap (λ (k : ℕ). slice_get U k) (sym more));
      owed = omega (arith, fall, is.owed, less);
      shortest = λ fewer below. elim (cases_lt fewer (length set)) [
        | inl before ↦ is.shortest fewer before
        | inr last ↦
            let here : fewer ≡ length set = omega (arith, below, more) in
            subst (λ (l : List ℕ). limit < octets_without l) (is.prefix ∙ ap (λ (k : ℕ). take k U) (sym here)) (omega
            (arith, is.owed, above))
      ];
    }

-- it is what is to be shed, if none comes next or enough is shed
pub prefix_all : (limits : Limits) (all : ℕ) (octets_without : List ℕ → ℕ) (places : Places) (set : List ℕ)
    (next : Option ℕ) (owed : ℕ) → (AreWithin limits all → ⊥)
    → IsPrefix limits.backlog_limit octets_without places set next owed
    → (next ≡ None) ⊎ (owed ≤ limits.backlog_limit) → IsShedOf limits all octets_without places set
prefix_all limits all octets_without places set next owed over is ends = inr (
  over,
  record {
    prefix = is.prefix;
    passes = elim ends [
      | inl none ↦ inr (is.prefix ∙ take_all (length set) (unheld places) (at_none (unheld places) (length set) (sym is.next ∙ none)))
      | inr enough ↦ inl (omega (arith, is.owed, enough))
    ];
    shortest = λ fewer less passes. omega (arith, is.shortest fewer less, passes);
  },
)

-- ---- dropped

-- the numbers that have a place stay the ledger's
pub placed_dropped : (p : Places) (state : State) (l : List ℕ) → placed p ≡ keys state → placed (all_gone p l) ≡ keys (after state (dropped l))
placed_dropped p state [] same = same
placed_dropped p state (n ∷ l) same = placed_dropped (gone p n) (step state (Drop n Limit)) l (placed_ended p state (Drop n Limit) n refl same)

-- a prefix of them is owed, each once
prefix_owed : (p : Places) (state : State) (k : ℕ) → AreRising p → placed p ≡ keys state → AreOwed state [] (take k (unheld p))
prefix_owed p state k rising same =
    are_owed_all state (take k (unheld p)) (rise_take k (unheld p) (rise_unheld p rising))
    (each_take (IsOwed state) k (unheld p) (subst (λ (l : List ℕ). Each (λ n. Contains l n) (unheld p)) same (each_unheld (Contains (placed p)) p (each_contained (placed p)))))

pub shed_owed : (limits : Limits) (state : State) (places : Places) (set : List ℕ) (k : ℕ) → AreRising places → placed places ≡ keys state → IsShedSet limits state places set → AreOwed state [] (take k set)
shed_owed limits state places set k rising same is =
    let prefix = prefix_of limits state places set k is in
    subst (λ (l : List ℕ). AreOwed state [] l) (sym prefix.1) (prefix_owed places state prefix.0 rising same)

-- the only fault left for a tape that works, if all are owed and there is room
pub drop_fault : (fault : TapeFault) → IsDropFault fault → (fault ≡ BrokenTape → ⊥) → (fault ≡ RefusedNote NotOwed → ⊥) → (fault ≡ PendingFull → ⊥) → station_fault fault ≡ NoMemory
drop_fault (Damaged segment at) is broken owed room = absurd is
drop_fault Disk is broken owed room = absurd is
drop_fault BrokenTape is broken owed room = absurd (broken refl)
drop_fault TapeFull is broken owed room = absurd is
drop_fault GenerationFull is broken owed room = absurd is
drop_fault PendingFull is broken owed room = absurd (room refl)
drop_fault NoTapeMemory is broken owed room = refl
drop_fault (RefusedNote fault) is broken owed room = absurd (owed (ap RefusedNote is))
