-- Laws of Bases and of what follows them, for this crate and those above.
use Rattle.std.specs.Prelude.{◌≡◌, ℕ, zero, suc, ◌+◌, ◌<◌, ◌^◌, List, [], ◌∷◌, ◌++◌, length}
use Rattle.std.specs.Prelude.{◌==◌, Bool, true, false, not, if◌then◌else◌, take, drop, refl}
use Rattle.std.proofs.Common.{inl, inr, sym, ◌∙◌, ap, subst, arith, length-append, length-take, ◌≤◌}
use Rattle.std.proofs.lemmas.Bool.{eqb-true}
use Rattle.std.proofs.lemmas.List.{get_or_append_left, length-map, map-append, take-take, take_all, take_at}
use Rattle.std.proofs.lemmas.List.Elements.{All-take}
use Rattle.std.proofs.lemmas.List.Sums.{sum_by-append}
use Rattle.std.proofs.lemmas.Nat.{from_be_bytes-to_be_bytes_8}
use Rattle.std.specs.Int.{to_be_bytes, from_be_bytes, w32, w64}
use Rattle.std.specs.List.{All}
use Rattle.std.specs.List.Sorted.{IsStrictlyIncreasing}
use Rattle.ledger_core.specs.declared.base.Base.{Base}
use Rattle.ledger_core.specs.declared.note.Note.{Note}
use Rattle.ledger_core.specs.declared.note.Note.TheVariants.{Owe, Final, Drop, Seen, Closed}
use Rattle.ledger_core.specs.declared.marks.Marks.{Marks}
use Rattle.ledger_core.specs.Base.{SpellsNoBase}
use Rattle.ledger_core.specs.Base.{IsBase, base_spelling, imports_tag, is_told, marks_in, told_imports, owe, owes}
use Rattle.ledger_core.specs.Base.{AreDebts, HasDebts}
use Rattle.ledger_core.specs.Base.{LeavesBehind, BeginsWith, HasNoBase, Restores, DebtsEnd}
use Rattle.ledger_core.specs.Base.{StopsBehind, RestoreStopsAt, based_on}
use Rattle.ledger_core.specs.Batch.{notes_of, payload_of}
use Rattle.ledger_core.specs.BatchLaws.{same-batches}
use Rattle.ledger_core.specs.Note.{AreNotes}
use Rattle.ledger_core.specs.Replay.{LeavesFrom, StopsFrom}
use Rattle.ledger_core.specs.ReplayLaws.{never, never_from}
use Rattle.ledger_core.specs.Spelling.{spelling, spellings}
use Rattle.ledger_core.specs.SpellingLaws.{AreNotes-prefix, IsTagOf, head-apart, same-notes, source-apart}
use Rattle.ledger_core.specs.SpellingLaws.{spellings-append, tag-told}
use Rattle.ledger_core.specs.State.{IsPast, Owing, State, line_octets, keys_in, after, start}

-- ---- a Base has one spelling

number-apart : (m n : ℕ) (xs ys : List ℕ) → m < 2 ^ 64 → n < 2 ^ 64
    → to_be_bytes w64 m ++ xs ≡ to_be_bytes w64 n ++ ys → (m ≡ n) × (xs ≡ ys)
number-apart m n xs ys fits other e = head-apart 0 0 m n xs ys fits other
    (ap (λ (l : List ℕ). 0 ∷ l) e)

-- the tag says whether there is something to say of imports
same-flag : (a b : Bool) → ◌≡◌ {A = ℕ} (if a then 10 else 4) (if b then 10 else 4) → a ≡ b
same-flag true true e = refl
same-flag false false e = refl
same-flag true false e = absurd (cc e)
same-flag false true e = absurd (cc e)

untold : (closed import_mark : ℕ) → is_told closed import_mark ≡ false → (closed ≡ 0) × (import_mark ≡ 0)
untold closed import_mark e = by-flags (closed == 0) (import_mark == 0) refl refl e
  where
    by-flags : (a b : Bool) → (closed == 0) ≡ a → (import_mark == 0) ≡ b → (if a then not b else true) ≡ false
        → (closed ≡ 0) × (import_mark ≡ 0)
    by-flags true true one other e = (eqb-true closed 0 one, eqb-true import_mark 0 other)
    by-flags true false one other e = absurd (cc e)
    by-flags false b one other e = absurd (cc e)

told-apart : (a b : Bool) (c n d m : ℕ) → a ≡ b → c < 2 ^ 32 → d < 2 ^ 32 → n < 2 ^ 64 → m < 2 ^ 64
    → (a ≡ false → (c ≡ 0) × (n ≡ 0)) → (b ≡ false → (d ≡ 0) × (m ≡ 0))
    → ◌≡◌ {A = List ℕ} (if a then to_be_bytes w32 c ++ to_be_bytes w64 n else [])
    (if b then to_be_bytes w32 d ++ to_be_bytes w64 m else []) → (c ≡ d) × (n ≡ m)
told-apart true true c n d m same fc fd fn fm none none' e =
    let sources = source-apart c d (to_be_bytes w64 n) (to_be_bytes w64 m) fc fd e in
    let marks : n ≡ m = sym (from_be_bytes-to_be_bytes_8 n fn) ∙ ap (from_be_bytes w64) sources.1
    ∙ from_be_bytes-to_be_bytes_8 m fm in
    (sources.0, marks)
told-apart false false c n d m same fc fd fn fm none none' e =
    ((none refl).0 ∙ sym (none' refl).0, (none refl).1 ∙ sym (none' refl).1)
told-apart true false c n d m same fc fd fn fm none none' e = absurd (cc same)
told-apart false true c n d m same fc fd fn fm none none' e = absurd (cc same)

-- what there is to say of imports is said in one way
pub same-told : (c n d m : ℕ) → c < 2 ^ 32 → d < 2 ^ 32 → n < 2 ^ 64 → m < 2 ^ 64 → imports_tag c n ≡ imports_tag d m
    → told_imports c n ≡ told_imports d m → (c ≡ d) × (n ≡ m)
same-told c n d m fc fd fn fm tags octets =
    told-apart (is_told c n) (is_told d m) c n d m (same-flag (is_told c n) (is_told d m) tags) fc fd fn fm
    (untold c n) (untold d m) octets

-- a Base has one spelling, and no other Base has it
pub same-base : (one other : Base) → IsBase one → IsBase other
    → base_spelling one ≡ base_spelling other → one ≡ other
same-base one other is is' e =
    let tags : imports_tag one.closed one.import_mark ≡ imports_tag other.closed other.import_mark = cc e in
    let first = head-apart (imports_tag one.closed one.import_mark) (imports_tag other.closed other.import_mark)
    one.generation other.generation _ _ is.generation is'.generation e in
    let second = number-apart one.mark other.mark _ _ is.mark is'.mark first.1 in
    let third = number-apart one.taken other.taken _ _ is.taken is'.taken second.1 in
    let fourth = number-apart one.answered other.answered _ _ is.answered is'.answered third.1 in
    let fifth = number-apart one.dropped other.dropped _ _ is.dropped is'.dropped fourth.1 in
    let sixth = number-apart one.live other.live _ _ is.live is'.live fifth.1 in
    let told = same-told one.closed one.import_mark other.closed other.import_mark is.closed is'.closed is.import_mark
    is'.import_mark tags sixth.1 in
    ap (λ n. record one { generation = n }) first.0
    ∙ ap (λ n. record one { generation = other.generation; mark = n }) second.0
    ∙ ap (λ n. record other { taken = n; answered = one.answered; dropped = one.dropped; live = one.live; closed = one.closed; import_mark = one.import_mark }) third.0
    ∙ ap (λ n. record other { answered = n; dropped = one.dropped; live = one.live; closed = one.closed; import_mark = one.import_mark }) fourth.0
    ∙ ap (λ n. record other { dropped = n; live = one.live; closed = one.closed; import_mark = one.import_mark }) fifth.0
    ∙ ap (λ n. record other { live = n; closed = one.closed; import_mark = one.import_mark }) sixth.0
    ∙ ap (λ n. record other { closed = n; import_mark = one.import_mark }) told.0
    ∙ ap (λ n. record other { import_mark = n }) told.1

-- no note has the spelling of a Base
pub base-no-note : (base : Base) (note : Note) → base_spelling base ≡ spelling note → ⊥
base-no-note base note e =
    by-tag note (imports_tag base.closed base.import_mark) (is_told base.closed base.import_mark) refl
    (tag-told note (imports_tag base.closed base.import_mark) _ (sym e))
  where
    by-tag : (note : Note) (tag : ℕ) (b : Bool) → tag ≡ (if b then 10 else 4) → IsTagOf note tag → ⊥
    by-tag (Owe key token id) tag true is told = grind (arith, is, told)
    by-tag (Final key code) tag true is told = grind (arith, is, told)
    by-tag (Drop key cause) tag true is told = grind (arith, is, told)
    by-tag (Seen number) tag true is told = omega (arith, is, told)
    by-tag (Closed source) tag true is told = omega (arith, is, told)
    by-tag (Owe key token id) tag false is told = grind (arith, is, told)
    by-tag (Final key code) tag false is told = grind (arith, is, told)
    by-tag (Drop key cause) tag false is told = grind (arith, is, told)
    by-tag (Seen number) tag false is told = omega (arith, is, told)
    by-tag (Closed source) tag false is told = omega (arith, is, told)

-- and no batch has it
pub base-no-batch : (base : Base) (batch : List Note) → base_spelling base ≡ payload_of batch → ⊥
base-no-batch base [] e = cc e
base-no-batch base (note ∷ []) e = base-no-note base note e
base-no-batch base (note ∷ next ∷ notes) e = by-flag (is_told base.closed base.import_mark) (cc e)
  where
    by-flag : (b : Bool) → ◌≡◌ {A = ℕ} (if b then 10 else 4) 11 → ⊥
    by-flag true e = omega (arith, e)
    by-flag false e = omega (arith, e)

-- ---- how long a Base is

imports-short : (b : Bool) (closed import_mark : ℕ)
    → length (if b then to_be_bytes w32 closed ++ to_be_bytes w64 import_mark else []) ≤ 12
imports-short true closed import_mark = omega arith
imports-short false closed import_mark = omega arith

-- no Base is longer than 61 octets
pub base-short : (base : Base) → length (base_spelling base) ≤ 61
base-short base = omega (arith, imports-short (is_told base.closed base.import_mark) base.closed base.import_mark)

-- a payload is a Base exactly if its first 62 octets are
pub base-by-part : (base : Base) (payload : List ℕ) → take 62 payload ≡ base_spelling base
    → payload ≡ base_spelling base
base-by-part base payload is =
    sym (take_all 62 payload (omega (arith, length-take 62 payload, ap length is, base-short base))) ∙ is

pub no-base-by-part : (payload : List ℕ) → SpellsNoBase (take 62 payload) → SpellsNoBase payload
no-base-by-part payload none base is whole =
    none base is (whole ∙ sym (take_all 62 payload (omega (arith, ap length whole, base-short base))))

-- ---- a prefix of debts

rising-prefix : (ns ms : List ℕ) → IsStrictlyIncreasing (ns ++ ms) → IsStrictlyIncreasing ns
rising-prefix ns ms rising k within =
    let here : k < length ns = omega arith in
    rw (← get_or_append_left ns ms 0 k here, ← get_or_append_left ns ms 0 (k + 1) within)
    (rising k (omega (arith, length-append ns ms)))

past-prefix : (marks : Marks) (ns ms : List ℕ) → All (IsPast marks) (ns ++ ms) → All (IsPast marks) ns
past-prefix marks ns ms past = subst (All (IsPast marks)) (take_at ns ms (length ns) refl)
    (All-take (IsPast marks) (length ns) (ns ++ ms) past)

pub owes-append : (debts more : List Owing) → owes (debts ++ more) ≡ owes debts ++ owes more
owes-append debts more = map-append owe debts more

pub keys-append : (debts more : List Owing) → keys_in (debts ++ more) ≡ keys_in
    debts ++ keys_in more
keys-append debts more = map-append (λ (debt : Owing). debt.0) debts more

pub length-spellings : (notes : List Note) → length (spellings notes) ≡ length notes
length-spellings [] = refl
length-spellings (note ∷ notes) = omega (arith, length-spellings notes)

-- as many payloads as debts
pub length-owes : (debts : List Owing) → length (spellings (owes debts)) ≡ length debts
length-owes debts = length-spellings (owes debts) ∙ length-map debts owe

pub AreDebts-prefix : (marks : Marks) (debts more : List Owing) → AreDebts marks (debts ++ more)
    → AreDebts marks debts
AreDebts-prefix marks debts more are = record {
  valid = AreNotes-prefix (owes debts) (owes more) (subst AreNotes (owes-append debts more)
      are.valid);
  rising = rising-prefix (0 ∷ keys_in debts) (keys_in more)
      (subst (λ ns. IsStrictlyIncreasing (0 ∷ ns)) (keys-append debts more) are.rising);
  past = past-prefix marks (keys_in debts) (keys_in more)
      (subst (All (IsPast marks)) (keys-append debts more) are.past);
  octets = omega (
    arith,
    are.octets,
    sum_by-append (λ (debt : Owing). line_octets debt.1.0 debt.1.1)
        debts more,
  );
}

pub HasDebts-prefix : (marks : Marks) (behind : List (List ℕ)) (debts more : List Owing)
    → HasDebts marks behind (debts ++ more) → HasDebts marks behind debts
HasDebts-prefix marks behind debts more has = record {
  are = AreDebts-prefix marks debts more has.are;
  spelled =
      sym (take-take (length debts) (length (debts ++ more)) behind
      (omega (arith, length-append debts more)))
      ∙ ap (take (length debts)) (has.spelled ∙ ap spellings (owes-append debts more)
      ∙ spellings-append (owes debts) (owes more))
      ∙ take_at (spellings (owes debts)) (spellings (owes more)) (length debts) (length-owes debts);
}

same-owes : (debts others : List Owing) → owes debts ≡ owes others → debts ≡ others
same-owes [] [] e = refl
same-owes [] (other ∷ others) e = cc e
same-owes (debt ∷ debts) [] e = cc e
same-owes (debt ∷ debts) (other ∷ others) e =
    let number : debt.0 ≡ other.0 = cc e in
    let token : debt.1.0 ≡ other.1.0 = cc e in
    let id : debt.1.1 ≡ other.1.1 = cc e in
    let rest : owes debts ≡ owes others = cc e in
    let inner : debts ≡ others = same-owes debts others rest in
    ap (λ n. (n, (debt.1.0, debt.1.1)) ∷ debts) number ∙ ap (λ t. (other.0, (t, debt.1.1)) ∷ debts)
    token
    ∙ ap (λ i. (other.0, (other.1.0, i)) ∷ debts) id ∙ ap (λ ds. other ∷ ds) inner

-- as many debts are the same ones
pub HasDebts-once : (marks : Marks) (behind : List (List ℕ)) (debts others : List Owing)
    → length debts ≡ length others → HasDebts marks behind debts → HasDebts marks behind others
    → debts ≡ others
HasDebts-once marks behind debts others same has has' =
    same-owes debts others
    (same-notes (owes debts) (owes others) has.are.valid has'.are.valid (sym has.spelled
    ∙ ap (λ n. take n behind) same ∙ has'.spelled))

record Parts (debts : List Owing) (place : ℕ) : Type 0 where
  prefix : List Owing
  debt : Owing
  back : List Owing
  whole : debts ≡ (prefix ++ debt ∷ []) ++ back
  count : length prefix ≡ place

parts : (debts : List Owing) (place : ℕ) → place < length debts → Parts debts place
parts [] place within = absurd (omega arith)
parts (debt ∷ debts) zero within = record {
  prefix = [];
  debt = debt;
  back = debts;
  whole =
      refl;
  count = refl;
}
parts (debt ∷ debts) (suc place) within =
    let rest = parts debts place (omega arith) in
    record {
      prefix = debt ∷ rest.prefix;
      debt = rest.debt;
      back = rest.back;
      whole =
          ap (λ ds. debt ∷ ds) rest.whole;
      count = omega (arith, rest.count);
    }

-- once the debts end there are no more
pub ended : (marks : Marks) (behind : List (List ℕ)) (debts others : List Owing)
    → DebtsEnd marks behind debts → length debts < length others → HasDebts marks behind others → ⊥
ended marks behind debts others end few has =
    let split = parts others (length debts) few in
    let more = HasDebts-prefix marks behind (split.prefix ++ split.debt ∷ []) split.back
    (subst (HasDebts marks behind) split.whole has) in
    let same : split.prefix ≡ debts = HasDebts-once marks behind split.prefix debts split.count
    (HasDebts-prefix marks behind split.prefix (split.debt ∷ []) more) end.has in
    end.no_more split.debt (subst (λ ds. HasDebts marks behind (ds ++ split.debt ∷ [])) same more)

-- ---- payloads leave one ledger, or reading stops, and never both

from-once : (first : State) (payloads : List (List ℕ)) (state other : State)
    → LeavesFrom first payloads state → LeavesFrom first payloads other → state ≡ other
from-once first payloads state other a b = a.4
    ∙ ap (λ (bs : List (List Note)). after first (notes_of bs)) (same-batches a.0 b.0 a.1 b.1 (sym a.2 ∙ b.2))
    ∙ sym b.4

behind-once : (base : Base) (behind : List (List ℕ)) (state other : State)
    → LeavesBehind base behind state → LeavesBehind base behind other → state ≡ other
behind-once base behind state other a b =
    let same : b.debts ≡ a.debts = HasDebts-once (marks_in base) behind b.debts a.debts (b.live
    ∙ sym a.live) b.has a.has in
    from-once (based_on base a.debts) (drop (length a.debts) behind) state other a.notes
    (subst (λ ds. LeavesFrom (based_on base ds) (drop (length ds) behind) other) same b.notes)

behind-never : (base : Base) (behind : List (List ℕ)) (index : ℕ) (state : State)
    → StopsBehind base behind index → LeavesBehind base behind state → ⊥
behind-never base behind index state (inl stop) whole = stop.0 whole.sound
behind-never base behind index state (inr (inl (sound, (debts, end, few, place)))) whole =
    ended (marks_in base) behind debts whole.debts end (omega (arith, whole.live)) whole.has
behind-never base behind index state (inr (inr (sound, (debts, has, live, (place, is, stop)))))
    whole =
    let same : debts ≡ whole.debts = HasDebts-once (marks_in base) behind debts whole.debts (live
    ∙ sym whole.live) has whole.has in
    never_from (based_on base whole.debts) (drop (length whole.debts) behind) place state
    (subst (λ ds. StopsFrom (based_on base ds) (drop (length ds) behind) place) same stop)
    whole.notes

pub no-base : (payloads : List (List ℕ)) (base : Base) (behind : List (List ℕ)) → HasNoBase payloads
    → BeginsWith payloads base behind → ⊥
no-base payloads base behind none begins = subst HasNoBase begins.split none base begins.is refl

pub one-base : (payloads : List (List ℕ)) (base other : Base) (behind others : List (List ℕ))
    → BeginsWith payloads base behind → BeginsWith payloads other others → (base ≡ other)
    × (behind ≡ others)
one-base payloads base other behind others a b =
    let whole : base_spelling base ∷ behind ≡ base_spelling other ∷ others = sym a.split
    ∙ b.split in
    let first : base_spelling base ≡ base_spelling other = cc whole in
    let rest : behind ≡ others = ap (λ (ps : List (List ℕ)). drop 1 ps) whole in
    (same-base base other a.is b.is first, rest)

-- payloads are a tape of one generation, and leave one state
pub restores_once : (payloads : List (List ℕ)) (generation other : ℕ) (state left : State)
    → Restores payloads generation state → Restores payloads other left → (generation ≡ other)
    × (state ≡ left)
restores_once payloads generation other state left (inl a) (inl b) =
    (a.1 ∙ sym b.1, from-once start payloads state left a.2 b.2)
restores_once payloads generation other state left (inl a) (inr b) =
    absurd (no-base payloads b.0 b.1 a.0 b.2)
restores_once payloads generation other state left (inr a) (inl b) =
    absurd (no-base payloads a.0 a.1 b.0 a.2)
restores_once payloads generation other state left (inr a) (inr b) =
    let same = one-base payloads b.0 a.0 b.1 a.1 b.2 a.2 in
    let there : LeavesBehind a.0 a.1 left = subst (λ base. LeavesBehind base a.1 left) same.0
    (subst (λ behind. LeavesBehind b.0 behind left) same.1 b.4) in (
      a.3 ∙ sym (b.3 ∙ ap (λ (base : Base). base.generation) same.0),
      behind-once a.0 a.1 state left
          a.4 there,
    )

-- if reading stops they are not a tape
pub never_restored : (payloads : List (List ℕ)) (index generation : ℕ) (state : State)
    → RestoreStopsAt payloads index → Restores payloads generation state → ⊥
never_restored payloads index generation state (inl stop) (inl whole) =
    never payloads index state stop.1 whole.2
never_restored payloads index generation state (inl stop) (inr whole) =
    no-base payloads whole.0 whole.1 stop.0 whole.2
never_restored payloads index generation state (inr stop) (inl whole) =
    no-base payloads stop.0 stop.1 whole.0 stop.2
never_restored payloads index generation state (inr stop) (inr whole) =
    let same = one-base payloads whole.0 stop.0 whole.1 stop.1 whole.2 stop.2 in
    let there : LeavesBehind stop.0 stop.1 state = subst (λ base. LeavesBehind base stop.1 state)
    same.0 (subst (λ behind. LeavesBehind whole.0 behind state) same.1 whole.4) in
    behind-never stop.0 stop.1 index state stop.3 there
