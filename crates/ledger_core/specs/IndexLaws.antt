-- Laws of ledgers as indexes, for this crate and those above.
use Rattle.std.specs.Prelude.{◌≡◌, ◌==◌, ℕ, zero, suc, ◌+◌, ◌-◌, ◌<◌, ◌≤◌, ◌^◌, min, Bool, true, false, cond}
use Rattle.std.specs.Prelude.{Option, Some, find, List, [], ◌∷◌, ◌++◌, length, refl}
use Rattle.std.proofs.Common.{◌⊎◌, inl, inr, sym, ap, ◌∙◌, arith, drop, take, get_or, length-append, subst}
use Rattle.std.proofs.lemmas.Bool.Decides.{nat_tests}
use Rattle.std.proofs.lemmas.List.{append-nil, append_assoc, drop-drop, drop-take, get_or-map, length-map}
use Rattle.std.proofs.lemmas.List.{nil_from_length, take_at}
use Rattle.std.proofs.Math.Seq.{take-append-add}
use Rattle.std.proofs.lemmas.Map.Keys.{below_from_sorted, sorted_from_strictly_increasing, sorted_tail}
use Rattle.std.specs.List.Sorted.{IsStrictlyIncreasing, IsStrictlySortedBy}
use Rattle.std.specs.Ordering.{nat_cmp}
use Rattle.std.proofs.lemmas.List.Elements.{All-weaker}
use Rattle.ledger_core.specs.declared.ledger.Ledger.{Ledger}
use Rattle.ledger_core.specs.declared.note.Note.{Note}
use Rattle.ledger_core.specs.declared.note.Note.TheVariants.{Owe, Final, Drop, Seen, Closed}
use Rattle.ledger_core.specs.declared.spot.DebtEntry.{DebtEntry}
use Rattle.ledger_core.specs.Base.{owe}
use Rattle.std.specs.Int.{to_be_bytes, w32}
use Rattle.ledger_core.specs.Batch.{StandsIn, batch_spelling, body_of, together}
use Rattle.ledger_core.specs.BatchLaws.{body-alone, together-append}
use Rattle.ledger_core.specs.Index.{Indexes, IsSpotOf, debt_at, spots_of}
use Rattle.ledger_core.specs.Ledger.{state_of}
use Rattle.ledger_core.specs.Spelling.{spelling}
use Rattle.ledger_core.specs.Spots.{IsFound, IsPlaced, PointsAt, StandsAt, Entries, debt_of, debts_of, records_length}
use Rattle.ledger_core.specs.State.{Owing, keys, keys_in}
use Rattle.ledger_core.specs.declared.spot.Spot.{Spot}

-- what is among payloads stays there when more follow them
pub stands-more : (kept : ℕ) (payloads more : List (List ℕ)) (at slot : ℕ) (payload : List ℕ)
    → StandsAt kept payloads at slot payload → StandsAt kept (payloads ++ more) at slot payload
stands-more kept payloads more at slot payload stands = record {
  prefix = stands.prefix;
  behind = stands.behind ++ more;
  split = ap (λ (l : List (List ℕ)). l ++ more) stands.split ∙ append_assoc stands.prefix (payload ∷ stands.behind)
      more;
  at_is = stands.at_is;
  slot_is = stands.slot_is;
}

-- and when all of them are on the tape
pub stands-flushed : (kept : ℕ) (payloads : List (List ℕ)) (at slot : ℕ) (payload : List ℕ)
    → StandsAt kept payloads at slot payload → StandsAt (length payloads) payloads at slot payload
stands-flushed kept payloads at slot payload stands = record {
  prefix = stands.prefix;
  behind = stands.behind;
  split = stands.split;
  at_is = stands.at_is;
  slot_is = λ pends. absurd
      (omega (arith, pends, ap length stands.split, length-append stands.prefix (payload ∷ stands.behind)));
}

-- an index of payloads is one of more
pub indexes-more : (kept : ℕ) (payloads more : List (List ℕ)) (ledger : Ledger) → Indexes kept payloads ledger
    → Indexes kept (payloads ++ more) ledger
indexes-more kept payloads more ledger indexes =
    All-weaker (PointsAt kept payloads) (PointsAt kept (payloads ++ more))
    (λ entry found. record {
      payload = found.payload;
      stands = stands-more kept payloads more entry.1.spot.at entry.1.spot.slot found.payload found.stands;
      inside = found.inside;
    })
    ledger.debts.entries indexes

-- and of the same when what was pending is on the tape
pub indexes-flushed : (kept : ℕ) (payloads : List (List ℕ)) (ledger : Ledger) → Indexes kept payloads ledger
    → Indexes (length payloads) payloads ledger
indexes-flushed kept payloads ledger indexes =
    All-weaker (PointsAt kept payloads) (PointsAt (length payloads) payloads)
    (λ entry found. record {
      payload = found.payload;
      stands = stands-flushed kept payloads entry.1.spot.at entry.1.spot.slot found.payload found.stands;
      inside = found.inside;
    })
    ledger.debts.entries indexes

-- a note that comes alone is first in its payload
pub found-alone : (kept : ℕ) (payloads : List (List ℕ)) (at slot : ℕ) (note : Note)
    → StandsAt kept payloads at slot (spelling note) → IsFound kept payloads at slot 0 (spelling note)
found-alone kept payloads at slot note stands = record {
  payload = spelling note;
  stands = stands;
  inside = record {
    before = [];
    behind = [];
    split = body-alone note ∙ sym (append-nil (spelling note));
    within_is = refl;
    headed = inl refl;
  };
}

-- and one of several comes after those before it
pub found-among : (kept : ℕ) (payloads : List (List ℕ)) (at slot within : ℕ) (prefix : List Note) (note : Note)
    (behind : List Note) → StandsAt kept payloads at slot (batch_spelling (prefix ++ note ∷ behind))
    → within ≡ length (together prefix) → IsFound kept payloads at slot within (spelling note)
found-among kept payloads at slot within prefix note behind stands is = record {
  payload = batch_spelling (prefix ++ note ∷ behind);
  stands = stands;
  inside = record {
    before = together prefix;
    behind = together behind;
    split = together-append prefix (note ∷ behind);
    within_is = is;
    headed = inr (to_be_bytes w32 (length (prefix ++ note ∷ behind)) ++ together (prefix ++ note ∷ behind), refl);
  };
}

-- and so do octets of several, after those before them
pub found-inside : (kept : ℕ) (payloads : List (List ℕ)) (at slot within count : ℕ) (before octets behind : List ℕ)
    → StandsAt kept payloads at slot (11 ∷ (to_be_bytes w32 count ++ (before ++ (octets ++ behind))))
    → within ≡ length before → IsFound kept payloads at slot within octets
found-inside kept payloads at slot within count before octets behind stands is = record {
  payload = 11 ∷ (to_be_bytes w32 count ++ (before ++ (octets ++ behind)));
  stands = stands;
  inside = record {
    before = before;
    behind = behind;
    split = refl;
    within_is = is;
    headed = inr (to_be_bytes w32 count ++ (before ++ (octets ++ behind)), refl);
  };
}

-- a note is where it is found
pub placed : (kept : ℕ) (payloads : List (List ℕ)) (at slot within : ℕ) (note : Note)
    → IsFound kept payloads at slot within (spelling note) → IsPlaced kept payloads at slot within note
placed kept payloads at slot within (Owe key token id) found = found
placed kept payloads at slot within (Final key code) found = tt
placed kept payloads at slot within (Drop key cause) found = tt
placed kept payloads at slot within (Seen number) found = tt
placed kept payloads at slot within (Closed source) found = tt

-- what comes after all payloads is there, and is pending
pub stands-last : (kept : ℕ) (prefix : List (List ℕ)) (at slot : ℕ) (payload : List ℕ)
    → at ≡ min (records_length prefix) (2 ^ 64 - 1) → slot + kept ≡ length prefix
    → StandsAt kept (prefix ++ payload ∷ []) at slot payload
stands-last kept prefix at slot payload at_is slot_is =
    record { prefix = prefix; behind = []; split = refl; at_is = at_is; slot_is = λ pends. slot_is }

-- records, one after the others
pub records_length-append : (prefix behind : List (List ℕ))
    → records_length (prefix ++ behind) ≡ records_length prefix + records_length behind
records_length-append [] behind = omega arith
records_length-append (payload ∷ prefix) behind = omega (arith, records_length-append prefix behind)

-- ---- the last payload grows

-- the one here is one of the others, or the last
record Before (others : List (List ℕ)) (prefix : List (List ℕ)) (payload last : List ℕ) (behind : List (List ℕ))
    : Type 0 where
  rest : List (List ℕ)
  others_are : others ≡ prefix ++ payload ∷ rest
  behind_is : behind ≡ rest ++ last ∷ []

record Last (others prefix : List (List ℕ)) (payload last : List ℕ) : Type 0 where
  prefix_is : prefix ≡ others
  payload_is : payload ≡ last

before_or_last : (others prefix behind : List (List ℕ)) (payload last : List ℕ)
    → others ++ last ∷ [] ≡ prefix ++ payload ∷ behind → Before others prefix payload last behind
    ⊎ Last others prefix payload last
before_or_last [] [] [] payload last split = inr (record { prefix_is = refl; payload_is = cc split })
before_or_last [] [] (b ∷ behind) payload last split = absurd (cc split)
before_or_last [] (f ∷ []) behind payload last split = absurd (cc split)
before_or_last [] (f ∷ g ∷ prefix) behind payload last split = absurd (cc split)
before_or_last (o ∷ others) [] behind payload last split =
    let same : o ≡ payload = cc split in
    let rest : others ++ last ∷ [] ≡ behind = cc split in
    inl (record {
      rest = others;
      others_are = ap (λ (p : List ℕ). p ∷ others) same;
      behind_is = sym rest;
    })
before_or_last (o ∷ others) (f ∷ prefix) behind payload last split =
    let same : o ≡ f = cc split in
    let rest : others ++ last ∷ [] ≡ prefix ++ payload ∷ behind = cc split in
    elim (before_or_last others prefix behind payload last rest) [
      | inl b ↦ inl (record {
        rest = b.rest;
        others_are = ap (λ (p : List ℕ). p ∷ others) same ∙ ap (λ (l : List (List ℕ)). f ∷ l) b.others_are;
        behind_is = b.behind_is;
      })
      | inr l ↦ inr (record {
        prefix_is = ap (λ (p : List ℕ). p ∷ prefix) (sym same) ∙ ap (λ (fs : List (List ℕ)). o ∷ fs) l.prefix_is;
        payload_is = l.payload_is;
      })
    ]

-- what is in a payload stays there when more notes follow
stands-in-more : (payload grown more octets : List ℕ) (within : ℕ) → body_of grown ≡ body_of payload ++ more
    → (rest : List ℕ) → grown ≡ 11 ∷ rest
    → StandsIn payload within octets → StandsIn grown within octets
stands-in-more payload grown more octets within longer rest headed stands = record {
  before = stands.before;
  behind = stands.behind ++ more;
  split = longer ∙ (ap (λ (l : List ℕ). l ++ more) stands.split
      ∙ (append_assoc stands.before (octets ++ stands.behind) more
      ∙ ap (λ (l : List ℕ). stands.before ++ l) (append_assoc octets stands.behind more)));
  within_is = stands.within_is;
  headed = inr (rest, headed);
}

-- what is found is still found once the last payload, which is pending, has grown
pub found-grown : (kept : ℕ) (others : List (List ℕ)) (last grown more : List ℕ) (at slot within : ℕ) (octets : List ℕ)
    → body_of grown ≡ body_of last ++ more → (rest : List ℕ) → grown ≡ 11 ∷ rest
    → IsFound kept (others ++ last ∷ []) at slot within octets
    → IsFound kept (others ++ grown ∷ []) at slot within octets
found-grown kept others last grown more at slot within octets longer rest headed found =
    let stands = found.stands in
    elim (before_or_last others stands.prefix stands.behind found.payload last stands.split) [
      | inl b ↦ record {
        payload = found.payload;
        stands = record {
          prefix = stands.prefix;
          behind = b.rest ++ grown ∷ [];
          split = ap (λ (l : List (List ℕ)). l ++ grown ∷ []) b.others_are
              ∙ append_assoc stands.prefix (found.payload ∷ b.rest) (grown ∷ []);
          at_is = stands.at_is;
          slot_is = stands.slot_is;
        };
        inside = found.inside;
      }
      | inr l ↦ record {
        payload = grown;
        stands = record {
          prefix = stands.prefix;
          behind = [];
          split = ap (λ (fs : List (List ℕ)). fs ++ grown ∷ []) (sym l.prefix_is);
          at_is = stands.at_is;
          slot_is = stands.slot_is;
        };
        inside = stands-in-more last grown more octets within longer rest headed
            (subst (λ (p : List ℕ). StandsIn p within octets) l.payload_is found.inside);
      }
    ]

pub indexes-grown : (kept : ℕ) (others : List (List ℕ)) (last grown more : List ℕ) (ledger : Ledger)
    → body_of grown ≡ body_of last ++ more → (rest : List ℕ) → grown ≡ 11 ∷ rest
    → Indexes kept (others ++ last ∷ []) ledger → Indexes kept (others ++ grown ∷ []) ledger
indexes-grown kept others last grown more ledger longer rest headed indexes =
    All-weaker (PointsAt kept (others ++ last ∷ [])) (PointsAt kept (others ++ grown ∷ []))
    (λ entry found. found-grown kept others last grown more entry.1.spot.at entry.1.spot.slot entry.1.spot.within
    (spelling (owe (debt_of entry))) longer rest headed found)
    ledger.debts.entries indexes

-- and the new note is found after those that were there
pub found-joined : (kept : ℕ) (others : List (List ℕ)) (batch : List Note) (note : Note) (at slot within : ℕ)
    → at ≡ min (records_length others) (2 ^ 64 - 1) → (kept ≤ length others → slot + kept ≡ length others)
    → within ≡ length (together batch)
    → IsFound kept (others ++ batch_spelling (batch ++ note ∷ []) ∷ []) at slot within (spelling note)
found-joined kept others batch note at slot within at_is slot_is is =
    found-among kept (others ++ batch_spelling (batch ++ note ∷ []) ∷ []) at slot within batch note []
    (record { prefix = others; behind = []; split = refl; at_is = at_is; slot_is = slot_is }) is

-- ---- the spots, one by one

find-step : (b : Bool) (first other : Owing) (rest : Option Owing) → b ≡ false → rest ≡ Some other → cond b
    (Some first) rest ≡ Some other
find-step b first other rest apart found = ap (λ (x : Bool). cond x (Some first) rest) apart ∙ found

-- if numbers rise, each debt is found by its own
found-at : (debts : List Owing) (k : ℕ) (e : Owing) → IsStrictlySortedBy nat_cmp (keys_in debts) → k < length debts
    → find (λ (debt : Owing). debt.0 == (get_or debts k e).0) debts ≡ Some (get_or debts k e)
found-at [] k e sorted within = absurd (omega arith)
found-at (debt ∷ debts) zero e sorted within =
    let same : (debt.0 == debt.0) ≡ true = grind (arith, nat_tests) in
    ap (λ (b : Bool). cond b (Some debt) (find (λ (d : Owing). d.0 == debt.0) debts)) same
found-at (debt ∷ debts) (suc k) e sorted within =
    let keys = keys_in (debt ∷ debts) in
    let inside : k < length debts = omega arith in
    let up : get_or keys 0 0 < get_or keys (suc k) 0 =
    below_from_sorted keys 0 (suc k) 0 sorted (omega arith) (omega (arith, length-map debts (λ (d : Owing). d.0))) in
    let below : debt.0 < (get_or debts k e).0 = omega (arith, up, get_or-map (λ (d : Owing). d.0) debts k e 0 inside) in
    let apart : (debt.0 == (get_or debts k e).0) ≡ false = grind (arith, nat_tests) in
    find-step (debt.0 == (get_or debts k e).0) debt (get_or debts k e)
    (find (λ (d : Owing). d.0 == (get_or debts k e).0) debts) apart
    (found-at debts k e (sorted_tail nat_cmp debt.0 (keys_in debts) sorted) inside)

-- what is kept of the debt at a place
record At (entries : Entries) (k : ℕ) : Type 0 where
  entry : ℕ × DebtEntry
  at : (d : ℕ × DebtEntry) → get_or entries k d ≡ entry

at-of : (entries : Entries) (k : ℕ) → k < length entries → At entries k
at-of [] k within = absurd (omega arith)
at-of (entry ∷ entries) zero within = record { entry = entry; at = λ d. refl }
at-of (entry ∷ entries) (suc k) within =
    let there = at-of entries k (omega arith) in
    record { entry = there.entry; at = there.at }

-- if numbers rise, each of the spots is that of the debt in its place
pub spots-at : (ledger : Ledger) (k : ℕ) (d : ℕ × Spot) (e : Owing) → IsStrictlyIncreasing (keys (state_of ledger))
    → k < length (spots_of ledger)
    → IsSpotOf ledger (get_or (spots_of ledger) k d).0 (get_or (spots_of ledger) k d).1
    × (debt_at (state_of ledger) (get_or (spots_of ledger) k d).0 ≡ Some (get_or (state_of ledger).debts k e))
spots-at ledger k d e rising within =
    let entries = ledger.debts.entries in
    let inside : k < length entries = omega (
      arith,
      within,
      length-map {B = ℕ × Spot} entries
          (λ (entry : ℕ × DebtEntry). (entry.0, entry.1.spot)),
    ) in
    let there = at-of entries k inside in
    let entry = there.entry in
    let spot : get_or (spots_of ledger) k d ≡ (entry.0, entry.1.spot) =
    get_or-map (λ (x : ℕ × DebtEntry). (x.0, x.1.spot)) entries k entry d inside
    ∙ ap (λ (x : ℕ × DebtEntry). (x.0, x.1.spot)) (there.at entry) in
    let debt : get_or (debts_of entries) k e ≡ debt_of entry =
    get_or-map debt_of entries k entry e inside ∙ ap debt_of (there.at entry) in
    let sorted = sorted_from_strictly_increasing (keys (state_of ledger)) rising in
    let found : debt_at (state_of ledger) entry.0 ≡ Some (debt_of entry) =
    subst (λ (x : Owing). find (λ (o : Owing). o.0 == x.0) (debts_of entries) ≡ Some x) debt
    (found-at (debts_of entries) k e sorted (omega (arith, inside, length-map entries debt_of))) in
    let is : IsSpotOf ledger entry.0 entry.1.spot = record {
      debt = debt_of entry;
      is = refl;
      found = found;
      token_len = entry.1.token_len;
      id_len = entry.1.id_len;
      stands = λ kept payloads indexes. subst (PointsAt kept payloads) (there.at entry) (indexes k entry inside);
    }
    in (
      subst (λ (x : ℕ × Spot). IsSpotOf ledger x.0 x.1) (sym spot) is,
      ap (λ (x : ℕ × Spot). debt_at (state_of ledger) x.0) spot ∙ (found ∙ ap (λ (x : Owing). Some x) (sym debt)),
    )

-- as many spots as debts
pub spots-length : (ledger : Ledger) → length (spots_of ledger) ≡ length (state_of ledger).debts
spots-length ledger =
    length-map {B = ℕ × Spot} ledger.debts.entries (λ (entry : ℕ × DebtEntry). (entry.0, entry.1.spot))
    ∙ sym (length-map ledger.debts.entries debt_of)

-- ---- a note in a part of its payload

prefix-case : (b : Bool) (tag : ℕ) (rest octets behind : List ℕ) (len : ℕ) → length octets ≡ len
    → cond b (drop 4 rest) (tag ∷ rest) ≡ octets ++ behind
    → (more : List ℕ) × (cond b (drop 4 (take (4 + len) rest)) (tag ∷ take (4 + len) rest) ≡ octets ++ more)
prefix-case true tag rest octets behind len long split = (
  [],
  drop-take 4 len rest ∙ (ap (take len) split ∙ (take_at octets behind len long ∙ sym (append-nil octets))),
)
prefix-case false tag rest octets behind len long split =
    let count : suc (4 + len) ≡ length octets + 5 = omega (arith, long) in (
      take 5 behind,
      ap (take (suc (4 + len))) split
          ∙ (ap (λ (n : ℕ). take n (octets ++ behind)) count ∙ take-append-add octets behind 5),
    )

stands-first : (payload octets behind : List ℕ) (len : ℕ) → length octets ≡ len → body_of payload ≡ octets ++ behind
    → (more : List ℕ) × (body_of (take (suc (4 + len)) payload) ≡ octets ++ more)
stands-first [] octets behind len long split = (behind, split)
stands-first (tag ∷ rest) octets behind len long split = prefix-case (tag == 11) tag rest octets behind len long split

-- at the beginning of the first octets
pub stands-prefix : (payload octets : List ℕ) (len : ℕ) → length octets ≡ len → StandsIn payload 0 octets
    → StandsIn (take (len + 5) payload) 0 octets
stands-prefix payload octets len long stands =
    let none : stands.before ≡ [] = nil_from_length stands.before (sym stands.within_is) in
    let first = stands-first payload octets stands.behind len long
    (stands.split ∙ ap (λ (l : List ℕ). l ++ (octets ++ stands.behind)) none) in
    let count : suc (4 + len) ≡ len + 5 = omega arith in
    record {
      before = [];
      behind = first.0;
      split = ap (λ (n : ℕ). body_of (take n payload)) (sym count) ∙ first.1;
      within_is = refl;
      headed = inl refl;
    }

-- after others, in a payload of several
pub stands-behind : (payload octets : List ℕ) (within len : ℕ) → length octets ≡ len → StandsIn payload within octets
    → (within ≡ 0 → ⊥) → take len (drop (5 + within) payload) ≡ octets
stands-behind payload octets within len long stands some =
    elim stands.headed [
      | inl none ↦ absurd (some none)
      | inr headed ↦
          let body : drop 5 payload ≡ stands.before ++ (octets ++ stands.behind) =
          ap (drop 5) headed.1 ∙ (sym (ap body_of headed.1) ∙ stands.split) in
          sym (ap (take len) (drop-drop within 5 payload))
          ∙ (ap (λ (l : List ℕ). take len (drop within l)) body
          ∙ (ap (λ (n : ℕ). take len (drop n (stands.before ++ (octets ++ stands.behind)))) stands.within_is
          ∙ (ap (take len) (drop-at stands.before (octets ++ stands.behind))
          ∙ take_at octets stands.behind len long)))
    ]
  where
    drop-at : (xs ys : List ℕ) → drop (length xs) (xs ++ ys) ≡ ys
    drop-at [] ys = refl
    drop-at (x ∷ xs) ys = drop-at xs ys
