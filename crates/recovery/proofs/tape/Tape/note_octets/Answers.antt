-- The octets of a note, on the disk or pending.
use Rattle.std.proofs.Common.{◌∷◌, take, drop, sym, ◌≡◌, ◌+◌, ◌-◌, ◌<◌, ◌≤◌, ◌^◌, ◌++◌, ◌==◌, ℕ, List, length, ap, ◌∙◌, subst}
use Rattle.std.proofs.Common.{Bool, true, false, [], arith, cond, length-append, refl}
use Rattle.std.proofs.lemmas.Result.{IfOk-weaker}
use Rattle.tape_journal.specs.Journal.{Holds}
use Rattle.tape_journal.specs.Segment.{records}
use Rattle.std.proofs.lemmas.Bool.{false≢true}
use Rattle.std.proofs.lemmas.List.{append-nil, length-drop, nil_from_length}
use Rattle.disk_model.specs.declared.Disk.{Ghosts}
use Rattle.ledger_core.specs.declared.spot.Spot.{Spot}
use Rattle.ledger_core.specs.Base.{owe}
use Rattle.ledger_core.specs.Batch.{StandsIn, body_of}
use Rattle.ledger_core.specs.IndexLaws.{stands-behind, stands-prefix}
use Rattle.ledger_core.specs.Spelling.{spelling}
use Rattle.ledger_core.specs.Spots.{IsFound, StandsAt}
use Rattle.ledger_core.specs.State.{Owing}
use Rattle.recovery.specs.Notes.{History}
use Rattle.recovery.specs.Pending.{payloads_in}
use Rattle.recovery.specs.Tape.{IsIndexed, StandsFor}
use Rattle.recovery.specs.Texts.{IsAt}
use Rattle.recovery.specs.Words.{IsBroken}
use Rattle.recovery.specs.declared.tape.Tape.{Tape}
use Rattle.recovery.proofs.Indexed.{Among, Pends, in_pending, on_tape, records-long}
use Rattle.recovery.proofs.tape.Tape.note_octets.Goals as goal

-- it pends
slot_of : (payloads pending : List (List ℕ)) (at slot end : ℕ) (payload : List ℕ) → end ≡ length (records payloads) →
    end ≤ at
    → (stands : StandsAt (length payloads) (payloads ++ pending) at slot payload) → Pends payloads pending
    stands.prefix payload slot
slot_of payloads pending at slot end payload is behind stands =
    in_pending payloads pending stands.prefix stands.behind payload slot stands.split
    (omega (arith, is, behind, stands.at_is, records-long payloads)) stands.slot_is

-- it is on the tape
among_of : (payloads pending : List (List ℕ)) (at slot end : ℕ) (payload : List ℕ) → end ≡ length (records payloads) →
    at < end
    → (stands : StandsAt (length payloads) (payloads ++ pending) at slot payload) → end < 2 ^ 64 - 1
    → Among payloads stands.prefix payload
among_of payloads pending at slot end payload is before stands fits =
    on_tape payloads pending stands.prefix stands.behind payload stands.split
    (omega (arith, is, before, stands.at_is, fits, records-long payloads))

place_of : (payloads pending : List (List ℕ)) (at slot end : ℕ) (payload : List ℕ) → end ≡ length (records payloads) →
    at < end
    → (stands : StandsAt (length payloads) (payloads ++ pending) at slot payload) → end < 2 ^ 64 - 1
    → at ≡ length (records stands.prefix)
place_of payloads pending at slot end payload is before stands fits =
    omega (arith, is, before, stands.at_is, fits, records-long stands.prefix)

-- the octets of a payload that are notes are all of it if they are no fewer
whole-case : (several : Bool) (tag : ℕ) (rest : List ℕ)
    → length (tag ∷ rest) ≤ length (cond several (drop 4 rest) (tag ∷ rest))
    → cond several (drop 4 rest) (tag ∷ rest) ≡ tag ∷ rest
whole-case true tag rest long = absurd (omega (arith, long, length-drop 4 rest))
whole-case false tag rest long = refl

whole : (part : List ℕ) → length part ≤ length (body_of part) → body_of part ≡ part
whole [] long = refl
whole (tag ∷ rest) long = whole-case (tag == 11) tag rest long

-- a note that fills its payload is that payload
alone : (part octets : List ℕ) → length part ≡ length octets → StandsIn part 0 octets → part ≡ octets
alone part octets same stands =
    let split : body_of part ≡ octets ++ stands.behind = stands.split
    ∙ ap (λ (l : List ℕ). l ++ (octets ++ stands.behind)) (nil_from_length stands.before (sym stands.within_is)) in
    let long = ap length split ∙ length-append octets stands.behind in
    let is = sym (whole part (omega (arith, same, long))) ∙ split in
    is ∙ (ap (λ (l : List ℕ). octets ++ l)
    (nil_from_length stands.behind (omega (arith, same, ap length is ∙ length-append octets stands.behind)))
    ∙ append-nil octets)

-- what stands there on the disk
record OnDisk {D : Type 0} {g : Ghosts D} (tape : Tape D g) (at : ℕ) (payload : List ℕ) : Type 0 where
  prefix : List (List ℕ)
  more : List (List ℕ)
  holds : Holds tape.segments.live (prefix ++ payload ∷ more)
  place : at ≡ length (records prefix)

on_disk : {D : Type 0} {g : Ghosts D} (tape : Tape D g) (payloads : List (List ℕ)) (at slot : ℕ) (payload : List ℕ)
    → Holds tape.segments.live payloads → at < tape.segments.live.end
    → StandsAt (length payloads) (payloads ++ payloads_in tape.pending) at slot payload → OnDisk tape at payload
on_disk tape payloads at slot payload holds before stands =
    let pending = payloads_in tape.pending in
    let live = tape.segments.live in
    let among = among_of payloads pending at slot live.end payload holds.end before stands live.fits in
    record {
      prefix = stands.prefix;
      more = among.behind;
      holds = subst (Holds live) among.split holds;
      place = place_of payloads pending at slot live.end payload holds.end before stands live.fits;
    }

module _ {D : Type 0} {g : Ghosts D} (tape : Tape D g) (h : History) (key : ℕ) (spot : Spot) (debt : Owing)
    (stands : StandsFor tape h) (works : IsBroken tape → ⊥) (at : IsAt tape.ledger key spot debt) where
  there : (kept : List (List ℕ)) → IsIndexed tape kept
      → IsFound (length kept) (kept ++ payloads_in tape.pending) spot.at spot.slot spot.within
      (spelling (owe debt))
  there kept indexed = at.stands (length kept) (kept ++ payloads_in tape.pending) indexed.indexes

pub returns-then-spot-end_of-clause-note : goal.returns-then-spot-end_of-clause-note
returns-then-spot-end_of-clause-note g c = λ h debt stands at.
    let tape = c.args.self.now in
    let w = stands.working c.requires.works in
    let found = there tape h c.args.key c.args.spot debt stands c.requires.works at w.payloads w.indexed in
    let long = sym (c.owed_len-len.ensures.len debt at.is (sym at.token_len) (sym at.id_len)) in
    let slot = slot_of w.payloads (payloads_in tape.pending) c.args.spot.at c.args.spot.slot
    tape.segments.live.end found.payload w.holds.end (omega (arith, c.if-spot-end_of.true, c.end_of.ensures))
    found.stands in
    (c.pending_note.ensures.note (spelling (owe debt))
    slot.within
    (subst (λ (l : List ℕ). StandsIn l c.args.spot.within (spelling (owe debt))) (sym slot.is) found.inside) long).0

pub returns-then-spot-end_of-clause-cause : goal.returns-then-spot-end_of-clause-cause
returns-then-spot-end_of-clause-cause g c = λ h debt stands at told.
    let tape = c.args.self.now in
    let w = stands.working c.requires.works in
    let found = there tape h c.args.key c.args.spot debt stands c.requires.works at w.payloads w.indexed in
    let long = sym (c.owed_len-len.ensures.len debt at.is (sym at.token_len) (sym at.id_len)) in
    let slot = slot_of w.payloads (payloads_in tape.pending) c.args.spot.at c.args.spot.slot
    tape.segments.live.end found.payload w.holds.end (omega (arith, c.if-spot-end_of.true, c.end_of.ensures))
    found.stands in
    absurd ((c.pending_note.ensures.note (spelling (owe debt))
    slot.within
    (subst (λ (l : List ℕ). StandsIn l c.args.spot.within (spelling (owe debt))) (sym slot.is) found.inside) long).1 told)

pub returns-then-spot-gt0-clause-note : goal.returns-then-spot-gt0-clause-note
returns-then-spot-gt0-clause-note g c = λ h debt stands at.
    let tape = c.args.self.now in
    let w = stands.working c.requires.works in
    let found = there tape h c.args.key c.args.spot debt stands c.requires.works at w.payloads w.indexed in
    let long = sym (c.owed_len-len.ensures.len debt at.is (sym at.token_len) (sym at.id_len)) in
    let disk = on_disk tape w.payloads c.args.spot.at c.args.spot.slot found.payload w.holds
    (omega (arith, c.if-spot-end_of.false, c.end_of.ensures)) found.stands in
    IfOk-weaker c.part_of.result _ (λ v. v.items ≡ spelling (owe debt))
    (λ v said. said ∙ (ap (λ (n : ℕ). take c.owed_len-len.result (drop (5 + n) found.payload)) c.from.ensures
    ∙ stands-behind found.payload (spelling (owe debt)) c.args.spot.within c.owed_len-len.result long found.inside
    (λ none. omega (arith, none, c.if-spot-gt0.true))))
    (c.part_of.ensures.part disk.prefix disk.more found.payload disk.holds disk.place)

pub returns-then-spot-gt0-clause-cause : goal.returns-then-spot-gt0-clause-cause
returns-then-spot-gt0-clause-cause g c = λ h debt stands at told.
    let tape = c.args.self.now in
    let w = stands.working c.requires.works in
    let found = there tape h c.args.key c.args.spot debt stands c.requires.works at w.payloads w.indexed in
    let disk = on_disk tape w.payloads c.args.spot.at c.args.spot.slot found.payload w.holds
    (omega (arith, c.if-spot-end_of.false, c.end_of.ensures)) found.stands in
    c.part_of.ensures.cause disk.prefix disk.more found.payload disk.holds disk.place told

pub returns-in-Err-clause-cause : goal.returns-in-Err-clause-cause
returns-in-Err-clause-cause g c = λ h debt stands at told.
    let tape = c.args.self.now in
    let w = stands.working c.requires.works in
    let found = there tape h c.args.key c.args.spot debt stands c.requires.works at w.payloads w.indexed in
    let disk = on_disk tape w.payloads c.args.spot.at c.args.spot.slot found.payload w.holds
    (omega (arith, c.if-spot-end_of.false, c.end_of.ensures)) found.stands in
    c.in-Err.ensures.cause disk.prefix disk.more found.payload disk.holds disk.place told

pub returns-then-len-clause-note : goal.returns-then-len-clause-note
returns-then-len-clause-note g c = λ h debt stands at.
    let tape = c.args.self.now in
    let w = stands.working c.requires.works in
    let found = there tape h c.args.key c.args.spot debt stands c.requires.works at w.payloads w.indexed in
    let long = sym (c.owed_len-len.ensures.len debt at.is (sym at.token_len) (sym at.id_len)) in
    let disk = on_disk tape w.payloads c.args.spot.at c.args.spot.slot found.payload w.holds
    (omega (arith, c.if-spot-end_of.false, c.end_of.ensures)) found.stands in
    let first : c.args.spot.within ≡ 0 = omega (arith, c.if-spot-gt0.false) in
    let read = c.in-Ok.ensures.part disk.prefix disk.more found.payload disk.holds disk.place in
    let inside = stands-prefix found.payload (spelling (owe debt)) c.owed_len-len.result long
    (subst (λ (n : ℕ). StandsIn found.payload n (spelling (owe debt))) first found.inside) in
    alone c.in-Ok.part.items (spelling (owe debt)) (omega (arith, c.len.ensures, c.if-len.true, long))
    (subst (λ (l : List ℕ). StandsIn l 0 (spelling (owe debt))) (sym read) inside)

pub returns-in-Some-clause-note : goal.returns-in-Some-clause-note
returns-in-Some-clause-note g c = λ h debt stands at.
    let tape = c.args.self.now in
    let w = stands.working c.requires.works in
    let found = there tape h c.args.key c.args.spot debt stands c.requires.works at w.payloads w.indexed in
    let long = sym (c.owed_len-len.ensures.len debt at.is (sym at.token_len) (sym at.id_len)) in
    let disk = on_disk tape w.payloads c.args.spot.at c.args.spot.slot found.payload w.holds
    (omega (arith, c.if-spot-end_of.false, c.end_of.ensures)) found.stands in
    let first : c.args.spot.within ≡ 0 = omega (arith, c.if-spot-gt0.false) in
    let read = c.deref.ensures.value
    ∙ c.in-Ok.ensures.part disk.prefix disk.more found.payload disk.holds disk.place in
    let inside = stands-prefix found.payload (spelling (owe debt)) c.owed_len-len.result long
    (subst (λ (n : ℕ). StandsIn found.payload n (spelling (owe debt))) first found.inside) in
    c.in_ok-from_slice-in-Some.ensures.items ∙ (c.in-Some.ensures.note (spelling (owe debt))
    (subst (λ (l : List ℕ). StandsIn l 0 (spelling (owe debt))) (sym read) inside) long).1

pub returns-clause-cause : goal.returns-clause-cause
returns-clause-cause g c = λ h debt stands at told.
    let tape = c.args.self.now in
    let w = stands.working c.requires.works in
    let found = there tape h c.args.key c.args.spot debt stands c.requires.works at w.payloads w.indexed in
    let long = sym (c.owed_len-len.ensures.len debt at.is (sym at.token_len) (sym at.id_len)) in
    let disk = on_disk tape w.payloads c.args.spot.at c.args.spot.slot found.payload w.holds
    (omega (arith, c.if-spot-end_of.false, c.end_of.ensures)) found.stands in
    let first : c.args.spot.within ≡ 0 = omega (arith, c.if-spot-gt0.false) in
    let read = c.deref.ensures.value
    ∙ c.in-Ok.ensures.part disk.prefix disk.more found.payload disk.holds disk.place in
    let inside = stands-prefix found.payload (spelling (owe debt)) c.owed_len-len.result long
    (subst (λ (n : ℕ). StandsIn found.payload n (spelling (owe debt))) first found.inside) in
    absurd (false≢true (c.in-None.ensures.note (spelling (owe debt))
    (subst (λ (l : List ℕ). StandsIn l 0 (spelling (owe debt))) (sym read) inside) long).0)
