-- The tapes of the worked run of docs/THEOREM.md, section 8, by value: a peer's tape with the debts of three lines, and
-- the intake's. The octets, the calls and what each of them leaves; the rows of this crate and of those above use them.
use Rattle.std.proofs.Common.{◌≡◌, ℕ, List, [], ◌∷◌, refl, inl, arith}
use Rattle.std.specs.Prelude.{codes}
use Rattle.disk_model.specs.Choice.{chosen_image}
use Rattle.disk_model.specs.Disk.{Image, IsOnly}
use Rattle.disk_model.specs.Disk.Event.{Made, Synced, WasCut, Wrote}
use Rattle.disk_model.specs.declared.choice.Choice.{Choice}
use Rattle.tape_journal.specs.Stage.{written_behind}
use Rattle.tape_journal.specs.SegmentLaws.{reads_rest}
use Rattle.ledger_core.specs.Batch.{payload_of, payloads_of}
use Rattle.ledger_core.specs.State.{Owing, State, start}
use Rattle.ledger_core.specs.declared.note.Note.{Note}
use Rattle.ledger_core.specs.declared.note.Note.TheVariants.{Owe, Seen}
use Rattle.recovery.specs.Image.{Log}
use Rattle.recovery.specs.Leaving.{MayLeave, LedgersLeave, LiesOn, left_by}
use Rattle.sections.specs.WrittenTapes.{AreOnTape, flush_leaves, flushed_by, gate_images, gate_may, gate_open}
use Rattle.sections.specs.WrittenTapes.{gate_shut, gate_written, ledger_in, octets_of, octets_with, opened_by}
use Rattle.sections.specs.WrittenTapes.{tape_with}
use Rattle.sections.specs.WrittenTapes.{opening_leaves}

-- ---- notes, and the batches in which they are flushed

abbrev pub one : Note
one = Owe 1 (codes "a/1") (codes "<x@y>")

abbrev pub two : Note
two = Owe 2 (codes "a/2") (codes "<z@y>")

abbrev pub three : Note
three = Owe 3 (codes "a/3") (codes "<w@y>")

abbrev pub one_debt : Owing
one_debt = (1, (codes "a/1", codes "<x@y>"))

abbrev pub two_debt : Owing
two_debt = (2, (codes "a/2", codes "<z@y>"))

abbrev pub three_debt : Owing
three_debt = (3, (codes "a/3", codes "<w@y>"))

-- on the peer's tape: lines 1 and 2 in one flush, line 3 in the next
abbrev pub first_two : List (List Note)
first_two = (one ∷ two ∷ []) ∷ []

abbrev pub all_three : List (List Note)
all_three = (one ∷ two ∷ []) ∷ (three ∷ []) ∷ []

-- on the intake's: the lines up to 2, and then those up to 3, are acknowledged
abbrev pub seen_two : List (List Note)
seen_two = (Seen 2 ∷ []) ∷ []

abbrev pub seen_three : List (List Note)
seen_three = (Seen 2 ∷ []) ∷ (Seen 3 ∷ []) ∷ []

pub none_on_tape : AreOnTape []
none_on_tape = record { are = tt; short = tt; legal = tt }

pub first_two_on_tape : AreOnTape first_two
first_two_on_tape = record {
  are = (
    record {
      notes_are = ((omega arith, refl, refl), ((omega arith, refl, refl), tt));
      several = omega arith;
      fits = omega arith;
    },
    tt,
  );
  short = (omega arith, tt);
  legal = (
    (inl (omega arith, omega arith), omega arith, omega arith),
    ((inl (omega arith, omega arith), omega arith, omega arith), tt),
  );
}

pub all_three_on_tape : AreOnTape all_three
all_three_on_tape = record {
  are = (
    record {
      notes_are = ((omega arith, refl, refl), ((omega arith, refl, refl), tt));
      several = omega arith;
      fits = omega arith;
    },
    ((omega arith, refl, refl), tt),
  );
  short = (omega arith, (omega arith, tt));
  legal = (
    (inl (omega arith, omega arith), omega arith, omega arith),
    (
      (inl (omega arith, omega arith), omega arith, omega arith),
      ((inl (omega arith, omega arith), omega arith, omega arith), tt),
    ),
  );
}

pub seen_two_on_tape : AreOnTape seen_two
seen_two_on_tape = record {
  are = (omega arith, tt);
  short = (omega arith, tt);
  legal = ((omega arith, omega arith), tt);
}

pub seen_three_on_tape : AreOnTape seen_three
seen_three_on_tape = record {
  are = (omega arith, (omega arith, tt));
  short = (omega arith, (omega arith, tt));
  legal = ((omega arith, omega arith), ((omega arith, omega arith), tt));
}

-- what they owe
first_two_owe : (ledger_in first_two).debts ≡ one_debt ∷ two_debt ∷ []
first_two_owe = refl

all_three_owe : (ledger_in all_three).debts ≡ one_debt ∷ two_debt ∷ three_debt ∷ []
all_three_owe = refl

first_two_mark : (ledger_in first_two).mark ≡ 2
first_two_mark = refl

seen_two_mark : (ledger_in seen_two).mark ≡ 2
seen_two_mark = refl

-- ---- octets

-- a note that owes, as it is spelled: its tag, its key, the token and the message-id, each after its length
first_two_octets : octets_of first_two ≡ 0xa5 ∷ 0 ∷ 0 ∷ 0 ∷ 43
    ∷ 11 ∷ 0 ∷ 0 ∷ 0 ∷ 2
    ∷ 1 ∷ 0 ∷ 0 ∷ 0 ∷ 0 ∷ 0 ∷ 0 ∷ 0 ∷ 1 ∷ 3 ∷ 97 ∷ 47 ∷ 49 ∷ 5 ∷ 60 ∷ 120 ∷ 64 ∷ 121 ∷ 62
    ∷ 1 ∷ 0 ∷ 0 ∷ 0 ∷ 0 ∷ 0 ∷ 0 ∷ 0 ∷ 2 ∷ 3 ∷ 97 ∷ 47 ∷ 50 ∷ 5 ∷ 60 ∷ 122 ∷ 64 ∷ 121 ∷ 62
    ∷ 0 ∷ []
first_two_octets = refl

seen_two_octets : octets_of seen_two
    ≡ 0xa5 ∷ 0 ∷ 0 ∷ 0 ∷ 9 ∷ 5 ∷ 0 ∷ 0 ∷ 0 ∷ 0 ∷ 0 ∷ 0 ∷ 0 ∷ 2 ∷ 0 ∷ []
seen_two_octets = refl

-- ---- the calls on the peer's disks

-- both disks are empty, and opened as a tape
abbrev pub made : Log
made = (opened_by [] [], Synced ∷ [])

made_so : made ≡ (Synced ∷ Wrote 0 (0 ∷ []) ∷ Synced ∷ WasCut 0 ∷ Synced ∷ [], Synced ∷ [])
made_so = refl

-- lines 1 and 2 were flushed
abbrev pub two_flushed : Log
two_flushed = (flushed_by [] (one ∷ two ∷ []) made.0, made.1)

-- the third call of the flush of line 3
abbrev pub third_call : Log
third_call = (gate_written first_two (three ∷ []) two_flushed.0, two_flushed.1)

-- 24 octets behind the end gate, a sync, and the gate of the record
third_call_so : third_call ≡ (
  Wrote 48 (0xa5 ∷ []) ∷ Synced
      ∷ Wrote 49
      (0 ∷ 0 ∷ 0 ∷ 19
      ∷ 1 ∷ 0 ∷ 0 ∷ 0 ∷ 0 ∷ 0 ∷ 0 ∷ 0 ∷ 3 ∷ 3 ∷ 97 ∷ 47 ∷ 51 ∷ 5 ∷ 60 ∷ 119 ∷ 64 ∷ 121 ∷ 62
      ∷ 0 ∷ [])
      ∷ two_flushed.0,
  two_flushed.1,
)
third_call_so = refl

-- ---- what a stop may leave at the third call

pub only_two : IsOnly two_flushed.0 (octets_of first_two)
only_two = record { whole = refl; images = λ c is. is }

-- each image of the first disk has one octet at 48, whichever it is, and all others as they were synced
images_are : (c : List ℕ) → Image third_call.0 c
    → (octet : ℕ) × (c ≡ octets_with first_two (three ∷ []) octet)
images_are c is = gate_images first_two (three ∷ []) two_flushed.0 c only_two is

-- and each of these is one
each_may : (octet : ℕ) → Image third_call.0 (octets_with first_two (three ∷ []) octet)
each_may octet = gate_may first_two (three ∷ []) two_flushed.0 octet only_two

-- the four that the choices of a stop leave: as before, torn, written, and torn so that it is the same
abbrev pub choosing : ℕ → ℕ → Choice
choosing happened fill = record { happened = happened; fill = fill }

as_before : chosen_image (choosing 0 0) third_call.0 ≡ octets_with first_two (three ∷ []) 0
as_before = refl

torn : chosen_image (choosing 0 183) third_call.0 ≡ octets_with first_two (three ∷ []) 183
torn = refl

written : chosen_image (choosing 1 0) third_call.0 ≡ octets_with first_two (three ∷ []) 0xa5
written = refl

torn_alike : chosen_image (choosing 0 0xa5) third_call.0 ≡ octets_with first_two (three ∷ []) 0xa5
torn_alike = refl

-- the ledger of each
pub as_before_is : LiesOn (left_by (choosing 0 0) third_call) (ledger_in first_two)
as_before_is = gate_shut first_two (three ∷ []) 0 [] first_two_on_tape (λ same. omega (arith, same)) refl

pub torn_is : LiesOn (left_by (choosing 0 183) third_call) (ledger_in first_two)
torn_is = gate_shut first_two (three ∷ []) 183 [] first_two_on_tape (λ same. omega (arith, same)) refl

pub written_is : LiesOn (left_by (choosing 1 0) third_call) (ledger_in all_three)
written_is = gate_open first_two (three ∷ []) [] first_two_on_tape all_three_on_tape (omega arith, tt) refl

pub torn_alike_is : LiesOn (left_by (choosing 0 0xa5) third_call) (ledger_in all_three)
torn_alike_is = gate_open first_two (three ∷ []) [] first_two_on_tape all_three_on_tape (omega arith, tt) refl

-- ---- the calls before and after it, and what they leave: the ledger before a call, or that after it

pub only_made : IsOnly made.0 (octets_of [])
only_made = record { whole = refl; images = λ c is. is }

pub none_beside : IsOnly made.1 []
none_beside = record { whole = refl; images = λ c is. is }

pub two_leave : (P : State → Type 0) → P start → P (ledger_in first_two) → LedgersLeave P made two_flushed
two_leave P before behind =
    (flush_leaves [] (one ∷ two ∷ []) P made.0 made.1 none_on_tape first_two_on_tape (omega arith, tt) only_made
    none_beside before behind).1

pub third_leave : (P : State → Type 0) → P (ledger_in first_two) → P (ledger_in all_three)
    → LedgersLeave P two_flushed third_call
third_leave P before behind =
    (flush_leaves first_two (three ∷ []) P two_flushed.0 two_flushed.1 first_two_on_tape all_three_on_tape
    (omega arith, tt) only_two none_beside before behind).0

-- the stop left the gate as before; the tape is opened again, and line 3 is flushed after all
abbrev pub peer_left : Log
peer_left = left_by (choosing 0 0) third_call

abbrev pub peer_again : Log
peer_again = (opened_by first_two peer_left.0, Synced ∷ peer_left.1)

abbrev pub three_flushed : Log
three_flushed = (flushed_by first_two (three ∷ []) peer_again.0, peer_again.1)

pub only_again : IsOnly peer_again.0 (octets_of first_two)
only_again = record { whole = refl; images = λ c is. is }

pub only_three : IsOnly three_flushed.0 (octets_of all_three)
only_three = record { whole = refl; images = λ c is. is }

pub none_again : IsOnly peer_again.1 []
none_again = record { whole = refl; images = λ c is. is }

pub again_leave : (P : State → Type 0) → P (ledger_in first_two) → LedgersLeave P peer_left peer_again
again_leave P holds =
    opening_leaves P first_two peer_left.0 peer_left.1 0 (written_behind (payload_of (three ∷ []) ∷ []))
    first_two_on_tape
    (record { whole = refl; images = λ c is. is })
    (λ same. omega (arith, same))
    (record { whole = refl; images = λ c is. is })
    holds

pub three_leave : (P : State → Type 0) → P (ledger_in first_two) → P (ledger_in all_three)
    → LedgersLeave P peer_again three_flushed
three_leave P before behind =
    (flush_leaves first_two (three ∷ []) P peer_again.0 peer_again.1 first_two_on_tape all_three_on_tape
    (omega arith, tt) only_again none_again before behind).1

-- ---- the calls on the intake's disks

abbrev pub seen_flushed : Log
seen_flushed = (flushed_by [] (Seen 2 ∷ []) made.0, made.1)

abbrev pub intake_left : Log
intake_left = left_by (choosing 0 0) seen_flushed

abbrev pub intake_again : Log
intake_again = (opened_by seen_two intake_left.0, Synced ∷ intake_left.1)

abbrev pub seen_again : Log
seen_again = (flushed_by seen_two (Seen 3 ∷ []) intake_again.0, intake_again.1)

-- the stop left nothing else than what had been synced
intake_left_so : intake_left ≡ (Made (octets_of seen_two) ∷ [], Made [] ∷ [])
intake_left_so = refl

pub only_seen : IsOnly seen_flushed.0 (octets_of seen_two)
only_seen = record { whole = refl; images = λ c is. is }

pub only_seen_again : IsOnly intake_again.0 (octets_of seen_two)
only_seen_again = record { whole = refl; images = λ c is. is }

pub only_seen_three : IsOnly seen_again.0 (octets_of seen_three)
only_seen_three = record { whole = refl; images = λ c is. is }

pub seen_leave : (P : State → Type 0) → P start → P (ledger_in seen_two) → LedgersLeave P made seen_flushed
seen_leave P before behind =
    (flush_leaves [] (Seen 2 ∷ []) P made.0 made.1 none_on_tape seen_two_on_tape (omega arith, tt) only_made
    none_beside before behind).1

pub intake_again_leave : (P : State → Type 0) → P (ledger_in seen_two) → LedgersLeave P intake_left intake_again
intake_again_leave P holds =
    opening_leaves P seen_two intake_left.0 intake_left.1 0 [] seen_two_on_tape
    (record { whole = refl; images = λ c is. is })
    tt
    (record { whole = refl; images = λ c is. is })
    holds

pub seen_again_leave : (P : State → Type 0) → P (ledger_in seen_two) → P (ledger_in seen_three)
    → LedgersLeave P intake_again seen_again
seen_again_leave P before behind =
    (flush_leaves seen_two (Seen 3 ∷ []) P intake_again.0 intake_again.1 seen_two_on_tape seen_three_on_tape
    (omega arith, tt) only_seen_again none_again before behind).1

-- what the opening finds there
pub intake_left_is : LiesOn intake_left (ledger_in seen_two)
intake_left_is =
    tape_with seen_two (octets_of seen_two) [] seen_two_on_tape
    (reads_rest (payloads_of seen_two) (omega arith, tt)) refl

-- a stop after the flush of the intake's tape leaves the mark 2
pub seen_may : MayLeave seen_flushed (ledger_in seen_two)
seen_may = (octets_of seen_two, [], refl, refl, intake_left_is)
