-- What the calls under a tape's lock come to.
use Rattle.std.proofs.Common.{◌≡◌, ◌≢◌, ◌+◌, ℕ, Bool, true, List, [], ◌∷◌, ◌++◌, map}
use Rattle.std.proofs.Common.{refl, sym, ap, ◌∙◌, subst, append_assoc, append-nil}
use Rattle.disk_model.specs.declared.Disk.{Ghosts}
use Rattle.ledger_core.specs.declared.note.Note.{Note}
use Rattle.recovery.specs.Leaving.{broken_of}
use Rattle.recovery.specs.LeavingLaws.{same_disks}
use Rattle.recovery.specs.Notes.{noted_all}
use Rattle.recovery.specs.Tape.{StandsFor}
use Rattle.recovery.specs.Words.{IsBroken, disks_of}
use Rattle.sections.specs.Post.{StationPast, with_tape}
use Rattle.sections.specs.Sections.{Call, OfTape}
use Rattle.sections.specs.Sections.OfStation.{Is_called, Is_pulled}
use Rattle.sections.specs.Sections.OfTape.{Is_cut, Is_put, Is_read}
use Rattle.sections.specs.Sections.Section.{Calls, Pulls}
use Rattle.sections.specs.Tapes.{TapePast}
use Rattle.section_steps.proofs.Tapes.{not_true}
use Rattle.section_steps.specs.Stands.{SideSeen, SideStands}
use Rattle.section_steps.specs.Steps.{DoAll, SideDoes}
use Rattle.section_steps.specs.TapeSteps.{TapeStep}

-- a list is cancelled
pub cancel : (xs ys zs : List Note) → xs ++ ys ≡ xs ++ zs → ys ≡ zs
cancel [] ys zs same = same
cancel (x ∷ xs) ys zs same = cancel xs ys zs (let tail : xs ++ ys ≡ xs ++ zs = cc in tail)

-- ---- a call on the disks

-- a call of a tape that runs keeps its notes and where it counts from
same_notes : (was later : TapePast) (call : Call) → OfTape was true call later
    → (later.history.notes ≡ was.history.notes) × (later.history.opened ≡ was.history.opened)
same_notes was later call (Is_put tape put) =
    (ap (λ (t : TapePast). t.history.notes) put.all, ap (λ (t : TapePast). t.history.opened) put.all)
same_notes was later call (Is_cut tape cut) =
    (ap (λ (t : TapePast). t.history.notes) cut.all, ap (λ (t : TapePast). t.history.opened) cut.all)
same_notes was later call (Is_read tape read) =
    (ap (λ (t : TapePast). t.history.notes) read.all, ap (λ (t : TapePast). t.history.opened) read.all)

module _ {D : Type 0} {g : Ghosts D} (before : List Note) (last rank : ℕ) (was : StationPast)
    (old new : SideSeen D g) (items : List Note) (stands : SideStands before old items was) where
  pub does_call : (call : Call) → TapeStep was.tape call new.tape → new.put ≡ old.put → new.kept ≡ old.kept
      → SideDoes before last rank was (Calls rank call ∷ []) new items
  does_call call step put kept =
      let later : StationPast = with_tape was step.later in
      let same = same_notes was.tape step.later call step.does in
      record {
        later = later;
        does = (
          later,
          Is_called rank call step.later (subst (λ (b : Bool). OfTape was.tape b call step.later) (sym stands.runs)
              step.does),
          refl,
        );
        side = record {
          runs = stands.runs;
          tape = step.stands;
          put = same.0 ∙ (stands.put ∙ ap (λ (l : List Note). before ++ l) (sym put));
          queue = stands.queue ∙ ap (λ (l : List Note). l ++ items) (sym kept);
        };
        front = λ front one. record {
          runs = one.runs;
          noted = ap (λ (l : List Note). l ++ was.queue) same.0 ∙ one.noted;
          unsent = one.unsent;
          settled = one.settled ∙ ap (λ (n : ℕ). n + front.settled) (sym same.1);
          counted = ap (λ (n : ℕ). n + (front.settled + front.pending)) same.1 ∙ one.counted;
          cut_off = one.cut_off;
        };
      }

-- ---- notes are pulled

-- these notes were put on the tape, and the queue holds the rest
abbrev pub pulled : StationPast → (more rest : List Note) → StationPast
pulled station more rest =
    record station {
      tape = record station.tape { history = noted_all station.tape.history more };
      queue = rest;
    }

-- a tape that takes notes works
abbrev HasWorked : Bool → List Note → Type 0
HasWorked broken more = more ≢ [] → broken ≡ true → ⊥

pulling : (last rank : ℕ) (station : StationPast) (more rest : List Note) → HasWorked station.tape.broken more
    → station.queue ≡ more ++ rest
    → DoAll last rank station (map (λ (note : Note). Pulls rank) more) (pulled station more rest)
pulling last rank station [] rest works is =
    (λ i. record station {
      tape = record station.tape {
        history = record station.tape.history { notes = append-nil station.tape.history.notes i };
      };
      queue = sym is i;
    })
pulling last rank station (note ∷ more) rest works is =
    let next : StationPast = pulled station (note ∷ []) (more ++ rest) in
    let put = append_assoc station.tape.history.notes (note ∷ []) more in (
      next,
      Is_pulled rank note (more ++ rest) (not_true station.tape.broken (works (λ same. absurd cc))) is,
      subst (λ (l : List Note). DoAll last rank next (map (λ (note : Note). Pulls rank) more)
          (record station {
            tape = record station.tape { history = record station.tape.history { notes = l } };
            queue = rest;
          }))
          put (pulling last rank next more rest (λ some. works (λ same. absurd cc)) refl),
    )

module _ {D : Type 0} {g : Ghosts D} (before : List Note) (last rank : ℕ) (was : StationPast)
    (old new : SideSeen D g) (items left : List Note) (stands : SideStands before old items was) where
  -- What was put on the tape and what is kept and queued now is what was kept and queued before. A tape that takes a
  -- note works.
  pub does_pull : (more : List Note) → (more ≢ [] → IsBroken old.tape → ⊥) → new.put ≡ old.put ++ more
      → old.kept ++ items ≡ more ++ (new.kept ++ left)
      → StandsFor new.tape (noted_all was.tape.history more)
      → disks_of new.tape ≡ disks_of old.tape → broken_of new.tape ≡ broken_of old.tape
      → SideDoes before last rank was (map (λ (note : Note). Pulls rank) more) new left
  does_pull more works put order notes disks broken =
      let rest = new.kept ++ left in
      let later : StationPast = pulled was more rest in
      let same = same_disks new.tape old.tape disks in
      record {
        later = later;
        does = pulling last rank was more rest (λ some broken. works some (stands.tape.broken ∙ broken))
            (stands.queue ∙ order);
        side = record {
          runs = stands.runs;
          tape = record {
            stands = notes;
            log = same.0 ∙ stands.tape.log;
            faults = same.1 ∙ stands.tape.faults;
            broken = broken ∙ stands.tape.broken;
          };
          put = ap (λ (l : List Note). l ++ more) stands.put
              ∙ (append_assoc before old.put more ∙ ap (λ (l : List Note). before ++ l) (sym put));
          queue = refl;
        };
        front = λ front one. record {
          runs = one.runs;
          noted = append_assoc was.tape.history.notes more rest
              ∙ (ap (λ (l : List Note). was.tape.history.notes ++ l) (sym (stands.queue ∙ order)) ∙ one.noted);
          unsent = one.unsent;
          settled = one.settled;
          counted = one.counted;
          cut_off = one.cut_off;
        };
      }
