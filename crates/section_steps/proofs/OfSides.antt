-- What the calls under a tape's lock come to, by their clauses.
use Rattle.std.proofs.Common.{◌≡◌, ◌≢◌, ◌⊎◌, ℕ, ◌+◌, ◌≤◌, List, [], ◌∷◌, map}
use Rattle.std.proofs.Common.{sym, ◌∙◌, inl, inr, arith}
use Rattle.std.specs.Prelude.{Result, Ok, Err, IfOk, IsErrOf}
use Rattle.disk_model.specs.declared.Disk.{Ghosts}
use Rattle.ledger_core.specs.declared.note.Note.{Note}
use Rattle.note_queue.specs.Ends.{IsSameEnd}
use Rattle.note_queue.specs.Words.{tape_of}
use Rattle.note_queue.specs.declared.side.Side.{Side}
use Rattle.recovery.specs.Flushes.{HasFlushed}
use Rattle.recovery.specs.Words.{IsBroken, flushed_of, place_of}
use Rattle.recovery.specs.declared.fault.TapeFault.{TapeFault}
use Rattle.recovery.specs.declared.fault.TapeFault.TheVariants.{Broken, Disk}
use Rattle.recovery.specs.declared.flushed.Flushed.{Flushed}
use Rattle.recovery.specs.declared.tape.Tape.{Tape}
use Rattle.sections.specs.Sections.Call.{Reads}
use Rattle.sections.specs.Sections.Section.{Calls, Pulls}
use Rattle.sections.specs.Tapes.{TapePast}
use Rattle.section_steps.proofs.SideCalls.{flush_puts, flush_refuses, rotation_puts, rotation_refuses, side_pulls}
use Rattle.section_steps.proofs.SideCalls.{side_puts, side_reads}
use Rattle.section_steps.specs.At.{EndsThere, FlushesThere, PutsThere, SideDoesThere, Spot}
use Rattle.section_steps.specs.SideClauses.{IsPopped, SaysFlush, SaysPull, SaysRead, SaysRotate}
use Rattle.section_steps.specs.TapeSteps.{PutsAll, RefusesPut, TapeStands, call_of}

module _ {D : Type 0} {g : Ghosts D} where
  -- as many notes as a tape counts, from its opening on, are on its disks
  counted_there : (past : TapePast) (tape : Tape D g) (count : ℕ) → TapeStands past tape → count ≡ flushed_of tape
      → past.history.opened + count ≤ past.history.kept
  counted_there past tape count stands is = omega (arith, is, stands.stands.count, stands.stands.opened)

  module _ (at : Spot) (old new : Side D g) (items : List Note) (stands : EndsThere at old items) where
    pub read : SaysRead old new
        → SideDoesThere at (Calls at.rank Reads ∷ []) new items
    read says = side_reads at.before at.last at.rank at.was old new items stands says.keeps says.reads

    pub pull : (left : List Note) (says : SaysPull old new) → IsPopped old items new left
        → SideDoesThere at (map (λ (note : Note). Pulls at.rank) says.puts.more) new left
    pull left says popped =
        side_pulls at.before at.last at.rank at.was old new items left stands says.puts says.keeps popped

    -- the tape is broken now, if a disk failed or it was before
    tells_broken : {T : Type 0} (result : Result T TapeFault) → RefusesPut (tape_of old) (tape_of new) result
        → IsErrOf result Disk ⊎ IsErrOf result Broken → IsBroken (tape_of new)
    tells_broken result refuses (inl disk) = refuses.breaks disk
    tells_broken (Ok answer) refuses (inr broken) = absurd cc
    tells_broken (Err fault) refuses (inr broken) =
        let is : fault ≡ Broken = cc in
        let same : fault ≢ Disk = λ disk. let wrong : Broken ≡ Disk = sym is ∙ disk in absurd cc in
        (refuses.unchanged same).works.0 (refuses.broken.0 broken)

    puts_there : {T : Type 0} (result : Result T TapeFault) → IsSameEnd old new
        → PutsAll at.was.tape.history (tape_of old) (tape_of new) result
        → RefusesPut (tape_of old) (tape_of new) result → PutsThere at new items result
    puts_there result keeps puts refuses =
        let does : SideDoesThere at (Calls at.rank (call_of result) ∷ []) new items =
        side_puts at.before at.last at.rank at.was old new items stands keeps result puts refuses in
        record {
          does = does;
          breaks = λ fault. sym does.side.tape.broken ∙ tells_broken result refuses fault;
        }

    pub flush : (result : Result Flushed TapeFault) → SaysFlush old new result → FlushesThere at new items result
    flush result says =
        let puts : PutsThere at new items result =
        puts_there result says.keeps
        (flush_puts at.was.tape.history (tape_of old) (tape_of new) result
        (says.flushes at.was.tape.history stands.tape.stands))
        (flush_refuses (tape_of old) (tape_of new) result says.refuses says.goes_on.quiet) in
        record { puts = puts; answers = answered result says.ok puts.does.later.tape puts.does.side.tape }
      where
        answered : (result : Result Flushed TapeFault)
            → IfOk result (HasFlushed (place_of (tape_of old)) (tape_of old) (tape_of new)) → (past : TapePast)
            → TapeStands past (tape_of new)
            → IfOk result (λ flushed. past.history.opened + flushed.count ≤ past.history.kept)
        answered (Ok flushed) ok past stands = counted_there past (tape_of new) flushed.count stands ok.count
        answered (Err fault) ok past stands = tt

    pub rotate : (result : Result ℕ TapeFault) → SaysRotate old new result → PutsThere at new items result
    rotate result says =
        puts_there result says.keeps
        (rotation_puts at.was.tape.history (tape_of old) (tape_of new) result
        (says.rotates at.was.tape.history stands.tape.stands))
        (rotation_refuses (tape_of old) (tape_of new) result says.refuses says.goes_on.quiet)
