-- A segment whose payloads are judged as they are read.
use Rattle.std.proofs.Common.{◌≡◌, ◌↔◌, inr, ℕ, List, length, take, refl, ap, ◌∙◌, subst, arith}
use Rattle.std.specs.Prelude.{Ok, Err}
use Rattle.disk_model.specs.Disk.{HasRisen, content}
use Rattle.disk_model.specs.declared.Disk.{Ghosts}
use Rattle.tape_journal.specs.Records.{HasEnded, KeepsDisk}
use Rattle.tape_journal.specs.Segment.{records}
use Rattle.tape_journal.specs.declared.fault.OpenFault.{OpenFault}
use Rattle.tape_journal.specs.declared.fault.OpenFault.TheVariants.{Disk}
use Rattle.tape_journal.specs.declared.records.SegmentReader.{SegmentReader}
use Rattle.ledger_core.specs.Restoring.{StopsWith}
use Rattle.ledger_core.specs.declared.restoring.RefusedPayload.{RefusedPayload}
use Rattle.recovery.specs.Image.{LeavesNothingAt}
use Rattle.recovery.proofs.Indexed.{records-long}
use Rattle.recovery.proofs.Payloads.{length-records-take}

module _ {D : Type 0} {g : Ghosts D} where
  -- nothing has happened to the disk, which reported no fault
  pub record IsSameDisk (old new : SegmentReader D g) : Type 0 where
    pub honest : g.honest old.disk ↔ g.honest new.disk
    pub log : g.honest old.disk → g.log new.disk ≡ g.log old.disk
    pub faults : g.faults_of new.disk ≡ g.faults_of old.disk

  pub same_start : (reader : SegmentReader D g) → IsSameDisk reader reader
  same_start reader = record {
    honest = (λ honest. honest, λ honest. honest);
    log = λ honest. refl;
    faults = refl;
  }

  -- one record was read, or the segment's end
  pub same_then : {T : Type 0} (old now new : SegmentReader D g) (value : T) → IsSameDisk old now
      → KeepsDisk {T = T} now new (Ok value) → IsSameDisk old new
  same_then old now new value same keeps = record {
    honest = (λ honest. keeps.honest.0 (same.honest.0 honest), λ honest. same.honest.1 (keeps.honest.1 honest));
    log = λ honest. keeps.log (same.honest.0 honest) ∙ same.log honest;
    faults = keeps.quiet ∙ same.faults;
  }

  pub same_kept : {T : Type 0} (old new : SegmentReader D g) (value : T) → IsSameDisk old new
      → KeepsDisk {T = T} old new (Ok value)
  same_kept old new value same = record {
    honest = same.honest;
    log = same.log;
    later = omega (arith, same.faults);
    cause = λ honest is. absurd (cc is);
    quiet = same.faults;
  }

  -- or that failed
  pub fault_kept : {T U : Type 0} (old now new : SegmentReader D g) (fault : OpenFault) → IsSameDisk old now
      → KeepsDisk {T = T} now new (Err fault) → KeepsDisk {T = U} old new (Err fault)
  fault_kept old now new fault same keeps = record {
    honest = (λ honest. keeps.honest.0 (same.honest.0 honest), λ honest. same.honest.1 (keeps.honest.1 honest));
    log = λ honest. keeps.log (same.honest.0 honest) ∙ same.log honest;
    later = omega (arith, same.faults, keeps.later);
    cause = λ honest is.
        let is_disk : fault ≡ Disk = cc is in
        subst (λ (n : ℕ). HasRisen n (g.faults_of new.disk)) same.faults
        (keeps.cause (same.honest.0 honest) (ap Err is_disk));
    quiet = tt;
  }

  -- a payload was refused, so that the segment gives no ledger
  pub nothing_left : (reader : SegmentReader D g) (payloads : List (List ℕ)) (refused : RefusedPayload)
      → HasEnded reader payloads → StopsWith payloads refused
      → LeavesNothingAt (content (g.log reader.disk)) refused.at
  nothing_left reader payloads refused ended stops =
      let place : refused.at ≡ length (records (take stops.index payloads)) = omega (
        arith,
        stops.at_is,
        records-long (take stops.index payloads),
        length-records-take payloads stops.index,
        ended.has.end_is,
        reader.fits,
      ) in
      inr (payloads, stops.index, ended.has.reads, stops.stops, place)
