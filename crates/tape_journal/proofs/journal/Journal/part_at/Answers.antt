use Rattle.std.proofs.Common.{◌≡◌, ◌∙◌, ℕ, List, drop, take, ap, subst, arith, refl}
use Rattle.disk_model.specs.Disk.{content}
use Rattle.tape_journal.specs.declared.fault.OpenFault.{OpenFault}
use Rattle.tape_journal.specs.declared.fault.OpenFault.TheVariants.{Damaged, Disk, NoMemory}
use Rattle.tape_journal.specs.declared.fault.ReadFault.TheVariants.{Disk as ReadDisk}
use Rattle.tape_journal.specs.Segment.{IsCutShort}
use Rattle.tape_journal.specs.SegmentLaws.{whole_uncut}
use Rattle.tape_journal.specs.Words.{read_fault}
use Rattle.tape_journal.proofs.Reading.{record_there, gate_within, one_record, record_ends, AllShort-mid}
use Rattle.tape_journal.proofs.journal.Journal.part_at.Goals as goal

-- a fault of the disk, if no record is cut short
disk_alone : {Q : Type 0} (fault : OpenFault) → read_fault fault ≡ ReadDisk
    → ((at : ℕ) → fault ≡ Damaged at → ⊥) → (fault ≡ Disk → Q) → Q
disk_alone (Damaged at) is whole disk = absurd (whole at refl)
disk_alone Disk is whole disk = disk refl
disk_alone NoMemory is whole disk = absurd (cc is)

pub part_of-found-requires-clause-shows : goal.part_of-found-requires-clause-shows
part_of-found-requires-clause-shows g c honest = record { same = c.args.self.now.shows honest }

pub part_of-found-requires-clause-shows_head : goal.part_of-found-requires-clause-shows_head
part_of-found-requires-clause-shows_head g c honest = record { same = c.args.self.now.shows_head honest }

pub returns-then-len-offset-clause-cause : goal.returns-then-len-offset-clause-cause
returns-then-len-offset-clause-cause g c prefix more payload holds place told =
    let all = content (g.D.Disk.log c.args.self.now.disk) in
    let within = gate_within all prefix more payload c.args.offset holds.rest.only.whole place in
    absurd (omega (arith, within, c.len-len.ensures.content holds.honest))

pub returns-in-Ok-Some-clause-part : goal.returns-in-Ok-Some-clause-part
returns-in-Ok-Some-clause-part g c prefix more payload holds place =
    let all = content (g.D.Disk.log c.args.self.now.disk) in
    let len = c.len-len.ensures.content holds.honest in
    let is = rw c.in-Ok-Some.field-0-is at (c.in-Ok-Some.ensures.reads holds.honest len) in
    let short = AllShort-mid prefix more payload holds.rest.short in
    let same = one_record (drop c.args.offset all) _ is.payload payload short is.is
    (record_there all prefix more payload c.args.offset holds.rest.only.whole place) in
    is.part_is ∙ ap (λ (l : List ℕ). take c.args.most (drop c.args.from l)) same

pub returns-in-Ok-None-clause-cause : goal.returns-in-Ok-None-clause-cause
returns-in-Ok-None-clause-cause g c prefix more payload holds place told =
    let all = content (g.D.Disk.log c.args.self.now.disk) in
    let len = c.len-len.ensures.content holds.honest in
    let ends = rw c.in-Ok-None.field-0-is at (c.in-Ok-None.ensures.reads holds.honest len) in
    let there = record_there all prefix more payload c.args.offset holds.rest.only.whole place in
    absurd (record_ends (drop c.args.offset all) _ payload there ends)

pub returns-in-Err-clause-cause : goal.returns-in-Err-clause-cause
returns-in-Err-clause-cause g c prefix more payload holds place told =
    let all = content (g.D.Disk.log c.args.self.now.disk) in
    let len = c.len-len.ensures.content holds.honest in
    let there = record_there all prefix more payload c.args.offset holds.rest.only.whole place in
    disk_alone c.in-Err.fault (cc (told, c.read_fault_of.ensures))
    (λ at is. whole_uncut payload _ (AllShort-mid prefix more payload holds.rest.short)
    (subst IsCutShort there (c.in-Err.ensures.damaged holds.honest len at (cc is)).1))
    (λ is. c.in-Err.ensures.cause holds.honest len (cc is))
