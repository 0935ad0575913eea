use Rattle.std.proofs.Common.{refl, ◌∙◌}
use Rattle.crossbeam_queue.specs.Passes.{view}
use Rattle.note_queue.specs.Owns.{put_on}
use Rattle.note_queue.proofs.Owning.{called, count_rises, owner_flushes}
use Rattle.note_queue.proofs.Putting.{rotate_on_disks}
use Rattle.note_queue.proofs.side.Side.rotate.Goals as goal

pub invariant_of-self : goal.invariant_of-self
invariant_of-self g c =
    let old = c.args.self.now in
    let log = view old.pass in
    let rotate = c.rotate.ensures in
    record {
      role = old.role;
      last = old.last;
      ledger = rotate.ledger ∙ old.ledger;
      owner = owner_flushes old.tape c.rotate.new.self log.got_on old.since (put_on log.got old.kept) c.rotate.result
          rotate.continues.honest (λ h stands. (rotate.rotates h stands).ok)
          (λ h stands. (rotate.rotates h stands).stays) old.owner;
    }

pub returns-clause-moments : goal.returns-clause-moments
returns-clause-moments g c =
    let old = c.args.self.now in
    let log = view old.pass in
    called old.tape c.rotate.new.self log.got_on old.since log.got old.kept
    (λ h stands. (c.rotate.ensures.rotates h stands).moments) old.last old.owner

pub returns-clause-on_disks : goal.returns-clause-on_disks
returns-clause-on_disks g c =
    let old = c.args.self.now in
    let rotate = c.rotate.ensures in
    rotate_on_disks old.tape _ c.rotate.result rotate.continues.honest.1
    (λ h stands. (rotate.rotates h stands).ok) old.owner

pub returns-clause-keeps : goal.returns-clause-keeps
returns-clause-keeps g c =
    let old = c.args.self.now in
    let log = view old.pass in
    let rotate = c.rotate.ensures in
    record {
      pass = refl;
      kept = refl;
      ledger = rotate.ledger;
      place = rotate.continues.place;
      since = refl;
      rises = count_rises old.tape c.rotate.new.self log.got_on old.since (put_on log.got old.kept) c.rotate.result
          (λ h stands. (rotate.rotates h stands).ok) (λ h stands. (rotate.rotates h stands).stays) old.owner;
    }
