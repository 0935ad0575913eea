use Rattle.std.proofs.Common.{refl, ◌∙◌}
use Rattle.crossbeam_queue.specs.Passes.{view}
use Rattle.note_queue.specs.Owns.{put_on}
use Rattle.note_queue.proofs.Owning.{called, count_rises, owner_flushes}
use Rattle.note_queue.proofs.Putting.{flush_on_disks}
use Rattle.note_queue.proofs.side.Side.flush.Goals as goal

pub invariant_of-self : goal.invariant_of-self
invariant_of-self g c =
    let old = c.args.self.now in
    let log = view old.pass in
    let flush = c.flush.ensures in
    record {
      role = old.role;
      last = old.last;
      ledger = flush.ledger ∙ old.ledger;
      owner = owner_flushes old.tape c.flush.new.self log.got_on old.since (put_on log.got old.kept) c.flush.result
          flush.continues.honest (λ h stands. (flush.flushes h stands).ok) (λ h stands. (flush.flushes h stands).stays)
          old.owner;
    }

pub returns-clause-moments : goal.returns-clause-moments
returns-clause-moments g c =
    let old = c.args.self.now in
    let log = view old.pass in
    called old.tape c.flush.new.self log.got_on old.since log.got old.kept
    (λ h stands. (c.flush.ensures.flushes h stands).moments) old.last old.owner

pub returns-clause-on_disks : goal.returns-clause-on_disks
returns-clause-on_disks g c =
    let old = c.args.self.now in
    let flush = c.flush.ensures in
    flush_on_disks old.tape _ _ c.flush.result flush.continues.honest.1
    (λ h stands. (flush.flushes h stands).ok) old.owner flush.ok

pub returns-clause-keeps : goal.returns-clause-keeps
returns-clause-keeps g c =
    let old = c.args.self.now in
    let log = view old.pass in
    let flush = c.flush.ensures in
    record {
      pass = refl;
      kept = refl;
      ledger = flush.ledger;
      place = flush.continues.place;
      since = refl;
      rises = count_rises old.tape c.flush.new.self log.got_on old.since (put_on log.got old.kept) c.flush.result
          (λ h stands. (flush.flushes h stands).ok) (λ h stands. (flush.flushes h stands).stays) old.owner;
    }
