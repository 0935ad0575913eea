use Rattle.std.proofs.Common.{refl, ◌∙◌}
use Rattle.crossbeam_queue.specs.Passes.{view}
use Rattle.recovery.specs.DiskLaws.{ledger-read}
use Rattle.note_queue.specs.Owns.{put_on}
use Rattle.note_queue.proofs.Owning.{count_still, looked, owner_stays}
use Rattle.note_queue.proofs.side.Side.debt.Goals as goal

pub invariant_of-self : goal.invariant_of-self
invariant_of-self g c =
    let old = c.args.self.now in
    let v = view old.pass in
    let reads = c.debt.ensures.reads in
    record {
      role = old.role;
      last = old.last;
      ledger = ledger-read old.tape c.debt.new.self reads ∙ old.ledger;
      owner = owner_stays old.tape c.debt.new.self v.got_on old.since (put_on v.got old.kept) reads.continues.honest.1
          reads.stands old.owner;
    }

pub returns-clause-moments : goal.returns-clause-moments
returns-clause-moments g c =
    let old = c.args.self.now in
    let v = view old.pass in
    looked old.tape c.debt.new.self v.got_on old.since v.got old.kept c.debt.ensures.reads old.last old.owner

pub returns-clause-keeps : goal.returns-clause-keeps
returns-clause-keeps g c =
    let old = c.args.self.now in
    let v = view old.pass in
    let reads = c.debt.ensures.reads in
    record {
      pass = refl;
      kept = refl;
      ledger = ledger-read old.tape c.debt.new.self reads;
      place = reads.continues.place;
      since = refl;
      rises = count_still old.tape c.debt.new.self v.got_on old.since (put_on v.got old.kept) reads.stands old.owner;
    }
