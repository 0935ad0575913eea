use Rattle.std.proofs.Common.{rules, ◌∙◌}
use Rattle.crossbeam_queue.specs.Passes.{view}
use Rattle.note_queue.proofs.Owning.{pulled}
use Rattle.note_queue.proofs.Putting.{puts_then, takes_then}
use Rattle.note_queue.proofs.side.Side.pull.Goals as goal

pub returns-in_err-put_kept-clause-moments : goal.returns-in_err-put_kept-clause-moments
returns-in_err-put_kept-clause-moments g c =
    let new = c.put_kept.new.self in
    let log = view new.pass in
    pulled c.args.self.now.tape new.tape log.got_on new.since log.got new.kept c.put_kept.ensures.keeps.disks
    c.put_kept.ensures.puts.flushed new.last new.owner

pub returns-in_err-take_one-clause-moments : goal.returns-in_err-take_one-clause-moments
returns-in_err-take_one-clause-moments g c =
    let old = c.args.self.now in
    let new = c.take_one.new.self in
    let log = view new.pass in
    let before = c.loop.invariant in
    let puts = puts_then old c.loop.self new before.1 before.3 c.take_one.ensures.puts in
    pulled old.tape new.tape log.got_on new.since log.got new.kept
    (c.take_one.ensures.keeps.disks ∙ before.1.disks) puts.flushed new.last new.owner

pub returns-then-not-branch-clause-moments : goal.returns-then-not-branch-clause-moments
returns-then-not-branch-clause-moments g c =
    let old = c.args.self.now in
    let new = c.take_one.new.self in
    let log = view new.pass in
    let before = c.loop.invariant in
    let puts = puts_then old c.loop.self new before.1 before.3 c.take_one.ensures.puts in
    pulled old.tape new.tape log.got_on new.since log.got new.kept
    (c.take_one.ensures.keeps.disks ∙ before.1.disks) puts.flushed new.last new.owner

pub returns-in_err-take_one-clause-puts : goal.returns-in_err-take_one-clause-puts
returns-in_err-take_one-clause-puts g c =
    let before = c.loop.invariant in
    puts_then c.args.self.now c.loop.self c.take_one.new.self before.1 before.3 c.take_one.ensures.puts

pub returns-then-not-branch-clause-puts : goal.returns-then-not-branch-clause-puts
returns-then-not-branch-clause-puts g c =
    let before = c.loop.invariant in
    puts_then c.args.self.now c.loop.self c.take_one.new.self before.1 before.3 c.take_one.ensures.puts

pub loop-preserved : goal.loop-preserved
loop-preserved g c =
    let old = c.args.self.now in
    let mid = c.loop.self in
    let new = c.take_one.new.self in
    let before = c.loop.invariant in
    let one = c.take_one.ensures in (
      takes_then old.pass mid.pass new.pass before.0 one.takes,
      record {
        disks = one.keeps.disks ∙ before.1.disks;
        place = one.keeps.place ∙ before.1.place;
        works = (
          λ broken. one.keeps.works.0 (before.1.works.0 broken),
          λ broken. before.1.works.1 (one.keeps.works.1 broken),
        );
      },
      search rules,
      puts_then old mid new before.1 before.3 one.puts,
    )
