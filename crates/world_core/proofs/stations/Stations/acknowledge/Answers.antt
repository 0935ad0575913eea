-- The intake's flush is one event.
use Rattle.std.proofs.Common.{refl}
use Rattle.world_core.proofs.IntakeCalls.{did_acknowledge, failed_acknowledge}
use Rattle.world_core.proofs.stations.Stations.acknowledge.Goals as goal

pub returns-in-Ok-clause-ok : goal.returns-in-Ok-clause-ok
returns-in-Ok-clause-ok g c = λ past stands.
    let is = c.in-Ok.ensures in
    let h = past.intake.history in
    did_acknowledge g.met.D.Disk.content_is_image c.args.self.now _ past c.flush.new.self stands
    (record { peers = refl; intake = refl; last = refl; begun = refl }) ((is.flushes h stands.intake.stands).moments)
    (λ b. let never = is.refuses.broken.1 b in
    cc) is.refuses.works (λ full.
    let never = is.refuses.full.1 ((λ b. let broken = is.refuses.broken.1 b in cc), full) in cc)
    is.empty ((is.flushes h stands.intake.stands).ok) is.quiet

pub returns-in-Err-clause-err : goal.returns-in-Err-clause-err
returns-in-Err-clause-err g c = λ past stands.
    let is = c.in-Err.ensures in
    let h = past.intake.history in
    failed_acknowledge g.met.D.Disk.content_is_image c.args.self.now _ past c.flush.new.self stands
    (record { peers = refl; intake = refl; last = refl; begun = refl }) ((is.flushes h stands.intake.stands).moments)
    c.in-Err.fault c.from_tape.result c.from_tape.ensures (
      (λ e. is.refuses.broken.0 cc),
      λ b. let e = is.refuses.broken.1 b in cc,
    ) (
      (λ e. is.refuses.full.0 cc),
      λ both. let e = is.refuses.full.1 both in
          cc,
    ) (λ none works. let never = is.empty_ok none works in cc)
    is.refuses.kinds is.refuses.unchanged (λ e. is.refuses.breaks cc)
    (λ e. (is.flushes h stands.intake.stands).cause cc) ((is.flushes h stands.intake.stands).stays)
