use Rattle.std.proofs.Common.{rules}
use Rattle.std.specs.Prelude.{◌≡◌, IsErrOf}
use Rattle.peer_queue.specs.declared.fault.StationFault.TheVariants.{Tape}
use Rattle.recovery.specs.declared.fault.TapeFault.TheVariants.{TapeFull}
use Rattle.flusher.proofs.Rotated.{acknowledged_behind, continued_behind, kept_behind, left_behind}
use Rattle.flusher.proofs.Rotated.{quiet_behind, refused_not_ok, same_behind}
use Rattle.flusher.proofs.room.flush_or_rotate.Goals as goal

pub returns-then-is_full : goal.returns-then-is_full
returns-then-is_full g c =
    let old = c.args.station.now in
    let left = c.flush_once-flushed.new.station in
    let new = c.rotate_full.new.station in
    let e = c.flush_once-flushed.ensures in
    let r = c.rotate_full.ensures in
    let ended : IsErrOf c.flush_once-flushed.result (Tape TapeFull) = search rules in
    let full = e.full ended in
    let same = same_behind old left c.flush_once-flushed.result ended e.unchanged in
    record {
      flushes = λ h stands. acknowledged_behind h old left new c.rotate_full.result same
          (r.flushes h (same.stands h stands));
      flushed = r.flushed;
      empty = λ none. absurd (refused_not_ok c.flush_once-flushed.result (Tape TapeFull) ended
          ((e.empty none).1 full.0));
      broken = (λ is. absurd (full.0 (same.works.1 (r.broken.0 is))), λ is. absurd (full.0 is));
      full = λ is. record { full = full.1; left = left; same = same; anew = r.full is };
      unchanged = left_behind old left new c.rotate_full.result same r.unchanged;
      breaks = r.breaks;
      kinds = r.kinds;
      keeps = kept_behind old left new same r.keeps;
      continues = continued_behind old left new e.continues r.continues;
      quiet = quiet_behind old left new c.rotate_full.result same r.quiet;
      kept = λ kept. r.kept (e.kept kept);
    }
