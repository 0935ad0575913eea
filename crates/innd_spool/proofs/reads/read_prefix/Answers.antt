use Rattle.innd_spool.proofs.Pieces.{filled_more, prefix_within, kept_prefix}
use Rattle.innd_spool.proofs.reads.read_prefix.Goals as goal
use Rattle.innd_spool.proofs.reads.read_prefix.Goals.{in-Ok, in-Err}

pub loop-preserved : goal.loop-preserved
loop-preserved g c =
    let before = c.loop.invariant in
    let prefix = c.read_more.ensures.prefix in
    elim c.match-read_more.branch [
      | in-Ok w ↦
          let read = w.in-Ok.ensures in
          rw w.filled-is record {
            within = read.fits;
            short = read.most;
            gave = filled_more _ _ _ _ _ _ _ prefix before.gave read.gave;
          }
      | in-Err w ↦
          rw w.filled-is record {
            within = prefix_within _ _ _ before.within prefix;
            short = before.short;
            gave = kept_prefix _ _ _ _ _ _ prefix before.gave w.in-Err.ensures.unchanged;
          }
    ]
