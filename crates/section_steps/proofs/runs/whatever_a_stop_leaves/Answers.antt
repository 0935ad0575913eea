use Rattle.section_steps.proofs.Kept.{kept}
use Rattle.section_steps.proofs.runs.whatever_a_stop_leaves.Goals as goal

pub returns : goal.returns
returns g c = kept c.each_run_stays_sound.ensures.begins c.each_run_stays_sound.ensures.keeps
    c.all_are_recovered.ensures c.acknowledged_lines_stand.ensures c.sealed_lines_stand.ensures
