-- A step that was refused.
use Rattle.drill.proofs.Playing.{stopped_told}
use Rattle.drill.proofs.play.play_script.Goals as goal

pub returns : goal.returns
returns c =
    stopped_told c.args.script c.in-Ok.world c.run.new.self c.in-Err-run.fault c.refused.result
    c.deref.result.now c.deref-in-Err-run.result.now c.deref.ensures.value c.deref-in-Err-run.ensures.value
    c.in-Ok.ensures.begins c.in-Err-run.ensures.ends c.requires.placed c.refused.ensures.prints
    c.refused.ensures.no_memory c.refused.ensures.refused
