use Rattle.drill.proofs.Playing.{text_told}
use Rattle.drill.proofs.play.play.Goals as goal

pub returns-in-Ok : goal.returns-in-Ok
returns-in-Ok c = text_told c.args.text.now c.in-Ok.script c.play_script.result c.in-Ok.ensures.ok c.play_script.ensures
