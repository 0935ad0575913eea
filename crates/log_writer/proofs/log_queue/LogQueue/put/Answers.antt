use Rattle.std.proofs.Common.{rules, ◌≡◌, ◌++◌, ◌∷◌, [], subst, sym}
use Rattle.log_writer.specs.LogQueue.{State, StandsFor, lost, with_line}
use Rattle.log_writer.proofs.Telling.{lose_last, put_last}
use Rattle.log_writer.proofs.log_queue.LogQueue.put.Goals.{in-Ok, in-Err}
use Rattle.log_writer.proofs.log_queue.LogQueue.put.Goals as goal

pub returns-clause-stands : goal.returns-clause-stands
returns-clause-stands c written lines few stands =
    let T : State → Type 0 = λ s. StandsFor s written (lines ++ c.args.line.items ∷ []) in
    elim c.match-try_push_back.branch [
      | in-Ok w ↦
          (let is : c.match-try_push_back.self ≡ with_line c.args.self.now c.args.line = search rules in
          subst T (sym is) (put_last c.args.self.now c.args.line written lines stands))
      | in-Err w ↦
          (let is : c.match-try_push_back.self ≡ lost c.args.self.now = search rules in
          subst T (sym is) (lose_last c.args.self.now c.args.line.items written lines few stands))
    ]
