-- The word is `import`, or another.
use Rattle.std.proofs.Common.{◌≡◌, ◌≢◌, rules}
use Rattle.std.specs.Prelude.{codes}
use Rattle.std.proofs.lemmas.Option.{MatchOption-at_none, MatchOption-at_some}
use Rattle.drill_script.specs.Action.{IsWritten}
use Rattle.drill_script.proofs.Once.{import_acts_not}
use Rattle.drill_script.proofs.Saying.{behind_other}
use Rattle.drill_script.proofs.Tapes.{none_spelt}
use Rattle.drill_script.proofs.step.step_behind.Goals as goal

pub returns-then-ne : goal.returns-then-ne
returns-then-ne c =
    let other : c.args.word.now ≢ codes "import" = search rules in
    behind_other c.args.word.now c.args.rest.now c.step_on.result other c.step_on.ensures

pub returns-in_default : goal.returns-in_default
returns-in_default c =
    let is : c.args.word.now ≡ codes "import" = search rules in
    record {
      acts = import_acts_not c.args.word.now c.args.rest.now is;
      imports = λ same name octets says.
          MatchOption-at_none _ _ c.in_default.is (c.in_ok-peer.ensures {u = tt}) name says.0 says.1 says.2;
    }

pub returns-in-None : goal.returns-in-None
returns-in-None c =
    let is : c.args.word.now ≡ codes "import" = search rules in
    record {
      acts = import_acts_not c.args.word.now c.args.rest.now is;
      imports = λ same. none_spelt IsWritten c.args.rest.now c.in-Some.peer c.in-Some.written.now
          (MatchOption-at_some _ _ _ c.in-Some.is (c.in_ok-peer.ensures {u = tt}))
          (MatchOption-at_none _ _ c.in-None.is (c.in_ok-text.ensures {u = tt}));
    }
