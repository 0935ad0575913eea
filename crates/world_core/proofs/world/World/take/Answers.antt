-- Each step is its own function's.
use Rattle.std.proofs.Common.{List, ℕ, subst}
use Rattle.world_core.specs.Exchange.{FailsToRead, OnPair, RefusesOn, TakesBytes}
use Rattle.world_core.specs.Runs.{RefusesWorld}
use Rattle.world_core.proofs.Results.{if_err_map, on_ok_map}
use Rattle.world_core.proofs.StepsOfWorlds.{as_step, as_step_not, made_took, refused_not}
use Rattle.world_core.proofs.world.World.take.Goals as goal

pub returns-in-Connect-clause-ok : goal.returns-in-Connect-clause-ok
returns-in-Connect-clause-ok c = λ life stands.
    as_step c.args.step.now _ c.connect.result life _ _ c.in-Connect.is
    (on_ok_map c.connect.result _ _ (c.connect.ensures.ok life stands) (made_took _ _ life _ _ (λ outputs later t. t)))

pub returns-in-Connect-clause-err : goal.returns-in-Connect-clause-err
returns-in-Connect-clause-err c = λ life stands.
    as_step_not c.args.step.now _ c.connect.result life _ c.in-Connect.is
    (if_err_map c.connect.result _ _ (c.connect.ensures.err life stands) (refused_not _ _ life _ (λ fault later r. r)))

pub returns-in-Hand-clause-ok : goal.returns-in-Hand-clause-ok
returns-in-Hand-clause-ok c = λ life stands.
    as_step c.args.step.now _ c.hand.result life _ _ c.in-Hand.is
    (on_ok_map c.hand.result _ _ (c.hand.ensures.ok life stands) (made_took _ _ life _ _ (λ outputs later t. t)))

pub returns-in-Hand-clause-err : goal.returns-in-Hand-clause-err
returns-in-Hand-clause-err c = λ life stands.
    as_step_not c.args.step.now _ c.hand.result life _ c.in-Hand.is
    (if_err_map c.hand.result _ _ (c.hand.ensures.err life stands) (refused_not _ _ life _ (λ fault later r. r)))

pub returns-in-Bytes-clause-ok : goal.returns-in-Bytes-clause-ok
returns-in-Bytes-clause-ok c = λ life stands.
    as_step c.args.step.now _ c.bytes.result life _ _ c.in-Bytes.is
    (on_ok_map c.bytes.result _ _ (c.bytes.ensures.ok life stands)
    (made_took _ _ life _ _ (λ outputs later t. (
      t.0,
      subst (λ (octets : List ℕ). OnPair (TakesBytes octets) c.in-Bytes.id life outputs later)
          c.deref.ensures.value t.1,
    ))))

pub returns-in-Bytes-clause-err : goal.returns-in-Bytes-clause-err
returns-in-Bytes-clause-err c = λ life stands.
    as_step_not c.args.step.now _ c.bytes.result life _ c.in-Bytes.is
    (if_err_map c.bytes.result _ _ (c.bytes.ensures.err life stands)
    (refused_not _ _ life _
    (λ fault later r. subst (λ (octets : List ℕ).
    RefusesWorld (RefusesOn (FailsToRead octets) c.in-Bytes.id) life fault later) c.deref.ensures.value r)))

pub returns-in-Article-clause-ok : goal.returns-in-Article-clause-ok
returns-in-Article-clause-ok c = λ life stands.
    as_step c.args.step.now _ c.article.result life _ _ c.in-Article.is
    (on_ok_map c.article.result _ _ (c.article.ensures.ok life stands) (made_took _ _ life _ _ (λ outputs later t. t)))

pub returns-in-Article-clause-err : goal.returns-in-Article-clause-err
returns-in-Article-clause-err c = λ life stands.
    as_step_not c.args.step.now _ c.article.result life _ c.in-Article.is
    (if_err_map c.article.result _ _ (c.article.ensures.err life stands) (refused_not _ _ life _ (λ fault later r. r)))

pub returns-in-Break-clause-ok : goal.returns-in-Break-clause-ok
returns-in-Break-clause-ok c = λ life stands.
    as_step c.args.step.now _ c.break_off.result life _ _ c.in-Break.is
    (on_ok_map c.break_off.result _ _ (c.break_off.ensures.ok life stands) (made_took _ _ life _ _ (λ outputs later
    t. t)))

pub returns-in-Break-clause-err : goal.returns-in-Break-clause-err
returns-in-Break-clause-err c = λ life stands.
    as_step_not c.args.step.now _ c.break_off.result life _ c.in-Break.is
    (if_err_map c.break_off.result _ _ (c.break_off.ensures.err life stands)
    (refused_not _ _ life _ (λ fault later r. r)))

pub returns-in-Tick-clause-ok : goal.returns-in-Tick-clause-ok
returns-in-Tick-clause-ok c = λ life stands.
    as_step c.args.step.now _ c.tick.result life _ _ c.in-Tick.is
    (on_ok_map c.tick.result _ _ (c.tick.ensures.ok life stands) (made_took _ _ life _ _ (λ outputs later t. t)))

pub returns-in-Tick-clause-err : goal.returns-in-Tick-clause-err
returns-in-Tick-clause-err c = λ life stands.
    as_step_not c.args.step.now _ c.tick.result life _ c.in-Tick.is
    (if_err_map c.tick.result _ _ (c.tick.ensures.err life stands) (refused_not _ _ life _ (λ fault later r. r)))

pub returns-in-Stop-clause-ok : goal.returns-in-Stop-clause-ok
returns-in-Stop-clause-ok c = λ life stands.
    as_step c.args.step.now _ c.stop.result life _ _ c.in-Stop.is
    (on_ok_map c.stop.result _ _ (c.stop.ensures.ok life stands) (made_took _ _ life _ _ (λ outputs later t. t)))

pub returns-in-Stop-clause-err : goal.returns-in-Stop-clause-err
returns-in-Stop-clause-err c = λ life stands.
    as_step_not c.args.step.now _ c.stop.result life _ c.in-Stop.is
    (if_err_map c.stop.result _ _ (c.stop.ensures.err life stands) (refused_not _ _ life _ (λ fault later r. r)))

pub returns-in-Line-clause-ok : goal.returns-in-Line-clause-ok
returns-in-Line-clause-ok c =
    λ life stands. as_step c.args.step.now _ c.line.result life _ _ c.in-Line.is (c.line.ensures.ok life stands)

pub returns-in-Line-clause-err : goal.returns-in-Line-clause-err
returns-in-Line-clause-err c =
    λ life stands. as_step_not c.args.step.now _ c.line.result life _ c.in-Line.is (c.line.ensures.err life stands)

pub returns-in-Flush-clause-ok : goal.returns-in-Flush-clause-ok
returns-in-Flush-clause-ok c =
    λ life stands. as_step c.args.step.now _ c.flush.result life _ _ c.in-Flush.is (c.flush.ensures.ok life stands)

pub returns-in-Flush-clause-err : goal.returns-in-Flush-clause-err
returns-in-Flush-clause-err c =
    λ life stands. as_step_not c.args.step.now _ c.flush.result life _ c.in-Flush.is (c.flush.ensures.err life stands)

pub returns-in-Begin-clause-ok : goal.returns-in-Begin-clause-ok
returns-in-Begin-clause-ok c =
    λ life stands. as_step c.args.step.now _ c.begin.result life _ _ c.in-Begin.is (c.begin.ensures.ok life stands)

pub returns-in-Begin-clause-err : goal.returns-in-Begin-clause-err
returns-in-Begin-clause-err c =
    λ life stands. as_step_not c.args.step.now _ c.begin.result life _ c.in-Begin.is (c.begin.ensures.err life stands)

pub returns-in-Part-clause-ok : goal.returns-in-Part-clause-ok
returns-in-Part-clause-ok c =
    λ life stands. as_step c.args.step.now _ c.part.result life _ _ c.in-Part.is (c.part.ensures.ok life stands)

pub returns-in-Part-clause-err : goal.returns-in-Part-clause-err
returns-in-Part-clause-err c =
    λ life stands. as_step_not c.args.step.now _ c.part.result life _ c.in-Part.is (c.part.ensures.err life stands)

pub returns-in-Seal-clause-ok : goal.returns-in-Seal-clause-ok
returns-in-Seal-clause-ok c =
    λ life stands. as_step c.args.step.now _ c.seal.result life _ _ c.in-Seal.is (c.seal.ensures.ok life stands)

pub returns-in-Seal-clause-err : goal.returns-in-Seal-clause-err
returns-in-Seal-clause-err c =
    λ life stands. as_step_not c.args.step.now _ c.seal.result life _ c.in-Seal.is (c.seal.ensures.err life stands)

pub returns-in-Shed-clause-ok : goal.returns-in-Shed-clause-ok
returns-in-Shed-clause-ok c =
    λ life stands. as_step c.args.step.now _ c.shed.result life _ _ c.in-Shed.is (c.shed.ensures.ok life stands)

pub returns-in-Shed-clause-err : goal.returns-in-Shed-clause-err
returns-in-Shed-clause-err c =
    λ life stands. as_step_not c.args.step.now _ c.shed.result life _ c.in-Shed.is (c.shed.ensures.err life stands)

pub returns-in-Rotate-clause-ok : goal.returns-in-Rotate-clause-ok
returns-in-Rotate-clause-ok c =
    λ life stands. as_step c.args.step.now _ c.rotate.result life _ _ c.in-Rotate.is (c.rotate.ensures.ok life stands)

pub returns-in-Rotate-clause-err : goal.returns-in-Rotate-clause-err
returns-in-Rotate-clause-err c =
    λ life stands. as_step_not c.args.step.now _ c.rotate.result life _ c.in-Rotate.is
    (c.rotate.ensures.err life stands)

pub returns-in-Restart-clause-ok : goal.returns-in-Restart-clause-ok
returns-in-Restart-clause-ok c =
    λ life stands. as_step c.args.step.now _ c.restart.result life _ _ c.in-Restart.is
    (c.restart.ensures.ok life stands)

pub returns-in-Restart-clause-err : goal.returns-in-Restart-clause-err
returns-in-Restart-clause-err c =
    λ life stands. as_step_not c.args.step.now _ c.restart.result life _ c.in-Restart.is
    (c.restart.ensures.err life stands)

pub returns-in-Import-clause-ok : goal.returns-in-Import-clause-ok
returns-in-Import-clause-ok c =
    λ life stands. as_step c.args.step.now _ c.import.result life _ _ c.in-Import.is (c.import.ensures.ok life stands)

pub returns-in-Import-clause-err : goal.returns-in-Import-clause-err
returns-in-Import-clause-err c =
    λ life stands. as_step_not c.args.step.now _ c.import.result life _ c.in-Import.is
    (c.import.ensures.err life stands)
