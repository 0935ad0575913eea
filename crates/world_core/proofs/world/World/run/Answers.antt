-- One more step at each turn.
use Rattle.std.proofs.Common.{◌≡◌, ◌∙◌, ◌++◌, ◌∷◌, [], List, take, length, ◌<◌, refl, sym, ap, subst, inl, arith}
use Rattle.std.proofs.lemmas.List.{take_all, take_more}
use Rattle.std.proofs.lemmas.Option.{slice_get_read}
use Rattle.world_core.specs.Stands.{Ran}
use Rattle.world_core.specs.Output.{views_by}
use Rattle.world_core.specs.declared.step.Step.{Step}
use Rattle.world_core.proofs.NamesOverRuns.{names_runs, names_stage}
use Rattle.world_core.proofs.Runs.{ran_more, ran_none, was_refused}
use Rattle.world_core.proofs.world.World.run.Goals as goal

pub loop-index-init : goal.loop-index-init
loop-index-init c = record {
  ran = λ life stands. ran_none [] life c.in-Ok.lines.items c.args.self.now refl c.in-Ok.ensures.empty stands;
  count = omega (arith, ap length c.in-Ok.ensures.empty);
  room = c.in-Ok.ensures.room;
}

pub loop-index-preserved : goal.loop-index-preserved
loop-index-preserved c =
    let loop = c.loop-index in
    let steps = c.args.steps.now in
    let step = c.index-steps-index.result in
    let within : loop.index < length steps = omega (arith, c.loop-index-test.true) in
    record {
      ran = λ life stands.
          let ran = loop.invariant.ran life stands in
          ran_more (take loop.index steps) _ step life loop.lines.items c.push_reserved.new.self.items c.take.new.out
          loop.self c.take.new.self
          (take_more steps loop.index step within
          ∙ ap (λ (s : Step). take loop.index steps ++ s ∷ []) (sym c.index-steps-index.is))
          c.push_reserved.ensures.items ran (c.in_default-take.ensures.ok ran.later ran.stands);
      count = omega (arith, c.push_reserved.ensures.len, loop.invariant.count);
      room = omega (arith, c.push_reserved.ensures.capacity, loop.invariant.room);
    }

pub returns-in-Err-clause-ends : goal.returns-in-Err-clause-ends
returns-in-Err-clause-ends c = λ life stands.
    let loop = c.loop-index in
    let steps = c.args.steps.now in
    let within : loop.index < length steps = omega (arith, c.loop-index-test.true) in
    let ran = loop.invariant.ran life stands in
    inl (was_refused steps loop.index c.index-steps-index.result life _ loop.self c.take.new.self refl
    (slice_get_read steps (length steps) loop.index c.index-steps-index.result refl within c.index-steps-index.is) ran
    (c.in-Err.ensures.err ran.later ran.stands))

pub returns-clause-reports : goal.returns-clause-reports
returns-clause-reports c = λ life stands.
    let loop = c.loop-index in
    let steps = c.args.steps.now in
    let all : take loop.index steps ≡ steps = take_all loop.index steps (omega (arith, c.loop-index-test.false)) in
    let ran = subst (λ (s : List Step). Ran s life (views_by loop.lines.items) loop.self) all
    (loop.invariant.ran life stands) in
    let names = c.in-Ok.ensures.names ∙ names_stage c.args.self.now life stands
    ∙ sym (names_runs life ran.later steps (views_by loop.lines.items) ran.runs) in
    (ran, c.counts-totals.ensures ran.later ran.stands names)
