-- The stations run on, or stop again.
use Rattle.std.proofs.Common.{map, refl, ap, ◌∙◌}
use Rattle.world_core.specs.Stepped.{opened_view}
use Rattle.world_core.proofs.WorldReopened.{runs_again, stops_again}
use Rattle.world_core.proofs.world.World.run_on.Goals as goal

pub returns-in_default-clause-err : goal.returns-in_default-clause-err
returns-in_default-clause-err c = λ life waits stopped opens.
    stops_again c.args.self.now _ life c.args.stations c.halt-peers.result.0 c.halt-peers.result.1 waits stopped opens
    c.halt-peers.ensures refl refl refl refl

pub returns-clause-ok : goal.returns-clause-ok
returns-clause-ok c = λ life waits stopped opens.
    runs_again c.args.self.now _ life c.args.stations _ c.in-Ok.outputs.items waits stopped opens refl
    c.new.ensures.items
    (c.in-Ok.ensures ∙ ap (map opened_view) c.deref.ensures.value) refl refl refl
