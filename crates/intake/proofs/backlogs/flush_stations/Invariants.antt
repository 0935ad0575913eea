use Rattle.std.specs.Prelude.{◌≡◌, ◌++◌, map}
use Rattle.std.specs.List.{All}
use Rattle.flusher.specs.Sealed.{IsFlushed}
use Rattle.intake.proofs.backlogs.flush_stations.Given as goal

-- those that are done are flushed, and with those that are left they have the names of all
abbrev pub invariant-loop-peer : goal.invariant-loop-peer
invariant-loop-peer g l =
    (goal.iterator-loop-peer g).can_next l.peer-iterator
    × (goal.iterator-loop-peer g).is_finite l.peer-iterator
    × All (λ p. IsFlushed p.station) l.flushed.items
    × (map (λ p. p.name) l.flushed.items ++ map (λ p. p.name) l.peer-iterator.rest.items
    ≡ map (λ p. p.name) l.fn.peers.items)
