-- What one feeder has of a peer, and what both have together (profile).
use Rattle.std.specs.Prelude.{ℕ, ◌||◌, false, is_some, min, nat_lt, Option, None, Some, if◌then◌else◌}
use Rattle.peer_counts.specs.Counts.{no_counts, plus, sum_of}
use Rattle.peer_counts.specs.declared.figures.FeederFigures.{FeederFigures}
use Rattle.peer_counts.specs.declared.figures.PeerFigures.{PeerFigures}
use Rattle.peer_counts.specs.declared.figures.PeerPhase.{PeerPhase}
use Rattle.peer_counts.specs.declared.figures.PeerPhase.TheVariants.{Idle, Up, Waiting, Failed}

-- those of a feeder that has done nothing
abbrev pub no_figures : FeederFigures
no_figures = record { counts = no_counts; connections = 0; in_flight = 0; waits_until = None; has_failed = false }

-- How a peer does: its tape failed; or it has agreed to a mode on a connection that is not closed; or one of its slots
-- waits; or none of that.
abbrev pub phase_of : (first second : FeederFigures) → PeerPhase
phase_of a b =
    if a.has_failed || b.has_failed then Failed
    else if nat_lt 0 a.connections || nat_lt 0 b.connections then Up
    else if is_some a.waits_until || is_some b.waits_until then Waiting
    else Idle

-- the earlier of two seconds that may be there
abbrev pub earlier_of : Option ℕ → Option ℕ → Option ℕ
earlier_of (Some a) (Some b) = Some (min a b)
earlier_of (Some a) None = Some a
earlier_of None b = b

-- what two feeders have of a peer that is in its phase since this second
abbrev pub figures_of : (first second : FeederFigures) → (since : ℕ) → PeerFigures
figures_of a b since = record {
  counts = sum_of a.counts b.counts;
  connections = plus a.connections b.connections;
  in_flight = plus a.in_flight b.in_flight;
  phase = phase_of a b;
  since = since;
  retry = earlier_of a.waits_until b.waits_until;
}
