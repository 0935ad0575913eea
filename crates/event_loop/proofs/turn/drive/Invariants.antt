use Rattle.std.proofs.Common.{◌≡◌, ℕ, List, None, true, false, length}
use Rattle.event_loop.specs.Chain.{Moves, Step, are_turns, is_rest, receipts}
use Rattle.conn_core.specs.History.{Event, reason}
use Rattle.conn_core.specs.Stands.{StandsFor}
use Rattle.conn_core.specs.declared.options.Options.{Options}
use Rattle.event_loop.proofs.turn.drive.Given as goal

-- so far only turns, and all are counted; the connection is open, and the last turn moved something
abbrev pub invariant-loop-turn : goal.invariant-loop-turn
invariant-loop-turn g l = ((options : Options) (unread : List ℕ) (h : List Event) → StandsFor options l.fn.conn unread h
    → (left : List ℕ) × (later : List Event) × (steps : List Step) × StandsFor options l.conn left later
    × Moves g.L.Link.took g.L.Link.gave g.L.Link.takes g.L.Link.gives options (length l.fn.buffer) unread h l.fn.link
    steps left later l.link
    × (are_turns steps ≡ true)
    × (reason options later ≡ None) × (receipts steps ≡ l._turn) × (is_rest steps ≡ false))
    × (l.conn.id ≡ l.fn.conn.id)
