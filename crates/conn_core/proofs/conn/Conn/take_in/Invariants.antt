use Rattle.std.proofs.Common.{◌≡◌, ◌++◌, ℕ, List, None}
use Rattle.conn_core.specs.History.{Event, reason}
use Rattle.conn_core.specs.Left.{IsAhead, IsReading, size_of}
use Rattle.conn_core.specs.Stands.{StandsFor}
use Rattle.conn_core.specs.declared.options.Options.{Options}
use Rattle.conn_core.proofs.conn.Conn.take_in.Given as goal

-- some of the replies were read
abbrev pub invariant-loop : goal.invariant-loop
invariant-loop l = record {
  reads : (options : Options) (unread : List ℕ) (h : List Event) → StandsFor options l.fn.self unread h → reason options h ≡ None
      → (later : List Event) × (waiting : List ℕ) × IsAhead options (unread ++ l.octets) h waiting later × IsReading options l.self waiting later;
  same_id : l.self.id ≡ l.fn.self.id;
}

abbrev pub decreases-loop : goal.decreases-loop
decreases-loop l = size_of l.self.reader
