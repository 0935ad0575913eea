-- The names of the six token ledgers, and of the queues.
use Rattle.std.specs.Prelude.{◌≡◌, ℕ, List, [], Some, slice_get}
use Rattle.atomic_table.specs.Seated.{TableId}
use Rattle.ledger_core.specs.State.{State}

-- how many debts were taken, answered and dropped
pub record Counts : Type 0 where
  pub taken : ℕ
  pub answered : ℕ
  pub dropped : ℕ

-- what the ledger of a tape counts
abbrev pub counts_of : State → Counts
counts_of state = record { taken = state.taken; answered = state.answered; dropped = state.dropped }

-- Two token ledgers of one count: the workers have the shares of one, and those of the other are beside the stations
pub record Pair : Type 0 where
  pub workers : ℕ
  pub stations : ℕ

-- The names of the token ledgers, how many stations there are, what all of them had counted when the token ledgers were
-- opened, and the queue of each peer, by places.
pub record Names : Type 0 where
  pub taken : Pair
  pub answered : Pair
  pub dropped : Pair
  pub peers : ℕ
  pub opened : Counts
  pub tables : List TableId

abbrev pub no_pair : Pair
no_pair = record { workers = 0; stations = 0 }

-- the names of no token ledger
abbrev pub no_names : Names
no_names = record {
  taken = no_pair;
  answered = no_pair;
  dropped = no_pair;
  peers = 0;
  opened = record { taken = 0; answered = 0; dropped = 0 };
  tables = [];
}

-- the queue at this place is this one
abbrev pub IsTableAt : List TableId → ℕ → TableId → Type 0
IsTableAt tables place table = slice_get tables place ≡ Some table
