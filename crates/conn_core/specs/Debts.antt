-- The debts held, as the private code keeps them.
use Rattle.std.specs.Prelude.{ℕ, List}
use Rattle.conn_core.specs.Commands.{Held}

-- the debts held, in the order offered; how many were accepted; and how many there is room for
pub record Debts : Type 0 where
  pub debts : List Held
  pub accepted : ℕ
  pub capacity : ℕ
