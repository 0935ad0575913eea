-- The octets so far were taken in.
use Rattle.std.proofs.Common.{◌++◌, List, ℕ, take}
use Rattle.login.specs.Exchange.{KeepsCommands, StandsFor}
use Rattle.login.proofs.login.Login.take_in.Given as goal

abbrev pub invariant-loop-index : goal.invariant-loop-index
invariant-loop-index l = record {
  stands : (came : List ℕ) → StandsFor l.initial.self came → StandsFor l.self (came ++ take l.index l.octets);
  commands : KeepsCommands l.initial.self l.self;
}
