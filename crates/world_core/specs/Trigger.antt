-- A stop that waits for a call (docs/FORMATS.md).
use Rattle.std.specs.Prelude.{◌≡◌, ℕ, ◌-◌, ◌==◌, ◌&&◌, Bool, true, false, nat_le, if◌then◌else◌, Option, None, Some}
use Rattle.std.specs.Prelude.{IsSome}
use Rattle.disk_model.specs.declared.choice.Choice.{Choice}
use Rattle.recovery.specs.declared.fault.TapeFault.TheVariants.{Disk}
use Rattle.world_core.specs.declared.fault.Fault.TheVariants.{Tape}
use Rattle.world_core.specs.declared.fault.Halt.{Halt}
use Rattle.world_core.specs.declared.stop.Trigger.{Trigger}
use Rattle.world_core.specs.declared.stop.Trigger.TheVariants.{Idle, Armed, Met}
use Rattle.world_core.specs.declared.stop.Fate.{Fate}
use Rattle.world_core.specs.declared.stop.Fate.TheVariants.{Completes, Stops, Fails}
use Rattle.world_core.specs.declared.world.Arming.{Arming}

-- what becomes of the next call on the disks of the tape at this rank: if it is the last that the stop counts, the stop
-- comes
abbrev pub fate_of : Trigger → ℕ → Fate
fate_of Idle rank = Completes
fate_of (Armed stop) rank = if (stop.rank == rank) && nat_le stop.calls 1 then Stops stop.choice else Completes
fate_of (Met choice) rank = Fails

-- What waits after such a call that completes. Calls on the disks of other tapes are not counted.
abbrev pub counted : Trigger → ℕ → Trigger
counted Idle rank = Idle
counted (Armed stop) rank = Armed (record stop { calls = if stop.rank == rank then stop.calls - 1 else stop.calls })
counted (Met choice) rank = Met choice

-- a stop was met, so that all has stopped
abbrev pub has_met : Trigger → Bool
has_met Idle = false
has_met (Armed stop) = false
has_met (Met choice) = true

-- what waits after a step, and what a stop that was met in it leaves
abbrev pub settled : Trigger → Trigger × Option Choice
settled Idle = (Idle, None)
settled (Armed stop) = (Armed stop, None)
settled (Met choice) = (Idle, Some choice)

-- what waits once a stop is armed at this call of the tape of the peer at this rank, or else of the intake's, whose
-- rank comes after all peers'
abbrev pub armed_at : Option ℕ → (last call : ℕ) → Choice → Trigger
armed_at None last call choice = Armed (record { rank = last; calls = call; choice = choice })
armed_at (Some rank) last call choice = Armed (record { rank = rank; calls = call; choice = choice })

-- It was the armed stop that was met in a step that was refused: one was met, and a disk failed, at the tape that the
-- stop names.
pub record IsMet (met : Option Choice) (armed : Arming) (halt : Halt) : Type 0 where
  pub some : IsSome met
  pub disk : halt.fault ≡ Tape Disk
  pub tape : armed.rank ≡ halt.rank
