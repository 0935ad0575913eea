-- Connections whose moment is set, one after another.
use Rattle.std.proofs.Common.{◌≡◌, ℕ, ◌+◌, List, [], ◌++◌, length, refl, ◌∙◌}
use Rattle.disk_model.specs.declared.Disk.{Ghosts}
use Rattle.world_core.specs.Past.{Life}
use Rattle.world_core.specs.Exchange.{TicksNot, TicksOne, TicksOneNot, TicksSome}
use Rattle.world_core.specs.Exchange.TicksEach.{Next, Start}
use Rattle.world_core.specs.Joined.{AreRunning, MadeOn, RefusedOn}
use Rattle.world_core.specs.Stands.{ConnectionStands}
use Rattle.world_core.specs.declared.connection.Connection.{Connection}
use Rattle.world_core.specs.declared.fault.Fault.{Fault}
use Rattle.world_core.specs.declared.stations.Stations.{Stations}
use Rattle.world_core.specs.declared.output.Output.{Output}
use Rattle.world_core.proofs.OutputLines.{reports_both, reports_none}
use Rattle.world_core.proofs.RelatedLists.{zip_length}

module _ {D : Type 0} {g : Ghosts D} where
  -- there are as many connections as the world has
  pub count_conns : (life : Life) (stations : Stations D g) (cs : List Connection) → AreRunning life stations cs
      → length life.conns ≡ length cs
  count_conns life stations cs running = zip_length (ConnectionStands life.past.peers) life.conns cs running.conns

  -- the moment of none was set
  pub ticks_none : (life : Life) (stations : Stations D g) (cs : List Connection) (outputs : List Output)
      → AreRunning life stations cs
      → MadeOn (TicksSome 0) life.connected life outputs outputs stations cs
  ticks_none life stations cs outputs running = record {
    later = life;
    said = [];
    makes = Start;
    outputs_are = reports_none outputs outputs refl;
    stand = running;
    armed = refl;
    connected_is = refl;
    now = refl;
  }

  module _ (life : Life) (before mid_outputs : List Output) (mid : Stations D g) (mid_cs : List Connection) (count : ℕ)
      (prefix : MadeOn (TicksSome count) life.connected life before mid_outputs mid mid_cs) where
    -- the moment of one more was set
    pub ticks_more : (outputs : List Output) (new : Stations D g) (new_cs : List Connection)
        → MadeOn (TicksOne count) prefix.later.connected prefix.later mid_outputs outputs new new_cs
        → MadeOn (TicksSome (count + 1)) life.connected life before outputs new new_cs
    ticks_more outputs new new_cs one = record {
      later = one.later;
      said = prefix.said ++ one.said;
      makes = Next count prefix.said one.said prefix.later one.later prefix.makes one.makes;
      outputs_are = reports_both before mid_outputs outputs prefix.said one.said prefix.outputs_are one.outputs_are;
      stand = one.stand;
      armed = one.armed ∙ prefix.armed;
      connected_is = one.connected_is ∙ prefix.connected_is;
      now = one.now ∙ prefix.now;
    }

    -- or the next was refused
    pub ticks_not : (fault : Fault) (new : Stations D g) (new_cs : List Connection)
        → RefusedOn (TicksOneNot count) prefix.later fault new new_cs → RefusedOn TicksNot life fault new new_cs
    ticks_not fault new new_cs not = record {
      later = not.later;
      refuses = record {
        count = count;
        outputs = prefix.said;
        mid = prefix.later;
        prefix = prefix.makes;
        fails =
            not.refuses;
      };
      stand = not.stand;
      armed = not.armed ∙ prefix.armed;
      connected_is = not.connected_is ∙ prefix.connected_is;
      now = not.now ∙ prefix.now;
    }
