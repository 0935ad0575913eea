-- How a world is made.
use Rattle.std.specs.Prelude.{◌≡◌, ◌⊎◌, List, [], map}
use Rattle.std.specs.List.Sorted.{IsPermutation}
use Rattle.feed_conf.specs.declared.conf.PeerConf.{PeerConf}
use Rattle.recovery.specs.declared.fault.TapeFault.TheVariants.{Disk}
use Rattle.world_core.specs.Past.{Life}
use Rattle.world_core.specs.Given.{GivenPeer}
use Rattle.world_core.specs.Sound.{NamesRise}
use Rattle.world_core.specs.Stands.{IsFresh, WorldStands}
use Rattle.world_core.specs.declared.fault.Fault.{Fault}
use Rattle.world_core.specs.declared.fault.Fault.TheVariants.{NoMemory, Tape}
use Rattle.world_core.specs.declared.world.World.{World}

-- a world of these peers, in byte order of their names, was made
pub record Begins (peers : List PeerConf) (world : World) : Type 0 where
  pub confs : List PeerConf
  pub permuted : IsPermutation peers confs
  pub rises : NamesRise (map (λ (conf : PeerConf). conf.name) confs)
  pub life : Life
  pub fresh : IsFresh confs life
  pub stands : WorldStands world life

-- no world was made: memory was refused, to a disk in memory or elsewhere
abbrev pub IsMakeFault : Fault → Type 0
IsMakeFault fault = (fault ≡ Tape Disk) ⊎ (fault ≡ NoMemory)

-- the settings of a peer, with no octets
pub record HasNoOctets (conf : PeerConf) (given : GivenPeer) : Type 0 where
  pub conf_is : given.0 ≡ conf
  pub none : given.1.items ≡ []
