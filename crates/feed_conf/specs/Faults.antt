-- The words for faults of a configuration in messages (profile).
use Rattle.std.specs.Prelude.{ℕ, List, codes}
use Rattle.feed_conf.specs.declared.fault.ConfFaultKind.{ConfFaultKind}
use Rattle.feed_conf.specs.declared.fault.ConfFaultKind.TheVariants.{NoValue, BadNumber, BadBoolean, Unbalanced}
use Rattle.feed_conf.specs.declared.fault.ConfFaultKind.TheVariants.{BadPeerName, SamePeer, LowAboveHigh, Range}
use Rattle.feed_conf.specs.declared.fault.ConfFaultKind.TheVariants.{NoCycbuffs, NoMemory}

abbrev pub conf_fault_name : ConfFaultKind → List ℕ
conf_fault_name NoValue = codes "NoValue"
conf_fault_name BadNumber = codes "BadNumber"
conf_fault_name BadBoolean = codes "BadBoolean"
conf_fault_name Unbalanced = codes "Unbalanced"
conf_fault_name BadPeerName = codes "BadPeerName"
conf_fault_name SamePeer = codes "SamePeer"
conf_fault_name LowAboveHigh = codes "LowAboveHigh"
conf_fault_name Range = codes "Range"
conf_fault_name NoCycbuffs = codes "NoCycbuffs"
conf_fault_name NoMemory = codes "NoMemory"
