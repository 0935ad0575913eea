-- What the draft of a script holds of the lines so far.
use Rattle.std.specs.Prelude.{◌≡◌, ◌↔◌, ℕ, List, ◌∷◌, [], ◌++◌, ◌≢◌, ◌+◌, length, map, Contains, Option, None, Some}
use Rattle.std.specs.Prelude.{option_map, unwrap_or}
use Rattle.std.specs.BTreeMap.{BTreeMap, get_by}
use Rattle.std.specs.Cmp.Lexicographic.{slice_cmp}
use Rattle.std.specs.Global.{Vec}
use Rattle.std.specs.List.{IsDistinct}
use Rattle.std.specs.Ordering.{nat_cmp}
use Rattle.std.specs.Str.{bytes_eq}
use Rattle.std.specs.Vec.{vec_items}
use Rattle.feed_conf.specs.PeerView.{settings_view}
use Rattle.feed_conf.specs.Settings.{Settings}
use Rattle.feed_conf.specs.declared.conf.PeerConf.{PeerConf}
use Rattle.drill_script.specs.Line.{SentenceView}
use Rattle.drill_script.specs.Script.{BeginsAsPeer, BeginsAsTape, HasItsPeer, IsWhyLine, MayFollow, Reads, held_of}
use Rattle.drill_script.specs.Script.{line_numbers_of, names_of, peers_of, steps_of}
use Rattle.drill_script.specs.Step.{step_view}
use Rattle.drill_script.specs.declared.disk_name.DiskName.{DiskName}
use Rattle.drill_script.specs.declared.disk_name.TapeDisk.{TapeDisk}
use Rattle.drill_script.specs.declared.disk_name.TapeDisk.TheVariants.{First, Second}
use Rattle.drill_script.specs.declared.draft.Draft.{Draft}
use Rattle.drill_script.specs.declared.draft.GivenOctets.{GivenOctets}
use Rattle.drill_script.specs.declared.fault.BrokenRule.{BrokenRule}
use Rattle.drill_script.specs.declared.fault.BrokenRule.TheVariants.{NoStep, NoPeer}
use Rattle.drill_script.specs.declared.fault.BrokenRule.TheVariants.{PeerBehindStep, DeclaredTwice, NoTape}
use Rattle.drill_script.specs.declared.fault.BrokenRule.TheVariants.{TapeBehindStep, NoPeerOfTape, TapeTwice, Unended}
use Rattle.drill_script.specs.declared.fault.ScriptFault.{ScriptFault}
use Rattle.drill_script.specs.declared.fault.ScriptFault.TheVariants.{Broken, NoMemory}
use Rattle.world_core.specs.Given.{GivenDisks}

-- what the tape of the peer of this name holds, or none if the name is not among these
abbrev pub held_at : BTreeMap (Vec ℕ) (Vec ℕ) → List ℕ → Option (List ℕ)
held_at tapes name = option_map vec_items (get_by (λ key. slice_cmp nat_cmp name (vec_items key)) tapes)

-- the same of one disk of the tape of this peer, or of the intake's
abbrev pub held_by : GivenOctets → Option (List ℕ) → Option (List ℕ)
held_by given None = option_map vec_items given.intake
held_by given (Some name) = held_at given.peers name

-- what this disk holds by the draft
abbrev pub held_on : Draft → Option (List ℕ) → TapeDisk → Option (List ℕ)
held_on draft peer First = held_by draft.firsts peer
held_on draft peer Second = held_by draft.seconds peer

abbrev pub held_in : Draft → DiskName → Option (List ℕ)
held_in draft name = held_on draft name.peer name.disk

-- the draft holds what these sentences say, and the names of their peers
pub record Drafts (draft : Draft) (sentences : List SentenceView) : Type 0 where
  pub peers : map settings_view draft.peers.items ≡ peers_of sentences
  pub names : (name : List ℕ) → Contains (map vec_items draft.names.keys) name ↔ Contains (names_of sentences) name
  pub distinct : IsDistinct bytes_eq (names_of sentences)
  pub tapes : (name : DiskName) → held_in draft name ≡ held_of sentences name
  pub steps : map step_view draft.steps.items ≡ steps_of sentences
  pub lines : draft.lines.items ≡ line_numbers_of sentences

-- the names of these peers differ
abbrev pub HaveOtherNames : List PeerConf → Type 0
HaveOtherNames confs = IsDistinct bytes_eq (map (λ (conf : PeerConf). conf.name) confs)

-- a peer is given what the disks of its tape hold, or nothing for one if its name is not among these
pub record IsGiven (firsts seconds : BTreeMap (Vec ℕ) (Vec ℕ)) (conf : PeerConf) (given : GivenDisks) : Type 0 where
  pub conf_is : given.0 ≡ conf
  pub first : given.1.items ≡ unwrap_or (held_at firsts conf.name) []
  pub second : given.2.items ≡ unwrap_or (held_at seconds conf.name) []

-- a draft has taken in one more sentence, which may follow the others
pub record Gains (old new : Draft) (before : List SentenceView) (said : SentenceView) : Type 0 where
  pub may : MayFollow before said
  pub drafts : Drafts new (before ++ said ∷ [])

-- the line is refused at its line number for a reason that holds after these sentences
abbrev pub IsRefusal : (line_number : ℕ) (line : List ℕ) → List SentenceView → ScriptFault → Type 0
IsRefusal line_number line before (Broken at reason) = (at ≡ line_number) × IsWhyLine before line reason
IsRefusal line_number line before NoMemory = Unit {0}

-- why a peer may not follow these sentences
abbrev pub IsWhyPeer : List SentenceView → Settings → BrokenRule → Type 0
IsWhyPeer before peer NoStep = ⊥
IsWhyPeer before peer NoPeer = ⊥
IsWhyPeer before peer PeerBehindStep = steps_of before ≢ []
IsWhyPeer before peer DeclaredTwice = (steps_of before ≡ []) × Contains (names_of before) peer.name
IsWhyPeer before peer NoTape = ⊥
IsWhyPeer before peer TapeBehindStep = ⊥
IsWhyPeer before peer NoPeerOfTape = ⊥
IsWhyPeer before peer TapeTwice = ⊥
IsWhyPeer before peer Unended = ⊥

-- the peer is refused at its line number for a reason that holds after these sentences
abbrev pub IsPeerRefusal : (line_number : ℕ) → Settings → List SentenceView → ScriptFault → Type 0
IsPeerRefusal line_number peer before (Broken at reason) = (at ≡ line_number) × IsWhyPeer before peer reason
IsPeerRefusal line_number peer before NoMemory = Unit {0}

-- why this disk may not follow these sentences
abbrev pub IsWhyTape : List SentenceView → DiskName → BrokenRule → Type 0
IsWhyTape before name NoStep = ⊥
IsWhyTape before name NoPeer = ⊥
IsWhyTape before name PeerBehindStep = ⊥
IsWhyTape before name DeclaredTwice = ⊥
IsWhyTape before name NoTape = ⊥
IsWhyTape before name TapeBehindStep = steps_of before ≢ []
IsWhyTape before name NoPeerOfTape = (steps_of before ≡ []) × (HasItsPeer (names_of before) name.peer → ⊥)
IsWhyTape before name TapeTwice =
    (steps_of before ≡ []) × HasItsPeer (names_of before) name.peer × (held_of before name ≢ None)
IsWhyTape before name Unended = ⊥

-- the disk is refused at its line number for a reason that holds after these sentences
abbrev pub IsTapeRefusal : (line_number : ℕ) → DiskName → List SentenceView → ScriptFault → Type 0
IsTapeRefusal line_number name before (Broken at reason) = (at ≡ line_number) × IsWhyTape before name reason
IsTapeRefusal line_number name before NoMemory = Unit {0}

-- the reason for a line that says nothing: whether it begins like the line of a peer, of a tape, or neither
abbrev pub IsReasonOf : List ℕ → BrokenRule → Type 0
IsReasonOf line NoStep = (BeginsAsPeer line → ⊥) × (BeginsAsTape line → ⊥)
IsReasonOf line NoPeer = BeginsAsPeer line
IsReasonOf line PeerBehindStep = ⊥
IsReasonOf line DeclaredTwice = ⊥
IsReasonOf line NoTape = BeginsAsTape line
IsReasonOf line TapeBehindStep = ⊥
IsReasonOf line NoPeerOfTape = ⊥
IsReasonOf line TapeTwice = ⊥
IsReasonOf line Unended = ⊥

-- the draft holds the lines of the text up to this rest, which begins at this line number
pub record HasRead (text rest : List ℕ) (line_number : ℕ) (draft : Draft) : Type 0 where
  pub sentences : List SentenceView
  pub reads : Reads text sentences rest
  pub at : line_number ≡ length sentences + 1
  pub drafts : Drafts draft sentences
