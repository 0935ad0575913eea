-- What a script is, and which line is the first that breaks its rules (docs/FORMATS.md).
use Rattle.std.specs.Prelude.{◌≡◌, ◌≢◌, ◌+◌, ℕ, if◌then◌else◌, List, [], ◌∷◌, ◌++◌, length, map, Option, None, Some}
use Rattle.std.specs.Prelude.{Result, Err, Contains, IsPermutation, codes, unwrap_or}
use Rattle.std.specs.Cmp.Lexicographic.{slice_cmp}
use Rattle.std.specs.List.{All, AllZip}
use Rattle.std.specs.List.Sorted.{IsSortedBy}
use Rattle.std.specs.Ordering.{is_lt, nat_cmp}
use Rattle.feed_conf.specs.PeerView.{settings_view}
use Rattle.feed_conf.specs.Settings.{Settings}
use Rattle.feed_conf.specs.declared.conf.PeerConf.{PeerConf}
use Rattle.funnel.specs.Line.{without_cr}
use Rattle.funnel.specs.Stream.{BeginsWithLine, IsUnended, ended}
use Rattle.drill_script.specs.DiskName.{is_same}
use Rattle.drill_script.specs.Line.{SentenceView, Blank, Declares, Gives, Takes, Says}
use Rattle.drill_script.specs.Step.{StepView, step_view}
use Rattle.drill_script.specs.declared.disk_name.DiskName.{DiskName}
use Rattle.drill_script.specs.declared.disk_name.TapeDisk.{TapeDisk}
use Rattle.drill_script.specs.declared.disk_name.TapeDisk.TheVariants.{First, Second}
use Rattle.drill_script.specs.declared.fault.BrokenRule.{BrokenRule}
use Rattle.drill_script.specs.declared.fault.BrokenRule.TheVariants.{NoStep, NoPeer}
use Rattle.drill_script.specs.declared.fault.BrokenRule.TheVariants.{PeerBehindStep, DeclaredTwice, NoTape}
use Rattle.drill_script.specs.declared.fault.BrokenRule.TheVariants.{TapeBehindStep, NoPeerOfTape, TapeTwice, Unended}
use Rattle.drill_script.specs.declared.fault.ScriptFault.{ScriptFault}
use Rattle.drill_script.specs.declared.fault.ScriptFault.TheVariants.{Broken, NoMemory}
use Rattle.drill_script.specs.declared.read.Script.{Script}
use Rattle.world_core.specs.Given.{GivenDisks}

-- the steps among sentences
abbrev pub steps_of : List SentenceView → List StepView
steps_of [] = []
steps_of (Blank ∷ sentences) = steps_of sentences
steps_of (Declares peer ∷ sentences) = steps_of sentences
steps_of (Gives name octets ∷ sentences) = steps_of sentences
steps_of (Takes step ∷ sentences) = step ∷ steps_of sentences

-- the line numbers of the steps, if the first sentence's line has this line number
abbrev pub line_numbers_from : ℕ → List SentenceView → List ℕ
line_numbers_from line_number [] = []
line_numbers_from line_number (Blank ∷ sentences) = line_numbers_from (line_number + 1) sentences
line_numbers_from line_number (Declares peer ∷ sentences) = line_numbers_from (line_number + 1) sentences
line_numbers_from line_number (Gives name octets ∷ sentences) = line_numbers_from (line_number + 1) sentences
line_numbers_from line_number (Takes step ∷ sentences) = line_number ∷ line_numbers_from (line_number + 1) sentences

-- the line number of each step, from 1
abbrev pub line_numbers_of : List SentenceView → List ℕ
line_numbers_of sentences = line_numbers_from 1 sentences

abbrev pub peers_of : List SentenceView → List Settings
peers_of [] = []
peers_of (Blank ∷ sentences) = peers_of sentences
peers_of (Declares peer ∷ sentences) = peer ∷ peers_of sentences
peers_of (Gives name octets ∷ sentences) = peers_of sentences
peers_of (Takes step ∷ sentences) = peers_of sentences

abbrev pub names_of : List SentenceView → List (List ℕ)
names_of sentences = map (λ (peer : Settings). peer.name) (peers_of sentences)

-- what this disk holds by the first sentence that gives it; none if there is none
abbrev pub held_of : List SentenceView → DiskName → Option (List ℕ)
held_of [] name = None
held_of (Blank ∷ sentences) name = held_of sentences name
held_of (Declares peer ∷ sentences) name = held_of sentences name
held_of (Gives disk octets ∷ sentences) name = if is_same disk name then Some octets else held_of sentences name
held_of (Takes step ∷ sentences) name = held_of sentences name

-- the peer of a tape is declared; the intake's has none
abbrev pub HasItsPeer : (names : List (List ℕ)) → Option (List ℕ) → Type 0
HasItsPeer names None = Unit {0}
HasItsPeer names (Some name) = Contains names name

-- a sentence may follow these: a peer if there is no step among them and no peer of its name; a disk of a tape if there
-- is no step among them, the peer of the tape is declared, and the disk is not given
abbrev pub MayFollow : List SentenceView → SentenceView → Type 0
MayFollow before Blank = Unit {0}
MayFollow before (Declares peer) = (steps_of before ≡ []) × (Contains (names_of before) peer.name → ⊥)
MayFollow before (Gives name octets) =
    (steps_of before ≡ []) × HasItsPeer (names_of before) name.peer × (held_of before name ≡ None)
MayFollow before (Takes step) = Unit {0}

-- each of the later sentences may stand after the earlier ones and those before it
abbrev pub KeepsOrder : (earlier later : List SentenceView) → Type 0
KeepsOrder earlier [] = Unit {0}
KeepsOrder earlier (sentence ∷ later) = MayFollow earlier sentence × KeepsOrder (earlier ++ sentence ∷ []) later

-- a line says this sentence, without the CR before its LF
abbrev pub LineSays : List ℕ → SentenceView → Type 0
LineSays line sentence = Says (without_cr line) sentence

-- The text begins with whole lines that say these sentences and keep their order, and this is the rest after them.
pub record Reads (text : List ℕ) (sentences : List SentenceView) (rest : List ℕ) : Type 0 where
  pub lines : List (List ℕ)
  pub whole : text ≡ ended lines ++ rest
  pub each : All IsUnended lines
  pub says : AllZip LineSays lines sentences
  pub order : KeepsOrder [] sentences

-- the whole text keeps the rules
abbrev pub KeepsRules : List ℕ → Type 0
KeepsRules text = (sentences : List SentenceView) × Reads text sentences []

-- the peers without their tapes
abbrev pub confs_of : List GivenDisks → List PeerConf
confs_of peers = map (λ (given : GivenDisks). given.0) peers

-- the peers are in byte order of their names
abbrev pub IsInByteOrder : List PeerConf → Type 0
IsInByteOrder peers = IsSortedBy (λ (a : PeerConf) (b : PeerConf). is_lt (slice_cmp nat_cmp a.name b.name)) peers

-- what a disk holds: what its line says, or nothing if there is no such line
abbrev pub octets_in : List SentenceView → Option (List ℕ) → TapeDisk → List ℕ
octets_in sentences peer disk = unwrap_or (held_of sentences (record { peer = peer; disk = disk })) []

-- both disks of a tape hold this
abbrev pub HoldsDisks : List SentenceView → Option (List ℕ) → (first second : List ℕ) → Type 0
HoldsDisks sentences peer first second =
    (first ≡ octets_in sentences peer First) × (second ≡ octets_in sentences peer Second)

abbrev pub HoldsTape : List SentenceView → GivenDisks → Type 0
HoldsTape sentences given = HoldsDisks sentences (Some given.0.name) given.1.items given.2.items

-- a script has the peers of these sentences, in byte order of their names, each with its tape, the intake's tape, and
-- their steps in order, with the line numbers of their lines
pub record Holds (script : Script) (sentences : List SentenceView) : Type 0 where
  pub peers : IsPermutation (peers_of sentences) (map settings_view (confs_of script.peers.items))
  pub tapes : All (HoldsTape sentences) script.peers.items
  pub intake : HoldsDisks sentences None script.intake.0.items script.intake.1.items
  pub order : IsInByteOrder (confs_of script.peers.items)
  pub steps : map step_view script.steps.items ≡ steps_of sentences
  pub lines : script.lines.items ≡ line_numbers_of sentences

-- the whole text keeps the rules, and this is what it says
abbrev pub IsScript : List ℕ → Script → Type 0
IsScript text script = (sentences : List SentenceView) × Reads text sentences [] × Holds script sentences

-- a line that begins like the line of a peer
abbrev pub BeginsAsPeer : List ℕ → Type 0
BeginsAsPeer line = (declaration : List ℕ) × (line ≡ codes "peer " ++ declaration)

-- a line that begins like the line of a tape
abbrev pub BeginsAsTape : List ℕ → Type 0
BeginsAsTape line = (text : List ℕ) × (line ≡ codes "tape " ++ text)

-- the line has none of the forms
abbrev pub SaysNone : List ℕ → Type 0
SaysNone line = (said : SentenceView) → Says line said → ⊥

-- why a line may not follow these sentences
abbrev pub IsWhyLine : List SentenceView → (line : List ℕ) → BrokenRule → Type 0
IsWhyLine before line NoStep = (BeginsAsPeer line → ⊥) × (BeginsAsTape line → ⊥) × SaysNone line
IsWhyLine before line NoPeer = BeginsAsPeer line × SaysNone line
IsWhyLine before line PeerBehindStep = (peer : Settings) × Says line (Declares peer) × (steps_of before ≢ [])
IsWhyLine before line DeclaredTwice =
    (peer : Settings) × Says line (Declares peer) × (steps_of before ≡ []) × Contains (names_of before) peer.name
IsWhyLine before line NoTape = BeginsAsTape line × SaysNone line
IsWhyLine before line TapeBehindStep =
    (name : DiskName) × (octets : List ℕ) × Says line (Gives name octets) × (steps_of before ≢ [])
IsWhyLine before line NoPeerOfTape =
    (name : DiskName) × (octets : List ℕ) × Says line (Gives name octets) × (steps_of before ≡ [])
    × (HasItsPeer (names_of before) name.peer → ⊥)
IsWhyLine before line TapeTwice =
    (name : DiskName) × (octets : List ℕ) × Says line (Gives name octets) × (steps_of before ≡ [])
    × HasItsPeer (names_of before) name.peer × (held_of before name ≢ None)
IsWhyLine before line Unended = ⊥

-- the first line of what is left breaks the rules for this reason
abbrev pub FirstBreaks : List SentenceView → (left : List ℕ) → BrokenRule → Type 0
FirstBreaks before left reason =
    (line behind : List ℕ) × BeginsWithLine left line behind × IsWhyLine before (without_cr line) reason

-- why the first line of what is left breaks the rules, or the octets after the last LF
abbrev pub IsWhy : List SentenceView → (left : List ℕ) → BrokenRule → Type 0
IsWhy before left NoStep = FirstBreaks before left NoStep
IsWhy before left NoPeer = FirstBreaks before left NoPeer
IsWhy before left PeerBehindStep = FirstBreaks before left PeerBehindStep
IsWhy before left DeclaredTwice = FirstBreaks before left DeclaredTwice
IsWhy before left NoTape = FirstBreaks before left NoTape
IsWhy before left TapeBehindStep = FirstBreaks before left TapeBehindStep
IsWhy before left NoPeerOfTape = FirstBreaks before left NoPeerOfTape
IsWhy before left TapeTwice = FirstBreaks before left TapeTwice
IsWhy before left Unended = (left ≢ []) × IsUnended left

-- The line at this line number, from 1, is the first that breaks the rules, and this is why.
pub record BreaksAt (text : List ℕ) (line_number : ℕ) (reason : BrokenRule) : Type 0 where
  pub sentences : List SentenceView
  pub left : List ℕ
  pub reads : Reads text sentences left
  pub at : line_number ≡ length sentences + 1
  pub why : IsWhy sentences left reason

abbrev pub IsFirstBroken : List ℕ → ℕ → Type 0
IsFirstBroken text line_number = (reason : BrokenRule) × BreaksAt text line_number reason

-- the answer names this line
abbrev pub NamesLine : Result Script ScriptFault → ℕ → Type 0
NamesLine answer line_number = (reason : BrokenRule) × (answer ≡ Err (Broken line_number reason))

-- a fault that names a line names the first broken one, and its reason
abbrev pub IsReportedOf : List ℕ → ScriptFault → Type 0
IsReportedOf text (Broken line_number reason) = BreaksAt text line_number reason
IsReportedOf text NoMemory = Unit {0}
