-- What a line of a script says, form by form (docs/FORMATS.md). A line is without its LF and the CR before that.
use Rattle.std.specs.Prelude.{◌≡◌, ◌≢◌, ◌⊎◌, ◌==◌, ℕ, List, [], ◌∷◌, ◌++◌, Some, IsTrue, codes}
use Rattle.std.specs.List.{slice_split}
use Rattle.article_store.specs.declared.store.Found.TheVariants.{Article, Gone, Unsendable}
use Rattle.feed_conf.specs.Settings.{Settings}
use Rattle.funnel.specs.Names.{is_peer_name}
use Rattle.drill_script.specs.Action.{ActionView, Hands, Receives, Supplies, Breaks, IsWritten, Spells, line_of}
use Rattle.drill_script.specs.DiskName.{Names}
use Rattle.drill_script.specs.StopRequest.{request_of}
use Rattle.drill_script.specs.Numbers.{u64_of}
use Rattle.drill_script.specs.Peer.{SaysPeer}
use Rattle.drill_script.specs.Step.{StepView, Lines, Flushes, Begins, Parts, Seals, Connects, Acts, Ticks, Sheds}
use Rattle.drill_script.specs.Step.{Rotates}
use Rattle.drill_script.specs.Step.{Imports, Stops, Arms, Restarts}
use Rattle.drill_script.specs.declared.disk_name.DiskName.{DiskName}

-- the name of a peer, one space, and then a writing of these octets
abbrev pub NamesText : (IsWriting : List ℕ → List ℕ → Type 0) → (text name octets : List ℕ) → Type 0
NamesText IsWriting text name octets =
    (written : List ℕ) × (text ≡ name ++ 32 ∷ written) × IsTrue (is_peer_name name) × IsWriting written octets

-- a line asks this of the connection with this written number
abbrev pub SaysAction : (line number : List ℕ) → ActionView → Type 0
SaysAction line number Hands = line ≡ codes "hand " ++ number
SaysAction line number (Receives octets) =
    ((text : List ℕ) × (line ≡ codes "say " ++ (number ++ 32 ∷ text)) × (octets ≡ line_of text))
    ⊎ ((digits : List ℕ) × (line ≡ codes "raw " ++ (number ++ 32 ∷ digits)) × Spells digits octets)
SaysAction line number (Supplies (Article octets)) =
    (text : List ℕ) × (line ≡ codes "article " ++ (number ++ 32 ∷ text)) × (text ≢ codes "gone")
    × IsWritten text octets
SaysAction line number (Supplies Gone) = line ≡ codes "article " ++ (number ++ codes " gone")
SaysAction line number (Supplies Unsendable) = ⊥
SaysAction line number Breaks = line ≡ codes "break " ++ number

-- a line says this step
abbrev pub SaysStep : List ℕ → StepView → Type 0
SaysStep line (Lines text) = ((line ≡ codes "line") × (text ≡ [])) ⊎ (line ≡ codes "line " ++ text)
SaysStep line Flushes = line ≡ codes "flush"
SaysStep line Begins = line ≡ codes "begin"
SaysStep line (Parts name) = (line ≡ codes "part " ++ name) × IsTrue (is_peer_name name)
SaysStep line Seals = line ≡ codes "seal"
SaysStep line (Connects name) = (line ≡ codes "connect " ++ name) × IsTrue (is_peer_name name)
SaysStep line (Acts number action) =
    (written : List ℕ) × (u64_of written ≡ Some number) × SaysAction line written action
SaysStep line (Ticks moment) = (written : List ℕ) × (line ≡ codes "tick " ++ written) × (u64_of written ≡ Some moment)
SaysStep line (Sheds name) = (line ≡ codes "shed " ++ name) × IsTrue (is_peer_name name)
SaysStep line (Rotates name) = (line ≡ codes "rotate " ++ name) × IsTrue (is_peer_name name)
SaysStep line (Imports name text) =
    (rest : List ℕ) × (line ≡ codes "import " ++ rest) × NamesText IsWritten rest name text
SaysStep line Stops = line ≡ codes "stop"
SaysStep line (Arms armed) =
    (words : List ℕ) × (line ≡ codes "stop " ++ words)
    × (request_of (slice_split (λ octet. octet == 32) words) ≡ Some armed)
SaysStep line Restarts = line ≡ codes "restart"

-- the name of a disk, one space, and then pairs of hexadecimal digits that spell these octets
abbrev pub GivesText : (text : List ℕ) → DiskName → (octets : List ℕ) → Type 0
GivesText text name octets =
    (word digits : List ℕ) × (text ≡ word ++ 32 ∷ digits) × Names word name × Spells digits octets

-- a line says that this disk holds these octets
abbrev pub SaysTape : (line : List ℕ) → DiskName → (octets : List ℕ) → Type 0
SaysTape line name octets = (rest : List ℕ) × (line ≡ codes "tape " ++ rest) × GivesText rest name octets

-- what one line says: nothing, a peer, what a disk of a tape holds, or a step
pub data SentenceView : Type 0 where
  Blank : SentenceView
  Declares : Settings → SentenceView
  Gives : DiskName → (octets : List ℕ) → SentenceView
  Takes : StepView → SentenceView

-- Empty lines and lines that begin with `#` say nothing.
abbrev pub Says : List ℕ → SentenceView → Type 0
Says line Blank = (line ≡ []) ⊎ ((comment : List ℕ) × (line ≡ codes "#" ++ comment))
Says line (Declares peer) = SaysPeer line peer
Says line (Gives name octets) = SaysTape line name octets
Says line (Takes step) = SaysStep line step
