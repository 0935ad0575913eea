-- What a call comes to: sections at one station, one after another.
use Rattle.std.specs.Prelude.{◌≡◌, ℕ, List, [], ◌∷◌, ◌++◌}
use Rattle.disk_model.specs.declared.Disk.{Ghosts}
use Rattle.ledger_core.specs.declared.note.Note.{Note}
use Rattle.sections.specs.Post.{StationPast}
use Rattle.sections.specs.Sections.{OfStation, Section}
use Rattle.section_steps.specs.Stands.{FrontSeen, FrontStands, SideSeen, SideStands}

-- these sections, one after another, make this of the station
abbrev pub DoAll : ℕ → ℕ → StationPast → List Section → StationPast → Type 0
DoAll last rank was [] now = now ≡ was
DoAll last rank was (section ∷ more) now =
    (next : StationPast) × OfStation last was section rank next × DoAll last rank next more now

-- These sections are done at the station, and from then on the front's lock stands for it. Whatever the tape's lock
-- and the queue stood for before, they do so now, once these notes were pushed.
pub record FrontDoes {D : Type 0} (g : Ghosts D) (before : List Note) (last rank : ℕ) (was : StationPast)
    (sections : List Section) (pushed : List Note) (new : FrontSeen) : Type 0 where
  pub later : StationPast
  pub does : DoAll last rank was sections later
  pub front : FrontStands before new later
  pub side : (side : SideSeen D g) (items : List Note) → SideStands before side items was
      → SideStands before side (items ++ pushed) later

-- the same under the tape's lock, once the queue holds these notes
pub record SideDoes {D : Type 0} {g : Ghosts D} (before : List Note) (last rank : ℕ) (was : StationPast)
    (sections : List Section) (new : SideSeen D g) (items : List Note) : Type 0 where
  pub later : StationPast
  pub does : DoAll last rank was sections later
  pub side : SideStands before new items later
  pub front : (front : FrontSeen) → FrontStands before front was → FrontStands before front later
