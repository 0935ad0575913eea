-- A directory of segments while its funnel is written, read and cleared (profile). Until the directory is synced, a
-- crash may lose a name that was put into it, and bring one back that was taken out.
use Rattle.std.specs.Prelude.{◌≡◌, ◌==◌, ℕ, ◌+◌, ◌<◌, ◌≤◌, not, List, [], ◌∷◌, ◌++◌, filter, Contains}
use Rattle.segments.specs.Firsts.{IsDone}

pub record State : Type 0 where
  -- how many lines were written
  pub lines : ℕ
  -- the last line that is acknowledged, as all before it are
  pub mark : ℕ
  -- the first line of each segment named since the last crash, or named before and left by it
  pub named : List ℕ
  -- the first line of each whose name is in the directory
  pub there : List ℕ
  -- the first line of each whose name is there after any crash
  pub sure : List ℕ

-- nothing is written, and the first segment is synced
abbrev pub start : State
start = record { lines = 0; mark = 0; named = 1 ∷ []; there = 1 ∷ []; sure = 1 ∷ [] }

pub data Event : Type 0 where
  -- a line is written
  Write : Event
  -- a segment is named, after the line that is written next
  Name : Event
  -- the directory is synced
  Sync : Event
  -- all lines up to this one are acknowledged
  Acknowledge : ℕ → Event
  -- the segment that begins with this line is removed
  Remove : ℕ → Event
  -- the system stops: these names are left, and this many lines
  Crash : List ℕ → ℕ → Event

-- the segment has all lines from its first to this one: no other one begins between them; or it begins right after it
pub record Holds (first line : ℕ) (named : List ℕ) : Type 0 where
  pub is_named : Contains named first
  pub begins : first ≤ line + 1
  pub last : (other : ℕ) → Contains named other → first < other → line < other

-- a crash may leave these names: all that are sure, and none that was never given
pub record IsLeft (state : State) (left : List ℕ) : Type 0 where
  pub keeps : (first : ℕ) → Contains state.sure first → Contains left first
  pub knows : (first : ℕ) → Contains left first → Contains state.named first

-- Lines are acknowledged once they are written and the name of the last one's segment is sure. A segment is removed
-- only if one that begins above it, and no later than the line after the mark, is sure. A crash loses no acknowledged
-- line.
abbrev pub IsAllowed : State → Event → Type 0
IsAllowed state Write = Unit {0}
IsAllowed state Name = Unit {0}
IsAllowed state Sync = Unit {0}
IsAllowed state (Acknowledge line) =
    (state.mark ≤ line) × (line ≤ state.lines)
    × (first : ℕ) × Contains state.sure first × Holds first line state.named
IsAllowed state (Remove first) = IsDone state.sure state.mark first
IsAllowed state (Crash left lines) = IsLeft state left × (state.mark ≤ lines)

-- without this one
abbrev pub without : ℕ → List ℕ → List ℕ
without first firsts = filter (λ other. not (other == first)) firsts

-- with this one
abbrev pub with_last : ℕ → List ℕ → List ℕ
with_last first firsts = firsts ++ first ∷ []

-- what an event makes of a state
abbrev pub after : State → Event → State
after state Write = record state { lines = state.lines + 1 }
after state Name =
    record state { named = with_last (state.lines + 1) state.named; there = with_last (state.lines + 1) state.there }
after state Sync = record state { sure = state.there }
after state (Acknowledge line) = record state { mark = line }
after state (Remove first) = record state { there = without first state.there; sure = without first state.sure }
after state (Crash left lines) = record state { lines = lines; named = left; there = left }

-- these events lead from one state to another
abbrev pub Runs : State → List Event → State → Type 0
Runs old [] new = new ≡ old
Runs old (event ∷ rest) new = IsAllowed old event × Runs (after old event) rest new
