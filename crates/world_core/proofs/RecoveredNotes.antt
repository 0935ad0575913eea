-- Whatever a stop leaves after any steps is the tape of a prefix of a peer's notes, with every acknowledged one in it,
-- and what was acknowledged is owed there or has ended.
use Rattle.std.proofs.Common.{List, [], ◌∷◌}
use Rattle.std.specs.List.{AllByRecursion, AllZip}
use Rattle.recovery.specs.Leaving.{EachLedger}
use Rattle.sections.specs.TapeLaws.{still_owes as tape_owes}
use Rattle.world_core.specs.Past.{Life, PeerPast}
use Rattle.world_core.specs.Safe.{IsSafe, KeepsNotes}
use Rattle.world_core.specs.Laws.{AllAreRecovered, Comes, IsRecovered, OverRuns, StillOwes}
use Rattle.world_core.specs.Laws.Comes.{No_step, Step_taken, Step_refused, Crashed}
use Rattle.world_core.specs.Keeping.{PeerStays}
use Rattle.world_core.specs.Sound.{IsSoundLife}
use Rattle.world_core.specs.Output.{View}
use Rattle.world_core.specs.declared.step.Step.{Step}
use Rattle.world_core.proofs.AcknowledgedOverRuns.{all_stay}
use Rattle.world_core.proofs.Crashes.{crash_good}

-- ---- a peer

pub still_owes : (was now : PeerPast) → PeerStays was now → StillOwes was now
still_owes was now stays = tape_owes was.tape now.tape stays.1

recovered : (was now : PeerPast) → PeerStays was now → EachLedger (KeepsNotes now) now.tape.log → IsRecovered was now
recovered was now stays safe = record { prefix = safe; owes = still_owes was now stays }

all_recovered : (was now : List PeerPast) → AllZip PeerStays was now
    → AllByRecursion (λ (peer : PeerPast). EachLedger (KeepsNotes peer) peer.tape.log) now → AllZip IsRecovered was now
all_recovered [] [] stay safe = tt
all_recovered [] (b ∷ now) stay safe = absurd stay
all_recovered (a ∷ was) [] stay safe = absurd stay
all_recovered (a ∷ was) (b ∷ now) stay safe = (recovered a b stay.0 safe.0, all_recovered was now stay.1 safe.1)

-- ---- any steps

-- after each step, taken or refused, and after each crash, whatever a stop leaves is safe, and the world is sound
comes_good : (begun : Life) (steps : List Step) (lines : List (List View)) (later : Life)
    → Comes begun steps lines later → IsSafe later.past × IsSoundLife later
comes_good begun _ _ _ (No_step safe sound) = (safe, sound)
comes_good begun _ _ _ (Step_taken steps step lines outputs life later comes takes safe sound) = (safe, sound)
comes_good begun _ _ _ (Step_refused steps step lines fault life later comes refuses safe sound) = (safe, sound)
comes_good begun _ _ _ (Crashed steps cut lines life later comes crash) =
    let before = comes_good begun steps lines life comes in
    crash_good life cut later crash before.0 before.1

pub comes_safe : (begun : Life) (steps : List Step) (lines : List (List View)) (later : Life)
    → Comes begun steps lines later → IsSafe later.past
comes_safe begun steps lines later comes = (comes_good begun steps lines later comes).0

pub comes_sound : (begun : Life) (steps : List Step) (lines : List (List View)) (later : Life)
    → Comes begun steps lines later → IsSoundLife later
comes_sound begun steps lines later comes = (comes_good begun steps lines later comes).1

pub recover_all : OverRuns AllAreRecovered
recover_all = λ begun later steps lines comes.
    all_recovered begun.past.peers later.past.peers (all_stay begun later steps lines comes).peers
    (comes_safe begun steps lines later comes).peers
