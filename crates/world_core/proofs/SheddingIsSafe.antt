-- What holds of all tapes after a shedding, and what a refused rotation keeps.
use Rattle.std.proofs.Common.{◌≡◌, ℕ, ◌≤◌, Some, List, [], ◌∷◌, length, refl, sym, ap, subst, inl, inr}
use Rattle.std.specs.List.{AllByRecursion, slice_get}
use Rattle.std.proofs.lemmas.List.{drop-append-le}
use Rattle.ledger_core.specs.State.{State}
use Rattle.peer_queue.specs.Shed.{dropped}
use Rattle.recovery.specs.Leaving.{pending_notes}
use Rattle.sections.specs.ListLaws.{both_all}
use Rattle.sections.specs.Tapes.{TapePast, IsAbove}
use Rattle.world_core.specs.Past.{Past, PeerPast, with_peer}
use Rattle.world_core.specs.Safe.{HasAcknowledged}
use Rattle.world_core.specs.Tapes.{RefusesRotate}
use Rattle.world_core.specs.Tapes.Rotation.{Is_broken, Is_last, Is_long, Fits}
use Rattle.world_core.specs.Events.{shed_peer}
use Rattle.world_core.specs.Sound.{IsSound}
use Rattle.world_core.specs.declared.fault.Fault.{Fault}
use Rattle.world_core.proofs.SoundOverEvents.{sound_kept}

drops_above : (mark : ℕ) (numbers : List ℕ) → AllByRecursion (IsAbove mark) (dropped numbers)
drops_above mark [] = tt
drops_above mark (number ∷ numbers) = (tt, drops_above mark numbers)

has_shed : (mark : ℕ) (numbers : List ℕ) (peer : PeerPast) → peer.tape.history.kept ≤ length peer.tape.history.notes
    → HasAcknowledged mark peer
    → HasAcknowledged mark (shed_peer numbers peer)
has_shed mark numbers peer within has =
    subst (AllByRecursion (IsAbove mark))
    (sym (drop-append-le peer.tape.history.kept peer.tape.history.notes (dropped numbers) within))
    (both_all (IsAbove mark) (pending_notes peer.tape.history) (dropped numbers) has (drops_above mark numbers))

pub sound_shed : (past : Past) (rank : ℕ) (peer : PeerPast) (numbers : List ℕ) → IsSound past
    → slice_get past.peers rank ≡ Some peer
    → peer.tape.history.kept ≤ length peer.tape.history.notes → IsSound (with_peer past rank (shed_peer numbers peer))
sound_shed past rank peer numbers sound here within =
    sound_kept past rank peer _ sound here refl refl (λ mark below has. has_shed mark numbers peer within has)

pub same_rotated : (P : State → Type 0) (old : TapePast) (fault : Fault) (new : TapePast)
    → RefusesRotate P old fault new → new.history ≡ old.history
same_rotated P old fault new (generation, Is_broken, comes, broken) = ap (λ (t : TapePast). t.history) broken.1.all
same_rotated P old fault new (generation, Is_last, comes, last) = ap (λ (t : TapePast). t.history) last.1.all
same_rotated P old fault new (generation, Is_long, comes, long) = ap (λ (t : TapePast). t.history) long.1.all
same_rotated P old fault new (generation, Fits, comes, inl memory) = ap (λ (t : TapePast). t.history) memory.1.all
same_rotated P old fault new (generation, Fits, comes, inr disk) = ap (λ (t : TapePast). t.history) disk.1.all
