-- At each moment within a step, whatever a stop leaves of a tape is the tape of a prefix of its notes.
use Rattle.std.proofs.Common.{◌≡◌, ◌⊎◌, ◌+◌, ◌++◌, ℕ, Bool, true, false, ◌∙◌, Some, List, [], ◌∷◌, refl}
use Rattle.std.proofs.Common.{sym, ap, subst, inl, inr}
use Rattle.std.specs.Prelude.{if◌then◌else◌, nat_lt}
use Rattle.std.specs.List.{AllByRecursion, AllZip, slice_get}
use Rattle.recovery.specs.Leaving.{EachLedger, IsPrefix, LedgersLeave}
use Rattle.recovery.specs.Pairs.LeavesPair.{at_start}
use Rattle.ledger_core.specs.declared.note.Note.TheVariants.{Seen}
use Rattle.peer_queue.specs.DebtPlace.{Ready as Free, moved}
use Rattle.peer_queue.specs.Settled.{key_in}
use Rattle.peer_queue.specs.declared.limits.Owed.{Owed}
use Rattle.peer_queue.specs.declared.limits.Owed.TheVariants.{New, Already}
use Rattle.peer_queue.specs.declared.settled.Settled.{Settled}
use Rattle.peer_queue.specs.declared.settled.Settled.TheVariants.{Answered, Dropped, Later, Ready}
use Rattle.sections.specs.ListLaws.{zip_put, zip_same, zip_weaker}
use Rattle.sections.specs.Tapes.{TapePast, mark_at}
use Rattle.world_core.specs.Past.{Past, PeerPast, with_peer, with_places, with_tape}
use Rattle.world_core.specs.Safe.{KeepsLines, KeepsNotes}
use Rattle.world_core.specs.Events.{Acknowledges, Claims, Closes, Does, Event, Imports, Opens, OpensIntake, Owes}
use Rattle.world_core.specs.Events.{Parts, Refuses, Returns, Rotates, Sees, Settles, Sheds, Spills, import_key}
use Rattle.world_core.specs.Events.{claimed_peer, imported_as, owed_as, owing_as, seen, settled_as, settling, shed_peer}
use Rattle.world_core.specs.Keeping.{PeerStays, PeersStay}
use Rattle.world_core.specs.Laws.{StillOwes}
use Rattle.world_core.specs.Crashes.{StaysBelow, StaysPrefix}
use Rattle.world_core.specs.Moments.{AllMomentsAreRecovered}
use Rattle.world_core.specs.Steps.{begun_at}
use Rattle.world_core.specs.Tapes.{RefusesFlush, RefusesRotate, noted_at}
use Rattle.world_core.specs.Tapes.Rotation.{Is_broken, Is_last, Is_long, Fits}
use Rattle.world_core.specs.declared.fault.Fault.{Fault}
use Rattle.world_core.proofs.AcknowledgedOverEvents.{peer_same, stay_same, stay_then}
use Rattle.world_core.proofs.Crashes.{IsSafePeer, under_way_safe}
use Rattle.world_core.proofs.RecoveredNotes.{comes_safe, still_owes}
use Rattle.world_core.proofs.AcknowledgedOverRuns.{all_stay, events_stay}
use Rattle.world_core.proofs.RelatedLists.{zip_made}
use Rattle.world_core.proofs.WalkOverTapes.{frame}

-- ---- lists

pub not_none : {A : Type 0} (xs : List A) (x : A) → xs ++ x ∷ [] ≡ [] → ⊥
not_none [] x is = cc
not_none (y ∷ xs) x is = cc

-- one relation from another, and from what each element of the first list has
zip_with : {A B : Type 0} (P : A → B → Type 0) (S : A → Type 0) (Q : A → B → Type 0)
    → ((x : A) (y : B) → P x y → S x → Q x y)
    → (xs : List A) (ys : List B) → AllZip P xs ys → AllByRecursion S xs → AllZip Q xs ys
zip_with P S Q each [] [] zip all = tt
zip_with P S Q each [] (y ∷ ys) zip all = absurd zip
zip_with P S Q each (x ∷ xs) [] zip all = absurd zip
zip_with P S Q each (x ∷ xs) (y ∷ ys) zip all =
    (each x y zip.0 all.0, zip_with P S Q each xs ys zip.1 all.1)

-- ---- a peer

-- whatever a stop leaves at each moment from the first peer to the second is the tape of a prefix of the first's
-- notes, if it is so now
abbrev Leaves : PeerPast → PeerPast → Type 0
Leaves old new = IsSafePeer old → StaysPrefix old new

-- nothing has happened to its disks
same_log : (old new : PeerPast) → new.tape.log ≡ old.tape.log → Leaves old new
same_log old new same safe =
    subst (LedgersLeave (IsPrefix old.tape.history) old.tape.log) (sym same) (at_start safe)

leaves_self : (peer : PeerPast) → Leaves peer peer
leaves_self peer = same_log peer peer refl

pub log_of : (one other : TapePast) → one ≡ other → one.log ≡ other.log
log_of one other same = ap (λ (t : TapePast). t.log) same

same_disks : (peer : PeerPast) (tape : TapePast) → tape.log ≡ peer.tape.log → Leaves peer (with_tape peer tape)
same_disks peer tape same = same_log peer (with_tape peer tape) same

owing_leaves : (owed : Owed) (number : ℕ) (token id : List ℕ) (peer : PeerPast)
    → Leaves peer (owing_as owed number token id peer)
owing_leaves New number token id peer = same_log peer (owing_as New number token id peer) refl
owing_leaves Already number token id peer = leaves_self peer

settled_leaves : (settled : Settled) (number : ℕ) (peer : PeerPast) → Leaves peer (settled_as settled number peer)
settled_leaves (Answered code) number peer = same_log peer (settled_as (Answered code) number peer) refl
settled_leaves (Dropped cause) number peer = same_log peer (settled_as (Dropped cause) number peer) refl
settled_leaves (Later moment) number peer = same_log peer (settled_as (Later moment) number peer) refl
settled_leaves Ready number peer = same_log peer (settled_as Ready number peer) refl

flush_leaves : (peer : PeerPast) (fault : Fault) (tape : TapePast)
    → RefusesFlush (KeepsNotes peer) peer.tape fault tape → Leaves peer (with_tape peer tape)
flush_leaves peer fault tape (inl broken) = same_disks peer tape (log_of _ _ broken.2)
flush_leaves peer fault tape (inr (inl full)) = same_disks peer tape (log_of _ _ full.3)
flush_leaves peer fault tape (inr (inr (inl memory))) = same_disks peer tape (log_of _ _ memory.3)
flush_leaves peer fault tape (inr (inr (inr disk))) = λ safe. disk.2.moments

rotate_leaves : (peer : PeerPast) (fault : Fault) (tape : TapePast)
    → RefusesRotate (KeepsNotes peer) peer.tape fault tape → Leaves peer (with_tape peer tape)
rotate_leaves peer fault tape (generation, Is_broken, comes, broken) = same_disks peer tape (log_of _ _ broken.1.all)
rotate_leaves peer fault tape (generation, Is_last, comes, last) = same_disks peer tape (log_of _ _ last.1.all)
rotate_leaves peer fault tape (generation, Is_long, comes, long) = same_disks peer tape (log_of _ _ long.1.all)
rotate_leaves peer fault tape (generation, Fits, comes, inl memory) = same_disks peer tape (log_of _ _ memory.1.all)
rotate_leaves peer fault tape (generation, Fits, comes, inr disk) = λ safe. disk.1.moments

-- ---- all peers

abbrev AllLeave : Past → Past → Type 0
AllLeave was now = AllZip Leaves was.peers now.peers

none_leave : (was now : Past) → now.peers ≡ was.peers → AllLeave was now
none_leave was now same = subst (AllZip Leaves was.peers) (sym same) (zip_same Leaves leaves_self was.peers)

one_leaves : (was now : Past) (rank : ℕ) (peer new : PeerPast) → slice_get was.peers rank ≡ Some peer
    → now ≡ with_peer was rank new → Leaves peer new → AllLeave was now
one_leaves was now rank peer new here changed leaves =
    subst (λ (p : Past). AllLeave was p) (sym changed) (zip_put Leaves leaves_self was.peers rank peer new here leaves)

same_tape : (was now : Past) (rank : ℕ) (peer : PeerPast) (tape : TapePast) → slice_get was.peers rank ≡ Some peer
    → now ≡ with_peer was rank (with_tape peer tape) → tape.log ≡ peer.tape.log → AllLeave was now
same_tape was now rank peer tape here changed same =
    one_leaves was now rank peer (with_tape peer tape) here changed (same_disks peer tape same)

peers_of : (was now : Past) → was ≡ now → was.peers ≡ now.peers
peers_of was now same = ap (λ (p : Past). p.peers) same

-- ---- each event, taken and refused

taken_leaves : (event : Event) (was now : Past) → Does event was now → AllLeave was now
taken_leaves (Owes rank token id) was now d =
    one_leaves was now rank d.peer _ d.here d.changed
    (owing_leaves (owed_as (was.last + 1) d.peer) (was.last + 1) token id d.peer)
taken_leaves (Imports rank number token id) was now d =
    one_leaves was now rank d.peer _ d.here d.changed
    (owing_leaves (imported_as number d.peer) (import_key number d.peer) token id d.peer)
taken_leaves (Closes rank) was now d = same_tape was now rank d.peer _ d.here d.changed refl
taken_leaves (Spills rank) was now d =
    one_leaves was now rank d.peer _ d.here d.changed (λ safe. d.flushes.moments)
taken_leaves (Parts rank) was now d = one_leaves was now rank d.peer _ d.here d.changed (λ safe. d.flushes.moments)
taken_leaves (Rotates rank generation) was now d =
    one_leaves was now rank d.peer _ d.here d.changed (λ safe. d.rotates.moments)
taken_leaves (Sheds rank numbers) was now d =
    one_leaves was now rank d.peer (shed_peer numbers d.peer) d.here d.changed
    (same_log d.peer (shed_peer numbers d.peer) refl)
taken_leaves (Claims rank id moment) was now d =
    let new = claimed_peer id d.debt.0 d.tape d.peer in
    one_leaves was now rank d.peer new d.here d.changed (same_log d.peer new (log_of _ _ d.reads.all))
taken_leaves (Returns rank id number) was now d =
    let new = with_places d.peer (moved d.peer.places number Free) in
    one_leaves was now rank d.peer new d.here d.changed (same_log d.peer new refl)
taken_leaves (Settles rank id moment outcome) was now d =
    one_leaves was now rank d.peer _ d.here d.changed
    (settled_leaves (settling d.peer moment outcome) (key_in outcome) d.peer)
taken_leaves (Sees number) was now d = none_leave was now (peers_of _ _ d.changed)
taken_leaves Acknowledges was now d = none_leave was now (peers_of _ _ d.changed)
taken_leaves (Opens rank) was now d = one_leaves was now rank d.peer _ d.here d.changed (λ safe. d.opens.moments)
taken_leaves OpensIntake was now d = none_leave was now (peers_of _ _ d.changed)

refused_leaves : (event : Event) (was now : Past) (fault : Fault) → Refuses event was fault now → AllLeave was now
refused_leaves (Owes rank token id) was now fault r =
    same_tape was now rank r.peer r.tape r.here r.changed (log_of _ _ r.refused.2)
refused_leaves (Imports rank number token id) was now fault r =
    same_tape was now rank r.peer r.tape r.here r.changed (log_of _ _ r.refused.2)
refused_leaves (Closes rank) was now fault r =
    same_tape was now rank r.peer r.tape r.here r.changed (log_of _ _ r.refused.1)
refused_leaves (Spills rank) was now fault r =
    one_leaves was now rank r.peer _ r.here r.changed (flush_leaves r.peer fault r.tape r.refused)
refused_leaves (Parts rank) was now fault r =
    one_leaves was now rank r.peer _ r.here r.changed (flush_leaves r.peer fault r.tape r.refused)
refused_leaves (Rotates rank generation) was now fault r =
    one_leaves was now rank r.peer _ r.here r.changed (rotate_leaves r.peer fault r.tape r.refused)
refused_leaves (Sheds rank numbers) was now fault r =
    same_tape was now rank r.peer r.tape r.here r.changed (log_of _ _ r.refused.1)
refused_leaves (Claims rank id moment) was now fault r =
    same_tape was now rank r.peer r.tape r.here r.changed (log_of _ _ r.refused.1.all)
refused_leaves (Returns rank id number) was now fault r =
    same_tape was now rank r.peer r.tape r.here r.changed (log_of _ _ r.refused.1)
refused_leaves (Settles rank id moment outcome) was now fault r =
    same_tape was now rank r.peer r.tape r.here r.changed (log_of _ _ r.refused.1)
refused_leaves (Sees number) was now fault r = none_leave was now (peers_of _ _ r.changed)
refused_leaves Acknowledges was now fault r = none_leave was now (peers_of _ _ r.changed)
refused_leaves (Opens rank) was now fault r =
    one_leaves was now rank r.peer _ r.here r.changed (λ safe. r.refused.moments)
refused_leaves OpensIntake was now fault r = none_leave was now (peers_of _ _ r.changed)

event_leaves : (event : Event) (was now : Past)
    → Does event was now ⊎ ((fault : Fault) × Refuses event was fault now) → AllLeave was now
event_leaves event was now (inl does) = taken_leaves event was now does
event_leaves event was now (inr (fault, refuses)) = refused_leaves event was now fault refuses

-- ---- the intake's tape

abbrev IsSafeIntake : Past → Type 0
IsSafeIntake past = EachLedger (KeepsLines past.intake.history past.peers) past.intake.log

abbrev Lasts : Past → Past → Type 0
Lasts was now = IsSafeIntake was → StaysBelow was now

-- nothing has happened to its disks
same_intake : (was now : Past) → now.intake.log ≡ was.intake.log → Lasts was now
same_intake was now same safe =
    subst (LedgersLeave (KeepsLines was.intake.history was.peers) was.intake.log) (sym same) (at_start safe)

intake_of : (was now : Past) → was ≡ now → was.intake.log ≡ now.intake.log
intake_of was now same = ap (λ (p : Past). p.intake.log) same

-- one of its events left this tape
other_intake : (was now : Past) (tape : TapePast) → now.intake ≡ tape
    → LedgersLeave (KeepsLines was.intake.history was.peers) was.intake.log tape.log → Lasts was now
other_intake was now tape is leaves safe =
    subst (λ (t : TapePast). LedgersLeave (KeepsLines was.intake.history was.peers) was.intake.log t.log) (sym is)
    leaves

tape_of : (was now : Past) → was ≡ now → was.intake ≡ now.intake
tape_of was now same = ap (λ (p : Past). p.intake) same

pub seen_log : (number : ℕ) (tape : TapePast) → (seen number tape).log ≡ tape.log
seen_log number tape = by (nat_lt (mark_at tape) number)
  where
    by : (b : Bool) → (if b then noted_at tape (Seen number) else tape).log ≡ tape.log
    by true = refl
    by false = refl

taken_lasts : (event : Event) (was now : Past) → Does event was now → Lasts was now
taken_lasts (Owes rank token id) was now d = same_intake was now (intake_of _ _ d.changed)
taken_lasts (Imports rank number token id) was now d = same_intake was now (intake_of _ _ d.changed)
taken_lasts (Closes rank) was now d = same_intake was now (intake_of _ _ d.changed)
taken_lasts (Spills rank) was now d = same_intake was now (intake_of _ _ d.changed)
taken_lasts (Parts rank) was now d = same_intake was now (intake_of _ _ d.changed)
taken_lasts (Rotates rank generation) was now d = same_intake was now (intake_of _ _ d.changed)
taken_lasts (Sheds rank numbers) was now d = same_intake was now (intake_of _ _ d.changed)
taken_lasts (Claims rank id moment) was now d = same_intake was now (intake_of _ _ d.changed)
taken_lasts (Returns rank id number) was now d = same_intake was now (intake_of _ _ d.changed)
taken_lasts (Settles rank id moment outcome) was now d = same_intake was now (intake_of _ _ d.changed)
taken_lasts (Sees number) was now d =
    same_intake was now (intake_of _ _ d.changed ∙ seen_log number was.intake)
taken_lasts Acknowledges was now d = other_intake was now d.tape (tape_of _ _ d.changed) d.flushes.moments
taken_lasts (Opens rank) was now d = same_intake was now (intake_of _ _ d.changed)
taken_lasts OpensIntake was now d = other_intake was now d.tape (tape_of _ _ d.changed) d.opens.moments

-- a flush of it was refused
unflushed_lasts : (was now : Past) (fault : Fault) (tape : TapePast) → now.intake ≡ tape
    → RefusesFlush (KeepsLines was.intake.history was.peers) was.intake fault tape → Lasts was now
unflushed_lasts was now fault tape is (inl broken) = same_intake was now (log_of _ _ (is ∙ broken.2))
unflushed_lasts was now fault tape is (inr (inl full)) = same_intake was now (log_of _ _ (is ∙ full.3))
unflushed_lasts was now fault tape is (inr (inr (inl memory))) = same_intake was now (log_of _ _ (is ∙ memory.3))
unflushed_lasts was now fault tape is (inr (inr (inr disk))) = other_intake was now tape is disk.2.moments

refused_lasts : (event : Event) (was now : Past) (fault : Fault) → Refuses event was fault now → Lasts was now
refused_lasts (Owes rank token id) was now fault r = same_intake was now (intake_of _ _ r.changed)
refused_lasts (Imports rank number token id) was now fault r = same_intake was now (intake_of _ _ r.changed)
refused_lasts (Closes rank) was now fault r = same_intake was now (intake_of _ _ r.changed)
refused_lasts (Spills rank) was now fault r = same_intake was now (intake_of _ _ r.changed)
refused_lasts (Parts rank) was now fault r = same_intake was now (intake_of _ _ r.changed)
refused_lasts (Rotates rank generation) was now fault r = same_intake was now (intake_of _ _ r.changed)
refused_lasts (Sheds rank numbers) was now fault r = same_intake was now (intake_of _ _ r.changed)
refused_lasts (Claims rank id moment) was now fault r = same_intake was now (intake_of _ _ r.changed)
refused_lasts (Returns rank id number) was now fault r = same_intake was now (intake_of _ _ r.changed)
refused_lasts (Settles rank id moment outcome) was now fault r = same_intake was now (intake_of _ _ r.changed)
refused_lasts (Sees number) was now fault r =
    same_intake was now (log_of _ _ (tape_of _ _ r.changed ∙ r.refused.2))
refused_lasts Acknowledges was now fault r =
    unflushed_lasts was now fault r.tape (tape_of _ _ r.changed) r.refused
refused_lasts (Opens rank) was now fault r = same_intake was now (intake_of _ _ r.changed)
refused_lasts OpensIntake was now fault r =
    other_intake was now r.tape (tape_of _ _ r.changed) r.refused.moments

event_lasts : (event : Event) (was now : Past)
    → Does event was now ⊎ ((fault : Fault) × Refuses event was fault now) → Lasts was now
event_lasts event was now (inl does) = taken_lasts event was now does
event_lasts event was now (inr (fault, refuses)) = refused_lasts event was now fault refuses

-- ---- where a step's events begin

started : (past begun : Past) → (begun ≡ past) ⊎ (begun ≡ begun_at past) → PeersStay past begun
started past begun (inl same) = subst (PeersStay past) (sym same) (stay_same past past refl)
started past begun (inr same) =
    subst (PeersStay past) (sym same)
    (zip_made PeerStays (λ (peer : PeerPast). record peer { parted = false }) (λ peer. peer_same peer) past.peers)

pub moments_recovered : AllMomentsAreRecovered
moments_recovered = λ begun life steps lines comes step was now way.
    let start = started life.past way.plan.begun (frame step life.past way.plan way.is_plan).begins in
    let safe = under_way_safe step life was now way (comes_safe begun steps lines life comes) in
    record {
      prefixes = zip_with Leaves IsSafePeer StaysPrefix (λ old new leaves is. leaves is) was.peers now.peers
          (event_leaves way.event was now way.makes) safe.peers;
      owes = zip_weaker PeerStays StillOwes still_owes begun.past.peers was.peers
          (stay_then begun.past life.past was (all_stay begun life steps lines comes).peers
          (stay_then life.past way.plan.begun was start (events_stay way.plan.begun was _ way.prefix)));
      lines = event_lasts way.event was now way.makes safe.intake;
    }
