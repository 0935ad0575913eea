-- What the calls of its peers make of all stations.
use Rattle.std.proofs.Common.{◌≡◌, ℕ, ◌+◌, ◌<◌, Some, Result, IfErr, OnOk, List, [], length, get_or, refl, sym, ap, ◌∙◌}
use Rattle.std.proofs.Common.{subst, inl, inr, arith}
use Rattle.std.specs.Prelude.{IfOk}
use Rattle.std.specs.Global.{Vec}
use Rattle.std.proofs.Math.ListN.{set}
use Rattle.std.specs.List.{AllZip, slice_get}
use Rattle.disk_model.specs.declared.Disk.{Ghosts}
use Rattle.ledger_core.specs.State.{State}
use Rattle.peer_queue.specs.declared.limits.Owed.{Owed}
use Rattle.sections.specs.Tapes.{TapePast}
use Rattle.world_core.specs.Past.{Past, PeerPast, with_peer, with_tape}
use Rattle.world_core.specs.Safe.{KeepsNotes}
use Rattle.world_core.specs.Tapes.{RefusesFlush, noted_at}
use Rattle.world_core.specs.Events.{Closes, Does, Event, Imports, Owes, OwesAs, Parts, Refuses, RefusesAt, Rotates}
use Rattle.world_core.specs.Events.{Sheds, Spills, closing, import_key, imported_as, owed_as, owing_as, parted}
use Rattle.world_core.specs.Events.{shed_peer}
use Rattle.world_core.specs.Sound.{IsSound}
use Rattle.world_core.specs.Stands.{ClosedOne, ClosedPeer, DidOne, FailedOne, FlushedPeer, ImportedOne, OwedNot}
use Rattle.world_core.specs.Stands.{OwedOne, OwedTo, PeerStands, RotatedPeer, ShedPeer, SpilledPeer, Stands}
use Rattle.world_core.specs.Stands.{TapeStands, UnclosedPeer, UnflushedPeer, UnrotatedPeer, UnshedPeer}
use Rattle.world_core.specs.declared.fault.Fault.{Fault}
use Rattle.world_core.specs.declared.peer.Peer.{Peer}
use Rattle.world_core.specs.declared.stations.Stations.{Stations}
use Rattle.world_core.proofs.MarksAndNotes.{zip_at, zip_set}
use Rattle.world_core.proofs.Results.{if_err_map, if_ok_map, on_ok_map}
use Rattle.world_core.proofs.SheddingIsSafe.{same_rotated, sound_shed}
use Rattle.world_core.proofs.SoundOverEvents.{sound_closed, sound_flushed, sound_owed, sound_same, sound_spilled}

pub same_history : (P : State → Type 0) (old : TapePast) (fault : Fault) (new : TapePast)
    → RefusesFlush P old fault new → new.history ≡ old.history
same_history P old fault new (inl broken) = ap (λ (t : TapePast). t.history) broken.2
same_history P old fault new (inr (inl full)) = ap (λ (t : TapePast). t.history) full.3
same_history P old fault new (inr (inr (inl memory))) = ap (λ (t : TapePast). t.history) memory.3
same_history P old fault new (inr (inr (inr disk))) = ap (λ (t : TapePast). t.history) disk.2.all

module _ {D : Type 0} {g : Ghosts D} where
  -- the new stations have this peer in place of the old one, and all else is as it was
  pub record WithPeer (old new : Stations D g) (rank : ℕ) (peer : Peer D g) : Type 0 where
    pub peers : new.peers.items ≡ set old.peers.items rank peer
    pub intake : new.intake ≡ old.intake
    pub last : new.last ≡ old.last
    pub begun : new.begun ≡ old.begun

  -- the peer that stands at a rank
  pub one_there : (old : Stations D g) (past : Past) (rank : ℕ) (was : Peer D g) → Stands old past
      → rank < length old.peers.items → was ≡ get_or old.peers.items rank was
      → (p : PeerPast) × (slice_get past.peers rank ≡ Some p) × PeerStands p was
  one_there old past rank was stands within at =
      let found = zip_at PeerStands past.peers old.peers.items rank was stands.peers within in
      (found.0, found.1, subst (λ (q : Peer D g). PeerStands found.0 q) (sym at) found.2)

  pub stands_with : (old new : Stations D g) (past : Past) (rank : ℕ) (now : PeerPast) (peer : Peer D g)
      → Stands old past → WithPeer old new rank peer → PeerStands now peer → IsSound (with_peer past rank now)
      → Stands new (with_peer past rank now)
  stands_with old new past rank now peer stands same one sound = record {
    peers = subst (λ (peers : List (Peer D g)). AllZip PeerStands (set past.peers rank now) peers) (sym same.peers)
        (zip_set PeerStands past.peers old.peers.items rank now peer stands.peers one);
    intake = subst (λ t. TapeStands past.intake t) (sym same.intake) stands.intake;
    last = same.last ∙ stands.last;
    begun = same.begun ∙ stands.begun;
    sound = sound;
  }

  -- A call of the peer at a rank is one event, taken or refused.
  module _ (old new : Stations D g) (past : Past) (rank : ℕ) (was peer : Peer D g) (stands : Stands old past)
      (within : rank < length old.peers.items) (at : was ≡ get_or old.peers.items rank was)
      (same : WithPeer old new rank peer) where
    here : (p : PeerPast) × (slice_get past.peers rank ≡ Some p) × PeerStands p was
    here = one_there old past rank was stands within at

    did : (event : Event) (now : PeerPast) → Does event past (with_peer past rank now) → PeerStands now peer
        → IsSound (with_peer past rank now) → DidOne past event new
    did event now does one sound =
        record {
          later = with_peer past rank now;
          does = does;
          stands = stands_with old new past rank now peer stands same one sound;
        }

    failed : (event : Event) (R : PeerPast → Fault → TapePast → Type 0)
        → ((fault : Fault) (later : Past) → RefusesAt R rank past fault later → Refuses event past fault later)
        → (fault : Fault) (tape : TapePast) → R here.0 fault tape → tape.history ≡ here.0.tape.history
        → PeerStands (with_tape here.0 tape) peer → FailedOne past event fault new
    failed event R refuses fault tape refused kept one = record {
      later = with_peer past rank (with_tape here.0 tape);
      refused = refuses fault (with_peer past rank (with_tape here.0 tape))
          (record { peer = here.0; tape = tape; here = here.1; refused = refused; changed = refl });
      stands = stands_with old new past rank (with_tape here.0 tape) peer stands same one
          (sound_same past rank here.0 tape stands.sound here.1 kept);
    }

    pub did_part : {T : Type 0} (r : Result T Fault)
        → ((p : PeerPast) → PeerStands p was → OnOk r (FlushedPeer p peer)) → OnOk r (DidOne past (Parts rank) new)
    did_part r reports = on_ok_map r _ _ (reports here.0 here.2) (λ is.
        did (Parts rank) (parted here.0 is.later)
        (record { peer = here.0; tape = is.later; here = here.1; flushes = is.flushes; changed = refl }) is.stands
        (sound_flushed past rank here.0 is.later stands.sound here.1
        (ap (λ (t : TapePast). t.history) is.flushes.all)))

    pub did_spill : {T : Type 0} (r : Result T Fault)
        → ((p : PeerPast) → PeerStands p was → OnOk r (SpilledPeer p peer)) → OnOk r (DidOne past (Spills rank) new)
    did_spill r reports = on_ok_map r _ _ (reports here.0 here.2) (λ is.
        did (Spills rank) (with_tape here.0 is.later)
        (record { peer = here.0; tape = is.later; here = here.1; flushes = is.flushes; changed = refl }) is.stands
        (sound_spilled past rank here.0 is.later stands.sound here.1
        (ap (λ (t : TapePast). t.history) is.flushes.all)))

    pub failed_part : {T : Type 0} (r : Result T Fault)
        → ((p : PeerPast) → PeerStands p was → IfErr r (λ fault. UnflushedPeer p fault peer))
        → IfErr r (λ fault. FailedOne past (Parts rank) fault new)
    failed_part r reports = if_err_map r _ _ (reports here.0 here.2) (λ fault is.
        failed (Parts rank) _ (λ f later refused. refused) fault is.later is.refused
        (same_history (KeepsNotes here.0) here.0.tape fault is.later is.refused) is.stands)

    pub failed_spill : {T : Type 0} (r : Result T Fault)
        → ((p : PeerPast) → PeerStands p was → IfErr r (λ fault. UnflushedPeer p fault peer))
        → IfErr r (λ fault. FailedOne past (Spills rank) fault new)
    failed_spill r reports = if_err_map r _ _ (failed_part r reports)
        (λ fault is. record { later = is.later; refused = is.refused; stands = is.stands })

    pub did_rotate : (r : Result ℕ Fault)
        → ((p : PeerPast) → PeerStands p was → IfOk r (λ generation. RotatedPeer p generation peer))
        → IfOk r (λ generation. DidOne past (Rotates rank generation) new)
    did_rotate r reports = if_ok_map r _ _ (reports here.0 here.2) (λ generation is.
        did (Rotates rank generation) (with_tape here.0 is.later)
        (record { peer = here.0; tape = is.later; here = here.1; rotates = is.rotates; changed = refl }) is.stands
        (sound_spilled past rank here.0 is.later stands.sound here.1
        (ap (λ (t : TapePast). t.history) is.rotates.all)))

    pub failed_rotate : {T : Type 0} (r : Result T Fault)
        → ((p : PeerPast) → PeerStands p was → IfErr r (λ fault. UnrotatedPeer p fault peer))
        → IfErr r (λ fault. FailedOne past (Rotates rank 0) fault new)
    failed_rotate r reports = if_err_map r _ _ (reports here.0 here.2) (λ fault is.
        failed (Rotates rank 0) _ (λ f later refused. refused) fault is.later is.refused
        (same_rotated (KeepsNotes here.0) here.0.tape fault is.later is.refused) is.stands)

    pub did_shed : (r : Result (Vec ℕ) Fault)
        → ((p : PeerPast) → PeerStands p was → IfOk r (λ numbers. ShedPeer p numbers.items peer))
        → IfOk r (λ numbers. DidOne past (Sheds rank numbers.items) new)
    did_shed r reports = if_ok_map r _ _ (reports here.0 here.2) (λ numbers is.
        did (Sheds rank numbers.items) (shed_peer numbers.items here.0)
        (record { peer = here.0; here = here.1; works = is.works; sheds = is.sheds; changed = refl }) is.stands
        (sound_shed past rank here.0 numbers.items stands.sound here.1 here.2.tape.stands.kept_within))

    pub failed_shed : {T : Type 0} (r : Result T Fault)
        → ((p : PeerPast) → PeerStands p was → IfErr r (λ fault. UnshedPeer p fault peer))
        → IfErr r (λ fault. FailedOne past (Sheds rank []) fault new)
    failed_shed r reports = if_err_map r _ _ (reports here.0 here.2) (λ fault is.
        failed (Sheds rank []) _ (λ f later refused. refused) fault here.0.tape is.refused refl is.stands)

    pub did_close : (r : Result ℕ Fault)
        → ((p : PeerPast) → PeerStands p was → IfOk r (λ source. ClosedPeer p source peer))
        → IfOk r (λ source. ClosedOne past rank source new)
    did_close r reports = if_ok_map r _ _ (reports here.0 here.2) (λ source is. record {
      peer = here.0;
      here = here.1;
      source_is = is.source_is;
      did = did (Closes rank) (with_tape here.0 (noted_at here.0.tape (closing here.0)))
          (record { peer = here.0; here = here.1; works = is.works; room = is.room; fits = is.fits; changed = refl })
          is.stands (sound_closed past rank here.0 stands.sound here.1 here.2.tape.stands.kept_within);
    })

    pub failed_close : {T : Type 0} (r : Result T Fault)
        → ((p : PeerPast) → PeerStands p was → IfErr r (λ fault. UnclosedPeer p fault peer))
        → IfErr r (λ fault. FailedOne past (Closes rank) fault new)
    failed_close r reports = if_err_map r _ _ (reports here.0 here.2) (λ fault is.
        failed (Closes rank) _ (λ f later refused. refused) fault here.0.tape (is.refused, refl) refl is.stands)

    -- a line is owed under a key above the numbers of all lines
    module _ (token id : List ℕ) where
      owes : (answer : PeerPast → Owed) (key : PeerPast → ℕ) (owed : Owed)
          → OwedTo answer key token id here.0 owed peer → past.last < key here.0
          → (event : Event)
          → ((later : Past) → OwesAs answer key rank token id past later → Does event past later)
          → DidOne past event new
      owes answer key owed is above event does =
          did event (owing_as (answer here.0) (key here.0) token id here.0) (does _ (record {
            peer = here.0;
            here = here.1;
            works = is.works;
            apart = λ e. is.apart (is.owed_is ∙ e);
            room = λ e. is.room (is.owed_is ∙ e);
            changed = refl;
          }))
          (subst (λ (o : Owed). PeerStands (owing_as o (key here.0) token id here.0) peer) is.owed_is is.stands)
          (sound_owed past rank here.0 (key here.0) token id (answer here.0) stands.sound here.1
          here.2.tape.stands.kept_within above)

      pub did_import : (number : ℕ) (r : Result Owed Fault)
          → ((p : PeerPast) → PeerStands p was
          → IfOk r (λ owed. OwedTo (imported_as number) (import_key number) token id p owed peer))
          → IfOk r (λ owed. ImportedOne past rank number token id owed new)
      did_import number r reports = if_ok_map r _ _ (reports here.0 here.2) (λ owed is. record {
        peer = here.0;
        here = here.1;
        owed_is = is.owed_is;
        did = owes (imported_as number) (import_key number) owed is (omega (arith, stands.sound.fits))
            (Imports rank number token id) (λ later does. does);
      })

      pub failed_import : {T : Type 0} (number : ℕ) (r : Result T Fault)
          → ((p : PeerPast) → PeerStands p was
          → IfErr r (λ fault. OwedNot (imported_as number) (import_key number) token id p fault peer))
          → IfErr r (λ fault. FailedOne past (Imports rank number token id) fault new)
      failed_import number r reports = if_err_map r _ _ (reports here.0 here.2) (λ fault is.
          failed (Imports rank number token id) _ (λ f later refused. refused) fault here.0.tape is.refused refl
          is.stands)

      next : old.last + 1 ≡ past.last + 1
      next = ap (λ (n : ℕ). n + 1) stands.last

      pub did_owe : (r : Result Owed Fault)
          → ((p : PeerPast) → PeerStands p was → IfOk r (λ owed.
          OwedTo (owed_as (old.last + 1)) (λ (q : PeerPast). old.last + 1) token id p owed peer))
          → IfOk r (λ owed. OwedOne past rank token id owed new)
      did_owe r reports = if_ok_map r _ _ (reports here.0 here.2) (λ owed outputs.
          let is = subst (λ (n : ℕ). OwedTo (owed_as n) (λ (q : PeerPast). n) token id here.0 owed peer) next outputs in
          record {
            peer = here.0;
            here = here.1;
            owed_is = is.owed_is;
            did = owes (owed_as (past.last + 1)) (λ (q : PeerPast). past.last + 1) owed is (omega arith)
                (Owes rank token id) (λ later does. does);
          })

      pub failed_owe : {T : Type 0} (r : Result T Fault)
          → ((p : PeerPast) → PeerStands p was → IfErr r (λ fault.
          OwedNot (owed_as (old.last + 1)) (λ (q : PeerPast). old.last + 1) token id p fault peer))
          → IfErr r (λ fault. FailedOne past (Owes rank token id) fault new)
      failed_owe r reports = if_err_map r _ _ (reports here.0 here.2) (λ fault outputs.
          let is = subst (λ (n : ℕ). OwedNot (owed_as n) (λ (q : PeerPast). n) token id here.0 fault peer) next
          outputs in
          failed (Owes rank token id) _ (λ f later refused. refused) fault here.0.tape is.refused refl is.stands)
