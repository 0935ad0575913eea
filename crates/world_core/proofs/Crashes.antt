-- After a crash, whatever a stop leaves is safe, the world is sound, and steps go on from there.
use Rattle.std.proofs.Common.{◌≡◌, ◌⊎◌, ℕ, false, None, Some, List, [], ◌∷◌, map, refl, sym, ap, ◌∙◌, subst, inl, inr}
use Rattle.std.proofs.Common.{arith}
use Rattle.std.proofs.Math.ListN.{set}
use Rattle.std.specs.List.{AllByRecursion, slice_get}
use Rattle.ledger_core.specs.State.{State}
use Rattle.recovery.specs.Image.{Log, Octets}
use Rattle.recovery.specs.Leaving.{EachLedger, HasLedger, IsPrefix}
use Rattle.recovery.specs.LeavingLaws.{EachLedger-weaker}
use Rattle.recovery.specs.Notes.{History}
use Rattle.recovery.specs.Pairs.{EachPair, LeavesPair}
use Rattle.recovery.specs.Pairs.LeavesPair.{at_start, first_next, second_next}
use Rattle.sections.specs.ListLaws.{all_set, zip_get, zip_second, zip_then}
use Rattle.sections.specs.TapeLaws.{left_safe}
use Rattle.sections.specs.Tapes.{TapePast, mark_at}
use Rattle.world_core.specs.Past.{Life, Past, PeerPast, with_tape}
use Rattle.world_core.specs.Crashes.{AreStopped, At_intake, At_peer, Before, Between, Crashes, IsMoment, IsMomentOf}
use Rattle.world_core.specs.Crashes.{IsOn, IsStoppedPeer, IsUnderWay, Within, with_log}
use Rattle.world_core.specs.Events.{AllDo, Event}
use Rattle.world_core.specs.Events.AllDo.{Start, Next}
use Rattle.world_core.specs.Halts.{stopped_at}
use Rattle.world_core.specs.Opening.{HasNoneHeld}
use Rattle.world_core.specs.Safe.{HasAcknowledged, IsSafe, KeepsLines, KeepsNotes}
use Rattle.world_core.specs.Sound.{AreTied, IsSound, IsSoundLife, NamesRise}
use Rattle.world_core.specs.Steps.{begun_at}
use Rattle.world_core.specs.declared.step.Step.{Step}
use Rattle.world_core.proofs.PlansStaySound.{under_way_sound}
use Rattle.world_core.proofs.RelatedLists.{zip_equal}
use Rattle.world_core.proofs.SoundOverEvents.{all_begun}
use Rattle.world_core.proofs.WalkOverTapes.{HasSameNotes, HaveSameNotes, SameButDisks, frame, moment_rest, moment_same}
use Rattle.world_core.proofs.WalkOverTapes.{stopped_rest, stopped_same}
use Rattle.world_core.proofs.WorldStopped.{tied_none}

-- ---- where a step's events begin, and behind some of them

-- whatever a stop leaves of a peer's tape is the tape of a prefix of its notes
abbrev pub IsSafePeer : PeerPast → Type 0
IsSafePeer peer = EachLedger (KeepsNotes peer) peer.tape.log

safe_peers : (peers : List PeerPast) → AllByRecursion IsSafePeer peers
    → AllByRecursion IsSafePeer (map (λ (peer : PeerPast). record peer { parted = false }) peers)
safe_peers [] safe = tt
safe_peers (peer ∷ peers) safe = (safe.0, safe_peers peers safe.1)

safe_begun : (past : Past) → IsSafe past → IsSafe (begun_at past)
safe_begun past safe = record {
  peers = safe_peers past.peers safe.peers;
  intake = EachLedger-weaker (KeepsLines past.intake.history past.peers)
      (KeepsLines past.intake.history (begun_at past).peers)
      (λ state keeps. record { prefix = keeps.prefix; lines = all_begun state.mark past.peers keeps.lines })
      past.intake.log safe.intake;
}

started : (past begun : Past) → IsSafe past → (begun ≡ past) ⊎ (begun ≡ begun_at past) → IsSafe begun
started past begun safe (inl same) = subst IsSafe (sym same) safe
started past begun safe (inr same) = subst IsSafe (sym same) (safe_begun past safe)

safe_behind : (begun later : Past) (events : List Event) → AllDo begun events later → IsSafe begun → IsSafe later
safe_behind begun _ _ Start safe = safe
safe_behind begun _ _ (Next events event past later does one safe') safe = safe'

pub under_way_safe : (step : Step) (life : Life) (was now : Past) → IsUnderWay step life was now → IsSafe life.past
    → IsSafe was
under_way_safe step life was now way safe =
    safe_behind way.plan.begun was _ way.prefix
    (started life.past way.plan.begun safe (frame step life.past way.plan way.is_plan).begins)

-- ---- other tapes with the same notes

lines_same : (h : History) (was now : Past) → HaveSameNotes was now → (state : State) → KeepsLines h was.peers state
    → KeepsLines h now.peers state
lines_same h was now same state keeps = record {
  prefix = keeps.prefix;
  lines = zip_second HasSameNotes (HasAcknowledged state.mark) (HasAcknowledged state.mark)
      (λ one other has is. subst (λ (history : History). HasAcknowledged state.mark
      (with_tape other (record other.tape { history = history }))) (sym is.1) has) was.peers now.peers keeps.lines same;
}

-- nothing else than the disks has changed, and the numbers that were kept are gone
sound_same : (was now : Past) → SameButDisks was now → now.begun ≡ None → IsSound was → IsSound now
sound_same was now same none sound =
    let mark : mark_at now.intake ≡ mark_at was.intake =
    ap (λ (h : History). mark_at (record was.intake { history = h })) same.intake in
    record {
      names = subst NamesRise (sym (zip_equal HasSameNotes (λ (peer : PeerPast). peer.conf.name)
          (λ (peer : PeerPast). peer.conf.name) (λ one other is. ap (λ conf. conf.name) is.0) was.peers now.peers
          same.notes)) sound.names;
      fits = omega (arith, sound.fits, same.last);
      marked = omega (arith, sound.marked, mark, same.last);
      acknowledged = subst (λ (m : ℕ). AllByRecursion (HasAcknowledged m) now.peers) (sym mark)
          (zip_second HasSameNotes (HasAcknowledged (mark_at was.intake)) (HasAcknowledged (mark_at was.intake))
          (λ one other has is. subst (λ (history : History). HasAcknowledged (mark_at was.intake)
          (with_tape other (record other.tape { history = history }))) (sym is.1) has) was.peers now.peers
          sound.acknowledged same.notes);
      kept = λ number is. let never : None ≡ Some number = sym none ∙ is in absurd cc;
      parted = λ number is. let never : None ≡ Some number = sym none ∙ is in absurd cc;
    }

-- ---- a moment

-- what holds at each moment of a way holds at each to which the disks come on it
on_way : (P : Octets → Type 0) (old new : Log) (way : LeavesPair P old new) (log : Log) → IsOn P old new way log
    → EachPair P log
on_way P old _ (at_start safe) log is = subst (EachPair P) (sym is) safe
on_way P old _ (first_next one other event way safe) log (inl before) = on_way P old (one, other) way log before
on_way P old _ (first_next one other event way safe) log (inr is) = subst (EachPair P) (sym is) safe
on_way P old _ (second_next one other event way safe) log (inl before) = on_way P old (one, other) way log before
on_way P old _ (second_next one other event way safe) log (inr is) = subst (EachPair P) (sym is) safe

moment_safe : (was now past : Past) → IsMomentOf was now past → IsSafe was → IsSafe past
moment_safe was now _ Before safe = safe
moment_safe was now _ (At_peer rank old new way log here there on) safe =
    let peer = with_tape old (with_log old.tape log) in
    let past = record was { peers = set was.peers rank peer } in
    record {
      peers = all_set IsSafePeer was.peers rank peer safe.peers
          (on_way (HasLedger (IsPrefix old.tape.history)) old.tape.log new.tape.log way log on);
      intake = EachLedger-weaker (KeepsLines was.intake.history was.peers) (KeepsLines was.intake.history past.peers)
          (lines_same was.intake.history was past
          (moment_same was now past (At_peer rank old new way log here there on))) was.intake.log safe.intake;
    }
moment_safe was now _ (At_intake way log on) safe = record {
  peers = safe.peers;
  intake = on_way (HasLedger (KeepsLines was.intake.history was.peers)) was.intake.log now.intake.log way log on;
}

-- all tapes of a world at a moment are safe, and sound but for what was kept
record IsGood (past : Past) : Type 0 where
  safe : IsSafe past
  was : Past
  sound : IsSound was
  same : SameButDisks was past

moment_good : (life : Life) (cut : List Step) (past : Past) → IsMoment life cut past → IsSafe life.past
    → IsSound life.past → IsGood past
moment_good life _ _ Between safe sound = record {
  safe = safe;
  was = life.past;
  sound = sound;
  same = moment_rest life.past life.past life.past Before;
}
moment_good life _ past (Within step was now _ way moment) safe sound = record {
  safe = moment_safe was now past moment (under_way_safe step life was now way safe);
  was = was;
  sound = under_way_sound step life was now way sound;
  same = moment_rest was now past moment;
}

-- ---- what is left

peer_left : (was now : PeerPast) → IsSafePeer was → IsStoppedPeer was now → IsSafePeer now
peer_left was now safe stopped =
    subst (λ (h : History). EachLedger (IsPrefix h) now.tape.log)
    (sym (ap (λ (t : TapePast). t.history) stopped.tape.all))
    (left_safe (KeepsNotes was) was.tape.log now.tape.log stopped.tape.left safe)

stopped_safe : (was now : Past) → AreStopped was now → IsSafe was → IsSafe now
stopped_safe was now stopped safe = record {
  peers = zip_second IsStoppedPeer IsSafePeer IsSafePeer peer_left was.peers now.peers safe.peers stopped.peers;
  intake = subst (λ (h : History). EachLedger (KeepsLines h now.peers) now.intake.log)
      (sym (ap (λ (t : TapePast). t.history) stopped.intake.all))
      (EachLedger-weaker (KeepsLines was.intake.history was.peers) (KeepsLines was.intake.history now.peers)
      (lines_same was.intake.history was now (stopped_same was now stopped)) now.intake.log
      (left_safe (KeepsLines was.intake.history was.peers) was.intake.log now.intake.log stopped.intake.left
      safe.intake));
}

rest_then : (was mid now : Past) → SameButDisks was mid → SameButDisks mid now → SameButDisks was now
rest_then was mid now one other = record {
  notes = zip_then HasSameNotes HasSameNotes HasSameNotes
      (λ first second last is more. (more.0 ∙ is.0, more.1 ∙ is.1)) was.peers mid.peers now.peers one.notes other.notes;
  intake = other.intake ∙ one.intake;
  last = other.last ∙ one.last;
}

-- no connection holds anything
stopped_free : (was now : Past) → AreStopped was now → (rank : ℕ) (peer : PeerPast)
    → slice_get now.peers rank ≡ Some peer
    → HasNoneHeld peer
stopped_free was now stopped rank peer here =
    let is = zip_get IsStoppedPeer was.peers now.peers rank peer stopped.peers here in
    subst HasNoneHeld (sym is.2.all) (λ id number held. cc)

stopped_tied : (was now : Past) (life : Life) → AreStopped was now → AreTied (stopped_at now life)
stopped_tied was now life stopped = tied_none (stopped_at now life) refl (stopped_free was now stopped)

-- ---- a crash

pub crash_good : (life : Life) (cut : List Step) (later : Life) → Crashes life cut later → IsSafe life.past
    → IsSoundLife life → IsSafe later.past × IsSoundLife later
crash_good life cut later crash safe sound =
    let good = moment_good life cut crash.under_way crash.moment safe sound.past in
    let past = sound_same good.was crash.past (rest_then good.was crash.under_way crash.past good.same
    (stopped_rest crash.under_way crash.past crash.stopped))
    (ap (λ (p : Past). p.begun) crash.stopped.all) good.sound in
    subst (λ (l : Life). IsSafe l.past × IsSoundLife l) (sym crash.changed) (
      stopped_safe crash.under_way crash.past crash.stopped good.safe,
      record { past = past; conns = stopped_tied crash.under_way crash.past life crash.stopped },
    )
