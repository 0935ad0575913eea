-- How the openings of all tapes end.
use Rattle.std.proofs.Common.{◌≡◌, ℕ, ◌^◌, ◌<◌, ◌≤◌, false, Option, None, Some, List, [], ◌∷◌, ◌++◌, length, map, refl}
use Rattle.std.proofs.Common.{sym, ap, ◌∙◌, subst, arith, append-nil}
use Rattle.std.specs.List.{AllByRecursion, AllZip, slice_get}
use Rattle.disk_model.specs.declared.Disk.{Ghosts}
use Rattle.ledger_core.specs.State.{State}
use Rattle.recovery.specs.Image.{EachTape, Log, Survives, TapeLeaves}
use Rattle.recovery.specs.Leaving.{EachLedger, HasLedger, LedgersLeave, LiesOn, broken_of, ledger_of_first}
use Rattle.recovery.specs.LeavingLaws.{EachLedger-weaker, TapeLeaves-now, TapeLeaves-weaker, found_first}
use Rattle.recovery.specs.LeavingLaws.{survives_of_prefix}
use Rattle.recovery.specs.Notes.{AreLegal, recovered}
use Rattle.recovery.specs.Tape.{IsOpenedTape, Recovers}
use Rattle.recovery.specs.Words.{IsBroken, IsOpenFault, OneHasRisen, ledger_of, log_of, faults_of}
use Rattle.recovery.specs.declared.fault.TapeFault.{TapeFault}
use Rattle.recovery.specs.declared.fault.TapeFault.TheVariants.{Damaged, Disk}
use Rattle.sections.specs.ListLaws.{all_weaker}
use Rattle.sections.specs.TapeLaws.{take_mark}
use Rattle.sections.specs.Tapes.{TapePast, mark_at}
use Rattle.world_core.specs.Past.{Past, PeerPast, with_intake}
use Rattle.world_core.specs.Safe.{HasAcknowledged, IsSafe, KeepsLines}
use Rattle.world_core.specs.Events.{AllDo, Event, Next, Opens, OpensIntake, Start, each_rank}
use Rattle.world_core.specs.Fault.{fault_of}
use Rattle.world_core.specs.Halting.{TapesStop}
use Rattle.world_core.specs.Halts.{AtRest, left_peer, left_tape}
use Rattle.world_core.specs.Opening.{AllOpen, HasHalted, HasNoneHeld, HasOpened, HasTried, OpensNot, with_peers}
use Rattle.world_core.specs.Sound.{IsSound}
use Rattle.world_core.specs.Stands.{DisksStand, PeerStands, Stands, StoppedStands}
use Rattle.world_core.specs.StopDisk.{all_faults, happened}
use Rattle.world_core.specs.declared.fault.Fault.{Fault}
use Rattle.world_core.specs.declared.peer.Peer.{Peer}
use Rattle.world_core.specs.declared.peer.StoppedPeer.{StoppedPeer}
use Rattle.world_core.specs.declared.fault.Halt.{Halt}
use Rattle.world_core.specs.declared.stations.Stations.{Stations}
use Rattle.world_core.specs.declared.stop.StopDisk.{StopDisk}
use Rattle.world_core.proofs.TapesStopped.{left_sound, lines_left, safe_stopped}
use Rattle.world_core.proofs.TapeOpened.{refused_why}
use Rattle.world_core.proofs.PeerCalls.{not_true}
use Rattle.world_core.proofs.MarksAndNotes.{acknowledged_less, keeps_lines}
use Rattle.world_core.proofs.SoundOverEvents.{safe_of, sound_intake}
use Rattle.world_core.proofs.PeersOpened.{get_at, long, take_places}

none_stay : (behind : List PeerPast) → AllZip StoppedStands behind [] → behind ≡ []
none_stay [] all = refl
none_stay (past ∷ behind) all = absurd all

-- ---- one of the peers was refused

-- the intake's disks are as they were
disks_again : (past under_way : Past) (disks : StopDisk × StopDisk) → under_way.intake ≡ past.intake
    → DisksStand (KeepsLines past.intake.history past.peers) past.intake disks → IsSafe under_way
    → DisksStand (KeepsLines under_way.intake.history (map (left_peer AtRest) under_way.peers))
    (left_tape AtRest under_way.intake) disks
disks_again past under_way disks same stands safe = record {
  log = stands.log ∙ sym (ap (λ (t : TapePast). t.log) same);
  faults = stands.faults ∙ sym (ap (λ (t : TapePast). t.faults) same);
  works = refl;
  legal = subst (λ (t : TapePast). AreLegal t.history.base t.history.notes) (sym same) stands.legal;
  images = EachLedger-weaker (KeepsLines under_way.intake.history under_way.peers)
      (KeepsLines under_way.intake.history (map (left_peer AtRest) under_way.peers))
      (lines_left AtRest under_way.intake.history under_way.peers) under_way.intake.log safe.intake;
}

pub closes : (past : Past) (halt : Halt) (stopped : List StoppedPeer) (disks : StopDisk × StopDisk)
    → HasHalted past halt stopped []
    → DisksStand (KeepsLines past.intake.history past.peers) past.intake disks → OpensNot past halt stopped disks
closes past halt stopped disks t stands =
    let all : t.under_way.peers ≡ t.prefix =
    t.all ∙ ap (λ l. t.prefix ++ l) (none_stay t.behind t.stay) ∙ append-nil t.prefix in
    record {
      under_way = t.under_way;
      fails = t.fails;
      stop = record {
        peers = subst (λ (ps : List PeerPast). AllZip StoppedStands (map (left_peer AtRest) ps) stopped) (sym all)
            t.stand;
        intake = disks_again past t.under_way disks t.intake stands t.fails.fails.safe;
        begun = refl;
        sound = left_sound AtRest t.under_way t.sound;
      };
    }

-- ---- all peers are open

module _ (past : Past) (prefix : List PeerPast) (sound : IsSound (with_peers past prefix))
    (legal : AreLegal past.intake.history.base past.intake.history.notes) (old new : Log) (log : old ≡ past.intake.log)
    (moments : TapeLeaves (Survives past.intake.history) old new) where
  -- what a stop leaves of the intake's disks during its opening
  leaves : LedgersLeave (KeepsLines past.intake.history prefix) past.intake.log new
  leaves = subst (λ (l : Log). LedgersLeave (KeepsLines past.intake.history prefix) l new) log
      (TapeLeaves-weaker (Survives past.intake.history) (HasLedger (KeepsLines past.intake.history prefix))
      (λ octets. keeps_lines past.intake.history prefix octets legal sound.acknowledged) old new moments)

  leaves_now : EachLedger (KeepsLines past.intake.history prefix) new
  leaves_now = TapeLeaves-now (HasLedger (KeepsLines past.intake.history prefix)) past.intake.log new leaves

module _ {D : Type 0} {g : Ghosts D} where
  opened_intake : (past : Past) (prefix : List PeerPast) (opened : List (Peer D g)) (stations : Stations D g) (old :
      Log)
      → AllDo past (each_rank Opens (length past.peers)) (with_peers past prefix) → AllZip PeerStands prefix opened
      → IsSound (with_peers past prefix) → AllByRecursion HasNoneHeld prefix
      → AreLegal past.intake.history.base past.intake.history.notes → old ≡ past.intake.log
      → Recovers past.intake.history old stations.intake → IsOpenedTape old stations.intake
      → (IsBroken stations.intake → ⊥)
      → faults_of stations.intake ≡ past.intake.faults → stations.peers.items ≡ opened
      → stations.last ≡ (ledger_of stations.intake).mark
      → stations.begun ≡ None → stations.last < 2 ^ 64 → AllOpen past stations
  opened_intake past prefix opened stations old did all sound free legal log recovers is works faults_are peers last begun
      fits =
      let h = past.intake.history in
      let tape : TapePast = record {
        history = recovered h recovers.count;
        log = log_of stations.intake;
        faults =
            past.intake.faults;
        broken = false;
      } in
      let later : Past = record { peers = prefix; intake = tape; last = mark_at tape; begun = None } in
      let mark : stations.last ≡ mark_at tape = last ∙ ap (λ (state : State). state.mark) recovers.stands.ledger in
      let below : mark_at tape ≤ mark_at past.intake = take_mark h.base h.notes recovers.count legal.legal in
      let stands : Stands stations later = record {
        peers = subst (λ (ps : List (Peer D g)). AllZip PeerStands prefix ps) (sym peers) all;
        intake = record {
          stands = recovers.stands;
          log = refl;
          faults = faults_are;
          broken =
              not_true (broken_of stations.intake) works;
        };
        last = mark;
        begun = begun;
        sound = record {
          names = sound.names;
          fits = subst (λ (n : ℕ). n < 2 ^ 64) mark fits;
          marked = omega arith;
          acknowledged = all_weaker (HasAcknowledged (mark_at past.intake)) (HasAcknowledged (mark_at tape))
              (acknowledged_less (mark_at tape) (mark_at past.intake) below) prefix sound.acknowledged;
          kept = λ number e. absurd cc;
          parted = λ number e. absurd cc;
        };
      } in
      record {
        later = later;
        opens = Next (each_rank Opens (length past.peers)) OpensIntake (with_peers past prefix) later did
            (record {
              tape = tape;
              opens = record {
                count = recovers.count;
                enough = recovers.enough;
                within = recovers.within;
                found = subst (λ (l : Log). LiesOn l (ledger_of_first h recovers.count)) log
                    (found_first stations.intake h old is recovers);
                moments = leaves past prefix sound legal old (log_of stations.intake) log recovers.moments;
                all = refl;
              };
              changed = refl;
            }) (safe_of stations later stands);
        stands = stands;
        free = free;
      }

  -- if no peer is left, the prefix is all of them
  all_prefix : (past : Past) (opened : List (Peer D g)) (t : HasOpened past opened []) → t.prefix ++ t.behind ≡ t.prefix
  all_prefix past opened t = ap (λ l. t.prefix ++ l) (none_stay t.behind t.stay) ∙ append-nil t.prefix

  all_did : (past : Past) (opened : List (Peer D g)) (t : HasOpened past opened [])
      → AllDo past (each_rank Opens (length past.peers)) (with_peers past t.prefix)
  all_did past opened t =
      let count : length t.prefix ≡ length past.peers = ap length (sym (all_prefix past opened t)) ∙ t.count in
      subst (λ (n : ℕ). AllDo past (each_rank Opens n) (with_peers past t.prefix)) count
      (subst (λ (ps : List PeerPast). AllDo past (each_rank Opens (length t.prefix)) (with_peers past ps))
      (all_prefix past opened t) t.opens)

  pub opens_intake : (past : Past) (opened : List (Peer D g)) (stations : Stations D g) (old : Log)
      → HasOpened past opened []
      → AreLegal past.intake.history.base past.intake.history.notes → old ≡ past.intake.log
      → Recovers past.intake.history old stations.intake → IsOpenedTape old stations.intake
      → (IsBroken stations.intake → ⊥)
      → faults_of stations.intake ≡ past.intake.faults → stations.peers.items ≡ opened
      → stations.last ≡ (ledger_of stations.intake).mark
      → stations.begun ≡ None → stations.last < 2 ^ 64 → AllOpen past stations
  opens_intake past opened stations old t =
      opened_intake past t.prefix opened stations old (all_did past opened t) t.stand
      (subst (λ (ps : List PeerPast). IsSound (with_peers past ps)) (all_prefix past opened t) t.sound) t.free

  pub refuses_intake : (past : Past) (opened : List (Peer D g)) (old : Log) (counts : ℕ
      × ℕ) (halted : List StoppedPeer)
      (disks : StopDisk × StopDisk)
      (fault : TapeFault) (said : Fault) → HasOpened past opened []
      → AreLegal past.intake.history.base past.intake.history.notes
      → old ≡ past.intake.log → counts ≡ past.intake.faults
      → ((pasts : List PeerPast) → AllZip PeerStands pasts opened
      → AllZip StoppedStands (map (left_peer AtRest) pasts) halted)
      → TapeLeaves (Survives past.intake.history) old (happened disks.0, happened disks.1)
      → said ≡ fault_of fault → IsOpenFault fault → ((segment at : ℕ) → fault ≡ Damaged segment at → ⊥)
      → (fault ≡ Disk → OneHasRisen counts (all_faults disks.0, all_faults disks.1))
      → OpensNot past (record { rank = None; fault = said }) halted disks
  refuses_intake past opened old counts halted disks fault said t legal log faults halts moments e kind undamaged
      cause =
      let prefix = t.prefix in
      let new : Log = (happened disks.0, happened disks.1) in
      let sound = subst (λ (ps : List PeerPast). IsSound (with_peers past ps)) (all_prefix past opened t) t.sound in
      let safe = subst (λ (ps : List PeerPast). IsSafe (with_peers past ps)) (all_prefix past opened t) t.safe in
      let tape : TapePast = record {
        history = past.intake.history;
        log = new;
        faults =
            (all_faults disks.0, all_faults disks.1);
        broken = false;
      } in
      let under_way : Past = with_intake (with_peers past prefix) tape in
      let n = length past.peers in
      let is_safe : IsSafe under_way =
      record { peers = safe.peers; intake = leaves_now past prefix sound legal old new log moments } in
      record {
        under_way = under_way;
        fails = record {
          fails = record {
            count = n;
            mid = with_peers past prefix;
            event = OpensIntake;
            prefix = subst (λ (events : List Event). AllDo past events (with_peers past prefix))
                (sym (take_places Opens n n (OpensIntake ∷ []) (omega arith)))
                (all_did past opened t);
            here = subst (λ (m : ℕ). slice_get (each_rank Opens n ++ OpensIntake ∷ []) m ≡ Some OpensIntake)
                (long Opens n) (get_at (each_rank Opens n) OpensIntake []);
            refused = record {
              tape = tape;
              refused = record {
                why = refused_why _ fault said e kind undamaged
                    (λ is. subst (λ (f : ℕ × ℕ). OneHasRisen f (all_faults disks.0, all_faults disks.1)) faults
                    (cause is));
                moments = leaves past prefix sound legal old new log moments;
                all = refl;
              };
              changed = refl;
            };
            safe = is_safe;
          };
          at = refl;
        };
        stop = record {
          peers = halts prefix t.stand;
          intake = record {
            log = refl;
            faults = refl;
            works = refl;
            legal = legal;
            images = EachLedger-weaker (KeepsLines past.intake.history prefix)
                (KeepsLines past.intake.history (map (left_peer AtRest) prefix))
                (lines_left AtRest past.intake.history prefix) new is_safe.intake;
          };
          begun = refl;
          sound = left_sound AtRest under_way (sound_intake (with_peers past prefix) tape sound refl);
        };
      }

-- ---- the openings at their beginning and at their end

none_of : {A : Type 0} (xs : List A) → length xs ≡ 0 → xs ≡ []
none_of [] none = refl
none_of (x ∷ xs) none = absurd (omega (arith, none))

-- what a stop leaves of the intake's disks survives
pub intake_there : (past : Past) (disks : StopDisk × StopDisk)
    → DisksStand (KeepsLines past.intake.history past.peers) past.intake disks
    → EachTape (Survives past.intake.history) (happened disks.0, happened disks.1)
intake_there past disks stands = subst (λ (l : Log). EachTape (Survives past.intake.history) l) (sym stands.log)
    (λ one other is is'.
    let has = stands.images one other is is' in
    survives_of_prefix past.intake.history (one, other) (has.0, has.1, has.2.prefix))

module _ {D : Type 0} {g : Ghosts D} where
  pub tries_some : (past : Past) (opened : List (Peer D g)) (stopped rest : List StoppedPeer) (refused : Option Halt)
      (halt : Halt) → refused ≡ Some halt
      → HasTried past opened stopped refused rest → HasHalted past halt stopped rest
  tries_some past opened stopped rest refused halt is tries =
      subst (λ (o : Option Halt). HasTried past opened stopped o rest) is tries

  pub tries_none : (past : Past) (opened : List (Peer D g)) (stopped rest : List StoppedPeer) (refused : Option Halt)
      → ((halt : Halt) → refused ≡ Some halt → ⊥) → HasTried past opened stopped refused rest
      → HasOpened past opened rest
  tries_none past opened stopped rest None never tries = tries.1
  tries_none past opened stopped rest (Some halt) never tries = absurd (never halt refl)

  pub tries_all : (past : Past) (opened : List (Peer D g)) (stopped rest : List StoppedPeer) (refused : Option Halt)
      → length rest ≡ 0
      → HasTried past opened stopped refused rest → HasTried past opened stopped refused []
  tries_all past opened stopped rest refused none tries =
      subst (λ (l : List StoppedPeer). HasTried past opened stopped refused l) (none_of rest none) tries

  pub tried_none : (past : Past) (opened : List (Peer D g)) (stopped peers rest : List StoppedPeer) (disks : StopDisk
      × StopDisk) → length opened ≡ 0
      → length stopped ≡ 0 → rest ≡ peers → TapesStop past peers disks → HasTried past opened stopped None rest
  tried_none past opened stopped peers rest disks none empty is stop = (
    none_of stopped empty,
    record {
      prefix = [];
      behind = past.peers;
      opens = Start;
      stand = subst (λ (ps : List (Peer D g)). AllZip PeerStands [] ps) (sym (none_of opened none)) tt;
      stay = subst (λ (l : List StoppedPeer). AllZip StoppedStands past.peers l) (sym is) stop.peers;
      sound = stop.sound;
      safe = safe_stopped past peers disks stop.peers stop.intake;
      free = tt;
      count = refl;
    },
  )
