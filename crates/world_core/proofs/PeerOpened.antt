-- One more opening, or one that is refused.
use Rattle.std.proofs.Common.{◌≡◌, ℕ, ◌==◌, ◌<◌, Bool, true, false, if◌then◌else◌, Option, None, Some, List, [], ◌∷◌}
use Rattle.std.proofs.Common.{◌++◌, length, map, refl, sym, ap, ◌∙◌, subst, arith, append_assoc, length-append}
use Rattle.std.proofs.lemmas.List.{map_push}
use Rattle.recovery.specs.Leaving.{pending_notes}
use Rattle.std.specs.Option.{is_some}
use Rattle.std.specs.List.{AllByRecursion, AllZip, slice_get}
use Rattle.disk_model.specs.declared.Disk.{Ghosts}
use Rattle.ledger_core.specs.State.{keys}
use Rattle.peer_queue.specs.DebtPlace.{Held, Ready, all_ready, place_at}
use Rattle.sections.specs.ListLaws.{all_push}
use Rattle.sections.specs.Tapes.{TapePast, ledger_at, IsAbove}
use Rattle.world_core.specs.Past.{Past, PeerPast, with_peer, with_tape}
use Rattle.world_core.specs.Safe.{IsSafe}
use Rattle.world_core.specs.Events.{AllDo, Event, Next, Opens, OpensIntake, each_rank, opened_peer}
use Rattle.world_core.specs.Halts.{AtRest, left_peer, restart_events}
use Rattle.world_core.specs.Opening.{FailsAt, HasHalted, HasNoneHeld, HasOpened, HasTried, with_peers}
use Rattle.world_core.specs.Sound.{IsSound}
use Rattle.world_core.specs.Stands.{OpenedAs, PeerStands, RefusedOpen, StoppedStands}
use Rattle.world_core.specs.declared.fault.Fault.{Fault}
use Rattle.world_core.specs.declared.peer.Peer.{Peer}
use Rattle.world_core.specs.declared.peer.StoppedPeer.{StoppedPeer}
use Rattle.world_core.specs.declared.fault.Halt.{Halt}
use Rattle.world_core.proofs.SoundOverEvents.{each_prefix, sound_same}
use Rattle.world_core.proofs.PeersOpened.{get_at, get_rank, has_opened, length_push, length_set, safe_put, set_at}
use Rattle.world_core.proofs.PeersOpened.{sound_opened, take_places}
use Rattle.world_core.proofs.RelatedLists.{zip_length, zip_push}
use Rattle.peer_queue.specs.Words.{tape_of}

-- no connection holds what is ready
pub none_held : (numbers : List ℕ) (id number : ℕ) → place_at (all_ready numbers) number ≡ Some (Held id) → ⊥
none_held [] id number is = cc
none_held (n ∷ ns) id number is = by_test (n == number) (none_held ns id number) is
  where
    by_test : (b : Bool) → (place_at (all_ready ns) number ≡ Some (Held id) → ⊥)
        → (if b then Some Ready else place_at (all_ready ns) number) ≡ Some (Held id) → ⊥
    by_test true never is = cc
    by_test false never is = never is

pub opened_free : (peer : PeerPast) (tape : TapePast) → HasNoneHeld (opened_peer peer tape)
opened_free peer tape = λ id number. none_held (keys (ledger_at tape)) id number

-- what had stopped before stops at rest as it was
pub stays_stopped : (past : PeerPast) (peer : StoppedPeer) → StoppedStands past peer
    → StoppedStands (left_peer AtRest past) peer
stays_stopped past peer stands = record {
  conf = stands.conf;
  disks = record {
    log = stands.disks.log;
    faults = stands.disks.faults;
    works = refl;
    legal = stands.disks.legal;
    images = stands.disks.images;
  };
}

some_at : (prefix behind : List PeerPast) (p : PeerPast) (count : ℕ) → length (prefix ++ p ∷ behind) ≡ count
    → length prefix < count
some_at prefix behind p count is =
    let both = length-append prefix (p ∷ behind) in
    omega (arith, both, is)

module _ {D : Type 0} {g : Ghosts D} (past : Past) (prefix behind : List PeerPast) (p : PeerPast)
    (opened : List (Peer D g)) (rest : List StoppedPeer)
    (opens : AllDo past (each_rank Opens (length prefix)) (with_peers past (prefix ++ p ∷ behind)))
    (stand : AllZip PeerStands prefix opened)
    (stay : AllZip StoppedStands behind rest) (sound : IsSound (with_peers past (prefix ++ p ∷ behind)))
    (safe : IsSafe (with_peers past (prefix ++ p ∷ behind))) (count : length (prefix ++ p ∷ behind)
    ≡ length past.peers) where
  abbrev mid : Past
  mid = with_peers past (prefix ++ p ∷ behind)

  here : slice_get mid.peers (length prefix) ≡ Some p
  here = get_at prefix p behind

  changed : (q : PeerPast) → with_peer mid (length prefix) q ≡ with_peers past ((prefix ++ q ∷ []) ++ behind)
  changed q = ap (with_peers past) (set_at prefix p q behind)

  pub opens_one : (peer : Peer D g) → AllByRecursion HasNoneHeld prefix → OpenedAs p peer
      → HasOpened past (opened ++ peer ∷ []) rest
  opens_one peer free is =
      let q = opened_peer p is.later in
      let history = ap (λ (t : TapePast). t.history) is.opens.all in
      let is_safe : IsSafe (with_peers past ((prefix ++ q ∷ []) ++ behind)) =
      subst IsSafe (changed q)
      (safe_put mid (length prefix) p q safe here (each_prefix q (tape_of peer.station) is.stands.tape)
      (λ mark _. has_opened mark p is.later is.opens.count history)) in
      record {
        prefix = prefix ++ q ∷ [];
        behind = behind;
        opens = subst (λ (n : ℕ). AllDo past (each_rank Opens n) (with_peers past ((prefix ++ q ∷ []) ++ behind)))
            (sym (length_push prefix q))
            (Next (each_rank Opens (length prefix)) (Opens (length prefix)) mid
            (with_peers past ((prefix ++ q ∷ []) ++ behind)) opens
            (record { peer = p; tape = is.later; here = here; opens = is.opens; changed = sym (changed q) }) is_safe);
        stand = zip_push PeerStands prefix opened q peer stand is.stands;
        stay = stay;
        sound = subst IsSound (changed q)
            (sound_opened mid (length prefix) p is.later is.opens.count sound here history);
        safe = is_safe;
        free = all_push HasNoneHeld prefix q free (opened_free p is.later);
        count = ap length (sym (set_at prefix p q behind)) ∙ length_set (prefix ++ p ∷ behind) (length prefix) q
            ∙ count;
      }

  pub refuses_one : (fault : Fault) (back : StoppedPeer) (halted : List StoppedPeer)
      → AllZip StoppedStands (map (left_peer AtRest) prefix) halted
      → RefusedOpen p fault back
      → HasHalted past (record { rank = Some (length prefix); fault = fault }) (halted ++ back ∷ []) rest
  refuses_one fault back halted all is =
      let q = with_tape p is.later in
      let history = ap (λ (t : TapePast). t.history) is.refused.all in
      let within = some_at prefix behind p (length past.peers) count in
      let is_safe : IsSafe (with_peer mid (length prefix) q) =
      safe_put mid (length prefix) p q safe here is.stands.disks.images
      (λ mark has. subst (λ h. AllByRecursion (IsAbove mark) (pending_notes h)) (sym history) has) in
      record {
        under_way = with_peer mid (length prefix) q;
        prefix = prefix ++ q ∷ [];
        behind = behind;
        all = set_at prefix p q behind;
        fails = record {
          fails = record {
            count = length prefix;
            mid = mid;
            event = Opens (length prefix);
            prefix = subst (λ (events : List Event). AllDo past events mid)
                (sym (take_places Opens (length past.peers) (length prefix) (OpensIntake ∷ [])
                (omega (arith, within)))) opens;
            here = get_rank Opens (length past.peers) (length prefix) (OpensIntake ∷ []) within;
            refused = record { peer = p; tape = is.later; here = here; refused = is.refused; changed = refl };
            safe = is_safe;
          };
          at = refl;
        };
        stand = subst (λ (ps : List PeerPast). AllZip StoppedStands ps (halted ++ back ∷ []))
            (sym (map_push (left_peer AtRest) prefix q))
            (zip_push StoppedStands (map (left_peer AtRest) prefix) halted (left_peer AtRest q) back all
            (stays_stopped q back is.stands));
        stay = stay;
        sound = sound_same mid (length prefix) p is.later sound here history;
        intake = refl;
      }

-- ---- the openings so far

halted_more : (past : Past) (halt : Halt) (stopped rest : List StoppedPeer) (peer : StoppedPeer) (under_way : Past)
    (prefix behind : List PeerPast)
    → under_way.peers ≡ prefix ++ behind → FailsAt past (restart_events past) halt under_way
    → AllZip StoppedStands (map (left_peer AtRest) prefix) stopped → AllZip StoppedStands behind (peer ∷ rest)
    → IsSound under_way
    → under_way.intake ≡ past.intake → HasHalted past halt (stopped ++ peer ∷ []) rest
halted_more past halt stopped rest peer under_way prefix [] all fails stand stay sound intake = absurd stay
halted_more past halt stopped rest peer under_way prefix (p ∷ behind) all fails stand stay sound intake = record {
  under_way = under_way;
  prefix = prefix ++ p ∷ [];
  behind = behind;
  all = all ∙ sym (append_assoc prefix (p ∷ []) behind);
  fails = fails;
  stand = subst (λ (ps : List PeerPast). AllZip StoppedStands ps (stopped ++ peer ∷ []))
      (sym (map_push (left_peer AtRest) prefix p))
      (zip_push StoppedStands (map (left_peer AtRest) prefix) stopped (left_peer AtRest p) peer stand
      (stays_stopped p peer stay.0));
  stay = stay.1;
  sound = sound;
  intake = intake;
}

module _ {D : Type 0} {g : Ghosts D} where
  opens_more : (past : Past) (opened : List (Peer D g)) (rest : List StoppedPeer) (stopped : StoppedPeer)
      (peer : Peer D g) (prefix behind : List PeerPast)
      → AllDo past (each_rank Opens (length prefix)) (with_peers past (prefix ++ behind))
      → AllZip PeerStands prefix opened
      → AllZip StoppedStands behind (stopped ∷ rest) → IsSound (with_peers past (prefix ++ behind))
      → IsSafe (with_peers past (prefix ++ behind))
      → length (prefix ++ behind) ≡ length past.peers → AllByRecursion HasNoneHeld prefix
      → ((p : PeerPast) → StoppedStands p stopped → OpenedAs p peer) → HasOpened past (opened ++ peer ∷ []) rest
  opens_more past opened rest stopped peer prefix [] opens stand stay sound safe count free is = absurd stay
  opens_more past opened rest stopped peer prefix (p ∷ behind) opens stand stay sound safe count free is =
      opens_one past prefix behind p opened rest opens stand stay.1 sound safe count peer free (is p stay.0)

  refuses_more : (past : Past) (opened : List (Peer D g)) (rest : List StoppedPeer) (stopped back : StoppedPeer)
      (fault : Fault) (halted : List StoppedPeer)
      (prefix behind : List PeerPast)
      → AllDo past (each_rank Opens (length prefix)) (with_peers past (prefix ++ behind))
      → AllZip PeerStands prefix opened
      → AllZip StoppedStands behind (stopped ∷ rest) → IsSound (with_peers past (prefix ++ behind))
      → IsSafe (with_peers past (prefix ++ behind))
      → length (prefix ++ behind) ≡ length past.peers
      → ((pasts : List PeerPast) → AllZip PeerStands pasts opened
      → AllZip StoppedStands (map (left_peer AtRest) pasts) halted)
      → ((p : PeerPast) → StoppedStands p stopped → RefusedOpen p fault back)
      → HasHalted past (record { rank = Some (length prefix); fault = fault }) (halted ++ back ∷ []) rest
  refuses_more past opened rest stopped back fault halted prefix [] opens stand stay sound safe count halts is =
      absurd stay
  refuses_more past opened rest stopped back fault halted prefix (p ∷ behind) opens stand stay sound safe count halts
      is =
      refuses_one past prefix behind p opened rest opens stand stay.1 sound safe count fault back halted
      (halts prefix stand) (is p stay.0)

  pub tried_behind : (past : Past) (opened : List (Peer D g)) (stopped now : List StoppedPeer) (refused : Option Halt)
      (peer : StoppedPeer)
      (rest : List StoppedPeer) → is_some refused ≡ true → now ≡ stopped ++ peer ∷ []
      → HasTried past opened stopped refused (peer ∷ rest)
      → HasTried past opened now refused rest
  tried_behind past opened stopped now None peer rest some is tries = cc
  tried_behind past opened stopped now (Some halt) peer rest some is tries =
      subst (λ (l : List StoppedPeer). HasHalted past halt l rest) (sym is)
      (halted_more past halt stopped rest peer tries.under_way tries.prefix tries.behind tries.all tries.fails
      tries.stand tries.stay tries.sound tries.intake)

  pub tried_open : (past : Past) (opened now : List (Peer D g)) (all : List StoppedPeer) (refused : Option Halt)
      (stopped : StoppedPeer) (peer : Peer D g)
      (rest : List StoppedPeer) → is_some refused ≡ false → now ≡ opened ++ peer ∷ []
      → HasTried past opened all refused (stopped ∷ rest)
      → ((p : PeerPast) → StoppedStands p stopped → OpenedAs p peer) → HasTried past now all refused rest
  tried_open past opened now all None stopped peer rest none is (empty, t) opens = (
    empty,
    subst (λ (l : List (Peer D g)). HasOpened past l rest) (sym is)
        (opens_more past opened rest stopped peer t.prefix t.behind t.opens t.stand t.stay t.sound t.safe t.count
        t.free opens),
  )
  tried_open past opened now all (Some halt) stopped peer rest none is tries opens = absurd cc

  pub tried_refused : (past : Past) (opened now : List (Peer D g)) (all halted behind : List StoppedPeer)
      (refused outputs : Option Halt) (stopped back : StoppedPeer)
      (fault : Fault) (rest : List StoppedPeer) → is_some refused ≡ false → behind ≡ halted ++ back ∷ []
      → outputs ≡ Some (record { rank = Some (length opened); fault = fault })
      → ((pasts : List PeerPast) → AllZip PeerStands pasts opened
      → AllZip StoppedStands (map (left_peer AtRest) pasts) halted)
      → HasTried past opened all refused (stopped ∷ rest)
      → ((p : PeerPast) → StoppedStands p stopped → RefusedOpen p fault back)
      → HasTried past now behind outputs rest
  tried_refused past opened now all halted behind None outputs stopped back fault rest none is same halts (empty, t)
      refuses =
      let many = zip_length PeerStands t.prefix opened t.stand in
      let outputs_are : outputs ≡ Some (record { rank = Some (length t.prefix); fault = fault }) =
      same ∙ ap (λ (n : ℕ). Some (record { rank = Some n; fault = fault })) (sym many) in
      subst (λ (o : Option Halt). HasTried past now behind o rest) (sym outputs_are)
      (subst (λ (l : List StoppedPeer).
      HasHalted past (record { rank = Some (length t.prefix); fault = fault }) l rest) (sym is)
      (refuses_more past opened rest stopped back fault halted t.prefix t.behind t.opens t.stand t.stay t.sound t.safe
      t.count halts refuses))
  tried_refused past opened now all halted behind (Some halt) outputs stopped back fault rest none is same halts tries
      refuses = absurd cc
