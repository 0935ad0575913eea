-- How a world is made: its tapes are opened.
use Rattle.std.proofs.Common.{◌≡◌, ℕ, zero, suc, ◌+◌, ◌<◌, ◌^◌, Bool, true, false, Option, None, Some, List, [], ◌∷◌}
use Rattle.std.proofs.Common.{◌++◌, length, get_or, map, option_map, take, refl, sym, ap, ◌∙◌, subst, inl, arith}
use Rattle.std.specs.declared.alloc.Global.{Global}
use Rattle.std.specs.Cmp.Lexicographic.{slice_cmp}
use Rattle.std.specs.List.{All, AllByRecursion, AllZip, IsDistinct, slice_get}
use Rattle.std.specs.List.Sorted.{IsPermutation, IsSortedBy}
use Rattle.std.specs.Ordering.{is_eq, is_lt, nat_cmp, ordering_reverse}
use Rattle.std.specs.Str.{bytes_eq}
use Rattle.std.specs.declared.cmp.Ordering.{Ordering}
use Rattle.std.specs.declared.cmp.Ordering.TheVariants.{Less, Equal, Greater}
use Rattle.std.proofs.lemmas.Cmp.{nat_list_cmp_total}
use Rattle.std.proofs.lemmas.List.{map-append, take-map}
use Rattle.std.proofs.lemmas.List.Elements.{All-cons, All-head, All-nil, All-tail}
use Rattle.std.proofs.lemmas.List.MinMax.{ranks_by}
use Rattle.std.proofs.lemmas.List.Sorted.{All-permutation, IsPermutation-map, IsPermutation-sym, sorted_far}
use Rattle.std.proofs.lemmas.Map.Keys.{IsDistinct-IsPermutation, IsDistinct-head, IsDistinct-tail}
use Rattle.std.proofs.lemmas.Map.Text.{is_eq-slice_cmp}
use Rattle.std.proofs.lemmas.Option.{slice_get-map}
use Rattle.std.specs.Prelude.{Vec}
use Rattle.disk_model.specs.Disk.Event.{Made}
use Rattle.disk_model.specs.declared.Disk.{Ghosts}
use Rattle.feed_conf.specs.declared.conf.PeerConf.{PeerConf}
use Rattle.ledger_core.specs.State.{State, keys, start}
use Rattle.peer_queue.specs.DebtPlace.{all_ready}
use Rattle.peer_queue.specs.Words.{limits_of as station_limits, places_of, tape_of}
use Rattle.recovery.specs.Image.{IsNoTapeAt, IsSomeTape, IsTape, Log, Octets}
use Rattle.recovery.specs.TapeLaws.{tape_nowhere_damaged, tape_once}
use Rattle.recovery.specs.Leaving.{broken_of}
use Rattle.recovery.specs.Notes.{found}
use Rattle.recovery.specs.Tape.{IsOpenedTape, StandsFor, contents_of}
use Rattle.recovery.specs.Words.{IsBroken, IsOpenFault, ledger_of, log_of, faults_of}
use Rattle.recovery.specs.declared.fault.TapeFault.{TapeFault}
use Rattle.recovery.specs.declared.fault.TapeFault.TheVariants.{Damaged, Disk, Broken, TapeFull, GenerationFull}
use Rattle.recovery.specs.declared.fault.TapeFault.TheVariants.{PendingFull, NoMemory as NoTapeMemory, Note}
use Rattle.recovery.specs.declared.tape.Tape.{Tape as OpenTape}
use Rattle.sections.specs.ListLaws.{all_at}
use Rattle.sections.specs.TapeLaws.{nothing_lies}
use Rattle.world_core.specs.Past.{Life, Past, PeerPast, limits_of}
use Rattle.world_core.specs.Safe.{HasAcknowledged}
use Rattle.world_core.specs.Given.{BeginsFrom, BeginsFromDisks, BeginsFromTapes, GivenDisks, GivenPeer, GivenTape}
use Rattle.world_core.specs.Given.{IsFound, IsGiven, IsGivenPeer, OpensGiven, OpensGivenIntake, RefusesDisks}
use Rattle.world_core.specs.Given.{RefusesFirst, RefusesGivenIntake, RefusesPeer, RefusesTape, RefusesTapes, StopsFor}
use Rattle.world_core.specs.Given.{both_disks, disks_names, first_alone, found_peer, found_tape, given_names, octets_of}
use Rattle.world_core.specs.Given.{tape_names}
use Rattle.world_core.specs.Making.{Begins, HasNoOctets, IsMakeFault}
use Rattle.world_core.specs.Opening.{HasNoneHeld}
use Rattle.world_core.specs.Sound.{IsBefore, NamesRise, names_of}
use Rattle.world_core.specs.Stands.{IsFresh, IsFreshOf, IsFreshPeer, PeerStands, Stands}
use Rattle.world_core.specs.declared.fault.Fault.TheVariants.{Tape as FromTape}
use Rattle.world_core.specs.declared.fault.TapesFault.{TapesFault}
use Rattle.world_core.specs.declared.fault.TapesFault.TheVariants.{NoMemory, Tape}
use Rattle.world_core.specs.declared.peer.Peer.{Peer}
use Rattle.world_core.specs.declared.world.Stage.TheVariants.{Running}
use Rattle.world_core.specs.declared.world.World.{World}
use Rattle.world_core.proofs.PeerCalls.{not_true}
use Rattle.world_core.proofs.SoundOverEvents.{each_prefix, safe_of}
use Rattle.world_core.proofs.WorldStopped.{tied_none}
use Rattle.world_core.proofs.PeerOpened.{none_held}
use Rattle.world_core.proofs.RelatedLists.{zip_push, zip_first}

-- ---- names in order

before : (one other : List ℕ) → is_lt (slice_cmp nat_cmp other one) ≡ false → bytes_eq one other ≡ false
    → IsBefore one other
before one other above apart = by (slice_cmp nat_cmp one other) refl
  where
    by : (r : Ordering) → slice_cmp nat_cmp one other ≡ r → IsBefore one other
    by Less is = is
    by Equal is = absurd (let same = sym (is_eq-slice_cmp one other) ∙ ap is_eq is in cc)
    by Greater is =
        absurd (let up = ap is_lt (nat_list_cmp_total.antisymm other one ∙ ap ordering_reverse is) in cc)

turned : (r : Ordering) → is_eq (ordering_reverse r) ≡ is_eq r
turned Less = refl
turned Equal = refl
turned Greater = refl

same_back : (x y : List ℕ) → bytes_eq x y ≡ bytes_eq y x
same_back x y =
    sym (is_eq-slice_cmp x y) ∙ ap is_eq (nat_list_cmp_total.antisymm x y) ∙ turned (slice_cmp nat_cmp y x)
    ∙ is_eq-slice_cmp y x

abbrev is_below : GivenDisks → GivenDisks → Bool
is_below one other = is_lt (slice_cmp nat_cmp one.0.name other.0.name)

all_before : (peer : GivenDisks) (given : List GivenDisks)
    → ((k : ℕ) (d : GivenDisks) → k < length given → is_below (get_or given k d) peer ≡ false)
    → AllByRecursion (λ (y : List ℕ). bytes_eq peer.0.name y ≡ false) (disks_names given)
    → AllByRecursion (IsBefore peer.0.name) (disks_names given)
all_before peer [] each apart = tt
all_before peer (other ∷ given) each apart = (
  before peer.0.name other.0.name (each 0 other (omega arith)) apart.0,
  all_before peer given (λ k d within. each (suc k) d (omega (arith, within))) apart.1,
)

sorted_tail : (peer : GivenDisks) (given : List GivenDisks) → IsSortedBy is_below (peer ∷ given)
    → IsSortedBy is_below given
sorted_tail peer given up = λ k d low high.
    let next : suc k + 1 ≡ suc (k + 1) = omega arith in
    subst (λ (n : ℕ). is_below (get_or (peer ∷ given) n d) (get_or given k d) ≡ false) next
    (up (suc k) d (omega arith) (omega (arith, high)))

names_rise : (given : List GivenDisks) → IsSortedBy is_below given → IsDistinct bytes_eq (disks_names given)
    → NamesRise (disks_names given)
names_rise [] up apart = tt
names_rise (peer ∷ given) up apart = (
  all_before peer given
      (λ k d within. sorted_far is_below (ranks_by nat_list_cmp_total (λ (x : GivenDisks). x.0.name)) (peer ∷ given) up
      0 (suc k) d (omega arith) (omega (arith, within)))
      (IsDistinct-head bytes_eq peer.0.name (disks_names given) apart),
  names_rise given (sorted_tail peer given up) (IsDistinct-tail bytes_eq peer.0.name (disks_names given) apart),
)

-- sorted peers have rising names
pub sorted_rise : (given ordered : List GivenDisks) → IsPermutation given ordered → IsSortedBy is_below ordered
    → IsDistinct bytes_eq (disks_names given) → NamesRise (disks_names ordered)
sorted_rise given ordered permuted up apart =
    names_rise ordered up (IsDistinct-IsPermutation bytes_eq same_back (disks_names given) (disks_names ordered)
    (IsPermutation-map (λ (x : GivenDisks). x.0.name) given ordered permuted) apart)

-- the names are those of the settings
names_both : (given : List GivenDisks) → tape_names (map both_disks given) ≡ disks_names given
names_both [] = refl
names_both (one ∷ given) = ap (λ (names : List (List ℕ)). one.0.name ∷ names) (names_both given)

-- so the tapes of sorted peers have them, too
pub tapes_rise : (given : List GivenDisks) → NamesRise (disks_names given)
    → NamesRise (tape_names (map both_disks given))
tapes_rise given rises = subst NamesRise (sym (names_both given)) rises

-- ---- a tape is opened

module _ {D : Type 0} {g : Ghosts D} where
  is_found : (state : State) (tape : OpenTape D g) → StandsFor tape (found state) → faults_of tape ≡ (0, 0)
      → (IsBroken tape → ⊥) → IsFound state tape
  is_found state tape stands outputs works =
      record { stands = stands; log = refl; faults = outputs; broken = not_true (broken_of tape) works }

  -- the peer's tape was opened on the given octets
  pub opens_given : (given : GivenTape) (old : Log) (peer : Peer D g)
      → old ≡ (Made given.1.0 ∷ [], Made given.1.1 ∷ [])
      → IsOpenedTape old (tape_of peer.station) → faults_of (tape_of peer.station) ≡ (0, 0)
      → (IsBroken (tape_of peer.station) → ⊥)
      → places_of peer.station ≡ all_ready (keys (ledger_of (tape_of peer.station)))
      → station_limits peer.station ≡ limits_of given.0 → peer.conf ≡ given.0 → peer.parted ≡ false
      → OpensGiven given peer
  opens_given given old peer log opened outputs works ready limits conf parts = record {
    state = opened.state;
    was = subst (λ (l : Log). IsTape (contents_of l) opened.state) log opened.was;
    stands = record {
      conf = conf;
      limits = limits;
      tape = is_found opened.state (tape_of peer.station) opened.stands outputs works;
      places = ready ∙ ap (λ (state : State). all_ready (keys state)) opened.stands.ledger;
      parted = parts;
    };
  }

  -- and the intake's
  pub opens_intake : (intake : Octets) (old : Log) (tape : OpenTape D g)
      → old ≡ (Made intake.0 ∷ [], Made intake.1 ∷ []) → IsOpenedTape old tape → faults_of tape ≡ (0, 0) → (IsBroken tape → ⊥) → OpensGivenIntake intake tape
  opens_intake intake old tape log opened outputs works = record {
    state = opened.state;
    was = subst (λ (l : Log). IsTape (contents_of l) opened.state) log opened.was;
    stands = is_found opened.state tape opened.stands outputs works;
  }

pub both_are : {A B : Type 0} {one other : A} {this that : B} → one ≡ other → this ≡ that
    → ◌≡◌ {A = A × B} (one, this) (other, that)
both_are {A} {B} {one} {other} {this} {that} first second =
    let before : B → A × B = λ y. (other, y) in
    let behind : A → A × B = λ x. (x, this) in
    ap behind first ∙ ap before second

-- the octets were refused for this fault
pub refuses_tape : (octets : Octets) (fault : TapeFault) → IsOpenFault fault → (fault ≡ NoTapeMemory → ⊥)
    → ((segment at : ℕ) → fault ≡ Damaged segment at → IsNoTapeAt octets segment at) → RefusesTape octets fault
refuses_tape octets (Damaged segment at) kind memory damaged = damaged segment at refl
refuses_tape octets Disk kind memory damaged = tt
refuses_tape octets Broken kind memory damaged = absurd kind
refuses_tape octets TapeFull kind memory damaged = absurd kind
refuses_tape octets GenerationFull kind memory damaged = absurd kind
refuses_tape octets PendingFull kind memory damaged = absurd kind
refuses_tape octets NoTapeMemory kind memory damaged = absurd (memory refl)
refuses_tape octets (Note fault) kind memory damaged = absurd kind

-- ---- one after another

-- the octets of this peer's disks are a tape
abbrev IsTapeOf : GivenTape → Type 0
IsTapeOf given = IsSomeTape given.1

module _ {D : Type 0} {g : Ghosts D} where
  are_tapes : (given : List GivenTape) (peers : List (Peer D g)) → AllZip OpensGiven given peers
      → AllByRecursion IsTapeOf given
  are_tapes given peers all = zip_first OpensGiven IsTapeOf (λ one peer is. (is.state, is.was)) given peers all

  -- one more was opened
  pub opens_more : (prefix : List GivenDisks) (peers new : List (Peer D g)) (given : GivenDisks) (peer : Peer D g)
      → AllZip OpensGiven (map both_disks prefix) peers → OpensGiven (both_disks given) peer → new ≡ peers ++ peer ∷ []
      → AllZip OpensGiven (map both_disks (prefix ++ given ∷ [])) new
  opens_more prefix peers new given peer all one more =
      subst (λ (tapes : List GivenTape). AllZip OpensGiven tapes new)
      (sym (map-append both_disks prefix (given ∷ [])))
      (subst (AllZip OpensGiven (map both_disks prefix ++ both_disks given ∷ [])) (sym more)
      (zip_push OpensGiven (map both_disks prefix) peers (both_disks given) peer all one))

  -- the peer after those that were opened is refused
  pub stops_for : (given prefix : List GivenDisks) (peers : List (Peer D g)) (peer : GivenDisks) (fault : TapesFault)
      → AllZip OpensGiven (map both_disks prefix) peers → prefix ≡ take (length prefix) given
      → slice_get given (length prefix) ≡ Some peer → RefusesPeer (both_disks peer) fault
      → StopsFor (map both_disks given) fault
  stops_for given prefix peers peer (Tape (Some name) fault) all so_far here refused = record {
    rank = length prefix;
    peer = both_disks peer;
    here = slice_get-map both_disks given (length prefix) ∙ ap (option_map both_disks) here;
    named = refused.0;
    before = subst (AllByRecursion IsTapeOf)
        (ap (map both_disks) so_far ∙ sym (take-map both_disks (length prefix) given))
        (are_tapes (map both_disks prefix) peers all);
    why = refused.1;
  }
  stops_for given prefix peers peer (Tape None fault) all so_far here refused = absurd refused
  stops_for given prefix peers peer NoMemory all so_far here refused = tt

-- the first that is refused, in order, is reported
pub refuses_peers : (given ordered : List GivenDisks) (intake : Vec ℕ Global × Vec ℕ Global) (fault : TapesFault)
    → IsPermutation given ordered → NamesRise (disks_names ordered) → StopsFor (map both_disks ordered) fault
    → RefusesDisks given intake fault
refuses_peers given ordered intake (Tape (Some name) fault) permuted rises stops = record {
  ordered = map both_disks ordered;
  permuted = IsPermutation-map both_disks given ordered permuted;
  rises = tapes_rise ordered rises;
  stops = stops;
}
refuses_peers given ordered intake (Tape None fault) permuted rises stops = absurd stops
refuses_peers given ordered intake NoMemory permuted rises stops = tt

all_of : (given : List GivenTape) → AllByRecursion IsTapeOf given → All IsTapeOf given
all_of [] all = All-nil IsTapeOf
all_of (one ∷ given) all = All-cons IsTapeOf one given all.0 (all_of given all.1)

-- or that of the intake is, after those of all peers were opened
pub refuses_last : {D : Type 0} {g : Ghosts D} (given ordered : List GivenDisks) (peers : List (Peer D g))
    (intake : Vec ℕ Global × Vec ℕ Global) (fault : TapesFault) → IsPermutation given ordered
    → AllZip OpensGiven (map both_disks ordered) peers → RefusesGivenIntake (octets_of intake) fault
    → RefusesDisks given intake fault
refuses_last given ordered peers intake (Tape (Some name) fault) permuted all refused = absurd refused
refuses_last given ordered peers intake (Tape None fault) permuted all refused = record {
  before = All-permutation IsTapeOf (map both_disks ordered) (map both_disks given)
      (IsPermutation-map both_disks ordered given (IsPermutation-sym given ordered permuted))
      (all_of (map both_disks ordered) (are_tapes (map both_disks ordered) peers all));
  why = refused;
}
refuses_last given ordered peers intake NoMemory permuted all refused = tt

-- ---- a world of them

module _ {D : Type 0} {g : Ghosts D} where
  -- what the peers that were opened have been through
  record HavePasts (given : List GivenTape) (peers : List (Peer D g)) : Type 0 where
    pasts : List PeerPast
    given_are : AllZip IsGivenPeer given pasts
    stand : AllZip PeerStands pasts peers
    names : names_of pasts ≡ tape_names given
    acknowledged : (mark : ℕ) → AllByRecursion (HasAcknowledged mark) pasts
    free : AllByRecursion HasNoneHeld pasts

  have_pasts : (given : List GivenTape) (peers : List (Peer D g)) → AllZip OpensGiven given peers
      → HavePasts given peers
  have_pasts [] [] all =
      record { pasts = []; given_are = tt; stand = tt; names = refl; acknowledged = λ mark. tt; free = tt }
  have_pasts [] (peer ∷ peers) all = absurd all
  have_pasts (one ∷ given) [] all = absurd all
  have_pasts (one ∷ given) (peer ∷ peers) all =
      let rest = have_pasts given peers all.1 in
      let past = found_peer one.0 all.0.state (log_of (tape_of peer.station)) in
      record {
        pasts = past ∷ rest.pasts;
        given_are = (
          record {
            state = all.0.state;
            was = all.0.was;
            fresh = record {
              conf_is = refl;
              tape = record {
                history = refl;
                faults = refl;
                works = refl;
                safe = each_prefix past (tape_of peer.station) all.0.stands.tape;
              };
              places = refl;
              parted = refl;
            };
          },
          rest.given_are,
        );
        stand = (all.0.stands, rest.stand);
        names = ap (λ (names : List (List ℕ)). one.0.name ∷ names) rest.names;
        acknowledged = λ mark. (tt, rest.acknowledged mark);
        free = ((λ id number. none_held (keys all.0.state) id number), rest.free);
      }

-- the world runs, with no connection, and no stop is armed
abbrev at_start : Past → Life
at_start past = record { past = past; conns = []; connected = 0; now = 0; armed = None; running = true }

pub begins_from : (given ordered : List GivenDisks) (intake : Vec ℕ Global × Vec ℕ Global) (world : World)
    (stations : _) (conns : _) → world.stage ≡ Running stations conns → IsPermutation given ordered
    → NamesRise (disks_names ordered) → AllZip OpensGiven (map both_disks ordered) stations.peers.items
    → OpensGivenIntake (octets_of intake) stations.intake
    → stations.last ≡ (ledger_of stations.intake).mark → stations.last < 2 ^ 64
    → stations.begun ≡ None → conns.items ≡ []
    → world.armed ≡ None → world.connected ≡ 0 → world.now ≡ 0 → BeginsFromDisks given intake world
begins_from given ordered intake world stations conns is permuted rises all own last fits begun none armed connected
    moment =
    let tapes = map both_disks ordered in
    let have = have_pasts tapes stations.peers.items all in
    let mark : stations.last ≡ own.state.mark =
    last ∙ ap (λ (state : State). state.mark) own.stands.stands.ledger in
    let past : Past = record {
      peers = have.pasts;
      intake = found_tape own.state (log_of stations.intake);
      last = own.state.mark;
      begun = None;
    } in
    let stands : Stands stations past = record {
      peers = have.stand;
      intake = own.stands;
      last = mark;
      begun = begun;
      sound = record {
        names = subst NamesRise (sym have.names) (tapes_rise ordered rises);
        fits = subst (λ (n : ℕ). n < 2 ^ 64) mark fits;
        marked = omega arith;
        acknowledged = have.acknowledged own.state.mark;
        kept = λ number e. absurd cc;
        parted = λ number e. absurd cc;
      };
    } in
    let safe = safe_of stations past stands in
    record {
      ordered = tapes;
      permuted = IsPermutation-map both_disks given ordered permuted;
      rises = tapes_rise ordered rises;
      life = at_start past;
      fresh = record {
        state = own.state;
        was = own.was;
        fresh = record {
          peers = have.given_are;
          intake = record { history = refl; faults = refl; works = refl; safe = safe.intake };
          rest = refl;
        };
      };
      stands = record {
        stage = rw (is, none) (refl, stands, tt);
        armed = rw (armed) refl;
        connected = connected;
        now = moment;
        sound = record {
          past = stands.sound;
          conns = tied_none (at_start past) refl
              (λ rank peer here. all_at HasNoneHeld have.pasts rank peer have.free here);
        };
      };
    }

-- ---- of first disks alone

-- what begins from disks of which the second are empty begins from the first alone
pub begins_alone : (peers : List GivenPeer) (given : List GivenDisks) (intake : Vec ℕ Global × Vec ℕ Global)
    (world : World) → map both_disks given ≡ map first_alone peers → octets_of intake ≡ ([], [])
    → BeginsFromDisks given intake world → BeginsFrom peers world
begins_alone peers given intake world same empty begun =
    subst (λ (o : Octets). BeginsFromTapes (map first_alone peers) o world) empty
    (subst (λ (tapes : List GivenTape). BeginsFromTapes tapes (octets_of intake) world) same begun)

pub refuses_alone : (peers : List GivenPeer) (given : List GivenDisks) (intake : Vec ℕ Global × Vec ℕ Global)
    (fault : TapesFault) → map both_disks given ≡ map first_alone peers
    → ((why : TapeFault) → fault ≡ Tape None why → ⊥)
    → RefusesDisks given intake fault → RefusesTapes peers fault
refuses_alone peers given intake (Tape (Some name) fault) same other refused =
    subst (λ (tapes : List GivenTape). RefusesFirst tapes name fault) same refused
refuses_alone peers given intake (Tape None fault) same other refused = other fault refl
refuses_alone peers given intake NoMemory same other refused = tt

-- ---- of empty tapes

abbrev HasNone : GivenTape → Type 0
HasNone given = given.1 ≡ ([], [])

abbrev conf_in : GivenTape → PeerConf
conf_in given = given.0

all_none : (confs : List PeerConf) (given : List GivenPeer) → AllZip HasNoOctets confs given
    → All HasNone (map first_alone given)
all_none [] [] all = All-nil HasNone
all_none [] (one ∷ given) all = absurd all
all_none (conf ∷ confs) [] all = absurd all
all_none (conf ∷ confs) (one ∷ given) all =
    All-cons HasNone (first_alone one) (map first_alone given) (ap (λ (o : List ℕ). (o, [])) all.0.none)
    (all_none confs given all.1)

confs_are : (confs : List PeerConf) (given : List GivenPeer) → AllZip HasNoOctets confs given
    → map conf_in (map first_alone given) ≡ confs
confs_are [] [] all = refl
confs_are [] (one ∷ given) all = absurd all
confs_are (conf ∷ confs) [] all = absurd all
confs_are (conf ∷ confs) (one ∷ given) all =
    ap (λ (c : PeerConf). c ∷ map conf_in (map first_alone given)) all.0.conf_is
    ∙ ap (λ (cs : List PeerConf). conf ∷ cs) (confs_are confs given all.1)

names_are : (given : List GivenTape) → map (λ (c : PeerConf). c.name) (map conf_in given) ≡ tape_names given
names_are [] = refl
names_are (one ∷ given) = ap (λ (names : List (List ℕ)). one.0.name ∷ names) (names_are given)

names_alone : (given : List GivenPeer) → tape_names (map first_alone given) ≡ given_names given
names_alone [] = refl
names_alone (one ∷ given) = ap (λ (names : List (List ℕ)). one.0.name ∷ names) (names_alone given)

-- the names are those of the settings
pub same_names : (confs : List PeerConf) (given : List GivenPeer) → AllZip HasNoOctets confs given
    → IsDistinct bytes_eq (map (λ (c : PeerConf). c.name) confs) → IsDistinct bytes_eq (given_names given)
same_names confs given all apart = subst (IsDistinct bytes_eq)
    (ap (map (λ (c : PeerConf). c.name)) (sym (confs_are confs given all)) ∙ names_are (map first_alone given)
    ∙ names_alone given) apart

-- and those of the disks are those of the first ones
pub disks_apart : (peers : List GivenPeer) (given : List GivenDisks) → map both_disks given ≡ map first_alone peers
    → IsDistinct bytes_eq (given_names peers) → IsDistinct bytes_eq (disks_names given)
disks_apart peers given same apart = subst (IsDistinct bytes_eq)
    (sym (names_alone peers) ∙ ap tape_names (sym same) ∙ names_both given) apart

-- octets of empty disks stand for the ledger of no notes
none_noted : (octets : Octets) (state : State) → octets ≡ ([], []) → IsTape octets state → state ≡ start
none_noted octets state empty was = tape_once ([], []) state start
    (subst (λ (o : Octets). IsTape o state) empty was) nothing_lies

fresh_peers : (given : List GivenTape) (pasts : List PeerPast) → AllZip IsGivenPeer given pasts → All HasNone given
    → AllZip (λ (conf : PeerConf). IsFreshPeer conf start) (map conf_in given) pasts
fresh_peers [] [] all none = tt
fresh_peers [] (past ∷ pasts) all none = absurd all
fresh_peers (one ∷ given) [] all none = absurd all
fresh_peers (one ∷ given) (past ∷ pasts) all none = (
  subst (λ (state : State). IsFreshPeer one.0 state past)
      (none_noted one.1 all.0.state (All-head HasNone one given none) all.0.was) all.0.fresh,
  fresh_peers given pasts all.1 (All-tail HasNone one given none),
)

fresh_world : (given : List GivenTape) (life : Life) → All HasNone given → IsGiven given ([], []) life
    → IsFresh (map conf_in given) life
fresh_world given life none is =
    let empty : is.state ≡ start = none_noted ([], []) is.state refl is.was in
    let fresh = subst (λ (state : State). IsFreshOf IsGivenPeer given state life) empty is.fresh in
    record { peers = fresh_peers given life.past.peers fresh.peers none; intake = fresh.intake; rest = fresh.rest }

pub begins : (confs : List PeerConf) (given : List GivenPeer) (world : World) → AllZip HasNoOctets confs given
    → BeginsFrom given world → Begins confs world
begins confs given world all is =
    let tapes = map first_alone given in
    let none = All-permutation HasNone tapes is.ordered is.permuted (all_none confs given all) in
    record {
      confs = map conf_in is.ordered;
      permuted = subst (λ (cs : List PeerConf). IsPermutation cs (map conf_in is.ordered)) (confs_are confs given all)
          (IsPermutation-map conf_in tapes is.ordered is.permuted);
      rises = subst NamesRise (sym (names_are is.ordered)) is.rises;
      life = is.life;
      fresh = fresh_world is.ordered is.life none is.fresh;
      stands = is.stands;
    }

none_at : (given : List GivenTape) (rank : ℕ) (one : GivenTape) → All HasNone given
    → slice_get given rank ≡ Some one → HasNone one
none_at [] rank one none here = absurd cc
none_at (x ∷ given) zero one none here =
    let same : x ≡ one = cc in
    subst HasNone same (All-head HasNone x given none)
none_at (x ∷ given) (suc rank) one none here = none_at given rank one (All-tail HasNone x given none) here

not_damaged : (octets : Octets) (fault : TapeFault) → octets ≡ ([], []) → RefusesTape octets fault → fault ≡ Disk
not_damaged octets (Damaged segment at) empty is =
    absurd (tape_nowhere_damaged ([], []) start segment at nothing_lies
    (subst (λ (o : Octets). IsNoTapeAt o segment at) empty is))
not_damaged octets Disk empty is = refl
not_damaged octets Broken empty is = absurd is
not_damaged octets TapeFull empty is = absurd is
not_damaged octets GenerationFull empty is = absurd is
not_damaged octets PendingFull empty is = absurd is
not_damaged octets NoTapeMemory empty is = absurd is
not_damaged octets (Note fault) empty is = absurd is

-- only want of memory for a disk in memory refuses them
pub make_fault : (confs : List PeerConf) (given : List GivenPeer) (name : Option (List ℕ)) (fault : TapeFault)
    → AllZip HasNoOctets confs given → RefusesTapes given (Tape name fault) → IsMakeFault (FromTape fault)
make_fault confs given (Some name) fault all is =
    let none = All-permutation HasNone (map first_alone given) is.ordered is.permuted (all_none confs given all) in
    let empty = none_at is.ordered is.stops.rank is.stops.peer none is.stops.here in
    inl (ap FromTape (not_damaged is.stops.peer.1 fault empty is.stops.why))
make_fault confs given None fault all is = absurd is
