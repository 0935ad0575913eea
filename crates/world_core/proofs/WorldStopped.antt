-- What a stop makes of a world, and what stands for it.
use Rattle.std.proofs.Common.{◌≡◌, ℕ, zero, suc, true, false, None, Some, List, [], ◌∷◌, map, refl, sym, ap, ◌∙◌, subst}
use Rattle.std.proofs.Common.{inl, inr, arith}
use Rattle.std.specs.Prelude.{Vec}
use Rattle.std.specs.declared.alloc.Global.{Global}
use Rattle.std.specs.List.Sorted.{IsStrictlyIncreasing}
use Rattle.std.specs.Prelude.{option_map, ◌≤◌}
use Rattle.std.specs.List.{AllByRecursion, AllZip, slice_get}
use Rattle.disk_model.specs.declared.choice.Choice.{Choice}
use Rattle.world_core.specs.Past.{ConnPast, Life, Past, PeerPast, conn_at, with_past}
use Rattle.world_core.specs.Halting.{AreLeftBy, IsLeftOf, TapesStop, with_disks}
use Rattle.world_core.specs.Halts.{AtRest, ByChoice, GoesOn, Manner, halted, left, left_peer}
use Rattle.world_core.specs.Opening.{HasNoneHeld}
use Rattle.world_core.specs.Sound.{AreTied, HasNumber, IsSound, IsSoundConn}
use Rattle.world_core.specs.Stands.{StageStands, Stands, StoppedStands, WorldStands, armed_as}
use Rattle.world_core.specs.declared.peer.StoppedPeer.{StoppedPeer}
use Rattle.world_core.specs.declared.stop.StopDisk.{StopDisk}
use Rattle.world_core.specs.declared.world.Stage.{Stage}
use Rattle.world_core.specs.declared.world.Stage.TheVariants.{Running, Stopped}
use Rattle.world_core.specs.declared.world.World.{World}
use Rattle.world_core.proofs.TapesStopped.{left_again, tapes_left}

-- with no connections, no number may be held
pub tied_none : (life : Life) → life.conns ≡ []
    → ((rank : ℕ) (peer : PeerPast) → slice_get life.past.peers rank ≡ Some peer → HasNoneHeld peer)
    → AreTied life
tied_none life none free = record {
  rising = subst (λ conns. IsStrictlyIncreasing (map (λ (entry : ℕ × ConnPast). entry.0) conns)) (sym none)
      (λ k less. absurd (omega (arith, less)));
  made = subst (λ conns. AllByRecursion (λ (entry : ℕ × ConnPast). entry.0 ≤ life.connected) conns) (sym none) tt;
  each = subst (λ conns. AllByRecursion (λ (entry : ℕ × ConnPast). IsSoundConn life.past.peers entry.1) conns)
      (sym none) tt;
  held = λ rank id number peer here. (
    (λ is. absurd (free rank peer here id number is)),
    (λ (has : HasNumber life rank peer id number).
        let at = has.here in
        let empty : conn_at life.conns id ≡ None = ap (λ conns. conn_at conns id) none in
        absurd cc),
  );
  none = λ stopped. none;
}

-- no connection holds anything of what has stopped
pub left_free : (manner : Manner) (peers : List PeerPast) (rank : ℕ) (peer : PeerPast)
    → slice_get (map (left_peer manner) peers) rank ≡ Some peer
    → HasNoneHeld peer
left_free manner [] rank peer here = absurd cc
left_free manner (was ∷ peers) zero peer here =
    let is : left_peer manner was ≡ peer = cc in
    subst HasNoneHeld is (λ id number held. cc)
left_free manner (was ∷ peers) (suc rank) peer here = left_free manner peers rank peer here

pub tied_halted : (manner : Manner) (under_way : Past) (life : Life) → AreTied (halted manner under_way life)
tied_halted manner under_way life = tied_none (halted manner under_way life) refl (left_free manner under_way.peers)

pub stands_halted : (old new : World) (life : Life) (peers : List StoppedPeer) (disks : StopDisk × StopDisk)
    → WorldStands old life
    → TapesStop (left AtRest life.past) peers disks → StageStands (halted AtRest life.past life) new.stage
    → new.armed ≡ None
    → new.connected ≡ old.connected → new.now ≡ old.now → WorldStands new (halted AtRest life.past life)
stands_halted old new life peers disks stands stop stage armed connected now = record {
  stage = stage;
  armed = ap (option_map armed_as) armed;
  connected = connected ∙ stands.connected;
  now = now ∙ stands.now;
  sound = record { past = stop.sound; conns = tied_halted AtRest life.past life };
}

-- all has stopped, and each disk keeps what the choice leaves of it
stage_left : (life : Life) (choice : Choice) (peers after : Vec StoppedPeer Global)
    (disks : List (StopDisk × StopDisk)) (intake behind : StopDisk × StopDisk)
    → StageStands life (Stopped peers intake) → IsSound life.past → after.items ≡ with_disks peers.items disks
    → AllZip (IsLeftOf choice) peers.items disks → AreLeftBy choice intake behind
    → StageStands (with_past life (left (ByChoice choice) life.past)) (Stopped after behind)
    × IsSound (left (ByChoice choice) life.past)
stage_left life choice peers after disks intake behind stands sound is each one =
    let stop = tapes_left choice life.past peers.items disks intake behind
    (record { peers = stands.1; intake = stands.2; begun = stands.3; sound = sound }) each one in (
      (
        stands.0,
        subst (λ (l : List StoppedPeer). AllZip StoppedStands (left (ByChoice choice) life.past).peers l)
            (sym is) stop.peers,
        stop.intake,
        refl,
      ),
      stop.sound,
    )

pub stands_left : (old new : World) (life : Life) (choice : Choice) (peers after : Vec StoppedPeer Global)
    (disks : List (StopDisk × StopDisk))
    (intake behind : StopDisk × StopDisk) → WorldStands old life → life.running ≡ false
    → old.stage ≡ Stopped peers intake → new.stage ≡ Stopped after behind
    → after.items ≡ with_disks peers.items disks → AllZip (IsLeftOf choice) peers.items disks
    → AreLeftBy choice intake behind → new.armed ≡ old.armed
    → new.connected ≡ old.connected → new.now ≡ old.now
    → WorldStands new (with_past life (left (ByChoice choice) life.past))
stands_left old new life choice peers after disks intake behind stands stopped was now_is is each one armed connected
    now =
    let here : StageStands life (Stopped peers intake) = subst (λ (s : Stage). StageStands life s) was stands.stage in
    let done = stage_left life choice peers after disks intake behind here stands.sound.past is each one in
    record {
      stage = subst (λ (s : Stage). StageStands (with_past life (left (ByChoice choice) life.past)) s) (sym now_is)
          done.0;
      armed = ap (option_map armed_as) armed ∙ stands.armed;
      connected = connected ∙ stands.connected;
      now = now ∙ stands.now;
      sound = record {
        past = done.1;
        conns = tied_none (with_past life (left (ByChoice choice) life.past)) (stands.sound.conns.none stopped)
            (left_free (ByChoice choice) life.past.peers);
      };
    }

pub halted_here : (old new : World) (life : Life) (stations : _) (conns : _) (peers : Vec StoppedPeer Global)
    (disks : StopDisk × StopDisk)
    → WorldStands old life → old.stage ≡ Running stations conns
    → (Stands stations life.past → TapesStop (left AtRest life.past) peers.items disks)
    → new.stage ≡ Stopped peers disks → new.armed ≡ None → new.connected ≡ old.connected → new.now ≡ old.now
    → WorldStands new (halted AtRest life.past life)
halted_here old new life stations conns peers disks stands was stops now_is armed connected now =
    let here : StageStands life (Running stations conns) = subst (λ (s : Stage). StageStands life s) was stands.stage in
    let stop = stops here.1 in
    stands_halted old new life peers.items disks stands stop
    (subst (λ (s : Stage). StageStands (halted AtRest life.past life) s) (sym now_is) (
      refl,
      stop.peers,
      stop.intake,
      refl,
    )) armed connected now

-- ---- after a refused step

runs_here : (world : World) (life : Life) (stations : _) (conns : _) → WorldStands world life
    → world.stage ≡ Running stations conns → life.running ≡ true
runs_here world life stations conns stands is =
    let here : StageStands life (Running stations conns) = subst (λ (s : Stage). StageStands life s) is stands.stage in
    here.0

-- all stations stop, if the world runs on
pub halted_on : (old new : World) (life now : Life) (under_way : Past) (stations : _) (conns : _)
    (peers : Vec StoppedPeer Global) (disks : StopDisk × StopDisk)
    → GoesOn life under_way now → WorldStands old now → old.stage ≡ Running stations conns
    → (Stands stations under_way → TapesStop (left AtRest under_way) peers.items disks)
    → new.stage ≡ Stopped peers disks → new.armed ≡ None → new.connected ≡ old.connected → new.now ≡ old.now
    → WorldStands new (halted AtRest under_way life)
halted_on old new life now under_way stations conns peers disks (inl on) stands was stops now_is armed connected
    moment =
    halted_here old new (with_past life under_way) stations conns peers disks
    (subst (λ (l : Life). WorldStands old l) on.1 stands) was stops now_is armed connected moment
halted_on old new life now under_way stations conns peers disks (inr on) stands was stops now_is armed connected
    moment =
    let runs = runs_here old (with_past life (left AtRest under_way)) stations conns
    (subst (λ (l : Life). WorldStands old l) on.1 stands) was in
    let not = on.0 in
    absurd cc

-- and then each disk keeps what the choice leaves of it
pub struck_stands : (world : World) (life : Life) (under_way : Past) (choice : Choice)
    → WorldStands world (with_past (halted AtRest under_way life) (left (ByChoice choice) (left AtRest under_way)))
    → WorldStands world (halted (ByChoice choice) under_way life)
struck_stands world life under_way choice stands =
    subst (λ (p : Past). WorldStands world (with_past (halted AtRest under_way life) p)) (left_again choice under_way)
    stands
