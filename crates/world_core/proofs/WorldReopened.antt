-- All tapes of a world are opened again, or it stays stopped.
use Rattle.std.proofs.Common.{◌≡◌, true, false, List, [], length, map, refl, sym, ap, ◌∙◌, subst, inl, inr}
use Rattle.std.specs.Prelude.{Vec, option_map}
use Rattle.std.specs.declared.alloc.Global.{Global}
use Rattle.std.specs.List.{AllZip}
use Rattle.std.proofs.Math.Seq.{take-length}
use Rattle.disk_model.specs.declared.Disk.{Ghosts}
use Rattle.ledger_core.specs.State.{State, keys}
use Rattle.recovery.specs.LeavingLaws.{EachLedger-weaker}
use Rattle.sections.specs.ListLaws.{all_at}
use Rattle.world_core.specs.Past.{Life, Past, PeerPast, with_past}
use Rattle.world_core.specs.Events.{AllDo, Event}
use Rattle.world_core.specs.Events.AllDo.{Start}
use Rattle.world_core.specs.Halting.{TapesStop}
use Rattle.world_core.specs.Halts.{AtRest, left, left_peer, restart_events}
use Rattle.world_core.specs.Opening.{AllOpen, FailsAt, HasNoneHeld, OpensNot}
use Rattle.world_core.specs.Steps.{FailsPlan, Plan, planned}
use Rattle.world_core.specs.Stands.{DisksStand, PeerStands, StageStands, Stands, StoppedStands, WorldStands, armed_as}
use Rattle.world_core.specs.Stepped.{opened_view}
use Rattle.world_core.specs.Output.{Mark, mark_view, view_of}
use Rattle.world_core.specs.Turn.{Awaits, Took, WasHalted, WasNotTaken}
use Rattle.world_core.specs.declared.fault.Fault.{Fault}
use Rattle.world_core.specs.declared.fault.Fault.TheVariants.{NoMemory, Running as StillRuns}
use Rattle.world_core.specs.declared.fault.Halt.{Halt}
use Rattle.world_core.specs.declared.peer.Peer.{Peer}
use Rattle.world_core.specs.declared.peer.StoppedPeer.{StoppedPeer}
use Rattle.world_core.specs.declared.step.Step.TheVariants.{Restart}
use Rattle.world_core.specs.declared.stations.Stations.{Stations}
use Rattle.world_core.specs.declared.stop.StopDisk.{StopDisk}
use Rattle.world_core.specs.declared.output.Output.{Output}
use Rattle.world_core.specs.declared.world.Stage.{Stage}
use Rattle.world_core.specs.declared.world.Stage.TheVariants.{Running, Stopped}
use Rattle.world_core.specs.declared.world.World.{World}
use Rattle.world_core.proofs.TapesStopped.{left_sound, lines_left}
use Rattle.world_core.proofs.WorldStopped.{left_free, tied_none}
use Rattle.world_core.proofs.RelatedLists.{zip_equal, zip_map}

-- ---- what had stopped, and stops again

disks_again : (P Q : State → Type 0) (past : _) (disks : StopDisk × StopDisk) → ((state : State) → P state → Q state)
    → DisksStand P past disks
    → DisksStand Q (Rattle.world_core.specs.Halts.left_tape AtRest past) disks
disks_again P Q past disks weaker stands = record {
  log = stands.log;
  faults = stands.faults;
  works = refl;
  legal = stands.legal;
  images = EachLedger-weaker P Q weaker past.log stands.images;
}

peers_again : (pasts : List PeerPast) (peers : List StoppedPeer) → AllZip StoppedStands pasts peers
    → AllZip StoppedStands (map (left_peer AtRest) pasts) peers
peers_again pasts peers all =
    zip_map StoppedStands StoppedStands (left_peer AtRest) (λ past peer is. record {
      conf = is.conf;
      disks = disks_again _ _ past.tape peer.disks (λ state keeps. keeps) is.disks;
    }) pasts peers all

stage_again : (life : Life) (stage : Stage) → life.running ≡ false → StageStands life stage
    → StageStands (with_past life (left AtRest life.past)) stage
stage_again life (Running stations conns) stopped stands = absurd (let runs = stands.0 in cc)
stage_again life (Stopped peers intake) stopped stands = (
  stopped,
  peers_again life.past.peers peers.items stands.1,
  disks_again _ _ life.past.intake intake (lines_left AtRest life.past.intake.history life.past.peers) stands.2,
  refl,
)

stands_again : (world : World) (life : Life) → WorldStands world life → life.running ≡ false
    → WorldStands world (with_past life (left AtRest life.past))
stands_again world life stands stopped = record {
  stage = stage_again life world.stage stopped stands.stage;
  armed = stands.armed;
  connected = stands.connected;
  now = stands.now;
  sound = record {
    past = left_sound AtRest life.past stands.sound.past;
    conns = tied_none (with_past life (left AtRest life.past)) (stands.sound.conns.none stopped)
        (left_free AtRest life.past.peers);
  };
}

-- ---- before any opening

pub runs_stage : (life : Life) (stage : Stage) → StageStands life stage
    → ((peers : _) (intake : _) → stage ≡ Stopped peers intake → ⊥) → life.running ≡ true
runs_stage life (Running stations conns) stands never = stands.0
runs_stage life (Stopped peers intake) stands never = absurd (never peers intake refl)

pub still_runs : (world : World) (life : Life) → WorldStands world life
    → ((peers : _) (intake : _) → world.stage ≡ Stopped peers intake → ⊥)
    → WasNotTaken Restart life StillRuns world
still_runs world life stands never = record {
  later = life;
  refuses = inl (inl (refl, runs_stage life world.stage stands.stage never, refl));
  stands = stands;
}

pub stop_there : (world : World) (life : Life) (peers : Vec StoppedPeer Global) (intake : StopDisk × StopDisk)
    → WorldStands world life
    → world.stage ≡ Stopped peers intake → (life.running ≡ false) × TapesStop life.past peers.items intake
stop_there world life peers intake stands is =
    let here : StageStands life (Stopped peers intake) = subst (λ (s : Stage). StageStands life s) is stands.stage in
    (here.0, record { peers = here.1; intake = here.2; begun = here.3; sound = stands.sound.past })

-- the plan of a restart
abbrev opening_plan : Past → Plan
opening_plan past = planned past (restart_events past) (λ (later : Past). map mark_view later.peers)

abbrev opening_failed : (past under_way : Past) (halt : Halt) → FailsAt past (restart_events past) halt under_way
    → FailsPlan Restart past halt.fault under_way
opening_failed past under_way halt fails =
    record { plan = opening_plan past; is_plan = refl; fails = fails.fails }

pub no_room : (world : World) (life : Life) (fault : Fault) (peers : Vec StoppedPeer Global) (intake : StopDisk
    × StopDisk) → WorldStands world life
    → world.stage ≡ Stopped peers intake → fault ≡ NoMemory → WasNotTaken Restart life fault world
no_room world life fault peers intake stands is memory =
    let stopped = (stop_there world life peers intake stands is).0 in
    record {
      later = with_past life (left AtRest life.past);
      refuses = inl (inr (
        stopped,
        (
          life.past,
          inr (inr (record {
            restarts = refl;
            memory = memory;
            plan = opening_plan life.past;
            is_plan = refl;
            count = 0;
            does = Start;
          })),
          inr (stopped, refl),
        ),
      ));
      stands = stands_again world life stands stopped;
    }

-- ---- an opening was refused

pub awaits : (world new : World) (life : Life) → WorldStands world life → new.armed ≡ world.armed
    → new.connected ≡ world.connected → new.now ≡ world.now
    → Awaits new life
awaits world new life stands armed connected moment = record {
  armed = ap (option_map armed_as) armed ∙ stands.armed;
  connected = connected ∙ stands.connected;
  now = moment ∙ stands.now;
  sound = stands.sound;
}

-- what has stopped again stands for what the openings left
stands_closed : (world : World) (life : Life) (under_way : Past) (peers : Vec StoppedPeer Global) (intake : StopDisk
    × StopDisk) → Awaits world life
    → life.running ≡ false → TapesStop (left AtRest under_way) peers.items intake → world.stage ≡ Stopped peers intake
    → WorldStands world (with_past life (left AtRest under_way))
stands_closed world life under_way peers intake awaits stopped stop is = record {
  stage = subst (λ (s : Stage). StageStands (with_past life (left AtRest under_way)) s) (sym is) (
    stopped,
    stop.peers,
    stop.intake,
    refl,
  );
  armed = awaits.armed;
  connected = awaits.connected;
  now = awaits.now;
  sound = record {
    past = stop.sound;
    conns = tied_none (with_past life (left AtRest under_way)) (awaits.sound.conns.none stopped)
        (left_free AtRest under_way.peers);
  };
}

pub closed_again : (world : World) (life : Life) (halt : Halt) (peers : Vec StoppedPeer Global) (intake : StopDisk
    × StopDisk) → Awaits world life
    → life.running ≡ false → OpensNot life.past halt peers.items intake → world.stage ≡ Stopped peers intake
    → WasHalted Restart life halt world
closed_again world life halt peers intake awaits stopped opens is = record {
  under_way = opens.under_way;
  now = with_past life (left AtRest opens.under_way);
  goes_on = inr (stopped, refl);
  refuses = inr (
    stopped,
    (
      opens.under_way,
      inr (inl (opening_failed life.past opens.under_way halt opens.fails)),
      inr (stopped, refl),
    ),
  );
  stands = stands_closed world life opens.under_way peers intake awaits stopped opens.stop is;
  disk = λ fails. (
    stopped,
    record { failed = opening_failed life.past opens.under_way halt opens.fails; at = opens.fails.at },
  );
}

-- ---- all are open

module _ {D : Type 0} {g : Ghosts D} where
  pub marks_said : (pasts : List PeerPast) (peers : List (Peer D g)) → AllZip PeerStands pasts peers
      → map opened_view peers ≡ map mark_view pasts
  marks_said pasts peers all =
      zip_equal PeerStands mark_view opened_view (λ past peer is.
      ap (λ conf. Mark conf.name (Rattle.peer_queue.specs.Words.ledger_of peer.station).mark
      (keys (Rattle.peer_queue.specs.Words.ledger_of peer.station))) is.conf
      ∙ ap (λ (state : State). Mark past.conf.name state.mark (keys state)) is.tape.stands.ledger) pasts peers all

pub runs_again : (old new : World) (life : Life) (stations : _) (conns : _) (outputs : List Output) → Awaits old life
    → life.running ≡ false
    → (opens : AllOpen life.past stations) → new.stage ≡ Running stations conns → conns.items ≡ []
    → map view_of outputs ≡ map opened_view stations.peers.items
    → new.armed ≡ old.armed → new.connected ≡ old.connected → new.now ≡ old.now → Took Restart life outputs new
runs_again old new life stations conns outputs awaits stopped opens is none reports armed connected moment =
    let later : Life = record life { past = opens.later; running = true } in
    let free : life.conns ≡ [] = awaits.sound.conns.none stopped in
    record {
      later = later;
      takes = inl (
        stopped,
        (
          opens.later,
          record {
            plan = opening_plan life.past;
            is_plan = refl;
            mid = opens.later;
            does = opens.opens;
            outputs_are = reports ∙ marks_said opens.later.peers stations.peers.items opens.stands.peers;
            later_is = refl;
          },
          refl,
        ),
      );
      stands = record {
        stage = rw (is, none, free) (refl, opens.stands, tt);
        armed = ap (option_map armed_as) armed ∙ awaits.armed;
        connected = connected ∙ awaits.connected;
        now = moment ∙ awaits.now;
        sound = record {
          past = opens.stands.sound;
          conns = tied_none later free
              (λ rank peer here. all_at HasNoneHeld opens.later.peers rank peer opens.free here);
        };
      };
    }

module _ {D : Type 0} {g : Ghosts D} where
  pub stops_again : (old new : World) (life : Life) (stations : Stations D g) (peers : Vec StoppedPeer Global)
      (intake : StopDisk × StopDisk) → Awaits old life
      → life.running ≡ false → (opens : AllOpen life.past stations)
      → ((past : Past) → Stands stations past → TapesStop (left AtRest past) peers.items intake)
      → new.stage ≡ Stopped peers intake → new.armed ≡ old.armed → new.connected ≡ old.connected → new.now ≡ old.now
      → WasNotTaken Restart life NoMemory new
  stops_again old new life stations peers intake waits stopped opens stops is armed connected moment =
      let events = restart_events life.past in
      let here : Awaits new life = record {
        armed = ap (option_map armed_as) armed ∙ waits.armed;
        connected = connected ∙ waits.connected;
        now = moment ∙ waits.now;
        sound = waits.sound;
      } in
      record {
        later = with_past life (left AtRest opens.later);
        refuses = inl (inr (
          stopped,
          (
            opens.later,
            inr (inr (record {
              restarts = refl;
              memory = refl;
              plan = opening_plan life.past;
              is_plan = refl;
              count = length events;
              does = subst (λ (es : List Event). AllDo life.past es opens.later) (sym (take-length events)) opens.opens;
            })),
            inr (stopped, refl),
          ),
        ));
        stands = stands_closed new life opens.later peers intake here stopped (stops opens.later opens.stands) is;
      }
