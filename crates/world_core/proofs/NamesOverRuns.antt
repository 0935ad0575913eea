-- The names of the peers stay over any steps.
use Rattle.std.proofs.Common.{◌≡◌, ℕ, List, length, map, refl, sym, ap, ◌∙◌}
use Rattle.std.specs.List.{AllZip}
use Rattle.disk_model.specs.declared.Disk.{Ghosts}
use Rattle.world_core.specs.Past.{Life, Past, PeerPast, with_peer, with_tape}
use Rattle.world_core.specs.Runs.{Runs}
use Rattle.world_core.specs.Sound.{names_of}
use Rattle.world_core.specs.Stands.{PeerStands, StageStands, StoppedStands, WorldStands}
use Rattle.world_core.specs.Output.{View}
use Rattle.world_core.specs.Turn.{names_at}
use Rattle.world_core.specs.declared.peer.Peer.{Peer}
use Rattle.world_core.specs.declared.peer.StoppedPeer.{StoppedPeer}
use Rattle.world_core.specs.declared.step.Step.{Step}
use Rattle.world_core.specs.declared.world.Stage.{Stage}
use Rattle.world_core.specs.declared.world.Stage.TheVariants.{Running, Stopped}
use Rattle.world_core.specs.declared.world.World.{World}
use Rattle.world_core.proofs.NamesOverEvents.{names_does, names_put}
use Rattle.world_core.proofs.SoundOverEvents.{names_begun}
use Rattle.world_core.proofs.WalkOverSteps.{runs_all}
use Rattle.world_core.proofs.WalkOverTapes.{HasSameNotes, HaveSameNotes, Keeper}
use Rattle.world_core.proofs.RelatedLists.{zip_length, zip_equal}

abbrev named : Life → List (List ℕ)
named life = names_of life.past.peers

abbrev SameNames : Past → Past → Type 0
SameNames was now = names_of now.peers ≡ names_of was.peers

abbrev naming : Keeper
naming = record {
  ON = λ event. Unit {0};
  KEEPS = SameNames;
  alike = λ past. refl;
  joined = λ was mid now one other. other ∙ one;
  at_same = λ was now rank peer tape here is same. names_put was now rank peer (with_tape peer tape) here refl is;
  at_intake = λ was tape same. refl;
  event_does = λ event on. names_does event;
  keeps_begun = λ past. names_begun past.peers;
}

names_same : (was now : Past) → HaveSameNotes was now → SameNames was now
names_same was now same =
    zip_equal HasSameNotes (λ (peer : PeerPast). peer.conf.name) (λ (peer : PeerPast). peer.conf.name)
    (λ one other is. ap (λ conf. conf.name) is.0) was.peers now.peers same

pub names_runs : (begun later : Life) (steps : List Step) (lines : List (List View)) → Runs begun steps lines later
    → named later ≡ named begun
names_runs begun later steps lines runs =
    runs_all naming (λ was now same. names_same was now same.notes)
    (λ past rank id was now here keeps. names_put past (with_peer past rank now) rank was now here keeps.conf refl)
    (λ event. tt) (λ was number. refl) begun steps lines later runs

-- ---- what stands for the peers has their names

module _ {D : Type 0} {g : Ghosts D} where
  open_names : (pasts : List PeerPast) (peers : List (Peer D g)) → AllZip PeerStands pasts peers
      → map (λ (peer : Peer D g). peer.conf.name) peers ≡ names_of pasts
  open_names pasts peers all =
      zip_equal PeerStands (λ (past : PeerPast). past.conf.name) (λ (peer : Peer D g). peer.conf.name)
      (λ past peer is. ap (λ conf. conf.name) is.conf) pasts peers all

stopped_names : (pasts : List PeerPast) (peers : List StoppedPeer) → AllZip StoppedStands pasts peers
    → map (λ (peer : StoppedPeer). peer.conf.name) peers ≡ names_of pasts
stopped_names pasts peers all =
    zip_equal StoppedStands (λ (past : PeerPast). past.conf.name) (λ (peer : StoppedPeer). peer.conf.name)
    (λ past peer is. ap (λ conf. conf.name) is.conf) pasts peers all

stage_names : (life : Life) (stage : Stage) → StageStands life stage → names_at stage ≡ named life
stage_names life (Running stations connections) stands = open_names life.past.peers stations.peers.items stands.1.peers
stage_names life (Stopped peers intake) stands = stopped_names life.past.peers peers.items stands.1

pub names_stage : (world : World) (life : Life) → WorldStands world life → names_at world.stage ≡ named life
names_stage world life stands = stage_names life world.stage stands.stage

-- how many peers a stage has
abbrev pub count_at : Stage → ℕ
count_at (Running stations connections) = length stations.peers.items
count_at (Stopped peers intake) = length peers.items

stage_count : (life : Life) (stage : Stage) → StageStands life stage → count_at stage ≡ length life.past.peers
stage_count life (Running stations connections) stands =
    sym (zip_length PeerStands life.past.peers stations.peers.items stands.1.peers)
stage_count life (Stopped peers intake) stands = sym (zip_length StoppedStands life.past.peers peers.items stands.1)

pub count_stage : (world : World) (life : Life) → WorldStands world life → count_at world.stage ≡ length life.past.peers
count_stage world life stands = stage_count life world.stage stands.stage
