-- The rank of a peer's name, and how a stop is armed.
use Rattle.std.proofs.Common.{◌≡◌, ◌+◌, ◌<◌, ℕ, zero, suc, Bool, not, List, [], ◌∷◌, length, map, Option, None, Some}
use Rattle.std.proofs.Common.{cond, ltb, refl, sym, ap, ◌∙◌, subst, arith}
use Rattle.std.specs.Prelude.{option_map}
use Rattle.std.specs.List.{position, prefix_len}
use Rattle.std.specs.Str.{bytes_eq}
use Rattle.std.proofs.lemmas.List.{length-map}
use Rattle.disk_model.specs.declared.Disk.{Ghosts}
use Rattle.disk_model.specs.declared.choice.Choice.{Choice}
use Rattle.world_core.specs.Past.{Armed, Life, Past, PeerPast, rank_of}
use Rattle.world_core.specs.Halts.{IsTapeOf, RefusesStop, TakesStop, armed_with}
use Rattle.world_core.specs.Sound.{AreTied, HasNumber, names_of}
use Rattle.world_core.specs.Stands.{StageStands, WorldStands, armed_as}
use Rattle.world_core.specs.Turn.{Made, Refused, RefusesRest, TakesRest}
use Rattle.world_core.specs.declared.fault.Fault.{Fault}
use Rattle.world_core.specs.declared.peer.Peer.{Peer}
use Rattle.world_core.specs.declared.peer.StoppedPeer.{StoppedPeer}
use Rattle.world_core.specs.declared.output.Output.{Output}
use Rattle.world_core.specs.declared.world.Stage.{Stage}
use Rattle.world_core.specs.declared.world.Stage.TheVariants.{Running, Stopped}
use Rattle.world_core.specs.declared.world.World.{World}

-- in a list, and in the list of its parts, the prefix that passes a test is of the same length
prefix-map : {A B : Type 0} (part : A → B) (test : B → Bool) (things : List A)
    → prefix_len (λ x. test (part x)) things ≡ prefix_len test (map part things)
prefix-map part test [] = refl
prefix-map part test (x ∷ things) = ap (λ n. cond (test (part x)) (1 + n) 0) (prefix-map part test things)

position-map : {A B : Type 0} (part : A → B) (test : B → Bool) (things : List A)
    → position (λ x. test (part x)) things ≡ position test (map part things)
position-map part test things =
    let before = prefix-map part (λ y. not (test y)) things in
    let long = length-map things part in
    ap (λ n. cond (ltb n (length things)) (Some n) None) before
    ∙ ap (λ n. cond (ltb (prefix_len (λ y. not (test y)) (map part things)) n)
    (Some (prefix_len (λ y. not (test y)) (map part things))) None) (sym long)

-- the rank of a name
abbrev pub rank_in : List (List ℕ) → List ℕ → Option ℕ
rank_in names name = position (λ (other : List ℕ). bytes_eq other name) names

pub past_rank : (past : Past) (name : List ℕ) → rank_of past name ≡ rank_in (names_of past.peers) name
past_rank past name = position-map (λ (peer : PeerPast). peer.conf.name) (λ (other : List ℕ). bytes_eq other name)
    past.peers

pub stopped_rank : (peers : List StoppedPeer) (name : List ℕ)
    → position (λ (peer : StoppedPeer). bytes_eq peer.conf.name name) peers
    ≡ rank_in (map (λ (peer : StoppedPeer). peer.conf.name) peers) name
stopped_rank peers name =
    position-map (λ (peer : StoppedPeer). peer.conf.name) (λ (other : List ℕ). bytes_eq other name) peers

module _ {D : Type 0} {g : Ghosts D} where
  pub open_rank : (peers : List (Peer D g)) (name : List ℕ)
      → position (λ (peer : Peer D g). bytes_eq peer.conf.name name) peers
      ≡ rank_in (map (λ (peer : Peer D g). peer.conf.name) peers) name
  open_rank peers name = position-map (λ (peer : Peer D g). peer.conf.name) (λ (other : List ℕ). bytes_eq other name)
      peers

-- ---- a stop is armed

takes_armed : (peer : Option (List ℕ)) (call : ℕ) (choice : Choice) (life : Life) (rank : Option ℕ) → 0 < call
    → IsTapeOf life.past peer rank
    → TakesStop peer call choice life [] (armed_with (record { rank = rank; call = call; choice = choice }) life)
takes_armed peer zero choice life rank some is = absurd (omega (arith, some))
takes_armed peer (suc calls) choice life rank some is = (rank, is, refl, refl)

stage_armed : (life : Life) (stop : Armed) (stage : Stage) → StageStands life stage
    → StageStands (armed_with stop life) stage
stage_armed life stop (Running stations connections) stands = (stands.0, stands.1, stands.2)
stage_armed life stop (Stopped peers intake) stands = (stands.0, stands.1, stands.2, stands.3)

tied_armed : (life : Life) (stop : Armed) → AreTied life → AreTied (armed_with stop life)
tied_armed life stop tied = record {
  rising = tied.rising;
  made = tied.made;
  each = tied.each;
  held = λ rank id number peer here. (
    (λ is. let has = (tied.held rank id number peer here).0 is in
        record { conn = has.conn; here = has.here; its = has.its; has = has.has }),
    (λ (has : HasNumber (armed_with stop life) rank peer id number).
        (tied.held rank id number peer here).1
        (record { conn = has.conn; here = has.here; its = has.its; has = has.has })),
  );
  none = tied.none;
}

pub armed_world : (old new : World) (life : Life) (peer : Option (List ℕ)) (call : ℕ) (choice : Choice)
    (rank : Option ℕ) → 0 < call
    → WorldStands old life → IsTapeOf life.past peer rank → new.stage ≡ old.stage
    → option_map armed_as new.armed ≡ Some (record { rank = rank; call = call; choice = choice })
    → new.connected ≡ old.connected → new.now ≡ old.now
    → Made (TakesStop peer call choice) life [] new
armed_world old new life peer call choice rank some stands is stage armed connected now = record {
  later = armed_with (record { rank = rank; call = call; choice = choice }) life;
  makes = takes_armed peer call choice life rank some is;
  stands = record {
    stage = subst (λ (s : Stage).
        StageStands (armed_with (record { rank = rank; call = call; choice = choice }) life) s) (sym stage)
        (stage_armed life (record { rank = rank; call = call; choice = choice }) old.stage stands.stage);
    armed = armed;
    connected = connected ∙ stands.connected;
    now = now ∙ stands.now;
    sound = record {
      past = stands.sound.past;
      conns =
          tied_armed life (record { rank = rank; call = call; choice = choice }) stands.sound.conns;
    };
  };
}

-- a stop at call 0 is a stop at rest
pub rested : (peer : Option (List ℕ)) (call : ℕ) (choice : Choice) (life : Life) (outputs : List Output) (world : World)
    → call ≡ 0
    → Made TakesRest life outputs world → Made (TakesStop peer call choice) life outputs world
rested peer call choice life outputs world is made =
    subst (λ (n : ℕ). Made (TakesStop peer n choice) life outputs world) (sym is)
    (record { later = made.later; makes = made.makes; stands = made.stands })

pub rested_not : (peer : Option (List ℕ)) (call : ℕ) (life : Life) (fault : Fault) (world : World) → call ≡ 0
    → Refused RefusesRest life fault world → Refused (RefusesStop peer call) life fault world
rested_not peer call life fault world is refused =
    subst (λ (n : ℕ). Refused (RefusesStop peer n) life fault world) (sym is)
    (record { later = refused.later; refuses = refused.refuses; stands = refused.stands })
