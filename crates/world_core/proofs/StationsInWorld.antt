-- What stations and connections do is what the world that has them does.
use Rattle.std.proofs.Common.{◌≡◌, ℕ, true, false, List, [], ◌++◌, length, map, Vec, sym, ap, ◌∙◌, subst, inl, inr}
use Rattle.std.specs.Prelude.{option_map}
use Rattle.std.specs.declared.alloc.Global.{Global}
use Rattle.disk_model.specs.declared.Disk.{Ghosts}
use Rattle.world_core.specs.Past.{Life}
use Rattle.world_core.specs.Exchange.{RefusesTick, TakesTick, TicksNot, TicksSome, at_moment}
use Rattle.world_core.specs.Joined.{AreRunning, MadeOn, RefusedOn}
use Rattle.world_core.specs.Runs.{OnWorld, RefusesWorld}
use Rattle.world_core.specs.Sound.{HasNumber}
use Rattle.world_core.specs.Stands.{StageStands, WorldStands, armed_as}
use Rattle.world_core.specs.Output.{View, view_of}
use Rattle.world_core.specs.Turn.{Made, Refused}
use Rattle.world_core.specs.declared.connection.Connection.{Connection}
use Rattle.world_core.specs.declared.fault.Fault.{Fault}
use Rattle.world_core.specs.declared.stations.Stations.{Stations}
use Rattle.world_core.specs.declared.output.Output.{Output}
use Rattle.world_core.specs.declared.world.Stage.{Stage}
use Rattle.world_core.specs.declared.world.Stage.TheVariants.{Running}
use Rattle.world_core.specs.declared.world.World.{World}

-- the world runs
pub running_of : (world : World) (life : Life) (stations : _) (conns : Vec Connection Global)
    → world.stage ≡ Running stations conns
    → WorldStands world life → AreRunning life stations conns.items
running_of world life stations conns is stands =
    let here : StageStands life (Running stations conns) = subst (λ (s : Stage). StageStands life s) is stands.stage in
    record { running = here.0; stands = here.1; conns = here.2; tied = stands.sound.conns }

pub made_world : (T : Life → List View → Life → Type 0) (connected : ℕ) (life : Life) (new : World) (stations : _)
    (conns : Vec Connection Global)
    (before outputs : List Output) → life.running ≡ true → before ≡ [] → new.stage ≡ Running stations conns
    → option_map armed_as new.armed ≡ life.armed → new.connected ≡ connected → new.now ≡ life.now
    → MadeOn T connected life before outputs stations conns.items → Made (OnWorld T) life outputs new
made_world T connected life new stations conns before outputs running none stage armed same now made = record {
  later = made.later;
  makes = (
    running,
    subst (λ (said : List View). T life said made.later)
        (sym (made.outputs_are ∙ ap (λ (l : List Output). map view_of l ++ made.said) none)) made.makes,
  );
  stands = record {
    stage = subst (λ (s : Stage). StageStands made.later s) (sym stage) (
      made.stand.running,
      made.stand.stands,
      made.stand.conns,
    );
    armed = armed ∙ sym made.armed;
    connected = same ∙ sym made.connected_is;
    now = now ∙ sym made.now;
    sound = record { past = made.stand.stands.sound; conns = made.stand.tied };
  };
}

pub refused_world : (R : Life → Fault → Life → Type 0) (life : Life) (new : World) (fault : Fault) (stations : _)
    (conns : Vec Connection Global)
    → life.running ≡ true → new.stage ≡ Running stations conns
    → option_map armed_as new.armed ≡ life.armed → new.connected ≡ life.connected → new.now ≡ life.now
    → RefusedOn R life fault stations conns.items → Refused (RefusesWorld R) life fault new
refused_world R life new fault stations conns running stage armed same now refused = record {
  later = refused.later;
  refuses = inr (running, refused.refuses);
  stands = record {
    stage = subst (λ (s : Stage). StageStands refused.later s) (sym stage) (
      refused.stand.running,
      refused.stand.stands,
      refused.stand.conns,
    );
    armed = armed ∙ sym refused.armed;
    connected = same ∙ sym refused.connected_is;
    now = now ∙ sym refused.now;
    sound = record { past = refused.stand.stands.sound; conns = refused.stand.tied };
  };
}

-- the same of a fault that is passed on
pub refused_as : (R : Life → Fault → Life → Type 0) (life : Life) (new : World) (refusal fault : Fault) (stations : _)
    (conns : Vec Connection Global)
    → life.running ≡ true → new.stage ≡ Running stations conns → option_map armed_as new.armed ≡ life.armed
    → new.connected ≡ life.connected
    → new.now ≡ life.now → refusal ≡ fault → RefusedOn R life fault stations conns.items
    → Refused (RefusesWorld R) life refusal new
refused_as R life new refusal fault stations conns running stage armed same now is refused =
    subst (λ (f : Fault). Refused (RefusesWorld R) life f new) (sym is)
    (refused_world R life new fault stations conns running stage armed same now refused)

-- ---- a tick

-- they run at the new moment as before
pub running_at : {D : Type 0} {g : Ghosts D} (now : ℕ) (life : Life) (stations : Stations D g) (cs : List Connection)
    → AreRunning life stations cs
    → AreRunning (at_moment now life) stations cs
running_at now life stations cs running = record {
  running = running.running;
  stands = running.stands;
  conns = running.conns;
  tied = record {
    rising = running.tied.rising;
    made = running.tied.made;
    each = running.tied.each;
    held = λ rank id number peer here. (
      λ is. let has = (running.tied.held rank id number peer here).0 is in
          record { conn = has.conn; here = has.here; its = has.its; has = has.has },
      λ (has : HasNumber (at_moment now life) rank peer id number).
          (running.tied.held rank id number peer here).1
          (record { conn = has.conn; here = has.here; its = has.its; has = has.has }),
    );
    none = running.tied.none;
  };
}

pub ticked_world : (now : ℕ) (life : Life) (outputs : List Output) (new : World)
    → Made (OnWorld (TicksSome (length life.conns))) (at_moment now life) outputs new
    → Made (OnWorld (TakesTick now)) life outputs new
ticked_world now life outputs new made = record { later = made.later; makes = made.makes; stands = made.stands }

pub unticked_world : (now : ℕ) (life : Life) (fault : Fault) (new : World) → life.running ≡ true
    → Refused (RefusesWorld TicksNot) (at_moment now life) fault new
    → Refused (RefusesWorld (RefusesTick now)) life fault new
unticked_world now life fault new running refused =
    record { later = refused.later; refuses = by refused.refuses; stands = refused.stands }
  where
    by : RefusesWorld TicksNot (at_moment now life) fault refused.later
        → RefusesWorld (RefusesTick now) life fault refused.later
    by (inl stopped) = let never : true ≡ false = sym running ∙ stopped.1 in cc
    by (inr not) = inr (not.0, not.1)
