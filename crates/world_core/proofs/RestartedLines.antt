-- A world that has stopped runs only after a restart, and then its lines go on from the mark of the intake's tape.
use Rattle.std.proofs.Common.{◌≡◌, ◌⊎◌, ℕ, zero, suc, Bool, true, false, Option, List, map, length, refl, sym, ap}
use Rattle.std.proofs.Common.{◌∙◌, subst, inl, inr}
use Rattle.disk_model.specs.declared.choice.Choice.{Choice}
use Rattle.sections.specs.Tapes.{mark_at}
use Rattle.world_core.specs.Past.{Life, Past}
use Rattle.world_core.specs.Events.{AllDo, Opens, OpensIntake, each_rank}
use Rattle.world_core.specs.Halts.{RefusesStop, TakesStop, restart_events}
use Rattle.world_core.specs.Output.{View, mark_view}
use Rattle.world_core.specs.Runs.{Does, Refuses, RefusesStep, RefusesTapes, RefusesWorld, Takes}
use Rattle.world_core.specs.Steps.{Plan, TakesPlan, planned}
use Rattle.world_core.specs.declared.fault.Fault.{Fault}
use Rattle.world_core.specs.declared.step.Step.{Step}
use Rattle.world_core.specs.declared.step.Step.TheVariants.{Article, Break, Bytes, Connect, Hand, Restart, Stop, Tick}
use Rattle.world_core.proofs.PlansStaySound.{last_done}

pub either : (b : Bool) → (b ≡ true) ⊎ (b ≡ false)
either true = inl refl
either false = inr refl

abbrev pub Resumes : Life → Type 0
Resumes later = later.running ≡ true → later.past.last ≡ mark_at later.past.intake

stays : (life later : Life) → life.running ≡ false → later.running ≡ life.running → Resumes later
stays life later stopped same runs = absurd (let no : false ≡ true = sym stopped ∙ (sym same ∙ runs) in cc)

restart_done : (life : Life) (outputs : List View) (past : Past) → TakesPlan Restart life.past outputs past
    → past.last ≡ mark_at past.intake
restart_done life outputs past takes =
    let plan = planned life.past (restart_events life.past) (λ (later : Past). map mark_view later.peers) in
    let does = subst (λ (p : Plan). AllDo p.begun p.events takes.mid × (past ≡ p.ends takes.mid)) takes.is_plan
    (takes.does, takes.later_is) in
    let last = last_done life.past takes.mid plan.events (each_rank Opens (length life.past.peers)) OpensIntake does.0
    refl in
    ap (λ (p : Past). p.last) does.1
    ∙ (ap (λ (p : Past). p.last) last.last.changed
    ∙ sym (ap (λ (p : Past). mark_at p.intake) does.1 ∙ ap (λ (p : Past). mark_at p.intake) last.last.changed))

stop_resumes : (peer : Option (List ℕ)) (call : ℕ) (choice : Choice) (life : Life) (outputs : List View)
    (later : Life) → life.running ≡ false → TakesStop peer call choice life outputs later → Resumes later
stop_resumes peer zero choice life outputs later stopped (runs, said, changed) =
    stays life later stopped (absurd (let no : false ≡ true = sym stopped ∙ runs in cc))
stop_resumes peer (suc calls) choice life outputs later stopped (rank, is, said, changed) =
    stays life later stopped (ap (λ (l : Life). l.running) changed)

does_resume : (step : Step) (life : Life) (outputs : List View) (later : Life) → life.running ≡ false
    → Does step life outputs later → Resumes later
does_resume Restart life outputs later stopped (runs, (past, takes, changed)) =
    λ on. subst (λ (l : Life). l.past.last ≡ mark_at l.past.intake) (sym changed)
    (restart_done life outputs past takes)
does_resume (Stop peer call choice) life outputs later stopped t =
    stop_resumes peer call choice life outputs later stopped t
does_resume step life outputs later stopped (runs, t) =
    stays life later stopped (absurd (let no : false ≡ true = sym stopped ∙ runs in cc))

pub restarted : (step : Step) (life : Life) (outputs : List View) (later : Life) → life.running ≡ false
    → Takes step life outputs later → Resumes later
restarted step life outputs later stopped (inl does) = does_resume step life outputs later stopped does
restarted step life outputs later stopped (inr strikes) =
    stays life later stopped (ap (λ (l : Life). l.running) strikes.changed ∙ sym stopped)

world_stays : (R : Type 0) (life : Life) (fault : Fault) (later : Life) → life.running ≡ false
    → RefusesWorld (λ (l : Life) (f : Fault) (n : Life). R) life fault later → later.running ≡ false
world_stays R life fault later stopped (inl none) = ap (λ (l : Life). l.running) none.2 ∙ stopped
world_stays R life fault later stopped (inr (runs, t)) = absurd (let no : false ≡ true = sym stopped ∙ runs in cc)

tapes_stay : (step : Step) (life : Life) (fault : Fault) (later : Life) → life.running ≡ false
    → RefusesTapes step life fault later → later.running ≡ false
tapes_stay step life fault later stopped (inl none) = ap (λ (l : Life). l.running) none.2 ∙ stopped
tapes_stay step life fault later stopped (inr (runs, (under_way, refuses, inl (on, changed)))) =
    ap (λ (l : Life). l.running) changed ∙ stopped
tapes_stay step life fault later stopped (inr (runs, (under_way, refuses, inr (off, changed)))) =
    ap (λ (l : Life). l.running) changed ∙ stopped

stop_stays : (peer : Option (List ℕ)) (call : ℕ) (life : Life) (fault : Fault) (later : Life) → life.running ≡ false
    → RefusesStop peer call life fault later → later.running ≡ false
stop_stays peer zero life fault later stopped (why, same) = ap (λ (l : Life). l.running) same ∙ stopped
stop_stays peer (suc calls) life fault later stopped (none, is, same) = ap (λ (l : Life). l.running) same ∙ stopped

refuses_stay : (step : Step) (life : Life) (fault : Fault) (later : Life) → life.running ≡ false
    → Refuses step life fault later → later.running ≡ false
refuses_stay (Connect name) life fault later stopped r = world_stays _ life fault later stopped r
refuses_stay (Hand id) life fault later stopped r = world_stays _ life fault later stopped r
refuses_stay (Bytes id octets) life fault later stopped r = world_stays _ life fault later stopped r
refuses_stay (Article id found) life fault later stopped r = world_stays _ life fault later stopped r
refuses_stay (Break id) life fault later stopped r = world_stays _ life fault later stopped r
refuses_stay (Tick now) life fault later stopped r = world_stays _ life fault later stopped r
refuses_stay (Stop peer call choice) life fault later stopped r = stop_stays peer call life fault later stopped r
refuses_stay step life fault later stopped r = tapes_stay step life fault later stopped r

pub stays_stopped : (step : Step) (life : Life) (fault : Fault) (later : Life) → life.running ≡ false
    → RefusesStep step life fault later → later.running ≡ false
stays_stopped step life fault later stopped (inl refuses) = refuses_stay step life fault later stopped refuses
stays_stopped step life fault later stopped (inr strikes) = ap (λ (l : Life). l.running) strikes.changed
