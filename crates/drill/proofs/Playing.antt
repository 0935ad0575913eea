-- What a run of a script's steps outputs is what the drill prints.
use Rattle.std.proofs.Common.{◌≡◌, ◌≢◌, ◌+◌, ◌<◌, ◌++◌, ℕ, List, [], length, suc, Some, inl, inr, refl}
use Rattle.std.proofs.Common.{sym, subst, ap, ◌∙◌, arith, Result, Ok, Err, IfOk}
use Rattle.std.specs.Prelude.{flat_map, slice_index_or}
use Rattle.std.proofs.lemmas.Option.{slice_get-get_or, slice_get_within}
use Rattle.ledger_core.specs.declared.ledger.Totals.{Totals}
use Rattle.drill_script.specs.Script.{IsScript}
use Rattle.drill_script.specs.declared.read.Script.{Script}
use Rattle.world_core.specs.Given.{BeginsFromDisks, RefusesDisks}
use Rattle.world_core.specs.Stands.{Ends, Reports, HadNoRoom, WasRefused as RunRefused}
use Rattle.world_core.specs.Output.{View, views_by}
use Rattle.world_core.specs.declared.fault.Fault.{Fault}
use Rattle.world_core.specs.declared.fault.Fault.TheVariants.{NoPeer, NoConnection, Stopped, Running, NotNeeded, Tape}
use Rattle.world_core.specs.declared.fault.Fault.TheVariants.{CountFull}
use Rattle.world_core.specs.declared.fault.Fault.TheVariants.{NoMemory, NotFlushed}
use Rattle.world_core.specs.declared.fault.TapesFault.{TapesFault}
use Rattle.world_core.specs.declared.fault.TapesFault.TheVariants.{Tape as TapeOf, NoMemory as NoTapesMemory}
use Rattle.world_core.specs.declared.fault.WorldFault.{WorldFault}
use Rattle.world_core.specs.declared.step.Step.{Step}
use Rattle.world_core.specs.declared.world.World.{World}
use Rattle.drill.specs.Drill.{IsBegunBy, IsDrill, IsPlayed, WasRefused, WasTaken, ending_without, line_of}
use Rattle.drill.specs.Printed.{end_text, refused_text, steps_text, totals_text}
use Rattle.drill.specs.declared.ending.Ending.{Ending}
use Rattle.drill.specs.declared.ending.Ending.TheVariants.{Done, Refused, NoMemory as NoMemoryLeft}
use Rattle.drill.specs.declared.ending.Why.TheVariants.{Step as ByStep}
use Rattle.drill.specs.declared.play.Played.{Played}

begun_of : (script : Script) (world : World) → (b : BeginsFromDisks script.peers.items script.intake world) →
    IsBegunBy script b.life
begun_of script world b = record { ordered = b.ordered; permuted = b.permuted; rises = b.rises; fresh = b.fresh }

-- all steps were taken
pub taken_played : (script : Script) (world later : World) (lines : List (List View)) (counts : List (List ℕ × Totals))
    (printed : List ℕ) (ending : Ending) → BeginsFromDisks script.peers.items script.intake world →
    Reports script.steps.items world lines counts later →
    printed ≡ steps_text lines ++ (flat_map totals_text counts ++ end_text (length script.steps.items)) →
    ending ≡ Done → IsPlayed script printed ending
taken_played script world later lines counts printed ending b reports prints ends =
    let outputs = reports b.life b.stands in
    let taken : WasTaken script printed = record {
      begun = b.life;
      begins = begun_of script world b;
      lines = lines;
      later = outputs.0.later;
      runs = outputs.0.runs;
      prints = prints
          ∙ ap (λ (c : List (List ℕ × Totals)).
          steps_text lines ++ (flat_map totals_text c ++ end_text (length script.steps.items)))
          outputs.1;
    } in
    subst (IsPlayed script printed) (sym ends) taken

-- how a drill ends that fails
abbrev pub EndsBy : (line : ℕ) → Fault → Ending → Type 0
EndsBy line kind ending =
    (kind ≡ NoMemory → ending ≡ NoMemoryLeft)
    × (kind ≢ NoMemory → ending ≡ Refused (record { line = line; why = ByStep kind }))

refused_played : (script : Script) (printed : List ℕ) (line : ℕ) (kind : Fault) (ending : Ending) → kind ≢ NoMemory →
    WasRefused script printed line kind → EndsBy line kind ending → IsPlayed script printed ending
refused_played script printed line kind ending other fails ends =
    subst (IsPlayed script printed) (sym (ends.1 other)) (other, fails)

fails_played : (script : Script) (printed : List ℕ) (line : ℕ) (kind : Fault) (ending : Ending) →
    WasRefused script printed line kind → EndsBy line kind ending → IsPlayed script printed ending
fails_played script printed line NoMemory ending fails ends =
    subst (IsPlayed script printed) (sym (ends.0 refl)) (inl (line, fails))
fails_played script printed line NoPeer ending fails ends =
    refused_played script printed line NoPeer ending (λ e. cc) fails ends
fails_played script printed line NoConnection ending fails ends =
    refused_played script printed line NoConnection ending (λ e. cc) fails ends
fails_played script printed line Stopped ending fails ends =
    refused_played script printed line Stopped ending (λ e. cc) fails ends
fails_played script printed line Running ending fails ends =
    refused_played script printed line Running ending (λ e. cc) fails ends
fails_played script printed line NotNeeded ending fails ends =
    refused_played script printed line NotNeeded ending (λ e. cc) fails ends
fails_played script printed line (Tape fault) ending fails ends =
    refused_played script printed line (Tape fault) ending (λ e. cc) fails ends
fails_played script printed line CountFull ending fails ends =
    refused_played script printed line CountFull ending (λ e. cc) fails ends
fails_played script printed line NotFlushed ending fails ends =
    refused_played script printed line NotFlushed ending (λ e. cc) fails ends

-- no world was made
pub unmade_played : (script : Script) (fault : TapesFault) (printed : List ℕ) (ending : Ending) →
    RefusesDisks script.peers.items script.intake fault → printed ≡ [] → ending ≡ ending_without fault →
    IsPlayed script printed ending
unmade_played script (TapeOf peer fault) printed ending refused none ends =
    subst (IsPlayed script printed) (sym ends) (none, refused)
unmade_played script NoTapesMemory printed ending refused none ends =
    subst (IsPlayed script printed) (sym ends) (inr (inr none))

-- a step was refused
module _ (script : Script) (world later : World) (fault : WorldFault) (printed : List ℕ)
    (b : BeginsFromDisks script.peers.items script.intake world)
    (placed : length script.lines.items ≡ length script.steps.items)
    (prints : printed ≡ steps_text (views_by fault.lines.items) ++ refused_text fault.step fault.kind) where
  line_told : (index : ℕ) → fault.step ≡ index + 1 →
      line_of script.lines.items fault.step ≡ slice_index_or script.lines.items index 0
  line_told index is = let next : fault.step ≡ suc index = omega (arith, is) in
      ap (λ (s : ℕ). line_of script.lines.items s) next

  step_refused : (refused : RunRefused script.steps.items b.life fault later) →
      WasRefused script printed (line_of script.lines.items fault.step) fault.kind
  step_refused refused =
      let within : refused.index < length script.lines.items =
      subst (λ (n : ℕ). refused.index < n) (sym placed)
      (slice_get_within script.steps.items refused.index refused.step refused.here) in
      record {
        begun = b.life;
        begins = begun_of script world b;
        index = refused.index;
        step = refused.step;
        here = refused.here;
        said = slice_get-get_or script.lines.items refused.index 0 within
            ∙ ap Some (sym (line_told refused.index refused.numbered));
        lines = views_by fault.lines.items;
        mid = refused.mid;
        runs = refused.runs;
        later = refused.later;
        refuses = refused.refuses;
        safe = refused.safe;
        sound = refused.stands.sound;
        prints = prints
            ∙ ap (λ (s : ℕ). steps_text (views_by fault.lines.items) ++ refused_text s fault.kind) refused.numbered;
      }

  no_room : HadNoRoom b.life fault later → (ending : Ending) →
      EndsBy (line_of script.lines.items fault.step) fault.kind ending → IsPlayed script printed ending
  no_room room ending ends =
      let text : printed ≡ refused_text 1 NoMemory =
      prints ∙ ap (λ l. steps_text (views_by l) ++ refused_text fault.step fault.kind) room.lines
      ∙ ap (λ (s : ℕ). refused_text s fault.kind) room.numbered ∙ ap (refused_text 1) room.kind in
      subst (IsPlayed script printed) (sym (ends.0 room.kind)) (inr (inl text))

  pub stopped_played : Ends script.steps.items world fault later → (ending : Ending) →
      EndsBy (line_of script.lines.items fault.step) fault.kind ending → IsPlayed script printed ending
  stopped_played ran ending ends = elim (ran b.life b.stands) [
    | inl refused ↦
        fails_played script printed (line_of script.lines.items fault.step) fault.kind ending
        (step_refused refused) ends
    | inr room ↦ no_room room ending ends
  ]

-- what is printed for a step that was refused
pub stopped_told : {E : Type 0} (script : Script) (world later : World) (fault : WorldFault) (answer : Result Played E)
    (steps : List Step) (lines : List ℕ) → steps ≡ script.steps.items → lines ≡ script.lines.items →
    BeginsFromDisks script.peers.items script.intake world → Ends steps world fault later →
    length script.lines.items ≡ length script.steps.items →
    IfOk answer (λ (p : Played). p.printed.items
    ≡ steps_text (views_by fault.lines.items) ++ refused_text fault.step fault.kind) →
    (fault.kind ≡ NoMemory → IfOk answer (λ (p : Played). p.ending ≡ NoMemoryLeft)) →
    (fault.kind ≢ NoMemory → IfOk answer (λ (p : Played). p.ending
    ≡ Refused (record { line = line_of lines fault.step; why = ByStep fault.kind }))) →
    IfOk answer (λ (p : Played). IsPlayed script p.printed.items p.ending)
stopped_told script world later fault (Err e) steps lines s l b ran placed prints memory refused = tt
stopped_told script world later fault (Ok p) steps lines s l b ran placed prints memory refused =
    stopped_played script world later fault p.printed.items b placed prints
    (subst (λ (xs : List Step). Ends xs world fault later) s ran) p.ending (
      memory,
      λ other. refused other
          ∙ ap (λ (xs : List ℕ). Refused (record { line = line_of xs fault.step; why = ByStep fault.kind })) l,
    )

-- and so is what is printed for a text
pub text_told : {E : Type 0} (text : List ℕ) (script : Script) (answer : Result Played E) → IsScript text script →
    IfOk answer (λ (p : Played). IsPlayed script p.printed.items p.ending) →
    IfOk answer (λ (p : Played). IsDrill text p.printed.items p.ending)
text_told text script (Err e) is played = tt
text_told text script (Ok p) is played = inl (script, is, played)
