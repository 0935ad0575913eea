-- How a funnel line is read: what it contains, and the events at the peers that it names.
use Rattle.std.proofs.Common.{◌≡◌, ◌≢◌, ◌↔◌, ◌⊎◌, ℕ, ◌+◌, ◌^◌, ◌<◌, ◌≤◌, List, [], ◌∷◌, map, Err, refl, sym, ap, ◌∙◌}
use Rattle.std.proofs.Common.{subst, inl, inr, arith}
use Rattle.std.specs.Prelude.{IsErrOf}
use Rattle.std.specs.List.{AllZip}
use Rattle.disk_model.specs.declared.Disk.{Ghosts}
use Rattle.funnel.specs.Line.{IsFunnelLine, HasFault}
use Rattle.funnel.specs.declared.line.LineFault.{LineFault}
use Rattle.funnel.specs.declared.line.LineFault.TheVariants.{NoToken, BadToken, BadId, TooLong}
use Rattle.funnel.specs.declared.line.LineFault.TheVariants.{NoMemory as NoLineMemory}
use Rattle.recovery.specs.declared.tape.Tape.{Tape}
use Rattle.std.specs.Global.{Vec}
use Rattle.world_core.specs.Past.{Past, with_last}
use Rattle.world_core.specs.Events.AllDo.{Start}
use Rattle.world_core.specs.Steps.{Good, IsPlan, IsReading, NotGood, Reading, line_events, owed_there, reading_plan}
use Rattle.world_core.specs.Output.{Bad as SaidBad, Owed as SaidOwed, view_of}
use Rattle.world_core.specs.Stands.{PeerStands, Stands, TapeStands}
use Rattle.world_core.specs.Stepped.{Failed, OwedLine, TookTapes, TookNot}
use Rattle.world_core.specs.declared.fault.Fault.{Fault}
use Rattle.world_core.specs.declared.fault.Fault.TheVariants.{NoMemory}
use Rattle.world_core.specs.declared.stations.Stations.{Stations}
use Rattle.world_core.specs.declared.step.Step.TheVariants.{Line}
use Rattle.world_core.specs.declared.output.OwedAt.{OwedAt}
use Rattle.world_core.specs.declared.output.Output.{Output}
use Rattle.world_core.specs.declared.output.Output.TheVariants.{Bad as OutputBad, Owed as OutputOwed}
use Rattle.world_core.proofs.SoundOverEvents.{sound_last}
use Rattle.world_core.proofs.TapeSteps.{barred_by, failed_by}

-- the fault that was reported is a fault of the line
pub reads_bad : (text : List ℕ) (fault : LineFault) → {T : Type 0}
    → (IsErrOf {T = T} (Err fault) TooLong ↔ HasFault text TooLong)
    → (IsErrOf {T = T} (Err fault) NoToken ↔ HasFault text NoToken)
    → (IsErrOf {T = T} (Err fault) BadToken ↔ HasFault text BadToken)
    → (IsErrOf {T = T} (Err fault) BadId ↔ HasFault text BadId) → HasFault text fault
reads_bad text TooLong long none token id = long.0 refl
reads_bad text NoToken long none token id = none.0 refl
reads_bad text BadToken long none token id = token.0 refl
reads_bad text BadId long none token id = id.0 refl
reads_bad text NoLineMemory long none token id = tt

module _ {D : Type 0} {g : Ghosts D} where
  -- the last line has this number, and all else is as it was
  pub record WithLast (old new : Stations D g) (number : ℕ) : Type 0 where
    pub peers : new.peers ≡ old.peers
    pub intake : new.intake ≡ old.intake
    pub last : new.last ≡ number
    pub begun : new.begun ≡ old.begun

  stands_last : (old new : Stations D g) (past : Past) (number n : ℕ) → Stands old past → WithLast old new number
      → number ≡ n → past.last ≤ n
      → n < 2 ^ 64 → Stands new (with_last past n)
  stands_last old new past number n stands same is above fits = record {
    peers = subst (λ v. AllZip PeerStands past.peers v.items) (sym same.peers) stands.peers;
    intake = subst (λ (t : Tape D g). TapeStands past.intake t) (sym same.intake) stands.intake;
    last = same.last ∙ is;
    begun = same.begun ∙ stands.begun;
    sound = sound_last past n stands.sound above fits;
  }

  module _ (text : List ℕ) (line : Vec ℕ) (is : line.items ≡ text) (past : Past) (first : Stations D g) (number : ℕ)
      (stands : Stands first past) (numbered_so : number ≡ first.last + 1) (fits : number < 2 ^ 64) where
    next : number ≡ past.last + 1
    next = numbered_so ∙ ap (λ (n : ℕ). n + 1) stands.last

    line_plan : (reading : Reading) → IsReading text reading → IsPlan (Line line) past (reading_plan reading past)
    line_plan reading reads =
        (omega (arith, next, fits), (reading, subst (λ (t : List ℕ). IsReading t reading) (sym is) reads, refl))

    pub line_good : (token id : List ℕ) (named : List (List ℕ)) (peers : Vec OwedAt) (outputs : List Output)
        (old new : Stations D g)
        → IsFunnelLine text token id named → OwedLine past token id named peers.items old → old.last ≡ first.last
        → WithLast old new number
        → outputs ≡ OutputOwed number peers ∷ [] → TookTapes (Line line) past outputs new
    line_good token id named peers outputs old new reads owed kept same reports =
        let still : owed.did.later.last ≡ past.last = sym owed.did.stands.last ∙ kept ∙ stands.last in
        record {
          later = with_last owed.did.later (past.last + 1);
          takes = record {
            plan = reading_plan (Good token id named) past;
            is_plan = line_plan (Good token id named) reads;
            mid = owed.did.later;
            does = owed.did.does;
            outputs_are = ap (map view_of) reports ∙ ap (λ l. SaidOwed number l ∷ []) owed.outputs_are
                ∙ ap (λ (n : ℕ). SaidOwed n (owed_there (past.last + 1) named past.peers) ∷ []) next;
            later_is = refl;
          };
          stands = stands_last old new owed.did.later number (past.last + 1) owed.did.stands same next
              (omega (arith, still)) (omega (arith, next, fits));
        }

    pub line_bad : (fault : LineFault) (outputs : List Output) (new : Stations D g) → HasFault text fault
        → fault ≢ NoLineMemory → WithLast first new number
        → outputs ≡ OutputBad number fault ∷ [] → TookTapes (Line line) past outputs new
    line_bad fault outputs new has other same reports = record {
      later = with_last past (past.last + 1);
      takes = record {
        plan = reading_plan (NotGood fault) past;
        is_plan = line_plan (NotGood fault) (has, other);
        mid = past;
        does = Start;
        outputs_are = ap (map view_of) reports ∙ ap (λ (n : ℕ). SaidBad n fault ∷ []) next;
        later_is = refl;
      };
      stands = stands_last first new past number (past.last + 1) stands same next (omega arith)
          (omega (arith, next, fits));
    }

    pub line_memory : (fault : Fault) (new : Stations D g) → fault ≡ NoMemory → Stands new past
        → TookNot (Line line) past fault new
    line_memory fault new memory stands =
        barred_by (Line line) past fault new (inr (memory, omega (arith, next, fits))) stands

    pub line_failed : (token id : List ℕ) (named : List (List ℕ)) (fault : Fault) (new : Stations D g)
        → IsFunnelLine text token id named
        → ((fault ≡ NoMemory) × Stands new past) ⊎ Failed past (line_events token id named past) fault new
        → TookNot (Line line) past fault new
    line_failed token id named fault new reads (inl memory) = line_memory fault new memory.0 memory.1
    line_failed token id named fault new reads (inr failed) =
        failed_by (Line line) past (reading_plan (Good token id named) past) fault new
        (line_plan (Good token id named) reads) failed
