-- What the marks do at a line that is good, and at one that is not.
use Rattle.std.proofs.Common.{◌≡◌, ◌≢◌, ℕ, List, Result, Ok, Err, OnOk, IfErr, refl, sym, subst, arith}
use Rattle.std.specs.Prelude.{take}
use Rattle.funnel.specs.declared.line.LineFault.{LineFault}
use Rattle.funnel.specs.declared.line.LineFault.TheVariants.{NoMemory}
use Rattle.funnel.specs.Line.{IsFunnelLine, HasFault}
use Rattle.funnel.specs.LineLaws.{line_once, good_faultless}
use Rattle.flusher.specs.declared.fault.PostFault.{PostFault}
use Rattle.flusher.specs.Faults.{IsLineFault, IsNamedBy}
use Rattle.flusher.specs.Marks.{IsRaised, IsRaisedBy, RefusesGood, RefusesLine}
use Rattle.flusher.proofs.Refused.{line_fault_of}

pub raised_good : (number : ℕ) (line token id : List ℕ) (named names : List (List ℕ)) (old new : List ℕ)
    → IsFunnelLine line token id named
    → IsRaisedBy number named names old new → IsRaised number line names old new
raised_good number line token id named names old new g raised = (
  (λ token' id' named' g'. subst (λ (p : List (List ℕ)). IsRaisedBy number p names old new)
      (line_once line token id token' id' named named' g g').2 raised),
  (λ no. absurd (no token id named g)),
)

pub raised_bad : (number : ℕ) (line : List ℕ) (fault : LineFault) (names : List (List ℕ)) (old : List ℕ)
    → fault ≢ NoMemory → HasFault line fault → IsRaised number line names old old
raised_bad number line fault names old own has = (
  (λ token id named g. absurd (good_faultless line token id named fault g record { has = has; own = own })),
  λ no. refl,
)

-- a good line is refused at a peer that it names
pub refused_good : (number : ℕ) (line token id : List ℕ) (named names : List (List ℕ)) (old new : List ℕ)
    (fault : PostFault) → IsFunnelLine line token id named → RefusesGood number named names fault old new
    → RefusesLine number line names fault old new
refused_good number line token id named names old new fault good r =
    let Asked : ℕ → Type 0 = λ at. (at ≡ r.reached) × IsNamedBy line names at in
    let here : IsNamedBy line names r.reached =
    record { token = token; id = id; named = named; good = good; within = r.within; names_it = r.names_it } in
    record {
      reached = r.reached;
      raised = raised_good number line token id named (take r.reached names) old new good r.raised;
      behind = r.behind;
      kinds =
          line_fault_of (λ at. at ≡ r.reached) Asked fault
          (λ at same. (same, subst (λ (p : ℕ). IsNamedBy line names p) (sym same) here)) r.kinds;
    }

-- a line is refused before any peer's station was asked
pub refused_unasked : (number : ℕ) (line : List ℕ) (names : List (List ℕ)) (old : List ℕ) (fault : PostFault)
    → IsLineFault (λ at. ⊥) fault → RefusesLine number line names fault old old
refused_unasked number line names old fault kinds = record {
  reached = 0;
  raised = ((λ token id named good peer below. absurd (omega (arith, below))), λ none. refl);
  behind = λ peer from. refl;
  kinds = line_fault_of (λ at. ⊥) (λ at. (at ≡ 0) × IsNamedBy line names at) fault (λ at none. absurd none) kinds;
}

pub on_err : {A E : Type 0} (P Q : E → Type 0) (r : Result A E) → ((e : E) → P e → Q e) → IfErr r P → IfErr r Q
on_err P Q (Ok v) f h = h
on_err P Q (Err e) f h = f e h

pub on_ok : {A E P Q : Type 0} (r : Result A E) → (P → Q) → OnOk r P → OnOk r Q
on_ok (Ok v) f h = f h
on_ok (Err e) f h = h
