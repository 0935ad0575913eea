-- A whole script, up to the point that its reader has reached.
use Rattle.std.proofs.Common.{◌≡◌, ◌≢◌, ◌+◌, ◌↔◌, ℕ, List, [], ◌∷◌, ◌++◌, length, Result, Ok, Err, refl, sym, subst}
use Rattle.std.proofs.Common.{ap, ◌∙◌, arith, length-append, suc}
use Rattle.std.proofs.lemmas.List.{length-map}
use Rattle.std.specs.Prelude.{IfErr, IfOk, IsErrAnd, IsOk}
use Rattle.funnel.specs.Line.{without_cr}
use Rattle.funnel.specs.Stream.{BeginsWithLine}
use Rattle.drill_script.specs.Draft.{Drafts, Gains, HasRead, IsRefusal}
use Rattle.drill_script.specs.Line.{SentenceView, Blank, Declares, Gives, Says, Takes}
use Rattle.drill_script.specs.Script.{BreaksAt, Holds, IsFirstBroken, IsScript, IsReportedOf, KeepsRules, NamesLine, Reads}
use Rattle.drill_script.specs.Script.{line_numbers_from, steps_of}
use Rattle.drill_script.specs.Step.{StepView, step_view}
use Rattle.drill_script.specs.declared.draft.Draft.{Draft}
use Rattle.drill_script.specs.declared.fault.BrokenRule.{BrokenRule}
use Rattle.drill_script.specs.declared.fault.BrokenRule.TheVariants.{NoStep, NoPeer, PeerBehindStep, DeclaredTwice, NoTape}
use Rattle.drill_script.specs.declared.fault.BrokenRule.TheVariants.{TapeBehindStep, NoPeerOfTape, TapeTwice, Unended}
use Rattle.drill_script.specs.declared.fault.ScriptFault.{ScriptFault}
use Rattle.drill_script.specs.declared.fault.ScriptFault.TheVariants.{Broken, NoMemory}
use Rattle.drill_script.specs.declared.read.Script.{Script}
use Rattle.drill_script.proofs.Ends.{never, once}
use Rattle.drill_script.proofs.Growing.{reads_more}

abbrev pub Answer : Type 0
Answer = Result Script ScriptFault

-- an answer is Ok exactly for a text that keeps the rules
pub keeps_both : (text : List ℕ) (answer : Answer) → IfOk answer (IsScript text) → IfErr answer (IsReportedOf text) →
    answer ≢ Err NoMemory → IsOk answer ↔ KeepsRules text
keeps_both text (Ok script) good told had = (λ ok. (good.0, good.1), λ keeps. refl)
keeps_both text (Err (Broken line_number reason)) good told had =
    (λ never_ok. cc, λ keeps. absurd (never text line_number keeps (reason, told)))
keeps_both text (Err NoMemory) good told had = absurd (had refl)

ok_names_none : (script : Script) (line : ℕ) → NamesLine (Ok script) line → ⊥
ok_names_none script line named = let made : Answer = Ok script in let other : made ≡ Err (Broken line named.0) =
    named.1 in cc

same_line_number : (line_number line : ℕ) (reason other : BrokenRule) →
    (let one : Answer = Err (Broken line_number reason) in one ≡ Err (Broken line other)) → line_number ≡ line
same_line_number line_number line reason other e = cc

-- and it names exactly the first broken line
pub first_both : (text : List ℕ) (answer : Answer) → IfOk answer (IsScript text) → IfErr answer (IsReportedOf text) →
    (line : ℕ) → answer ≢ Err NoMemory →
    NamesLine answer line ↔ IsFirstBroken text line
first_both text (Ok script) good told line had =
    (λ named. absurd (ok_names_none script line named), λ broken. absurd (never text line (good.0, good.1) broken))
first_both text (Err (Broken line_number reason)) good told line had = (
  λ named. (reason, subst (λ (p : ℕ). BreaksAt text p reason) (same_line_number line_number line reason named.0 named.1) told),
  λ broken. (reason, ap (λ (p : ℕ). Err (Broken p reason)) (once text line_number line (reason, told) broken)),
)
first_both text (Err NoMemory) good told line had = absurd (had refl)

-- a refusal of the first line that is left is one of the text
pub refusal_told : (text rest line more : List ℕ) (line_number : ℕ) (sentences : List SentenceView) →
    Reads text sentences rest → line_number ≡ length sentences + 1 →
    BeginsWithLine rest line more → (fault : ScriptFault) → IsRefusal line_number (without_cr line) sentences fault →
    IsReportedOf text fault
refusal_told text rest line more line_number sentences reads at begins (Broken p NoStep) r =
    record { sentences = sentences; left = rest; reads = reads; at = r.0 ∙ at; why = (line, more, begins, r.1) }
refusal_told text rest line more line_number sentences reads at begins (Broken p NoPeer) r =
    record { sentences = sentences; left = rest; reads = reads; at = r.0 ∙ at; why = (line, more, begins, r.1) }
refusal_told text rest line more line_number sentences reads at begins (Broken p PeerBehindStep) r =
    record { sentences = sentences; left = rest; reads = reads; at = r.0 ∙ at; why = (line, more, begins, r.1) }
refusal_told text rest line more line_number sentences reads at begins (Broken p DeclaredTwice) r =
    record { sentences = sentences; left = rest; reads = reads; at = r.0 ∙ at; why = (line, more, begins, r.1) }
refusal_told text rest line more line_number sentences reads at begins (Broken p NoTape) r =
    record { sentences = sentences; left = rest; reads = reads; at = r.0 ∙ at; why = (line, more, begins, r.1) }
refusal_told text rest line more line_number sentences reads at begins (Broken p TapeBehindStep) r =
    record { sentences = sentences; left = rest; reads = reads; at = r.0 ∙ at; why = (line, more, begins, r.1) }
refusal_told text rest line more line_number sentences reads at begins (Broken p NoPeerOfTape) r =
    record { sentences = sentences; left = rest; reads = reads; at = r.0 ∙ at; why = (line, more, begins, r.1) }
refusal_told text rest line more line_number sentences reads at begins (Broken p TapeTwice) r =
    record { sentences = sentences; left = rest; reads = reads; at = r.0 ∙ at; why = (line, more, begins, r.1) }
refusal_told text rest line more line_number sentences reads at begins (Broken p Unended) r = absurd r.1
refusal_told text rest line more line_number sentences reads at begins NoMemory r = tt

longer : (before : List SentenceView) (said : SentenceView) (line_number : ℕ) → line_number ≡ length before + 1 →
    line_number + 1 ≡ length (before ++ said ∷ []) + 1
longer before said line_number at = simp length-append (omega (arith, at))

-- one more line is read
pub has_more : (text rest line more : List ℕ) (line_number : ℕ) (old new : Draft) → BeginsWithLine rest line more →
    HasRead text rest line_number old →
    ((before : List SentenceView) → Drafts old before → line_number ≡ length before + 1 →
    (said : SentenceView) × Says (without_cr line) said × Gains old new before said) →
    HasRead text more (line_number + 1) new
has_more text rest line more line_number old new begins has adds =
    let said = adds has.sentences has.drafts has.at in
    record {
      sentences = has.sentences ++ said.0 ∷ [];
      reads = reads_more text rest line more has.sentences said.0 has.reads begins said.1 said.2.may;
      at = longer has.sentences said.0 line_number has.at;
      drafts = said.2.drafts;
    }

-- an answer that is this fault
pub fault_reported : (text : List ℕ) (answer : Answer) (fault : ScriptFault) → IsErrAnd answer (λ f. f ≡ fault) →
    IsReportedOf text fault → IfErr answer (IsReportedOf text)
fault_reported text (Ok script) fault is told = tt
fault_reported text (Err f) fault is told = subst (IsReportedOf text) (sym is) told

pub fault_good : (text : List ℕ) (answer : Answer) (fault : ScriptFault) → IsErrAnd answer (λ f. f ≡ fault) →
    IfOk answer (IsScript text)
fault_good text (Ok script) fault is = absurd is
fault_good text (Err f) fault is = tt

-- nothing is left to read
pub read_whole : (text rest : List ℕ) (line_number : ℕ) (draft : Draft) (script : Script) →
    HasRead text rest line_number draft → length rest ≡ 0 →
    ((sentences : List SentenceView) → Drafts draft sentences → Holds script sentences) → IsScript text script
read_whole text [] line_number draft script has none holds = (has.sentences, has.reads, holds has.sentences has.drafts)
read_whole text (octet ∷ rest) line_number draft script has none holds = absurd (omega arith)

-- each step has a line number
counted : (line_number : ℕ) (sentences : List SentenceView) →
    length (line_numbers_from line_number sentences) ≡ length (steps_of sentences)
counted line_number [] = refl
counted line_number (Blank ∷ sentences) = counted (line_number + 1) sentences
counted line_number (Declares peer ∷ sentences) = counted (line_number + 1) sentences
counted line_number (Gives name octets ∷ sentences) = counted (line_number + 1) sentences
counted line_number (Takes step ∷ sentences) = ap suc (counted (line_number + 1) sentences)

pub placed : (text : List ℕ) (script : Script) → IsScript text script →
    length script.lines.items ≡ length script.steps.items
placed text script is =
    ap (λ (l : List ℕ). length l) is.2.lines ∙ counted 1 is.0
    ∙ ap (λ (l : List StepView). length l) (sym is.2.steps) ∙ length-map script.steps.items step_view
