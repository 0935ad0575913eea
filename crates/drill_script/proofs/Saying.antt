-- Words that say no action, and lines that say a step or none.
use Rattle.std.proofs.Common.{◌≡◌, ◌≢◌, inl, inr, List, ℕ, Option, None, Some, option_map, MatchOption, Result, Ok}
use Rattle.std.proofs.Common.{Err, IfOk, refl, sym, subst, ◌∙◌}
use Rattle.std.specs.Prelude.{codes}
use Rattle.article_store.specs.declared.store.Found.TheVariants.{Article, Gone, Unsendable}
use Rattle.drill_script.specs.Action.{ActionView, Hands, Receives, Supplies, Breaks, action_view}
use Rattle.drill_script.specs.Line.{SaysStep}
use Rattle.drill_script.specs.Numbers.{u64_of}
use Rattle.drill_script.specs.Parts.{ActionOf, SaysNoneBehind, SaysOn, StepOf}
use Rattle.drill_script.specs.Step.{StepView, Lines, Flushes, Begins, Parts, Seals, Connects, Acts, Ticks, Sheds}
use Rattle.drill_script.specs.Step.{Rotates}
use Rattle.drill_script.specs.Step.{Imports, Stops, Arms, Restarts, step_view}
use Rattle.drill_script.specs.Words.{IsCut, IsSolid}
use Rattle.drill_script.specs.declared.action.Action.{Action}
use Rattle.world_core.specs.declared.step.Step.{Step}
use Rattle.drill_script.proofs.Cuts.{cuts_once}
use Rattle.drill_script.proofs.Forms.{number_solid, step_form, step_parts}

-- neither a word alone nor one with a text
pub says_none : {T : Type 0} (view : T → List ℕ) (word : List ℕ) (text : Option T) →
    (text ≡ None → (word ≢ codes "hand") × (word ≢ codes "break")) →
    ((t : T) → text ≡ Some t → (word ≢ codes "say") × (word ≢ codes "raw") × (word ≢ codes "article")) →
    (said : ActionView) → ActionOf word (option_map view text) said → ⊥
says_none view word None lone more Hands says = (lone refl).0 says
says_none view word None lone more (Receives octets) says = says
says_none view word None lone more (Supplies found) says = says
says_none view word None lone more Breaks says = (lone refl).1 says
says_none view word (Some t) lone more Hands says = says
says_none view word (Some t) lone more (Receives octets) (inl say) = (more t refl).0 say.0
says_none view word (Some t) lone more (Receives octets) (inr raw) = (more t refl).1 raw.0
says_none view word (Some t) lone more (Supplies (Article octets)) says = (more t refl).2 says.0
says_none view word (Some t) lone more (Supplies Gone) says = (more t refl).2 says.0
says_none view word (Some t) lone more (Supplies Unsendable) says = says
says_none view word (Some t) lone more Breaks says = says

-- a word that names no step without a text says none
pub says_none_alone : (word : List ℕ) → word ≢ codes "line" → word ≢ codes "flush" → word ≢ codes "begin" →
    word ≢ codes "seal" → word ≢ codes "stop" → word ≢ codes "restart" → (said : StepView) → StepOf word None said → ⊥
says_none_alone word line flush begin seal stop restart (Lines text) says = line says.0
says_none_alone word line flush begin seal stop restart Flushes says = flush says
says_none_alone word line flush begin seal stop restart Begins says = begin says
says_none_alone word line flush begin seal stop restart (Parts name) says = says
says_none_alone word line flush begin seal stop restart Seals says = seal says
says_none_alone word line flush begin seal stop restart (Connects name) says = says
says_none_alone word line flush begin seal stop restart (Acts number action) says = says
says_none_alone word line flush begin seal stop restart (Ticks moment) says = says
says_none_alone word line flush begin seal stop restart (Sheds name) says = says
says_none_alone word line flush begin seal stop restart (Rotates name) says = says
says_none_alone word line flush begin seal stop restart (Imports name text) says = says
says_none_alone word line flush begin seal stop restart Stops says = stop says
says_none_alone word line flush begin seal stop restart (Arms request) says = says
says_none_alone word line flush begin seal stop restart Restarts says = restart says

-- a word that names none of the other steps says a step on a connection, if it says one
module _ (word : List ℕ) (line : word ≢ codes "line") (part : word ≢ codes "part") (connect : word ≢ codes "connect")
    (shed : word ≢ codes "shed") (rotate : word ≢ codes "rotate") (tick : word ≢ codes "tick")
    (stop : word ≢ codes "stop") where
  says_no_step : (rest : List ℕ) → SaysNoneBehind word rest → (said : StepView) → StepOf word (Some rest) said → ⊥
  says_no_step rest none (Lines text) says = line says.0
  says_no_step rest none Flushes says = says
  says_no_step rest none Begins says = says
  says_no_step rest none (Parts name) says = part says.0
  says_no_step rest none Seals says = says
  says_no_step rest none (Connects name) says = connect says.0
  says_no_step rest none (Acts number action) says = none.acts number action says
  says_no_step rest none (Ticks moment) says = tick says.0
  says_no_step rest none (Sheds name) says = shed says.0
  says_no_step rest none (Rotates name) says = rotate says.0
  says_no_step rest none (Imports name text) says = none.imports says.0 name text says.1
  says_no_step rest none Stops says = says
  says_no_step rest none (Arms request) says = stop says.0
  says_no_step rest none Restarts says = says

  pub says_step : {T E : Type 0} (view : T → List ℕ) (text : Option T) (rest : List ℕ)
      (made : Result (Option Step) E) →
      IfOk made (λ step. MatchOption step (SaysNoneBehind word rest)
      (λ s. StepOf word (Some rest) (step_view s))) →
      option_map view text ≡ Some rest →
      IfOk made (λ step. MatchOption step ((said : StepView) → StepOf word (option_map view text) said → ⊥)
      (λ s. StepOf word (option_map view text) (step_view s)))
  says_step view text rest (Err fault) h e = tt
  says_step view text rest (Ok None) h e =
      subst (λ (o : Option (List ℕ)). (said : StepView) → StepOf word o said → ⊥) (sym e) (says_no_step rest h)
  says_step view text rest (Ok (Some step)) h e =
      subst (λ (o : Option (List ℕ)). StepOf word o (step_view step)) (sym e) h

-- a word that is not `import` says there what it says of a connection
pub behind_other : {E : Type 0} (word rest : List ℕ) (made : Result (Option Step) E) → word ≢ codes "import" →
    IfOk made (λ step. MatchOption step ((number : ℕ) (said : ActionView) → SaysOn word rest number said → ⊥)
    (λ s. StepOf word (Some rest) (step_view s))) →
    IfOk made (λ step. MatchOption step (SaysNoneBehind word rest) (λ s. StepOf word (Some rest) (step_view s)))
behind_other word rest (Err fault) other h = tt
behind_other word rest (Ok None) other h =
    record { acts = h; imports = λ is name octets names. absurd (other is) }
behind_other word rest (Ok (Some step)) other h = h

-- What follows a word has this cut.
module _ (word rest written : List ℕ) (text : Option (List ℕ)) (solid : IsSolid written)
    (cut : IsCut rest written text) where
  -- no number is written there
  pub unread : u64_of written ≡ None → (number : ℕ) (said : ActionView) → SaysOn word rest number said → ⊥
  unread none number said on =
      let same =
      cuts_once rest written on.written text on.text solid (number_solid on.written number on.connection) cut
      on.cut in
      let read : u64_of written ≡ Some number =
      subst (λ (w : List ℕ). u64_of w ≡ Some number) (sym same.word) on.connection in
      let never : None ≡ Some number = sym none ∙ read in
      cc

  -- no action is said there
  pub unsaid : ((said : ActionView) → ActionOf word text said → ⊥) → (number : ℕ) (said : ActionView) →
      SaysOn word rest number said → ⊥
  unsaid none number said on =
      let same =
      cuts_once rest written on.written text on.text solid (number_solid on.written number on.connection) cut
      on.cut in
      none said (subst (λ (t : Option (List ℕ)). ActionOf word t said) (sym same.text) on.says)

-- what the parts of a line say is what the line says
pub said_whole : {E : Type 0} (line word : List ℕ) (text : Option (List ℕ)) (made : Result (Option Step) E) →
    IsSolid word → IsCut line word text →
    IfOk made (λ step. MatchOption step ((said : StepView) → StepOf word text said → ⊥)
    (λ s. StepOf word text (step_view s))) →
    IfOk made (λ step. MatchOption step ((said : StepView) → SaysStep line said → ⊥)
    (λ s. SaysStep line (step_view s)))
said_whole line word text (Err fault) solid cut h = tt
said_whole line word text (Ok None) solid cut h = λ said says. h said (step_parts line word text solid cut said says)
said_whole line word text (Ok (Some step)) solid cut h = step_form line word text (step_view step) cut h

-- nothing was read of the words
pub unsaid_none : (word : List ℕ) (text : Option (List ℕ)) (read : Option Action) → read ≡ None →
    MatchOption read ((said : ActionView) → ActionOf word text said → ⊥)
    (λ made. ActionOf word text (action_view made)) → (said : ActionView) → ActionOf word text said → ⊥
unsaid_none word text None e h = h
unsaid_none word text (Some made) e h = cc
