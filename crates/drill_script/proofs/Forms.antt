-- The forms of a line, and its parts around spaces, say the same.
use Rattle.std.proofs.Common.{◌≡◌, ◌==◌, ℕ, true, List, [], ◌∷◌, ◌++◌, Option, None, Some, inl, inr, refl, sym}
use Rattle.std.proofs.Common.{subst, ap, ◌∙◌, arith}
use Rattle.std.specs.Prelude.{codes, length, not}
use Rattle.std.specs.List.{list_all}
use Rattle.std.proofs.lemmas.Bool.{and_from, and_parts, cases_Bool}
use Rattle.std.proofs.lemmas.Bool.Decides.{nat_tests}
use Rattle.article_store.specs.declared.store.Found.TheVariants.{Article, Gone, Unsendable}
use Rattle.feed_conf.specs.Values.{is_digit, is_number}
use Rattle.funnel.specs.Names.{is_peer_name}
use Rattle.drill_script.specs.Action.{ActionView, Hands, Receives, Supplies, Breaks}
use Rattle.drill_script.specs.Line.{SaysAction, SaysStep}
use Rattle.drill_script.specs.Numbers.{u64_of}
use Rattle.drill_script.specs.Parts.{ActionOf, StepOf}
use Rattle.drill_script.specs.Step.{StepView, Lines, Flushes, Begins, Parts, Seals, Connects, Acts, Ticks, Sheds}
use Rattle.drill_script.specs.Step.{Rotates}
use Rattle.drill_script.specs.Step.{Imports, Stops, Arms, Restarts}
use Rattle.drill_script.specs.Words.{IsCut, IsSolid}
use Rattle.drill_script.proofs.Cuts.{SameCut, cuts_once, is_solid, solid_from}

none_some : (number : ℕ) → None ≡ Some number → ⊥
none_some number same = cc

digit_solid : (digit : ℕ) → is_digit digit ≡ true → is_solid digit ≡ true
digit_solid digit pass = grind (arith, nat_tests)

-- a written number has no space
digits_solid : (digits : List ℕ) → list_all is_digit digits ≡ true → list_all is_solid digits ≡ true
digits_solid [] pass = refl
digits_solid (digit ∷ digits) pass =
    let parts = and_parts (is_digit digit) (list_all is_digit digits) pass in
    and_from (is_solid digit) (list_all is_solid digits) (digit_solid digit parts.0) (digits_solid digits parts.1)

pub number_solid : (written : List ℕ) (number : ℕ) → u64_of written ≡ Some number → IsSolid written
number_solid written number is =
    elim (cases_Bool (is_number written)) [
      | inl digits ↦
          solid_from written
          (digits_solid written (and_parts (not (length written == 0)) (list_all is_digit written) digits).1)
      | inr other ↦ let never : u64_of written ≡ None = rw other refl in let same : None ≡ Some number =
          sym never ∙ is in absurd (none_some number same)
    ]

-- from the parts to the form
action_form : (line word rest written : List ℕ) (text : Option (List ℕ)) (action : ActionView) →
    line ≡ word ++ 32 ∷ rest → IsCut rest written text → ActionOf word text action → SaysAction line written action
action_form line word rest written None Hands e cut says = e ∙ ap (λ w. w ++ 32 ∷ rest) says
    ∙ ap (λ r. codes "hand " ++ r) cut
action_form line word rest written None (Receives octets) e cut says = absurd says
action_form line word rest written None (Supplies found) e cut says = absurd says
action_form line word rest written None Breaks e cut says = e ∙ ap (λ w. w ++ 32 ∷ rest) says
    ∙ ap (λ r. codes "break " ++ r) cut
action_form line word rest written (Some text) Hands e cut says = absurd says
action_form line word rest written (Some text) (Receives octets) e cut (inl say) =
    inl (text, e ∙ ap (λ w. w ++ 32 ∷ rest) say.0 ∙ ap (λ r. codes "say " ++ r) cut, say.1)
action_form line word rest written (Some text) (Receives octets) e cut (inr raw) =
    inr (text, e ∙ ap (λ w. w ++ 32 ∷ rest) raw.0 ∙ ap (λ r. codes "raw " ++ r) cut, raw.1)
action_form line word rest written (Some text) (Supplies (Article octets)) e cut says =
    (text, e ∙ ap (λ w. w ++ 32 ∷ rest) says.0 ∙ ap (λ r. codes "article " ++ r) cut, says.1, says.2)
action_form line word rest written (Some text) (Supplies Gone) e cut says =
    e ∙ ap (λ w. w ++ 32 ∷ rest) says.0 ∙ ap (λ r. codes "article " ++ r) (cut ∙ ap (λ t. written ++ 32 ∷ t) says.1)
action_form line word rest written (Some text) (Supplies Unsendable) e cut says = absurd says
action_form line word rest written (Some text) Breaks e cut says = absurd says

pub step_form : (line word : List ℕ) (text : Option (List ℕ)) (step : StepView) → IsCut line word text →
    StepOf word text step → SaysStep line step
step_form line word None (Lines t) cut says = inl (cut ∙ says.0, says.1)
step_form line word (Some rest) (Lines t) cut says =
    inr (cut ∙ ap (λ w. w ++ 32 ∷ rest) says.0 ∙ ap (λ r. codes "line " ++ r) (sym says.1))
step_form line word None Flushes cut says = cut ∙ says
step_form line word (Some rest) Flushes cut says = absurd says
step_form line word None Begins cut says = cut ∙ says
step_form line word (Some rest) Begins cut says = absurd says
step_form line word None (Parts name) cut says = absurd says
step_form line word (Some rest) (Parts name) cut says = (
  cut ∙ ap (λ w. w ++ 32 ∷ rest) says.0 ∙ ap (λ r. codes "part " ++ r) (sym says.2),
  ap is_peer_name says.2
      ∙ says.1,
)
step_form line word None Seals cut says = cut ∙ says
step_form line word (Some rest) Seals cut says = absurd says
step_form line word None (Connects name) cut says = absurd says
step_form line word (Some rest) (Connects name) cut says = (
  cut ∙ ap (λ w. w ++ 32 ∷ rest) says.0 ∙ ap (λ r. codes "connect " ++ r) (sym says.2),
  ap is_peer_name says.2
      ∙ says.1,
)
step_form line word None (Acts number action) cut says = absurd says
step_form line word (Some rest) (Acts number action) cut says =
    (says.written, says.connection, action_form line word rest says.written says.text action cut says.cut says.says)
step_form line word None (Ticks moment) cut says = absurd says
step_form line word (Some rest) (Ticks moment) cut says = (rest, cut ∙ ap (λ w. w ++ 32 ∷ rest) says.0, says.1)
step_form line word None (Sheds name) cut says = absurd says
step_form line word (Some rest) (Sheds name) cut says = (
  cut ∙ ap (λ w. w ++ 32 ∷ rest) says.0 ∙ ap (λ r. codes "shed " ++ r) (sym says.2),
  ap is_peer_name says.2
      ∙ says.1,
)
step_form line word None (Rotates name) cut says = absurd says
step_form line word (Some rest) (Rotates name) cut says = (
  cut ∙ ap (λ w. w ++ 32 ∷ rest) says.0 ∙ ap (λ r. codes "rotate " ++ r) (sym says.2),
  ap is_peer_name says.2
      ∙ says.1,
)
step_form line word None (Imports name t) cut says = absurd says
step_form line word (Some rest) (Imports name t) cut says = (rest, cut ∙ ap (λ w. w ++ 32 ∷ rest) says.0, says.1)
step_form line word None Stops cut says = cut ∙ says
step_form line word (Some rest) Stops cut says = absurd says
step_form line word None (Arms armed) cut says = absurd says
step_form line word (Some rest) (Arms armed) cut says = (rest, cut ∙ ap (λ w. w ++ 32 ∷ rest) says.0, says.1)
step_form line word None Restarts cut says = cut ∙ says
step_form line word (Some rest) Restarts cut says = absurd says

-- A word that names a step, however the line is cut.
module _ (line word : List ℕ) (text : Option (List ℕ)) (solid : IsSolid word) (cut : IsCut line word text) where
  -- the cut is the one at this word
  at_word : (w : List ℕ) (t : Option (List ℕ)) → list_all is_solid w ≡ true → IsCut line w t → SameCut word w text t
  at_word w t pass other = cuts_once line word w text t solid (solid_from w pass) cut other

  at_step : (w : List ℕ) (t : Option (List ℕ)) (step : StepView) → list_all is_solid w ≡ true → IsCut line w t →
      StepOf w t step → StepOf word text step
  at_step w t step pass other says =
      let same = at_word w t pass other in
      subst (λ (x : List ℕ). StepOf x text step) (sym same.word)
      (subst (λ (o : Option (List ℕ)). StepOf w o step) (sym same.text) says)

  -- the number of a connection, and what follows it
  on_step : (w written : List ℕ) (t : Option (List ℕ)) (rest : List ℕ) (number : ℕ) (action : ActionView) →
      list_all is_solid w ≡ true → line ≡ w ++ 32 ∷ rest →
      IsCut rest written t → u64_of written ≡ Some number → ActionOf w t action →
      StepOf word text (Acts number action)
  on_step w written t rest number action pass e inner is says =
      at_step w (Some rest) (Acts number action) pass e (record {
        written = written;
        text = t;
        cut =
            inner;
        connection = is;
        says = says;
      })

  acts_parts : (number : ℕ) (action : ActionView) (written : List ℕ) → u64_of written ≡ Some number →
      SaysAction line written action → StepOf word text (Acts number action)
  acts_parts number Hands written is says =
      on_step (codes "hand") written None written number Hands refl says refl is refl
  acts_parts number (Receives octets) written is (inl say) =
      on_step (codes "say") written (Some say.0) (written ++ 32 ∷ say.0) number (Receives octets) refl say.1 refl
      is (inl (refl, say.2))
  acts_parts number (Receives octets) written is (inr raw) =
      on_step (codes "raw") written (Some raw.0) (written ++ 32 ∷ raw.0) number (Receives octets) refl raw.1 refl
      is (inr (refl, raw.2))
  acts_parts number (Supplies (Article octets)) written is says =
      on_step (codes "article") written (Some says.0) (written ++ 32 ∷ says.0) number
      (Supplies (Article octets)) refl says.1 refl is (refl, says.2, says.3)
  acts_parts number (Supplies Gone) written is says =
      on_step (codes "article") written (Some (codes "gone")) (written ++ codes " gone") number
      (Supplies Gone) refl says refl is (refl, refl)
  acts_parts number (Supplies Unsendable) written is says = absurd says
  acts_parts number Breaks written is says =
      on_step (codes "break") written None written number Breaks refl says refl is refl

  pub step_parts : (step : StepView) → SaysStep line step → StepOf word text step
  step_parts (Lines t) (inl alone) = at_step (codes "line") None (Lines t) refl alone.0 (refl, alone.1)
  step_parts (Lines t) (inr behind) = at_step (codes "line") (Some t) (Lines t) refl behind (refl, refl)
  step_parts Flushes says = at_step (codes "flush") None Flushes refl says refl
  step_parts Begins says = at_step (codes "begin") None Begins refl says refl
  step_parts (Parts name) says = at_step (codes "part") (Some name) (Parts name) refl says.0 (refl, says.1, refl)
  step_parts Seals says = at_step (codes "seal") None Seals refl says refl
  step_parts (Connects name) says =
      at_step (codes "connect") (Some name) (Connects name) refl says.0 (refl, says.1, refl)
  step_parts (Acts number action) says = acts_parts number action says.0 says.1 says.2
  step_parts (Ticks moment) says = at_step (codes "tick") (Some says.0) (Ticks moment) refl says.1 (refl, says.2)
  step_parts (Sheds name) says = at_step (codes "shed") (Some name) (Sheds name) refl says.0 (refl, says.1, refl)
  step_parts (Rotates name) says =
      at_step (codes "rotate") (Some name) (Rotates name) refl says.0 (refl, says.1, refl)
  step_parts (Imports name t) says = at_step (codes "import") (Some says.0) (Imports name t) refl says.1 (refl, says.2)
  step_parts Stops says = at_step (codes "stop") None Stops refl says refl
  step_parts (Arms armed) says = at_step (codes "stop") (Some says.0) (Arms armed) refl says.1 (refl, says.2)
  step_parts Restarts says = at_step (codes "restart") None Restarts refl says refl
