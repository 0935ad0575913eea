-- A debt that comes out, with what became of it.
use Rattle.std.proofs.Common.{◌≡◌, ℕ, true, false, List, [], ◌∷◌, ◌++◌, length, map, refl, sym, ap, arith, Some, None}
use Rattle.std.proofs.Common.{◌∙◌}
use Rattle.std.specs.Prelude.{is_some}
use Rattle.std.specs.Set.{remove_key}
use Rattle.std.proofs.lemmas.Bool.{false≢true}
use Rattle.ledger_core.specs.State.{Owing}
use Rattle.ledger_core.specs.declared.note.FinalCode.{FinalCode}
use Rattle.conn_core.specs.Commands.{Held, is_at, loss_of, outcome_by}
use Rattle.conn_core.specs.Kept.{handing_of}
use Rattle.conn_core.specs.Machine.{TakesOne, handed_for}
use Rattle.conn_core.specs.State.{State, untold}
use Rattle.conn_core.specs.declared.codes.Meaning.TheVariants.{Later, Final}
use Rattle.conn_core.specs.declared.deferral.Deferral.{Deferral}
use Rattle.conn_core.specs.declared.verdict.Verdict.{Verdict}
use Rattle.conn_core.specs.declared.machine.articles.Loss.{Loss}
use Rattle.conn_core.specs.declared.machine.articles.Loss.TheVariants.{Missing, Unfit}
use Rattle.conn_core.specs.declared.outcome.Outcome.{Outcome}
use Rattle.conn_core.specs.declared.outcome.Outcome.TheVariants.{Back, Deferred, Final as Ended_by}

parted-with : State → ℕ → List Outcome → State
parted-with s ticket outcomes = record s { held = remove_key (is_at ticket) s.held; found = s.found ++ outcomes }

pub lost-is : (s : State) (x : Held) (loss : Loss) (outcome : Outcome) (ticket : ℕ) → x.ticket ≡ ticket → outcome ∷ [] ≡ loss_of (handing_of loss) x.debt
    → handed_for s (handing_of loss) (Some x) ≡ record s { held = remove_key (is_at ticket) s.held; found = s.found ++ outcome ∷ [] }
unfolding parted-with
lost-is s x Missing outcome ticket here e = ap (parted-with s x.ticket) (sym e) ∙ ap (λ k. parted-with s k (outcome ∷ [])) here
lost-is s x Unfit outcome ticket here e = ap (parted-with s x.ticket) (sym e) ∙ ap (λ k. parted-with s k (outcome ∷ [])) here

pub deferral-is : (deferral : Deferral) (debt : Owing) → deferral.debt ≡ debt → Deferred deferral ∷ [] ≡ outcome_by Later debt
deferral-is deferral debt e = ap (outcome_by Later) e

pub verdict-is : (verdict : Verdict) (debt : Owing) (code : FinalCode) → verdict.debt ≡ debt → verdict.code ≡ code → Ended_by verdict ∷ [] ≡ outcome_by (Final code) debt
verdict-is verdict debt code e f = ap (λ d. outcome_by (Final verdict.code) d) e ∙ ap (λ k. outcome_by (Final k) debt) f

no-items : {A : Type 0} (xs : List A) → length xs ≡ 0 → xs ≡ []
no-items [] e = refl
no-items (x ∷ xs) e = absurd (omega arith)

untold-closed : (s : State) → is_some s.closed ≡ true → s.found ≡ [] → untold s ≡ map (λ (x : Held). Back x.debt) s.held
untold-closed s closed none = rw (closed, none) refl

open-held : (s : State) (held : List Held) → is_some s.closed ≡ true → s.closed ≡ None → held ≡ s.held
open-held s held closed e = let no : false ≡ true = ap is_some (sym e) ∙ closed in absurd (false≢true no)

-- once closed, if all that was found is taken, the debt that was offered first comes back
pub takes-back : (s t : State) (x : Held) → length s.found ≡ 0 → is_some s.closed ≡ true → s.found ≡ t.found
    → s.held ≡ x ∷ t.held
    → t ≡ record s { found = t.found; held = t.held } → TakesOne s (Some (Back x.debt)) t
takes-back s t x none closed found held same =
    let empty = no-items s.found none in
    record {
      first = untold-closed s closed empty ∙ ap (map (λ (y : Held). Back y.debt)) held
          ∙ ap (λ os. Back x.debt ∷ os)
          (sym (untold-closed t (ap (λ (v : State). is_some v.closed) same ∙ closed) (sym found ∙ empty)));
      others = same;
      held_open = open-held s t.held closed;
      none_left = λ e. cc;
    }

-- or none is left
pub takes-none : (s t : State) → length s.found ≡ 0 → is_some s.closed ≡ true → s.found ≡ t.found → s.held ≡ t.held
    → t.held ≡ []
    → t ≡ record s { found = t.found; held = t.held } → TakesOne s None t
takes-none s t none closed found held left same =
    let empty = no-items s.found none in
    let nothing : untold t ≡ [] =
    untold-closed t (ap (λ (v : State). is_some v.closed) same ∙ closed) (sym found ∙ empty)
    ∙ ap (map (λ (y : Held). Back y.debt)) left in
    record {
      first = untold-closed s closed empty ∙ ap (map (λ (y : Held). Back y.debt)) (held ∙ left) ∙ sym nothing;
      others = same;
      held_open = open-held s t.held closed;
      none_left = λ e. nothing;
    }
