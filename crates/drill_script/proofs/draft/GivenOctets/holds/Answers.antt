use Rattle.std.proofs.Common.{◌≡◌, ℕ, List, Option, sym, ap, ◌∙◌, subst}
use Rattle.std.specs.Prelude.{is_some}
use Rattle.drill_script.specs.Draft.{held_at, held_by}
use Rattle.drill_script.proofs.Held.{is_found}
use Rattle.drill_script.proofs.draft.GivenOctets.holds.Goals as goal

pub returns-in-Some : goal.returns-in-Some
returns-in-Some c =
    let given = c.args.self.now in
    subst (λ (peer : Option (List ℕ)). c.contains_key.result ≡ is_some (held_by given peer)) (sym c.in-Some.is)
    (c.contains_key.ensures ∙ sym (is_found _)
    ∙ ap (λ n. is_some (held_at given.peers n)) c.bytes.ensures.value)
