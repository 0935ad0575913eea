use Rattle.std.proofs.Common.{◌≡◌, ◌∙◌, List, ℕ, Option, Some, option_map, refl, subst, sym, ap}
use Rattle.std.specs.Vec.{vec_items}
use Rattle.drill_script.specs.Draft.{held_at, held_by}
use Rattle.drill_script.specs.declared.draft.GivenOctets.{GivenOctets}
use Rattle.drill_script.proofs.Held.{peers_held}
use Rattle.drill_script.proofs.draft.GivenOctets.give.Goals as goal

pub returns-in_ok-insert-in-Some-clause-here : goal.returns-in_ok-insert-in-Some-clause-here
returns-in_ok-insert-in-Some-clause-here c =
    let is = c.in_ok-key-in-Some.ensures.items ∙ c.bytes.ensures.value in
    let new : GivenOctets = record { peers = c.insert.new.self; intake = c.args.self.now.intake } in
    subst (λ (peer : Option (List ℕ)). held_by new peer ≡ Some c.args.octets.items) (sym c.in-Some.is)
    (subst (λ (n : List ℕ). held_at c.insert.new.self n ≡ Some c.args.octets.items) is
    (ap (option_map vec_items) c.in_ok-insert-in-Some.ensures.updates.1))

pub returns-in_ok-insert-in-Some-clause-others : goal.returns-in_ok-insert-in-Some-clause-others
returns-in_ok-insert-in-Some-clause-others c = λ other differ.
    let old = c.args.self.now in
    peers_held old (record { peers = c.insert.new.self; intake = old.intake }) c.in_ok-key-in-Some.key.items
    c.in-Some.name (c.in_ok-key-in-Some.ensures.items ∙ c.bytes.ensures.value)
    c.in_ok-insert-in-Some.ensures.updates.3 refl other (λ same. differ (same ∙ sym c.in-Some.is))
