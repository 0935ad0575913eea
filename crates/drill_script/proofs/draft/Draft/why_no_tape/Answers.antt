use Rattle.std.proofs.Common.{◌≡◌, ◌∙◌, length, sym, arith}
use Rattle.std.proofs.lemmas.Grind.{common_steps}
use Rattle.drill_script.specs.Draft.{held_in}
use Rattle.drill_script.specs.Script.{held_of}
use Rattle.drill_script.proofs.Growing.{stepless}
use Rattle.drill_script.proofs.Held.{none_held, some_held, undeclared}
use Rattle.drill_script.proofs.draft.Draft.why_no_tape.Goals as goal

pub returns-then-not-has_peer_of : goal.returns-then-not-has_peer_of
returns-then-not-has_peer_of c = λ before drafts.
    let draft = c.args.self.now in
    let none : length draft.steps.items ≡ 0 = grind (arith, common_steps) in (
      stepless draft before drafts none,
      undeclared c.has_peer_of.result _ c.if-not-has_peer_of.true (c.has_peer_of.ensures before drafts),
    )

pub returns-then-gives : goal.returns-then-gives
returns-then-gives c = λ before drafts.
    let draft = c.args.self.now in
    let name = c.args.name.now in
    let none : length draft.steps.items ≡ 0 = grind (arith, common_steps) in (
      stepless draft before drafts none,
      (c.has_peer_of.ensures before drafts).0 c.if-not-has_peer_of.false,
      some_held (held_in draft name) (held_of before name) (drafts.tapes name) (sym c.gives.ensures ∙ c.if-gives.true),
    )

pub returns-else-gives : goal.returns-else-gives
returns-else-gives c = λ before drafts octets.
    let draft = c.args.self.now in
    let name = c.args.name.now in
    let none : length draft.steps.items ≡ 0 = grind (arith, common_steps) in (
      stepless draft before drafts none,
      (c.has_peer_of.ensures before drafts).0 c.if-not-has_peer_of.false,
      none_held (held_in draft name) (held_of before name) (drafts.tapes name) (sym c.gives.ensures ∙ c.if-gives.false),
    )
