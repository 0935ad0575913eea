use Rattle.std.proofs.Common.{◌≡◌, ℕ, List, length, map, refl, subst, ◌∙◌, arith}
use Rattle.std.specs.Prelude.{Contains}
use Rattle.std.specs.Vec.{vec_items}
use Rattle.std.proofs.lemmas.Grind.{common_steps}
use Rattle.drill_script.proofs.Growing.{gains_peer, stepless, was_there, was_strange}
use Rattle.drill_script.proofs.Names.{found}
use Rattle.drill_script.proofs.draft.Draft.declare.Goals as goal

pub returns-then-not-branch-clause-broken : goal.returns-then-not-branch-clause-broken
returns-then-not-branch-clause-broken c = λ before drafts.
    let keys = c.args.self.now.names.keys in
    let is : c.in_ok-name.name.items ≡ c.args.conf.name = c.in_ok-name.ensures.items ∙ c.bytes.ensures.value in
    let there = found c.in_ok-name.name.items keys (was_there _ _ c.in_ok-insert.ensures.added c.if-not-branch.true) in
    let none : length c.args.self.now.steps.items ≡ 0 = grind (arith, common_steps) in
    let named = (drafts.names c.args.conf.name).0 (subst (λ (n : List ℕ). Contains (map vec_items keys) n) is there) in
    (refl, (stepless c.args.self.now before drafts none, named))

pub returns-clause-ok : goal.returns-clause-ok
returns-clause-ok c = λ before drafts.
    let is : c.in_ok-name.name.items ≡ c.args.conf.name = c.in_ok-name.ensures.items ∙ c.bytes.ensures.value in
    let none : length c.args.self.now.steps.items ≡ 0 = grind (arith, common_steps) in
    gains_peer c.args.self.now (record {
      peers = c.push.new.self;
      names = c.insert.new.self;
      firsts = c.args.self.now.firsts;
      seconds = c.args.self.now.seconds;
      steps = c.args.self.now.steps;
      lines = c.args.self.now.lines;
    }) c.args.conf c.in_ok-name.name before none is
    (was_strange _ _ c.in_ok-insert.ensures.added c.if-not-branch.false) c.in_ok-insert.ensures.keys
    c.in_ok-push.ensures.items refl refl refl refl drafts
