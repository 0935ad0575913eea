use Rattle.std.proofs.Common.{refl}
use Rattle.drill_script.proofs.Growing.{gains_first, gains_second}
use Rattle.drill_script.proofs.draft.Draft.give.Goals as goal

pub returns-in_ok-give-in-First-clause-ok : goal.returns-in_ok-give-in-First-clause-ok
returns-in_ok-give-in-First-clause-ok c = λ before drafts.
    let old = c.args.self.now in
    gains_first old (record {
      peers = old.peers;
      names = old.names;
      firsts = c.give.new.self;
      seconds = old.seconds;
      steps = old.steps;
      lines = old.lines;
    }) c.args.name c.args.octets.items before c.in-First.is (c.in_default.ensures before drafts c.args.octets.items)
    refl refl c.in_ok-give-in-First.ensures.here c.in_ok-give-in-First.ensures.others refl refl refl drafts

pub returns-in_ok-give-in-Second-clause-ok : goal.returns-in_ok-give-in-Second-clause-ok
returns-in_ok-give-in-Second-clause-ok c = λ before drafts.
    let old = c.args.self.now in
    gains_second old (record {
      peers = old.peers;
      names = old.names;
      firsts = old.firsts;
      seconds = c.give-in-Second.new.self;
      steps = old.steps;
      lines = old.lines;
    }) c.args.name c.args.octets.items before c.in-Second.is (c.in_default.ensures before drafts c.args.octets.items)
    refl refl c.in_ok-give-in-Second.ensures.here c.in_ok-give-in-Second.ensures.others refl refl refl drafts
