use Rattle.std.proofs.Common.{refl}
use Rattle.drill_script.proofs.Growing.{gains_step}
use Rattle.drill_script.proofs.draft.Draft.take.Goals as goal

pub returns : goal.returns
returns c = λ before drafts at.
    gains_step c.args.self.now (record {
      peers = c.args.self.now.peers;
      names = c.args.self.now.names;
      firsts = c.args.self.now.firsts;
      seconds = c.args.self.now.seconds;
      steps = c.push-2.new.self;
      lines = c.push.new.self;
    }) c.args.step c.args.line_number before refl refl refl refl c.in_ok-push-2.ensures.items
    c.in_ok-push.ensures.items at drafts
