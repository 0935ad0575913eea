use Rattle.conn_core.specs.Kept.{can_answer}
use Rattle.reply_reader.specs.Next.{given_of}
use Rattle.conn_core.proofs.Lookups.{taken-value, taken-rest, taken-none}
use Rattle.conn_core.proofs.lookup.take_answered.Goals as goal

pub returns-in-Some-clause-found : goal.returns-in-Some-clause-found
returns-in-Some-clause-found c =
    taken-value (can_answer c.args.mode c.args.held.now.debts (given_of c.args.reply.now)) c.args.window.now.items
    c.in-Some.i _ c.remove.result c.in-Some.ensures c.args.window.now.ok.0 c.remove.ensures.variant.1
    c.remove.ensures.value

pub returns-in-Some-clause-rest : goal.returns-in-Some-clause-rest
returns-in-Some-clause-rest c =
    taken-rest (can_answer c.args.mode c.args.held.now.debts (given_of c.args.reply.now)) c.args.window.now.items
    c.remove.new.self.items c.in-Some.i _ c.remove.result c.in-Some.ensures c.args.window.now.ok.0
    c.remove.ensures.variant.1 c.remove.ensures.value c.remove.ensures.items

pub returns-in-None-clause-found : goal.returns-in-None-clause-found
returns-in-None-clause-found c =
    (taken-none (can_answer c.args.mode c.args.held.now.debts (given_of c.args.reply.now)) c.args.window.now.items
    c.in-None.ensures).0

pub returns-in-None-clause-rest : goal.returns-in-None-clause-rest
returns-in-None-clause-rest c =
    (taken-none (can_answer c.args.mode c.args.held.now.debts (given_of c.args.reply.now)) c.args.window.now.items
    c.in-None.ensures).1
