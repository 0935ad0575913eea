-- The first line decides the answer.
use Rattle.std.proofs.Common.{Ok, Err, sym, ◌∙◌, ap}
use Rattle.reply_reader.specs.Stage.{held_of}
use Rattle.reply_reader.proofs.Nexts.{at-broken, at-fault, at-given, at-none, at-reply, at-works}
use Rattle.reply_reader.proofs.reader.ReplyReader.next.Goals as goal

pub returns-in-Ok-clause-stands : goal.returns-in-Ok-clause-stands
returns-in-Ok-clause-stands c =
    at-given c.args.self.now c.in-Working.unread c.next_reply.new.unread
    (sym c.self.view_is ∙ ap held_of c.in-Working.is) c.in-Ok.next c.in-Ok.ensures

pub returns-in-Ok-clause-some : goal.returns-in-Ok-clause-some
returns-in-Ok-clause-some c =
    at-reply c.args.self.now c.in-Working.unread c.next_reply.new.unread
    (sym c.self.view_is ∙ ap held_of c.in-Working.is) c.in-Ok.next c.in-Ok.ensures

pub returns-in-Ok-clause-none : goal.returns-in-Ok-clause-none
returns-in-Ok-clause-none c =
    at-none c.args.self.now c.in-Working.unread c.next_reply.new.unread
    (sym c.self.view_is ∙ ap held_of c.in-Working.is) (Ok c.in-Ok.next) c.in-Ok.ensures

pub returns-in-Ok-clause-refuses : goal.returns-in-Ok-clause-refuses
returns-in-Ok-clause-refuses c =
    at-works c.args.self.now c.in-Working.unread c.next_reply.new.unread
    (sym c.self.view_is ∙ ap held_of c.in-Working.is) (Ok c.in-Ok.next) c.in-Ok.ensures tt

pub returns-in-NoMemory-clause-none : goal.returns-in-NoMemory-clause-none
returns-in-NoMemory-clause-none c =
    at-none c.args.self.now c.in-Working.unread c.next_reply.new.unread
    (sym c.self.view_is ∙ ap held_of c.in-Working.is) (Err c.in-Err.fault) c.in-Err.ensures

pub returns-in-NoMemory-clause-refuses : goal.returns-in-NoMemory-clause-refuses
returns-in-NoMemory-clause-refuses c =
    at-works c.args.self.now c.in-Working.unread c.next_reply.new.unread
    (sym c.self.view_is ∙ ap held_of c.in-Working.is) (Err c.in-Err.fault) c.in-Err.ensures c.in-NoMemory.is

pub returns-in_default-clause-stands : goal.returns-in_default-clause-stands
returns-in_default-clause-stands c =
    at-broken c.args.self.now c.in-Working.unread c.next_reply.new.unread
    (sym c.self.view_is ∙ ap held_of c.in-Working.is) c.in-Err.fault c.in_default.not-NoMemory c.in-Err.ensures

pub returns-in_default-clause-none : goal.returns-in_default-clause-none
returns-in_default-clause-none c =
    at-none c.args.self.now c.in-Working.unread c.next_reply.new.unread
    (sym c.self.view_is ∙ ap held_of c.in-Working.is) (Err c.in-Err.fault) c.in-Err.ensures

pub returns-in_default-clause-refuses : goal.returns-in_default-clause-refuses
returns-in_default-clause-refuses c =
    at-fault c.args.self.now c.in-Working.unread c.next_reply.new.unread
    (sym c.self.view_is ∙ ap held_of c.in-Working.is) c.in-Err.fault c.in_default.not-NoMemory c.in-Err.ensures
