-- What becomes of a connection whose next article is to be handed in.
use Rattle.std.proofs.Common.{sym}
use Rattle.connections.specs.Articles.{IsFoundFor}
use Rattle.connections.proofs.Articles.{handed_stays, nothing_stays}
use Rattle.connections.proofs.peer_connection.PeerConnection.hand.Goals as goal

pub returns-in-Some-spool_end : goal.returns-in-Some-spool_end
returns-in-Some-spool_end g c = nothing_stays _ _ _ c.break_for_spool.ensures

pub returns-in_default-spool_end : goal.returns-in_default-spool_end
returns-in_default-spool_end g c =
    handed_stays (IsFoundFor g.A.ArticleSource.gives) c.args.self.now.conn _ c.give.new.conn c.in-Some.debt.now
    c.in-Ok.found _
    (λ options unread h s. c.articles_are_of_their_debts.ensures.served options c.args.self.now.conn unread h
    c.in-Some.debt.now s (sym (c.in-Some.ensures.value options unread h s)))
    c.in-Ok.ensures c.key-key.ensures c.note_found.ensures c.give.ensures.handed

pub returns-in-Err-Disk : goal.returns-in-Err-Disk
returns-in-Err-Disk g c = nothing_stays _ _ _ c.break_off.ensures

pub returns-in-Err-NoMemory : goal.returns-in-Err-NoMemory
returns-in-Err-NoMemory g c = nothing_stays _ _ _ c.break_conn.ensures
