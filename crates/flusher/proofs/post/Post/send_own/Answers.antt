use Rattle.std.proofs.Common.{◌<◌, length, ap, arith}
use Rattle.std.proofs.lemmas.List.{length-map}
use Rattle.note_queue.specs.Words.{sending}
use Rattle.flusher.specs.Post.{View}
use Rattle.flusher.proofs.Ties.{tied_at}
use Rattle.flusher.proofs.post.Post.send_own.Goals as goal

pub send-requires : goal.send-requires
send-requires g c =
    let old = c.args.desk.now in
    let peers = c.self.inside.peers.items in
    let within : c.args.peer < length peers =
    omega (arith, c.requires.peer, ap (λ (v : View). length v.names) c.self.view_is, length-map peers (λ q. q.name)) in
    tied_at (λ q. q.queue.table.shared.table_id) peers g.N.Naming.names.tables old.seat.place c.args.peer
    c.index.result.now (sending old.seat.sender).table_id c.self.invariant.2 old.seat.tied c.requires.own within
    c.index.ensures
