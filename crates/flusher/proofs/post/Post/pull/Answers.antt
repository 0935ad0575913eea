use Rattle.std.proofs.Common.{◌<◌, length, ap, arith, rules}
use Rattle.std.proofs.lemmas.List.{length-map}
use Rattle.note_queue.specs.Words.{taking}
use Rattle.flusher.specs.Post.{View}
use Rattle.flusher.proofs.Ties.{tied_at}
use Rattle.flusher.proofs.post.Post.pull.Goals as goal

pub pull-requires : goal.pull-requires
pull-requires g c =
    let desk = c.deref_mut.result.now in
    let peers = c.self.inside.peers.items in
    let within : c.args.peer < length peers =
    omega (arith, c.requires, ap (λ (v : View). length v.names) c.self.view_is, length-map peers (λ q. q.name)) in
    tied_at (λ q. q.queue.table.shared.table_id) peers g.N.Naming.names.tables desk.place c.args.peer c.index-at.result.now
    (taking desk.side).table_id c.self.invariant.2 desk.tied (search rules) within c.index-at.ensures
