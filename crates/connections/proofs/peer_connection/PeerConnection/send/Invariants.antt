-- No article was handed in so far.
use Rattle.connections.specs.Articles.{HandsInNothing}
use Rattle.connections.proofs.peer_connection.PeerConnection.send.Given as goal

abbrev pub invariant-loop : goal.invariant-loop
invariant-loop l = HandsInNothing l.initial.self.conn l.self.conn
