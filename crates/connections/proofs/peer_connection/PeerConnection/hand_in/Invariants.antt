-- The articles that were handed in so far.
use Rattle.connections.specs.Articles.{AllStayFound, IsFoundFor}
use Rattle.connections.proofs.peer_connection.PeerConnection.hand_in.Given as goal

abbrev pub invariant-loop : goal.invariant-loop
invariant-loop g l = AllStayFound (IsFoundFor g.A.ArticleSource.gives) l.initial.self.conn l.self.conn
