-- What is left and the peers so far make up the whole: whatever words are left, the text has words whose peers are these.
use Rattle.std.proofs.Common.{List, ℕ, ◌++◌, length}
use Rattle.funnel.specs.LineLaws.{HasPeers}
use Rattle.funnel.proofs.line.read_peers.Given as goal

abbrev pub invariant-loop-word : goal.invariant-loop-word
invariant-loop-word l = (others : List (List ℕ)) → HasPeers l.left others → HasPeers l.text (l.peers.items ++ others)

abbrev pub decreases-loop-word : goal.decreases-loop-word
decreases-loop-word l = length l.left
