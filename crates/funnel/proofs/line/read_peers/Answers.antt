-- A word is added to the peers so far or skipped, and at the end only blanks are left.
use Rattle.std.proofs.Common.{◌≡◌, ℕ, true, false, List, [], ◌∷◌, ◌++◌, subst, sym, refl, ◌∙◌, ap, append_assoc}
use Rattle.std.proofs.Common.{append-nil}
use Rattle.std.proofs.lemmas.Bool.{false_from_ne_true, false≢true}
use Rattle.funnel.specs.LineLaws.{HasPeers, peers_first, peers_passed, peers_none}
use Rattle.funnel.specs.Names.{is_peer_name}
use Rattle.funnel.specs.Words.{IsFirstWord}
use Rattle.funnel.proofs.line.read_peers.Goals as goal

pushed : (text left word behind peer : List ℕ) (so_far next others : List (List ℕ)) → ((more : List (List ℕ)) → HasPeers left more → HasPeers text (so_far ++ more))
    → IsFirstWord left word behind → is_peer_name word ≡ true → peer ≡ word → next ≡ so_far ++ peer ∷ [] → HasPeers behind others → HasPeers text (next ++ others)
pushed text left word behind peer so_far next others kept first form same after h =
    let list : next ++ others ≡ so_far ++ (word ∷ others) = ap (λ names. names ++ others) (after ∙ ap (λ name. so_far ++ name ∷ []) same) ∙ append_assoc so_far (word ∷ []) others in
    subst (λ names. HasPeers text names) (sym list) (kept (word ∷ others) (peers_first left word behind others first form h))

pub loop-word-preserved-in_ok-push : goal.loop-word-preserved-in_ok-push
loop-word-preserved-in_ok-push c = λ others h.
    let peer = rw c.in-Some-2.is at c.in_ok-peer.ensures in
    pushed c.args.text.now c.loop-word.left.now c.in-Some.word.now c.in-Some.behind.now c.in-Some-2.peer c.loop-word.peers.items c.push.new.self.items others
    c.loop-word.invariant c.in-Some.ensures.word (peer.found.0 refl) peer.value c.in_ok-push.ensures.items h

pub loop-word-preserved : goal.loop-word-preserved
loop-word-preserved c = λ others h.
    let peer = rw c.in_default-2.is at c.in_ok-peer.ensures in
    let form : is_peer_name c.in-Some.word.now ≡ false = false_from_ne_true (is_peer_name c.in-Some.word.now) (λ is. false≢true (peer.found.1 is)) in
    c.loop-word.invariant others (peers_passed c.loop-word.left.now c.in-Some.word.now c.in-Some.behind.now others c.in-Some.ensures.word form h)

pub returns : goal.returns
returns c = rw append-nil at (c.loop-word.invariant [] (peers_none c.loop-word.left.now c.in_default.ensures.word))
