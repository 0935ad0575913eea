-- Texts that are added one after another.
use Rattle.std.proofs.Common.{◌≡◌, ◌<◌, ◌+◌, ℕ, List, [], ◌∷◌, ◌++◌, ◌∙◌, refl, ap, sym, map, append_assoc}
use Rattle.std.proofs.Common.{append-nil, get_or, length, take}
use Rattle.std.proofs.lemmas.Grind.{flat_map-append}
use Rattle.std.proofs.lemmas.List.{take_more}
use Rattle.std.specs.Prelude.{flat_map}
use Rattle.feed_conf.specs.PeerView.{settings_view}
use Rattle.feed_conf.specs.declared.conf.PeerConf.{PeerConf}
use Rattle.conf_text.specs.ConfText.{peer_text}

-- one text, and then another
pub added : (old mid new a b : List ℕ) → mid ≡ old ++ a → new ≡ mid ++ b → new ≡ old ++ (a ++ b)
added old mid new a b first second = second ∙ (ap (λ text. text ++ b) first ∙ append_assoc old a b)

-- the text of a peer, by its settings
abbrev pub text_of : PeerConf → List ℕ
text_of peer = peer_text (settings_view peer)

-- each peer's text
pub each-mapped : (peers : List PeerConf) → flat_map peer_text (map settings_view peers) ≡ flat_map text_of peers
each-mapped [] = refl
each-mapped (peer ∷ peers) = ap (λ text. text_of peer ++ text) (each-mapped peers)

-- the first peers' texts, and then that of the next one
pub one-more : (peers : List PeerConf) (index : ℕ) (peer : PeerConf) (old mid new : List ℕ) → index < length peers
    → peer ≡ get_or peers index peer → mid ≡ old ++ flat_map text_of (take index peers) → new ≡ mid ++ text_of peer
    → new ≡ old ++ flat_map text_of (take (index + 1) peers)
one-more peers index peer old mid new below is first second =
    let these = take index peers in
    let next : take (index + 1) peers ≡ these ++ peer ∷ [] =
    take_more peers index peer below ∙ ap (λ one. these ++ one ∷ []) (sym is) in
    let texts : flat_map text_of (take (index + 1) peers) ≡ flat_map text_of these ++ text_of peer =
    ap (λ some. flat_map text_of some) next ∙ (flat_map-append text_of these (peer ∷ [])
    ∙ ap (λ text. flat_map text_of these ++ text) (append-nil (text_of peer))) in
    added old mid new (flat_map text_of these) (text_of peer) first second
    ∙ ap (λ text. old ++ text) (sym texts)
