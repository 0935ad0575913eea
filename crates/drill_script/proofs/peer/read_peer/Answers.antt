-- What is said of the only line is what the reader of settings made of it.
use Rattle.std.proofs.Common.{◌≡◌, ℕ, List, sym, ◌∙◌, subst}
use Rattle.feed_conf.specs.ConfView.{conf_view}
use Rattle.feed_conf.specs.Reading.{HaveLexemes, lines_of}
use Rattle.drill_script.specs.Peer.{peer_text}
use Rattle.drill_script.proofs.Peers.{says_found, says_none}
use Rattle.drill_script.proofs.peer.read_peer.Goals as goal

pub returns-in-Ok : goal.returns-in-Ok
returns-in-Ok c =
    let name = c.split_peer.result.0.now in
    let items = c.split_peer.result.1.now in
    let text : c.deref.result.now ≡ peer_text name items = c.deref.ensures.value ∙ c.in_ok-text.ensures in
    let lexemes = c.read_conf.ensures.lexemes in
    says_found c.args.declaration.now name items c.split_peer.ensures.solid c.split_peer.ensures.parts
    (conf_view c.in-Ok.conf) c.into_peers.result.items c.only_peer.result
    (λ lines have. c.in-Ok.ensures.meaning lines (subst (λ (t : List ℕ). HaveLexemes (lines_of t) lines)
    (sym text) have))
    lexemes.0 (subst (λ (t : List ℕ). HaveLexemes (lines_of t) lexemes.0) text lexemes.1) c.into_peers.ensures
    c.only_peer.ensures

pub returns : goal.returns
returns c =
    let name = c.split_peer.result.0.now in
    let items = c.split_peer.result.1.now in
    let text : c.deref.result.now ≡ peer_text name items = c.deref.ensures.value ∙ c.in_ok-text.ensures in
    says_none c.args.declaration.now name items c.split_peer.ensures.solid c.split_peer.ensures.parts c.in-Err.fault
    (λ lines have. c.in-Err.ensures.meaning lines (subst (λ (t : List ℕ). HaveLexemes (lines_of t) lines)
    (sym text) have) c.in_default.not-NoMemory)
