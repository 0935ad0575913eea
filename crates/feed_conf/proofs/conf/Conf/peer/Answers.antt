-- The map gives the index of the first peer of the name.
use Rattle.std.proofs.Common.{◌≡◌, ap, sym, ◌∙◌, map, None, Some}
use Rattle.std.specs.List.{slice_get}
use Rattle.std.specs.Option.{option_map}
use Rattle.std.specs.BTreeMap.{get_by_text}
use Rattle.std.proofs.lemmas.Option.{slice_get-map}
use Rattle.feed_conf.specs.ReaderView.{index_of}
use Rattle.feed_conf.specs.Settings.{Settings}
use Rattle.feed_conf.specs.PeerView.{settings_view}
use Rattle.feed_conf.proofs.Lookups.{at_index, find-index, item-copied}
use Rattle.feed_conf.proofs.conf.Conf.peer.Goals as goal

pub returns-in-None : goal.returns-in-None
returns-in-None c =
    let conf = c.args.self.now in
    let name = c.args.name.now in
    let peers = map settings_view conf.peers.items in
    let none : None ≡ index_of name (map (λ (peer : Settings). peer.name) peers) =
    c.in-None.ensures.value ∙ ap (λ octets. get_by_text conf.names octets) c.text_of.ensures ∙ conf.named name in
    sym (find-index name peers ∙ ap (λ index. at_index index peers) (sym none))

pub returns-in-Some : goal.returns-in-Some
returns-in-Some c =
    let conf = c.args.self.now in
    let name = c.args.name.now in
    let peers = map settings_view conf.peers.items in
    let index = c.in-Some.index.now in
    let some : Some index ≡ index_of name (map (λ (peer : Settings). peer.name) peers) =
    c.in-Some.ensures.value ∙ ap (λ octets. get_by_text conf.names octets) c.text_of.ensures ∙ conf.named name in
    ap (option_map settings_view) (item-copied c.deref.result.now index c.get-in-Some.result c.get-in-Some.ensures.lookup ∙ ap (λ items. slice_get items index) c.deref.ensures.value)
    ∙ sym (slice_get-map settings_view conf.peers.items index) ∙ ap (λ found. at_index found peers) some ∙ sym (find-index name peers)
