-- The new name gets the index after all others.
use Rattle.std.proofs.Common.{◌≡◌, length, map, Some, cond, ap, sym, ◌∙◌, arith}
use Rattle.std.specs.BTreeMap.{get_by_text}
use Rattle.std.specs.String.{string_bytes}
use Rattle.std.specs.Str.{bytes_eq}
use Rattle.std.proofs.lemmas.List.{map-append, length-map}
use Rattle.std.proofs.lemmas.Map.Text.{btree_map_updates_text}
use Rattle.feed_conf.specs.Reading.{Declared}
use Rattle.feed_conf.specs.ReaderView.{declared_view, index_of}
use Rattle.feed_conf.proofs.Names.{index-none, index-push}
use Rattle.feed_conf.proofs.reader.Reader.declare.Goals as goal

pub returns-clause-named : goal.returns-clause-named
returns-clause-named c = λ octets.
    let name = c.args.name in
    let index = c.len-index.result in
    let key = c.in_ok-key.key in
    let names = c.in_ok-reader.reader.names in
    let old = map declared_view c.args.self.peers.items in
    let held = map (λ (peer : Declared). peer.name) old in
    let size : length held ≡ index =
    omega (arith, length-map old (λ (peer : Declared). peer.name), length-map c.args.self.peers.items declared_view, c.args.self.peers.ok.0, c.len-index.ensures) in
    let is : string_bytes key ≡ name = c.in_ok-key.ensures.ok ∙ c.text_of.ensures in
    let found : get_by_text c.insert.new.self octets ≡ cond (bytes_eq (string_bytes key) octets) (Some index) (get_by_text names octets) =
    btree_map_updates_text (string_bytes key) names c.insert.new.self (Some index) c.in_ok-insert.ensures.updates octets in
    let before : get_by_text names octets ≡ index_of octets held = ap (λ m. get_by_text m octets) c.in_ok-reader.ensures.keeps_names.0 ∙ c.requires.named octets in
    rw (c.in_ok-push.ensures.items, c.in_ok-reader.ensures.keeps_names.1, map-append, map-append)
    (found ∙ ap (λ z. cond (bytes_eq z octets) (Some index) (get_by_text names octets)) is
    ∙ ap (λ z. cond (bytes_eq name octets) (Some index) z) before
    ∙ ap (λ n. cond (bytes_eq name octets) (Some n) (index_of octets held)) (sym size)
    ∙ sym (index-push octets name held (index-none name old c.requires.fresh)))
