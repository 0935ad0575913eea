-- A name has an index if a peer of that name is declared.
use Rattle.std.proofs.Common.{ap, map, ◌∙◌}
use Rattle.std.specs.Option.{is_some}
use Rattle.std.specs.BTreeMap.{get_by_text}
use Rattle.feed_conf.specs.ReaderView.{declared_view}
use Rattle.feed_conf.proofs.Names.{index-declared}
use Rattle.feed_conf.proofs.reader.Reader.is_declared.Goals as goal

pub returns : goal.returns
returns c =
    let names = c.args.self.now.names in
    c.contains_key.ensures ∙ ap (λ octets. is_some (get_by_text names octets)) c.text_of.ensures ∙ ap is_some (c.requires c.args.name.now)
    ∙ index-declared c.args.name.now (map declared_view c.args.self.now.peers.items)
