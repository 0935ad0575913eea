-- The peers' values keep the names that were declared.
use Rattle.std.proofs.Common.{map, ap, sym, ◌∙◌, subst}
use Rattle.feed_conf.specs.Bounds.{AreBounded}
use Rattle.feed_conf.specs.ReaderView.{declared_view, index_of}
use Rattle.feed_conf.specs.Settings.{Settings, settings_of}
use Rattle.feed_conf.specs.TableView.{uses_view}
use Rattle.feed_conf.proofs.Lookups.{names-kept}
use Rattle.feed_conf.proofs.settings.make_conf.Goals as goal

pub invariant_of-result : goal.invariant_of-result
invariant_of-result c =
    let uses = uses_view c.deref.result.now in
    let peers = map declared_view c.args.reader.peers.items in
    let same =
    (c.in_ok-peers.ensures uses c.in_ok-table.ensures).0
    ∙ ap (λ z. map (settings_of uses c.deref-2.result.now) (map declared_view z)) c.deref-3.ensures.value in
    record {
      named = λ octets. c.requires.named octets
          ∙ ap (index_of octets)
          (sym (ap (map (λ (peer : Settings). peer.name)) same ∙ names-kept uses c.deref-2.result.now peers));
    }

-- the uses of the table were read, and so they are bounded
pub peer_confs-requires : goal.peer_confs-requires
peer_confs-requires c = (
  uses_view c.deref.result.now,
  c.in_ok-table.ensures,
  subst (λ us. AreBounded (uses_view us))
      (sym c.deref.ensures.value) c.requires.bounded,
)
