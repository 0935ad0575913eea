use Rattle.std.proofs.Common.{ℕ, List, None, Some, map, ap, ◌∙◌, sym, subst, rules}
use Rattle.std.specs.List.Sorted.{IsPermutation}
use Rattle.std.proofs.lemmas.Cmp.{nat_list_cmp_total}
use Rattle.std.proofs.lemmas.List.Sorted.{IsPermutation-map, answers_always, ranks_by}
use Rattle.std.proofs.lemmas.Simd.{map-map}
use Rattle.feed_conf.specs.PeerView.{settings_view}
use Rattle.feed_conf.specs.Settings.{Settings}
use Rattle.feed_conf.specs.declared.conf.PeerConf.{PeerConf}
use Rattle.drill_script.specs.Script.{IsInByteOrder, held_of, names_of, peers_of}
use Rattle.drill_script.specs.declared.disk_name.TapeDisk.TheVariants.{First, Second}
use Rattle.drill_script.proofs.Distinct.{permuted_differ}
use Rattle.drill_script.proofs.Held.{given_confs, given_octets, given_tapes}
use Rattle.drill_script.proofs.Names.{Octets}
use Rattle.drill_script.proofs.draft.Draft.finish.Goals as goal

pub returns : goal.returns
returns c = λ sentences drafts.
    let confs = c.sort_by.new.self.items in
    let given = c.in_ok-with_tapes.field-0.items in
    let firsts = c.args.self.firsts in
    let seconds = c.args.self.seconds in
    let permuted =
    subst (λ (ps : List Settings). IsPermutation ps (map settings_view confs)) drafts.peers
    (IsPermutation-map settings_view c.args.self.peers.items confs c.in_ok-sort_by.ensures.permutation) in
    let names =
    subst (λ (ns : List (List ℕ)). IsPermutation (names_of sentences) ns)
    (map-map (λ (p : Settings). p.name) settings_view confs)
    (IsPermutation-map (λ (p : Settings). p.name) (peers_of sentences) (map settings_view confs) permuted) in
    let all =
    c.in_ok-with_tapes.ensures {u = tt}
    (permuted_differ (names_of sentences) (map (λ (conf : PeerConf). conf.name) confs) names drafts.distinct) in
    let same = given_confs firsts.peers seconds.peers confs given all in
    let sorted =
    c.in_ok-sort_by.ensures.sorted _ (ranks_by nat_list_cmp_total (λ (peer : PeerConf). peer.name))
    (answers_always _ _ _ (λ f a r q k. search rules)) in
    record {
      peers =
          subst (λ (cs : List PeerConf). IsPermutation (peers_of sentences) (map settings_view cs)) (sym same) permuted;
      tapes = given_tapes firsts.peers seconds.peers sentences
          (λ name. drafts.tapes (record { peer = Some name; disk = First }))
          (λ name. drafts.tapes (record { peer = Some name; disk = Second })) confs given all;
      intake = (
        ap (λ (o : Octets). o.items) c.unwrap_or.ensures
            ∙ given_octets firsts.intake c.new.result (held_of sentences (record { peer = None; disk = First }))
            (drafts.tapes (record { peer = None; disk = First })) c.new.ensures.items,
        ap (λ (o : Octets). o.items) c.unwrap_or-2.ensures
            ∙ given_octets seconds.intake c.new-2.result (held_of sentences (record { peer = None; disk = Second }))
            (drafts.tapes (record { peer = None; disk = Second })) c.new-2.ensures.items,
      );
      order = subst IsInByteOrder (sym same) sorted;
      steps = drafts.steps;
      lines = drafts.lines;
    }
