-- One more has no octets at each turn.
use Rattle.std.proofs.Common.{◌≡◌, ◌++◌, ◌∷◌, [], List, length, vec_len, refl, sym, ◌∙◌, subst, arith}
use Rattle.std.proofs.lemmas.Iterator.Adapters.{YieldsList-from_vec}
use Rattle.std.proofs.lemmas.Iterator.Consumers.{YieldsList-end}
use Rattle.std.proofs.lemmas.List.{map-id}
use Rattle.std.specs.List.{AllZip}
use Rattle.feed_conf.specs.declared.conf.PeerConf.{PeerConf}
use Rattle.world_core.specs.Given.{GivenPeer}
use Rattle.world_core.specs.Making.{HasNoOctets}
use Rattle.world_core.proofs.RelatedLists.{zip_push}
use Rattle.world_core.proofs.make.with_no_octets.Goals as goal

pub loop-conf-init : goal.loop-conf-init
loop-conf-init c = subst (λ (given : List GivenPeer). AllZip HasNoOctets [] given) (sym c.new-given.ensures.items) tt

pub loop-conf-preserved : goal.loop-conf-preserved
loop-conf-preserved c =
    let l = c.loop-conf in
    subst (λ (given : List GivenPeer). AllZip HasNoOctets (l.yielded ++ c.in-Some.conf ∷ []) given)
    (sym c.in_ok-push.ensures.items)
    (zip_push HasNoOctets l.yielded l.given.items c.in-Some.conf _ l.invariant
    (record { conf_is = refl; none = c.new.ensures.items }))

pub returns : goal.returns
returns c =
    let l = c.loop-conf in
    let gives = c.into_iter-conf-iterator.ensures.into_iter_gives in
    let long : vec_len c.args.confs ≡ length c.args.confs.items = omega arith in
    let road = YieldsList-from_vec {s = c.into_iter-conf-iterator.result} c.args.confs.items gives.0 (gives.1 ∙ long) in
    let all = YieldsList-end road l.yielded l.conf-iterator l.yielded_by c.next.result c.next.new.self c.in-None.is
    c.next.ensures.steps in
    subst (λ (confs : List PeerConf). AllZip HasNoOctets confs l.given.items) (sym (map-id l.yielded) ∙ all.0)
    l.invariant
