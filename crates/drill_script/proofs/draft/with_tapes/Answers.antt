-- One more peer is given its tape at each turn.
use Rattle.std.proofs.Common.{◌≡◌, ◌+◌, ◌<◌, ◌++◌, ◌∷◌, [], ℕ, List, length, map, get_or, option_map, vec_len, refl}
use Rattle.std.proofs.Common.{sym, ap, ◌∙◌, subst, arith, length-append}
use Rattle.std.specs.List.{AllZip}
use Rattle.std.specs.Vec.{vec_items}
use Rattle.std.proofs.lemmas.Iterator.Adapters.{YieldsList-from_vec}
use Rattle.std.proofs.lemmas.Iterator.Consumers.{YieldsList-end, YieldsList-turn}
use Rattle.std.proofs.lemmas.List.{get_or-map, length-map, map-id}
use Rattle.feed_conf.specs.declared.conf.PeerConf.{PeerConf}
use Rattle.drill_script.specs.Draft.{IsGiven, held_at}
use Rattle.world_core.specs.Given.{GivenDisks}
use Rattle.drill_script.proofs.Growing.{zip_push}
use Rattle.drill_script.proofs.Held.{Keeps, KeepsFrom, given_octets, keeps_next}
use Rattle.drill_script.proofs.Names.{Octets}
use Rattle.drill_script.proofs.draft.with_tapes.Goals as goal

pub loop-conf-init : goal.loop-conf-init
loop-conf-init c = record {
  each = λ distinct. subst (λ (given : List GivenDisks). AllZip (IsGiven c.args.firsts c.args.seconds) [] given)
      (sym c.in_ok-given.ensures.items) tt;
  firsts = λ distinct k low high. refl;
  seconds = λ distinct k low high. refl;
}

pub loop-conf-preserved : goal.loop-conf-preserved
loop-conf-preserved c =
    let l = c.loop-conf in
    let conf = c.in-Some.conf in
    let peers = c.args.peers.items in
    let one = c.args.firsts in
    let other = c.args.seconds in
    let name : PeerConf → List ℕ = λ (p : PeerConf). p.name in
    let names = map name peers in
    let gives = c.into_iter-conf-iterator.ensures.into_iter_gives in
    let long : vec_len c.args.peers ≡ length peers = omega arith in
    let road = YieldsList-from_vec {s = c.into_iter-conf-iterator.result} peers gives.0 (gives.1 ∙ long) in
    let turn = YieldsList-turn road l.yielded l.conf-iterator l.yielded_by c.next.result c.next.new.self conf
    c.in-Some.is c.next.ensures.steps in
    let at : get_or names (length l.yielded) [] ≡ conf.name =
    get_or-map name peers (length l.yielded) conf [] turn.0 ∙ sym (ap name turn.1) in
    let inside : length l.yielded < length names =
    subst (λ (n : ℕ). length l.yielded < n) (sym (length-map peers name)) turn.0 in
    let next : length (l.yielded ++ conf ∷ []) ≡ length l.yielded + 1 = simp length-append (omega arith) in
    let kept : Keeps conf.name l.firsts c.remove.new.self =
    subst (λ (n : List ℕ). Keeps n l.firsts c.remove.new.self) c.bytes.ensures.value c.remove.ensures.updates.3 in
    let kept_too : Keeps conf.name l.seconds c.remove-in-loop-conf.new.self =
    subst (λ (n : List ℕ). Keeps n l.seconds c.remove-in-loop-conf.new.self) c.bytes-in-loop-conf.ensures.value
    c.remove-in-loop-conf.ensures.updates.3 in
    record {
      each = λ distinct.
          let before : held_at l.firsts conf.name ≡ held_at one conf.name =
          subst (λ (n : List ℕ). held_at l.firsts n ≡ held_at one n) at
          (l.invariant.firsts distinct (length l.yielded) (omega arith) inside) in
          let before_too : held_at l.seconds conf.name ≡ held_at other conf.name =
          subst (λ (n : List ℕ). held_at l.seconds n ≡ held_at other n) at
          (l.invariant.seconds distinct (length l.yielded) (omega arith) inside) in
          let told : option_map vec_items c.remove.result ≡ held_at one conf.name =
          ap (option_map vec_items) c.remove.ensures.value ∙ ap (held_at l.firsts) c.bytes.ensures.value ∙ before in
          let told_too : option_map vec_items c.remove-in-loop-conf.result ≡ held_at other conf.name =
          ap (option_map vec_items) c.remove-in-loop-conf.ensures.value
          ∙ ap (held_at l.seconds) c.bytes-in-loop-conf.ensures.value
          ∙ before_too in
          let first =
          ap (λ (o : Octets). o.items) c.unwrap_or-first.ensures
          ∙ given_octets c.remove.result c.new.result (held_at one conf.name) told c.new.ensures.items in
          let second =
          ap (λ (o : Octets). o.items) c.unwrap_or-second.ensures
          ∙ given_octets c.remove-in-loop-conf.result c.new-in-loop-conf.result (held_at other conf.name) told_too
          c.new-in-loop-conf.ensures.items in
          subst (λ (given : List GivenDisks). AllZip (IsGiven one other) (l.yielded ++ conf ∷ []) given)
          (sym c.in_ok-push.ensures.items)
          (zip_push (IsGiven one other) l.yielded l.given.items conf
          (conf, c.unwrap_or-first.result, c.unwrap_or-second.result)
          (l.invariant.each distinct) (record { conf_is = refl; first = first; second = second }));
      firsts = λ distinct. subst (λ (n : ℕ). KeepsFrom names n one c.remove.new.self) (sym next)
          (keeps_next names (length l.yielded) conf.name one l.firsts c.remove.new.self distinct at kept
          (l.invariant.firsts distinct));
      seconds = λ distinct. subst (λ (n : ℕ). KeepsFrom names n other c.remove-in-loop-conf.new.self) (sym next)
          (keeps_next names (length l.yielded) conf.name other l.seconds c.remove-in-loop-conf.new.self distinct at
          kept_too
          (l.invariant.seconds distinct));
    }

pub returns : goal.returns
returns c = λ distinct.
    let l = c.loop-conf in
    let gives = c.into_iter-conf-iterator.ensures.into_iter_gives in
    let long : vec_len c.args.peers ≡ length c.args.peers.items = omega arith in
    let road = YieldsList-from_vec {s = c.into_iter-conf-iterator.result} c.args.peers.items gives.0 (gives.1 ∙ long) in
    let all = YieldsList-end road l.yielded l.conf-iterator l.yielded_by c.next.result c.next.new.self c.in-None.is
    c.next.ensures.steps in
    subst (λ (confs : List PeerConf). AllZip (IsGiven c.args.firsts c.args.seconds) confs l.given.items)
    (sym (map-id l.yielded) ∙ all.0) (l.invariant.each distinct)
