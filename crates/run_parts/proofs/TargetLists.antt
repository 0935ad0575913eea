-- Targets and hosts, one more at a time.
use Rattle.std.specs.Prelude.{◌≡◌, ◌+◌, ℕ, List, [], ◌∷◌, ◌++◌, length}
use Rattle.std.proofs.Common.{sym, ◌∙◌, ap, subst, arith, ◌<◌, take, get_or, length-take}
use Rattle.std.proofs.lemmas.List.{take_more}
use Rattle.feed_conf.specs.declared.conf.PeerConf.{PeerConf}
use Rattle.connections.specs.declared.target.PeerTarget.{PeerTarget}
use Rattle.resolver.specs.declared.host.Host.{Host}
use Rattle.run_parts.specs.Targets.{AreHosts, AreTargetsFrom, IsHostOf, IsTargetOf}

pub targets_snoc : (most : ℕ) (accounts : List ℕ) (index : ℕ) (confs : List PeerConf) (targets : List PeerTarget)
    (conf : PeerConf) (target : PeerTarget)
    → AreTargetsFrom most accounts index confs targets → IsTargetOf most accounts (index + length confs) conf target
    → AreTargetsFrom most accounts index (confs ++ conf ∷ []) (targets ++ target ∷ [])
targets_snoc most accounts index [] [] conf target all last =
    let e : index + 0 ≡ index = omega arith in
    (subst (λ at. IsTargetOf most accounts at conf target) e last, tt)
targets_snoc most accounts index [] (q ∷ qs) conf target all last = absurd all
targets_snoc most accounts index (c ∷ cs) [] conf target all last = absurd all
targets_snoc most accounts index (c ∷ cs) (q ∷ qs) conf target all last =
    let e : index + length (c ∷ cs) ≡ (index + 1) + length cs = omega arith in (
      all.0,
      targets_snoc most accounts (index + 1) cs qs conf target all.1
          (subst (λ at. IsTargetOf most accounts at conf target) e last),
    )

pub hosts_snoc : (confs : List PeerConf) (hosts : List Host) (conf : PeerConf) (host : Host)
    → AreHosts confs hosts → IsHostOf conf host → AreHosts (confs ++ conf ∷ []) (hosts ++ host ∷ [])
hosts_snoc [] [] conf host all last = (last, tt)
hosts_snoc [] (h ∷ hs) conf host all last = absurd all
hosts_snoc (c ∷ cs) [] conf host all last = absurd all
hosts_snoc (c ∷ cs) (h ∷ hs) conf host all last = (all.0, hosts_snoc cs hs conf host all.1 last)

pub targets_step : (most : ℕ) (accounts : List ℕ) (confs : List PeerConf) (i : ℕ) (conf : PeerConf)
    (targets : List PeerTarget)
    (target : PeerTarget) (more : List PeerTarget)
    → i < length confs → conf ≡ get_or confs i conf → AreTargetsFrom most accounts 0 (take i confs) targets
    → IsTargetOf most accounts i conf target
    → more ≡ targets ++ target ∷ [] → AreTargetsFrom most accounts 0 (take (i + 1) confs) more
targets_step most accounts confs i conf targets target more within is all last pushed =
    let e : take (i + 1) confs ≡ take i confs ++ conf ∷ [] = take_more confs i conf within
    ∙ ap (λ one. take i confs ++ one ∷ []) (sym is) in
    let n : i ≡ 0 + length (take i confs) = (let m = length-take i confs in omega (arith, m, within)) in
    let snoc = targets_snoc most accounts 0 (take i confs) targets conf target all (subst
    (λ at. IsTargetOf most accounts at conf target) n last) in
    subst (λ cs. AreTargetsFrom most accounts 0 cs more) (sym e) (subst (λ ps. AreTargetsFrom most accounts 0
    (take i confs ++ conf ∷ []) ps) (sym pushed) snoc)

pub hosts_step : (confs : List PeerConf) (i : ℕ) (conf : PeerConf) (hosts : List Host) (host : Host)
    (more : List Host)
    → i < length confs → conf ≡ get_or confs i conf → AreHosts (take i confs) hosts → IsHostOf conf host
    → more ≡ hosts ++ host ∷ [] → AreHosts (take (i + 1) confs) more
hosts_step confs i conf hosts host more within is all last pushed =
    let e : take (i + 1) confs ≡ take i confs ++ conf ∷ [] = take_more confs i conf within
    ∙ ap (λ one. take i confs ++ one ∷ []) (sym is) in
    subst (λ cs. AreHosts cs more) (sym e) (subst (λ hs. AreHosts (take i confs ++ conf ∷ []) hs) (sym pushed)
    (hosts_snoc (take i confs) hosts conf host all last))
