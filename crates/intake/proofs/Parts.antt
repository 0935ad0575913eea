-- Peers that are open or left out, one more at a time.
use Rattle.std.specs.Prelude.{◌≡◌, ◌⊎◌, ◌++◌, Bool, true, false, List, [], ◌∷◌, refl}
use Rattle.std.proofs.Common.{sym, ◌∙◌, ap, subst, inl, inr, ⊎_elim}
use Rattle.std.proofs.lemmas.List.{append-nil, append_assoc}
use Rattle.feed_conf.specs.declared.conf.PeerConf.{PeerConf}
use Rattle.intake.specs.Tapes.{AddsPeer, AreParted}
use Rattle.intake.specs.declared.tapes.LeftOut.{LeftOut}
use Rattle.intake.specs.declared.tapes.OpenedPeers.{OpenedPeers}

pub parted_step : (peers rest more : List PeerConf) (leaves_out : Bool) (conf : PeerConf) (old new : OpenedPeers)
    → rest ≡ conf ∷ more
    → ((confs : List PeerConf) (left_out : List LeftOut) → AreParted rest confs left_out
    → AreParted peers (old.confs.items ++ confs) (old.left_out.items ++ left_out))
    → AddsPeer leaves_out conf old new
    → ((confs : List PeerConf) (left_out : List LeftOut) → AreParted more confs left_out
    → AreParted peers (new.confs.items ++ confs) (new.left_out.items ++ left_out))
parted_step peers rest more leaves_out conf old new next so_far (inl (added, same)) confs left_out parts =
    let first : AreParted rest (conf ∷ confs) left_out =
    subst (λ ps. AreParted ps (conf ∷ confs) left_out) (sym next) (inl (confs, refl, parts)) in
    subst (λ cs. AreParted peers cs (new.left_out.items ++ left_out))
    (sym (ap (λ cs. cs ++ confs) added ∙ append_assoc old.confs.items (conf ∷ []) confs))
    (subst (λ ls. AreParted peers (old.confs.items ++ (conf ∷ confs)) (ls ++ left_out)) (sym same)
    (so_far (conf ∷ confs) left_out first))
parted_step peers rest more leaves conf old new next so_far (inr (left, may, is, added, same)) confs left_out parts =
    let first : AreParted rest confs (left ∷ left_out) =
    subst (λ ps. AreParted ps confs (left ∷ left_out)) (sym next) (inr (left, left_out, refl, is, parts)) in
    subst (λ ls. AreParted peers (new.confs.items ++ confs) ls)
    (sym (ap (λ ls. ls ++ left_out) added ∙ append_assoc old.left_out.items (left ∷ []) left_out))
    (subst (λ cs. AreParted peers (cs ++ confs) (old.left_out.items ++ (left ∷ left_out))) (sym same)
    (so_far confs (left ∷ left_out) first))

pub none_left_out : (leaves_out : Bool) (conf : PeerConf) (old new : OpenedPeers) → AddsPeer leaves_out conf old new
    → leaves_out ≡ false → old.left_out.items ≡ [] → new.left_out.items ≡ []
none_left_out leaves_out conf old new (inl (added, same)) not none = same ∙ none
none_left_out leaves_out conf old new (inr (left, may, is, added, same)) not none = absurd-both (sym may ∙ not)
  where
    absurd-both : true ≡ false → new.left_out.items ≡ []
    absurd-both e = cc

pub parted_all : (peers confs : List PeerConf) (left_out : List LeftOut)
    → ((more : List PeerConf) (left : List LeftOut) → AreParted [] more left
    → AreParted peers (confs ++ more) (left_out ++ left))
    → AreParted peers confs left_out
parted_all peers confs left_out whole =
    subst (λ cs. AreParted peers cs left_out) (append-nil confs)
    (subst (λ ls. AreParted peers (confs ++ []) ls) (append-nil left_out) (whole [] [] (refl, refl)))
