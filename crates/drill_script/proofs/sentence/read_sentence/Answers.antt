use Rattle.std.proofs.Common.{◌≡◌, ◌++◌, ℕ, List, rules, subst, sym}
use Rattle.std.specs.Prelude.{codes}
use Rattle.std.proofs.lemmas.Option.{MatchOption-at_none, MatchOption-at_some}
use Rattle.drill_script.specs.Peer.{SaysPeer}
use Rattle.feed_conf.specs.PeerView.{settings_view}
use Rattle.drill_script.proofs.Once.{no_tape_none}
use Rattle.drill_script.proofs.sentence.read_sentence.Goals as goal

pub returns-in-Some-3 : goal.returns-in-Some-3
returns-in-Some-3 c =
    let text = c.in-Some-strip_prefix.text.now in
    let e : c.args.line.now ≡ codes "tape " ++ text = search rules in
    (text, e, MatchOption-at_some _ _ _ c.in-Some-3.is (c.in_ok-name.ensures {u = tt}))

pub returns-in-None-2 : goal.returns-in-None-2
returns-in-None-2 c =
    let text = c.in-Some-strip_prefix.text.now in
    let e : c.args.line.now ≡ codes "tape " ++ text = search rules in
    no_tape_none c.args.line.now text e
    (MatchOption-at_none _ _ c.in-None-2.is (c.in_ok-name.ensures {u = tt}))

pub returns-in-Some-2 : goal.returns-in-Some-2
returns-in-Some-2 c =
    let e : c.args.line.now ≡ codes "peer " ++ c.in-Some.declaration.now = search rules in
    subst (λ (l : List ℕ). SaysPeer l (settings_view c.in-Some-2.conf)) (sym e)
    (MatchOption-at_some _ _ _ c.in-Some-2.is (c.in_ok-conf.ensures {u = tt}))
