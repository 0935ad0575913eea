use Rattle.std.proofs.Common.{None, [], ◌∷◌, ◌++◌, refl, ap, sym, ◌∙◌, subst}
use Rattle.crossbeam_queue.specs.Passes.{view}
use Rattle.note_queue.specs.declared.rule.PassLog.{PassLog}
use Rattle.note_queue.specs.RelayLaws.{stays}
use Rattle.note_queue.specs.Owns.{put_on}
use Rattle.note_queue.proofs.Owning.{Keeps}
use Rattle.note_queue.proofs.Putting.{puts_one}
use Rattle.note_queue.proofs.side.Side.take_one.Goals as goal

pub pop_as-requires-clause-rule : goal.pop_as-requires-clause-rule
pop_as-requires-clause-rule g c =
    (g.met.P.Relays.allows_pops _ _ c.args.self.now.role.0, stays _ _ _)

pub invariant_of-self : goal.invariant_of-self
invariant_of-self g c =
    let old = c.args.self.now in
    let log = view old.pass in
    let new = view c.pop_as.new.pass in
    let received = c.in-Some.ensures.rule in
    let put = c.put.ensures in
    let before : Keeps old.tape log.got_on old.since log.got None =
    subst (λ o. Keeps old.tape log.got_on old.since log.got o) c.requires.none (old.last, old.ledger, old.owner) in
    let keeps : Keeps c.put.new.tape new.got_on old.since new.got c.put.new.kept =
    subst (λ (l : PassLog). Keeps c.put.new.tape l.got_on old.since l.got c.put.new.kept) (sym received)
    (put.last log.got, put.ledger log.got_on log.got before.1, put.owner log.got_on old.since log.got before.2) in
    record {
      role = (ap (λ l. l.pops) received ∙ old.role.0, c.in-Some.ensures.queue.2 ∙ old.role.1);
      last = keeps.0;
      ledger = keeps.1;
      owner = keeps.2;
    }

pub invariant_of-self-in-None : goal.invariant_of-self-in-None
invariant_of-self-in-None g c =
    let old = c.args.self.now in
    let new = view c.pop_as.new.pass in
    let same = c.in-None.ensures.rule.0 in
    let keeps : Keeps old.tape new.got_on old.since new.got old.kept =
    subst (λ (l : PassLog). Keeps old.tape l.got_on old.since l.got old.kept) (sym same)
    (old.last, old.ledger, old.owner) in
    record {
      role = (ap (λ l. l.pops) same ∙ old.role.0, c.in-None.ensures.queue.2 ∙ old.role.1);
      last = keeps.0;
      ledger = keeps.1;
      owner = keeps.2;
    }

pub returns-in_err-put-in-Some-clause-puts : goal.returns-in_err-put-in-Some-clause-puts
returns-in_err-put-in-Some-clause-puts g c =
    let old = c.args.self.now in
    let log = view old.pass in
    let note = c.in-Some.note in
    let put = c.put.ensures in
    puts_one old _ note c.put.result put.takes put.ok put.worked put.err
    (ap (λ (l : PassLog). l.got) c.in-Some.ensures.rule
    ∙ ap (λ o. put_on log.got o ++ note ∷ []) (sym c.requires.none)) refl

pub returns-in_ok-put-in-Some-clause-puts : goal.returns-in_ok-put-in-Some-clause-puts
returns-in_ok-put-in-Some-clause-puts g c =
    let old = c.args.self.now in
    let log = view old.pass in
    let note = c.in-Some.note in
    let put = c.put.ensures in
    puts_one old _ note c.put.result put.takes put.ok put.worked put.err
    (ap (λ (l : PassLog). l.got) c.in-Some.ensures.rule
    ∙ ap (λ o. put_on log.got o ++ note ∷ []) (sym c.requires.none)) refl
