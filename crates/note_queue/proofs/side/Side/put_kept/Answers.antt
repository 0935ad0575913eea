use Rattle.std.proofs.Common.{◌≡◌, List, None, refl, sym, ◌∙◌, subst}
use Rattle.crossbeam_queue.specs.Passes.{view}
use Rattle.ledger_core.specs.declared.note.Note.{Note}
use Rattle.note_queue.specs.Owns.{put_on}
use Rattle.note_queue.proofs.Owning.{Keeps, kept_first}
use Rattle.note_queue.proofs.Putting.{puts_one}
use Rattle.note_queue.proofs.side.Side.put_kept.Goals as goal

pub invariant_of-self : goal.invariant_of-self
invariant_of-self g c =
    let old = c.args.self.now in
    let log = view old.pass in
    let put = c.put.ensures in
    let notes = put_on log.got old.kept in
    let note = c.in-Some.note in
    let last = kept_first log.got old.kept note (sym c.take.ensures.value ∙ c.in-Some.is) old.last in
    let keeps : Keeps c.put.new.tape log.got_on old.since log.got c.put.new.kept =
    subst (λ (l : List Note). Keeps c.put.new.tape log.got_on old.since l c.put.new.kept) last
    (put.last notes, put.ledger log.got_on notes old.ledger, put.owner log.got_on old.since notes old.owner) in
    record { role = old.role; last = keeps.0; ledger = keeps.1; owner = keeps.2 }

pub invariant_of-self-in-None : goal.invariant_of-self-in-None
invariant_of-self-in-None g c =
    let old = c.args.self.now in
    let log = view old.pass in
    let none : old.kept ≡ None = sym c.take.ensures.value ∙ c.in-None.is in
    let keeps : Keeps old.tape log.got_on old.since log.got c.take.new.self =
    subst (λ o. Keeps old.tape log.got_on old.since log.got o) (none ∙ sym c.take.ensures.after)
    (old.last, old.ledger, old.owner) in
    record { role = old.role; last = keeps.0; ledger = keeps.1; owner = keeps.2 }

pub returns-in-Some-clause-puts : goal.returns-in-Some-clause-puts
returns-in-Some-clause-puts g c =
    let old = c.args.self.now in
    let log = view old.pass in
    let put = c.put.ensures in
    let note = c.in-Some.note in
    puts_one old _ note c.put.result put.takes put.ok put.worked put.err
    (sym (kept_first log.got old.kept note (sym c.take.ensures.value ∙ c.in-Some.is) old.last)) refl
