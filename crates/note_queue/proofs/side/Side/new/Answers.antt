use Rattle.std.proofs.Common.{ℕ, None, [], refl, sym, ap, subst}
use Rattle.crossbeam_queue.specs.Passes.{view}
use Rattle.note_queue.specs.declared.rule.PassLog.{PassLog}
use Rattle.note_queue.specs.Owns.{IsOwner}
use Rattle.note_queue.proofs.Owning.{Keeps, owner_begins}
use Rattle.note_queue.proofs.side.Side.new.Goals as goal
use Rattle.recovery.specs.Words.{ledger_of}

pub invariant_of-result : goal.invariant_of-result
invariant_of-result g c =
    let tape = c.args.tape in
    let first = c.requires.pass.0 in
    let log = view c.args.pass in
    let since = c.flushed-since.result in
    let owner = subst (λ (n : ℕ). ∥ IsOwner tape (ledger_of tape) n [] ∥₁) (sym c.flushed-since.ensures.flushed)
    (owner_begins tape c.requires.works c.requires.none_pends c.requires.kept) in
    let keeps : Keeps tape log.got_on since log.got None =
    subst (λ (l : PassLog). Keeps tape l.got_on since l.got None) (sym first) (refl, refl, owner) in
    record { role = (ap (λ l. l.pops) first, c.requires.pass.1); last = keeps.0; ledger = keeps.1; owner = keeps.2 }
