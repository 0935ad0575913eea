-- The debts of the keys so far, read back.
use Rattle.std.proofs.Common.{◌≡◌, map, option_map, refl, ap, ◌∙◌}
use Rattle.ledger_core.specs.Index.{debt_at}
use Rattle.ledger_core.specs.State.{State}
use Rattle.recovery.specs.Texts.{lengths_of}
use Rattle.recovery.specs.Words.{ledger_of}
use Rattle.recovery.proofs.Debts.{debts_then, lengths_then, with_found}
use Rattle.recovery.proofs.Readings.{read_ledger, read_then}
use Rattle.recovery.proofs.tape.Tape.debts_each.Goals.{in-Some+in_ok-push, in_default}
use Rattle.recovery.proofs.tape.Tape.debts_each.Goals as goal

pub loop-key-preserved : goal.loop-key-preserved
loop-key-preserved g c =
    let tape = c.args.self.now in
    let loop = c.loop-key in
    let was = loop.invariant in
    let keys = c.args.keys.now in
    let key = c.key-item.result in
    let found = c.in_ok-debt.field-0 in
    let said = c.in_ok-debt.ensures in
    let same = read_ledger tape loop.self was.reads in
    let pushed : c.match-branch-2.debts.items ≡ with_found loop.debts.items found =
    elim c.match-branch-2.branch [
      | in-Some+in_ok-push w ↦ rw (w.debts-is, w.in-Some.is) w.in_ok-push.ensures.items
      | in_default w ↦ rw (w.debts-is, w.in_default.is) refl
    ] in
    record {
      reads = read_then tape loop.self c.debt.new.self was.reads c.debt.ensures.reads;
      quiet = said.quiet ∙ was.quiet;
      debts = λ h stands.
          pushed ∙ debts_then (ledger_of tape) keys loop.key-index key c.key-item.is c.loop-key-test.true
          loop.debts.items found (was.debts h stands)
          (said.debt h (was.reads.stands h stands) ∙ ap (λ (s : State). debt_at s key) same);
      owed = ap (map lengths_of) pushed
          ∙ lengths_then (ledger_of tape) keys loop.key-index key c.key-item.is c.loop-key-test.true
          loop.debts.items found was.owed
          (said.owed.1 ∙ ap (λ (s : State). option_map lengths_of (debt_at s key)) same);
    }
