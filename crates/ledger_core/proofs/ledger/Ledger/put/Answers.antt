use Rattle.std.proofs.Common.{List, length, subst, sym, ap, arith}
use Rattle.std.specs.List.{All}
use Rattle.std.proofs.lemmas.List.Elements.{All-weaker}
use Rattle.ledger_core.proofs.Debts.{all-inserted, apart-from, debts-inserted, length-kept}
use Rattle.ledger_core.proofs.Indexed.{on-err, points-new}
use Rattle.ledger_core.specs.Spots.{Entries, PointsAt, debts_of}
use Rattle.ledger_core.specs.State.{IsPast, Owing, imports_in, keys_in, octets_of_debts}
use Rattle.ledger_core.specs.StateLaws.{all-with, import-one, imports-few, imports-with, length-with, octets-with}
use Rattle.ledger_core.specs.Ledger.{state_of}
use Rattle.ledger_core.proofs.Applied.{puts-ok}
use Rattle.ledger_core.proofs.ledger.Ledger.put.Goals as goal

pub returns-in_err-insert-clause-indexes : goal.returns-in_err-insert-clause-indexes
returns-in_err-insert-clause-indexes c = λ kept payloads indexes placed.
    subst (λ (es : Entries). All (PointsAt kept payloads) es) (sym c.in_err-insert.ensures.err) indexes

pub returns-in_err-insert-clause-stays : goal.returns-in_err-insert-clause-stays
returns-in_err-insert-clause-stays c = λ kept payloads indexes.
    on-err c.from_residual.result
    (subst (λ (es : Entries). All (PointsAt kept payloads) es) (sym c.in_err-insert.ensures.err) indexes)

pub invariant_of-self-2 : goal.invariant_of-self-2
invariant_of-self-2 c =
    let ledger = c.args.self.now in
    let entries = ledger.debts.entries in
    let left = debts-inserted c.args.key entries c.insert.new.self.entries c.of.result c.args.token.now c.args.id.now
    c.in_ok-insert.ensures.entries c.of.ensures.token c.of.ensures.id in
    let apart = apart-from c.args.key (keys_in (debts_of entries)) c.requires.absent in
    record {
      counted = omega (
        arith,
        ap length left,
        length-kept entries,
        length-kept c.insert.new.self.entries,
        length-with (debts_of entries) c.args.key c.args.token.now c.args.id.now apart,
        c.in-Some.ensures.1,
        ledger.counted,
      );
      summed = omega (
        arith,
        ap octets_of_debts left,
        octets-with (debts_of entries) c.args.key c.args.token.now c.args.id.now apart,
        c.in-Some-checked_add.ensures.1,
        c.line_octets.ensures,
        ledger.summed,
      );
      imports = omega (
        arith,
        ap imports_in left,
        imports-with (debts_of entries) c.args.key c.args.token.now c.args.id.now apart,
        c.import_count.ensures,
        ledger.imports,
      );
      past = subst (λ (ds : List Owing). All (IsPast c.args.marks) (keys_in ds)) (sym left)
          (all-with (IsPast c.args.marks) (debts_of entries) c.args.key c.args.token.now c.args.id.now
          (All-weaker (IsPast ledger.marks) (IsPast c.args.marks) c.requires.others (keys_in (debts_of entries)) ledger.past)
          c.requires.past);
      openable = omega (arith, c.requires.closed, ledger.openable);
    }

pub returns-clause-puts : goal.returns-clause-puts
returns-clause-puts c =
    let ledger = c.args.self.now in
    let entries = ledger.debts.entries in
    puts-ok (state_of ledger) c.args.marks (c.args.key, (c.args.token.now, c.args.id.now)) c.in-Some.taken
    (debts_of c.insert.new.self.entries) c.in-Some.ensures.0
    (omega (arith, c.in-Some-checked_add.ensures.0, c.line_octets.ensures, ledger.summed)) c.in-Some.ensures.1
    (debts-inserted c.args.key entries c.insert.new.self.entries c.of.result c.args.token.now c.args.id.now
    c.in_ok-insert.ensures.entries c.of.ensures.token c.of.ensures.id)

pub returns-clause-indexes : goal.returns-clause-indexes
returns-clause-indexes c = λ kept payloads indexes placed.
    let entries = c.args.self.now.debts.entries in
    subst (λ (es : Entries). All (PointsAt kept payloads) es) (sym c.in_ok-insert.ensures.entries)
    (all-inserted (PointsAt kept payloads) c.args.key c.of.result entries
    (apart-from c.args.key (keys_in (debts_of entries)) c.requires.absent)
    (points-new kept payloads c.args.key c.args.at c.args.slot c.args.within c.of.result c.args.token.now c.args.id.now
    c.of.ensures.at c.of.ensures.slot c.of.ensures.within c.of.ensures.token c.of.ensures.id placed) indexes)

pub overflow_add-self : goal.overflow_add-self
overflow_add-self c =
    let ledger = c.args.self.now in
    let entries = ledger.debts.entries in
    omega (
      arith,
      imports-few (debts_of entries),
      import-one c.args.key,
      length-kept entries,
      c.in-Some.ensures.0,
      c.import_count.ensures,
      ledger.imports,
      ledger.counted,
    )
