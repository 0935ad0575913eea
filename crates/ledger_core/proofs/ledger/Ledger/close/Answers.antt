use Rattle.std.proofs.Common.{refl, arith}
use Rattle.std.proofs.lemmas.List.Elements.{All-weaker}
use Rattle.ledger_core.specs.Spots.{debts_of}
use Rattle.ledger_core.specs.State.{IsPast, keys_in}
use Rattle.ledger_core.specs.StateLaws.{past-closed}
use Rattle.ledger_core.specs.declared.marks.Marks.{Marks}
use Rattle.ledger_core.proofs.ledger.Ledger.close.Goals as goal

pub invariant_of-self : goal.invariant_of-self
invariant_of-self c =
    let ledger = c.args.self.now in
    let marks = ledger.marks in
    let new : Marks = record { mark = marks.mark; closed = c.args.source; import_mark = 0 } in
    record {
      counted = ledger.counted;
      summed = ledger.summed;
      imports = ledger.imports;
      past = All-weaker (IsPast marks) (IsPast new)
          (λ n past. past-closed marks new n past refl c.if-source-self.false (omega arith))
          (keys_in (debts_of ledger.debts.entries)) ledger.past;
      openable = omega (arith, c.if-source-eq4294967295.false, c.ranges.source.fits);
    }
