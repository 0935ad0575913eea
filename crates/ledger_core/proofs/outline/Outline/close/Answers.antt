use Rattle.std.proofs.Common.{refl, arith}
use Rattle.std.proofs.lemmas.List.Elements.{All-weaker}
use Rattle.std.specs.Map.{keys_of}
use Rattle.ledger_core.specs.State.{IsPast}
use Rattle.ledger_core.specs.StateLaws.{past-closed}
use Rattle.ledger_core.specs.declared.marks.Marks.{Marks}
use Rattle.ledger_core.proofs.outline.Outline.close.Goals as goal

pub invariant_of-self : goal.invariant_of-self
invariant_of-self c =
    let outline = c.args.self.now in
    let marks = outline.marks in
    let new : Marks = record { mark = marks.mark; closed = c.args.source; import_mark = 0 } in
    record {
      counted = outline.counted;
      summed = outline.summed;
      past = All-weaker (IsPast marks) (IsPast new)
          (λ n past. past-closed marks new n past refl c.if-source-self.false (omega arith))
          (keys_of outline.debts.entries) outline.past;
      openable = omega (arith, c.if-source-eq4294967295.false, c.ranges.source.fits);
    }
