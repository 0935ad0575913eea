use Rattle.std.proofs.Common.{◌≡◌, ℕ, ◌+◌, None, length, refl, sym, ap, ◌∙◌, subst, arith}
use Rattle.std.proofs.lemmas.List.Elements.{All-weaker}
use Rattle.std.proofs.lemmas.Map.Views.{All-keys-insert_entry}
use Rattle.std.specs.BTreeMap.{insert_entry, is_at}
use Rattle.std.specs.List.{All}
use Rattle.std.specs.Map.{keys_of, lookup}
use Rattle.std.specs.Ordering.{nat_cmp}
use Rattle.ledger_core.proofs.Parted.{length-more, not-found, octets-more, ordinals-more, sizes-more}
use Rattle.ledger_core.proofs.Shaped.{owe-steps}
use Rattle.ledger_core.specs.Outline.{shape_in}
use Rattle.ledger_core.specs.Parts.{Parts, ordinals_of, sizes_of}
use Rattle.ledger_core.specs.Shape.{octets_sized}
use Rattle.ledger_core.specs.State.{IsPast, line_octets}
use Rattle.ledger_core.specs.StateLaws.{WithMarks, next-apart, past-kept, past-new}
use Rattle.ledger_core.proofs.outline.Outline.put.Goals as goal

pub invariant_of-self-2 : goal.invariant_of-self-2
invariant_of-self-2 c =
    let outline = c.args.self.now in
    let parts = outline.debts.entries in
    let new = c.with-marks.result in
    let with : WithMarks outline.marks new c.args.key = record {
      mark = c.with-marks.ensures.mark;
      closed = c.with-marks.ensures.closed;
      import_mark = c.with-marks.ensures.import_mark;
    } in
    let entries = c.in_ok-insert.ensures.entries in
    let none : lookup (is_at (nat_cmp c.args.key)) parts ≡ None = not-found c.args.key parts
    (next-apart outline.marks c.args.key (keys_of parts) c.requires.0 outline.past) in
    let octets : c.of.result.1 ≡ c.octets_of-octets.result = ap (λ (p : ℕ × ℕ). p.1) c.of.ensures in
    record {
      counted = omega (
        arith,
        ap length entries,
        length-more c.args.key c.of.result parts none,
        outline.counted,
      );
      summed = omega (
        arith,
        ap (λ (es : Parts). octets_sized (sizes_of es)) entries,
        octets-more parts c.args.key c.of.result c.in_ok-insert.ensures.was_ordered none,
        octets,
        outline.summed,
      );
      past = subst (λ (es : Parts). All (IsPast new) (keys_of es)) (sym entries)
          (All-keys-insert_entry nat_cmp c.args.key c.of.result (IsPast new) parts
          (All-weaker (IsPast outline.marks) (IsPast new)
          (λ n past. past-kept outline.marks new c.args.key n c.requires.0 with past) (keys_of parts) outline.past)
          (past-new outline.marks new c.args.key c.requires.0 with));
      openable = omega (arith, c.with-marks.ensures.closed, outline.openable);
    }

pub returns-clause-applied : goal.returns-clause-applied
returns-clause-applied c =
    let outline = c.args.self.now in
    let parts = outline.debts.entries in
    let octets : c.of.result.1 ≡ line_octets c.args.token.now c.args.id.now =
    ap (λ (p : ℕ × ℕ). p.1) c.of.ensures ∙ c.octets_of-octets.ensures in
    owe-steps (shape_in outline) c.with-marks.result c.args.key c.args.token.now c.args.id.now (outline.taken + 1)
    (sizes_of c.insert.new.self.entries) c.requires
    (record {
      mark = c.with-marks.ensures.mark;
      closed = c.with-marks.ensures.closed;
      import_mark = c.with-marks.ensures.import_mark;
    }) refl
    (ap sizes_of c.in_ok-insert.ensures.entries ∙ sizes-more parts c.args.key c.of.result
    ∙ ap (λ (n : ℕ). insert_entry nat_cmp (sizes_of parts) c.args.key n) octets)

pub returns-clause-ordinals : goal.returns-clause-ordinals
returns-clause-ordinals c =
    let parts = c.args.self.now.debts.entries in
    ap ordinals_of c.in_ok-insert.ensures.entries ∙ ordinals-more parts c.args.key c.of.result
    ∙ ap (λ (p : ℕ × ℕ). insert_entry nat_cmp (ordinals_of parts) c.args.key p.0) c.of.ensures
