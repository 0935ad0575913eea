use Rattle.std.proofs.Common.{◌≡◌, ◌+◌, [], ℕ, List, length, map, sym, ap, ◌∙◌, subst}
use Rattle.std.proofs.lemmas.List.{length-map, map_push}
use Rattle.std.proofs.lemmas.List.Sums.{fold_push}
use Rattle.std.proofs.lemmas.Map.Iter.{iter_end}
use Rattle.std.specs.BTreeMap.{insert_entry}
use Rattle.std.specs.Borrow.{Bor}
use Rattle.std.specs.List.{All}
use Rattle.std.specs.Map.{keys_of}
use Rattle.std.specs.Map.Iter.{deref_pair}
use Rattle.std.specs.Ordering.{nat_cmp}
use Rattle.ledger_core.proofs.Outlined.{gathered, gathered-all, keys-outlined, ordinals-kept, part_of, put_part}
use Rattle.ledger_core.proofs.Outlined.{sizes-kept}
use Rattle.ledger_core.specs.Ledger.{state_of}
use Rattle.ledger_core.specs.Parts.{Parts, ordinals_of, sizes_of}
use Rattle.ledger_core.specs.Shape.{Size, octets_sized, shape_of}
use Rattle.ledger_core.specs.ShapeLaws.{sizes-octets}
use Rattle.ledger_core.specs.Spots.{debts_of}
use Rattle.ledger_core.specs.State.{IsPast}
use Rattle.ledger_core.specs.declared.spot.DebtEntry.{DebtEntry}
use Rattle.ledger_core.proofs.outline.Outline.of.Goals as goal

pub loop-key-preserved : goal.loop-key-preserved
loop-key-preserved c =
    let loop = c.loop-key in
    let item : Bor ℕ × Bor DebtEntry = (c.in-Some.key, c.in-Some.entry) in
    c.in_ok-insert.ensures.entries
    ∙ (ap (λ (p : ℕ × ℕ). insert_entry nat_cmp loop.debts.entries c.in-Some.key.now p)
    (c.of.ensures ∙ ap (λ (n : ℕ). (0, n)) c.octets_kept.ensures)
    ∙ (ap (λ (es : Parts). put_part es (deref_pair item)) loop.invariant
    ∙ (sym (fold_push put_part [] (map deref_pair loop.yielded) (deref_pair item))
    ∙ ap gathered (sym (map_push deref_pair loop.yielded item)))))

pub invariant_of-result : goal.invariant_of-result
invariant_of-result c =
    let ledger = c.args.ledger.now in
    let entries = ledger.debts.entries in
    let loop = c.loop-key in
    let all = iter_end deref_pair entries loop.yielded c.into_iter-key-iterator.result
    loop.key-iterator c.next.new.self c.next.result (c.into_iter-key-iterator.ensures.into_iter_gives ∙
    c.iter-key-items.ensures.rest) loop.yielded_by c.in-None.is c.next.ensures.steps in
    let kept : loop.debts.entries ≡ map part_of entries =
    loop.invariant ∙ ap gathered all.0 ∙ gathered-all entries c.iter-key-items.ensures.ordered in
    record {
      counted = ledger.counted ∙ ap (λ (n : ℕ). ledger.answered + ledger.dropped + n)
          (sym (ap length kept ∙ length-map entries part_of));
      summed = ledger.summed ∙ sym (ap (λ (es : Parts). octets_sized (sizes_of es)) kept
          ∙ ap octets_sized (sizes-kept entries) ∙ sizes-octets (debts_of entries));
      past = subst (All (IsPast ledger.marks))
          (sym (ap (λ (es : Parts). keys_of es) kept ∙ keys-outlined entries)) ledger.past;
      openable = ledger.openable;
    }

pub returns-clause-shape : goal.returns-clause-shape
returns-clause-shape c =
    let ledger = c.args.ledger.now in
    let entries = ledger.debts.entries in
    let loop = c.loop-key in
    let all = iter_end deref_pair entries loop.yielded c.into_iter-key-iterator.result
    loop.key-iterator c.next.new.self c.next.result (c.into_iter-key-iterator.ensures.into_iter_gives ∙
    c.iter-key-items.ensures.rest) loop.yielded_by c.in-None.is c.next.ensures.steps in
    let kept : loop.debts.entries ≡ map part_of entries =
    loop.invariant ∙ ap gathered all.0 ∙ gathered-all entries c.iter-key-items.ensures.ordered in
    ap (λ (l : List Size). record (shape_of (state_of ledger)) { sizes = l })
    (ap sizes_of kept ∙ sizes-kept entries)

pub returns-clause-ordinals : goal.returns-clause-ordinals
returns-clause-ordinals c =
    let entries = c.args.ledger.now.debts.entries in
    let loop = c.loop-key in
    let all = iter_end deref_pair entries loop.yielded c.into_iter-key-iterator.result
    loop.key-iterator c.next.new.self c.next.result (c.into_iter-key-iterator.ensures.into_iter_gives ∙
    c.iter-key-items.ensures.rest) loop.yielded_by c.in-None.is c.next.ensures.steps in
    let kept : loop.debts.entries ≡ map part_of entries =
    loop.invariant ∙ ap gathered all.0 ∙ gathered-all entries c.iter-key-items.ensures.ordered in
    ap ordinals_of kept ∙ ordinals-kept entries
