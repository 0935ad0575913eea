-- Drops of several debts, one after another.
use Rattle.std.proofs.Common.{◌≡◌, ◌+◌, ◌<◌, ◌∷◌, [], ◌++◌, List, length, get_or, take, sym, ap, ◌∙◌, subst, arith}
use Rattle.std.proofs.lemmas.List.{append-nil, append_assoc, get_or_default}
use Rattle.ledger_core.specs.declared.note.Note.{Note}
use Rattle.ledger_core.specs.declared.note.Note.TheVariants.{Drop}
use Rattle.ledger_core.specs.Note.{AreNotes}
use Rattle.ledger_core.specs.SpellingLaws.{AreNotes-append}
use Rattle.recovery.specs.Notes.{drops}
use Rattle.recovery.specs.Pending.{Holds}
use Rattle.recovery.proofs.Drops.{take_step, drops-push}
use Rattle.recovery.proofs.pending.Pending.take_drops.Goals as goal

pub loop-key-init : goal.loop-key-init
loop-key-init c = record {
  holds = λ notes holds. subst (Holds c.args.self.now) (sym (append-nil notes)) holds;
  ends = λ kept notes holds at. at;
  indexes = λ kept prefix ledger notes holds indexes. indexes;
  notes = tt;
  count = omega arith;
  more = omega arith;
  len = omega arith;
}

pub loop-key-preserved : goal.loop-key-preserved
loop-key-preserved c =
    let ns = c.args.keys.now in
    let i = c.loop-key.key-index in
    let n = c.key-item.result in
    let cause = c.args.cause in
    let was = c.loop-key.invariant in
    let took = c.in_ok-ends.ensures in
    let inside : i < length ns = omega arith in
    let is : n ≡ get_or ns i 0 = c.key-item.is ∙ get_or_default ns i n 0 inside in
    let prefix : drops cause (take (i + 1) ns) ≡ drops cause (take i ns) ++ Drop n cause ∷ [] =
    ap (drops cause) (take_step ns i n inside is) ∙ drops-push cause (take i ns) n in
    record {
      holds = λ notes holds.
          subst (Holds c.take.new.self) (append_assoc notes (drops cause (take i ns)) (Drop n cause ∷ [])
          ∙ ap (λ (l : List Note). notes ++ l) (sym prefix))
          (took.holds (notes ++ drops cause (take i ns)) (was.holds notes holds));
      ends = λ kept notes holds at.
          took.ends kept (notes ++ drops cause (take i ns)) (was.holds notes holds) (was.ends kept notes holds at);
      indexes = λ kept behind ledger notes holds indexes.
          took.indexes kept behind ledger (notes ++ drops cause (take i ns)) (was.holds notes holds)
          (was.indexes kept behind ledger notes holds indexes);
      notes = subst AreNotes (sym prefix) (AreNotes-append (drops cause (take i ns)) (Drop n cause ∷ []) was.notes
          (took.note, tt));
      count = omega (arith, took.count, was.count);
      more = omega (arith, took.more, was.more);
      len = omega (arith, took.len, was.len);
    }
