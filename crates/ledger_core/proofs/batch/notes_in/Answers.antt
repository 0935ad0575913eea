use Rattle.std.proofs.Common.{◌≡◌, ◌++◌, ◌∷◌, [], ℕ, List, length, sym, ap, ◌∙◌, subst, arith}
use Rattle.std.proofs.lemmas.List.{append-nil, append_assoc, length_push, nil_from_length}
use Rattle.ledger_core.specs.Batch.{together}
use Rattle.ledger_core.specs.BatchLaws.{together-append}
use Rattle.ledger_core.specs.Note.{AreNotes}
use Rattle.ledger_core.specs.Spelling.{spelling}
use Rattle.ledger_core.specs.SpellingLaws.{AreNotes-append}
use Rattle.ledger_core.proofs.Batches.{no-more, no-rest}
use Rattle.ledger_core.proofs.Spellings.{not-empty}
use Rattle.ledger_core.proofs.batch.notes_in.Goals as goal

pub returns-in_default-clause-none : goal.returns-in_default-clause-none
returns-in_default-clause-none c = λ all are many e.
    let none = rw c.in_default.is at c.in_ok-note.ensures.none in
    let so_far = c.loop.invariant in
    no-more c.loop.notes.items all c.args.octets.now c.loop.rest.now c.args.count so_far.notes are
    (omega (arith, so_far.count)) many so_far.split e none

pub loop-preserved : goal.loop-preserved
loop-preserved c =
    let note = c.in-Some.note in
    let read = c.loop.notes.items in
    let so_far = c.loop.invariant in
    let some = rw c.in-Some.is at c.in_ok-note.ensures.some in
    let pushed = c.in_ok-push.ensures.items in
    let all : together c.push.new.self.items ≡ together read ++ spelling note =
    ap together pushed ∙ (together-append read (note ∷ [])
    ∙ ap (λ (l : List ℕ). together read ++ l) (append-nil (spelling note))) in
    record {
      notes = subst AreNotes (sym pushed) (AreNotes-append read (note ∷ []) so_far.notes (some.0, tt));
      count = omega (arith, ap length pushed, length_push read note, so_far.count);
      split = so_far.split ∙ (ap (λ (l : List ℕ). together read ++ l) some.1
          ∙ (sym (append_assoc (together read) (spelling note) c.in-Some.behind.now)
          ∙ ap (λ (l : List ℕ). l ++ c.in-Some.behind.now) (sym all)));
    }

pub returns-else-is_empty-clause-none : goal.returns-else-is_empty-clause-none
returns-else-is_empty-clause-none c = λ all are many e.
    let so_far = c.loop.invariant in
    let none = no-rest c.loop.notes.items all c.args.octets.now c.loop.rest.now so_far.notes are
    (omega (arith, so_far.count, many)) so_far.split e in
    not-empty c.loop.rest.now (nil_from_length c.loop.rest.now none) c.if-is_empty.ensures
