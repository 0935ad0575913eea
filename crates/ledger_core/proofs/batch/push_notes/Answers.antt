use Rattle.std.proofs.Common.{◌≡◌, ◌<◌, ◌+◌, ◌∷◌, [], ◌++◌, ℕ, List, length, take, sym, ap, ◌∙◌, subst, arith}
use Rattle.std.proofs.lemmas.List.{append-nil, append_assoc, take_more}
use Rattle.ledger_core.specs.declared.note.Note.{Note}
use Rattle.ledger_core.specs.Batch.{together}
use Rattle.ledger_core.specs.BatchLaws.{together-append}
use Rattle.ledger_core.specs.Note.{AreNotes}
use Rattle.ledger_core.specs.Spelling.{spelling}
use Rattle.ledger_core.specs.SpellingLaws.{AreNotes-append}
use Rattle.ledger_core.proofs.batch.push_notes.Goals as goal

pub loop-note-preserved : goal.loop-note-preserved
loop-note-preserved c =
    let notes = c.args.notes.now in
    let i = c.loop-note.note-index in
    let note = c.note-item.result in
    let inside : i < length notes = omega arith in
    let prefix : take (i + 1) notes ≡ take i notes ++ note ∷ [] =
    take_more notes i note inside ∙ ap (λ (n : Note). take i notes ++ n ∷ []) (sym c.note-item.is) in
    let all : together (take (i + 1) notes) ≡ together (take i notes) ++ spelling note =
    ap together prefix ∙ (together-append (take i notes) (note ∷ [])
    ∙ ap (λ (l : List ℕ). together (take i notes) ++ l) (append-nil (spelling note))) in
    let was = c.loop-note.invariant.octets in
    record {
      octets = c.in_ok-push_note.ensures.octets ∙ (ap (λ (l : List ℕ). l ++ spelling note) was
          ∙ (append_assoc c.args.octets.now.items (together (take i notes)) (spelling note)
          ∙ ap (λ (l : List ℕ). c.args.octets.now.items ++ l) (sym all)));
      notes = subst AreNotes (sym prefix)
          (AreNotes-append (take i notes) (note ∷ []) c.loop-note.invariant.notes (c.in_ok-push_note.ensures.note, tt));
    }
