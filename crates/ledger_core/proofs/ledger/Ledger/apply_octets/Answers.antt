use Rattle.std.proofs.Common.{sym, ◌∙◌, subst}
use Rattle.std.proofs.lemmas.Result.{on_ok_weaker}
use Rattle.ledger_core.specs.Ledger.{state_of}
use Rattle.ledger_core.specs.SpellingLaws.{same-note}
use Rattle.ledger_core.specs.State.{IsLegal}
use Rattle.ledger_core.specs.declared.note.Note.TheVariants.{Owe}
use Rattle.ledger_core.proofs.Spellings.{spelled-of}
use Rattle.ledger_core.proofs.ledger.Ledger.apply_octets.Goals as goal

pub returns-in-Some-clause-ok : goal.returns-in-Some-clause-ok
returns-in-Some-clause-ok c =
    let found = spelled-of c.args.octets.now _ c.new-key.result c.in-Some.token.now c.in-Some.id.now
    c.new-key.ensures.key c.in-Some.ensures.some in
    on_ok_weaker c.owe_read.result
    (λ said. (Owe c.new-key.result c.in-Some.token.now c.in-Some.id.now, found.0, found.1, said.0, said.1))
    c.owe_read.ensures.ok

pub returns-in-Some-clause-refused : goal.returns-in-Some-clause-refused
returns-in-Some-clause-refused c = λ told e.
    let said = c.owe_read.ensures.refused told e in
    let found = spelled-of c.args.octets.now _ c.new-key.result c.in-Some.token.now c.in-Some.id.now
    c.new-key.ensures.key c.in-Some.ensures.some in (
      said.0,
      λ note is same legal. said.1 (subst (IsLegal (state_of c.args.self.now))
          (same-note note (Owe c.new-key.result c.in-Some.token.now c.in-Some.id.now) is found.0
          (same ∙ found.1)) legal),
    )

pub returns-in-Some-clause-indexes : goal.returns-in-Some-clause-indexes
returns-in-Some-clause-indexes c = λ kept payloads indexes placed.
    let found = spelled-of c.args.octets.now _ c.new-key.result c.in-Some.token.now c.in-Some.id.now
    c.new-key.ensures.key c.in-Some.ensures.some in
    c.owe_read.ensures.indexes kept payloads indexes
    (placed (Owe c.new-key.result c.in-Some.token.now c.in-Some.id.now) (sym found.1))

pub returns-in-Some-other_of-clause-refused : goal.returns-in-Some-other_of-clause-refused
returns-in-Some-other_of-clause-refused c = λ told e.
    let said = c.apply_note.ensures.refused told e in
    let found = c.in-Some-other_of.ensures.some in (
      said.0,
      λ note is same legal. said.1 (subst (IsLegal (state_of c.args.self.now))
          (same-note note c.in-Some-other_of.note is found.0 (same ∙ found.1)) legal),
    )

pub returns-in-Some-other_of-clause-indexes : goal.returns-in-Some-other_of-clause-indexes
returns-in-Some-other_of-clause-indexes c = λ kept payloads indexes placed.
    c.apply_note.ensures.indexes kept payloads indexes
    (placed c.in-Some-other_of.note (sym c.in-Some-other_of.ensures.some.1))
