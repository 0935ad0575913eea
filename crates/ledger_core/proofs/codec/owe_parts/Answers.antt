use Rattle.std.proofs.Common.{[], ◌++◌, sym, ◌∙◌}
use Rattle.std.proofs.lemmas.List.{append-nil}
use Rattle.ledger_core.specs.Keys.{key_of}
use Rattle.ledger_core.specs.Spelling.{sized_text}
use Rattle.ledger_core.specs.SpellingLaws.{sized-apart}
use Rattle.ledger_core.proofs.Spellings.{not-empty, owe-none, texts-apart}
use Rattle.ledger_core.proofs.Tags.{none-so}
use Rattle.ledger_core.proofs.codec.owe_parts.Goals as goal

pub returns-in_err-source-clause-none : goal.returns-in_err-source-clause-none
returns-in_err-source-clause-none c =
    none-so c.from_residual.result (λ key token id is e.
    c.in_err-source.ensures.none key (sized_text token ++ sized_text id) is (sym e))

pub returns-in_err-id-clause-none : goal.returns-in_err-id-clause-none
returns-in_err-id-clause-none c =
    none-so c.from_residual-in_err-id.result (λ key token id is e.
    let behind = owe-none (key_of c.in_ok-source.source c.in_ok-source.number) key c.args.octets.now
    c.in_ok-source.rest.now token id c.in_ok-source.ensures.some.1 is c.in_ok-source.ensures.some.0 e in
    let same = sized-apart c.in_ok-token.token.now token c.in_ok-token.rest.now (sized_text id)
    (sym c.in_ok-token.ensures.some ∙ behind.1) in
    c.in_err-id.ensures.none id [] (same.1 ∙ sym (append-nil (sized_text id))))

pub returns-then-not-is_empty-clause-none : goal.returns-then-not-is_empty-clause-none
returns-then-not-is_empty-clause-none c = λ key token id is e.
    let behind = owe-none (key_of c.in_ok-source.source c.in_ok-source.number) key c.args.octets.now
    c.in_ok-source.rest.now token id c.in_ok-source.ensures.some.1 is c.in_ok-source.ensures.some.0 e in
    let same = texts-apart c.in_ok-source.rest.now c.in_ok-token.token.now c.in_ok-token.rest.now
    c.in_ok-id.id.now c.in_ok-id.rest.now token id c.in_ok-token.ensures.some c.in_ok-id.ensures.some behind.1 in
    not-empty c.in_ok-id.rest.now same.2 c.if-not-is_empty.ensures
