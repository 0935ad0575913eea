use Rattle.std.proofs.Common.{ap, ◌∙◌}
use Rattle.std.proofs.lemmas.Bool.{false≢true}
use Rattle.funnel.specs.Names.{is_msg_id, is_token}
use Rattle.ledger_core.specs.Keys.{key_of}
use Rattle.ledger_core.proofs.Spellings.{owe-same}
use Rattle.ledger_core.proofs.codec.owed_of.Goals as goal

pub returns-then-not-holds-clause-none : goal.returns-then-not-holds-clause-none
returns-then-not-holds-clause-none c = λ key token id is e.
    let parts = c.in_ok-source.ensures.some in
    let same = owe-same (key_of c.in_ok-source.source c.in_ok-source.number) key c.in_ok-source.token.now
    c.in_ok-source.id.now token id c.args.octets.now parts.0 is.0 parts.1 e in
    false≢true (c.if-not-holds.ensures ∙ (ap is_token same.1 ∙ is.1))

pub returns-then-not-holds-2-clause-none : goal.returns-then-not-holds-2-clause-none
returns-then-not-holds-2-clause-none c = λ key token id is e.
    let parts = c.in_ok-source.ensures.some in
    let same = owe-same (key_of c.in_ok-source.source c.in_ok-source.number) key c.in_ok-source.token.now
    c.in_ok-source.id.now token id c.args.octets.now parts.0 is.0 parts.1 e in
    false≢true (c.if-not-holds-2.ensures ∙ (ap is_msg_id same.2 ∙ is.2))
