use Rattle.std.proofs.Common.{◌≡◌, ◌∷◌, rules, inl}
use Rattle.ledger_core.proofs.Tags.{no-closed, no-drop, no-final, no-seen, none-weaker}
use Rattle.ledger_core.proofs.codec.other_of.Goals as goal

pub returns-in-2-clause-none : goal.returns-in-2-clause-none
returns-in-2-clause-none c =
    let rest = c.in_ok-tag.field-0-1.now in
    let whole : c.args.octets.now ≡ c.in_ok-tag.tag.now ∷ rest = search rules in
    none-weaker c.final_of.result
    (λ none note is other. no-final c.args.octets.now (c.in_ok-tag.tag.now, rest, whole, c.in-2.is) none note is)
    c.final_of.ensures.none

pub returns-in-3-clause-none : goal.returns-in-3-clause-none
returns-in-3-clause-none c =
    let rest = c.in_ok-tag.field-0-1.now in
    let whole : c.args.octets.now ≡ c.in_ok-tag.tag.now ∷ rest = search rules in
    none-weaker c.drop_of.result
    (λ none note is other. no-drop c.args.octets.now (c.in_ok-tag.tag.now, rest, whole, c.in-3.is) none note is)
    c.drop_of.ensures.none

pub returns-in-5-clause-none : goal.returns-in-5-clause-none
returns-in-5-clause-none c =
    let rest = c.in_ok-tag.field-0-1.now in
    let whole : c.args.octets.now ≡ c.in_ok-tag.tag.now ∷ rest = search rules in
    none-weaker c.seen_of.result
    (λ none note is other. no-seen c.args.octets.now (c.in_ok-tag.tag.now, rest, whole, inl c.in-5.is) none note is)
    c.seen_of.ensures.none

pub returns-in-9-clause-none : goal.returns-in-9-clause-none
returns-in-9-clause-none c =
    let rest = c.in_ok-tag.field-0-1.now in
    let whole : c.args.octets.now ≡ c.in_ok-tag.tag.now ∷ rest = search rules in
    none-weaker c.closed_of.result
    (λ none note is other. no-closed c.args.octets.now (c.in_ok-tag.tag.now, rest, whole, inl c.in-9.is) none note is)
    c.closed_of.ensures.none
