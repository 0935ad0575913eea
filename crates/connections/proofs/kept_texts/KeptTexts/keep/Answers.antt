-- A text is kept.
use Rattle.std.proofs.Common.{◌≡◌, ◌≤◌, ◌<◌, ◌∙◌, ap, subst}
use Rattle.connections.specs.declared.kept_texts.KeptText.{KeptText}
use Rattle.connections.specs.Kept.{by_token, latest_with}
use Rattle.connections.proofs.Kept.{keeps, too_long}
use Rattle.connections.proofs.kept_texts.KeptTexts.keep.Goals as goal

pub returns-then-len-gt-TEXTS_MAX_OCTETS-clause-ok : goal.returns-then-len-gt-TEXTS_MAX_OCTETS-clause-ok
returns-then-len-gt-TEXTS_MAX_OCTETS-clause-ok c =
    too_long c.args.token.now _ c.args.self.now
    (subst (λ n. 4194304 < n) c.len.ensures.value c.if-len-gt-TEXTS_MAX_OCTETS.true)

pub returns-clause-ok : goal.returns-clause-ok
returns-clause-ok c =
    let one : KeptText = record { id = c.args.id.now; text = c.args.text.now; read_at = c.args.now } in
    let made : KeptText = record { id = c.in_ok-clone.field-0; text = c.in_ok-clone-2.field-0; read_at = c.args.now } in
    let key : c.in_ok-key.key.items ≡ c.args.token.now = c.in_ok-key.ensures.items ∙ c.bytes.ensures.value in
    let same : made ≡ one =
    ap (λ id. record { id = id; text = c.in_ok-clone-2.field-0; read_at = c.args.now }) c.in_ok-clone.ensures.cases
    ∙ ap (λ text. record { id = c.args.id.now; text = text; read_at = c.args.now }) c.in_ok-clone-2.ensures.cases in
    let kept = by_token c.self.inside.texts.entries in
    keeps c.args.token.now one c.args.self.now (by_token c.push.new.texts.entries) _
    (subst (λ n. n ≤ 4194304) c.len.ensures.value c.if-len-gt-TEXTS_MAX_OCTETS.false)
    (c.in_ok-octets.ensures.texts
    ∙ ap (λ token. latest_with 4096 token made kept) key
    ∙ ap (λ text. latest_with 4096 c.args.token.now text kept) same
    ∙ ap (latest_with 4096 c.args.token.now one) c.self.view_is) c.drop_oldest-self-inside.ensures.texts
