-- The one field's text, trimmed, is the message-id if it has the form of one.
use Rattle.std.proofs.Common.{◌≡◌, List, map, refl, sym, ap, ◌∙◌, subst}
use Rattle.std.proofs.lemmas.Str.Ascii.{trim_ascii_is}
use Rattle.header_fields.specs.Header.{begins_field, first_body, header_lines, trimmed, trimmed_start}
use Rattle.header_fields.proofs.Ids.{found_is}
use Rattle.header_fields.proofs.header.message_id.Goals as goal

pub returns : goal.returns
returns c =
    let lines = header_lines c.args.article.now in
    let one = rw (c.deref.ensures.value, c.in_ok-lines.ensures) at (sym c.count_fields.ensures
    ∙ c.if-count_fields-ne1.false) in
    let body = rw (c.deref-2.ensures.value, c.in_ok-lines.ensures) at c.in_ok-body.ensures in
    let text = c.trim_ascii.result.now in
    let is = trim_ascii_is c.as_slice.result.now text
    (trimmed_start c.as_slice.result.now) refl c.trim_ascii.ensures.value in
    found_is lines text c.read.result one (is ∙ ap trimmed (c.as_slice.ensures.value
    ∙ body)) c.read.ensures.found c.read.ensures.value
