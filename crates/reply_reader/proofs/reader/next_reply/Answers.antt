-- What is done with the first line is what it is.
use Rattle.std.proofs.Common.{◌≡◌, ◌+◌, ◌≤◌, ◌<◌, ℕ, false, List, take, drop, length, Err, ◌∙◌, ap, refl, arith, inl, inr}
use Rattle.std.specs.Prelude.{IsTrue}
use Rattle.std.proofs.lemmas.Bool.{cases_lt, false≢true}
use Rattle.std.proofs.lemmas.Result.{err_from_is_err_and}
use Rattle.reply_reader.specs.Stream.{longest_reply}
use Rattle.reply_reader.specs.LengthLaws.{long-prefix, long-line}
use Rattle.reply_reader.proofs.Ends.{whole-line}
use Rattle.reply_reader.proofs.Nexts.{line-fails}
use Rattle.reply_reader.proofs.reader.next_reply.Goals as goal

-- a test that failed
not-too-many : (len : ℕ) → (longest_reply ≤ len → IsTrue false) → len < longest_reply
not-too-many len test = elim (cases_lt len longest_reply) [ inl few ↦ few | inr many ↦ absurd (false≢true (test many)) ]

pub returns-then-is_too_many : goal.returns-then-is_too_many
returns-then-is_too_many c =
    let many = c.if-is_too_many.ensures.0 refl in
    long-prefix c.args.unread.now (omega (arith, many, c.len.ensures, ap length c.first_end.ensures.unchanged)) c.in_default.ensures.offset

pub returns-else-is_too_many : goal.returns-else-is_too_many
returns-else-is_too_many c =
    let few = not-too-many c.len.result c.if-is_too_many.ensures.1 in
    (record { line = c.in_default.ensures.offset; short = omega (arith, few, c.len.ensures, ap length c.first_end.ensures.unchanged) }, c.first_end.ensures.unchanged)

pub returns-then-is_too_many-2 : goal.returns-then-is_too_many-2
returns-then-is_too_many-2 c = long-line c.args.unread.now c.in-Some.end c.in-Some.ensures.offset (c.if-is_too_many-2.ensures.0 refl)

-- the slice of the line is a prefix of the octets that wait
prefix-is : (unread same line : List ℕ) (offset : ℕ) → same ≡ unread → line ≡ take offset same → line ≡ take offset unread
prefix-is unread same line offset e is = is ∙ ap (λ u. take offset u) e

pub returns-in_err-reply : goal.returns-in_err-reply
returns-in_err-reply c =
    let p = err_from_is_err_and c.from_residual.result c.from_residual.ensures.1 in
    let line = prefix-is c.args.unread.now c.first_end.new.self c.prefix.result.now c.in-Some.end c.first_end.ensures.unchanged c.prefix.ensures in
    let whole = whole-line c.args.unread.now c.prefix.result.now (drop (c.in-Some.end + 1) c.args.unread.now) c.in-Some.end c.in-Some.ensures.offset (not-too-many c.in-Some.end c.if-is_too_many-2.ensures.1) line refl in
    rw (p.1, p.2)
    (line-fails c.args.unread.now c.prefix.result.now (drop (c.in-Some.end + 1) c.args.unread.now) whole.0 whole.1 c.in_err-reply.field-0.0 c.in_err-reply.ensures.no_memory (λ is. c.in_err-reply.ensures.no_code.0 (ap (λ f. Err f) is)) c.first_end.new.self c.first_end.ensures.unchanged)

pub returns : goal.returns
returns c =
    let line = prefix-is c.args.unread.now c.first_end.new.self c.prefix.result.now c.in-Some.end c.first_end.ensures.unchanged c.prefix.ensures in
    let behind : c.skip.new.self ≡ drop (c.in-Some.end + 1) c.args.unread.now = c.skip.ensures ∙ ap (λ u. drop (c.in-Some.end + 1) u) c.first_end.ensures.unchanged in
    let whole = whole-line c.args.unread.now c.prefix.result.now c.skip.new.self c.in-Some.end c.in-Some.ensures.offset (not-too-many c.in-Some.end c.if-is_too_many-2.ensures.1) line behind in
    (c.prefix.result.now, whole.0, (whole.1, c.in_ok-reply.ensures.reply))
