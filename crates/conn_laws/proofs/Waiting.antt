-- Octets that wait are part of a reply line, or begin with a fault or a reply, and only one of these; a line of the
-- funnel is valid or has a fault.
use Rattle.std.proofs.Common.{◌≡◌, ◌≢◌, ◌⊎◌, ℕ, ◌≤◌, List, [], ◌∷◌, ◌++◌, length, refl, sym, ap, ◌∙◌, arith, subst, inl}
use Rattle.std.proofs.Common.{inr}
use Rattle.std.specs.Prelude.{IsTrue, filter}
use Rattle.std.proofs.lemmas.Bool.{cases_Bool, cases_eq, cases_lt}
use Rattle.std.proofs.lemmas.List.Elements.{All-cons}
use Rattle.funnel.specs.Line.{HasFault, IsFunnelLine, longest_line, without_cr}
use Rattle.funnel.specs.Names.{is_msg_id, is_peer_name, is_token}
use Rattle.funnel.specs.Stream.{IsUnended}
use Rattle.funnel.specs.StreamLaws.{first_line_once, whole_line_ends}
use Rattle.funnel.specs.WordLaws.{has_words}
use Rattle.funnel.specs.Words.{HasWords}
use Rattle.funnel.specs.declared.line.LineFault.{LineFault}
use Rattle.funnel.specs.declared.line.LineFault.TheVariants.{NoToken, BadToken, BadId, TooLong, NoMemory}
use Rattle.reply_reader.specs.Reply.{IsReplyLine}
use Rattle.reply_reader.specs.Stream.{BeginsWithNoReply, BeginsWithReply, Given, IsFaulty, IsShort, IsTooLong}
use Rattle.reply_reader.specs.Stream.{longest_reply}
use Rattle.reply_reader.specs.LengthLaws.{long-prefix, long-line, part-is-not-long, short-is-not-long}
use Rattle.reply_reader.specs.LineLaws.{line-apart, line-either}

pub long-apart : (unread : List ℕ) → IsTooLong unread → BeginsWithNoReply unread → ⊥
long-apart unread long (line, rest, e, short, none) = short-is-not-long unread line rest e short long

reply-apart : (unread rest : List ℕ) (given : Given) → BeginsWithNoReply unread → BeginsWithReply unread given rest → ⊥
reply-apart unread rest given (line', rest', f, short, none) (line, e, this) =
    let cut = first_line_once line line' rest rest' this.0.line short.line (sym e ∙ f) in
    let reads : IsReplyLine line' given.code given.id given.text =
    subst (λ l. IsReplyLine l given.code given.id given.text) cut.0 this.1 in
    line-apart line' given.code given.id given.text reads none

pub fault-apart : (unread rest : List ℕ) (given : Given) → IsFaulty unread → BeginsWithReply unread given rest → ⊥
fault-apart unread rest given (inl long) (line, e, this) = short-is-not-long unread line rest e this.0 long
fault-apart unread rest given (inr none) whole = reply-apart unread rest given none whole

no-part : (unread line rest : List ℕ) → unread ≡ line ++ 10 ∷ rest → IsShort unread → ⊥
no-part unread line rest e part = whole_line_ends line rest (subst (λ o. IsUnended o) e part.line)

pub short-apart : (unread : List ℕ) → IsShort unread → IsFaulty unread → ⊥
short-apart unread part (inl long) = part-is-not-long unread part long
short-apart unread part (inr (line, rest, e, short, none)) = no-part unread line rest e part

pub whole-apart : (unread rest : List ℕ) (given : Given) → IsShort unread → BeginsWithReply unread given rest → ⊥
whole-apart unread rest given part (line, e, this) = no-part unread line rest e part

unended-none : IsUnended []
unended-none k d few = absurd (omega (arith, few))

-- octets have a first line, or no LF
first-end : (octets : List ℕ)
    → IsUnended octets ⊎ ((line : List ℕ) × (rest : List ℕ) × (octets ≡ line ++ 10 ∷ rest) × IsUnended line)
first-end [] = inl unended-none
first-end (o ∷ octets) =
    elim (cases_eq o 10) [
      | inl same ↦ inr ([], octets, ap (λ x. x ∷ octets) same, unended-none)
      | inr other ↦ elim (first-end octets) [
        | inl none ↦ inl (All-cons (λ x. x ≢ 10) o octets other none)
        | inr found ↦ inr
            (o ∷ found.0, found.1, ap (λ l. o ∷ l) found.2, All-cons (λ x. x ≢ 10) o found.0 other found.3)
      ]
    ]

line-reading : (unread line rest : List ℕ) → unread ≡ line ++ 10 ∷ rest → IsShort line
    → IsFaulty unread ⊎ ((given : Given) × (behind : List ℕ) × BeginsWithReply unread given behind)
line-reading unread line rest e short =
    elim (line-either line) [
      | inl none ↦ inl (inr (line, rest, e, short, none))
      | inr reads ↦ inr (record { code = reads.0; id = reads.1; text = reads.2 }, rest, (line, e, (short, reads.3)))
    ]

pub some-reading : (unread : List ℕ)
    → IsShort unread ⊎ (IsFaulty unread ⊎ ((given : Given) × (rest : List ℕ) × BeginsWithReply unread given rest))
some-reading unread =
    elim (first-end unread) [
      | inl none ↦ elim (cases_lt (length unread) longest_reply) [
        | inl short ↦ inl (record { line = none; short = short })
        | inr long ↦ inr (inl (inl (long-prefix unread long none)))
      ]
      | inr found ↦ elim (cases_lt (length found.0) longest_reply) [
        | inl short ↦ inr (line-reading unread found.0 found.1 found.2 (record { line = found.3; short = short }))
        | inr long ↦ inr (inl (inl (long-line unread (length found.0) (found.0, found.1, found.2, found.3, refl) long)))
      ]
    ]

abbrev IsGood : List ℕ → Type 0
IsGood line = (token id : List ℕ) × (peers : List (List ℕ)) × IsFunnelLine line token id peers

abbrev HasSome : List ℕ → Type 0
HasSome line = (fault : LineFault) × (fault ≢ NoMemory) × HasFault line fault

behind-token : (line token : List ℕ) (words : List (List ℕ)) → length line ≤ longest_line
    → HasWords (without_cr line) (token ∷ words) → IsTrue (is_token token) → IsGood line ⊎ HasSome line
behind-token line token [] short h is = inr (BadId, λ e. cc, (short, token, [], h, is, tt))
behind-token line token (id ∷ others) short h is =
    elim (cases_Bool (is_msg_id id)) [
      | inl form ↦ inl (
        token,
        id,
        filter is_peer_name others,
        record
            { others = others; short = short; words = h; token_form = is; id_form = form; named = refl },
      )
      | inr bad ↦ inr (BadId, λ e. cc, (short, token, id ∷ others, h, is, bad))
    ]

of-words : (line : List ℕ) (words : List (List ℕ)) → length line ≤ longest_line → HasWords (without_cr line) words
    → IsGood line ⊎ HasSome line
of-words line [] short h = inr (NoToken, λ e. cc, (short, h))
of-words line (token ∷ words) short h =
    elim (cases_Bool (is_token token)) [
      | inl is ↦ behind-token line token words short h is
      | inr bad ↦ inr (BadToken, λ e. cc, (short, token, words, h, bad))
    ]

pub good-or-fault : (line : List ℕ) → IsGood line ⊎ HasSome line
good-or-fault line =
    elim (cases_lt longest_line (length line)) [
      | inl long ↦ inr (TooLong, λ e. cc, long)
      | inr short ↦ (let words = has_words (without_cr line) in of-words line words.0 short words.1)
    ]
