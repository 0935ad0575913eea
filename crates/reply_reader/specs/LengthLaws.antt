-- Octets that wait for a reply are too long for one, or they are short, and never both.
use Rattle.std.proofs.Common.{◌≡◌, ◌≢◌, ◌≤◌, ◌<◌, ℕ, List, [], ◌∷◌, ◌++◌, length, take, drop, sym, ◌∙◌, ap, arith}
use Rattle.std.proofs.Common.{length-append}
use Rattle.std.proofs.Common.{append_assoc}
use Rattle.std.proofs.lemmas.List.{take-append-drop, length-take-le}
use Rattle.std.proofs.lemmas.List.Elements.{All-take}
use Rattle.funnel.specs.Stream.{IsUnended}
use Rattle.funnel.specs.StreamLaws.{unended_head, unended_tail}
use Rattle.reply_reader.specs.Search.{EndsAt}
use Rattle.reply_reader.specs.Stream.{IsShort, IsTooLong, longest_reply}

-- octets without LF that reach past the first line have its LF
pub past-has-end : (prefix back line rest : List ℕ) → prefix ++ back ≡ line ++ 10 ∷ rest → length line < length prefix
    → IsUnended prefix → ⊥
past-has-end [] back line rest e longer p = absurd (omega (arith, longer))
past-has-end (o ∷ prefix) back [] rest e longer p = let same : o ≡ 10 = cc in unended_head o prefix p same
past-has-end (o ∷ prefix) back (c ∷ line) rest e longer p =
    let behind : prefix ++ back ≡ line ++ 10 ∷ rest = cc in
    past-has-end prefix back line rest behind (omega (arith, longer)) (unended_tail o prefix p)

-- a first line that is short is no longer one
pub short-is-not-long : (unread line rest : List ℕ) → unread ≡ line ++ 10 ∷ rest → IsShort line → IsTooLong unread → ⊥
short-is-not-long unread line rest e short (prefix, back, parts, len, lacks) =
    past-has-end prefix back line rest (sym parts ∙ e) (omega (arith, short.short, len)) lacks

-- octets that wait for an LF are not too long
pub part-is-not-long : (unread : List ℕ) → IsShort unread → IsTooLong unread → ⊥
part-is-not-long unread short (prefix, back, parts, len, lacks) = omega (arith, short.short, len, ap length parts, length-append prefix back)

-- the prefix of enough octets is too long, if it has no LF
pub long-prefix : (unread : List ℕ) → longest_reply ≤ length unread → IsUnended unread → IsTooLong unread
long-prefix unread long lacks =
    (take longest_reply unread, drop longest_reply unread, sym (take-append-drop longest_reply unread), length-take-le longest_reply unread long, All-take (λ o. o ≢ 10) longest_reply unread lacks)

-- the same for a first line that is known
pub long-line : (unread : List ℕ) (offset : ℕ) → EndsAt unread offset → longest_reply ≤ offset → IsTooLong unread
long-line unread offset (line, rest, parts, lacks, is) long =
    let enough : longest_reply ≤ length line = omega (arith, is, long) in
    let prefix = long-prefix line enough lacks in
    (prefix.0, prefix.1 ++ 10 ∷ rest, parts ∙ ap (λ l. l ++ 10 ∷ rest) prefix.2 ∙ append_assoc prefix.0 prefix.1 (10 ∷ rest), prefix.3, prefix.4)
