-- The first index of an octet, as a search returns it and as the lines of a text have it.
use Rattle.std.proofs.Common.{◌≡◌, ◌<◌, ◌==◌, ℕ, List, length, get_or, Option, None, Some, arith, cond, ltb}
use Rattle.std.specs.List.{position, position_or_len}
use Rattle.std.proofs.lemmas.Bool.{false_from_ne_true}
use Rattle.std.proofs.lemmas.Bool.Decides.{nat_tests}
use Rattle.std.proofs.lemmas.List.Sums.{position_or_len_is}
use Rattle.memchr.specs.Find.{IsFirstByte}

found-none : (index all : ℕ) → index ≡ all → None ≡ cond (ltb index all) (Some index) None
found-none index all is = grind (arith, nat_tests)

found-some : (index all found : ℕ) → index ≡ found → found < all → Some found ≡ cond (ltb index all) (Some index) None
found-some index all found is inside = grind (arith, nat_tests)

-- a search for an octet finds its first index
pub first-index : (octet : ℕ) (octets : List ℕ) (found : Option ℕ) → IsFirstByte (λ x. x == octet) octets found
    → found ≡ position (λ x. x == octet) octets
first-index octet octets None h =
    found-none (position_or_len (λ x. x == octet) octets) (length octets)
    (position_or_len_is (λ x. x == octet) octets (length octets) 0 (omega arith)
    (λ k inside. false_from_ne_true (get_or octets k 0 == octet) (h k (omega arith) inside))
    (λ inside. absurd (omega (arith, inside))))
first-index octet octets (Some found) h =
    found-some (position_or_len (λ x. x == octet) octets) (length octets) found
    (position_or_len_is (λ x. x == octet) octets found 0 (omega (arith, h.0.high))
    (λ k before. false_from_ne_true (get_or octets k 0 == octet) (h.0.before k (omega arith) before))
    (λ _. h.1))
    h.0.high
