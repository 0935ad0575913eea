-- What the search found is the first place.
use Rattle.std.proofs.Common.{arith, ◌≡◌, ℕ, true, false, eqb, List, length, get_or, Option, Some, None}
use Rattle.std.proofs.Common.{sym, inl, inr}
use Rattle.std.specs.Prelude.{unwrap_or}
use Rattle.std.proofs.Common.{◌∙◌}
use Rattle.std.proofs.lemmas.Bool.{cases_Bool}
use Rattle.std.proofs.lemmas.List.Sums.{position_or_len_is}
use Rattle.memchr.specs.Find.{IsFirstByte, is_byte}
use Rattle.login.specs.Accounts.{place_of}
use Rattle.login.proofs.account_line.place_of.Goals as goal

-- an octet at which the test does not hold
fails : (octet other : ℕ) → (eqb other octet ≡ true → ⊥) → eqb other octet ≡ false
fails octet other none =
    elim (cases_Bool (eqb other octet)) [ inl passes ↦ absurd (none passes) | inr other_is ↦ other_is ]

place_is : (octet : ℕ) (octets : List ℕ) (found : Option ℕ) → IsFirstByte (is_byte octet) octets found
    → unwrap_or found (length octets) ≡ place_of octet octets
unfolding place_of
place_is octet octets None nowhere =
    sym (position_or_len_is (λ other. eqb other octet) octets (length octets) 0 (omega arith)
    (λ k l. fails octet (get_or octets k 0) (nowhere k (omega arith) l)) (λ l. absurd (omega (arith, l))))
place_is octet octets (Some k) (first, here) =
    sym (position_or_len_is (λ other. eqb other octet) octets k 0 (omega (arith, first.high))
    (λ q l. fails octet (get_or octets q 0) (first.before q (omega arith) l)) (λ l. here))

pub returns-clause-value : goal.returns-clause-value
returns-clause-value c = c.unwrap_or.ensures ∙ place_is c.args.octet c.args.octets.now c.memchr.result c.memchr.ensures
