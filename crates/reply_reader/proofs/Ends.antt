-- The first LF of some octets.
use Rattle.std.proofs.Common.{◌≡◌, ◌≢◌, ◌+◌, ◌-◌, ◌≤◌, ◌<◌, ℕ, List, [], ◌∷◌, ◌++◌, length, get_or, take, drop, sym, ◌∙◌, ap, arith}
use Rattle.std.proofs.Common.{append_assoc, length-append, subst, None, Some, inl, inr}
use Rattle.std.proofs.lemmas.Bool.{cases_lt, eq-eqb, eqb-true}
use Rattle.std.proofs.lemmas.List.{take-append-drop, length-take, length-take-le, length-drop, get_or-take, get_or-drop}
use Rattle.std.proofs.lemmas.List.{drop_at, drop_more, take_at, take_rest}
use Rattle.std.proofs.lemmas.List.Elements.{All-from_get_or}
use Rattle.funnel.specs.Stream.{IsUnended}
use Rattle.memchr.specs.Find.{IsFirstByte, Passes, is_byte}
use Rattle.reply_reader.specs.Search.{EndsAt, IsSearched}
use Rattle.reply_reader.specs.Stream.{IsShort, longest_reply}

-- what a search from `searched` on shows of the octets that are unread
module _ (octets whole hay : List ℕ) (first searched : ℕ) (so_far : IsSearched octets first searched) (same : whole ≡ octets) (hay_is : hay ≡ take (length whole - searched) (drop searched whole)) where
  hay-drop : hay ≡ drop searched octets
  hay-drop = hay_is ∙ take_rest whole searched ∙ ap (λ l. drop searched l) same

  hay-length : length hay ≡ length octets - searched
  hay-length = ap length hay-drop ∙ length-drop searched octets

  hay-at : (k : ℕ) → get_or hay k 0 ≡ get_or octets (searched + k) 0
  hay-at k = ap (λ l. get_or l k 0) hay-drop ∙ get_or-drop searched octets k 0

  passed : (n : ℕ) → ((k : ℕ) → 0 ≤ k → k < n → Passes (is_byte 10) hay k → ⊥) → (offset : ℕ) → searched ≤ offset → offset < searched + n → get_or octets offset 0 ≢ 10
  passed n none offset low high is =
      let k : ℕ = offset - searched in
      let there : searched + (offset - searched) ≡ offset = omega arith in
      let at : get_or hay (offset - searched) 0 ≡ 10 = hay-at (offset - searched) ∙ ap (λ p. get_or octets p 0) there ∙ is in
      none (offset - searched) (omega arith) (omega arith) (eq-eqb (get_or hay (offset - searched) 0) 10 at)

  -- no LF in the next n octets
  pub searched-more : (n : ℕ) → n ≤ length hay → ((k : ℕ) → 0 ≤ k → k < n → Passes (is_byte 10) hay k → ⊥) → IsSearched octets first (searched + n)
  searched-more n fits none = record {
    low = omega (arith, so_far.low);
    high = omega (arith, so_far.high, fits, hay-length);
    none = λ offset low high. elim (cases_lt offset searched) [ inl below ↦ so_far.none offset low below | inr above ↦ passed n none offset above high ];
  }

  -- no LF in any
  pub searched-all : IsFirstByte (is_byte 10) hay None → IsSearched octets first (length octets)
  searched-all none =
      let full : searched + length hay ≡ length octets = omega (arith, so_far.high, hay-length) in
      subst (λ n. IsSearched octets first n) full (searched-more (length hay) (omega arith) none)

  -- an LF at an offset
  pub searched-to : (offset : ℕ) → IsFirstByte (is_byte 10) hay (Some offset) → IsSearched octets first (searched + offset)
  searched-to offset (none, here) = let high = none.high in searched-more offset (omega (arith, high)) none.before

  pub found-at : (offset : ℕ) → IsFirstByte (is_byte 10) hay (Some offset) → (searched + offset < length octets) × (get_or octets (searched + offset) 0 ≡ 10)
  found-at offset (none, here) =
      (omega (arith, none.high, so_far.high, hay-length), sym (hay-at offset) ∙ eqb-true (get_or hay offset 0) 10 here)

-- the octets that are unread, up to where the search came
lacks-to : (octets : List ℕ) (first searched : ℕ) → IsSearched octets first searched → IsUnended (take (searched - first) (drop first octets))
lacks-to octets first searched so_far =
    let n : ℕ = searched - first in
    All-from_get_or (λ o. o ≢ 10) (take (searched - first) (drop first octets)) 0 (λ k below is.
    let inside : k < searched - first = omega (arith, below, length-take (searched - first) (drop first octets)) in
    let at : get_or (take (searched - first) (drop first octets)) k 0 ≡ get_or octets (first + k) 0 =
    get_or-take (searched - first) (drop first octets) k 0 inside ∙ get_or-drop first octets k 0
    in
    so_far.none (first + k) (omega arith) (omega (arith, inside, so_far.low)) (sym at ∙ is))

-- a search that came to an LF
pub ends-at : (octets unread : List ℕ) (first searched : ℕ) → drop first octets ≡ unread → IsSearched octets first searched → searched < length octets → get_or octets searched 0 ≡ 10
    → EndsAt unread (searched - first)
ends-at octets unread first searched view so_far within here =
    let n : ℕ = searched - first in
    let len : n < length (drop first octets) = omega (arith, so_far.low, length-drop first octets, within) in
    let there : first + (searched - first) ≡ searched = omega (arith, so_far.low) in
    let at : get_or (drop first octets) n 0 ≡ 10 = get_or-drop first octets n 0 ∙ ap (λ p. get_or octets p 0) there ∙ here in (
      take n (drop first octets),
      drop (n + 1) (drop first octets),
      sym view ∙ sym (take-append-drop n (drop first octets)) ∙ ap (λ l. take n (drop first octets) ++ l) (drop_more (drop first octets) n 0 len ∙ ap (λ o. o ∷ drop (n + 1) (drop first octets)) at),
      lacks-to octets first searched so_far,
      sym (length-take-le n (drop first octets) (omega (arith, len))),
    )

-- a search that came to the end
pub lacks-end : (octets unread : List ℕ) (first : ℕ) → drop first octets ≡ unread → IsSearched octets first (length octets) → IsUnended unread
lacks-end octets unread first view so_far =
    let whole : take (length octets - first) (drop first octets) ≡ unread = take_rest octets first ∙ view in
    subst (λ l. IsUnended l) whole (lacks-to octets first (length octets) so_far)

-- the first line, cut off at its LF
pub whole-line : (unread line rest : List ℕ) (offset : ℕ) → EndsAt unread offset → offset < longest_reply → line ≡ take offset unread → rest ≡ drop (offset + 1) unread
    → (unread ≡ line ++ 10 ∷ rest) × IsShort line
whole-line unread line rest offset (prefix, back, parts, lacks, is) short line-is rest-is =
    let first : line ≡ prefix = line-is ∙ ap (λ u. take offset u) parts ∙ take_at prefix (10 ∷ back) offset (sym is) in
    let split : unread ≡ (prefix ++ 10 ∷ []) ++ back = parts ∙ sym (append_assoc prefix (10 ∷ []) back) in
    let len : length (prefix ++ 10 ∷ []) ≡ offset + 1 = omega (arith, length-append prefix (10 ∷ []), is) in
    let behind : rest ≡ back = rest-is ∙ ap (λ u. drop (offset + 1) u) split ∙ drop_at (prefix ++ 10 ∷ []) back (offset + 1) len in (
      parts ∙ ap (λ l. l ++ 10 ∷ back) (sym first) ∙ ap (λ r. line ++ 10 ∷ r) (sym behind),
      record { line = subst (λ l. IsUnended l) (sym first) lacks; short = omega (arith, ap length first, is, short) },
    )
