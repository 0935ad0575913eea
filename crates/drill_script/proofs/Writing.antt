-- What the first octets of a written text say.
use Rattle.std.proofs.Common.{◌≡◌, ◌≢◌, ℕ, ◌-◌, ◌≤◌, List, [], ◌∷◌, ◌++◌, length, get_or, take, drop, drop-cons}
use Rattle.std.proofs.Common.{append-nil, refl, sym, ap, ◌∙◌, subst, arith}
use Rattle.std.proofs.lemmas.List.{take_rest}
use Rattle.drill_script.specs.Action.{Escapes, IsWritten, Ends, Plain, Escaped}

-- a letter escapes one octet
escapes_once : (letter one other : ℕ) → Escapes letter one → Escapes letter other → one ≡ other
escapes_once letter one other p q = grind arith

-- the first octet of a list and the rest
one_off : (written : List ℕ) → 1 ≤ length written →
    written ≡ get_or written 0 0 ∷ take (length written - 1) (drop 1 written)
one_off written some =
    let first : written ≡ get_or written 0 0 ∷ drop 1 written = drop-cons written 0 0 (omega arith) in
    first ∙ ap (λ (rest : List ℕ). get_or written 0 0 ∷ rest) (sym (take_rest written 1))

-- the first two octets of a list and the rest
two_off : (written : List ℕ) → 2 ≤ length written →
    written ≡ get_or written 0 0 ∷ get_or written 1 0 ∷ take (length written - 2) (drop 2 written)
two_off written some =
    let first : written ≡ get_or written 0 0 ∷ drop 1 written = drop-cons written 0 0 (omega arith) in
    let second : drop 1 written ≡ get_or written 1 0 ∷ drop 2 written = drop-cons written 1 0 (omega arith) in
    let both : written ≡ get_or written 0 0 ∷ get_or written 1 0 ∷ drop 2 written =
    first ∙ ap (λ (rest : List ℕ). get_or written 0 0 ∷ rest) second in
    both ∙ ap (λ (rest : List ℕ). get_or written 0 0 ∷ get_or written 1 0 ∷ rest) (sym (take_rest written 2))

-- a backslash and a letter stand for an octet that the letter escapes
escape_means : (written text : List ℕ) → IsWritten written text → (letter : ℕ) (behind : List ℕ) →
    written ≡ 92 ∷ letter ∷ behind →
    (octet : ℕ) × (rest : List ℕ) × (text ≡ octet ∷ rest) × Escapes letter octet × IsWritten behind rest
escape_means written text Ends letter behind e = let never : ⊥ = cc in absurd never
escape_means written text (Plain o w t own more) letter behind e = let same : o ≡ 92 = cc in absurd (own same)
escape_means written text (Escaped l o w t escapes more) letter behind e =
    let same : l ≡ letter = cc in
    let back : w ≡ behind = cc in
    (o, t, refl, subst (λ (x : ℕ). Escapes x o) same escapes, subst (λ (x : List ℕ). IsWritten x t) back more)

pub plain_from : (written : List ℕ) → 1 ≤ length written → get_or written 0 0 ≢ 92 → (text : List ℕ) →
    IsWritten (take (length written - 1) (drop 1 written)) text → IsWritten written (get_or written 0 0 ∷ text)
plain_from written some other text more =
    subst (λ (w : List ℕ). IsWritten w (get_or written 0 0 ∷ text)) (sym (one_off written some))
    (Plain (get_or written 0 0) _ text other more)

-- a list that begins with a backslash and another octet
backslash_off : (written : List ℕ) → 2 ≤ length written → get_or written 0 0 ≡ 92 →
    written ≡ 92 ∷ get_or written 1 0 ∷ take (length written - 2) (drop 2 written)
backslash_off written some first =
    two_off written some ∙ ap (λ (x : ℕ). x ∷ get_or written 1 0 ∷ take (length written - 2) (drop 2 written)) first

pub escaped_from : (written : List ℕ) (octet : ℕ) → 2 ≤ length written → get_or written 0 0 ≡ 92 →
    Escapes (get_or written 1 0) octet → (text : List ℕ) →
    IsWritten (take (length written - 2) (drop 2 written)) text → IsWritten written (octet ∷ text)
escaped_from written octet some first escapes text more =
    subst (λ (w : List ℕ). IsWritten w (octet ∷ text)) (sym (backslash_off written some first))
    (Escaped (get_or written 1 0) octet _ text escapes more)

pub escaped_to : (written : List ℕ) (octet : ℕ) → 2 ≤ length written → get_or written 0 0 ≡ 92 →
    Escapes (get_or written 1 0) octet → (text : List ℕ) →
    IsWritten written text →
    (behind : List ℕ) × (text ≡ octet ∷ behind) × IsWritten (take (length written - 2) (drop 2 written)) behind
escaped_to written octet some first escapes text whole =
    let means = escape_means written text whole (get_or written 1 0) _ (backslash_off written some first) in (
      means.1,
      means.2
          ∙ ap (λ (x : ℕ). x ∷ means.1) (escapes_once (get_or written 1 0) means.0 octet means.3 escapes),
      means.4,
    )

pub escapes_none : (written : List ℕ) → 2 ≤ length written → get_or written 0 0 ≡ 92 →
    ((octet : ℕ) → Escapes (get_or written 1 0) octet → ⊥) → (text : List ℕ) →
    IsWritten written text → ⊥
escapes_none written some first none text whole =
    let means = escape_means written text whole (get_or written 1 0) _ (backslash_off written some first) in
    none means.0 means.3

-- nothing is left
pub read_all : (written rest text : List ℕ) → length rest ≡ 0 →
    ((t : List ℕ) → IsWritten rest t → IsWritten written (text ++ t)) → IsWritten written text
read_all written [] text none so_far = subst (λ (x : List ℕ). IsWritten written x) (append-nil text) (so_far [] Ends)
read_all written (octet ∷ rest) text none so_far = absurd (omega arith)

-- an octet other than a backslash stands for itself
plain_means : (written text : List ℕ) → IsWritten written text → (octet : ℕ) (behind : List ℕ) →
    written ≡ octet ∷ behind → octet ≢ 92 →
    (rest : List ℕ) × (text ≡ octet ∷ rest) × IsWritten behind rest
plain_means written text Ends octet behind e own = let never : ⊥ = cc in absurd never
plain_means written text (Plain o w t other more) octet behind e own =
    let same : o ≡ octet = cc in
    let back : w ≡ behind = cc in
    (t, ap (λ (x : ℕ). x ∷ t) same, subst (λ (x : List ℕ). IsWritten x t) back more)
plain_means written text (Escaped l o w t escapes more) octet behind e own = let same : octet ≡ 92 =
    cc in absurd (own same)

none_written : (written text : List ℕ) → IsWritten written text → written ≡ [] → text ≡ []
none_written written text Ends e = refl
none_written written text (Plain o w t other more) e = let never : ⊥ = cc in absurd never
none_written written text (Escaped l o w t escapes more) e = let never : ⊥ = cc in absurd never

-- a written text has one reading
pub written_once : (written one other : List ℕ) → IsWritten written one → IsWritten written other → one ≡ other
written_once written one other Ends q = sym (none_written [] other q refl)
written_once written one other (Plain o w t own more) q =
    let means = plain_means (o ∷ w) other q o w refl own in
    ap (λ (x : List ℕ). o ∷ x) (written_once w t means.0 more means.2) ∙ sym means.1
written_once written one other (Escaped l o w t escapes more) q =
    let means = escape_means (92 ∷ l ∷ w) other q l w refl in
    let same : o ≡ means.0 = escapes_once l o means.0 escapes means.3 in
    ap (λ (x : ℕ). x ∷ t) same ∙ ap (λ (x : List ℕ). means.0 ∷ x) (written_once w t means.1 more means.4)
    ∙ sym means.2
