-- Octets that are read piece by piece.
use Rattle.std.proofs.Common.{◌≡◌, ◌≤◌, ◌+◌, ◌++◌, ◌∙◌, ◌||◌, ◌&&◌, ◌⊎◌, ℕ, List, [], Option, None, Some}
use Rattle.std.proofs.Common.{IfSome, IsSome, length, take, drop, inl, inr, sym, ap, subst, arith, append-nil}
use Rattle.std.proofs.Common.{length-take}
use Rattle.std.proofs.Math.Seq.{take-add, take-append_seam}
use Rattle.std.proofs.lemmas.Bool.{and_parts, cases_lt, leb-true, or_cases}
use Rattle.std.proofs.lemmas.List.{length-take-le, take_all}
use Rattle.std.proofs.KnownBytes.{Consumes-kept, Consumes-trans}
use Rattle.std.specs.Io.KnownBytes.{Consumes, IsAtEnd, Keeps}
use Rattle.std.specs.Prelude.{nat_le, nat_lt, IsTrue}
use Rattle.innd_spool.specs.Reads.{is_ended}
use Rattle.innd_spool.specs.Texts.{text_in}
use Rattle.innd_spool.specs.declared.texts.Form.{Form}
use Rattle.innd_spool.proofs.Blocks.{nothing_behind}

-- a list with a prefix of another is at least as long as that prefix
pub prefix_within : (xs ys : List ℕ) (f : ℕ) → f ≤ length xs → take f ys ≡ take f xs → f ≤ length ys
prefix_within xs ys f within prefix = omega (arith, length-take f ys, length-take f xs, ap length prefix)

-- xs is filled up to f, and ys has that prefix and n octets more
pub filled_more : (a b c : Option (List ℕ)) (xs ys : List ℕ) (f n : ℕ) → take f ys ≡ take f xs
    → Consumes a b (take f xs) → Consumes b c (take n (drop f ys)) → Consumes a c (take (f + n) ys)
filled_more a b c xs ys f n prefix before read =
    let parts : take (f + n) ys ≡ take f xs ++ take n (drop f ys) =
    take-add f n ys ∙ ap (λ l. l ++ take n (drop f ys)) prefix in
    subst (Consumes a c) (sym parts) (Consumes-trans a b c _ _ before read)

-- the reader gave nothing more
pub kept_prefix : (a b c : Option (List ℕ)) (xs ys : List ℕ) (f : ℕ) → take f ys ≡ take f xs
    → Consumes a b (take f xs) → Keeps b c → Consumes a c (take f ys)
kept_prefix a b c xs ys f prefix before kept =
    subst (Consumes a c) (sym prefix) (Consumes-kept a b c (take f xs) before kept)

-- what came of octets that have a text: all of them, or as many as are read
pub read_whole : (n : ℕ) (form : Form) (text rest : Option (List ℕ)) (xs : List ℕ) (f : ℕ)
    → Consumes text rest (take f xs) → f ≤ length xs → f ≤ n
    → IsTrue (nat_le n f || (nat_lt f (length xs) && is_ended form (take f xs))) ⊎ IsAtEnd rest
    → IfSome text (λ octets. IsSome (text_in form octets) → take f xs ≡ take n octets)
read_whole n form None rest xs f read within short end = tt
read_whole n form (Some octets) None xs f read within short end = absurd read
read_whole n form (Some octets) (Some more) xs f read within short end =
    let front = take f xs in
    let long : length front ≡ f = length-take-le f xs within in
    λ has. elim (cases_lt f n) [
      | inl less ↦
          let none : more ≡ [] = elim end [
            | inl out ↦ elim (or_cases (nat_le n f) (nat_lt f (length xs) && is_ended form front) out) [
              | inl full ↦ absurd (omega (arith, leb-true n f full))
              | inr left ↦
                  nothing_behind form front more (and_parts (nat_lt f (length xs)) (is_ended form front) left).1
                  (subst (λ l. IsSome (text_in form l)) read has)
            ]
            | inr at_end ↦ at_end
          ] in
          let same : octets ≡ front = read ∙ ap (λ l. front ++ l) none ∙ append-nil front in
          sym (ap (take n) same ∙ take_all n front (omega (arith, long)))
      | inr full ↦
          let all : length front ≡ n = omega (arith, long) in
          sym (ap (take n) read ∙ ap (λ k. take k (front ++ more)) (sym all) ∙ take-append_seam front more)
    ]
