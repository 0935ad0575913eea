-- Texts that are read piece by piece.
use Rattle.std.proofs.Common.{◌≡◌, ◌≤◌, ◌<◌, ◌+◌, ◌++◌, ℕ, List, Option, None, Some, IfSome, length, take, drop}
use Rattle.std.proofs.Common.{inl, inr, sym, ap, subst, ◌∙◌, arith, append-nil, length-take}
use Rattle.std.proofs.Math.Seq.{take-add, take-append_seam}
use Rattle.std.proofs.lemmas.Bool.{cases_lt}
use Rattle.std.proofs.lemmas.List.{length-take-le, take_all}
use Rattle.std.proofs.KnownBytes.{Consumes-kept, Consumes-trans}
use Rattle.std.specs.Io.KnownBytes.{Consumes, IsAtEnd, Keeps}
use Rattle.dot_codec.specs.Lines.{IsSendable}
use Rattle.article_store.specs.declared.store.Found.{Found}
use Rattle.article_store.specs.declared.store.Found.TheVariants.{Article, Gone, Unsendable}
use Rattle.article_store.specs.Finds.{IsFound}
use Rattle.article_store.specs.Reads.{IsReadAs}

-- a list with a prefix of another is at least as long as that prefix
pub prefix_within : (xs ys : List ℕ) (f : ℕ) → f ≤ length xs → take f ys ≡ take f xs → f ≤ length ys
prefix_within xs ys f within prefix = omega (arith, length-take f ys, length-take f xs, ap length prefix)

-- xs is filled up to f, and ys has that prefix and n octets more
pub filled_more : (a b c : Option (List ℕ)) (xs ys : List ℕ) (f n : ℕ) → take f ys ≡ take f xs
    → Consumes a b (take f xs) → Consumes b c (take n (drop f ys)) → Consumes a c (take (f + n) ys)
filled_more a b c xs ys f n prefix before read =
    let parts : take (f + n) ys ≡ take f xs ++ take n (drop f ys) =
    take-add f n ys ∙ ap (λ l. l ++ take n (drop f ys)) prefix in
    subst (Consumes a c) (sym parts) (Consumes-trans a b c _ _ before read)

-- the reader gave nothing more
pub kept_prefix : (a b c : Option (List ℕ)) (xs ys : List ℕ) (f : ℕ) → take f ys ≡ take f xs
    → Consumes a b (take f xs) → Keeps b c → Consumes a c (take f ys)
kept_prefix a b c xs ys f prefix before kept =
    subst (Consumes a c) (sym prefix) (Consumes-kept a b c (take f xs) before kept)

-- what came, up to the text's end or as much as is read
pub read_whole : (text rest : Option (List ℕ)) (xs : List ℕ) (f n : ℕ) → Consumes text rest (take f xs)
    → f ≤ length xs → f ≤ n → (f < n → IsAtEnd rest) → IfSome text (λ octets. take f xs ≡ take n octets)
read_whole None rest xs f n read within short end = tt
read_whole (Some octets) None xs f n read within short end = absurd read
read_whole (Some octets) (Some more) xs f n read within short end =
    let front = take f xs in
    let long : length front ≡ f = length-take-le f xs within in
    elim (cases_lt f n) [
      | inl less ↦
          let same : octets ≡ front = read ∙ ap (λ l. front ++ l) (end less) ∙ append-nil front in
          sym (ap (take n) same ∙ take_all n front (omega (arith, long)))
      | inr full ↦
          let all : length front ≡ n = omega (arith, long) in
          sym (ap (take n) read ∙ ap (λ k. take k (front ++ more)) (sym all) ∙ take-append_seam front more)
    ]

-- The text was read as it is: whole, or so much of it that it is too long. (For any limit, since a list that ends at a
-- large one is never to be computed.)
pub read_as : (most : ℕ) → ((text : List ℕ) → IsSendable text → length text < most)
    → (text : Option (List ℕ)) (front : List ℕ) (found : Found)
    → IfSome text (λ octets. front ≡ take most octets) → IsFound found → IsReadAs front found
    → IfSome text (λ octets. IsReadAs octets found)
read_as most shorter None front found same sendable judged = tt
read_as most shorter (Some octets) front (Article read) same sendable judged =
    let short : length read < most = shorter read sendable in
    let long = length-take most octets in
    judged ∙ same ∙ take_all most octets (omega (arith, short, ap length judged, ap length same, long))
read_as most shorter (Some octets) front Gone same sendable judged = absurd judged
read_as most shorter (Some octets) front Unsendable same sendable judged =
    λ sent.
    let short : length octets < most = shorter octets sent in
    judged (subst IsSendable (sym (same ∙ take_all most octets (omega (arith, short)))) sent)
