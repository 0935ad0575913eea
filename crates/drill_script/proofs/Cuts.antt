-- Octets are cut at their first space in only one way.
use Rattle.std.proofs.Common.{◌≡◌, ◌≢◌, ◌==◌, ℕ, Bool, true, false, not, List, [], ◌∷◌, ◌++◌, Option, None, Some}
use Rattle.std.proofs.Common.{inl, inr, refl, sym, subst, ap, ◌∙◌, arith}
use Rattle.std.specs.Prelude.{◌⊎◌}
use Rattle.std.specs.List.{list_all}
use Rattle.std.proofs.lemmas.Bool.{and_parts, cases_Bool, eqb-false, eqb-true}
use Rattle.std.proofs.lemmas.List.Elements.{All-cons, All-head, All-tail}
use Rattle.drill_script.specs.Words.{IsCut, IsSolid}

-- an octet other than a space
abbrev pub is_solid : ℕ → Bool
is_solid octet = not (octet == 32)

solid_not : (octet : ℕ) → octet ≡ 32 → is_solid octet ≡ true → ⊥
solid_not octet same first = let never : is_solid 32 ≡ true = ap is_solid (sym same) ∙ first in cc

pub solid_none : IsSolid []
solid_none = λ k d inside. absurd (omega arith)

pub solid_head : (octet : ℕ) (word : List ℕ) → IsSolid (octet ∷ word) → octet ≢ 32
solid_head octet word solid = All-head (λ o. o ≢ 32) octet word solid

pub solid_tail : (octet : ℕ) (word : List ℕ) → IsSolid (octet ∷ word) → IsSolid word
solid_tail octet word solid = All-tail (λ o. o ≢ 32) octet word solid

-- a word whose octets pass the test has no space
pub solid_from : (word : List ℕ) → list_all is_solid word ≡ true → IsSolid word
solid_from [] pass = solid_none
solid_from (octet ∷ word) pass =
    let parts = and_parts (is_solid octet) (list_all is_solid word) pass in
    All-cons (λ o. o ≢ 32) octet word (λ same. solid_not octet same parts.0) (solid_from word parts.1)

-- two words before a space, and the texts after it
pub words_once : (a b x y : List ℕ) → IsSolid a → IsSolid b → a ++ 32 ∷ x ≡ b ++ 32 ∷ y → (a ≡ b) × (x ≡ y)
words_once [] [] x y p q e = (refl, cc)
words_once [] (o ∷ b) x y p q e = let same : o ≡ 32 = cc in absurd (solid_head o b q same)
words_once (o ∷ a) [] x y p q e = let same : o ≡ 32 = cc in absurd (solid_head o a p same)
words_once (o ∷ a) (c ∷ b) x y p q e =
    let same : o ≡ c = cc in
    let behind : a ++ 32 ∷ x ≡ b ++ 32 ∷ y = cc in
    let cut = words_once a b x y (solid_tail o a p) (solid_tail c b q) behind in
    let others : a ≡ b = cut.0 in
    (cc, cut.1)

-- a word followed by a space is not a word
pub spaced_is_not_solid : (a x : List ℕ) → IsSolid (a ++ 32 ∷ x) → ⊥
spaced_is_not_solid [] x p = solid_head 32 x p refl
spaced_is_not_solid (o ∷ a) x p = spaced_is_not_solid a x (solid_tail o (a ++ 32 ∷ x) p)

-- two cuts of the same octets
pub record SameCut (a b : List ℕ) (x y : Option (List ℕ)) : Type 0 where
  pub word : a ≡ b
  pub text : x ≡ y

pub cuts_once : (octets a b : List ℕ) (x y : Option (List ℕ)) → IsSolid a → IsSolid b → IsCut octets a x →
    IsCut octets b y → SameCut a b x y
cuts_once octets a b None None p q e f = record { word = sym e ∙ f; text = refl }
cuts_once octets a b None (Some y) p q e f =
    let same : a ≡ b ++ 32 ∷ y = sym e ∙ f in
    absurd (spaced_is_not_solid b y (subst IsSolid same p))
cuts_once octets a b (Some x) None p q e f =
    let same : b ≡ a ++ 32 ∷ x = sym f ∙ e in
    absurd (spaced_is_not_solid a x (subst IsSolid same q))
cuts_once octets a b (Some x) (Some y) p q e f =
    let once = words_once a b x y p q (sym e ∙ f) in
    record { word = once.0; text = ap Some once.1 }

-- octets have a cut
pub record HasCut (octets : List ℕ) : Type 0 where
  pub word : List ℕ
  pub text : Option (List ℕ)
  pub cut : IsCut octets word text
  pub solid : IsSolid word

pub cut_longer : (octet : ℕ) (octets word : List ℕ) (text : Option (List ℕ)) → IsCut octets word text →
    IsCut (octet ∷ octets) (octet ∷ word) text
cut_longer octet octets word None cut = ap (λ o. octet ∷ o) cut
cut_longer octet octets word (Some text) cut = ap (λ o. octet ∷ o) cut

cut_more : (octet : ℕ) (octets : List ℕ) → HasCut octets → ((octet == 32) ≡ true) ⊎ ((octet == 32) ≡ false) →
    HasCut (octet ∷ octets)
cut_more octet octets rest (inl same) =
    record { word = []; text = Some octets; cut = ap (λ o. o ∷ octets) (eqb-true octet 32 same); solid = solid_none }
cut_more octet octets rest (inr other) = record {
  word = octet ∷ rest.word;
  text = rest.text;
  cut = cut_longer octet octets rest.word rest.text rest.cut;
  solid = All-cons (λ o. o ≢ 32) octet rest.word (eqb-false octet 32 other) rest.solid;
}

pub cut_is : (octets : List ℕ) → HasCut octets
cut_is [] = record { word = []; text = None; cut = refl; solid = solid_none }
cut_is (octet ∷ octets) = cut_more octet octets (cut_is octets) (cases_Bool (octet == 32))
