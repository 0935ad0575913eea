-- Names of peers: as text, and their indexes.
use Rattle.std.proofs.Common.{◌≡◌, ◌<◌, ◌+◌, ◌==◌, ◌&&◌, ◌||◌, ℕ, Bool, true, false, not, List, [], ◌∷◌, ◌++◌, length, map, get_or, cond, zero, suc, Option, None, Some, refl, ◌∙◌, sym, arith, add-one, leb, inl, inr}
use Rattle.std.specs.List.{list_all}
use Rattle.std.specs.Option.{option_map, is_some}
use Rattle.std.specs.Str.{IsUtf8, bytes_eq}
use Rattle.std.proofs.lemmas.Bool.{and_parts, or_cases, false_from_ne_true, both_ways, leb-true, eqb-true}
use Rattle.std.proofs.lemmas.Bool.Decides.{same_from_decides}
use Rattle.std.proofs.lemmas.Slice.Eq.{bytes_eq-Decides}
use Rattle.std.proofs.lemmas.Str.{IsUtf8-from_ascii}
use Rattle.funnel.specs.Names.{is_alphanumeric, is_name_octet, is_peer_name}
use Rattle.feed_conf.specs.Reading.{Declared, is_declared}
use Rattle.feed_conf.specs.ReaderView.{index_of}

in-range : (low high octet : ℕ) → high < 128 → (leb low octet && leb octet high) ≡ true → octet < 128
in-range low high octet h e =
    let parts = and_parts (leb low octet) (leb octet high) e in
    omega (arith, h, leb-true octet high parts.1)

alphanumeric-small : (octet : ℕ) → is_alphanumeric octet ≡ true → octet < 128
alphanumeric-small octet h =
    elim (or_cases ((leb 97 octet && leb octet 122) || (leb 65 octet && leb octet 90)) (leb 48 octet && leb octet 57) h) [
      | inl k ↦ elim (or_cases (leb 97 octet && leb octet 122) (leb 65 octet && leb octet 90) k) [
        | inl e ↦ in-range 97 122 octet (omega arith) e
        | inr e ↦ in-range 65 90 octet (omega arith) e
      ]
      | inr e ↦ in-range 48 57 octet (omega arith) e
    ]

name-small : (octet : ℕ) → is_name_octet octet ≡ true → octet < 128
name-small octet h =
    elim (or_cases (is_alphanumeric octet || octet == 46 || octet == 45) (octet == 95) h) [
      | inl h1 ↦ elim (or_cases (is_alphanumeric octet || octet == 46) (octet == 45) h1) [
        | inl h2 ↦ elim (or_cases (is_alphanumeric octet) (octet == 46) h2) [
          | inl h3 ↦ alphanumeric-small octet h3
          | inr e ↦ omega (arith, eqb-true octet 46 e)
        ]
        | inr e ↦ omega (arith, eqb-true octet 45 e)
      ]
      | inr e ↦ omega (arith, eqb-true octet 95 e)
    ]

ascii : (octets : List ℕ) → list_all is_name_octet octets ≡ true → (i : ℕ) → get_or octets i 0 < 128
ascii [] h i = omega arith
ascii (octet ∷ octets) h zero = name-small octet (and_parts (is_name_octet octet) (list_all is_name_octet octets) h).0
ascii (octet ∷ octets) h (suc i) = ascii octets (and_parts (is_name_octet octet) (list_all is_name_octet octets) h).1 i

-- a name is text
pub name-utf8 : (name : List ℕ) → is_peer_name name ≡ true → IsUtf8 name
name-utf8 name h =
    let prefix = and_parts (leb 1 (length name) && leb (length name) 64 && list_all is_name_octet name) (not (get_or name 0 0 == 46)) h in
    let all = and_parts (leb 1 (length name) && leb (length name) 64) (list_all is_name_octet name) prefix.0 in
    IsUtf8-from_ascii name (ascii name all.1)

index-step : (o : Option ℕ) (b : Bool) (r : Bool) → is_some o ≡ r → is_some (cond b (Some 0) (option_map (λ index. index + 1) o)) ≡ (b || r)
index-step o true r h = refl
index-step None false r h = h
index-step (Some n) false r h = h

-- a name has an index if a peer of that name is declared
pub index-declared : (octets : List ℕ) (peers : List Declared) → is_some (index_of octets (map (λ (peer : Declared). peer.name) peers)) ≡ is_declared octets peers
index-declared octets [] = refl
index-declared octets (peer ∷ peers) =
    index-step (index_of octets (map (λ (peer : Declared). peer.name) peers)) (bytes_eq octets peer.name) (is_declared octets peers) (index-declared octets peers)

none-from : (o : Option ℕ) → is_some o ≡ false → o ≡ None
none-from None h = refl
none-from (Some n) h = cc

-- a name of no peer has no index
pub index-none : (octets : List ℕ) (peers : List Declared) → is_declared octets peers ≡ false → index_of octets (map (λ (peer : Declared). peer.name) peers) ≡ None
index-none octets peers h = none-from (index_of octets (map (λ (peer : Declared). peer.name) peers)) (index-declared octets peers ∙ h)

bytes_eq-sym : (xs ys : List ℕ) → bytes_eq xs ys ≡ bytes_eq ys xs
bytes_eq-sym xs ys =
    same_from_decides (bytes_eq xs ys) (bytes_eq ys xs) (bytes_eq-Decides xs ys)
    ((λ e. sym ((bytes_eq-Decides ys xs).0 e)), (λ e. (bytes_eq-Decides ys xs).1 (sym e)))

none-parts : (o : Option ℕ) (b : Bool) → cond b (Some 0) (option_map (λ index. index + 1) o) ≡ None → (b ≡ false) × (o ≡ None)
none-parts o true h = cc
none-parts None false h = (refl, refl)
none-parts (Some n) false h = cc

push-step : (same_head same_new : Bool) (later old : Option ℕ) (n : ℕ) → (same_head ≡ true → same_new ≡ false) → later ≡ cond same_new (Some n) old →
    cond same_head (Some 0) (option_map (λ index. index + 1) later) ≡ cond same_new (Some (suc n)) (cond same_head (Some 0) (option_map (λ index. index + 1) old))
push-step true same_new later old n h e = rw (h refl) refl
push-step false true later old n h e = rw (e, add-one) refl
push-step false false later old n h e = rw e refl

-- the index of a name that is added
pub index-push : (octets name : List ℕ) (names : List (List ℕ)) → index_of name names ≡ None → index_of octets (names ++ name ∷ []) ≡ cond (bytes_eq name octets) (Some (length names)) (index_of octets names)
index-push octets name [] h = rw (bytes_eq-sym octets name) refl
index-push octets name (first ∷ names) h =
    let parts = none-parts (index_of name names) (bytes_eq name first) h in
    push-step (bytes_eq octets first) (bytes_eq name octets) (index_of octets (names ++ name ∷ [])) (index_of octets names) (length names)
    (λ e. false_from_ne_true (bytes_eq name octets) (λ k. both name octets first parts.0 ((bytes_eq-Decides name octets).0 k) ((bytes_eq-Decides octets first).0 e)))
    (index-push octets name names parts.1)
  where
    both : (a b c : List ℕ) → bytes_eq a c ≡ false → a ≡ b → b ≡ c → ⊥
    both a b c f e g = both_ways (bytes_eq a c) f ((bytes_eq-Decides a c).1 (e ∙ g))
