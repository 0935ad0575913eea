-- Texts of the items of a list, written one after another.
use Rattle.std.proofs.Common.{◌≡◌, ◌<◌, ◌≤◌, ◌+◌, ◌-◌, ◌∙◌, ℕ, List, [], ◌∷◌, ◌++◌, Option, length, take, drop, get_or}
use Rattle.std.proofs.Common.{ap, arith, subst, sym, take-append-drop}
use Rattle.std.proofs.lemmas.Grind.{flat_map-append}
use Rattle.std.proofs.lemmas.List.{take_all}
use Rattle.std.specs.Io.KnownBytes.{Appends}
use Rattle.std.specs.Prelude.{flat_map}
use Rattle.status.specs.Json.{next_text, peer_text, peers_text}
use Rattle.status.specs.Prefixes.{AppendsPrefix}
use Rattle.status.specs.declared.live.LiveStatus.{LiveStatus}
use Rattle.status.proofs.Parts.{both, next_text as text_so_far, prefix_after, prefix_before}

-- the items so far came out, and then the next one
pub whole_at : {X : Type 0} (a b c : Option (List ℕ)) (f : X → List ℕ) (xs : List X) (i : ℕ) (d : X) → i < length xs
    → Appends a b (flat_map f (take i xs)) → Appends b c (f (get_or xs i d))
    → Appends a c (flat_map f (take (i + 1) xs))
whole_at a b c f xs i d h p q =
    subst (Appends a c) (sym (text_so_far f xs i d h)) (
    both a b c (flat_map f (take i xs)) (f (get_or xs i d)) p q)

-- the items so far came out, and then a prefix of the next one
pub prefix_at : {X : Type 0} (a b c : Option (List ℕ)) (f : X → List ℕ) (xs : List X) (i : ℕ) (d : X) → i < length xs
    → Appends a b (flat_map f (take i xs)) → AppendsPrefix b c (f (get_or xs i d))
    → AppendsPrefix a c (flat_map f xs)
prefix_at a b c f xs i d h p q =
    let rest = flat_map f (drop (i + 1) xs) in
    let all : flat_map f xs ≡ flat_map f (take (i + 1) xs) ++ rest =
    ap (flat_map f) (sym (take-append-drop (i + 1) xs)) ∙ flat_map-append f (take (i + 1) xs) (drop (i + 1) xs) in
    subst (AppendsPrefix a c) (sym (all ∙ ap (λ l. l ++ rest) (text_so_far f xs i d h))) (
    prefix_before a c (flat_map f (take i xs) ++ f (get_or xs i d)) rest (
    prefix_after a b c (flat_map f (take i xs)) (f (get_or xs i d)) p q))

-- peers are the first and the others
pub first_and_others : (uptime : ℕ) (peers : List LiveStatus) (first : LiveStatus) → 1 ≤ length peers
    → first ≡ get_or peers 0 first
    → peers_text uptime peers
    ≡ (10 ∷ peer_text uptime first) ++ flat_map (next_text uptime) (take (length peers - 1) (drop 1 peers))
first_and_others uptime [] first h e = absurd (omega (arith, h))
first_and_others uptime (peer ∷ peers) first h e =
    let long : length peers ≤ length (peer ∷ peers) - 1 = omega arith in
    ap (λ p. (10 ∷ peer_text uptime p) ++ flat_map (next_text uptime) peers) (sym e)
    ∙ ap (λ l. (10 ∷ peer_text uptime first) ++ flat_map (next_text uptime) l)
    (sym (take_all (length (peer ∷ peers) - 1) peers long))
