-- Numbers that rise, all of them ready.
use Rattle.std.proofs.Common.{◌≡◌, ℕ, ◌+◌, ◌<◌, List, [], ◌∷◌, ◌++◌, length, get_or, take, sym, ap, ◌∙◌, subst, arith}
use Rattle.std.specs.List.{All}
use Rattle.std.specs.List.Sorted.{IsStrictlyIncreasing}
use Rattle.std.proofs.lemmas.List.{map-append, take_more, get_or-take, length-take-le}
use Rattle.std.proofs.lemmas.List.Elements.{All-from_get_or, All-head, All-tail}
use Rattle.std.proofs.lemmas.Map.Keys.{below_from_sorted, sorted_from_strictly_increasing}
use Rattle.peer_queue.specs.DebtPlace.{Ready, all_ready}
use Rattle.peer_queue.proofs.Inserted.{AreBelow}

below_ready : (n : ℕ) (ns : List ℕ) → All (λ m. m < n) ns → AreBelow n (all_ready ns)
below_ready n [] all = tt
below_ready n (m ∷ ns) all = (All-head (λ k. k < n) m ns all, below_ready n ns (All-tail (λ k. k < n) m ns all))

-- those before a key are below it
pub ready_below : (ns : List ℕ) (i n : ℕ) → IsStrictlyIncreasing ns → i < length ns → n ≡ get_or ns i n
    → AreBelow n (all_ready (take i ns))
ready_below ns i n rising inside is =
    below_ready n (take i ns)
    (All-from_get_or (λ m. m < n) (take i ns) n (λ j within.
    let len : length (take i ns) ≡ i = length-take-le i ns (omega arith) in
    let before : j < i = omega arith in
    let below : get_or ns j n < get_or ns i n =
    below_from_sorted ns j i n (sorted_from_strictly_increasing ns rising) before inside in
    subst (λ (m : ℕ). m < n) (sym (get_or-take i ns j n before)) (subst (λ (m : ℕ). get_or ns j n < m) (sym is) below)))

pub ready_more : (ns : List ℕ) (i n : ℕ) → i < length ns → n ≡ get_or ns i n
    → all_ready (take (i + 1) ns) ≡ all_ready (take i ns) ++ (n, Ready) ∷ []
ready_more ns i n inside is =
    ap all_ready (take_more ns i n inside ∙ ap (λ (m : ℕ). take i ns ++ m ∷ []) (sym is))
    ∙ map-append (λ (m : ℕ). (m, Ready)) (take i ns) (n ∷ [])
