use Rattle.std.proofs.Common.{◌≡◌, ◌-◌, ◌<◌, ◌≤◌, ◌++◌, ◌∷◌, [], List, ℕ, Some, length, map, refl, sym, ap, ◌∙◌, subst}
use Rattle.std.proofs.Common.{arith}
use Rattle.std.specs.Prelude.{Vec, slice_get, slice_set, vec_items}
use Rattle.std.specs.declared.alloc.Global.{Global}
use Rattle.std.proofs.lemmas.List.{length-map, map-append}
use Rattle.std.proofs.lemmas.Option.{slice_get-get_or, slice_get_within}
use Rattle.std.proofs.lemmas.Result.{on_ok_weaker}
use Rattle.std.specs.List.{All}
use Rattle.ledger_core.specs.Batch.{longest_batch}
use Rattle.recovery.proofs.Pends.{ends, get-last, last-length, last-set, set-last, some-apart}
use Rattle.recovery.proofs.pending.Pending.make_room.Goals as goal

-- the last changed, and its octets did not
set_same : (items old : List (Vec ℕ Global)) (last new : Vec ℕ Global) → items ≡ old
    → slice_get items (length items - 1) ≡ Some last → new.items ≡ last.items
    → map vec_items (slice_set items (length items - 1) new) ≡ map vec_items old
set_same items old last new same here octets =
    let within = slice_get_within items (length items - 1) last here in
    let end = ends items (omega (arith, within)) in
    let place : length items - 1 ≡ length end.prefix = omega (
      arith,
      ap length end.is,
      last-length end.prefix
          end.last,
    ) in
    let found : end.last ≡ last =
    some-apart end.last last (sym (get-last end.prefix end.last)
    ∙ (ap (λ (l : List (Vec ℕ Global)). slice_get l (length end.prefix)) (sym end.is)
    ∙ (ap (λ (n : ℕ). slice_get items n) (sym place) ∙ here))) in
    ap (map vec_items) (ap (λ (n : ℕ). slice_set items n new) place
    ∙ (ap (λ (l : List (Vec ℕ Global)). slice_set l (length end.prefix) new) end.is ∙ set-last end.prefix end.last new))
    ∙ (map-append (λ (v : Vec ℕ Global). v.items) end.prefix (new ∷ [])
    ∙ (ap (λ (x : List ℕ). map vec_items end.prefix ++ x ∷ []) (octets ∙ ap (λ (v : Vec ℕ Global). v.items) (sym found))
    ∙ (sym (map-append (λ (v : Vec ℕ Global). v.items) end.prefix (end.last ∷ []))
    ∙ ap (map vec_items) (sym end.is ∙ same))))

pub invariant_of-self-in-Some : goal.invariant_of-self-in-Some
invariant_of-self-in-Some c =
    let there : slice_get c.reserve.new.self.items (c.reserve.new.self.len - 1) ≡ Some c.in-Some.last.now =
    slice_get-get_or c.reserve.new.self.items (c.reserve.new.self.len - 1) c.in-Some.last.now
    (omega (arith, c.in-Some.ensures.variant.0 refl, c.reserve.new.self.ok.0))
    ∙ ap (λ (v : Vec ℕ Global). Some v) (sym c.in-Some.ensures.value) in
    let here : slice_get c.reserve.new.self.items (length c.reserve.new.self.items - 1) ≡ Some c.in-Some.last.now =
    ap (λ (n : ℕ). slice_get c.reserve.new.self.items (n - 1)) (sym c.reserve.new.self.ok.0) ∙ there in
    let same : map vec_items (slice_set c.reserve.new.self.items (c.reserve.new.self.len - 1) c.reserve-in-Some.new.self)
    ≡ map vec_items c.args.self.now.payloads.items =
    ap (λ (n : ℕ). map vec_items (slice_set c.reserve.new.self.items (n - 1) c.reserve-in-Some.new.self))
    c.reserve.new.self.ok.0
    ∙ set_same c.reserve.new.self.items c.args.self.now.payloads.items c.in-Some.last.now c.reserve-in-Some.new.self
    c.reserve.ensures.items here c.reserve-in-Some.ensures.items in
    record {
      fewer = omega (
        arith,
        c.args.self.now.fewer,
        ap length same,
        length-map (slice_set c.reserve.new.self.items (c.reserve.new.self.len - 1) c.reserve-in-Some.new.self)
            (λ (v : Vec ℕ Global). v.items),
        length-map c.args.self.now.payloads.items (λ (v : Vec ℕ Global). v.items),
      );
      fit = subst (All (λ (l : List ℕ). length l ≤ longest_batch)) (sym same) c.args.self.now.fit;
    }

pub returns-in-Some-clause-room : goal.returns-in-Some-clause-room
returns-in-Some-clause-room c =
    let items = c.reserve.new.self.items in
    let some : 0 < length items = omega (arith, c.in-Some.ensures.variant.0 refl, c.reserve.new.self.ok.0) in
    let end = ends items some in
    let place : length items - 1 ≡ length end.prefix = omega (
      arith,
      ap length end.is,
      last-length end.prefix
          end.last,
    ) in
    let now : slice_set items (c.reserve.new.self.len - 1) c.reserve-in-Some.new.self
    ≡ end.prefix ++ c.reserve-in-Some.new.self ∷ [] =
    ap (λ (n : ℕ). slice_set items (n - 1) c.reserve-in-Some.new.self) c.reserve.new.self.ok.0
    ∙ (ap (λ (n : ℕ). slice_set items n c.reserve-in-Some.new.self) place
    ∙ (ap (λ (l : List (Vec ℕ Global)). slice_set l (length end.prefix) c.reserve-in-Some.new.self) end.is
    ∙ set-last end.prefix end.last c.reserve-in-Some.new.self)) in
    on_ok_weaker c.reserve-in-Some.result
    (λ room. record {
      begin = omega (
        arith,
        c.in_ok-reserve.ensures.ok,
        ap length now,
        ap length end.is,
        last-length end.prefix end.last,
        last-length end.prefix c.reserve-in-Some.new.self,
      );
      joins = λ last found.
          let same = last-set _ end.prefix c.reserve-in-Some.new.self last now found in
          omega (
            arith,
            room,
            ap (λ (v : Vec ℕ Global). length v.items) same,
            ap (λ (v : Vec ℕ Global). v.cap) same,
            ap length c.reserve-in-Some.ensures.items,
          );
    })
    c.reserve-in-Some.ensures.ok

pub returns-in-Some-clause-payloads : goal.returns-in-Some-clause-payloads
returns-in-Some-clause-payloads c =
    let there : slice_get c.reserve.new.self.items (c.reserve.new.self.len - 1) ≡ Some c.in-Some.last.now =
    slice_get-get_or c.reserve.new.self.items (c.reserve.new.self.len - 1) c.in-Some.last.now
    (omega (arith, c.in-Some.ensures.variant.0 refl, c.reserve.new.self.ok.0))
    ∙ ap (λ (v : Vec ℕ Global). Some v) (sym c.in-Some.ensures.value) in
    let here : slice_get c.reserve.new.self.items (length c.reserve.new.self.items - 1) ≡ Some c.in-Some.last.now =
    ap (λ (n : ℕ). slice_get c.reserve.new.self.items (n - 1)) (sym c.reserve.new.self.ok.0) ∙ there in
    ap (λ (n : ℕ). map vec_items (slice_set c.reserve.new.self.items (n - 1) c.reserve-in-Some.new.self))
    c.reserve.new.self.ok.0
    ∙ set_same c.reserve.new.self.items c.args.self.now.payloads.items c.in-Some.last.now c.reserve-in-Some.new.self
    c.reserve.ensures.items here c.reserve-in-Some.ensures.items
