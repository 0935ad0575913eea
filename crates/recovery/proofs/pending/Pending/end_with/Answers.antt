-- Payloads that replace the last.
use Rattle.std.proofs.Common.{Ok, Err, ◌≡◌, ◌-◌, ◌≤◌, ◌++◌, ℕ, List, true, length, length-append, length-take, take}
use Rattle.std.proofs.Common.{map, sym, ap, ◌∙◌, subst, arith}
use Rattle.std.specs.Prelude.{Result, Vec, if◌then◌else◌, is_ok, vec_items}
use Rattle.std.specs.List.{All}
use Rattle.std.specs.declared.alloc.AllocError.{AllocError}
use Rattle.std.specs.declared.alloc.Global.{Global}
use Rattle.std.proofs.lemmas.List.{length-map, map-append, take-map}
use Rattle.std.proofs.lemmas.List.Elements.{All-append, All-take}
use Rattle.ledger_core.specs.Batch.{longest_batch}
use Rattle.recovery.proofs.pending.Pending.end_with.Goals as goal

-- what has room is appended
appended : {A : Type 0} (result : Result (Unit {0}) AllocError) (xs ys now : List A) → is_ok result ≡ true
    → now ≡ (if is_ok result then xs ++ ys else xs) → now ≡ xs ++ ys
appended (Ok x) xs ys now ok is = is
appended (Err e) xs ys now ok is = absurd (cc ok)

-- what the payloads are then
ended : (old tail reserved cut now : List (Vec ℕ Global)) (most : ℕ) (result : Result (Unit {0}) AllocError)
    → reserved ≡ old → cut ≡ take most reserved → most ≡ length old - 1 → is_ok result ≡ true
    → now ≡ (if is_ok result then cut ++ tail else cut) → now ≡ take (length old - 1) old ++ tail
ended old tail reserved cut now most result same is here ok push =
    appended result cut tail now ok push
    ∙ ap (λ (l : List (Vec ℕ Global)). l ++ tail)
    (is ∙ (ap (take most) same ∙ ap (λ (n : ℕ). take n old) here))

ended-payloads : (old tail now : List (Vec ℕ Global)) → now ≡ take (length old - 1) old ++ tail
    → map vec_items now ≡ take (length (map vec_items old) - 1) (map vec_items old) ++ map vec_items tail
ended-payloads old tail now is =
    ap (map vec_items) is
    ∙ (map-append (λ (v : Vec ℕ Global). v.items) (take (length old - 1) old) tail
    ∙ ap (λ (l : List (List ℕ)). l ++ map vec_items tail)
    (sym (take-map (λ (v : Vec ℕ Global). v.items) (length old - 1) old)
    ∙ ap (λ (n : ℕ). take (n - 1) (map vec_items old)) (sym (length-map old (λ (v : Vec ℕ Global). v.items)))))

pub invariant_of-self-2 : goal.invariant_of-self-2
invariant_of-self-2 c =
    let old = c.args.self.now.payloads.items in
    let tail = c.args.tail.payloads.items in
    let here : c.saturating_sub.result ≡ length old - 1 =
    omega (arith, c.saturating_sub.ensures, c.len-2.ensures, c.reserve.new.self.ok.0, ap length c.reserve.ensures.items) in
    let ok = c.append.ensures.succeeds (omega (
      arith,
      c.in_ok-reserve.ensures.ok,
      c.len.ensures,
      c.truncate.ensures.capacity,
      c.truncate.ensures.len,
    )) in
    let now = ended old tail c.reserve.new.self.items c.truncate.new.self.items c.append.new.self.items
    c.saturating_sub.result c.append.result c.reserve.ensures.items c.truncate.ensures.items here ok
    c.append.ensures.items in
    record {
      fewer = omega (
        arith,
        ap length now,
        length-append (take (length old - 1) old) tail,
        length-take (length old - 1) old,
        c.requires.fewer,
        c.args.tail.fewer,
      );
      fit = subst (All (λ (l : List ℕ). length l ≤ longest_batch))
          (sym (ended-payloads old tail c.append.new.self.items now))
          (All-append (λ (l : List ℕ). length l ≤ longest_batch)
          (take (length (map vec_items old) - 1) (map vec_items old)) (map vec_items tail)
          (All-take (λ (l : List ℕ). length l ≤ longest_batch) (length (map vec_items old) - 1) (map vec_items old)
          c.args.self.now.fit)
          c.args.tail.fit);
    }

pub returns-clause-payloads : goal.returns-clause-payloads
returns-clause-payloads c =
    let old = c.args.self.now.payloads.items in
    let tail = c.args.tail.payloads.items in
    let here : c.saturating_sub.result ≡ length old - 1 =
    omega (arith, c.saturating_sub.ensures, c.len-2.ensures, c.reserve.new.self.ok.0, ap length c.reserve.ensures.items) in
    let ok = c.append.ensures.succeeds (omega (
      arith,
      c.in_ok-reserve.ensures.ok,
      c.len.ensures,
      c.truncate.ensures.capacity,
      c.truncate.ensures.len,
    )) in
    ended-payloads old tail c.append.new.self.items
    (ended old tail c.reserve.new.self.items c.truncate.new.self.items c.append.new.self.items
    c.saturating_sub.result c.append.result c.reserve.ensures.items c.truncate.ensures.items here ok
    c.append.ensures.items)
