use Rattle.std.proofs.Common.{◌≡◌, ◌≤◌, ◌+◌, ◌-◌, ℕ, zero, suc, List, [], length, take, drop, inl, inr}
use Rattle.std.proofs.Common.{refl, sym, ◌∙◌, ap, arith, length-take, length-drop}
use Rattle.std.specs.Prelude.{min}
use Rattle.std.proofs.lemmas.Bool.{cases_lt}
use Rattle.std.proofs.lemmas.List.{drop-drop, drop-take, drop_all, take-take, take_all}
use Rattle.disk_model.specs.Disk.{Event, content}
use Rattle.tape_journal.specs.Segment.{BeginsRecord}
use Rattle.tape_journal.specs.SegmentLaws.{record_begins}
use Rattle.tape_journal.proofs.read.part_of.Goals as goal

pub returns-in-CutShort-clause-damaged : goal.returns-in-CutShort-clause-damaged
returns-in-CutShort-clause-damaged g c honest len e told =
    (cc, rw c.in-CutShort.is at (c.in_ok-size.ensures.is honest len))

-- a part of a prefix
part_prefix : (xs : List ℕ) (size from most start count : ℕ) → start ≡ min from size → count ≡ min most (size - start)
    → size ≤ length xs → take count (drop start xs) ≡ take most (drop from (take size xs))
part_prefix xs size from most start count s c fits =
    elim (cases_lt from size) [
      | inl before ↦
          let here : start ≡ from = omega (arith, s, before) in
          let split : size ≡ from + (size - from) = omega (arith, before) in
          let rest : drop from (take size xs) ≡ take (size - from) (drop from xs) =
          ap (λ (n : ℕ). drop from (take n xs)) split ∙ drop-take from (size - from) xs in
          let few : count ≡ min most (size - from) = omega (arith, c, here) in
          ap (λ (n : ℕ). take count (drop n xs)) here ∙ (ap (λ (n : ℕ). take n (drop from xs)) few
          ∙ (sym (take-take-min most (size - from) (drop from xs)) ∙ ap (take most) (sym rest)))
      | inr behind ↦
          let none : count ≡ 0 = omega (arith, c, s, behind) in
          let empty : drop from (take size xs) ≡ [] =
          drop_all from (take size xs) (omega (arith, behind, length-take size xs)) in
          ap (λ (n : ℕ). take n (drop start xs)) none ∙ (sym (take-nil most) ∙ ap (take most) (sym empty))
    ]
  where
    take-nil : (n : ℕ) → ◌≡◌ {A = List ℕ} (take n []) []
    take-nil zero = refl
    take-nil (suc n) = refl

    take-take-min : (a b : ℕ) (ys : List ℕ) → take a (take b ys) ≡ take (min a b) ys
    take-take-min a b ys = elim (cases_lt a b) [
      | inl few ↦ take-take a b ys (omega (arith, few)) ∙ ap (λ (n : ℕ). take n ys) (omega (arith, few))
      | inr many ↦ take_all a (take b ys) (omega (arith, many, length-take b ys))
          ∙ ap (λ (n : ℕ). take n ys) (omega (arith, many))
    ]

pub returns-clause-reads : goal.returns-clause-reads
returns-clause-reads g c honest len =
    let all = content (g.D.Disk.log c.args.disk.now) in
    let rest = drop c.args.at all in
    let size = c.in-Record.size in
    let part = c.in_ok-part.part.items in
    let start = c.min-start.result in
    let count = c.min-count.result in
    let begins : BeginsRecord size rest = rw c.in-Record.is at (c.in_ok-size.ensures.is honest len) in
    let fits : size ≤ length (drop 5 rest) = omega (arith, begins.inside, length-drop 5 rest) in
    let place : drop (c.args.at + 5 + start) all ≡ drop start (drop 5 rest) =
    sym (drop-drop start (c.args.at + 5) all) ∙ ap (drop start) (sym (drop-drop 5 c.args.at all)) in
    let is : part ≡ take count (drop start (drop 5 rest)) =
    c.in_ok-part.ensures.octets (c.head_before.ensures.honest.0 honest)
    ∙ (ap (λ (l : List Event). take count (drop (c.args.at + 5 + c.from-3.result) (content l)))
    (c.head_before.ensures.log honest)
    ∙ (ap (λ (n : ℕ). take count (drop (c.args.at + 5 + n) all)) c.from-3.ensures ∙ ap (take count) place)) in
    record {
      payload = take size (drop 5 rest);
      is = record_begins size rest (take size (drop 5 rest)) begins refl
          (omega (arith, fits, length-take size (drop 5 rest)));
      part_is = is ∙ part_prefix (drop 5 rest) size c.args.from c.args.most start count
          (omega (arith, c.min-start.ensures)) (omega (arith, c.min-count.ensures)) fits;
    }
