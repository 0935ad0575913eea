-- Drops of several debts after what is pending.
use Rattle.std.proofs.Common.{◌≡◌, ◌-◌, ◌++◌, ℕ, List, length, length-drop, length-take, take, drop, take-append-drop}
use Rattle.std.proofs.Common.{sym, ap, ◌∙◌, subst, arith}
use Rattle.std.specs.Prelude.{Vec}
use Rattle.std.specs.declared.alloc.Global.{Global}
use Rattle.std.proofs.lemmas.List.{append_assoc, length-map}
use Rattle.ledger_core.specs.Index.{Indexes}
use Rattle.recovery.specs.Notes.{drops}
use Rattle.recovery.specs.Pending.{EndsAt, Holds, payloads_in}
use Rattle.recovery.proofs.Pends.{ends-tail, ends-whole, tail-holds}
use Rattle.recovery.proofs.pending.Pending.push_drops.Goals as goal

pub end_with-requires-clause-fewer : goal.end_with-requires-clause-fewer
end_with-requires-clause-fewer c =
    let old = c.args.self.now.payloads.items in
    let tail = c.in_ok-tail.tail in
    omega (
      arith,
      c.in_ok-ends.ensures.len,
      c.in_ok-ends.ensures.count,
      c.in_ok-tail.ensures.count,
      c.args.self.now.fewer,
      ap length c.in_ok-tail.ensures.payloads,
      length-drop (length (payloads_in c.args.self.now) - 1) (payloads_in c.args.self.now),
      length-map old (λ (v : Vec ℕ Global). v.items),
      length-map tail.payloads.items (λ (v : Vec ℕ Global). v.items),
    )

pub end_with-requires-clause-more : goal.end_with-requires-clause-more
end_with-requires-clause-more c =
    omega (arith, c.in_ok-ends.ensures.count, c.in_ok-tail.ensures.count, c.args.self.now.fewer)

pub returns-clause-holds : goal.returns-clause-holds
returns-clause-holds c = λ notes holds.
    let whole = payloads_in c.args.self.now in
    let more = drops c.args.cause c.args.keys.now in
    let tail = tail-holds notes holds.batches whole holds.cut holds.payloads in
    let held : Holds c.in_ok-tail.tail tail.last =
    record { batches = tail.batches; cut = tail.cut; payloads = c.in_ok-tail.ensures.payloads ∙ tail.payloads } in
    let grown = c.in_ok-ends.ensures.holds tail.last held in
    let all = tail.behind more grown.batches grown.cut in
    record {
      batches = all.0;
      cut = all.1.0;
      payloads = c.in_ok-end_with.ensures.payloads
          ∙ (ap (λ (l : List (List ℕ)). take (length whole - 1) whole ++ l) grown.payloads ∙ sym all.1.1);
    }

pub returns-clause-ends : goal.returns-clause-ends
returns-clause-ends c = λ kept notes holds at.
    let whole = payloads_in c.args.self.now in
    let tail = tail-holds notes holds.batches whole holds.cut holds.payloads in
    let held : Holds c.in_ok-tail.tail tail.last =
    record { batches = tail.batches; cut = tail.cut; payloads = c.in_ok-tail.ensures.payloads ∙ tail.payloads } in
    let prefix = take (length whole - 1) whole in
    let back = payloads_in c.take_drops.new.self in
    let grown = c.in_ok-ends.ensures.ends (kept ++ prefix) tail.last held
    (subst (λ (l : List (List ℕ)). EndsAt (kept ++ prefix) l c.args.last c.args.next) (sym
    c.in_ok-tail.ensures.payloads)
    (ends-tail kept whole c.args.last c.args.next at)) in
    subst (λ (l : List (List ℕ)). EndsAt kept l c.in_ok-ends.ends.0 c.in_ok-ends.ends.1)
    (sym c.in_ok-end_with.ensures.payloads)
    (ends-whole kept prefix back c.in_ok-ends.ends.0 c.in_ok-ends.ends.1
    (λ none. omega (
      arith,
      none,
      c.in_ok-ends.ensures.more,
      ap length c.in_ok-tail.ensures.payloads,
      length-drop (length whole - 1) whole,
      length-take (length whole - 1) whole,
      length-map c.in_ok-tail.tail.payloads.items (λ (v : Vec ℕ Global). v.items),
      length-map c.take_drops.new.self.payloads.items (λ (v : Vec ℕ Global). v.items),
    ))
    grown)

pub returns-clause-indexes : goal.returns-clause-indexes
returns-clause-indexes c = λ kept before ledger notes holds indexes.
    let whole = payloads_in c.args.self.now in
    let tail = tail-holds notes holds.batches whole holds.cut holds.payloads in
    let held : Holds c.in_ok-tail.tail tail.last =
    record { batches = tail.batches; cut = tail.cut; payloads = c.in_ok-tail.ensures.payloads ∙ tail.payloads } in
    let prefix = take (length whole - 1) whole in
    let back = payloads_in c.take_drops.new.self in
    let parts : (before ++ prefix) ++ drop (length whole - 1) whole ≡ before ++ whole =
    append_assoc before prefix (drop (length whole - 1) whole)
    ∙ ap (λ (l : List (List ℕ)). before ++ l) (take-append-drop (length whole - 1) whole) in
    let grown = c.in_ok-ends.ensures.indexes kept (before ++ prefix) ledger tail.last held
    (subst (λ (l : List (List ℕ)). Indexes kept ((before ++ prefix) ++ l) ledger) (sym c.in_ok-tail.ensures.payloads)
    (subst (λ (l : List (List ℕ)). Indexes kept l ledger) (sym parts) indexes)) in
    subst (λ (l : List (List ℕ)). Indexes kept l ledger)
    (append_assoc before prefix back
    ∙ ap (λ (l : List (List ℕ)). before ++ l) (sym c.in_ok-end_with.ensures.payloads)) grown
