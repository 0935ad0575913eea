-- What a rewrite writes: a Base, and for each debt what owed bytes count, and some octets more.
use Rattle.std.proofs.Common.{◌≡◌, ◌+◌, ◌-◌, ◌^◌, ◌*◌, ℕ, ap, arith, length, min, sym, ◌∙◌}
use Rattle.ledger_core.specs.Base.{base_spelling}
use Rattle.ledger_core.specs.Ledger.{state_of}
use Rattle.ledger_core.specs.State.{imports_in}
use Rattle.ledger_core.specs.Written.{base_of}
use Rattle.ledger_core.proofs.Debts.{length-kept}
use Rattle.ledger_core.proofs.Moving.{same-length, written-length}
use Rattle.ledger_core.proofs.ledger.Ledger.written_len.Goals as goal

-- each step as the greatest u64 where it would be more
saturates : (base debts imported octets lines sources one two all : ℕ)
    → lines ≡ min (debts * 14) (2 ^ 64 - 1) → one ≡ min (base + lines) (2 ^ 64 - 1)
    → sources ≡ min (imported * 4) (2 ^ 64 - 1) → two ≡ min (one + sources) (2 ^ 64 - 1)
    → all ≡ min (two + octets) (2 ^ 64 - 1)
    → all ≡ min (base + (14 * debts + 4 * imported + octets)) (2 ^ 64 - 1)
saturates base debts imported octets lines sources one two all a b c d e = omega (arith, a, b, c, d, e)

pub returns : goal.returns
returns c = λ generation.
    let ledger = c.args.self.now in
    let state = state_of ledger in
    let base = same-length state generation c.base.result c.base.ensures c.base_record_len.result
    c.base_record_len.ensures in
    let debts = c.len-debts.ensures.len ∙ sym (length-kept ledger.debts.entries) in
    saturates c.base_record_len.result c.len-debts.result ledger.imported ledger.owed_bytes c.saturating_mul.result
    c.saturating_mul-2.result c.saturating_add.result c.saturating_add-2.result c.saturating_add-3.result
    c.saturating_mul.ensures c.saturating_add.ensures c.saturating_mul-2.ensures c.saturating_add-2.ensures
    c.saturating_add-3.ensures
    ∙ (ap (λ (n : ℕ). min (n + (14 * c.len-debts.result + 4 * ledger.imported + ledger.owed_bytes)) (2 ^ 64 - 1)) base
    ∙ (ap (λ (n : ℕ). min (5 + length (base_spelling (base_of generation state))
    + (14 * n + 4 * ledger.imported + ledger.owed_bytes)) (2 ^ 64 - 1)) debts
    ∙ (ap (λ (n : ℕ). min (5 + length (base_spelling (base_of generation state))
    + (14 * length state.debts + 4 * n + ledger.owed_bytes)) (2 ^ 64 - 1)) ledger.imports
    ∙ (ap (λ (n : ℕ). min (5 + length (base_spelling (base_of generation state))
    + (14 * length state.debts + 4 * imports_in state.debts + n)) (2 ^ 64 - 1)) ledger.summed
    ∙ sym (ap (λ (n : ℕ). min n (2 ^ 64 - 1)) (written-length generation state))))))
