-- What a front's desk keeps of the debts that were read ahead.
use Rattle.std.specs.Prelude.{◌≡◌, ◌==◌, ◌⊎◌, ℕ, List, Option, None, Some, filter, find, nat_lt}
use Rattle.ledger_core.specs.State.{Owing}
use Rattle.flusher.specs.Ahead.{begun}
use Rattle.flusher.specs.declared.front_desk.Claimed.{Claimed}
use Rattle.flusher.specs.declared.front_desk.Claimed.TheVariants.{Nothing, Debt, ReadBefore, OnTape}
use Rattle.flusher.specs.declared.read_ahead.ReadAhead.{ReadAhead}

-- the debts
abbrev pub kept_in : ReadAhead → List Owing
kept_in ahead = ahead.debts.items

-- the key behind which the reading goes on
abbrev pub end_in : ReadAhead → ℕ
end_in ahead = ahead.end

-- the debt of this key, if it was read
abbrev pub read_of : ReadAhead → ℕ → Option Owing
read_of ahead key = find (λ (debt : Owing). debt.0 == key) (kept_in ahead)

-- those of greater keys
abbrev pub kept_above : ReadAhead → ℕ → List Owing
kept_above ahead key = filter (λ (debt : Owing). nat_lt key debt.0) (kept_in ahead)

-- The debt of this key is taken out, if it was read. Those of lesser keys are let go.
pub record TakesOut (key : ℕ) (old new : ReadAhead) (debt : Option Owing) : Type 0 where
  pub found : debt ≡ read_of old key
  pub rest : kept_in new ≡ kept_above old key

-- What a claim does: it hands out the debt that was read, if it claims its key; if the tape alone has the texts, they
-- are read, and what is read ahead may begin behind them.
abbrev pub Uses : ReadAhead → ReadAhead → Claimed → Type 0
Uses old new Nothing = new ≡ old
Uses old new (Debt debt) = TakesOut debt.0 old new None × (end_in new ≡ end_in old)
Uses old new (ReadBefore debt) = TakesOut debt.0 old new (Some debt) × (end_in new ≡ end_in old)
Uses old new (OnTape key) =
    TakesOut key old new None × (end_in new ≡ begun key (kept_in new) (end_in old))

-- What a claim does that is refused: nothing, or it lets go what was not above the key that it gave back.
abbrev pub LetsGo : ReadAhead → ReadAhead → Type 0
LetsGo old new = (new ≡ old) ⊎ ((key : ℕ) × TakesOut key old new None × (end_in new ≡ end_in old))
