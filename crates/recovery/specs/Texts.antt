-- What is read back of a debt (profile), whatever a disk returns.
use Rattle.std.specs.Prelude.{◌≡◌, ℕ, List, Option, filter_map, option_map, length}
use Rattle.ledger_core.specs.declared.ledger.Ledger.{Ledger}
use Rattle.ledger_core.specs.declared.spot.Spot.{Spot}
use Rattle.ledger_core.specs.Base.{owe}
use Rattle.ledger_core.specs.Index.{Indexes, debt_at}
use Rattle.ledger_core.specs.Spelling.{spelling}
use Rattle.ledger_core.specs.Spots.{IsFound}
use Rattle.ledger_core.specs.State.{Owing, State}

-- the key of a debt, and how long its texts are
abbrev pub lengths_of : Owing → ℕ × (ℕ × ℕ)
lengths_of debt = (debt.0, (length debt.1.0, length debt.1.1))

-- what was read is a debt of this key exactly if it is owed, and its texts are as long as those that are owed
abbrev pub HasLengths : State → ℕ → Option Owing → Type 0
HasLengths state key debt = option_map lengths_of debt ≡ option_map lengths_of (debt_at state key)

-- the debts of these keys, in their order, as far as they are owed
abbrev pub debts_at : State → List ℕ → List Owing
debts_at state keys = filter_map (debt_at state) keys

-- if the ledger says where its debts are, this debt, of this key, is at this spot, which says how long its texts are
pub record IsAt (ledger : Ledger) (key : ℕ) (spot : Spot) (debt : Owing) : Type 0 where
  pub is : debt.0 ≡ key
  pub token_len : spot.token_len ≡ length debt.1.0
  pub id_len : spot.id_len ≡ length debt.1.1
  pub stands : (kept : ℕ) (payloads : List (List ℕ)) → Indexes kept payloads ledger
      → IsFound kept payloads spot.at spot.slot spot.within (spelling (owe debt))
