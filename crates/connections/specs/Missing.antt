-- Articles that are not in the spool (profile).
use Rattle.std.specs.Prelude.{◌==◌, ◌&&◌, ◌||◌, not, ℕ, Bool, List, ◌∷◌, [], ◌++◌, length, take, drop, nat_le}
use Rattle.std.specs.Prelude.{slice_index, if◌then◌else◌, Option, Some, None}
use Rattle.std.specs.List.{list_all, list_any}
use Rattle.std.specs.Str.{bytes_eq}
use Rattle.ledger_core.specs.declared.note.Cause.TheVariants.{Limit, Missing, Unsendable, Deferred as ByDeferral}
use Rattle.conn_core.specs.declared.outcome.Outcome.{Outcome}
use Rattle.conn_core.specs.declared.outcome.Outcome.TheVariants.{Final, Deferred, Lost, Back}
use Rattle.connections.specs.Given.{IsReturned}
use Rattle.connections.specs.declared.missing.OutcomeStep.{OutcomeStep}
use Rattle.connections.specs.declared.missing.OutcomeStep.TheVariants.{Finish, PutOff, Keep}

-- a hexadecimal digit: 0 to 9, A to F, a to f
abbrev pub is_hex_digit : ℕ → Bool
is_hex_digit octet =
    (nat_le 48 octet && nat_le octet 57) || (nat_le 65 octet && nat_le octet 70)
    || (nat_le 97 octet && nat_le octet 102)

-- A token of INN's storage API: `@`, the 18 octets of its TOKEN as 36 hexadecimal digits, `@` (INN, libinn(3)).
abbrev pub is_of_storage_api : List ℕ → Bool
is_of_storage_api token =
    length token == 38 && slice_index token 0 == 64 && slice_index token 37 == 64
    && list_all is_hex_digit (take 36 (drop 1 token))

-- Whether a missing article is kept: no article of the run was found yet, the run was not asked to drop all that are
-- missing, and the token is one of the storage API. Otherwise the article has expired.
abbrev pub is_kept : List ℕ → (has_found drops_missing : Bool) → Bool
is_kept token has_found drops_missing = not has_found && not drops_missing && is_of_storage_api token

-- What to do about an outcome: a missing article that is kept is put off, and so is the debt at which the connection
-- failed, if it came back. All else is for the station.
abbrev pub step_of : Outcome → (postponed : Option ℕ) → (has_found drops_missing : Bool) → OutcomeStep
step_of (Lost debt Missing) postponed has_found drops_missing =
    if is_kept debt.1.0 has_found drops_missing then Keep else Finish
step_of (Lost debt Unsendable) postponed has_found drops_missing = Finish
step_of (Lost debt Limit) postponed has_found drops_missing = Finish
step_of (Lost debt ByDeferral) postponed has_found drops_missing = Finish
step_of (Back debt) (Some until) has_found drops_missing = PutOff until
step_of (Back debt) None has_found drops_missing = Finish
step_of (Final verdict) postponed has_found drops_missing = Finish
step_of (Deferred deferral) postponed has_found drops_missing = Finish

-- only a debt that was lost, or goes back, is put off
abbrev pub IsForReturned : Outcome → OutcomeStep → Type 0
IsForReturned outcome Finish = Unit {0}
IsForReturned outcome (PutOff until) = IsReturned outcome
IsForReturned outcome Keep = IsReturned outcome

-- whether a token is among these
abbrev pub has_token : List ℕ → List (List ℕ) → Bool
has_token token tokens = list_any (λ one. bytes_eq one token) tokens

-- these tokens, and one more if it is not among them and they are fewer than 20
abbrev pub tokens_with : List ℕ → List (List ℕ) → List (List ℕ)
tokens_with token tokens =
    if nat_le 20 (length tokens) || has_token token tokens then tokens else tokens ++ token ∷ []
