-- The check switch: whether a CHECK goes before a TAKETHIS (innfeed.conf(5), no-check-high, no-check-low, no-check-filter).
use Rattle.std.specs.Prelude.{ℕ, ◌+◌, ◌*◌, ◌==◌, ◌&&◌, ◌||◌, Bool, true, false, not, nat_lt, nat_le, if◌then◌else◌, List, [], ◌∷◌, length, take}
use Rattle.conn_core.specs.declared.options.Options.{Options}

-- what an answer of this code counts as: the article was accepted, it was not, or the answer does not count (profile)
abbrev pub counts : ℕ → List Bool
counts code = if code == 239 then true ∷ [] else if code == 438 || code == 439 then false ∷ [] else []

-- how many of these are true: articles that were accepted (profile)
abbrev pub accepted_among : List Bool → ℕ
accepted_among [] = 0
accepted_among (answer ∷ answers) = (if answer then 1 else 0) + accepted_among answers

-- how many articles were accepted by the last of these answers, newest first (innfeed.conf(5), no-check-filter)
abbrev pub accepted_lately : Options → List Bool → ℕ
accepted_lately options answers = accepted_among (take options.check_filter answers)

-- whether the share of accepted articles is at or above the upper mark (innfeed.conf(5), no-check-high)
abbrev pub is_high : Options → List Bool → Bool
is_high options answers = nat_le (options.check_high * options.check_filter) (accepted_lately options answers * 10000)

-- whether it is below the lower mark (innfeed.conf(5), no-check-low)
abbrev pub is_low : Options → List Bool → Bool
is_low options answers = nat_lt (accepted_lately options answers * 10000) (options.check_low * options.check_filter)

-- whether checks are off after these answers, newest first: there are enough, and the share is high, or it is not low
-- and they were off before the newest (profile)
abbrev pub are_off : Options → List Bool → Bool
are_off options [] = false
are_off options (answer ∷ older) =
    nat_le options.check_filter (length (answer ∷ older))
    && (is_high options (answer ∷ older) || (not (is_low options (answer ∷ older)) && are_off options older))
