-- The values of keys, as they are written and as they are used (profile).
use Rattle.std.specs.Prelude.{◌==◌, ◌&&◌, ◌||◌, ◌+◌, ◌*◌, ◌-◌, ◌^◌, ℕ, Bool, true, false, not, List, [], ◌∷◌, length, nat_le, nat_lt, Option, None, Some, Result, Ok, Err, map, min, position, take, drop, codes, if◌then◌else◌}
use Rattle.std.specs.List.{list_all}
use Rattle.std.specs.Option.{option_map}
use Rattle.std.specs.Char.{to_ascii_lowercase}
use Rattle.std.specs.Str.{bytes_eq}
use Rattle.feed_conf.specs.declared.fault.ConfFaultKind.{ConfFaultKind}
use Rattle.feed_conf.specs.declared.fault.ConfFaultKind.TheVariants.{BadNumber, BadBoolean, Range}
use Rattle.feed_conf.specs.declared.key.Kind.{Kind}
use Rattle.feed_conf.specs.declared.key.Kind.TheVariants.{AnyText, ShortText, Switch, Connections, Number, Whole, Fraction}

pub data Value : Type 0 where
  TextOf : List ℕ → Value
  SwitchOf : Bool → Value
  NumberOf : ℕ → Value

-- a value as it is used, and whether it was written above the greatest (or as 0 connections)
pub record Taken : Type 0 where
  pub value : Value
  pub limited : Bool

abbrev pub is_digit : ℕ → Bool
is_digit octet = nat_le 48 octet && nat_le octet 57

-- one or more digits, and nothing else
abbrev pub is_number : List ℕ → Bool
is_number octets = not (length octets == 0) && list_all is_digit octets

-- the number that these digits give after those of this number
abbrev pub decimal : ℕ → List ℕ → ℕ
decimal number [] = number
decimal number (digit ∷ digits) = decimal (10 * number + (digit - 48)) digits

abbrev pub number_of : List ℕ → Option ℕ
number_of octets = if is_number octets then Some (decimal 0 octets) else None

-- the whole part and the decimals of a fraction whose point is at this index
abbrev pub parts_at : Option ℕ → List ℕ → Option (ℕ × List ℕ)
parts_at None octets = if is_number octets then Some (decimal 0 octets, []) else None
parts_at (Some point) octets =
    if is_number (take point octets) && is_number (drop (point + 1) octets) then Some (decimal 0 (take point octets), drop (point + 1) octets) else None

-- digits, or digits, `.`, digits
abbrev pub fraction_of : List ℕ → Option (ℕ × List ℕ)
fraction_of octets = parts_at (position (λ octet. octet == 46) octets) octets

-- the decimals are dropped
abbrev pub whole_of : List ℕ → Option ℕ
whole_of octets = option_map (λ (parts : ℕ × List ℕ). parts.0) (fraction_of octets)

-- the first two decimals
abbrev pub hundredths : List ℕ → ℕ
hundredths [] = 0
hundredths (tenth ∷ []) = 10 * (tenth - 48)
hundredths (tenth ∷ hundredth ∷ rest) = 10 * (tenth - 48) + (hundredth - 48)

-- a fraction in hundredths; further digits are dropped
abbrev pub hundredths_of : List ℕ → Option ℕ
hundredths_of octets = option_map (λ (parts : ℕ × List ℕ). 100 * parts.0 + hundredths parts.1) (fraction_of octets)

-- the octets spell the word, without regard to case
abbrev pub spells : List ℕ → List ℕ → Bool
spells octets word = bytes_eq (map to_ascii_lowercase octets) (map to_ascii_lowercase word)

abbrev pub spells_true : List ℕ → Bool
spells_true octets = spells octets (codes "true") || spells octets (codes "yes") || spells octets (codes "on")

abbrev pub spells_false : List ℕ → Bool
spells_false octets = spells octets (codes "false") || spells octets (codes "no") || spells octets (codes "off")

abbrev pub switch_of : List ℕ → Option Bool
switch_of octets = if spells_true octets then Some true else (if spells_false octets then Some false else None)

-- below the least is a fault, and above the greatest counts as the greatest
abbrev pub bounded : ℕ → ℕ → Option ℕ → Result Taken ConfFaultKind
bounded least greatest None = Err BadNumber
bounded least greatest (Some number) =
    if nat_lt number least then Err Range else (
    if nat_lt greatest number then Ok (record { value = NumberOf greatest; limited = true }) else
    Ok (record { value = NumberOf number; limited = false }))

-- at most 64 connections; 0 counts as the most, and is reported as limited
abbrev pub connections : Option ℕ → Result Taken ConfFaultKind
connections None = Err BadNumber
connections (Some number) = if number == 0 then Ok (record { value = NumberOf 64; limited = true }) else bounded 0 64 (Some number)

abbrev pub switched : Option Bool → Result Taken ConfFaultKind
switched None = Err BadBoolean
switched (Some on) = Ok (record { value = SwitchOf on; limited = false })

abbrev pub text : List ℕ → Result Taken ConfFaultKind
text octets = Ok (record { value = TextOf octets; limited = false })

-- the value that is used if this is written, or the fault
abbrev pub taken_of : Kind → List ℕ → Result Taken ConfFaultKind
taken_of AnyText octets = text octets
taken_of ShortText octets = if nat_le 1 (length octets) && nat_le (length octets) 255 then text octets else Err Range
taken_of Switch octets = switched (switch_of octets)
taken_of Connections octets = connections (number_of octets)
taken_of (Number least greatest) octets = bounded least greatest (number_of octets)
taken_of (Whole least greatest) octets = bounded least greatest (whole_of octets)
taken_of (Fraction least greatest) octets = bounded least greatest (hundredths_of octets)

-- a number, as a reader of 64 bits that stops counting sees it
abbrev pub capped : ℕ → ℕ
capped number = min number (2 ^ 64 - 1)
