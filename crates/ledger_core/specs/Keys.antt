-- Keys (profile): which debt. A key is the source of its line, 0 for the funnel, and the number of the line in it,
-- written as one number in which the source counts 2 ^ 64. So keys are ordered by source, then number, and the key of a
-- funnel line is the line's number.
use Rattle.std.specs.Prelude.{◌≡◌, ℕ, ◌+◌, ◌*◌, ◌/◌, ◌%◌, ◌<◌, ◌^◌, if◌then◌else◌, nat_lt, List, ◌∷◌, ◌++◌, decimal}
use Rattle.std.proofs.lemmas.Nat.{div-mul-add, mod-mul-add}

abbrev pub key_of : (source number : ℕ) → ℕ
key_of source number = source * 2 ^ 64 + number

abbrev pub source_of : ℕ → ℕ
source_of key = key / 2 ^ 64

abbrev pub number_of : ℕ → ℕ
number_of key = key % 2 ^ 64

-- a source of 32 bits and a number of 64
abbrev pub IsKey : ℕ → Type 0
IsKey key = key < 2 ^ 96

-- a funnel line's
abbrev pub IsLine : ℕ → Type 0
IsLine key = key < 2 ^ 64

pub source-is : (source number : ℕ) → number < 2 ^ 64 → source_of (key_of source number) ≡ source
source-is source number fits = div-mul-add source (2 ^ 64) number fits

pub number-is : (source number : ℕ) → number < 2 ^ 64 → number_of (key_of source number) ≡ number
number-is source number fits = mod-mul-add source (2 ^ 64) number fits

-- A key as text: a funnel line's is its number; any other is its source, a slash and its number.
abbrev pub key_text : ℕ → List ℕ
key_text key = if nat_lt key (2 ^ 64) then decimal key else decimal (source_of key) ++ 47 ∷ decimal (number_of key)
