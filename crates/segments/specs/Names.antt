-- The names of a funnel's segments (profile): 20 decimal digits, the number of the first line. Lines are numbered from
-- 1.
use Rattle.std.specs.Prelude.{◌≡◌, ℕ, ◌<◌, ◌≤◌, ◌^◌, List, length, take, slice_index}
use Rattle.std.specs.Str.Parse.{AllDigits, digits_value}
use Rattle.segments.specs.declared.name.NameFault.{NameFault}
use Rattle.segments.specs.declared.name.NameFault.TheVariants.{Zero, TooLarge}

-- 20 decimal digits
pub record IsNumber (name : List ℕ) : Type 0 where
  pub twenty : length name ≡ 20
  pub digits : AllDigits 10 name

-- 20 decimal digits that write this number
pub record IsNameOf (name : List ℕ) (number : ℕ) : Type 0 where
  pub digits : IsNumber name
  pub value : digits_value 10 name ≡ number

-- the name of a segment that begins with this line
pub record IsFirstOf (name : List ℕ) (first : ℕ) : Type 0 where
  pub spells : IsNameOf name first
  pub from_one : 1 ≤ first
  pub within : first < 2 ^ 64

-- one name comes before another in the order of octets: the first octet in which they differ is less in it
abbrev pub ComesBefore : List ℕ → List ℕ → Type 0
ComesBefore one other = (at : ℕ) × (take at one ≡ take at other) × (slice_index one at < slice_index other at)

-- 20 digits have this fault
abbrev pub HasFault : List ℕ → NameFault → Type 0
HasFault name Zero = IsNameOf name 0
HasFault name TooLarge = (number : ℕ) × IsNameOf name number × (2 ^ 64 ≤ number)
