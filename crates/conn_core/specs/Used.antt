-- A list of items that are used up one by one, each time the first that passes a test. Items are named by their
-- tickets in the whole list, from 0, so that nothing depends on what is left.
use Rattle.std.specs.Prelude.{ℕ, ◌+◌, ◌==◌, ◌&&◌, Bool, true, false, not, Option, Some, None, if◌then◌else◌, List, [], ◌∷◌}
use Rattle.std.specs.List.{list_any}

-- whether this ticket is among these (profile)
abbrev pub has : List ℕ → ℕ → Bool
has tickets ticket = list_any (λ x. x == ticket) tickets

-- how often it is (profile)
abbrev pub times : List ℕ → ℕ → ℕ
times [] ticket = 0
times (x ∷ tickets) ticket = (if x == ticket then 1 else 0) + times tickets ticket

module _ {A : Type 0} where
  -- whether there is none (profile)
  abbrev pub is_empty : List A → Bool
  is_empty [] = true
  is_empty (x ∷ xs) = false

  -- the first item at ticket n or later that passes the test and is not used up, with its ticket (profile)
  abbrev pub first_left : (A → Bool) → List ℕ → ℕ → List A → Option (ℕ × A)
  first_left test used n [] = None
  first_left test used n (x ∷ xs) = if test x && not (has used n) then Some (n, x) else first_left test used (n + 1) xs

  -- the items at ticket n and later that are not used up (profile)
  abbrev pub left_from : ℕ → List A → List ℕ → List A
  left_from n [] used = []
  left_from n (x ∷ xs) used = if has used n then left_from (n + 1) xs used else x ∷ left_from (n + 1) xs used

  -- the tickets used up, with this one (profile)
  abbrev pub with_ticket : Option (ℕ × A) → List ℕ → List ℕ
  with_ticket None used = used
  with_ticket (Some found) used = found.0 ∷ used
