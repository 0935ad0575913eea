-- How the lines of a text are put out as a block, some at a time.
use Rattle.std.specs.Prelude.{◌≡◌, ◌+◌, ◌≤◌, ℕ, List, ◌++◌, length}
use Rattle.bytes.specs.Filled.{Filled}
use Rattle.dot_codec.specs.Lines.{HasLines}
use Rattle.dot_codec.specs.Block.{written}

-- the text has lines exactly if the rest has, and those before the rest are written as these octets
pub record AreWritten (text rest form : List ℕ) : Type 0 where
  pub ahead : (lines : List (List ℕ)) → HasLines text lines → (more : List (List ℕ)) × HasLines rest more × (written lines ≡ form ++ written more)
  pub back : (more : List (List ℕ)) → HasLines rest more → (lines : List (List ℕ)) × HasLines text lines

-- octets were put behind those of a buffer, which has no less room in all
abbrev pub Extends : Filled → Filled → Type 0
Extends old new =
    (more : List ℕ) × (new.items ≡ old.items ++ more) × (length old.items + old.spare ≤ length new.items + new.spare)
