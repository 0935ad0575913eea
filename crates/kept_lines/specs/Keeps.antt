-- What keeping lines makes of the files of the peers that are left out.
use Rattle.std.specs.Prelude.{◌≡◌, ◌++◌, ◌∷◌, [], false, List}
use Rattle.disk_model.specs.Disk.{IsOnly, content}
use Rattle.disk_model.specs.declared.Disk.{Ghosts}
use Rattle.kept_lines.specs.Texts.{kept_text}
use Rattle.kept_lines.specs.declared.keeper.Keeper.{Keeper}
use Rattle.kept_lines.specs.declared.keeper.LeftOut.{LeftOut}
use Rattle.kept_lines.specs.declared.read_line.ReadLine.{ReadLine}

module _ {D : Type 0} {g : Ghosts D} where
  -- the file of one peer: what it had, with the peer's lines behind it, is all that a stop can leave
  pub record KeepsOne (lines : List ReadLine) (old new : LeftOut D g) : Type 0 where
    pub name : new.name ≡ old.name
    pub kept : old.file.is_lost ≡ false → g.honest old.file.disk
        → IsOnly (g.log new.file.disk) (content (g.log old.file.disk) ++ kept_text old.name lines)

  -- the files of all, in their order
  abbrev pub KeepsEach : List ReadLine → List (LeftOut D g) → List (LeftOut D g) → Type 0
  KeepsEach lines [] [] = Unit {0}
  KeepsEach lines (old ∷ olds) (new ∷ news) = KeepsOne lines old new × KeepsEach lines olds news
  KeepsEach lines [] (new ∷ news) = ⊥
  KeepsEach lines (old ∷ olds) [] = ⊥

  pub record Keeps (lines : List ReadLine) (old new : Keeper D g) : Type 0 where
    pub names : new.names ≡ old.names
    pub each : KeepsEach lines old.left_out.items new.left_out.items
