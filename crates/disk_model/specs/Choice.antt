-- Which image of a disk in memory a choice names (profile).
use Rattle.std.specs.Prelude.{ℕ, ◌+◌, ◌-◌, ◌==◌, Bool, if◌then◌else◌, min, List, [], ◌∷◌, ◌++◌, length, take, drop, replicate}
use Rattle.std.specs.Int.{bit_at}
use Rattle.disk_model.specs.declared.choice.Choice.{Choice}
use Rattle.disk_model.specs.Disk.{Event, content}
use Rattle.disk_model.specs.Disk.Event.{Made, Wrote, Tore, WasCut, FailedCut, Synced}

-- old with these octets at this offset, and zeros up to there
abbrev pub padded_write : List ℕ → ℕ → List ℕ → List ℕ
padded_write old at octets = take at old ++ replicate (at - length old) 0 ++ octets ++ drop (at + length octets) old

-- how many operations follow the last sync: each write and each cut is one
abbrev pub pending : List Event → ℕ
pending [] = 0
pending (Made octets ∷ log) = 0
pending (Wrote at octets ∷ log) = pending log + 1
pending (Tore at n after ∷ log) = pending log + 1
pending (WasCut len ∷ log) = pending log + 1
pending (FailedCut len ∷ log) = pending log + 1
pending (Synced ∷ log) = 0

-- whether the operation of this number, from 0, happened as asked: bit 63 stands for each from 63 on
abbrev pub happens : Choice → ℕ → Bool
happens choice number = bit_at choice.happened (min number 63) == 1

-- what a write leaves of an image, as the choice has it for the operation of this number
abbrev pub chosen_write : Choice → ℕ → List ℕ → ℕ → List ℕ → List ℕ
chosen_write choice number image at octets =
    if happens choice number then padded_write image at octets
    else (if choice.fill == 0 then image else padded_write image at (replicate (length octets) choice.fill))

-- The image that a choice names. A write that did not happen leaves all as it was if the fill is 0, and else its range
-- holds the fill. Octets between an image's end and a later write are 0. A failed write or cut did not happen.
abbrev pub chosen_image : Choice → List Event → List ℕ
chosen_image choice [] = []
chosen_image choice (Made octets ∷ log) = octets
chosen_image choice (Wrote at octets ∷ log) = chosen_write choice (pending log) (chosen_image choice log) at octets
chosen_image choice (Tore at n after ∷ log) = chosen_image choice log
chosen_image choice (WasCut len ∷ log) = if happens choice (pending log) then take len (chosen_image choice log) else chosen_image choice log
chosen_image choice (FailedCut len ∷ log) = chosen_image choice log
chosen_image choice (Synced ∷ log) = content log
