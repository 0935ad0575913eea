-- The image that a choice names is an image.
use Rattle.std.proofs.Common.{◌≡◌, ℕ, ◌-◌, ◌≤◌, ◌⊎◌, Bool, true, false, cond, List, [], ◌∷◌, length, take, refl, inl, inr, sym, subst, arith}
use Rattle.std.specs.Prelude.{replicate, ◌==◌}
use Rattle.std.proofs.lemmas.List.{length-replicate}
use Rattle.disk_model.specs.declared.choice.Choice.{Choice}
use Rattle.disk_model.specs.Disk.{Event, Torn, Image}
use Rattle.disk_model.specs.Disk.Event.{Made, Wrote, Tore, WasCut, FailedCut, Synced}
use Rattle.disk_model.specs.Choice.{padded_write, pending, happens, chosen_write, chosen_image}
use Rattle.disk_model.specs.TornLaws.{Torn-padded, Torn-same}

padded : (old : List ℕ) (at : ℕ) (octets : List ℕ) → Torn at (length octets) old (padded_write old at octets)
padded old at octets =
    let n = at - length old in
    let same : n ≤ n = omega arith in
    Torn-padded old (replicate n 0) octets at (subst (λ (k : ℕ). k ≤ n) (sym (length-replicate n 0)) same)

filled : (old : List ℕ) (at n fill : ℕ) → Torn at n old (padded_write old at (replicate n fill))
filled old at n fill = subst (λ (k : ℕ). Torn at k old (padded_write old at (replicate n fill))) (length-replicate n fill) (padded old at (replicate n fill))

written : (choice : Choice) (number : ℕ) (image : List ℕ) (at : ℕ) (octets : List ℕ) → Torn at (length octets) image (chosen_write choice number image at octets)
written choice number image at octets = by_happened (happens choice number)
  where
    by_fill : (none : Bool) → Torn at (length octets) image (cond none image (padded_write image at (replicate (length octets) choice.fill)))
    by_fill true = Torn-same at (length octets) image
    by_fill false = filled image at (length octets) choice.fill

    by_happened : (happened : Bool) → Torn at (length octets) image (cond happened (padded_write image at octets) (cond (choice.fill == 0) image (padded_write image at (replicate (length octets) choice.fill))))
    by_happened true = padded image at octets
    by_happened false = by_fill (choice.fill == 0)

pub chosen_is_image : (choice : Choice) (log : List Event) → Image log (chosen_image choice log)
chosen_is_image choice [] = refl
chosen_is_image choice (Made octets ∷ log) = refl
chosen_is_image choice (Wrote at octets ∷ log) = (chosen_image choice log, chosen_is_image choice log, written choice (pending log) (chosen_image choice log) at octets)
chosen_is_image choice (Tore at n after ∷ log) = (chosen_image choice log, chosen_is_image choice log, Torn-same at n (chosen_image choice log))
chosen_is_image choice (WasCut len ∷ log) = (chosen_image choice log, chosen_is_image choice log, by_happened (happens choice (pending log)))
  where
    by_happened : (happened : Bool) → (cond happened (take len (chosen_image choice log)) (chosen_image choice log) ≡ chosen_image choice log) ⊎ (cond happened (take len (chosen_image choice log)) (chosen_image choice log) ≡ take len (chosen_image choice log))
    by_happened true = inr refl
    by_happened false = inl refl
chosen_is_image choice (FailedCut len ∷ log) = (chosen_image choice log, chosen_is_image choice log, inl refl)
chosen_is_image choice (Synced ∷ log) = refl
