-- The time in UTC is the moment's: no offset is added.
use Rattle.std.proofs.Common.{◌≡◌, ◌∙◌, ℕ, ◌<◌, ◌≤◌, ap, arith, inr, pos, w64}
use Rattle.std.proofs.lemmas.Int.{to_z_pos}
use Rattle.std.specs.Prelude.{ℤ, ◌*ℤ◌, ◌+ℤ◌}
use Rattle.log_writer.proofs.line_head.date_text.Goals as goal

-- a moment is read from a number of seconds that has no sign
moment : (shown held cast : ℤ) (seconds : ℕ) → shown ≡ held +ℤ pos 0 → held ≡ cast *ℤ pos 1000000000
    → cast ≡ pos seconds → shown ≡ pos seconds *ℤ pos 1000000000 +ℤ pos 0
moment shown held cast seconds is made same =
    is ∙ ap (λ n. n +ℤ pos 0) (made ∙ ap (λ n. n *ℤ pos 1000000000) same)

pub returns-in_ok-format-in-Ok : goal.returns-in_ok-format-in-Ok
returns-in_ok-format-in-Ok c =
    inr (
      c.to_datetime-shown.result,
      moment _ c.in-Ok.moment.nanosecond _ c.args.seconds c.to_datetime-shown.ensures c.in-Ok.ensures.value
          (to_z_pos w64 c.args.seconds (omega arith)),
      ap (λ v. v.items) c.into_bytes.ensures.value ∙ c.in_ok-format-in-Ok.ensures.ok,
    )
