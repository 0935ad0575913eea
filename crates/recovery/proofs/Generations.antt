-- The generation of a segment, from the first octets of its first payload.
use Rattle.std.specs.Prelude.{◌≡◌, List, ℕ}
use Rattle.std.proofs.Common.{sym, subst, ◌∙◌}
use Rattle.tape_journal.specs.Part.{IsPart}
use Rattle.tape_journal.specs.Segment.{IsRecord}
use Rattle.ledger_core.specs.Base.{base_spelling}
use Rattle.ledger_core.specs.BaseLaws.{base-by-part}
use Rattle.ledger_core.specs.declared.base.Base.{Base}

-- if they spell a Base, the payload does
pub base_first : (part segment : List ℕ) (base : Base) → IsPart part 0 62 segment → part ≡ base_spelling base
    → IsRecord (base_spelling base) segment
base_first part segment base is spells =
    subst (λ (payload : List ℕ). IsRecord payload segment)
    (base-by-part base is.payload (sym is.part_is ∙ spells)) is.is
