use Rattle.std.proofs.Common.{ℕ, List, ap, ◌∙◌}
use Rattle.std.specs.Int.{from_be_bytes, w64}
use Rattle.std.proofs.lemmas.Nat.{from_be_bytes-to_be_bytes_8}
use Rattle.ledger_core.proofs.part.Part.of.Goals as goal

pub returns : goal.returns
returns c =
    ap (λ (octets : List ℕ). (from_be_bytes w64 octets, c.args.octets)) c.to_be_bytes.ensures
    ∙ ap (λ (n : ℕ). (n, c.args.octets)) (from_be_bytes-to_be_bytes_8 c.args.ordinal c.ranges.ordinal.fits)
