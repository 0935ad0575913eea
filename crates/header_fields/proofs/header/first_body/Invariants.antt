-- The lines so far have no such field.
use Rattle.std.proofs.Common.{◌≡◌, map, drop}
use Rattle.header_fields.specs.Header.{first_body}
use Rattle.header_fields.proofs.header.first_body.Given as goal

abbrev pub invariant-loop-index : goal.invariant-loop-index
invariant-loop-index l =
    first_body (map (λ line. line.now) (drop l.index l.lines)) ≡ first_body (map (λ line. line.now) l.lines)
