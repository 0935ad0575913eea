-- What was written so far and what is left make up the whole.
use Rattle.std.proofs.Common.{◌≡◌, ◌++◌, map, drop}
use Rattle.header_fields.specs.Header.{folds}
use Rattle.header_fields.proofs.header.unfolded.Given as goal

abbrev pub invariant-loop-line : goal.invariant-loop-line
invariant-loop-line l =
    l.body.items ++ folds (map (λ line. line.now) (drop l.line-index l.others))
    ≡ l.text ++ folds (map (λ line. line.now) l.others)
