use Rattle.std.specs.Prelude.{◌≡◌, drop}
use Rattle.connections.specs.Suspects.{first_place}
use Rattle.connections.proofs.suspect_list.SuspectList.first_place.Given as goal

-- those so far give none
abbrev pub invariant-loop-suspect : goal.invariant-loop-suspect
invariant-loop-suspect l =
    first_place (drop l.suspect-index l.suspect-items) ≡ first_place l.suspect-items
