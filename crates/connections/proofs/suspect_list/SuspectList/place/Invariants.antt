use Rattle.std.specs.Prelude.{◌≡◌, drop}
use Rattle.connections.specs.Suspects.{place}
use Rattle.connections.proofs.suspect_list.SuspectList.place.Given as goal

-- those so far give none
abbrev pub invariant-loop-suspect : goal.invariant-loop-suspect
invariant-loop-suspect l =
    place l.token l.id (drop l.suspect-index l.suspect-items) ≡ place l.token l.id l.suspect-items
