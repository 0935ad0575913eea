use Rattle.std.specs.Prelude.{◌≡◌, ◌++◌, take, drop, map}
use Rattle.connections.specs.Suspects.{met}
use Rattle.connections.proofs.suspect_list.SuspectList.meet.Given as goal

-- those so far are met
abbrev pub invariant-loop-suspect : goal.invariant-loop-suspect
invariant-loop-suspect l =
    l.suspect-items ≡ map (met l.key l.token l.id)
    (take l.suspect-index l.initial.suspect-items) ++ drop l.suspect-index l.initial.suspect-items
