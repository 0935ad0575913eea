-- Behind an octet as it is written, the same is looked for.
use Rattle.std.proofs.Common.{◌<◌, ◌+◌, ◌∙◌, ap, length, rules, sym}
use Rattle.script_fault_text.specs.Parts.{bad_escape}
use Rattle.script_fault_text.proofs.Escapes.{behind_first, left, still_whole}
use Rattle.script_fault_text.proofs.part.bad_escape.Goals as goal

pub loop-rest-preserved : goal.loop-rest-preserved
loop-rest-preserved c =
    let place = c.loop-rest.place in
    let rest = c.loop-rest.rest.now in
    let count = c.in-Some.count in
    let some : 0 < length rest = search rules in
    record {
      at = still_whole place count (length c.args.text.now) rest c.in-Some.ensures.within.1 c.loop-rest.invariant.at;
      same = ap (bad_escape (place + count)) (left count rest)
          ∙ (sym (behind_first place count rest some (sym c.in-Some.ensures.count)) ∙ c.loop-rest.invariant.same);
    }
