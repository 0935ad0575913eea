use Rattle.std.proofs.Common.{sym, arith, ◌≤◌, length}
use Rattle.std.proofs.lemmas.List.{length-take-le, take_all}
use Rattle.peer_counts.proofs.record.head_of.Goals as goal

pub slice_bounds-result-end : goal.slice_bounds-result-end
slice_bounds-result-end c =
    let long : 200 ≤ length c.args.text.now = omega (arith, c.if-text-le-REASON_MAX_OCTETS.false) in
    sym (length-take-le 200 c.args.text.now long)

pub returns-then-text-le-REASON_MAX_OCTETS : goal.returns-then-text-le-REASON_MAX_OCTETS
returns-then-text-le-REASON_MAX_OCTETS c = sym (take_all 200 c.args.text.now c.if-text-le-REASON_MAX_OCTETS.true)
