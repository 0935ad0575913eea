-- One more line at each turn.
use Rattle.std.proofs.Common.{List, map, refl, sym, subst, arith, rules}
use Rattle.funnel.specs.Stream.{IsUnended}
use Rattle.world_core.specs.Importing.{good_of}
use Rattle.world_core.specs.declared.imports.BacklogLine.{BacklogLine}
use Rattle.world_core.proofs.BacklogLines.{HasListed, listed_all, listed_more, listed_none}
use Rattle.world_core.proofs.imports.read_lines.Goals as goal

pub loop-line-init : goal.loop-line-init
loop-line-init c = record {
  listed = subst (λ (ls : List BacklogLine). HasListed c.args.text.now c.args.text.now 0 (map good_of ls))
      (sym c.new-lines.ensures.items) (listed_none c.args.text.now);
  room = omega arith;
}

pub loop-line-preserved : goal.loop-line-preserved
loop-line-preserved c =
    let loop = c.loop-line in
    record {
      listed = listed_more c.args.text.now loop.rest.now c.in-Some.line.now c.in-Some.behind.now loop.number _ _ _
          loop.invariant.listed
          c.in-Some.ensures.line refl c.in_ok-add_line.ensures;
      room = omega (arith, loop.invariant.room, c.in-Some.ensures.shorter);
    }

pub returns : goal.returns
returns c =
    let last : IsUnended c.loop-line.rest.now = search rules in
    listed_all c.args.text.now c.loop-line.rest.now c.loop-line.number _ c.loop-line.invariant.listed last
