-- One more line at each turn.
use Rattle.std.proofs.Common.{◌∙◌, ◌+◌, ◌<◌, ℕ, List, drop, length, map, refl, sym, ap, subst, arith}
use Rattle.world_core.specs.Imports.{Good}
use Rattle.world_core.specs.Importing.{HasImported, good_of}
use Rattle.world_core.proofs.ImportCalls.{drop_end, drop_next, imported_more, imported_none, imported_not}
use Rattle.world_core.proofs.Results.{if_err_is}
use Rattle.world_core.proofs.stations.Stations.import_each.Goals as goal

pub loop-line-init : goal.loop-line-init
loop-line-init g c = record {
  did = λ past source pending mark stands at.
      imported_none past c.args.rank source pending mark (map good_of c.args.lines.now) c.args.self.now stands at;
  few = omega arith;
  count = refl;
}

pub loop-line-preserved : goal.loop-line-preserved
loop-line-preserved g c =
    let loop = c.loop-line in
    let lines = c.args.lines.now in
    let line = c.line-item.result in
    let within : loop.line-index < length lines = omega (arith, c.loop-line-test.true) in
    let here = ap (map good_of) (drop_next lines loop.line-index line within c.line-item.is) in
    record {
      did = λ past source pending mark stands at.
          let has = subst (λ (rest : List Good).
          HasImported past c.args.rank source pending mark (map good_of lines) rest loop.new loop.self) here
          (loop.invariant.did past source pending mark stands at) in
          subst (λ (n : ℕ). HasImported past c.args.rank source pending mark (map good_of lines)
          (map good_of (drop (loop.line-index + 1) lines)) (loop.new + n) c.import_line.new.self)
          (sym c.count_new-new.ensures.is)
          (imported_more past c.args.rank source pending mark (map good_of lines)
          (map good_of (drop (loop.line-index + 1) lines)) (good_of line) loop.new loop.self c.import_line.new.self has
          c.in_ok-owed.owed
          (c.in_ok-owed.ensures.ok has.done.did.later source has.now_pending has.now_mark has.done.did.stands
          has.done.at));
      few = omega (arith, loop.invariant.few, c.count_new-new.ensures.most);
      count = c.import_line.ensures.count ∙ loop.invariant.count;
    }

pub returns-in_err-owed-clause-err : goal.returns-in_err-owed-clause-err
returns-in_err-owed-clause-err g c = λ past source pending mark stands at.
    let loop = c.loop-line in
    let lines = c.args.lines.now in
    let line = c.line-item.result in
    let within : loop.line-index < length lines = omega (arith, c.loop-line-test.true) in
    let has = subst (λ (rest : List Good).
    HasImported past c.args.rank source pending mark (map good_of lines) rest loop.new loop.self)
    (ap (map good_of) (drop_next lines loop.line-index line within c.line-item.is))
    (loop.invariant.did past source pending mark stands at) in
    if_err_is c.from_residual.result _ _ c.from_residual.ensures.1
    (imported_not past c.args.rank source pending mark (map good_of lines)
    (map good_of (drop (loop.line-index + 1) lines)) (good_of line) loop.new loop.self c.import_line.new.self has _
    (c.in_err-owed.ensures.err has.done.did.later source has.now_pending has.now_mark has.done.did.stands
    has.done.at))

pub returns-clause-ok : goal.returns-clause-ok
returns-clause-ok g c = λ past source pending mark stands at.
    let loop = c.loop-line in
    let lines = c.args.lines.now in
    subst (λ (rest : List Good).
    HasImported past c.args.rank source pending mark (map good_of lines) rest loop.new loop.self)
    (ap (map good_of) (drop_end lines loop.line-index (omega (arith, c.loop-line-test.false))))
    (loop.invariant.did past source pending mark stands at)
