-- It is there, or goes to the place at which the search for it ended.
use Rattle.std.proofs.Common.{refl, sym, subst}
use Rattle.segments.specs.Firsts.{AreFirsts, JoinsOne}
use Rattle.segments.proofs.Rising.{Slot, is_there, is_slot, joins, joins_none, still_firsts}
use Rattle.segments.proofs.segments.Segments.put.Goals as goal

pub returns-in-Ok-clause-ok : goal.returns-in-Ok-clause-ok
returns-in-Ok-clause-ok c = joins_none c.args.self.now c.args.first (is_there
    c.deref.result.now
    _
    _
    c.in-Ok.field-0
    c.args.first
    c.self.invariant.rising
    c.deref.ensures.value
    c.self.view_is
    c.in-Ok.ensures.position)

pub invariant_of-self : goal.invariant_of-self
invariant_of-self c = subst AreFirsts (sym c.in_err-insert-in-Err.ensures.items) c.self.invariant

slot : (c : goal.In_ok-insert-in-Err) → Slot c.self.inside.firsts.items c.in-Err.at c.args.first
slot c = is_slot
    c.deref.result.now
    _
    _
    c.in-Err.at
    c.args.first
    c.self.invariant.rising
    c.deref.ensures.value
    refl
    c.in-Err.ensures.position

pub invariant_of-self-in-Err : goal.invariant_of-self-in-Err
invariant_of-self-in-Err c =
    let xs = c.self.inside.firsts.items in
    let is = still_firsts xs c.in-Err.at c.args.first c.self.invariant (slot c) c.requires c.ranges.first.fits in
    subst AreFirsts (sym c.in_ok-insert-in-Err.ensures.items) is

pub returns-in_ok-insert-in-Err-clause-ok : goal.returns-in_ok-insert-in-Err-clause-ok
returns-in_ok-insert-in-Err-clause-ok c =
    let is = joins c.self.inside.firsts.items c.in-Err.at c.args.first in
    subst (λ old. JoinsOne old c.args.first c.insert.new.self.items) c.self.view_is
    (subst (λ new. JoinsOne c.self.inside.firsts.items c.args.first new) (sym c.in_ok-insert-in-Err.ensures.items) is)
