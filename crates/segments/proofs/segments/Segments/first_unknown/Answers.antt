-- Those before a line are looked at, among the known ones.
use Rattle.std.proofs.Common.{◌∙◌}
use Rattle.segments.proofs.Rising.{is_unknown, none_unknown}
use Rattle.segments.proofs.segments.Segments.first_unknown.Goals as goal

pub returns-clause-some : goal.returns-clause-some
returns-clause-some c =
    is_unknown _ _ _ _ _ _ _ (c.deref.ensures.value ∙ c.known.view_is) c.before-2.ensures.which
    c.first_unknown_of.ensures.some

pub returns-clause-none : goal.returns-clause-none
returns-clause-none c =
    none_unknown _ _ _ _ _ _ _ (c.deref.ensures.value ∙ c.known.view_is) c.before-2.ensures.which
    c.first_unknown_of.ensures.none
