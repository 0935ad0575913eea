use Rattle.std.proofs.Common.{ap, refl, sym}
use Rattle.funnel.specs.Stream.{Held}
use Rattle.funnel.proofs.Cuts.{given-none, given-some}
use Rattle.funnel.proofs.cutter.LineCutter.next.Goals as goal

pub returns-clause-line : goal.returns-clause-line
returns-clause-line c =
    given-some c.pop_front.result c.self.inside.lines.items c.pop_front.new.self.items c.args.self.now _ c.pop_front.ensures.items
    (sym (ap (λ (held : Held). held.lines) c.self.view_is)) refl (ap (λ (held : Held). held.rest) c.self.view_is)

pub returns-clause-none : goal.returns-clause-none
returns-clause-none c =
    given-none _ c.pop_front.result c.self.inside.lines.items c.pop_front.new.self.items c.args.self.now _ _ c.pop_front.ensures.items c.pop_front.ensures.cases
    c.pop_front.new.self.ok.0 (sym (ap (λ (held : Held). held.lines) c.self.view_is))
