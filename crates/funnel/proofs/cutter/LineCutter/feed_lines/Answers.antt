-- The held line with its end, the lines after it, and the new rest.
use Rattle.std.proofs.Common.{ℕ, ap, ◌∙◌}
use Rattle.std.proofs.lemmas.Result.{on_ok_weaker}
use Rattle.std.specs.declared.vec.Vec.{Vec}
use Rattle.std.specs.declared.alloc.Global.{Global}
use Rattle.funnel.specs.Stream.{Held}
use Rattle.funnel.proofs.Cuts.{lines-joined, on-ok-items, stands-ended}
use Rattle.funnel.proofs.cutter.LineCutter.feed_lines.Goals as goal

pub returns-clause-fed : goal.returns-clause-fed
returns-clause-fed c =
    on_ok_weaker c.append.result
    (λ joined fed given s.
    stands-ended c.args.self.now c.in_ok-lines.field-0 _ fed c.args.end.now c.args.behind.now c.extend_clipped.new.kept.items given s c.requires c.in_ok-lines.ensures
    (λ prefix is. c.in_ok-extend_clipped.ensures.fed prefix (ap (λ (held : Held). held.rest) c.self.view_is ∙ is))
    (lines-joined c.self.inside.lines.items c.reserve.new.self.items c.push_back.new.self.items c.append.new.self.items c.lines.inside.lines.items c.replace.result
    c.extend_clipped.new.kept.items c.args.self.now.lines c.in_ok-lines.field-0.lines (ap (λ (held : Held). held.lines) c.self.view_is)
    (ap (λ (held : Held). held.lines) c.lines.view_is) c.in_ok-reserve.ensures.items c.in_ok-push_back.ensures.items
    (ap (λ (v : Vec ℕ Global). v.items) c.replace.ensures.value) joined)
    (ap (λ (v : Vec ℕ Global). v.items) c.replace.ensures.after ∙ ap (λ (held : Held). held.rest) c.lines.view_is))
    (on-ok-items c.append.result _ _ _ c.append.ensures.items)
