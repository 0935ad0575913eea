use Rattle.std.proofs.Common.{◌≡◌, ℕ, Option, None, Some, List, [], ◌++◌, ap, ◌∙◌, inl}
use Rattle.std.specs.Prelude.{codes, IfSome}
use Rattle.cli.specs.Ends.{DrillsInput, Runs}
use Rattle.cli.proofs.Reporting.{comes_as}
use Rattle.cli.proofs.runner.drill_input.Goals as goal

-- what was read from the first octet on is all that there was
whole : (holds : Option (List ℕ)) (first read text : List ℕ) → first ≡ [] → text ≡ read
    → IfSome holds (λ octets. read ≡ first ++ octets) → IfSome holds (λ octets. text ≡ octets)
whole None first read text none same is = tt
whole (Some octets) first read text none same is = same ∙ (is ∙ ap (λ (prefix : List ℕ). prefix ++ octets) none)

pub returns-in-Ok : goal.returns-in-Ok
returns-in-Ok g c =
    let holds = g.S.Read.remaining c.args.input.now in
    let old = g.W.Write.contents c.args.out.now in
    let new = g.W.Write.contents c.drill.new.out in
    let read = c.read_to_end.new.buf.items in
    comes_as (Runs c.deref.result.now (codes "standard input") old new) (DrillsInput holds old new)
    (λ exit line runs. inl (
      c.deref.result.now,
      whole holds c.new-script.result.items read c.deref.result.now c.new-script.ensures.items c.deref.ensures.value
          c.in-Ok.ensures.bytes,
      runs,
    ))
    c.drill.result c.drill.ensures
