-- The settings have a fault.
use Rattle.std.proofs.Common.{◌≡◌, ◌≢◌, ◌++◌, ◌∙◌, List, ℕ, Err, Some, ap, inl, refl, rules}
use Rattle.feed_conf.specs.declared.fault.ConfFaultKind.TheVariants.{NoMemory}
use Rattle.cli.specs.Ends.{Means}
use Rattle.cli.specs.Lines.{config_text}
use Rattle.cli.proofs.check.settings_of.Goals as goal

pub returns-in_ok-more-in-Err-2 : goal.returns-in_ok-more-in-Err-2
returns-in_ok-more-in-Err-2 c =
    let fault = c.in-Err.fault in
    let has_memory : fault.kind ≢ NoMemory = search rules in
    let means : Means c.args.text.now (Err fault) = λ lexemes have. c.in-Err.ensures.meaning lexemes have has_memory in
    let explained = ap (λ (more : List ℕ). Some (config_text fault ++ more)) c.in_ok-more-in-Err-2.ensures in
    λ line same. inl (fault, means, refl, same ∙ explained)
