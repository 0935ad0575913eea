use Rattle.std.proofs.Common.{List, ℕ, Option, sym, subst}
use Rattle.std.specs.Bool.{Decides}
use Rattle.drill_script.proofs.Names.{declares}
use Rattle.drill_script.specs.Script.{HasItsPeer, names_of}
use Rattle.drill_script.proofs.draft.Draft.has_peer_of.Goals as goal

pub returns-in-Some : goal.returns-in-Some
returns-in-Some c = λ before drafts.
    subst (λ (peer : Option (List ℕ)). Decides c.contains.result (HasItsPeer (names_of before) peer))
    (sym c.in-Some.is)
    (declares c.contains.result c.bytes.result.now c.in-Some.name c.args.self.now.names.keys (names_of before)
    c.contains.ensures c.bytes.ensures.value (drafts.names c.in-Some.name))
