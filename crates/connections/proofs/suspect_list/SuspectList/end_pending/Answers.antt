use Rattle.std.specs.Prelude.{not}
use Rattle.std.proofs.Common.{rules}
use Rattle.std.proofs.lemmas.Fn.{filter_same}
use Rattle.connections.specs.declared.suspect_list.Suspect.{Suspect}
use Rattle.connections.specs.Suspects.{is_at}
use Rattle.connections.proofs.suspect_list.SuspectList.end_pending.Goals as goal

pub returns : goal.returns
returns c =
    filter_same _ (λ (one : Suspect). not (is_at c.args.place one.state)) _ (λ x b f t. search rules) _ _
    c.retain.ensures.filtered
