-- What became of the candidate is reported, and what follows it.
use Rattle.std.proofs.Common.{◌++◌, ◌∷◌, ◌∙◌, ap, refl, List, []}
use Rattle.world_core.specs.Exchange.{with_transcript}
use Rattle.world_core.specs.declared.output.Output.{Output}
use Rattle.world_core.specs.declared.output.Output.TheVariants.{Handed as OutputHanded}
use Rattle.world_core.proofs.Results.{if_err, if_err_map, on_ok_map}
use Rattle.world_core.proofs.DebtHandedOver.{hand_memory, hand_not, hand_on, hand_on_not, open_over}
use Rattle.world_core.proofs.connection.Connection.hand.Goals as goal

pub returns-in_err-reserve-clause-err : goal.returns-in_err-reserve-clause-err
returns-in_err-reserve-clause-err g c = λ id conn past pair.
    if_err c.from_residual.result _ _ c.from_residual.ensures.1
    (λ fault is. hand_memory id c.args.now conn past fault _ _ is pair)

pub returns-in_err-handed-clause-err : goal.returns-in_err-handed-clause-err
returns-in_err-handed-clause-err g c = λ id conn past pair.
    if_err c.from_residual-in_err-handed.result _ _ c.from_residual-in_err-handed.ensures.1 (λ fault is.
    hand_not id c.args.now conn past _ fault _ _ is (c.in_err-handed.ensures.err id conn past pair))

pub returns-clause-ok : goal.returns-clause-ok
returns-clause-ok g c = λ id conn past pair.
    let over = c.in_ok-handed.ensures.ok id conn past pair in
    let was_so = open_over id c.args.now conn past c.in_ok-handed.handed _ _ over c.args.self.now
    c.is_none-was_open.result c.closed.result pair.holds
    c.closed.ensures c.is_none-was_open.ensures in
    on_ok_map c.report.result _ _
    (c.report.ensures.ok id (with_transcript conn over.transcript) over.later conn.transcript over.stand was_so)
    (hand_on id c.args.now conn past c.in_ok-handed.handed _ _ over c.args.outputs.now.items _ _ c.id.result.0 _ _ _
    refl
    (c.push_reserved.ensures.items
    ∙ ap (λ (l : List Output). l ++ OutputHanded c.id.result.0 c.in_ok-handed.handed ∷ [])
    c.in_ok-reserve.ensures.items) (ap (λ i. i.0) c.id.ensures))

pub returns-clause-err : goal.returns-clause-err
returns-clause-err g c = λ id conn past pair.
    let over = c.in_ok-handed.ensures.ok id conn past pair in
    if_err_map c.report.result _ _
    (c.report.ensures.err id (with_transcript conn over.transcript) over.later over.stand)
    (λ fault is. hand_on_not id c.args.now conn past c.in_ok-handed.handed _ _ over fault _ _ is)
