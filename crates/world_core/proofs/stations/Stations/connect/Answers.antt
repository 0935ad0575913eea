-- One more connection, after all others.
use Rattle.std.proofs.Common.{◌≡◌, ◌∙◌, ◌+◌, ◌<◌, ◌^◌, ◌++◌, ◌∷◌, [], ap, arith, refl, rules, sym}
use Rattle.world_core.specs.declared.output.Output.TheVariants.{Connected as OutputConnected}
use Rattle.world_core.specs.Output.{Connected, View, view_of}
use Rattle.std.specs.Prelude.{map}
use Rattle.world_core.proofs.ConnectionMade.{connect_absent, connect_full, connect_memory, connected_made}
use Rattle.world_core.proofs.Results.{if_err}
use Rattle.world_core.proofs.OutputLines.{position_within}
use Rattle.world_core.proofs.OutcomeSettled.{tells_push}
use Rattle.world_core.proofs.TapeSteps.{rank_same}
use Rattle.world_core.proofs.stations.Stations.connect.Goals as goal

pub returns-in_default-clause-err : goal.returns-in_default-clause-err
returns-in_default-clause-err g c = λ life running same.
    connect_absent c.args.name.now life c.args.self.now c.args.connections.now.items running
    (rank_same c.args.name.now life.past c.args.self.now running.stands ∙ sym c.rank_of.ensures ∙ c.in_default.is)

pub returns-in_default-checked_add-clause-err : goal.returns-in_default-checked_add-clause-err
returns-in_default-checked_add-clause-err g c = λ life running same.
    let full : c.args.last + 1 ≡ 2 ^ 64 = search rules in
    connect_full c.args.name.now life c.args.self.now c.args.connections.now.items running c.in-Some.rank
    (rank_same c.args.name.now life.past c.args.self.now running.stands ∙ sym c.rank_of.ensures ∙ c.in-Some.is)
    (ap (λ n. n + 1) same ∙ full)

pub returns-in_err-reserve-clause-err : goal.returns-in_err-reserve-clause-err
returns-in_err-reserve-clause-err g c = λ life running same.
    let numbered : c.in-Some-checked_add.number ≡ c.args.last + 1 = search rules in
    let fits : c.in-Some-checked_add.number < 2 ^ 64 = search rules in
    if_err c.from_residual.result _ _ c.from_residual.ensures.1 (λ fault is.
    connect_memory c.args.name.now life c.args.self.now c.args.connections.now.items running c.in-Some.rank fault _
    (rank_same c.args.name.now life.past c.args.self.now running.stands ∙ sym c.rank_of.ensures ∙ c.in-Some.is)
    (omega (arith, numbered, fits, same)) is refl)

pub returns-in_err-reserve-2-clause-err : goal.returns-in_err-reserve-2-clause-err
returns-in_err-reserve-2-clause-err g c = λ life running same.
    let numbered : c.in-Some-checked_add.number ≡ c.args.last + 1 = search rules in
    let fits : c.in-Some-checked_add.number < 2 ^ 64 = search rules in
    if_err c.from_residual-in_err-reserve-2.result _ _ c.from_residual-in_err-reserve-2.ensures.1 (λ fault is.
    connect_memory c.args.name.now life c.args.self.now c.args.connections.now.items running c.in-Some.rank fault _
    (rank_same c.args.name.now life.past c.args.self.now running.stands ∙ sym c.rank_of.ensures ∙ c.in-Some.is)
    (omega (arith, numbered, fits, same)) is
    c.in_err-reserve-2.ensures.items)

pub returns-in_err-name-clause-err : goal.returns-in_err-name-clause-err
returns-in_err-name-clause-err g c = λ life running same.
    let numbered : c.in-Some-checked_add.number ≡ c.args.last + 1 = search rules in
    let fits : c.in-Some-checked_add.number < 2 ^ 64 = search rules in
    if_err c.from_residual-in_err-name.result _ _ c.from_residual-in_err-name.ensures.1 (λ fault is.
    connect_memory c.args.name.now life c.args.self.now c.args.connections.now.items running c.in-Some.rank fault _
    (rank_same c.args.name.now life.past c.args.self.now running.stands ∙ sym c.rank_of.ensures ∙ c.in-Some.is)
    (omega (arith, numbered, fits, same)) is
    c.in_ok-reserve-2.ensures.items)

pub returns-in_err-connection-clause-err : goal.returns-in_err-connection-clause-err
returns-in_err-connection-clause-err g c = λ life running same.
    let numbered : c.in-Some-checked_add.number ≡ c.args.last + 1 = search rules in
    let fits : c.in-Some-checked_add.number < 2 ^ 64 = search rules in
    if_err c.from_residual-in_err-connection.result _ _ c.from_residual-in_err-connection.ensures.1 (λ fault is.
    connect_memory c.args.name.now life c.args.self.now c.args.connections.now.items running c.in-Some.rank fault _
    (rank_same c.args.name.now life.past c.args.self.now running.stands ∙ sym c.rank_of.ensures ∙ c.in-Some.is)
    (omega (arith, numbered, fits, same)) is
    c.in_ok-reserve-2.ensures.items)

pub returns-clause-ok : goal.returns-clause-ok
returns-clause-ok g c = λ life running same.
    let numbered : c.in-Some-checked_add.number ≡ c.args.last + 1 = search rules in
    let fits : c.in-Some-checked_add.number < 2 ^ 64 = search rules in
    let is : c.in-Some-checked_add.number ≡ life.connected + 1 = numbered ∙ sym (ap (λ n. n + 1) same) in
    let made = c.in_ok-connection.ensures in
    connected_made c.args.name.now life c.args.self.now c.args.connections.now.items running c.in-Some.rank
    (rank_same c.args.name.now life.past c.args.self.now running.stands ∙ sym c.rank_of.ensures ∙ c.in-Some.is)
    (omega (arith, numbered, fits, same))
    c.in_ok-connection.connection c.index.result.now c.index.ensures
    (position_within _ c.args.self.now.peers.items c.in-Some.rank (sym c.rank_of.ensures ∙ c.in-Some.is))
    made.stands (made.number ∙ is) made.rank made.waits
    c.in-Some-checked_add.number c.args.outputs.now.items c.push_reserved-2.new.self.items _ is
    (c.push_reserved.ensures.items ∙ ap (λ l. l ++ c.in_ok-connection.connection ∷ []) c.in_ok-reserve-2.ensures.items)
    (tells_push c.args.outputs.now.items _ _ (OutputConnected c.in-Some-checked_add.number c.in_ok-name.name)
    c.in_ok-reserve.ensures.items c.push_reserved-2.ensures.items
    ∙ ap (λ (said : View). map view_of c.args.outputs.now.items ++ said ∷ [])
    (ap (λ n. Connected n c.in_ok-name.name) is
    ∙ ap (λ name. Connected (life.connected + 1) name) c.in_ok-name.ensures.cases))
