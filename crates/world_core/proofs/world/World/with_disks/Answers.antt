-- The tapes of the peers are opened in order and then the intake's, or the first that is refused is reported.
use Rattle.std.proofs.Common.{refl, rules}
use Rattle.std.proofs.lemmas.Cmp.{nat_list_cmp_total}
use Rattle.std.proofs.lemmas.List.Sorted.{answers_always, ranks_by}
use Rattle.world_core.specs.Given.{GivenDisks}
use Rattle.world_core.proofs.WorldMade.{begins_from, refuses_last, refuses_peers, sorted_rise}
use Rattle.world_core.proofs.Results.{if_err_is}
use Rattle.world_core.proofs.world.World.with_disks.Goals as goal

pub returns-in_err-peers-clause-refuses : goal.returns-in_err-peers-clause-refuses
returns-in_err-peers-clause-refuses c =
    let given = c.args.peers.items in
    let ordered = c.sort_by.new.self.items in
    let permuted = c.in_ok-sort_by.ensures.permutation in
    let rises = sorted_rise given ordered permuted
    (c.in_ok-sort_by.ensures.sorted _ (ranks_by nat_list_cmp_total (λ (peer : GivenDisks). peer.0.name))
    (answers_always _ _ _ (λ f a r q k. search rules))) c.requires.distinct in
    if_err_is c.from_residual-in_err-peers.result _ _ c.from_residual-in_err-peers.ensures.1
    (refuses_peers given ordered c.args.intake _ permuted rises c.in_err-peers.ensures.err)

pub returns-in_err-intake-clause-refuses : goal.returns-in_err-intake-clause-refuses
returns-in_err-intake-clause-refuses c =
    if_err_is c.from_residual-in_err-intake.result _ _ c.from_residual-in_err-intake.ensures.1
    (refuses_last c.args.peers.items c.sort_by.new.self.items c.in_ok-peers.peers.items c.args.intake _
    c.in_ok-sort_by.ensures.permutation c.in_ok-peers.ensures.ok c.in_err-intake.ensures.err)

pub returns-clause-begins : goal.returns-clause-begins
returns-clause-begins c =
    let given = c.args.peers.items in
    let ordered = c.sort_by.new.self.items in
    let permuted = c.in_ok-sort_by.ensures.permutation in
    let rises = sorted_rise given ordered permuted
    (c.in_ok-sort_by.ensures.sorted _ (ranks_by nat_list_cmp_total (λ (peer : GivenDisks). peer.0.name))
    (answers_always _ _ _ (λ f a r q k. search rules))) c.requires.distinct in
    begins_from given ordered c.args.intake _ _ c.new-3.result refl permuted rises c.in_ok-peers.ensures.ok
    c.in_ok-intake.ensures.ok c.mark-last.ensures c.mark-last.type_inv
    refl c.new-3.ensures.items refl refl refl
