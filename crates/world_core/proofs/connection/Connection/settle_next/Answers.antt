-- The outcome goes to the station, or waits.
use Rattle.std.proofs.Common.{◌∙◌, ap, refl, subst}
use Rattle.world_core.specs.Past.{options_of}
use Rattle.world_core.specs.Pairs.{TakesNext}
use Rattle.world_core.proofs.OutcomeSettled.{settled_not, settled_one}
use Rattle.world_core.proofs.connection.Connection.settle_next.Goals as goal

pub returns-in-Ok-clause-ok : goal.returns-in-Ok-clause-ok
returns-in-Ok-clause-ok g c = λ id conn past pair.
    let is = c.in-Ok.ensures in
    let taken = subst (λ o. TakesNext (options_of past.conf) conn o c.next_outcome.new.self) c.in-Some.is
    (c.next_outcome.ensures.takes past.conf conn pair.holds pair.waits) in
    settled_one id c.args.now conn past c.args.self.now _ c.args.peer.now _ c.args.outputs.now.items
    c.reserve.new.self.items _ c.in-Some.outcome
    c.id-id.result.0 c.key_in-key.result c.in-Ok.settled pair taken c.next_outcome.ensures.waits
    c.next_outcome.ensures.rank
    c.next_outcome.ensures.id (ap (λ i. i.0) (c.id-id.ensures ∙ c.next_outcome.ensures.id) ∙ pair.id_is)
    c.key_in-key.ensures is.settled is.ok
    (λ b. is.refuses.broken.1 b)
    (λ ends held full. is.pending_full.1 (ends, ((λ b. is.refuses.broken.1 b), held, full))) refl refl
    c.reserve.ensures.items c.push_reserved.ensures.items

pub returns-in-Err-clause-err : goal.returns-in-Err-clause-err
returns-in-Err-clause-err g c = λ id conn past pair.
    let is = c.in-Err.ensures in
    let taken = subst (λ o. TakesNext (options_of past.conf) conn o c.next_outcome.new.self) c.in-Some.is
    (c.next_outcome.ensures.takes past.conf conn pair.holds pair.waits) in
    settled_not id c.args.now conn past c.args.self.now _ c.args.peer.now _ c.in-Some.outcome c.in-Err.outcome
    c.id-id.result.0 c.in-Err.fault c.from_station.result pair taken refl is.returned c.next_outcome.ensures.rank
    c.next_outcome.ensures.id (ap (λ i. i.0) (c.id-id.ensures ∙ c.next_outcome.ensures.id) ∙ pair.id_is)
    is.refuses.broken is.refuses.not_held is.pending_full is.no_memory is.kinds
    c.from_station.ensures is.unchanged refl refl
