use Rattle.std.proofs.Common.{◌≡◌, ◌∙◌, ◌++◌, [], ap, map, rules, subst, sym}
use Rattle.std.specs.List.{All}
use Rattle.std.proofs.lemmas.List.{append-nil}
use Rattle.std.proofs.lemmas.List.Elements.{All-push}
use Rattle.flusher.specs.Sealed.{IsFlushed}
use Rattle.intake.proofs.InOrder.{moved, nothing}
use Rattle.intake.proofs.backlogs.flush_stations.Goals as goal

pub loop-peer-init : goal.loop-peer-init
loop-peer-init g c =
    let gives = c.into_iter-peer-iterator.ensures.into_iter_gives.0 in
    let none = c.new-flushed.ensures.items in (
      search rules,
      search rules,
      search rules,
      (λ i. map (λ p. p.name) (none i) ++ map (λ p. p.name) (gives i)),
    )

pub loop-peer-preserved : goal.loop-peer-preserved
loop-peer-preserved g c =
    let l = c.loop-peer in
    let one = c.in_default.ensures.flushed in
    let left = c.next.new.self.rest.items in
    let done = c.flush_or_rotate.new.self in (
      search rules,
      search rules,
      subst (All (λ p. IsFlushed p.station)) (sym c.in_ok-push.ensures.items)
          (All-push (λ p. IsFlushed p.station) l.flushed.items done l.invariant.2 (search (rules, one))),
      ap (λ m. map (λ p. p.name) m ++ map (λ p. p.name) left) c.in_ok-push.ensures.items
          ∙ (moved (λ p. p.name) (λ p. p.name) l.flushed.items done c.in-Some.peer left c.flush_or_rotate.ensures.name
          ∙ (sym (ap (λ r. map (λ p. p.name) l.flushed.items ++ map (λ p. p.name) r) c.in-Some.ensures.steps.0)
          ∙ l.invariant.3)),
    )

pub returns-clause-names : goal.returns-clause-names
returns-clause-names g c =
    let l = c.loop-peer in
    let none : l.peer-iterator.rest.items ≡ [] = nothing _ (search rules) in
    sym (append-nil (map (λ p. p.name) l.flushed.items))
    ∙ (sym (ap (λ r. map (λ p. p.name) l.flushed.items ++ map (λ p. p.name) r) none) ∙ l.invariant.3)
