use Rattle.event_loop.specs.Link.{moved}
use Rattle.event_loop.specs.Memory.{Memory}
use Rattle.std.proofs.Common.{◌≤◌, ◌∙◌, ◌≡◌, ◌+◌, ◌-◌, ◌++◌, Some, length, ap, arith, take, drop}
use Rattle.std.proofs.lemmas.Grind.{common_steps}
use Rattle.std.proofs.lemmas.List.{length-take-le}
use Rattle.event_loop.proofs.Pieces.{given_more, none_moved, next_moved}
use Rattle.event_loop.proofs.memory.MemLinkLink.recv.Goals as goal

pub returns-in-Some-clause-within : goal.returns-in-Some-clause-within
returns-in-Some-clause-within c = omega (arith, c.in-Some.ensures.moves)

pub returns-in-Some-clause-gave : goal.returns-in-Some-clause-gave
returns-in-Some-clause-gave c = none_moved (moved c.in-Some.ending) _ _ c.in-Some.ensures.moves

pub returns-clause-gave : goal.returns-clause-gave
returns-clause-gave c =
    let fits : c.cut-count.result ≤ length c.args.into.now =
    grind (arith, common_steps, c.cut-count.ensures.within, c.min-ready.ensures, c.min-room.ensures, c.len-2.ensures) in
    let given = c.self.inside.given in
    let count = c.cut-count.result in
    let size : (given + count) - given ≡ count = omega arith in
    next_moved c.self.inside.given c.cut-count.result c.self.inside.source.items c.copy_from_slice.new.self _
    (c.copy_from_slice.ensures.after ∙ ap (λ n. take n (drop given c.deref.result.now)) size
    ∙ ap (λ xs. take count (drop given xs)) c.deref.ensures.value)
    (c.copy_from_slice.ensures.len ∙ length-take-le c.cut-count.result c.args.into.now fits)
    ∙ ap (λ (link : Memory). Some
    (link.gave ++ take c.cut-count.result
    (c.copy_from_slice.new.self ++ drop c.cut-count.result c.args.into.now))) c.self.view_is

pub returns-clause-gives : goal.returns-clause-gives
returns-clause-gives c = (
  grind (
    arith,
    common_steps,
    c.cut-count.ensures.value,
    c.min-ready.ensures,
    c.min-room.ensures,
    c.len.ensures,
    c.len-2.ensures,
    c.met.ensures.value,
    c.in_default.is,
    c.if-len-self.false,
    c.self.view_is,
  ),
  rw (← c.self.view_is)
      (given_more c.self.inside.source.items c.self.inside.sink.items c.self.inside.given c.cut-count.result
      c.self.inside.piece c.self.inside.gives c.self.inside.takes),
)
