-- One more peer is done with: it stays stopped, after one that was refused; or it is open; or it is the first refused.
use Rattle.std.proofs.Common.{◌≡◌, ℕ, Some, length, sym, ap, ◌∙◌, arith}
use Rattle.world_core.proofs.PeerOpened.{tried_behind, tried_open, tried_refused}
use Rattle.world_core.proofs.restart.Opening.add.Goals as goal

pub returns-then-is_some-clause-tries : goal.returns-then-is_some-clause-tries
returns-then-is_some-clause-tries c = λ past rest tries.
    tried_behind past c.args.self.now.opened.items c.args.self.now.stopped.items c.push_reserved.new.self.items
    c.args.self.now.refused c.args.peer rest
    (sym c.is_some.ensures ∙ c.if-is_some.true) c.push_reserved.ensures.items tries

pub returns-in-Ok-clause-tries : goal.returns-in-Ok-clause-tries
returns-in-Ok-clause-tries c = λ past rest tries.
    tried_open past c.args.self.now.opened.items c.push_reserved-in-Ok.new.self.items c.args.self.now.stopped.items
    c.args.self.now.refused c.args.peer c.in-Ok.peer
    rest (sym c.is_some.ensures ∙ c.if-is_some.false) c.push_reserved-in-Ok.ensures.items tries c.in-Ok.ensures.ok

pub returns-in-Err-clause-tries : goal.returns-in-Err-clause-tries
returns-in-Err-clause-tries c = λ past rest tries.
    let many : c.len.result ≡ length c.args.self.now.opened.items = omega (arith, c.len.ensures) in
    tried_refused past c.args.self.now.opened.items c.halt.new.self.opened.items c.args.self.now.stopped.items
    c.halt.new.self.stopped.items
    c.push_reserved-in-Err.new.self.items c.args.self.now.refused c.halt.new.self.refused c.args.peer c.in-Err.peer
    c.in-Err.fault rest
    (sym c.is_some.ensures ∙ c.if-is_some.false) c.push_reserved-in-Err.ensures.items
    (c.halt.ensures.refused ∙ ap (λ (n : ℕ). Some (record { rank = Some n; fault = c.in-Err.fault })) many)
    c.halt.ensures.stops tries c.in-Err.ensures.err
