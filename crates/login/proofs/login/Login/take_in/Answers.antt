-- One octet after another, and what came after the end.
use Rattle.std.proofs.Common.{ℕ, List, ◌++◌, ◌-◌, length, drop, take, arith}
use Rattle.std.proofs.lemmas.List.{take_more}
use Rattle.login.specs.Exchange.{StandsFor}
use Rattle.login.proofs.Exchanges.{all-on, kept-on, on-ok, one-on, rest-is}
use Rattle.login.proofs.login.Login.take_in.Goals as goal

pub returns-then-not-is_open-clause-stands : goal.returns-then-not-is_open-clause-stands
returns-then-not-is_open-clause-stands c =
    on-ok ((came : List ℕ) → StandsFor c.loop-index.self came
    → StandsFor c.pass_on.new.self (came ++ take (length c.args.octets.now - c.loop-index.index)
    (drop c.loop-index.index c.args.octets.now))) _ c.pass_on.result
    (λ step. all-on c.args.self.now c.loop-index.self c.pass_on.new.self c.args.octets.now _ c.loop-index.index
    (rest-is c.args.octets.now c.loop-index.index) c.loop-index.invariant.stands step) c.pass_on.ensures.stands

pub loop-index-preserved : goal.loop-index-preserved
loop-index-preserved c = record {
  stands =
      one-on c.args.self.now c.loop-index.self c.push.new.self c.args.octets.now c.loop-index.index _
      (take_more c.args.octets.now c.loop-index.index 0 (omega arith)) c.loop-index.invariant.stands
      c.in_ok-push.ensures.stands;
  commands = kept-on _ _ _ c.loop-index.invariant.commands c.push.ensures.commands;
}
