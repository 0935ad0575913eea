use Rattle.std.proofs.Common.{◌≡◌, ◌∷◌, [], length, arith, rules, subst, sym}
use Rattle.std.proofs.lemmas.List.{nil_from_length}
use Rattle.intake.specs.Tapes.{AreParted}
use Rattle.intake.proofs.Parts.{none_left_out, parted_all, parted_step}
use Rattle.intake.proofs.tapes.open_peers.Goals as goal

pub loop-conf-preserved : goal.loop-conf-preserved
loop-conf-preserved c =
    let next : c.loop-conf.conf-iterator.rest.items ≡ c.in-Some.conf ∷ c.next.new.self.rest.items = search rules in
    record {
      can_next = tt;
      finite = tt;
      stations = search (rules, c.in_ok-add.ensures.stations, c.loop-conf.invariant.stations);
      parted = parted_step c.args.peers.items c.loop-conf.conf-iterator.rest.items c.next.new.self.rest.items
          c.args.leaves_out c.in-Some.conf c.loop-conf.opened c.add.new.self next c.loop-conf.invariant.parted
          (search c.in_ok-add.ensures.added);
      all = λ not. none_left_out c.args.leaves_out c.in-Some.conf c.loop-conf.opened c.add.new.self
          (search c.in_ok-add.ensures.added) not (c.loop-conf.invariant.all not);
    }

pub returns-clause-parted : goal.returns-clause-parted
returns-clause-parted c =
    let none : length c.loop-conf.conf-iterator.rest.items ≡ 0 = omega (arith, c.in-None.ensures.steps.0) in
    let end = nil_from_length c.loop-conf.conf-iterator.rest.items none in
    parted_all c.args.peers.items c.loop-conf.opened.confs.items c.loop-conf.opened.left_out.items
    (λ more left parts. c.loop-conf.invariant.parted more left (subst (λ ps. AreParted ps more left) (sym end) parts))
