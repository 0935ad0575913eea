-- One more name at each turn.
use Rattle.std.proofs.Common.{sym, subst}
use Rattle.world_core.specs.Stepped.{AreWithin}
use Rattle.world_core.proofs.NamedPeers.{found_first, found_more, found_same, within_more}
use Rattle.world_core.proofs.stations.Stations.find_each.Goals as goal

pub loop-name-init : goal.loop-name-init
loop-name-init g c = record {
  found = λ past stands. found_first past c.new-found.result.entries c.new-found.ensures.empty;
  within = subst (AreWithin _) (sym c.new-found.ensures.empty) tt;
}

pub loop-name-preserved-in_ok-insert : goal.loop-name-preserved-in_ok-insert
loop-name-preserved-in_ok-insert g c =
    let loop = c.loop-name in
    record {
      found = λ past stands.
          found_more past loop.yielded c.in-Some.name c.in-Some-find.rank loop.found.entries
          c.insert.new.self.entries stands.sound.names
          (loop.invariant.found past stands) (c.in-Some-find.ensures.found past stands) c.in_ok-insert.ensures.entries;
      within = subst (AreWithin _) (sym c.in_ok-insert.ensures.entries)
          (within_more _ loop.found.entries c.in-Some-find.rank c.in-Some.name loop.invariant.within
          c.in-Some-find.ensures.within);
    }

pub loop-name-preserved-in_ok-insert-2 : goal.loop-name-preserved-in_ok-insert-2
loop-name-preserved-in_ok-insert-2 g c =
    let loop = c.loop-name in
    record {
      found = λ past stands.
          found_more past loop.yielded c.in-Some.name c.in-Some-find.rank loop.found.entries
          c.insert.new.self.entries stands.sound.names
          (loop.invariant.found past stands) (c.in-Some-find.ensures.found past stands) c.in_ok-insert.ensures.entries;
      within = subst (AreWithin _) (sym c.in_ok-insert.ensures.entries)
          (within_more _ loop.found.entries c.in-Some-find.rank c.in-Some.name loop.invariant.within
          c.in-Some-find.ensures.within);
    }

pub loop-name-preserved : goal.loop-name-preserved
loop-name-preserved g c =
    let loop = c.loop-name in
    record {
      found = λ past stands.
          found_same past loop.yielded c.in-Some.name loop.found.entries (loop.invariant.found past stands)
          (c.in_default.ensures.found past stands);
      within = loop.invariant.within;
    }
