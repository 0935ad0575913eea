-- The numbers rise, so those at or below one come first.
use Rattle.std.proofs.Common.{leb, rules, sym, subst}
use Rattle.std.specs.List.Sorted.{IsStrictlyIncreasing}
use Rattle.std.proofs.lemmas.List.Sorted.{IsPartitionPoint-from_clause, IsPartitionedBy-leb}
use Rattle.segments.proofs.Rising.{Parts, never_falls, parts_from}
use Rattle.segments.proofs.segments.Segments.count_up_to.Goals as goal

parts : (c : goal.After-partition_point) → Parts c.args.self.now c.args.number c.partition_point.result
parts c =
    let xs = c.deref.result.now in
    let up = subst (λ zs. IsStrictlyIncreasing zs) (sym c.deref.ensures.value) c.self.invariant.rising in
    let parted = IsPartitionedBy-leb (λ x. x) xs c.args.number (never_falls xs up) in
    let clause = c.partition_point.ensures.partitioned in
    let point = IsPartitionPoint-from_clause (λ x. leb x c.args.number) xs _ clause parted (λ a r q k. search rules) in
    parts_from xs _ _ _ _ c.deref.ensures.value c.self.view_is c.partition_point.ensures.bound point

pub returns-clause-up_to : goal.returns-clause-up_to
returns-clause-up_to c = (parts c).up_to

pub returns-clause-above : goal.returns-clause-above
returns-clause-above c = (parts c).above
