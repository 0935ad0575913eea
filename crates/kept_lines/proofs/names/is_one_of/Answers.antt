use Rattle.std.proofs.Common.{rules}
use Rattle.std.specs.Cmp.Lexicographic.{slice_cmp}
use Rattle.std.specs.Ordering.{nat_cmp}
use Rattle.std.proofs.lemmas.Fn.{always_returns_same}
use Rattle.kept_lines.proofs.Searches.{searched}
use Rattle.kept_lines.proofs.names.is_one_of.Goals as goal

pub returns-clause-found : goal.returns-clause-found
returns-clause-found c =
    let position = c.binary_search_by.ensures.position (λ one. slice_cmp nat_cmp one c.args.name.now)
    (always_returns_same _ _ _ (λ a r q k. search rules)) in
    (searched c.args.names.now c.args.name.now c.binary_search_by.result c.is_ok.result c.is_ok.ensures.value
    c.binary_search_by.ensures.bound position).0

pub returns-clause-value : goal.returns-clause-value
returns-clause-value c =
    let position = c.binary_search_by.ensures.position (λ one. slice_cmp nat_cmp one c.args.name.now)
    (always_returns_same _ _ _ (λ a r q k. search rules)) in
    (searched c.args.names.now c.args.name.now c.binary_search_by.result c.is_ok.result c.is_ok.ensures.value
    c.binary_search_by.ensures.bound position).1
