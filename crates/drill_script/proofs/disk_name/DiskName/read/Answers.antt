-- A word that ends with `~b` names a second disk, any other a first one.
use Rattle.std.proofs.Common.{◌≡◌, ◌==◌, ◌++◌, ℕ}
use Rattle.std.specs.Prelude.{codes}
use Rattle.std.proofs.lemmas.Bool.Decides.{Decides-eqb}
use Rattle.std.proofs.lemmas.Option.{MatchOption-at_some}
use Rattle.std.proofs.lemmas.Slice.Eq.{strip_suffix_is}
use Rattle.drill_script.proofs.DiskNames.{second_read}
use Rattle.drill_script.proofs.disk_name.DiskName.read.Goals as goal

pub returns-in-Some : goal.returns-in-Some
returns-in-Some c =
    let all = strip_suffix_is {A = ℕ} {E = λ a b. a == b} Decides-eqb c.args.word.now (codes "~b")
    c.strip_suffix.result c.strip_suffix.ensures.cases in
    let e : c.args.word.now ≡ c.in-Some.tape.now ++ codes "~b" = MatchOption-at_some _ _ _ c.in-Some.is all in
    second_read c.args.word.now c.in-Some.tape.now c.of_tape.result e c.of_tape.ensures
