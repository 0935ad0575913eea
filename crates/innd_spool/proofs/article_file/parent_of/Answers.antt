-- What stands before the last slash.
use Rattle.std.proofs.Common.{◌≡◌, ◌∙◌, ◌-◌, ap, arith, refl, take}
use Rattle.std.proofs.lemmas.Str.Pattern.{rfind_char}
use Rattle.innd_spool.specs.Files.IsParentOf.{before_slash, no_slash}
use Rattle.innd_spool.proofs.article_file.parent_of.Goals as goal

pub returns-in-Some : goal.returns-in-Some
returns-in-Some c =
    let found = rfind_char 47 c.args.path.now c.rfind.result c.rfind.ensures.cases (omega arith) in
    let there = rw c.in-Some.is at found in
    let end = c.in-Some.end in
    let whole : end - 0 ≡ end = omega arith in
    before_slash end there.0 there.1 there.2 (c.range.ensures.value ∙ ap (λ n. take n c.args.path.now) whole)

pub returns-in-None : goal.returns-in-None
returns-in-None c =
    let found = rfind_char 47 c.args.path.now c.rfind.result c.rfind.ensures.cases (omega arith) in
    let none = rw c.in-None.is at found in
    no_slash none refl
