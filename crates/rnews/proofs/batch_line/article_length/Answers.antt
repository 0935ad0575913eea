-- The word is cut off the line, and the digits are what is left.
use Rattle.std.proofs.Common.{◌≡◌, ◌==◌, ◌<◌, ◌^◌, ℕ, List, Some, drop, refl, sym, ap, ◌∙◌, subst}
use Rattle.std.proofs.lemmas.Bool.Decides.{Decides-eqb}
use Rattle.std.proofs.lemmas.Slice.Eq.{strip_prefix_is}
use Rattle.std.specs.Option.{unwrap_or}
use Rattle.feed_conf.specs.Values.{decimal}
use Rattle.rnews.specs.Batch.{IsBatchLine, word}
use Rattle.rnews.proofs.batch_line.article_length.Goals as goal

pub returns-in-Ok : goal.returns-in-Ok
returns-in-Ok c = λ length.
    let digits = c.in_ok-digits.digits.now in
    let line = strip_prefix_is {A = ℕ} {E = λ a b. a == b} Decides-eqb c.args.line.now word
    (Some c.in_ok-digits.digits) c.in_ok-digits.ensures.cases in
    let read = (c.in-Ok.ensures.ok c.in-Ok.length).0 refl in (
      λ is.
          let same : c.in-Ok.length ≡ length = ap (λ o. unwrap_or o 0) is in (
            record {
              digits = digits;
              line_is = line;
              form = read.0;
              value = read.1
                  ∙ same;
            },
            subst (λ n. n < 2 ^ 64) same read.2,
          ),
      λ given.
          let rest : digits ≡ given.0.digits = ap (drop 9) (sym line ∙ given.0.line_is) in
          ap Some (sym read.1 ∙ (ap (decimal 0) rest ∙ given.0.value)),
    )
