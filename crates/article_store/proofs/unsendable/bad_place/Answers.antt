use Rattle.std.proofs.Common.{◌≡◌, ◌∙◌, refl, ℕ, Option, None, Some, drop, not, rules, tests}
use Rattle.std.specs.Option.{option_map}
use Rattle.std.proofs.lemmas.Iterator.Consumers.{YieldsList-from_first}
use Rattle.std.proofs.lemmas.Iterator.Search.{find_from_yields_List}
use Rattle.memchr.specs.Find.{is_byte2, places}
use Rattle.dot_codec.specs.Scan.{begins_with_crlf}
use Rattle.article_store.specs.Causes.{bad_place}
use Rattle.article_store.proofs.unsendable.bad_place.Goals as goal

same : (r : Option ℕ) → r ≡ option_map (λ x. x) r
same None = refl
same (Some at) = refl

pub returns : goal.returns
returns c =
    let text = c.args.text.now in
    let found : option_map (λ x. x) c.find.result ≡ bad_place text =
    find_from_yields_List (λ at. not (begins_with_crlf (drop at text))) _ _ c.find.result c.find.ensures.ran (YieldsList-from_first (λ x. x) (λ rest. rest) (places (is_byte2 0 13) text) c.memchr2_iter.ensures.value) (λ x b q k. search (rules, tests)) in
    same c.find.result ∙ found
