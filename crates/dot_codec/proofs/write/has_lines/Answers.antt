use Rattle.std.proofs.Common.{◌≡◌, drop, rules, tests}
use Rattle.std.specs.List.{list_all}
use Rattle.std.proofs.lemmas.Iterator.Consumers.{YieldsList-from_first}
use Rattle.std.proofs.lemmas.Iterator.Search.{all_from_yields_List}
use Rattle.memchr.specs.Find.{is_byte2, places}
use Rattle.dot_codec.specs.Scan.{begins_with_crlf}
use Rattle.dot_codec.proofs.Stops.{lines_by_stops}
use Rattle.dot_codec.proofs.write.has_lines.Goals as goal

pub returns : goal.returns
returns c =
    let text = c.args.text.now in
    let all : c.all.result ≡ list_all (λ at. begins_with_crlf (drop at text)) (places (is_byte2 0 13) text) =
    all_from_yields_List (λ at. begins_with_crlf (drop at text)) _ _ c.all.result c.all.ensures.ran (YieldsList-from_first (λ x. x) (λ rest. rest) (places (is_byte2 0 13) text) c.memchr2_iter.ensures.value) (λ x b q k. search (rules, tests)) in
    lines_by_stops text c.all.result all
