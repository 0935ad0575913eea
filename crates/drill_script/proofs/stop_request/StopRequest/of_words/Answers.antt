-- Neither three words nor four.
use Rattle.std.proofs.Common.{◌≡◌, map, length, arith}
use Rattle.std.proofs.lemmas.List.{length-map}
use Rattle.drill_script.proofs.Armed.{none_armed}
use Rattle.drill_script.proofs.stop_request.StopRequest.of_words.Goals as goal

pub returns-in_default : goal.returns-in_default
returns-in_default c =
    let words = map (λ word. word.now) c.args.words.now in
    let long = length-map c.args.words.now (λ word. word.now) in
    none_armed words (λ (three : length words ≡ 3). grind arith) (λ (four : length words ≡ 4). grind arith)
