use Rattle.std.proofs.Common.{Bor, ℕ, List, sym, ap, ◌∙◌}
use Rattle.std.specs.Prelude.{option_map}
use Rattle.std.proofs.lemmas.Result.{on_ok_weaker}
use Rattle.owed_list.specs.Names.{names_in}
use Rattle.owed_list.proofs.Files.{none_added, one_added}
use Rattle.owed_list.proofs.Sets.{found, unfound}
use Rattle.owed_list.proofs.strangers.add_stranger.Goals as goal

pub returns-then-contains : goal.returns-then-contains
returns-then-contains c =
    let name = c.in-Some.name.now in
    let known = c.args.known.now in
    let of = sym c.peer_of.ensures ∙ ap (option_map (λ (n : Bor (List ℕ)). n.now)) c.in-Some.is in
    none_added (names_in known) (names_in c.args.names.now) c.args.file.now name of
    (found name known.keys (sym c.contains.ensures ∙ c.if-contains.true))

pub returns : goal.returns
returns c =
    let name = c.in-Some.name.now in
    let known = c.args.known.now in
    let of = sym c.peer_of.ensures ∙ ap (option_map (λ (n : Bor (List ℕ)). n.now)) c.in-Some.is in
    on_ok_weaker c.add_name.result
    (one_added (names_in known) (names_in c.args.names.now) (names_in c.add_name.new.names) c.args.file.now name
    of (unfound name known.keys (sym c.contains.ensures ∙ c.if-contains.false)))
    c.add_name.ensures
