-- The rank of the name among the peers, the good lines of the text, and what is reported.
use Rattle.std.proofs.Common.{◌≡◌, ℕ, List, map, refl, sym, ◌∙◌, subst, inl, inr}
use Rattle.world_core.specs.Imports.{HasGood}
use Rattle.world_core.specs.Importing.{good_of}
use Rattle.world_core.specs.declared.imports.BacklogLine.{BacklogLine}
use Rattle.world_core.specs.declared.step.Step.TheVariants.{Import}
use Rattle.world_core.proofs.ImportCalls.{import_failed, import_not_closed, import_took}
use Rattle.world_core.proofs.Results.{if_err, if_err_is}
use Rattle.world_core.proofs.TapeSteps.{barred_by, pushed, rank_same}
use Rattle.world_core.proofs.stations.Stations.import.Goals as goal

has_good : (text file : List ℕ) (lines read : List BacklogLine) → file ≡ text → lines ≡ read
    → HasGood text (map good_of read) → HasGood file (map good_of lines)
has_good text file lines read is same has =
    subst (λ (t : List ℕ). HasGood t (map good_of lines)) (sym is)
    (subst (λ (l : List BacklogLine). HasGood text (map good_of l)) (sym same) has)

pub returns-in_default-clause-err : goal.returns-in_default-clause-err
returns-in_default-clause-err g c = λ past file is stands.
    barred_by (Import c.args.name.now file) past _ c.args.self.now
    (inl (refl, rank_same c.args.name.now past c.args.self.now stands ∙ sym c.rank_of.ensures ∙ c.in_default.is)) stands

pub returns-in_err-outputs-clause-err : goal.returns-in_err-outputs-clause-err
returns-in_err-outputs-clause-err g c = λ past file is stands.
    if_err c.from_residual.result _ _ c.from_residual.ensures.1
    (λ fault memory. barred_by (Import c.args.name.now file) past fault c.args.self.now
    (inr (
      memory,
      (
        c.in-Some.rank,
        rank_same c.args.name.now past c.args.self.now stands ∙ sym c.rank_of.ensures ∙ c.in-Some.is,
      ),
    )) stands)

pub returns-in_err-name-clause-err : goal.returns-in_err-name-clause-err
returns-in_err-name-clause-err g c = λ past file is stands.
    if_err c.from_residual-in_err-name.result _ _ c.from_residual-in_err-name.ensures.1
    (λ fault memory. barred_by (Import c.args.name.now file) past fault c.args.self.now
    (inr (
      memory,
      (
        c.in-Some.rank,
        rank_same c.args.name.now past c.args.self.now stands ∙ sym c.rank_of.ensures ∙ c.in-Some.is,
      ),
    )) stands)

pub returns-in_err-lines-clause-err : goal.returns-in_err-lines-clause-err
returns-in_err-lines-clause-err g c = λ past file is stands.
    if_err c.from_residual-in_err-lines.result _ _ c.from_residual-in_err-lines.ensures.1
    (λ fault memory. barred_by (Import c.args.name.now file) past fault c.args.self.now
    (inr (
      memory,
      (
        c.in-Some.rank,
        rank_same c.args.name.now past c.args.self.now stands ∙ sym c.rank_of.ensures ∙ c.in-Some.is,
      ),
    )) stands)

pub returns-in_err-count-clause-err : goal.returns-in_err-count-clause-err
returns-in_err-count-clause-err g c = λ past file is stands.
    if_err_is c.from_residual-in_err-count.result _ _ c.from_residual-in_err-count.ensures.1
    (import_failed c.args.name.now file past c.in-Some.rank
    (rank_same c.args.name.now past c.args.self.now stands ∙ sym c.rank_of.ensures ∙ c.in-Some.is)
    (map good_of c.deref.result.now) (has_good c.args.text.now file.items _ _ is c.deref.ensures.value
    c.in_ok-lines.ensures)
    c.args.self.now stands _ c.import_each.new.self c.in_err-count.ensures.err)

pub returns-in_err-source-clause-err : goal.returns-in_err-source-clause-err
returns-in_err-source-clause-err g c = λ past file is stands.
    if_err_is c.from_residual-in_err-source.result _ _ c.from_residual-in_err-source.ensures.1
    (import_not_closed c.args.name.now file past c.in-Some.rank
    (rank_same c.args.name.now past c.args.self.now stands ∙ sym c.rank_of.ensures ∙ c.in-Some.is)
    (map good_of c.deref.result.now) (has_good c.args.text.now file.items _ _ is c.deref.ensures.value
    c.in_ok-lines.ensures)
    c.args.self.now stands c.in_ok-count.count c.import_each.new.self c.close_all.new.self c.in_ok-count.ensures.ok _
    c.in_err-source.ensures.err)

pub returns-clause-ok : goal.returns-clause-ok
returns-clause-ok g c = λ past file is stands.
    import_took c.args.name.now file past c.in-Some.rank
    (rank_same c.args.name.now past c.args.self.now stands ∙ sym c.rank_of.ensures ∙ c.in-Some.is)
    (map good_of c.deref.result.now) (has_good c.args.text.now file.items _ _ is c.deref.ensures.value
    c.in_ok-lines.ensures)
    c.args.self.now stands c.in_ok-count.count c.import_each.new.self c.close_all.new.self c.in_ok-count.ensures.ok
    _ c.in_ok-source.source _ c.in_ok-name.ensures.cases
    (pushed _ _ _ c.push_reserved.ensures.items c.in_ok-outputs.ensures.items) c.in_ok-source.ensures.ok
