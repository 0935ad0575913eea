use Rattle.std.proofs.Common.{◌≡◌, ℕ, List, ◌++◌, Option, subst}
use Rattle.std.specs.Prelude.{codes}
use Rattle.feed_conf.specs.ConfView.{conf_view}
use Rattle.conf_text.specs.ConfText.{path_text, period_text}
use Rattle.conf_text.proofs.Adding.{added}
use Rattle.conf_text.proofs.file.add_state.Goals as goal

pub returns : goal.returns
returns c =
    let outcome = conf_view c.args.conf.now in
    let old = c.args.out.now.items in
    let one = c.add_path.new.out.items in
    let two = c.add_path-2.new.out.items in
    let last = c.add_period.new.out.items in
    let json = path_text (codes "status-json") outcome.status_json in
    let metrics = path_text (codes "metrics-file") outcome.metrics_file in
    added old two last (json ++ metrics) (period_text outcome.status_period)
    (added old one two json metrics
    (subst (λ (p : Option (List ℕ)). one ≡ old ++ path_text (codes "status-json") p)
    c.status_json.ensures c.in_ok-add_path.ensures)
    (subst (λ (p : Option (List ℕ)). two ≡ one ++ path_text (codes "metrics-file") p)
    c.metrics_file.ensures c.in_ok-add_path-2.ensures))
    (subst (λ (period : ℕ). last ≡ two ++ period_text period)
    c.status_period.ensures c.in_ok-add_period.ensures)
