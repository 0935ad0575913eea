use Rattle.std.proofs.Common.{◌≡◌, ℕ, List, ◌++◌, subst}
use Rattle.std.specs.Prelude.{codes, decimal}
use Rattle.feed_conf.specs.ConfView.{conf_view}
use Rattle.conf_text.specs.ConfText.{line, outside, text_value}
use Rattle.conf_text.proofs.Adding.{added}
use Rattle.conf_text.proofs.file.add_file.Goals as goal

pub returns : goal.returns
returns c =
    let outcome = conf_view c.args.conf.now in
    let old = c.args.out.now.items in
    let one = c.add_text.new.out.items in
    let two = c.add_text-2.new.out.items in
    let three = c.add_text-3.new.out.items in
    let last = c.add_number.new.out.items in
    let spool = line outside (codes "news-spool") (text_value outcome.news_spool) in
    let directory = line outside (codes "backlog-directory") (text_value outcome.backlog_directory) in
    let status = line outside (codes "status-file") (text_value outcome.status_file) in
    let limit = line outside (codes "unknown-limit") (decimal outcome.unknown_limit) in
    added old three last (spool ++ directory ++ status) limit
    (added old two three (spool ++ directory) status
    (added old one two spool directory
    (subst (λ (t : List ℕ). one ≡ old ++ line outside (codes "news-spool") (text_value t))
    c.news_spool.ensures c.in_ok-add_text.ensures)
    (subst (λ (t : List ℕ). two ≡ one ++ line outside (codes "backlog-directory") (text_value t))
    c.backlog_directory.ensures c.in_ok-add_text-2.ensures))
    (subst (λ (t : List ℕ). three ≡ two ++ line outside (codes "status-file") (text_value t))
    c.status_file.ensures c.in_ok-add_text-3.ensures))
    (subst (λ (n : ℕ). last ≡ three ++ line outside (codes "unknown-limit") (decimal n))
    c.unknown_limit.ensures c.in_ok-add_number.ensures)
