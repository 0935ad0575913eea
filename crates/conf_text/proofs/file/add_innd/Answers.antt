use Rattle.std.proofs.Common.{◌≡◌, ℕ, List, ◌++◌, Bool, Option, subst}
use Rattle.std.specs.Prelude.{codes}
use Rattle.feed_conf.specs.ConfView.{conf_view}
use Rattle.conf_text.specs.ConfText.{path_text, sync_text}
use Rattle.conf_text.proofs.Adding.{added}
use Rattle.conf_text.proofs.file.add_innd.Goals as goal

pub returns : goal.returns
returns c =
    let outcome = conf_view c.args.conf.now in
    let old = c.args.out.now.items in
    let one = c.add_path.new.out.items in
    let two = c.add_path-2.new.out.items in
    let last = c.add_sync.new.out.items in
    let spool = path_text (codes "innd-spool") outcome.innd_spool in
    let cycbuffs = path_text (codes "innd-cycbuffs") outcome.innd_cycbuffs in
    added old two last (spool ++ cycbuffs) (sync_text outcome.sync_spool)
    (added old one two spool cycbuffs
    (subst (λ (p : Option (List ℕ)). one ≡ old ++ path_text (codes "innd-spool") p)
    c.innd_spool.ensures c.in_ok-add_path.ensures)
    (subst (λ (p : Option (List ℕ)). two ≡ one ++ path_text (codes "innd-cycbuffs") p)
    c.innd_cycbuffs.ensures c.in_ok-add_path-2.ensures))
    (subst (λ (on : Bool). last ≡ two ++ sync_text on)
    c.sync_spool.ensures c.in_ok-add_sync.ensures)
