use Rattle.std.proofs.Common.{◌≡◌, ◌++◌, ℕ, List, length, ap, sym, ◌∙◌, subst}
use Rattle.disk_model.specs.Disk.{content, Leaves, overwritten}
use Rattle.disk_model.specs.MomentLaws.{IsOnly-sync, Leaves-sync}
use Rattle.kept_lines.specs.Kept.{BeginsWith}
use Rattle.kept_lines.proofs.Files.{begins_append, kept_by_write, written_end}
use Rattle.kept_lines.proofs.kept_file.add_synced.Goals as goal

pub returns-in_err-write_at-clause-moments : goal.returns-in_err-write_at-clause-moments
returns-in_err-write_at-clause-moments g c honest only =
    kept_by_write (g.D.Disk.log c.args.disk.now) (g.D.Disk.log c.write_at.new.self) c.args.octets.now
    c.len-end.result c.write_at.result (c.len-end.ensures.content honest) only (c.write_at.ensures.log honest)

pub returns-clause-ok : goal.returns-clause-ok
returns-clause-ok g c honest only =
    let old = g.D.Disk.log c.args.disk.now in
    let mid = g.D.Disk.log c.write_at.new.self in
    let whole : content mid ≡ content old ++ c.args.octets.now =
    ap content (c.in_ok-write_at.ensures.log honest)
    ∙ (ap (λ (k : ℕ). overwritten (content old) k c.args.octets.now)
    (c.len-end.ensures.content honest) ∙ written_end (content old) c.args.octets.now) in
    IsOnly-sync mid (g.D.Disk.log c.sync.new.self) (content old ++ c.args.octets.now) c.sync.result
    (c.sync.ensures.log (c.write_at.ensures.honest.0 honest)) whole

pub returns-clause-moments : goal.returns-clause-moments
returns-clause-moments g c honest only =
    let old = g.D.Disk.log c.args.disk.now in
    let mid = g.D.Disk.log c.write_at.new.self in
    let P = BeginsWith (content old) in
    let end : c.len-end.result ≡ length (content old) = c.len-end.ensures.content honest in
    let wrote : Leaves P old mid = kept_by_write old mid c.args.octets.now c.len-end.result c.write_at.result end
    only (c.write_at.ensures.log honest) in
    let whole : content mid ≡ content old ++ c.args.octets.now =
    ap content (c.in_ok-write_at.ensures.log honest)
    ∙ (ap (λ (k : ℕ). overwritten (content old) k c.args.octets.now) end ∙ written_end (content old)
    c.args.octets.now) in
    Leaves-sync P old mid (g.D.Disk.log c.sync.new.self) c.sync.result wrote
    (c.sync.ensures.log (c.write_at.ensures.honest.0 honest))
    (subst P (sym whole) (begins_append (content old) c.args.octets.now))
