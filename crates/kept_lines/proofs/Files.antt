-- A write at the end of a disk.
use Rattle.std.proofs.Common.{◌≡◌, ◌+◌, ◌++◌, ℕ, List, [], length, take, drop, refl, sym, ◌∙◌, ap, subst, arith}
use Rattle.std.specs.Prelude.{min, Result, Ok, Err}
use Rattle.std.proofs.lemmas.List.{append-nil, append_assoc, drop_all, take_all}
use Rattle.std.proofs.Math.Seq.{take-append_seam}
use Rattle.disk_model.specs.Disk.{Event, Torn, Writes, IsOnly, Leaves, content, overwritten}
use Rattle.disk_model.specs.Disk.Leaves.{at_start}
use Rattle.disk_model.specs.MomentLaws.{Leaves-write_only}
use Rattle.disk_model.specs.declared.DiskFault.{DiskFault}
use Rattle.kept_lines.specs.Kept.{BeginsWith}

pub written_end : (all octets : List ℕ) → overwritten all (length all) octets ≡ all ++ octets
written_end all octets =
    ap (λ (l : List ℕ). l ++ octets ++ drop (length all + length octets) all) (take_all (length all) all (omega arith))
    ∙ (ap (λ (l : List ℕ). all ++ octets ++ l) (drop_all (length all + length octets) all (omega arith))
    ∙ append-nil (all ++ octets))

begins_torn : (all new : List ℕ) (n : ℕ) → Torn (length all) n all new → BeginsWith all new
begins_torn all new n torn =
    let low : min (length all) (length all) ≡ length all = omega arith in
    ap (λ (k : ℕ). take k new) (sym low) ∙ (torn.before ∙ take_all (length all) all (omega arith))

pub begins_same : (all : List ℕ) → BeginsWith all all
begins_same all = take_all (length all) all (omega arith)

-- no call leaves what was there
pub kept_by_nothing : (log : List Event) → IsOnly log (content log) → Leaves (BeginsWith (content log)) log log
kept_by_nothing log only =
    at_start (λ d is. subst (BeginsWith (content log)) (sym (only.images d is)) (begins_same (content log)))

-- a write at the end, whatever it returned, leaves what was there
pub kept_by_write : (old new : List Event) (octets : List ℕ) (at : ℕ) (result : Result (Unit {0}) DiskFault)
    → at ≡ length (content old) → IsOnly old (content old) → Writes at octets old result new
    → Leaves (BeginsWith (content old)) old new
kept_by_write old new octets at result end only rule =
    let P = BeginsWith (content old) in
    let start : Leaves P old old = at_start (λ d is. subst P (sym (only.images d is)) (begins_same (content old))) in
    let placed : Writes (length (content old)) octets old result new =
    subst (λ (k : ℕ). Writes k octets old result new) end rule in
    Leaves-write_only P old old new (content old) (length (content old)) octets result only start placed
    (λ d torn. begins_torn (content old) d (length octets) torn)

pub begins_append : (all octets : List ℕ) → BeginsWith all (all ++ octets)
begins_append all octets = take-append_seam all octets
