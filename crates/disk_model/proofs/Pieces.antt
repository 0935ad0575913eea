-- A transfer that goes on in pieces: a read, and a write that is given up in the middle.
use Rattle.std.proofs.Common.{◌≡◌, ℕ, ◌+◌, ◌-◌, ◌≤◌, zero, suc, List, ◌++◌, length, take, Result}
use Rattle.std.proofs.Common.{drop, slice_range, Err, refl, inl, inr, sym, ap, ◌∙◌, arith}
use Rattle.std.proofs.Common.{length-take, length-drop}
use Rattle.std.proofs.Math.Seq.{take-add}
use Rattle.std.proofs.lemmas.List.{drop-drop}
use Rattle.std.proofs.lemmas.Slice.{take-put_mid}
use borrow.Rule.Slice.PartMut.{put_mid}
use Rattle.std.proofs.lemmas.Bool.{cases_lt}
use Rattle.disk_model.specs.declared.DiskFault.{DiskFault}
use Rattle.disk_model.specs.declared.raw_file.RawFault.{RawFault}
use Rattle.disk_model.specs.Asks.{WentOn, Stops, Transfers}
use Rattle.disk_model.specs.Disk.{Event, Torn, Writes, content, overwritten}
use Rattle.disk_model.specs.RawFile.{IsRead, UnderWay, Advances}
use Rattle.disk_model.specs.TornLaws.{Torn-overwritten}

-- what a short write may leave, a longer one at the same place may leave
pub Torn-wider : (at n m : ℕ) (old new : List ℕ) → n ≤ m → Torn at n old new → Torn at m old new
Torn-wider at n m old new short torn =
    let split : at + m ≡ (at + n) + (m - n) = omega arith in
    let behind : (l : List ℕ) → drop (at + m) l ≡ drop (m - n) (drop (at + n) l) =
    λ (l : List ℕ). ap (λ (k : ℕ). drop k l) split ∙ sym (drop-drop (m - n) (at + n) l) in
    record {
      before = torn.before;
      after = behind new ∙ ap (λ (l : List ℕ). drop (m - n) l) torn.after ∙ sym (behind old);
      no_shorter = torn.no_shorter;
      no_longer = omega (arith, torn.no_longer);
    }

pub given_up : (at : ℕ) (octets : List ℕ) (done : ℕ) (before log : List Event) (fault : DiskFault)
    → done ≤ length octets → UnderWay at octets done before log → Writes at octets before (Err fault) log
given_up at octets zero before log fault within under_way = inl (under_way.begins refl)
given_up at octets (suc done) before log fault within under_way =
    let out = take (suc done) octets in
    let old = content before in
    let count : length out ≡ suc done = length-take (suc done) octets ∙ omega arith in
    let torn : Torn at (length octets) old (overwritten old at out) =
    Torn-wider at (length out) (length octets) old (overwritten old at out) (omega (arith, count))
    (Torn-overwritten old at out) in
    inr (inr (overwritten old at out, torn, under_way.goes_on (omega arith)))

-- and so it is where a call more moved nothing, or had moved the last
pub stopped : (at : ℕ) (octets : List ℕ) (done : ℕ) (before log : List Event) (fault : DiskFault)
    → done ≤ length octets → Advances at octets done before log → Writes at octets before (Err fault) log
stopped at octets done before log fault within advances =
    elim (cases_lt done (length octets)) [
      | inl less ↦ given_up at octets done before log fault within (advances.part less)
      | inr whole ↦ inr (inl (advances.whole (omega arith)))
    ]

-- two pieces of a range, the one behind the other
range_on : (octets : List ℕ) (at done count : ℕ) → slice_range octets at (at + (done + count))
    ≡ slice_range octets at (at + done) ++ slice_range octets (at + done) (at + done + count)
range_on octets at done count =
    let rest = drop at octets in
    let first = slice_range octets at (at + done) in
    let whole : at + (done + count) - at ≡ done + count = omega arith in
    let one : done ≡ at + done - at = omega arith in
    let other : count ≡ at + done + count - (at + done) = omega arith in
    ap (λ (k : ℕ). take k rest) whole
    ∙ (take-add done count rest
    ∙ (ap (λ (k : ℕ). take k rest ++ take count (drop done rest)) one
    ∙ (ap (λ (l : List ℕ). first ++ take count l) (drop-drop done at octets)
    ∙ ap (λ (k : ℕ). first ++ take k (drop (at + done) octets)) other)))

-- a read that goes on with so many octets
pub read_on : (octets : List ℕ) (at done count k : ℕ) (into part : List ℕ)
    → done + count ≤ length into → k ≡ count
    → length part ≡ length (take k (drop done into))
    → IsRead octets at done into
    → part ≡ slice_range octets (at + done) (at + done + length (take k (drop done into)))
    → IsRead octets at (done + count) (put_mid done k into part)
read_on octets at done count k into part within same long begun filled =
    let from = at + done in
    let first = slice_range octets at from in
    let rest : length (take k (drop done into)) ≡ count =
    length-take k (drop done into) ∙ omega (arith, length-drop done into) in
    let second : part ≡ slice_range octets from (from + count) =
    filled ∙ ap (λ (n : ℕ). slice_range octets from (from + n)) rest in
    take-put_mid done k into part (done + count) (omega (arith, long, rest)) (omega arith)
    ∙ (ap (λ (l : List ℕ). l ++ part) begun
    ∙ (ap (λ (l : List ℕ). first ++ l) second ∙ sym (range_on octets at done count)))

-- a transfer that goes no further is a fault
pub goes_no_further : {S : Type 0} {call : S → (done : ℕ) → Result ℕ RawFault → S → Type 0}
    {Ends : (done : ℕ) → S → S → Type 0} {total calls done : ℕ} {old between new : S} {fault : DiskFault}
    → WentOn call old calls done between → Stops call total calls done between new
    → Transfers call Ends total old (Err fault) new
goes_no_further {calls = calls} {done = done} {between = between} went stops = record {
  calls = calls;
  done = done;
  between = between;
  went = went;
  last = stops;
}
