-- A tape owns the notes that its pass took.
use Rattle.std.proofs.Common.{◌≡◌, ℕ, zero, suc, ◌+◌, ◌-◌, ◌^◌, ◌≤◌, List, [], ◌∷◌, ◌++◌, Option, Some, None, length}
use Rattle.std.proofs.Common.{take, min, refl, sym, ap, ◌∙◌, subst, append_assoc, length-append, length-drop, arith}
use Rattle.std.specs.Prelude.{Result, Ok, Err, OnOk, OnErr, ◌↔◌}
use Rattle.std.proofs.Math.Logic.{∥∥₁_elim, ∥∥₁_map}
use Rattle.std.proofs.Props.{props}
use Rattle.disk_model.specs.declared.Disk.{Ghosts}
use Rattle.ledger_core.specs.declared.note.Note.{Note}
use Rattle.ledger_core.specs.State.{State, step, after}
use Rattle.ledger_core.specs.StateLaws.{after-append}
use Rattle.recovery.specs.DiskLaws.{honest-along, log-read}
use Rattle.recovery.specs.Image.{Survives, TapeLeaves}
use Rattle.recovery.specs.Leaving.{EachLedger, HasLedger, IsPrefix, LedgersLeave}
use Rattle.recovery.specs.LeavingLaws.{TapeLeaves-weaker, LedgersLeave-weaker, EachLedger-weaker, prefix_of_survives}
use Rattle.recovery.specs.Notes.{History, noted, noted_all, flushed}
use Rattle.recovery.specs.Pairs.{at_start}
use Rattle.recovery.specs.Tape.{StandsFor, IsRead}
use Rattle.recovery.specs.TapeLaws.{logs_of_disks}
use Rattle.recovery.specs.Words.{AreHonest, IsBroken, disks_of, flushed_of, ledger_of, log_of, pending_of}
use Rattle.recovery.specs.declared.tape.Tape.{Tape}
use Rattle.note_queue.specs.Owns.{AreAllOnDisks, IsFirst, IsKept, IsOwner, LeavesFirst, Owns}
use Rattle.note_queue.specs.Owns.{acknowledged_since, kept_list, put_on}
use Rattle.note_queue.specs.OwnsLaws.{all_on_disks}

-- ---- lists

pub append_none : (xs : List Note) → xs ++ [] ≡ xs
append_none [] = refl
append_none (x ∷ xs) = ap (λ l. x ∷ l) (append_none xs)

take_past : (xs ys : List Note) (k : ℕ) → take (length xs + k) (xs ++ ys) ≡ xs ++ take k ys
take_past [] ys k = let e : 0 + k ≡ k = omega arith in ap (λ (n : ℕ). take n ys) e
take_past (x ∷ xs) ys k =
    let e : suc (length xs) + k ≡ suc (length xs + k) = omega arith in
    ap (λ (n : ℕ). take n (x ∷ (xs ++ ys))) e ∙ ap (λ (l : List Note). x ∷ l) (take_past xs ys k)

take_all : (xs ys : List Note) → take (length xs) (xs ++ ys) ≡ xs
take_all [] ys = refl
take_all (x ∷ xs) ys = ap (λ l. x ∷ l) (take_all xs ys)

take_within : (xs ys : List Note) (n : ℕ) → n ≤ length xs → take n (xs ++ ys) ≡ take n xs
take_within xs ys zero le = refl
take_within [] ys (suc n) le = absurd (omega (arith, le))
take_within (x ∷ xs) ys (suc n) le = ap (λ l. x ∷ l) (take_within xs ys n (omega (arith, le)))

less_one : (xs : List Note) (x : Note) → length (xs ++ x ∷ []) - 1 ≡ length xs
less_one xs x = let e : length (xs ++ x ∷ []) ≡ length xs + 1 = length-append xs (x ∷ []) in omega (arith, e)

-- ---- the kept note

-- what is on the tape is all but the last
pub but_last : (xs : List Note) (x : Note) → put_on (xs ++ x ∷ []) (Some x) ≡ xs
but_last xs x = ap (λ n. take n (xs ++ x ∷ [])) (less_one xs x) ∙ take_all xs (x ∷ [])

-- which is kept
pub kept_last : (xs : List Note) (x : Note) → xs ++ x ∷ [] ≡ put_on (xs ++ x ∷ []) (Some x) ++ kept_list (Some x)
kept_last xs x = sym (ap (λ l. l ++ x ∷ []) (but_last xs x))

-- no note is kept: all is on the tape
pub kept_none : (xs : List Note) → xs ≡ put_on xs None ++ kept_list None
kept_none xs = sym (append_none xs)

-- the note that was kept is the last
pub kept_first : (got : List Note) (kept : Option Note) (note : Note) → kept ≡ Some note
    → got ≡ put_on got kept ++ kept_list kept → put_on got kept ++ note ∷ [] ≡ got
kept_first got kept note some last = ap (λ k. put_on got kept ++ kept_list k) (sym some) ∙ sym last

-- the ledger, with one note more
pub stepped : (base old new : State) (notes : List Note) (note : Note) → new ≡ step old note → old ≡ after base notes
    → new ≡ after base (notes ++ note ∷ [])
stepped base old new notes note s is = s ∙ ap (λ x. step x note) is ∙ sym (after-append base notes (note ∷ []))

-- ---- counts

-- what the tape counts beyond the split, of the notes that it acknowledged since: all of them, up to the greatest count
counted_within : (opened before kept count since counted most : ℕ) → opened ≤ before → before ≤ kept → kept ≤ count
    → since ≡ min (before - opened) most → counted ≡ min (kept - opened) most → counted - since ≤ count - before
counted_within opened before kept count since counted most o b k s c = omega (arith, o, b, k, s, c)

-- all are acknowledged: the count is that of the split and then one for each note since
counted_all : (opened before notes since counted most : ℕ) → opened ≤ before
    → since ≡ min (before - opened) most → counted ≡ min (before + notes - opened) most
    → counted ≡ min (since + notes) most
counted_all opened before notes since counted most o s c = omega (arith, o, s, c)

-- the count rises with what is acknowledged
counted_rises : (opened kept all old new most : ℕ) → kept ≤ all → old ≡ min (kept - opened) most
    → new ≡ min (all - opened) most → old ≤ new
counted_rises opened kept all old new most k o n = omega (arith, k, o, n)

-- ---- prefixes

-- a front of the history, with all that is acknowledged, is the ledger of the split with the first of the notes, and
-- with as many of them as the tape has counted since
first_of_front : {D : Type 0} {g : Ghosts D} (tape : Tape D g) (base : State) (since : ℕ) (notes : List Note)
    (o : Owns tape base since notes) (state : State) → IsPrefix o.h state
    → IsFirst base (acknowledged_since since tape) notes state
first_of_front tape base since notes o state front =
    let k : ℕ = front.count - length o.before in
    let some : length o.before ≤ front.count = omega (arith, o.enough, front.enough) in
    let count : front.count ≡ length o.before + k = omega (arith, some) in
    let whole : length o.h.notes ≡ length o.before + length notes =
    ap length o.notes_are ∙ length-append o.before notes in (
      k,
      counted_within o.h.opened (length o.before) o.h.kept front.count since (flushed_of tape) (2 ^ 64 - 1) o.opened
          o.enough front.enough o.since_is o.stands.count,
      omega (arith, count, whole, front.within),
      front.is
          ∙ ap (λ (n : ℕ). after o.h.base (take n o.h.notes)) count
          ∙ ap (λ (l : List Note). after o.h.base (take (length o.before + k) l)) o.notes_are
          ∙ ap (λ (l : List Note). after o.h.base l) (take_past o.before notes k)
          ∙ after-append o.h.base o.before (take k notes)
          ∙ ap (λ (s : State). after s (take k notes)) o.base_is,
    )

-- the first of some notes are the first of more
more_first : (base : State) (least : ℕ) (notes more : List Note) (state : State) → IsFirst base least notes state
    → IsFirst base least (notes ++ more) state
more_first base least notes more state (k, enough, within, is) = (
  k,
  enough,
  omega (arith, within, length-append notes more),
  is ∙ ap (λ (l : List Note). after base l) (sym (take_within notes more k within)),
)

-- ---- owners

-- what a side knows of its tape: which note is kept, the ledger, and its owner
abbrev pub Keeps : {D : Type 0} {g : Ghosts D} → Tape D g → State → ℕ → List Note → Option Note → Type 0
Keeps tape base since got kept =
    (got ≡ put_on got kept ++ kept_list kept) × (ledger_of tape ≡ after base (put_on got kept))
    × ∥ IsOwner tape base since (put_on got kept) ∥₁

module _ {D : Type 0} {g : Ghosts D} where
  -- each image now is of the ledger after the first of the notes
  each_first : (tape : Tape D g) (base : State) (since : ℕ) (notes : List Note) → Owns tape base since notes
      → EachLedger (IsFirst base (acknowledged_since since tape) notes) (log_of tape)
  each_first tape base since notes o = λ one other is is'.
      let has = prefix_of_survives o.h (one, other) (o.stands.images one other is is') in
      (has.0, has.1, first_of_front tape base since notes o has.0 has.2)

  -- so at each moment of a call
  all_first : (old new : Tape D g) (base : State) (since : ℕ) (notes : List Note) (o : Owns old base since notes)
      → TapeLeaves (Survives o.h) (log_of old) (log_of new)
      → LedgersLeave (IsFirst base (acknowledged_since since old) notes) (log_of old) (log_of new)
  all_first old new base since notes o run =
      LedgersLeave-weaker (IsPrefix o.h) (IsFirst base (acknowledged_since since old) notes)
      (first_of_front old base since notes o) (log_of old) (log_of new)
      (TapeLeaves-weaker (Survives o.h) (HasLedger (IsPrefix o.h)) (prefix_of_survives o.h) (log_of old) (log_of new)
      run)

  takes : (old new : Tape D g) (base : State) (since : ℕ) (notes : List Note) (note : Note)
      → disks_of new ≡ disks_of old → ((h : History) → StandsFor old h → StandsFor new (noted h note))
      → IsOwner old base since notes → IsOwner new base since (notes ++ note ∷ [])
  takes old new base since notes note disks stands owner honest =
      let o = owner (honest-along new old disks honest) in
      record {
        h = noted o.h note;
        stands = stands o.h o.stands;
        before = o.before;
        notes_are = ap (λ l. l ++ note ∷ []) o.notes_are ∙ append_assoc o.before notes (note ∷ []);
        base_is = o.base_is;
        opened = o.opened;
        since_is = o.since_is;
        enough = o.enough;
      }

  -- the tape took a note
  pub owner_takes : (old new : Tape D g) (base : State) (since : ℕ) (notes : List Note) (note : Note)
      → disks_of new ≡ disks_of old → ((h : History) → StandsFor old h → StandsFor new (noted h note))
      → ∥ IsOwner old base since notes ∥₁ → ∥ IsOwner new base since (notes ++ note ∷ []) ∥₁
  owner_takes old new base since notes note disks stands owner =
      ∥∥₁_map owner (takes old new base since notes note disks stands)

  stays : (old new : Tape D g) (base : State) (since : ℕ) (notes : List Note) → (AreHonest new → AreHonest old)
      → ((h : History) → StandsFor old h → StandsFor new h) → IsOwner old base since notes
      → IsOwner new base since notes
  stays old new base since notes back stands owner honest =
      let o = owner (back honest) in
      record {
        h = o.h;
        stands = stands o.h o.stands;
        before = o.before;
        notes_are = o.notes_are;
        base_is = o.base_is;
        opened = o.opened;
        since_is = o.since_is;
        enough = o.enough;
      }

  -- the tape stands for the same histories
  pub owner_stays : (old new : Tape D g) (base : State) (since : ℕ) (notes : List Note)
      → (AreHonest new → AreHonest old) → ((h : History) → StandsFor old h → StandsFor new h)
      → ∥ IsOwner old base since notes ∥₁ → ∥ IsOwner new base since notes ∥₁
  owner_stays old new base since notes back stands owner = ∥∥₁_map owner (stays old new base since notes back stands)

  flushes : {A E : Type 0} (old new : Tape D g) (base : State) (since : ℕ) (notes : List Note) (result : Result A E)
      → (AreHonest old ↔ AreHonest new)
      → ((h : History) → StandsFor old h → OnOk result (StandsFor new (flushed h)))
      → ((h : History) → StandsFor old h → OnErr result (StandsFor new h)) → IsOwner old base since notes
      → IsOwner new base since notes
  flushes old new base since notes (Ok a) same ok err owner honest =
      let o = owner (same.1 honest) in
      let whole : length o.h.notes ≡ length o.before + length notes =
      ap length o.notes_are ∙ length-append o.before notes in
      record {
        h = flushed o.h;
        stands = ok o.h o.stands;
        before = o.before;
        notes_are = o.notes_are;
        base_is = o.base_is;
        opened = o.opened;
        since_is = o.since_is;
        enough = omega (arith, whole);
      }
  flushes old new base since notes (Err e) same ok err owner honest =
      stays old new base since notes same.1 err owner honest

  -- the tape was flushed or rotated
  pub owner_flushes : {A E : Type 0} (old new : Tape D g) (base : State) (since : ℕ) (notes : List Note)
      (result : Result A E) → (AreHonest old ↔ AreHonest new)
      → ((h : History) → StandsFor old h → OnOk result (StandsFor new (flushed h)))
      → ((h : History) → StandsFor old h → OnErr result (StandsFor new h)) → ∥ IsOwner old base since notes ∥₁
      → ∥ IsOwner new base since notes ∥₁
  owner_flushes old new base since notes result same ok err owner =
      ∥∥₁_map owner (flushes old new base since notes result same ok err)

  -- nothing pends: all is acknowledged
  all_kept : (tape : Tape D g) (h : History) → StandsFor tape h → (IsBroken tape → ⊥) → pending_of tape ≡ 0
      → h.kept ≡ length h.notes
  all_kept tape h stands works none =
      let working = stands.working works in
      omega (arith, working.pending_count, length-drop h.kept h.notes, none, stands.kept_within)

  begins : (tape : Tape D g) → (IsBroken tape → ⊥) → pending_of tape ≡ 0 → IsKept tape
      → IsOwner tape (ledger_of tape) (flushed_of tape) []
  begins tape works none kept honest =
      let k = kept honest in
      let all = all_kept tape k.0 k.1 works none in
      record {
        h = k.0;
        stands = k.1;
        before = k.0.notes;
        notes_are = sym (append_none k.0.notes);
        base_is = sym k.1.ledger;
        opened = omega (arith, all, k.1.opened);
        since_is = k.1.count ∙ ap (λ (n : ℕ). min (n - k.0.opened) (2 ^ 64 - 1)) all;
        enough = omega (arith, all);
      }

  -- a tape on which nothing pends owns no notes yet
  pub owner_begins : (tape : Tape D g) → (IsBroken tape → ⊥) → pending_of tape ≡ 0 → ∥ IsKept tape ∥₁
      → ∥ IsOwner tape (ledger_of tape) (flushed_of tape) [] ∥₁
  owner_begins tape works none kept = ∥∥₁_map kept (begins tape works none)

  -- ---- the count of what is acknowledged

  -- a call that calls no disk acknowledges nothing
  pub count_stays : (old new : Tape D g) (base : State) (since : ℕ) (notes more : List Note)
      → ((h : History) → StandsFor old h → StandsFor new (noted_all h more)) → ∥ IsOwner old base since notes ∥₁
      → AreHonest old → flushed_of new ≡ flushed_of old
  count_stays old new base since notes more stands owner honest =
      ∥∥₁_elim owner (hlevel props) (λ is. let o = is honest in (stands o.h o.stands).count ∙ sym o.stands.count)

  -- one that stands for the same histories, too
  pub count_still : (old new : Tape D g) (base : State) (since : ℕ) (notes : List Note)
      → ((h : History) → StandsFor old h → StandsFor new h) → ∥ IsOwner old base since notes ∥₁
      → AreHonest old → flushed_of old ≤ flushed_of new
  count_still old new base since notes stands owner honest =
      ∥∥₁_elim owner (hlevel props)
      (λ is. let o = is honest in let same : flushed_of new ≡ flushed_of old =
      (stands o.h o.stands).count ∙ sym o.stands.count in omega (arith, same))

  rises : {A E : Type 0} (old new : Tape D g) (h : History) (result : Result A E) → StandsFor old h
      → OnOk result (StandsFor new (flushed h)) → OnErr result (StandsFor new h) → flushed_of old ≤ flushed_of new
  rises old new h (Ok a) stands ok err =
      counted_rises h.opened h.kept (length h.notes) (flushed_of old) (flushed_of new) (2 ^ 64 - 1) stands.kept_within
      stands.count ok.count
  rises old new h (Err e) stands ok err =
      let same : flushed_of new ≡ flushed_of old = err.count ∙ sym stands.count in omega (arith, same)

  -- after a flush or a rotation, which may have failed, no fewer are acknowledged
  pub count_rises : {A E : Type 0} (old new : Tape D g) (base : State) (since : ℕ) (notes : List Note)
      (result : Result A E) → ((h : History) → StandsFor old h → OnOk result (StandsFor new (flushed h)))
      → ((h : History) → StandsFor old h → OnErr result (StandsFor new h)) → ∥ IsOwner old base since notes ∥₁
      → AreHonest old → flushed_of old ≤ flushed_of new
  count_rises old new base since notes result ok err owner honest =
      ∥∥₁_elim owner (hlevel props)
      (λ is. let o = is honest in rises old new o.h result o.stands (ok o.h o.stands) (err o.h o.stands))

  -- ---- all that was put on the tape is on the disks

  -- a tape that was flushed has all its notes on the disks
  pub whole_flushed : (old new : Tape D g) (base : State) (since : ℕ) (notes : List Note)
      → (AreHonest new → AreHonest old) → ((h : History) → StandsFor old h → StandsFor new (flushed h))
      → ∥ IsOwner old base since notes ∥₁ → AreAllOnDisks new
  whole_flushed old new base since notes back ok owner honest =
      ∥∥₁_map owner (λ is. let o = is (back honest) in all_on_disks new (flushed o.h) (ok o.h o.stands) refl)

  -- and counts them
  pub count_flushed : (old new : Tape D g) (base : State) (since : ℕ) (notes : List Note)
      → (AreHonest new → AreHonest old) → ((h : History) → StandsFor old h → StandsFor new (flushed h))
      → ∥ IsOwner old base since notes ∥₁ → AreHonest new
      → flushed_of new ≡ min (since + length notes) (2 ^ 64 - 1)
  count_flushed old new base since notes back ok owner honest =
      ∥∥₁_elim owner (hlevel props)
      (λ is. let o = is (back honest) in
      let whole : length o.h.notes ≡ length o.before + length notes =
      ap length o.notes_are ∙ length-append o.before notes in
      counted_all o.h.opened (length o.before) (length notes) since (flushed_of new) (2 ^ 64 - 1) o.opened o.since_is
      ((ok o.h o.stands).count ∙ ap (λ (n : ℕ). min (n - o.h.opened) (2 ^ 64 - 1)) whole))

  -- ---- what a stop leaves

  -- at each moment of a flush or a rotation
  leaves_first : (old new : Tape D g) (base : State) (since : ℕ) (notes more : List Note)
      → ((h : History) → StandsFor old h → TapeLeaves (Survives h) (log_of old) (log_of new))
      → ∥ IsOwner old base since notes ∥₁ → LeavesFirst base since (notes ++ more) old new
  leaves_first old new base since notes more moments owner honest =
      let least = acknowledged_since since old in
      ∥∥₁_map owner (λ is. let o = is honest in
      LedgersLeave-weaker (IsFirst base least notes) (IsFirst base least (notes ++ more))
      (more_first base least notes more) (log_of old) (log_of new)
      (all_first old new base since notes o (moments o.h o.stands)))

  -- a call that did not touch the disks
  still_first : (old new : Tape D g) (base : State) (since : ℕ) (notes more : List Note) → log_of new ≡ log_of old
      → (AreHonest old → AreHonest new) → (AreHonest old → flushed_of old ≤ flushed_of new)
      → ∥ IsOwner new base since notes ∥₁ → LeavesFirst base since (notes ++ more) old new
  still_first old new base since notes more log there count owner honest =
      let least = acknowledged_since since old in
      let least' = acknowledged_since since new in
      let fewer : least ≤ least' = omega (arith, count honest) in
      ∥∥₁_map owner (λ is. let o = is (there honest) in
      let each : EachLedger (IsFirst base least (notes ++ more)) (log_of new) =
      EachLedger-weaker (IsFirst base least' notes) (IsFirst base least (notes ++ more))
      (λ state first. more_first base least notes more state
      (first.0, omega (arith, fewer, first.1), first.2, first.3)) (log_of new)
      (each_first new base since notes o) in
      subst (λ l. LedgersLeave (IsFirst base least (notes ++ more)) l (log_of new)) log (at_start each))

  -- the call of a side that calls no disk
  pub pulled : (old new : Tape D g) (base : State) (since : ℕ) (got : List Note) (kept : Option Note)
      → disks_of new ≡ disks_of old → (AreHonest old → flushed_of new ≡ flushed_of old)
      → got ≡ put_on got kept ++ kept_list kept → ∥ IsOwner new base since (put_on got kept) ∥₁
      → LeavesFirst base since got old new
  pulled old new base since got kept disks count last owner =
      let log : log_of new ≡ log_of old =
      sym (logs_of_disks new (disks_of old) (sym disks)) ∙ logs_of_disks old (disks_of old) refl in
      subst (λ l. LeavesFirst base since l old new) (sym last)
      (still_first old new base since (put_on got kept) (kept_list kept) log (honest-along old new (sym disks))
      (λ honest. omega (arith, count honest)) owner)

  -- one that flushes or rotates
  pub called : (old new : Tape D g) (base : State) (since : ℕ) (got : List Note) (kept : Option Note)
      → ((h : History) → StandsFor old h → TapeLeaves (Survives h) (log_of old) (log_of new))
      → got ≡ put_on got kept ++ kept_list kept → ∥ IsOwner old base since (put_on got kept) ∥₁
      → LeavesFirst base since got old new
  called old new base since got kept moments last owner =
      subst (λ l. LeavesFirst base since l old new) (sym last)
      (leaves_first old new base since (put_on got kept) (kept_list kept) moments owner)

module _ {D : Type 0} {g : Ghosts D} where
  -- the tape was read, and nothing else
  pub looked : (old new : Tape D g) (base : State) (since : ℕ) (got : List Note) (kept : Option Note)
      → IsRead old new → got ≡ put_on got kept ++ kept_list kept → ∥ IsOwner old base since (put_on got kept) ∥₁
      → LeavesFirst base since got old new
  looked old new base since got kept reads last owner honest =
      subst (λ l. LeavesFirst base since l old new) (sym last)
      (still_first old new base since (put_on got kept) (kept_list kept) (log-read old new reads honest)
      reads.continues.honest.0 (count_still old new base since (put_on got kept) reads.stands owner)
      (owner_stays old new base since (put_on got kept) reads.continues.honest.1 reads.stands owner)) honest

-- ---- what a pass takes

pub more_none : (a : List Note) → (m : List Note) × (a ≡ a ++ m)
more_none a = ([], sym (append_none a))

-- ---- the joined passes

-- the tape's ledger, with the kept note and what the queue holds, is that of the split with all that was sent
pub folded : (side on base : State) (sent got items : List Note) (kept : Option Note) → on ≡ base → sent ≡ got ++ items
    → got ≡ put_on got kept ++ kept_list kept → side ≡ after base (put_on got kept)
    → after side (kept_list kept ++ items) ≡ after on sent
folded side on base sent got items kept same all last ledger =
    let put = put_on got kept in
    let k = kept_list kept in
    ap (λ (s : State). after s (k ++ items)) ledger
    ∙ sym (after-append base put (k ++ items))
    ∙ ap (after base) (sym (append_assoc put k items))
    ∙ ap (λ (l : List Note). after base (l ++ items)) (sym last)
    ∙ ap (after base) (sym all)
    ∙ ap (λ (s : State). after s sent) (sym same)

empty : (items : List Note) → length items ≡ 0 → items ≡ []
empty [] e = refl
empty (x ∷ xs) e = absurd (omega (arith, e))

-- the queue was empty: what was sent is what was got before and since
pub all_drained : (sent got before since items : List Note) → length items ≡ 0 → sent ≡ got ++ items
    → got ≡ before ++ since → sent ≡ before ++ since
all_drained sent got before since items none s g = s ∙ ap (λ l. got ++ l) (empty items none) ∙ append_none got ∙ g

-- every note that there was is popped
pub all_popped : (sent got before since items held : List Note) → sent ≡ before ++ held → length held ≡ length since
    → sent ≡ got ++ items → got ≡ before ++ since → sent ≡ before ++ since
all_popped sent got before since items held whole many s g =
    let a : length sent ≡ length before + length held = ap length whole ∙ length-append before held in
    let b : length sent ≡ length got + length items = ap length s ∙ length-append got items in
    let c : length got ≡ length before + length since = ap length g ∙ length-append before since in
    all_drained sent got before since items (omega (arith, a, b, c, many)) s g
