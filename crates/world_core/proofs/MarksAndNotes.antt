-- Lemmas about lists, marks, and what is acknowledged.
use Rattle.std.proofs.Common.{◌≡◌, ℕ, zero, suc, ◌<◌, ◌≤◌, ◌^◌, Some, List, [], ◌∷◌, ◌++◌, length, get_or}
use Rattle.std.proofs.Common.{take, drop, map, refl, sym, ap, ◌∙◌, subst, arith}
use Rattle.std.proofs.Math.ListN.{set}
use Rattle.std.specs.List.{AllByRecursion, AllZip, slice_get}
use Rattle.std.proofs.Math.Seq.{drop-length}
use Rattle.ledger_core.specs.declared.note.Note.{Note}
use Rattle.ledger_core.specs.declared.note.Note.TheVariants.{Owe, Final, Drop, Seen, Closed}
use Rattle.recovery.specs.Image.{Octets, Survives}
use Rattle.recovery.specs.Leaving.{HasLedger, mark_of, pending_notes}
use Rattle.recovery.specs.LeavingLaws.{prefix_of_survives}
use Rattle.recovery.specs.Notes.{AreLegal, History, flushed, noted}
use Rattle.sections.specs.ListLaws.{all_push}
use Rattle.sections.specs.TapeLaws.{keeps_lines as lines_kept, pends_less}
use Rattle.sections.specs.Tapes.{IsAbove}
use Rattle.world_core.specs.Past.{PeerPast}
use Rattle.world_core.specs.Safe.{HasAcknowledged, KeepsLines}

-- ---- lists of two kinds, rank by rank

module _ {A B : Type 0} (R : A → B → Type 0) where
  pub zip_set : (xs : List A) (ys : List B) (i : ℕ) (x : A) (y : B) → AllZip R xs ys → R x y
      → AllZip R (set xs i x) (set ys i y)
  zip_set [] [] i x y all one = tt
  zip_set [] (z ∷ ys) i x y all one = absurd all
  zip_set (z ∷ xs) [] i x y all one = absurd all
  zip_set (a ∷ xs) (b ∷ ys) zero x y all one = (one, all.1)
  zip_set (a ∷ xs) (b ∷ ys) (suc i) x y all one = (all.0, zip_set xs ys i x y all.1 one)

  -- the element of the other list at the same rank
  pub zip_at : (xs : List A) (ys : List B) (i : ℕ) (d : B) → AllZip R xs ys → i < length ys
      → (x : A) × (slice_get xs i ≡ Some x) × R x (get_or ys i d)
  zip_at [] [] i d all within = absurd (omega arith)
  zip_at [] (z ∷ ys) i d all within = absurd all
  zip_at (z ∷ xs) [] i d all within = absurd all
  zip_at (a ∷ xs) (b ∷ ys) zero d all within = (a, refl, all.0)
  zip_at (a ∷ xs) (b ∷ ys) (suc i) d all within = zip_at xs ys i d all.1 (omega arith)

-- ---- all of a list

module _ {A : Type 0} (P : A → Type 0) where
  pub prefix_all : (xs ys : List A) → AllByRecursion P (xs ++ ys) → AllByRecursion P xs
  prefix_all [] ys all = tt
  prefix_all (x ∷ xs) ys all = (all.0, prefix_all xs ys all.1)

  pub last_all : (xs : List A) (y : A) → AllByRecursion P (xs ++ y ∷ []) → P y
  last_all [] y all = all.0
  last_all (x ∷ xs) y all = last_all xs y all.1

  pub first_all : (n : ℕ) (xs : List A) → AllByRecursion P xs → AllByRecursion P (take n xs)
  first_all zero xs all = tt
  first_all (suc n) [] all = tt
  first_all (suc n) (x ∷ xs) all = (all.0, first_all n xs all.1)

-- a view of each element stays if it stays for the one replaced
pub map_set : {A B : Type 0} (f : A → B) (xs : List A) (i : ℕ) (x y : A) → slice_get xs i ≡ Some x → f y ≡ f x
    → map f (set xs i y) ≡ map f xs
map_set f [] i x y here same = refl
map_set f (a ∷ xs) zero x y here same =
    let is : a ≡ x = cc in
    ap (λ b. b ∷ map f xs) (same ∙ ap f (sym is))
map_set f (a ∷ xs) (suc i) x y here same = ap (λ l. f a ∷ l) (map_set f xs i x y here same)

-- ---- what is acknowledged

-- no line of the funnel made the note, and it leaves the mark of lines as it is
abbrev pub IsNoLine : Note → Type 0
IsNoLine (Owe key token id) = 2 ^ 64 ≤ key
IsNoLine (Final key code) = Unit {0}
IsNoLine (Drop key cause) = Unit {0}
IsNoLine (Seen number) = ⊥
IsNoLine (Closed source) = Unit {0}

pub acknowledged_less : (low high : ℕ) → low ≤ high → (peer : PeerPast) → HasAcknowledged high peer
    → HasAcknowledged low peer
acknowledged_less low high less peer has = pends_less low high less peer.tape.history has

pub drop_push : {A : Type 0} (k : ℕ) (xs : List A) (x : A) → k ≤ length xs → drop k (xs ++ x ∷ []) ≡ drop k xs ++ x ∷ []
drop_push zero xs x le = refl
drop_push (suc k) [] x le = absurd (omega arith)
drop_push (suc k) (a ∷ xs) x le = drop_push k xs x (omega arith)

-- one more note pends
pub above_noted : (mark : ℕ) (h : History) (note : Note) → h.kept ≤ length h.notes
    → AllByRecursion (IsAbove mark) (pending_notes h)
    → IsAbove mark note → AllByRecursion (IsAbove mark) (pending_notes (noted h note))
above_noted mark h note within all one =
    subst (AllByRecursion (IsAbove mark)) (sym (drop_push h.kept h.notes note within))
    (all_push (IsAbove mark) (pending_notes h) note all one)

-- a note that no line made pends, too
pub above_more : (mark : ℕ) (h : History) (note : Note) → AllByRecursion (IsAbove mark) (pending_notes h)
    → IsAbove mark note → AllByRecursion (IsAbove mark) (pending_notes (noted h note))
above_more mark h note all one = by h.kept h.notes all
  where
    by : (kept : ℕ) (notes : List Note) → AllByRecursion (IsAbove mark) (drop kept notes)
        → AllByRecursion (IsAbove mark) (drop kept (notes ++ note ∷ []))
    by zero notes all = all_push (IsAbove mark) notes note all one
    by (suc zero) [] all = tt
    by (suc (suc kept)) [] all = tt
    by (suc kept) (first ∷ notes) all = by kept notes all

-- none pends
pub above_flushed : (mark : ℕ) (h : History) → AllByRecursion (IsAbove mark) (pending_notes (flushed h))
above_flushed mark h = subst (AllByRecursion (IsAbove mark)) (sym (drop-length h.notes)) tt

-- whatever survives of the intake's notes keeps the lines, if all lines up to the intake's mark are acknowledged
pub keeps_lines : (intake : History) (peers : List PeerPast) (octets : Octets) → AreLegal intake.base intake.notes
    → AllByRecursion (HasAcknowledged (mark_of intake)) peers → Survives intake octets
    → HasLedger (KeepsLines intake peers) octets
keeps_lines intake peers octets legal has survives =
    let found = prefix_of_survives intake octets survives in
    (found.0, found.1, lines_kept (λ (peer : PeerPast). peer.tape.history) intake peers found.0 legal.legal has found.2)
