-- The notes of a front that are not settled, and those of them that are not sent.
use Rattle.std.proofs.Common.{◌≡◌, ℕ, zero, suc, ◌+◌, ◌<◌, ◌≤◌, List, [], ◌∷◌, ◌++◌, length, drop, get_or, take}
use Rattle.std.proofs.Common.{inl, inr, sym, ap, ◌∙◌, subst, arith}
use Rattle.std.proofs.lemmas.Bool.{cases_lt, ltb-true}
use Rattle.std.proofs.lemmas.List.{drop-append-le, drop-drop, drop_all, drop_more, length-drop}
use Rattle.std.specs.Prelude.{IfSome, None, Option, Result, Ok, Err, OnErr, OnOk, Some, is_some, nat_lt}
use Rattle.ledger_core.specs.Shape.{Shape}
use Rattle.ledger_core.specs.declared.note.Cause.{Cause}
use Rattle.ledger_core.specs.declared.note.Note.{Note}
use Rattle.ledger_core.specs.declared.note.Note.TheVariants.{Drop}
use Rattle.recovery.specs.Notes.{drops}
use Rattle.peer_queue.specs.Outbox.{IsSameOutbox, Pends}
use Rattle.peer_queue.specs.Shapes.{AllFit, shape_after}
use Rattle.peer_queue.specs.declared.outbox.Outbox.{Outbox}

-- ---- more notes

-- come last among those that are not settled, and among those that are not sent
pub last_unsettled : (notes new more : List Note) (lying sent : ℕ) → new ≡ notes ++ more → lying + sent ≤ length notes
    → drop lying new ≡ drop lying notes ++ more
last_unsettled notes new more lying sent is within =
    ap (λ (l : List Note). drop lying l) is ∙ drop-append-le lying notes more (omega (arith, within))

pub last_unsent : (notes new more : List Note) (lying sent : ℕ) → new ≡ notes ++ more → lying + sent ≤ length notes
    → drop sent (drop lying new) ≡ drop sent (drop lying notes) ++ more
last_unsent notes new more lying sent is within =
    ap (λ (l : List Note). drop sent l) (last_unsettled notes new more lying sent is within)
    ∙ drop-append-le sent (drop lying notes) more (omega (arith, within, length-drop lying notes))

-- ---- the first that is not sent

pub first_unsent : (notes : List Note) (lying sent : ℕ) (note : Note) → lying + sent < length notes
    → note ≡ get_or notes (lying + sent) note
    → (rest : List Note) × (drop sent (drop lying notes) ≡ note ∷ rest)
first_unsent notes lying sent note inside is = (
  drop (lying + sent + 1) notes,
  drop-drop sent lying notes
      ∙ (drop_more notes (lying + sent) note inside ∙ ap (λ (n : Note). n ∷ drop (lying + sent + 1) notes) (sym is)),
)

-- what is looked up there
pub shown : {R : Type 0} (now : R → Note) (found : Option R) (notes : List Note) (lying sent : ℕ)
    → IfSome found (λ x. now x ≡ get_or notes (lying + sent) (now x))
    → is_some found ≡ nat_lt (lying + sent) (length notes)
    → IfSome found (λ x. (rest : List Note) × (drop sent (drop lying notes) ≡ now x ∷ rest))
shown now None notes lying sent at inside = tt
shown now (Some x) notes lying sent at inside =
    first_unsent notes lying sent (now x) (ltb-true (lying + sent) (length notes) (sym inside)) at

pub none_unsent : (notes : List Note) (lying sent : ℕ) → length notes ≤ lying + sent
    → (let none : List Note = [] in drop sent (drop lying notes) ≡ none)
none_unsent notes lying sent all = drop-drop sent lying notes ∙ drop_all (lying + sent) notes all

-- there is one
pub some_unsent : (notes : List Note) (lying sent : ℕ)
    → ((let none : List Note = [] in drop sent (drop lying notes) ≡ none) → ⊥) → lying + sent < length notes
some_unsent notes lying sent some = elim (cases_lt (lying + sent) (length notes)) [
  | inl inside ↦ inside
  | inr all ↦ absurd (some (none_unsent notes lying sent all))
]

next : (xs : List Note) (i : ℕ) (x : Note) (rest : List Note) → drop i xs ≡ x ∷ rest → drop (suc i) xs ≡ rest
next [] zero x rest e = cc
next [] (suc i) x rest e = cc
next (y ∷ ys) zero x rest e = cc
next (y ∷ ys) (suc i) x rest e = next ys i x rest e

pub sent_next : (xs : List Note) (i : ℕ) (x : Note) (rest : List Note) → drop i xs ≡ x ∷ rest → drop (i + 1) xs ≡ rest
sent_next xs i x rest e = let s : i + 1 ≡ suc i = omega arith in ap (λ (n : ℕ). drop n xs) s ∙ next xs i x rest e

-- ---- some are settled, and some let go

pub less_unsettled : (notes new : List Note) (lying lying' more beyond : ℕ) → new ≡ drop beyond notes
    → beyond + lying' ≡ lying + more → drop lying' new ≡ drop more (drop lying notes)
less_unsettled notes new lying lying' more beyond is same =
    ap (λ (l : List Note). drop lying' l) is
    ∙ (drop-drop lying' beyond notes ∙ (ap (λ (n : ℕ). drop n notes) same ∙ sym (drop-drop more lying notes)))

pub same_unsent : (notes new : List Note) (lying lying' sent sent' more beyond : ℕ) → new ≡ drop beyond notes
    → beyond + lying' ≡ lying + more → more + sent' ≡ sent
    → drop sent' (drop lying' new) ≡ drop sent (drop lying notes)
same_unsent notes new lying lying' sent sent' more beyond is same fewer =
    ap (λ (l : List Note). drop sent' l) (less_unsettled notes new lying lying' more beyond is same)
    ∙ (drop-drop sent' more (drop lying notes) ∙ ap (λ (n : ℕ). drop n (drop lying notes)) fewer)

-- ---- two steps

pub same_twice : (old mid new : Outbox) → IsSameOutbox old mid → IsSameOutbox mid new → IsSameOutbox old new
same_twice old mid new one two = record {
  shape = two.shape ∙ one.shape;
  notes = two.notes ∙ one.notes;
  lying = two.lying ∙ one.lying;
  unsettled = two.unsettled ∙ one.unsettled;
  unsent = two.unsent ∙ one.unsent;
  sent = two.sent ∙ one.sent;
  settled = two.settled ∙ one.settled;
  place = two.place ∙ one.place;
  works = two.works ∙ one.works;
}

pub same_pends : (notes : List Note) (old mid new : Outbox) → IsSameOutbox old mid → Pends notes mid new
    → Pends notes old new
same_pends notes old mid new one two = record {
  legal = subst (λ (s : Shape). AllFit s notes) one.shape two.legal;
  shape = two.shape ∙ ap (λ (s : Shape). shape_after s notes) one.shape;
  notes = two.notes ∙ ap (λ (l : List Note). l ++ notes) one.notes;
  lying = two.lying ∙ one.lying;
  unsettled = two.unsettled ∙ ap (λ (l : List Note). l ++ notes) one.unsettled;
  unsent = two.unsent ∙ ap (λ (l : List Note). l ++ notes) one.unsent;
  sent = two.sent ∙ one.sent;
  settled = two.settled ∙ one.settled;
  place = two.place ∙ one.place;
  works = two.works ∙ one.works;
}

-- a note that can be refused only for want of memory, and takes none, is taken
pub done : {A E : Type 0} {P : Type 0} (result : Result A E) → OnOk result P → OnErr result ⊥ → P
done (Ok a) ok err = ok
done (Err e) ok err = absurd err

-- room was made, and then a note taken or refused
pub room_pends : {A E : Type 0} (result : Result A E) (notes : List Note) (old mid new : Outbox)
    → IsSameOutbox old mid → OnOk result (Pends notes mid new) → OnOk result (Pends notes old new)
room_pends (Ok a) notes old mid new same took = same_pends notes old mid new same took
room_pends (Err e) notes old mid new same took = tt

pub room_same : {A E : Type 0} (result : Result A E) (old mid new : Outbox) → IsSameOutbox old mid
    → OnErr result (IsSameOutbox mid new) → OnErr result (IsSameOutbox old new)
room_same (Ok a) old mid new one two = tt
room_same (Err e) old mid new one two = same_twice old mid new one two

-- the drops of the first N, and one more
pub drops_prefix : (cause : Cause) (ns : List ℕ) (i n : ℕ) → i < length ns → n ≡ get_or ns i n
    → drops cause (take (i + 1) ns) ≡ drops cause (take i ns) ++ Drop n cause ∷ []
drops_prefix cause [] i n inside is = absurd (omega arith)
drops_prefix cause (m ∷ ns) zero n inside is = ap (λ (k : ℕ). Drop k cause ∷ []) (sym is)
drops_prefix cause (m ∷ ns) (suc i) n inside is =
    let s : suc i + 1 ≡ suc (i + 1) = omega arith in
    ap (λ (k : ℕ). drops cause (take k (m ∷ ns))) s
    ∙ ap (λ (l : List Note). Drop m cause ∷ l) (drops_prefix cause ns i n (omega (arith, inside)) is)
