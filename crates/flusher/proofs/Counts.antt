-- What a front counts, through its calls.
use Rattle.std.proofs.Common.{◌≡◌, ℕ, ◌+◌, List, [], ◌∷◌, length, sym, ap, subst, arith}
use Rattle.std.specs.Prelude.{Result, Ok, Err, OnErr, OnOk}
use Rattle.ledger_core.specs.Shape.{Shape, shape_step}
use Rattle.ledger_core.specs.declared.note.Cause.{Cause}
use Rattle.ledger_core.specs.declared.note.Cause.TheVariants.{Limit}
use Rattle.ledger_core.specs.declared.note.FinalCode.{FinalCode}
use Rattle.ledger_core.specs.declared.note.Note.TheVariants.{Owe, Final, Drop}
use Rattle.peer_queue.specs.Front.{IsSame, KeepsNotes, front_shape}
use Rattle.peer_queue.specs.FrontCalls.{Settles}
use Rattle.peer_queue.specs.Outbox.{box_shape}
use Rattle.peer_queue.specs.Shapes.{shape_after}
use Rattle.peer_queue.specs.Shed.{dropped}
use Rattle.peer_queue.specs.declared.front.Front.{Front}
use Rattle.peer_queue.specs.declared.settled.Settled.{Settled}
use Rattle.peer_queue.specs.declared.settled.Settled.TheVariants.{Answered, Dropped, Later, Ready}
use Rattle.recovery.specs.Notes.{drops}
use Rattle.flusher.specs.Counted.{answered_by, dropped_by}

-- these are what the shape counts
abbrev pub Counted : ℕ → ℕ → ℕ → Shape → Type 0
Counted a b c shape = (a ≡ shape.taken) × (b ≡ shape.answered) × (c ≡ shape.dropped)

pub counted_along : (a b c : ℕ) (old new : Shape) → new ≡ old → Counted a b c old → Counted a b c new
counted_along a b c old new same = subst (Counted a b c) (sym same)

-- only places changed
pub counted_kept : (a b c : ℕ) (old new : Front) → KeepsNotes old new → Counted a b c (front_shape old)
    → Counted a b c (front_shape new)
counted_kept a b c old new keeps = counted_along a b c (front_shape old) (front_shape new) (ap box_shape keeps.outbox)

-- nothing changed
pub counted_same : (a b c : ℕ) (old new : Front) → IsSame old new → Counted a b c (front_shape old)
    → Counted a b c (front_shape new)
counted_same a b c old new same = counted_along a b c (front_shape old) (front_shape new) same.outbox.shape

-- a call changed only places, or was refused and changed nothing
pub counted_moved : {A E : Type 0} (B C : Type 0) (a b c : ℕ) (old new : Front) (result : Result A E)
    → OnOk result (KeepsNotes old new × B × C) → OnErr result (IsSame old new) → Counted a b c (front_shape old)
    → Counted a b c (front_shape new)
counted_moved B C a b c old new (Ok v) keeps same = counted_kept a b c old new keeps.0
counted_moved B C a b c old new (Err e) keeps same = counted_same a b c old new same

pub counted_owe : (a b c d n : ℕ) (token id : List ℕ) (old new : Shape) → new ≡ shape_step old (Owe n token id)
    → d ≡ a + 1 → Counted a b c old → Counted d b c new
counted_owe a b c d n token id old new same more was =
    subst (Counted d b c) (sym same) (omega (arith, was.0, more), was.1, was.2)

counted_final : (a b c d n : ℕ) (code : FinalCode) (old new : Shape) → new ≡ shape_step old (Final n code)
    → d ≡ b + 1 → Counted a b c old → Counted a d c new
counted_final a b c d n code old new same more was =
    subst (Counted a d c) (sym same) (was.0, omega (arith, was.1, more), was.2)

counted_drop : (a b c d n : ℕ) (cause : Cause) (old new : Shape) → new ≡ shape_step old (Drop n cause)
    → d ≡ c + 1 → Counted a b c old → Counted a b d new
counted_drop a b c d n cause old new same more was =
    subst (Counted a b d) (sym same) (was.0, was.1, omega (arith, was.2, more))

-- what was counted, and then taken back, is as it was
pub taken_back : (old counted new k : ℕ) → counted ≡ old + k → new + k ≡ counted → new ≡ old
taken_back old counted new k more less = omega (arith, more, less)

counted_none : (a b n : ℕ) → b ≡ a + 0 → a ≡ n → b ≡ n
counted_none a b n none was = omega (arith, none, was)

pub counted_settled : (a b c d e connection number : ℕ) (settled : Settled) (old new : Front)
    → Settles connection number settled old new → d ≡ b + answered_by settled → e ≡ c + dropped_by settled
    → Counted a b c (front_shape old) → Counted a d e (front_shape new)
counted_settled a b c d e connection number (Answered code) old new made more none was =
    counted_final a b e d number code (front_shape old) (front_shape new) made.notes.outbox.shape more
    (was.0, was.1, counted_none c e _ none was.2)
counted_settled a b c d e connection number (Dropped cause) old new made none more was =
    counted_drop a d c e number cause (front_shape old) (front_shape new) made.notes.outbox.shape more
    (was.0, counted_none b d _ none was.1, was.2)
counted_settled a b c d e connection number (Later moment) old new made none nor was =
    counted_kept a d e old new made.keeps (was.0, counted_none b d _ none was.1, counted_none c e _ nor was.2)
counted_settled a b c d e connection number Ready old new made none nor was =
    counted_kept a d e old new made.keeps (was.0, counted_none b d _ none was.1, counted_none c e _ nor was.2)

counted_drops : (a b c : ℕ) (cause : Cause) (numbers : List ℕ) (old : Shape) → Counted a b c old
    → Counted a b (c + length numbers) (shape_after old (drops cause numbers))
counted_drops a b c cause [] old was = let zero : c + 0 ≡ c = omega arith in
    subst (λ n. Counted a b n old) (sym zero) was
counted_drops a b c cause (n ∷ ns) old was =
    let e : (c + 1) + length ns ≡ c + length (n ∷ ns) = omega arith in
    subst (λ m. Counted a b m (shape_after (shape_step old (Drop n cause)) (drops cause ns))) e
    (counted_drops a b (c + 1) cause ns (shape_step old (Drop n cause)) (was.0, was.1, omega (arith, was.2)))

pub counted_shed : (a b c d : ℕ) (numbers : List ℕ) (old new : Shape) → new ≡ shape_after old (dropped numbers)
    → d ≡ c + length numbers → Counted a b c old → Counted a b d new
counted_shed a b c d numbers old new same more was =
    subst (Counted a b d) (sym same)
    (subst (λ m. Counted a b m (shape_after old (dropped numbers))) (sym more)
    (counted_drops a b c Limit numbers old was))
