-- What the calls of a front come to, by its own clauses.
use Rattle.std.proofs.Common.{◌≡◌, ℕ, ◌+◌, ◌-◌, ◌≤◌, Bool, true, List, [], ◌∷◌}
use Rattle.std.proofs.Common.{map, ap}
use Rattle.disk_model.specs.declared.Disk.{Ghosts}
use Rattle.ledger_core.specs.declared.note.Note.{Note}
use Rattle.peer_queue.specs.Front.{IsBroken, IsSame, KeepsNotes, Notes as TakesNotes, sent_of, settled_of, unsent_of}
use Rattle.peer_queue.specs.FrontCalls.{OnlyOutbox, Settles}
use Rattle.peer_queue.specs.Outbox.{Breaks, Learns as LearnsMore, unsent_in}
use Rattle.peer_queue.specs.Shed.{dropped}
use Rattle.peer_queue.specs.declared.front.Front.{Front}
use Rattle.peer_queue.specs.declared.outbox.Outbox.{Outbox}
use Rattle.peer_queue.specs.declared.settled.Settled.{Settled}
use Rattle.peer_queue.specs.declared.settled.Settled.TheVariants.{Answered, Dropped, Later, Ready}
use Rattle.sections.specs.Post.{StationPast}
use Rattle.sections.specs.Sections.Section.{Cuts_off, Learns, Notes}
use Rattle.sections.specs.Tapes.{AllAbove}
use Rattle.section_steps.proofs.AtFronts.{does_cut, does_learn, does_note, does_nothing}
use Rattle.section_steps.proofs.Tapes.{not_true}
use Rattle.section_steps.specs.FrontWords.{end_notes, seen_with}
use Rattle.section_steps.specs.Stands.{FrontStands}
use Rattle.section_steps.specs.Steps.{FrontDoes}

-- two fronts of which sections see the same
seen_same : (sent : List Note) (old new : Front) (unsent : List Note) (settled pending : ℕ) (broken : Bool)
    → unsent_of new ≡ unsent → settled_of new ≡ settled → sent_of new ≡ pending → new.outbox.broken ≡ broken
    → seen_with sent new
    ≡ record { sent = sent; unsent = unsent; settled = settled; pending = pending; broken = broken }
seen_same sent old new unsent settled pending broken a b c d =
    (λ i. record { sent = sent; unsent = a i; settled = b i; pending = c i; broken = d i })

-- each drop is of no line
drops_above : (last : ℕ) (keys : List ℕ) → AllAbove last (dropped keys)
drops_above last [] = tt
drops_above last (key ∷ keys) = (tt, drops_above last keys)

module _ {D : Type 0} (g : Ghosts D) (before : List Note) (last rank : ℕ) (was : StationPast) (sent : List Note)
    (old new : Front) (stands : FrontStands before (seen_with sent old) was) where
  -- ---- nothing is noted

  pub front_keeps : KeepsNotes old new → FrontDoes g before last rank was [] [] (seen_with sent new)
  front_keeps keeps =
      does_nothing g before last rank was (seen_with sent old) (seen_with sent new) stands
      (seen_same sent old new _ _ _ _
      (ap unsent_in keeps.outbox) (ap (λ (o : Outbox). o.settled) keeps.outbox)
      (ap (λ (o : Outbox). o.sent) keeps.outbox) (ap (λ (o : Outbox). o.broken) keeps.outbox))

  pub front_same : IsSame old new → FrontDoes g before last rank was [] [] (seen_with sent new)
  front_same same =
      does_nothing g before last rank was (seen_with sent old) (seen_with sent new) stands
      (seen_same sent old new _ _ _ _ same.outbox.unsent same.outbox.settled same.outbox.sent same.outbox.works)

  pub front_equal : new ≡ old → FrontDoes g before last rank was [] [] (seen_with sent new)
  front_equal same =
      does_nothing g before last rank was (seen_with sent old) (seen_with sent new) stands (ap (seen_with sent) same)

  -- ---- notes

  pub front_notes : (notes : List Note) → (IsBroken old → ⊥) → AllAbove last notes → TakesNotes old new notes
      → FrontDoes g before last rank was (map (Notes rank) notes) [] (seen_with sent new)
  front_notes notes works above takes =
      does_note g before last rank was (seen_with sent old) (seen_with sent new) stands notes
      (not_true old.outbox.broken works) above
      (seen_same sent old new _ _ _ _ takes.outbox.unsent takes.outbox.settled takes.outbox.sent takes.outbox.works)

  pub front_settles : (connection key : ℕ) (settled : Settled) → (IsBroken old → ⊥)
      → Settles connection key settled old new
      → FrontDoes g before last rank was (map (Notes rank) (end_notes key settled)) [] (seen_with sent new)
  front_settles connection key (Answered code) works ends =
      front_notes (end_notes key (Answered code)) works (tt, tt) ends.notes
  front_settles connection key (Dropped cause) works ends =
      front_notes (end_notes key (Dropped cause)) works (tt, tt) ends.notes
  front_settles connection key (Later moment) works moves = front_keeps moves.keeps
  front_settles connection key Ready works moves = front_keeps moves.keeps

  pub front_sheds : (keys : List ℕ) → (IsBroken old → ⊥) → TakesNotes old new (dropped keys)
      → FrontDoes g before last rank was (map (Notes rank) (dropped keys)) [] (seen_with sent new)
  front_sheds keys works takes = front_notes (dropped keys) works (drops_above last keys) takes

  -- ---- what its tape tells

  pub front_learns : (count : ℕ) → count ≤ settled_of old + sent_of old
      → was.tape.history.opened + count ≤ was.tape.history.kept
      → OnlyOutbox (LearnsMore (count - settled_of old)) old new
      → FrontDoes g before last rank was (Learns rank (was.tape.history.opened + count) ∷ []) [] (seen_with sent new)
  front_learns count few kept learns =
      does_learn g before last rank was (seen_with sent old) (seen_with sent new) stands count few kept
      (seen_same sent old new _ _ _ _ learns.outbox.unsent learns.outbox.settled learns.outbox.sent
      learns.outbox.works)

  pub front_breaks : was.tape.broken ≡ true → OnlyOutbox Breaks old new
      → FrontDoes g before last rank was (Cuts_off rank ∷ []) [] (seen_with sent new)
  front_breaks broken breaks =
      does_cut g before last rank was (seen_with sent old) (seen_with sent new) stands broken
      (seen_same sent old new _ _ _ _ breaks.outbox.unsent breaks.outbox.settled breaks.outbox.sent
      breaks.outbox.breaks)
