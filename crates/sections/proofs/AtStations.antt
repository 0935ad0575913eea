-- What each section makes of a station.
use Rattle.std.proofs.Common.{◌≡◌, ℕ, ◌≤◌, List, [], ◌∷◌, ◌++◌, length, max}
use Rattle.std.proofs.Common.{replicate, take, drop, refl, sym, ap, ◌∙◌, subst, arith, take-append-drop}
use Rattle.std.proofs.Common.{append_assoc, append-nil}
use Rattle.std.specs.List.{AllByRecursion, AllZip}
use Rattle.ledger_core.specs.declared.note.Note.{Note}
use Rattle.recovery.specs.Notes.{History}
use Rattle.sections.specs.ListLaws.{all_weaker, drop_later, drop_less, drop_more, zip_second}
use Rattle.sections.specs.Post.{Progress, StationPast, notes_of, with_tape}
use Rattle.sections.specs.Post.Progress.{Counted, Due, Waits}
use Rattle.sections.specs.Sections.{IsReopened, IsStoppedStation, OfStation, Section, opened}
use Rattle.sections.specs.Sections.OfStation.{Is_called, Is_cut_off, Is_learnt, Is_noted, Is_opened, Is_pulled, Is_sent}
use Rattle.sections.specs.Sound.{HasAcknowledged, IsKnown, IsSoundStation}
use Rattle.sections.specs.TapeLaws.{above_less}
use Rattle.sections.specs.Tapes.{AllAbove, IsAbove, TapePast}
use Rattle.sections.proofs.AtTapes.{KeepsTape, call_keeps, noted_keeps, opened_history, opened_keeps}
use Rattle.sections.proofs.AtTapes.{same_tape, stopped_keeps}

all_above_less : (low high : ℕ) → low ≤ high → (notes : List Note) → AllAbove high notes → AllAbove low notes
all_above_less low high less notes all = all_weaker (IsAbove high) (IsAbove low) (above_less low high less) notes all

-- What a section keeps of a station, if this is the number that was shown last. If the notes of a front behind some
-- place are above a mark that is not above that number, they stay so.
pub record Keeps (last : ℕ) (was now : StationPast) : Type 0 where
  pub sound : IsSoundStation now
  pub tape : KeepsTape was.tape now.tape
  pub above : (mark place : ℕ) → mark ≤ last → AllAbove mark (drop place (notes_of was))
      → AllAbove mark (drop place (notes_of now))

-- ---- the notes of a front

-- the front has noted more, above the number that was shown last
more_above : (last : ℕ) (was now more : List Note) → now ≡ was ++ more → AllAbove last more
    → (mark place : ℕ) → mark ≤ last → AllAbove mark (drop place was) → AllAbove mark (drop place now)
more_above last was now more is above mark place below all =
    subst (λ (l : List Note). AllAbove mark (drop place l)) (sym is)
    (drop_more (IsAbove mark) place was more all (all_above_less mark last below more above))

same_above : (last : ℕ) (was now : List Note) → now ≡ was
    → (mark place : ℕ) → mark ≤ last → AllAbove mark (drop place was) → AllAbove mark (drop place now)
same_above last was now is mark place below all = subst (λ (l : List Note). AllAbove mark (drop place l)) (sym is) all

-- the last of them are gone
less_above : (last : ℕ) (was now gone : List Note) → was ≡ now ++ gone
    → (mark place : ℕ) → mark ≤ last → AllAbove mark (drop place was) → AllAbove mark (drop place now)
less_above last was now gone is mark place below all =
    drop_less (IsAbove mark) place now gone (subst (λ (l : List Note). AllAbove mark (drop place l)) is all)

pub noted_all_of : (xs ys zs ws : List Note) → xs ++ (ys ++ (zs ++ ws)) ≡ (xs ++ (ys ++ zs)) ++ ws
noted_all_of xs ys zs ws =
    ap (λ (l : List Note). xs ++ l) (sym (append_assoc ys zs ws)) ∙ sym (append_assoc xs (ys ++ zs) ws)

pub sent_all_of : (xs ys zs rest : List Note) (note : Note) → zs ≡ note ∷ rest
    → xs ++ ((ys ++ note ∷ []) ++ rest) ≡ xs ++ (ys ++ zs)
sent_all_of xs ys zs rest note is =
    ap (λ (l : List Note). xs ++ l) (append_assoc ys (note ∷ []) rest ∙ ap (λ (l : List Note). ys ++ l) (sym is))

pub pulled_all_of : (xs ys zs rest : List Note) (note : Note) → ys ≡ note ∷ rest
    → (xs ++ note ∷ []) ++ (rest ++ zs) ≡ xs ++ (ys ++ zs)
pulled_all_of xs ys zs rest note is =
    append_assoc xs (note ∷ []) (rest ++ zs) ∙ ap (λ (l : List Note). xs ++ (l ++ zs)) (sym is)

max_within : (one other most : ℕ) → one ≤ most → other ≤ most → max one other ≤ most
max_within one other most less less' = omega (arith, less, less')

-- ---- each section at a station

-- its notes and what is known of them at the front are the same
called : (last : ℕ) (was : StationPast) (tape : TapePast) → IsSoundStation was
    → tape.history.notes ≡ was.tape.history.notes
    → KeepsTape was.tape tape → Keeps last was (with_tape was tape)
called last was tape sound notes keeps = record {
  sound = record { within = keeps.within; settled = omega (arith, sound.settled, keeps.kept) };
  tape = keeps;
  above = same_above last (notes_of was) (notes_of (with_tape was tape))
      (ap (λ (l : List Note). l ++ (was.queue ++ was.unsent)) notes);
}

pub opened_notes : (was : StationPast) (tape : TapePast) → IsReopened was.tape tape
    → (gone : List Note) × (notes_of was ≡ notes_of (opened tape) ++ gone)
opened_notes was tape opens =
    let count = opens.prefix.count in
    let notes = was.tape.history.notes in
    let rest = was.queue ++ was.unsent in
    let is : notes_of (opened tape) ≡ take count notes =
    append-nil tape.history.notes ∙ ap (λ (h : History). h.notes) (opened_history was.tape tape opens) in (
      drop count notes ++ rest,
      ap (λ (l : List Note). l ++ rest) (sym (take-append-drop count notes))
          ∙ append_assoc (take count notes) (drop count notes) rest
          ∙ ap (λ (l : List Note). l ++ (drop count notes ++ rest)) (sym is),
    )

pub station_keeps : (last rank : ℕ) (was now : StationPast) (section : Section) → IsSoundStation was
    → OfStation last was section rank now → Keeps last was now
station_keeps last rank was now section sound (Is_noted r note runs works above) = record {
  sound = record { within = sound.within; settled = sound.settled };
  tape = same_tape was.tape sound.within;
  above = more_above last (notes_of was) _ (note ∷ [])
      (noted_all_of was.tape.history.notes was.queue was.unsent (note ∷ [])) (above, tt);
}
station_keeps last rank was now section sound (Is_sent r note rest is) = record {
  sound = record { within = sound.within; settled = sound.settled };
  tape = same_tape was.tape sound.within;
  above = same_above last (notes_of was) _ (sent_all_of was.tape.history.notes was.queue was.unsent rest note is);
}
station_keeps last rank was now section sound (Is_pulled r note rest works is) =
    let tape = noted_keeps was.tape note sound.within in
    record {
      sound = record { within = tape.within; settled = sound.settled };
      tape = tape;
      above = same_above last (notes_of was) _
          (pulled_all_of was.tape.history.notes was.queue was.unsent rest note is);
    }
station_keeps last rank was now section sound (Is_called r call tape does) =
    let keeps = call_keeps was.tape was.runs call tape sound.within does in
    called last was tape sound keeps.notes keeps.keeps
station_keeps last rank was now section sound (Is_learnt r count runs below) = record {
  sound = record {
    within = sound.within;
    settled = max_within was.settled count was.tape.history.kept sound.settled below;
  };
  tape = same_tape was.tape sound.within;
  above = same_above last (notes_of was) _ refl;
}
station_keeps last rank was now section sound (Is_cut_off r broken) = record {
  sound = record { within = sound.within; settled = sound.settled };
  tape = same_tape was.tape sound.within;
  above = same_above last (notes_of was) _ refl;
}
station_keeps last rank was now section sound (Is_opened r tape stopped opens) =
    let keeps = opened_keeps was.tape tape opens in
    let notes = opened_notes was tape opens in
    record {
      sound = record { within = keeps.within; settled = omega arith };
      tape = keeps;
      above = less_above last (notes_of was) (notes_of (opened tape)) notes.0 notes.1;
    }

-- a stop: what is on no tape is gone
pub stopped_notes : (was now : StationPast) → IsSoundStation was → IsStoppedStation was now
    → notes_of now ≡ was.tape.history.notes
stopped_notes was now sound stops =
    ap (λ (s : StationPast). notes_of s) stops.all ∙ append-nil now.tape.history.notes
    ∙ (stopped_keeps was.tape now.tape sound.within stops.tape).notes

pub stopped_station : (last : ℕ) (was now : StationPast) → IsSoundStation was → IsStoppedStation was now
    → Keeps last was now
stopped_station last was now sound stops =
    let keeps = stopped_keeps was.tape now.tape sound.within stops.tape in
    let notes = stopped_notes was now sound stops in
    record {
      sound = record {
        within = keeps.keeps.within;
        settled =
            omega (arith, ap (λ (s : StationPast). s.settled) stops.all, sound.settled, keeps.keeps.kept);
      };
      tape = keeps.keeps;
      above = less_above last (notes_of was) (notes_of now) (was.queue ++ was.unsent)
          (ap (λ (l : List Note). l ++ (was.queue ++ was.unsent)) (sym notes));
    }

-- ---- what stays

pub stays_acknowledged : (last mark : ℕ) (was now : StationPast) → mark ≤ last → Keeps last was now
    → HasAcknowledged mark was → HasAcknowledged mark now
stays_acknowledged last mark was now below keeps has =
    drop_later (IsAbove mark) was.tape.history.kept now.tape.history.kept (notes_of now) keeps.tape.kept
    (keeps.above mark was.tape.history.kept below has)

pub stays_known : (last number : ℕ) (one : Progress) (was now : StationPast) → number ≤ last → Keeps last was now
    → IsKnown number one was → IsKnown number one now
stays_known last number Waits was now below keeps known = tt
stays_known last number (Due count) was now below keeps known = keeps.above number count below known
stays_known last number Counted was now below keeps known = stays_acknowledged last number was now below keeps known

-- ---- what a sealing knows

-- of nothing but notes that were counted
pub all_counted : (number : ℕ) (progress : List Progress) (stations : List StationPast)
    → AllByRecursion (λ (one : Progress). one ≡ Counted) progress → AllZip (IsKnown number) progress stations
    → AllByRecursion (HasAcknowledged number) stations
all_counted number progress stations all known =
    zip_second (IsKnown number) (λ (one : Progress). one ≡ Counted) (HasAcknowledged number)
    (λ one station is has. subst (λ (p : Progress). IsKnown number p station) is has) progress stations all known

pub all_wait : (number : ℕ) (stations : List StationPast)
    → AllZip (IsKnown number) (replicate (length stations) Waits) stations
all_wait number [] = tt
all_wait number (station ∷ stations) = (tt, all_wait number stations)
