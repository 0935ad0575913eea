-- What is known of the notes of all tapes since some moment, and is kept by events of some kinds: so it is by the steps
-- made of them, and by stops.
use Rattle.std.proofs.Common.{◌≡◌, ℕ, zero, suc, ◌+◌, ◌<◌, ◌≤◌, ◌^◌, false, Some, List, [], ◌∷◌, refl, sym, ap}
use Rattle.std.proofs.Common.{◌∙◌, subst, inl, inr, arith}
use Rattle.std.proofs.Math.ListN.{set}
use Rattle.std.proofs.lemmas.Bool.{cases_lt}
use Rattle.std.specs.List.{AllByRecursion, AllZip, slice_get}
use Rattle.ledger_core.specs.declared.note.Note.{Note}
use Rattle.ledger_core.specs.declared.note.Note.TheVariants.{Owe, Seen}
use Rattle.peer_queue.specs.Shed.{dropped}
use Rattle.peer_queue.specs.declared.limits.Owed.{Owed}
use Rattle.peer_queue.specs.declared.limits.Owed.TheVariants.{New, Already}
use Rattle.recovery.specs.Leaving.{mark_of}
use Rattle.recovery.specs.Notes.{History, flushed, noted, noted_all, recovered}
use Rattle.sections.specs.ListLaws.{zip_then}
use Rattle.sections.specs.Tapes.{TapePast, mark_at}
use Rattle.world_core.specs.Past.{Past, PeerPast, with_intake, with_peer, with_tape}
use Rattle.world_core.specs.Events.{Acknowledges, Claims, Closes, Does, Event, Imports, Opens, OpensIntake, Owes, Parts}
use Rattle.world_core.specs.Events.{Returns, Rotates, Sees, Settles, Sheds, Spills, closing, import_key, imported_as}
use Rattle.world_core.specs.Events.{owed_as, owing_as}
use Rattle.world_core.specs.Steps.{begun_at}
use Rattle.world_core.proofs.IntakeSees.{seen_new, seen_old}
use Rattle.world_core.proofs.MarksAndNotes.{IsNoLine}
use Rattle.world_core.proofs.PeerInWorld.{PeerKeeps}
use Rattle.world_core.proofs.RelatedLists.{zip_made}
use Rattle.world_core.proofs.SoundOverEvents.{owed_conf}
use Rattle.world_core.proofs.WalkOverTapes.{HasSameNotes, Keeper, SameButDisks}

-- Of the notes that the tape of each peer of these has now, of the intake's, and of the last number. Which lines may be
-- owed, by rank, token and message-id, which numbers may be noted, and whether tapes may be opened: and then all of
-- it is kept.
pub record Known (begun : Past) : Type 1 where
  pub PEER : PeerPast → History → Type 0
  pub INTAKE : History → ℕ → Type 0
  pub OWES : ℕ → List ℕ → List ℕ → Type 0
  pub SEES : ℕ → Type 0
  pub OPENS : Type 0
  pub more : (peer : PeerPast) (h : History) (notes : List Note) → AllByRecursion IsNoLine notes → PEER peer h
      → PEER peer (noted_all h notes)
  pub flushes : (peer : PeerPast) (h : History) → PEER peer h → PEER peer (flushed h)
  pub owes : (rank : ℕ) (token id : List ℕ) (peer : PeerPast) (h intake : History) (last : ℕ) → OWES rank token id
      → slice_get begun.peers rank ≡ Some peer → INTAKE intake last → PEER peer h
      → PEER peer (noted h (Owe (last + 1) token id))
  pub opens : (peer : PeerPast) (h : History) (count : ℕ) → OPENS → h.kept ≤ count → PEER peer h
      → PEER peer (recovered h count)
  pub acknowledges : (h : History) (last : ℕ) → INTAKE h last → INTAKE (flushed h) last
  pub sees : (h : History) (last number : ℕ) → SEES number → mark_of h < number → INTAKE h last
      → INTAKE (noted h (Seen number)) last
  pub opens_intake : (h : History) (last count : ℕ) → OPENS → INTAKE h last
      → INTAKE (recovered h count) (mark_of (recovered h count))

-- the second of two related elements is replaced
put_second : {A B : Type 0} (R : A → B → Type 0) (xs : List A) (ys : List B) (i : ℕ) (y z : B) → AllZip R xs ys
    → slice_get ys i ≡ Some y → ((x : A) → slice_get xs i ≡ Some x → R x y → R x z) → AllZip R xs (set ys i z)
put_second R [] [] i y z all here one = tt
put_second R [] (b ∷ ys) i y z all here one = absurd all
put_second R (a ∷ xs) [] i y z all here one = absurd all
put_second R (a ∷ xs) (b ∷ ys) zero y z all here one =
    let same : b ≡ y = cc in
    (one a refl (subst (R a) same all.0), all.1)
put_second R (a ∷ xs) (b ∷ ys) (suc i) y z all here one = (all.0, put_second R xs ys i y z all.1 here one)

history_of : (one other : TapePast) → one ≡ other → one.history ≡ other.history
history_of one other same = ap (λ (t : TapePast). t.history) same

all_dropped : (numbers : List ℕ) → AllByRecursion IsNoLine (dropped numbers)
all_dropped [] = tt
all_dropped (number ∷ numbers) = (tt, all_dropped numbers)

module _ (begun : Past) (known : Known begun) where
  open known use {PEER, INTAKE, OWES, SEES, OPENS}

  -- a peer has the settings that it had, and what is known of its notes
  abbrev pub Since : PeerPast → PeerPast → Type 0
  Since old peer = (peer.conf ≡ old.conf) × PEER old peer.tape.history

  pub record HasSince (past : Past) : Type 0 where
    pub peers : AllZip Since begun.peers past.peers
    pub intake : INTAKE past.intake.history past.last

  put : (was now : Past) (rank : ℕ) (peer new : PeerPast) → slice_get was.peers rank ≡ Some peer
      → now ≡ with_peer was rank new → new.conf ≡ peer.conf
      → ((old : PeerPast) → slice_get begun.peers rank ≡ Some old → PEER old peer.tape.history
      → PEER old new.tape.history)
      → HasSince was → HasSince now
  put was now rank peer new here changed conf keeps has =
      subst HasSince (sym changed) (record {
        peers = put_second Since begun.peers was.peers rank peer new has.peers here
            (λ old there since. (conf ∙ since.0, keeps old there since.1));
        intake = has.intake;
      })

  -- another history in place of the peer's
  pub put_tape : (was now : Past) (rank : ℕ) (peer new : PeerPast) (h : History) → slice_get was.peers rank ≡ Some peer
      → now ≡ with_peer was rank new → new.conf ≡ peer.conf → new.tape.history ≡ h
      → ((old : PeerPast) → PEER old peer.tape.history → PEER old h) → HasSince was → HasSince now
  put_tape was now rank peer new h here changed conf is keeps =
      put was now rank peer new here changed conf
      (λ old there since. subst (PEER old) (sym is) (keeps old since))

  pub put_intake : (was now : Past) (tape : TapePast) (h : History) → now ≡ with_intake was tape → tape.history ≡ h
      → (INTAKE was.intake.history was.last → INTAKE h was.last) → HasSince was → HasSince now
  put_intake was now tape h changed is keeps has =
      subst HasSince (sym changed) (record {
        peers = has.peers;
        intake = subst (λ (g : History). INTAKE g was.last) (sym is) (keeps has.intake);
      })

  -- ---- events

  abbrev pub IsKept : Event → Type 0
  IsKept (Owes rank token id) = OWES rank token id
  IsKept (Claims rank id now) = ⊥
  IsKept (Returns rank id number) = ⊥
  IsKept (Settles rank id now outcome) = ⊥
  IsKept (Sees number) = SEES number
  IsKept (Opens rank) = OPENS
  IsKept OpensIntake = OPENS
  IsKept event = Unit {0}

  owing : (owed : Owed) (key : ℕ) (token id : List ℕ) (old peer : PeerPast)
      → (PEER old peer.tape.history → PEER old (noted peer.tape.history (Owe key token id)))
      → PEER old peer.tape.history → PEER old (owing_as owed key token id peer).tape.history
  owing New key token id old peer new has = new has
  owing Already key token id old peer new has = has

  pub event_keeps : (event : Event) → IsKept event → (was now : Past) → Does event was now → HasSince was → HasSince now
  event_keeps (Owes rank token id) may was now d has =
      let owed = owed_as (was.last + 1) d.peer in
      put was now rank d.peer (owing_as owed (was.last + 1) token id d.peer) d.here d.changed
      (owed_conf (was.last + 1) token id d.peer owed)
      (λ old there since. owing owed (was.last + 1) token id old d.peer
      (known.owes rank token id old d.peer.tape.history was.intake.history was.last may there has.intake) since) has
  event_keeps (Imports rank number token id) may was now d has =
      let owed = imported_as number d.peer in
      let key = import_key number d.peer in
      let far : 2 ^ 64 ≤ key = omega arith in
      put was now rank d.peer (owing_as owed key token id d.peer) d.here d.changed (owed_conf key token id d.peer owed)
      (λ old there since. owing owed key token id old d.peer
      (known.more old d.peer.tape.history (Owe key token id ∷ []) (far, tt)) since) has
  event_keeps (Closes rank) may was now d has =
      put_tape was now rank d.peer _ _ d.here d.changed refl refl
      (λ old. known.more old d.peer.tape.history (closing d.peer ∷ []) (tt, tt)) has
  event_keeps (Spills rank) may was now d has =
      put_tape was now rank d.peer _ _ d.here d.changed refl (history_of _ _ d.flushes.all)
      (λ old. known.flushes old d.peer.tape.history) has
  event_keeps (Parts rank) may was now d has =
      put_tape was now rank d.peer _ _ d.here d.changed refl (history_of _ _ d.flushes.all)
      (λ old. known.flushes old d.peer.tape.history) has
  event_keeps (Rotates rank generation) may was now d has =
      put_tape was now rank d.peer _ _ d.here d.changed refl (history_of _ _ d.rotates.all)
      (λ old. known.flushes old d.peer.tape.history) has
  event_keeps (Sheds rank numbers) may was now d has =
      put_tape was now rank d.peer _ _ d.here d.changed refl refl
      (λ old. known.more old d.peer.tape.history (dropped numbers) (all_dropped numbers)) has
  event_keeps (Sees number) may was now d has = elim (cases_lt (mark_at was.intake) number) [
    | inl above ↦
        put_intake was now _ _ d.changed (history_of _ _ (seen_new number was.intake above))
        (known.sees was.intake.history was.last number may above) has
    | inr below ↦
        put_intake was now _ _ d.changed (history_of _ _ (seen_old number was.intake below)) (λ is. is) has
  ]
  event_keeps Acknowledges may was now d has =
      put_intake was now d.tape _ d.changed (history_of _ _ d.flushes.all)
      (known.acknowledges was.intake.history was.last) has
  event_keeps (Opens rank) may was now d has =
      put_tape was now rank d.peer _ _ d.here d.changed refl (history_of _ _ d.opens.all)
      (λ old. known.opens old d.peer.tape.history d.opens.count may d.opens.enough) has
  event_keeps OpensIntake may was now d has =
      subst HasSince (sym d.changed) (record {
        peers = has.peers;
        intake = subst (λ (h : History). INTAKE h (mark_of h)) (sym (history_of _ _ d.opens.all))
            (known.opens_intake was.intake.history was.last d.opens.count may has.intake);
      })
  event_keeps event may was now d has = absurd may

  -- ---- steps

  -- other tapes with the same notes
  pub same_since : (was now : Past) → SameButDisks was now → HasSince was → HasSince now
  same_since was now same has = record {
    peers = zip_then Since HasSameNotes Since
        (λ old one other since is. (is.0 ∙ since.0, subst (PEER old) (sym is.1) since.1)) begun.peers was.peers
        now.peers has.peers same.notes;
    intake = subst (λ (h : History). INTAKE h now.last) (sym same.intake)
        (subst (INTAKE was.intake.history) (sym same.last) has.intake);
  }

  pub begun_since : (past : Past) → HasSince past → HasSince (begun_at past)
  begun_since past has = same_since past (begun_at past) (record {
    notes = zip_made HasSameNotes (λ (peer : PeerPast). record peer { parted = false }) (λ peer. (refl, refl))
        past.peers;
    intake = refl;
    last = refl;
  }) has

  abbrev pub knowing : Keeper
  knowing = record {
    ON = IsKept;
    KEEPS = λ was now. HasSince was → HasSince now;
    alike = λ past has. has;
    joined = λ was mid now one other has. other (one has);
    at_same = λ was now rank peer tape here changed same.
        put_tape was now rank peer (with_tape peer tape) _ here changed refl same (λ old since. since);
    at_intake = λ was tape same. put_intake was (with_intake was tape) tape _ refl same (λ is. is);
    event_does = event_keeps;
    keeps_begun = begun_since;
  }

  -- what a connection does to its peer
  pub peer_since : (past : Past) (rank id : ℕ) (was now : PeerPast) → slice_get past.peers rank ≡ Some was
      → PeerKeeps id was now → HasSince past → HasSince (with_peer past rank now)
  peer_since past rank id was now here keeps =
      put_tape past (with_peer past rank now) rank was now _ here refl keeps.conf keeps.notes
      (λ old. known.more old was.tape.history keeps.more keeps.off)
