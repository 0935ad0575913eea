-- Over events on tapes, each connection keeps what it holds.
use Rattle.std.proofs.Common.{◌≡◌, ◌↔◌, ℕ, ◌+◌, false, None, Some, List, [], ◌∷◌, refl, sym, ap}
use Rattle.std.proofs.Common.{◌∙◌, subst, inl, inr}
use Rattle.std.proofs.lemmas.Bool.{cases_eq}
use Rattle.std.specs.List.{AllZip, slice_get}
use Rattle.peer_queue.specs.DebtPlace.{AreUnheld, Held, IsHeldBy, IsUnheld, Places, Ready, all_gone, gone, place_at}
use Rattle.peer_queue.specs.DebtPlace.{with_place}
use Rattle.peer_queue.specs.declared.limits.Owed.{Owed}
use Rattle.peer_queue.specs.declared.limits.Owed.TheVariants.{New, Already}
use Rattle.sections.specs.ListLaws.{zip_put, zip_same, zip_then}
use Rattle.sections.specs.Tapes.{TapePast}
use Rattle.world_core.specs.Past.{Past, PeerPast, with_intake, with_peer, with_tape}
use Rattle.world_core.specs.Events.{Acknowledges, Claims, Closes, Does, Event, Imports, Opens, OpensIntake, Owes, Parts}
use Rattle.world_core.specs.Events.{Returns, Rotates, Sees, Settles, Sheds, Spills, closing, import_key, imported_as}
use Rattle.world_core.specs.Events.{owed_as, owing_as, parted}
use Rattle.world_core.specs.Steps.{begun_at}
use Rattle.world_core.specs.Tapes.{noted_at}
use Rattle.world_core.proofs.HeldNumbers.{gone_none, gone_other}
use Rattle.world_core.proofs.DebtPlaces.{with_here, with_other}
use Rattle.world_core.proofs.WalkOverTapes.{Keeper, OnTape}
use Rattle.world_core.proofs.RelatedLists.{zip_made}

-- ---- one peer

-- a peer keeps its settings, and each connection holds there what it held
abbrev pub HoldsSame : PeerPast → PeerPast → Type 0
HoldsSame was now = (now.conf ≡ was.conf)
    × ((id number : ℕ) → IsHeldBy now.places id number ↔ IsHeldBy was.places id number)

pub hold_same : (peer : PeerPast) → HoldsSame peer peer
hold_same peer = (refl, λ id number. (λ is. is, λ is. is))

hold_places : (was now : PeerPast) → now.conf ≡ was.conf → now.places ≡ was.places → HoldsSame was now
hold_places was now conf same = (
  conf,
  λ id number. (
    λ is. subst (λ (p : Places). IsHeldBy p id number) same is,
    λ is. subst (λ (p : Places). IsHeldBy p id number) (sym same) is,
  ),
)

hold_then : (was mid now : PeerPast) → HoldsSame was mid → HoldsSame mid now → HoldsSame was now
hold_then was mid now one other = (
  other.0 ∙ one.0,
  λ id number. (
    λ is. (one.1 id number).0 ((other.1 id number).0 is),
    λ is. (other.1 id number).1 ((one.1 id number).1 is),
  ),
)

-- ---- all peers

-- the peers of all tapes
abbrev pub AllHold : Past → Past → Type 0
AllHold was now = AllZip HoldsSame was.peers now.peers

one_put : (past later : Past) (rank : ℕ) (was now : PeerPast) → slice_get past.peers rank ≡ Some was
    → HoldsSame was now
    → later ≡ with_peer past rank now → AllHold past later
one_put past later rank was now here same is =
    subst (AllHold past) (sym is) (zip_put HoldsSame hold_same past.peers rank was now here same)

pub none_put : (past later : Past) → later.peers ≡ past.peers → AllHold past later
none_put past later same =
    subst (λ (ps : List PeerPast). AllZip HoldsSame past.peers ps) (sym same)
    (zip_same HoldsSame hold_same past.peers)

pub hold_joined : (was mid now : Past) → AllHold was mid → AllHold mid now → AllHold was now
hold_joined was mid now one other =
    zip_then HoldsSame HoldsSame HoldsSame hold_then was.peers mid.peers now.peers one other

-- ---- a line, and what is dropped

-- one more debt that is ready, and that no connection holds
ready_back : (p : Places) (number id m : ℕ) → IsHeldBy (with_place p number Ready) id m → IsHeldBy p id m
ready_back p number id m is = elim (cases_eq m number) [
  | inl same ↦ (
      let there : place_at (with_place p number Ready) m ≡ Some Ready =
      subst (λ (n : ℕ). place_at (with_place p number Ready) n ≡ Some Ready) (sym same) (with_here p number Ready) in
      absurd (let never : Some Ready ≡ Some (Held id) = sym there ∙ is in cc))
  | inr apart ↦ sym (with_other p number m Ready apart) ∙ is
]

ready_on : (p : Places) (number id m : ℕ) → place_at p number ≡ None → IsHeldBy p id m
    → IsHeldBy (with_place p number Ready) id m
ready_on p number id m none is = elim (cases_eq m number) [
  | inl same ↦ (
      let there : place_at p number ≡ Some (Held id) = subst (λ (n : ℕ). place_at p n ≡ Some (Held id)) same is in
      absurd (let never : None ≡ Some (Held id) = sym none ∙ there in cc))
  | inr apart ↦ with_other p number m Ready apart ∙ is
]

owing_holds : (owed : Owed) (number : ℕ) (token id : List ℕ) (peer : PeerPast)
    → (owed ≡ New → place_at peer.places number ≡ None) → HoldsSame peer (owing_as owed number token id peer)
owing_holds New number token id peer none =
    (refl, λ conn m. (ready_back peer.places number conn m, ready_on peer.places number conn m (none refl)))
owing_holds Already number token id peer none = hold_same peer

gone_back : (p : Places) (number id m : ℕ) → IsHeldBy (gone p number) id m → IsHeldBy p id m
gone_back p number id m is = elim (cases_eq m number) [
  | inl same ↦ (
      let none : place_at (gone p number) m ≡ None =
      subst (λ (n : ℕ). place_at (gone p number) n ≡ None) (sym same) (gone_none p number) in
      absurd cc)
  | inr apart ↦ sym (gone_other p number m apart) ∙ is
]

unheld_on : (p : Places) (number id m : ℕ) → IsUnheld p number → IsHeldBy p id m → IsHeldBy (gone p number) id m
unheld_on p number id m free is = elim (cases_eq m number) [
  | inl same ↦ (
      let there : place_at p number ≡ Some (Held id) = subst (λ (n : ℕ). place_at p n ≡ Some (Held id)) same is in
      absurd cc)
  | inr apart ↦ gone_other p number m apart ∙ is
]

all_gone_back : (numbers : List ℕ) (p : Places) (id m : ℕ) → IsHeldBy (all_gone p numbers) id m
    → IsHeldBy p id m
all_gone_back [] p id m is = is
all_gone_back (number ∷ numbers) p id m is = gone_back p number id m (all_gone_back numbers (gone p number) id m is)

all_gone_on : (numbers : List ℕ) (p : Places) (id m : ℕ) → AreUnheld p numbers → IsHeldBy p id m
    → IsHeldBy (all_gone p numbers) id m
all_gone_on [] p id m free is = is
all_gone_on (number ∷ numbers) p id m free is =
    all_gone_on numbers (gone p number) id m free.1 (unheld_on p number id m free.0 is)

-- ---- events

pub holds_does : (event : Event) → OnTape event → (past later : Past) → Does event past later
    → AllHold past later
holds_does (Owes rank token id) on past later d =
    one_put past later rank d.peer _ d.here
    (owing_holds (owed_as (past.last + 1) d.peer) (past.last + 1) token id d.peer d.apart) d.changed
holds_does (Imports rank number token id) on past later d =
    one_put past later rank d.peer _ d.here
    (owing_holds (imported_as number d.peer) (import_key number d.peer) token id d.peer d.apart) d.changed
holds_does (Closes rank) on past later d =
    one_put past later rank d.peer _ d.here
    (hold_places d.peer (with_tape d.peer (noted_at d.peer.tape (closing d.peer))) refl refl) d.changed
holds_does (Spills rank) on past later d =
    one_put past later rank d.peer _ d.here (hold_places d.peer (with_tape d.peer d.tape) refl refl) d.changed
holds_does (Parts rank) on past later d =
    one_put past later rank d.peer _ d.here (hold_places d.peer (parted d.peer d.tape) refl refl) d.changed
holds_does (Rotates rank generation) on past later d =
    one_put past later rank d.peer _ d.here (hold_places d.peer (with_tape d.peer d.tape) refl refl) d.changed
holds_does (Sheds rank numbers) on past later d =
    one_put past later rank d.peer _ d.here
    (refl, λ id m. (all_gone_back numbers d.peer.places id m, all_gone_on numbers d.peer.places id m d.sheds.free))
    d.changed
holds_does (Claims rank id now) on past later d = absurd on
holds_does (Returns rank id number) on past later d = absurd on
holds_does (Settles rank id now outcome) on past later d = absurd on
holds_does (Sees number) on past later d = none_put past later (ap (λ (p : Past). p.peers) d.changed)
holds_does Acknowledges on past later d = none_put past later (ap (λ (p : Past). p.peers) d.changed)
holds_does (Opens rank) on past later d = absurd on
holds_does OpensIntake on past later d = absurd on

pub tape_put : (past later : Past) (rank : ℕ) (peer : PeerPast) (tape : TapePast)
    → slice_get past.peers rank ≡ Some peer → later ≡ with_peer past rank (with_tape peer tape)
    → tape.history ≡ peer.tape.history → AllHold past later
tape_put past later rank peer tape here is same =
    one_put past later rank peer _ here (hold_places peer (with_tape peer tape) refl refl) is

pub holds_begin : (past : Past) → AllHold past (begun_at past)
holds_begin past =
    zip_made HoldsSame (λ (peer : PeerPast). record peer { parted = false })
    (λ peer. hold_places peer (record peer { parted = false }) refl refl) past.peers

-- the same of the steps on tapes, taken or refused
abbrev pub steady : Keeper
steady = record {
  ON = OnTape;
  KEEPS = AllHold;
  alike = λ past. none_put past past refl;
  joined = hold_joined;
  at_same = tape_put;
  at_intake = λ was tape same. none_put was (with_intake was tape) refl;
  event_does = holds_does;
  keeps_begun = holds_begin;
}
