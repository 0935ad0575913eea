-- Over each step that goes by a funnel: what each peer has noted of its lines.
use Rattle.std.proofs.Common.{◌≡◌, ℕ, suc, ◌+◌, ◌<◌, ◌≤◌, ◌^◌, Bool, true, false, Some, List, [], ◌∷◌}
use Rattle.std.proofs.Common.{length, take, drop, refl, sym, ◌∙◌, subst, arith, take-append-drop}
use Rattle.std.specs.Prelude.{if◌then◌else◌}
use Rattle.std.specs.Global.{Vec}
use Rattle.std.specs.List.{AllByRecursion, AllZip, list_any, slice_get}
use Rattle.std.specs.Str.{bytes_eq}
use Rattle.feed_conf.specs.declared.conf.PeerConf.{PeerConf}
use Rattle.funnel.specs.LineLaws.{line_once}
use Rattle.ledger_core.specs.declared.note.Note.TheVariants.{Owe, Seen}
use Rattle.ledger_core.specs.State.{AllLegal, start}
use Rattle.ledger_core.specs.StateLaws.{AllLegal-append, AllLegal-prefix}
use Rattle.recovery.specs.Leaving.{mark_of}
use Rattle.recovery.specs.Notes.{History, noted}
use Rattle.sections.specs.ListLaws.{all_at, at_all, both_all, get_below, get_left, get_once, get_within, zip_get}
use Rattle.sections.specs.TapeLaws.{take_mark}
use Rattle.sections.specs.Tapes.{mark_at}
use Rattle.world_core.specs.Past.{Life, Past, PeerPast}
use Rattle.world_core.specs.Events.{Event, Opens, OpensIntake, Owes, Parts, each_rank}
use Rattle.world_core.specs.FunnelLaws.{Funnel, NamesPeer, StepGoesBy}
use Rattle.world_core.specs.Safe.{HasAcknowledged}
use Rattle.world_core.specs.Sound.{IsSound}
use Rattle.world_core.specs.Steps.{Good, IsPlan, IsReading, NotGood, Plan, Reading, is_named, must_run, owes_from}
use Rattle.world_core.specs.Steps.{reading_plan, seal_events}
use Rattle.world_core.specs.declared.step.Step.{Step}
use Rattle.world_core.specs.declared.step.Step.TheVariants.{Begin, Flush, Import, Line, Part, Restart, Rotate, Seal}
use Rattle.world_core.specs.declared.step.Step.TheVariants.{Shed}
use Rattle.world_core.proofs.AcknowledgedLines.{below_kept}
use Rattle.world_core.proofs.ImportEvents.{all_import}
use Rattle.world_core.proofs.LineNotes.{AreFed, AreLines, HasUpTo, fed_first, fed_more, fed_next, fed_same, up_less}
use Rattle.world_core.proofs.LineNotes.{up_more}
use Rattle.world_core.proofs.NotesOverEvents.{HasSince, Known, Since, knowing}
use Rattle.world_core.proofs.WalkOverTapes.{OnPlans, each_on}

-- ---- the lines that name a peer

abbrev pub Lines : Funnel → PeerPast → ℕ → List ℕ → List ℕ → Type 0
Lines funnel peer number token id = NamesPeer funnel number token id peer

pub are_lines : (funnel : Funnel) (peer : PeerPast) → AreLines (Lines funnel peer)
are_lines funnel peer = record {
  above = λ number token id names. names.above;
  once = λ number token id token' id' one other.
      let is = line_once (funnel number) token id token' id' one.named other.named one.reads other.reads in
      (is.0, is.1);
}

-- a peer of the same name
pub names_same : (funnel : Funnel) (was now : PeerPast) → now.conf ≡ was.conf → (number : ℕ) (token id : List ℕ)
    → NamesPeer funnel number token id was → NamesPeer funnel number token id now
names_same funnel was now same number token id names = record {
  above = names.above;
  named = names.named;
  reads = names.reads;
  names = subst (λ (conf : PeerConf). list_any (λ (name : List ℕ). bytes_eq name conf.name) names.named ≡ true)
      (sym same) names.names;
}

-- ---- what holds after each step

-- the peer's notes begin from nothing, and those of lines are of the funnel's, in their order
pub record IsFedPeer (funnel : Funnel) (peer : PeerPast) : Type 0 where
  pub base : peer.tape.history.base ≡ start
  pub fed : AreFed (Lines funnel peer) peer.tape.history.notes

-- each line up to this number that names the peer is noted there
abbrev pub HasLines : Funnel → ℕ → PeerPast → Type 0
HasLines funnel mark peer = HasUpTo (Lines funnel peer) mark peer.tape.history.notes

pub record IsFedPast (funnel : Funnel) (past : Past) : Type 0 where
  pub peers : AllByRecursion (IsFedPeer funnel) past.peers
  pub legal : AllLegal past.intake.history.base past.intake.history.notes
  pub marked : AllByRecursion (HasLines funnel (mark_at past.intake)) past.peers

-- in a world that runs, all lines that were read are noted
pub record IsFedLife (funnel : Funnel) (life : Life) : Type 0 where
  pub past : IsFedPast funnel life.past
  pub lines : life.running ≡ true → AllByRecursion (HasLines funnel life.past.last) life.past.peers

-- ---- lists

-- what holds of each element relates it to itself
zip_self : {A : Type 0} (P Q : A → Type 0) (R : A → A → Type 0) → ((x : A) → P x → Q x → R x x) → (xs : List A)
    → AllByRecursion P xs → AllByRecursion Q xs → AllZip R xs xs
zip_self P Q R each [] one other = tt
zip_self P Q R each (x ∷ xs) one other = (each x one.0 other.0, zip_self P Q R each xs one.1 other.1)

module _ (funnel : Funnel) (begun : Past) where
  abbrev Names : PeerPast → ℕ → List ℕ → List ℕ → Type 0
  Names peer = Lines funnel peer

  pub are : (peer : PeerPast) → AreLines (Names peer)
  are peer = are_lines funnel peer

  -- ---- a world that runs

  -- all lines up to the last are noted, and only the next one may be owed
  abbrev HasRead : PeerPast → History → Type 0
  HasRead old h = (h.base ≡ start) × AreFed (Names old) h.notes × HasUpTo (Names old) begun.last h.notes

  abbrev pub reading : Known begun
  reading = record {
    PEER = HasRead;
    INTAKE = λ (h : History) (last : ℕ). (last ≡ begun.last) × AllLegal h.base h.notes;
    OWES = λ (rank : ℕ) (token id : List ℕ). (old : PeerPast) → slice_get begun.peers rank ≡ Some old
        → Names old (begun.last + 1) token id;
    SEES = λ (number : ℕ). number < 2 ^ 64;
    OPENS = ⊥;
    more = λ old h notes off has. (
      has.0,
      fed_more (Names old) (are old) h.notes notes off has.1,
      up_more (Names old) (are old) begun.last h.notes notes has.2,
    );
    flushes = λ old h has. has;
    owes = λ rank token id old h intake last may here is has.
        subst (λ (n : ℕ). HasRead old (noted h (Owe (n + 1) token id))) (sym is.0) (
          has.0,
          fed_next (Names old) (are old) begun.last token id h.notes (may old here) has.2 has.1,
          up_more (Names old) (are old) begun.last h.notes (Owe (begun.last + 1) token id ∷ []) has.2,
        );
    opens = λ old h count may enough has. absurd may;
    acknowledges = λ h last is. is;
    sees = λ h last number may above is.
        (is.0, AllLegal-append h.base h.notes (Seen number ∷ []) is.1 ((may, above), tt));
    opens_intake = λ h last count may is. absurd may;
  }

  -- ---- a world that has stopped

  abbrev HasKept : PeerPast → History → Type 0
  HasKept old h = (number : ℕ) (token id : List ℕ) → number ≤ mark_at begun.intake → Names old number token id
      → (index : ℕ) × (slice_get h.notes index ≡ Some (Owe number token id)) × (index < h.kept)

  -- all lines up to the mark of the intake's tape are acknowledged, and none may be owed
  abbrev pub opening : Known begun
  opening = record {
    PEER = λ (old : PeerPast) (h : History). (h.base ≡ start) × AreFed (Names old) h.notes × HasKept old h;
    INTAKE = λ (h : History) (last : ℕ). AllLegal h.base h.notes × (mark_of h ≤ mark_at begun.intake);
    OWES = λ (rank : ℕ) (token id : List ℕ). ⊥;
    SEES = λ (number : ℕ). ⊥;
    OPENS = Unit {0};
    more = λ old h notes off has. (
      has.0,
      fed_more (Names old) (are old) h.notes notes off has.1,
      λ number token id below names.
          let one = has.2 number token id below names in
          (one.0, get_left h.notes notes one.0 (Owe number token id) one.1, one.2),
    );
    flushes = λ old h has. (
      has.0,
      has.1,
      λ number token id below names.
          let one = has.2 number token id below names in
          (one.0, one.1, get_within h.notes one.0 (Owe number token id) one.1),
    );
    owes = λ rank token id old h intake last may here is has. absurd may;
    opens = λ old h count may enough has. (
      has.0,
      fed_first (Names old) (are old) count h.notes has.1,
      λ number token id below names.
          let one = has.2 number token id below names in
          let less : one.0 < count = omega (arith, one.2, enough) in
          (one.0, get_below count h.notes one.0 (Owe number token id) less one.1, less),
    );
    acknowledges = λ h last is. is;
    sees = λ h last number may above is. absurd may;
    opens_intake = λ h last count may is. (
      AllLegal-prefix h.base (take count h.notes) (drop count h.notes)
          (subst (AllLegal h.base) (sym (take-append-drop count h.notes)) is.0),
      omega (arith, take_mark h.base h.notes count is.0, is.1),
    );
  }

  -- ---- what is known at first

  pub reads_first : IsFedPast funnel begun → AllByRecursion (HasLines funnel begun.last) begun.peers
      → HasSince begun reading begun
  reads_first fed lines = record {
    peers = zip_self (IsFedPeer funnel) (HasLines funnel begun.last) (Since begun reading)
        (λ peer one up. (refl, (one.base, one.fed, up))) begun.peers fed.peers lines;
    intake = (refl, fed.legal);
  }

  pub opens_first : IsFedPast funnel begun → IsSound begun → HasSince begun opening begun
  opens_first fed sound = record {
    peers = zip_self (IsFedPeer funnel) (λ (peer : PeerPast). HasLines funnel (mark_at begun.intake) peer
        × HasAcknowledged (mark_at begun.intake) peer) (Since begun opening)
        (λ peer one is. (
          refl,
          (
            one.base,
            one.fed,
            λ number token id below names.
                let noted = is.0 number token id below names in
                (noted.0, noted.1, below_kept (mark_at begun.intake) noted.0 number token id peer is.1 below noted.1),
          ),
        ))
        begun.peers fed.peers (at_all _ begun.peers (λ rank peer here. (
          all_at (HasLines funnel (mark_at begun.intake)) begun.peers rank peer fed.marked here,
          all_at (HasAcknowledged (mark_at begun.intake)) begun.peers rank peer sound.acknowledged here,
        )));
    intake = (fed.legal, omega arith);
  }

  -- ---- and what follows from it later

  -- what is known of the notes of a peer of the same name
  fed_peer : (old peer : PeerPast) → peer.conf ≡ old.conf → peer.tape.history.base ≡ start
      → AreFed (Names old) peer.tape.history.notes → IsFedPeer funnel peer
  fed_peer old peer same base fed = record {
    base = base;
    fed = fed_same (Names old) (Names peer) (names_same funnel old peer same)
        (names_same funnel peer old (sym same)) peer.tape.history.notes fed;
  }

  pub read_lines : (later : Past) → HasSince begun reading later
      → AllByRecursion (HasLines funnel later.last) later.peers
  read_lines later has = at_all (HasLines funnel later.last) later.peers (λ rank peer here.
      let old = zip_get (Since begun reading) begun.peers later.peers rank peer has.peers here in
      λ number token id below names.
      old.2.1.2 number token id (omega (arith, below, has.intake.0))
      (names_same funnel peer old.0 (sym old.2.0) number token id names))

  pub read_fed : (later : Past) → HasSince begun reading later → IsSound later → IsFedPast funnel later
  read_fed later has sound = record {
    peers = at_all (IsFedPeer funnel) later.peers (λ rank peer here.
        let old = zip_get (Since begun reading) begun.peers later.peers rank peer has.peers here in
        fed_peer old.0 peer old.2.0 old.2.1.0 old.2.1.1);
    legal = has.intake.1;
    marked = at_all (HasLines funnel (mark_at later.intake)) later.peers (λ rank peer here.
        up_less (Names peer) (are peer) (mark_at later.intake) later.last peer.tape.history.notes sound.marked
        (all_at (HasLines funnel later.last) later.peers rank peer (read_lines later has) here));
  }

  pub open_fed : (later : Past) → HasSince begun opening later → IsFedPast funnel later
  open_fed later has = record {
    peers = at_all (IsFedPeer funnel) later.peers (λ rank peer here.
        let old = zip_get (Since begun opening) begun.peers later.peers rank peer has.peers here in
        fed_peer old.0 peer old.2.0 old.2.1.0 old.2.1.1);
    legal = has.intake.0;
    marked = at_all (HasLines funnel (mark_at later.intake)) later.peers (λ rank peer here.
        let old = zip_get (Since begun opening) begun.peers later.peers rank peer has.peers here in
        λ number token id below names.
        let one = old.2.1.2 number token id (omega (arith, below, has.intake.1))
        (names_same funnel peer old.0 (sym old.2.0) number token id names) in
        (one.0, one.1));
  }

-- ---- the events of a step

-- what holds of a line at each peer that it names holds of all its events
owes_where : (P : Event → Type 0) (token id : List ℕ) (named : List (List ℕ)) (rank : ℕ) (peers : List PeerPast)
    → ((i : ℕ) (peer : PeerPast) → slice_get peers i ≡ Some peer → is_named named peer ≡ true
    → P (Owes (rank + i) token id))
    → AllByRecursion P (owes_from rank token id named peers)
owes_where P token id named rank [] each = tt
owes_where P token id named rank (peer ∷ peers) each =
    by (is_named named peer) refl (owes_where P token id named (rank + 1) peers (λ i p here is.
    subst (λ (n : ℕ). P (Owes n token id)) (next i) (each (suc i) p here is)))
  where
    next : (i : ℕ) → rank + suc i ≡ rank + 1 + i
    next i = omega arith

    first : rank + 0 ≡ rank
    first = omega arith

    by : (b : Bool) → is_named named peer ≡ b → AllByRecursion P (owes_from (rank + 1) token id named peers)
        → AllByRecursion P (if b then Owes rank token id ∷ owes_from (rank + 1) token id named peers
        else owes_from (rank + 1) token id named peers)
    by true is more = (subst (λ (n : ℕ). P (Owes n token id)) first (each 0 peer refl is), more)
    by false is more = more

module _ (funnel : Funnel) (life : Life) where
  abbrev Reads : Event → Type 0
  Reads = (knowing life.past (reading funnel life.past)).ON

  abbrev AllRead : Plan → Type 0
  AllRead plan = AllByRecursion Reads plan.events

  from_none : (i : ℕ) → 0 + i ≡ i
  from_none i = omega arith

  reading_on : (text : Vec ℕ) (read : Reading) → text.items ≡ funnel (life.past.last + 1) → IsReading text.items read
      → AllRead (reading_plan read life.past)
  reading_on text (Good token id named) goes reads =
      owes_where Reads token id named 0 life.past.peers (λ i peer here names old there. record {
        above = omega arith;
        named = named;
        reads = subst (λ (line : List ℕ). IsReading line (Good token id named)) goes reads;
        names = subst (λ (p : PeerPast). is_named named p ≡ true) (sym (get_once life.past.peers i peer old here
            (subst (λ (n : ℕ). slice_get life.past.peers n ≡ Some old) (from_none i) there))) names;
      })
  reading_on text (NotGood fault) goes reads = tt

  -- in a world that runs
  reads_on : (step : Step) → StepGoesBy funnel life step → IsSound life.past → must_run step ≡ true → (plan : Plan)
      → IsPlan step life.past plan → AllRead plan
  reads_on (Line text) goes sound must plan (fits, (read, reads, is)) =
      subst AllRead (sym is) (reading_on text read goes reads)
  reads_on Flush goes sound must plan is =
      subst AllRead (sym is) (both_all Reads (each_rank Parts (length life.past.peers)) (seal_events life.past.last)
      (each_on Reads Parts (λ rank. tt) (length life.past.peers)) (sound.fits, (tt, tt)))
  reads_on Begin goes sound must plan is = subst AllRead (sym is) tt
  reads_on (Part name) goes sound must plan (rank, here, is) = subst AllRead (sym is) (tt, tt)
  reads_on Seal goes sound must plan (number, may, is) =
      subst AllRead (sym is) (omega (arith, sound.kept number may.0, sound.fits), (tt, tt))
  reads_on (Shed name) goes sound must plan (rank, here, (numbers, is)) = subst AllRead (sym is) (tt, tt)
  reads_on (Rotate name) goes sound must plan (rank, here, (generation, is)) = subst AllRead (sym is) (tt, tt)
  reads_on (Import name text) goes sound must plan (events, its, is) =
      subst AllRead (sym is) (subst (AllByRecursion Reads) (sym its.events_are)
      (all_import Reads its.rank tt tt (λ number token id. tt) _ _ its.lines))
  reads_on Restart goes sound must plan is = absurd (let no : false ≡ true = must in cc)
  reads_on step goes sound must plan none = absurd none

  pub on_reading : (step : Step) → StepGoesBy funnel life step → IsSound life.past → life.running ≡ true
      → OnPlans (knowing life.past (reading funnel life.past)) step life
  on_reading step goes sound running runs plan is = reads_on step goes sound (sym runs ∙ running) plan is

  -- in one that has stopped
  pub on_opening : (step : Step) → life.running ≡ false
      → OnPlans (knowing life.past (opening funnel life.past)) step life
  on_opening Restart stopped runs plan is =
      subst (λ (p : Plan). AllByRecursion (knowing life.past (opening funnel life.past)).ON p.events) (sym is)
      (both_all (knowing life.past (opening funnel life.past)).ON (each_rank Opens (length life.past.peers))
      (OpensIntake ∷ [])
      (each_on (knowing life.past (opening funnel life.past)).ON Opens (λ rank. tt) (length life.past.peers)) (tt, tt))
  on_opening step stopped runs plan is = absurd (let no : false ≡ true = sym stopped ∙ runs in cc)
