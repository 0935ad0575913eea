-- Over any run that goes by a funnel, from an empty spool on: what each peer has noted of its lines.
use Rattle.std.proofs.Common.{◌≡◌, ◌⊎◌, ℕ, ◌+◌, ◌≤◌, Bool, true, false, List, []}
use Rattle.std.proofs.Common.{◌∷◌, ◌++◌, map, refl, sym, ap, ◌∙◌, subst, inl, inr, arith}
use Rattle.std.specs.Prelude.{◌&&◌, if◌then◌else◌, nat_lt}
use Rattle.std.specs.Global.{Vec}
use Rattle.std.specs.List.{AllByRecursion}
use Rattle.std.proofs.lemmas.Bool.{cases_lt, lt-ltb}
use Rattle.funnel.specs.Line.{IsFunnelLine}
use Rattle.funnel.specs.LineLaws.{good_faultless, line_once}
use Rattle.ledger_core.specs.declared.note.Note.{Note}
use Rattle.ledger_core.specs.declared.note.Note.TheVariants.{Owe}
use Rattle.ledger_core.specs.State.{AllLegal, State, after, start}
use Rattle.peer_queue.specs.declared.limits.Owed.TheVariants.{New}
use Rattle.recovery.specs.Leaving.{mark_of}
use Rattle.recovery.specs.Notes.{History}
use Rattle.sections.specs.ListLaws.{all_weaker, at_all}
use Rattle.sections.specs.Tapes.{mark_at}
use Rattle.world_core.specs.Past.{Life, Past, PeerPast, with_last, with_past}
use Rattle.world_core.specs.Crashes.{Crashes}
use Rattle.world_core.specs.Events.{owing_as}
use Rattle.world_core.specs.FunnelLaws.{Funnel, GoesBy, IsEmpty, NamesPeer, StepGoesBy}
use Rattle.world_core.specs.Laws.{Comes}
use Rattle.world_core.specs.Laws.Comes.{No_step, Step_taken, Step_refused, Crashed}
use Rattle.world_core.specs.LineLaws.{WasBad, WasRead, read_at, read_by}
use Rattle.world_core.specs.Output.{View}
use Rattle.world_core.specs.Runs.{RefusesStep, Takes}
use Rattle.world_core.specs.Sound.{IsSound}
use Rattle.world_core.specs.Steps.{IsReading, NotGood, is_named}
use Rattle.world_core.specs.declared.fault.Fault.{Fault}
use Rattle.world_core.specs.declared.step.Step.{Step}
use Rattle.world_core.specs.declared.step.Step.TheVariants.{Line}
use Rattle.world_core.proofs.FunnelOverSteps.{HasLines, IsFedLife, IsFedPeer, Lines, are_lines}
use Rattle.world_core.proofs.FunnelOverSteps.{names_same, on_opening, on_reading, open_fed, opening, opens_first}
use Rattle.world_core.proofs.FunnelOverSteps.{read_fed, read_lines, reading, reads_first}
use Rattle.world_core.proofs.LineDebts.{lines_read_again}
use Rattle.world_core.proofs.LineNotes.{AreFed, fed_mark, fed_next, fed_none, fed_same, up_less, up_next}
use Rattle.world_core.proofs.LineNotes.{up_none}
use Rattle.world_core.proofs.NotesOverEvents.{HasSince, knowing, peer_since, same_since}
use Rattle.world_core.proofs.RecoveredNotes.{comes_sound}
use Rattle.world_core.proofs.RestartedLines.{either, restarted, stays_stopped}
use Rattle.world_core.proofs.WalkOverSteps.{Passage, over_tapes, refuses_make, takes_make}
use Rattle.world_core.proofs.WalkOverTapes.{Concludes, OnPlans, any_ends, crash_keeps}

-- ---- lists

all_mapped : {A B : Type 0} (P : A → Type 0) (Q : B → Type 0) (f : A → B) → ((x : A) → P x → Q (f x)) → (xs : List A)
    → AllByRecursion P xs → AllByRecursion Q (map f xs)
all_mapped P Q f each [] all = tt
all_mapped P Q f each (x ∷ xs) all = (each x all.0, all_mapped P Q f each xs all.1)

both_hold : {A : Type 0} (P Q : A → Type 0) (xs : List A) → AllByRecursion P xs → AllByRecursion Q xs
    → AllByRecursion (λ (x : A). P x × Q x) xs
both_hold P Q [] one other = tt
both_hold P Q (x ∷ xs) one other = ((one.0, other.0), both_hold P Q xs one.1 other.1)

-- a step reads a line, or leaves the tapes at its end as they are
read_or_not : (step : Step) → ((text : Vec ℕ) × (step ≡ Line text))
    ⊎ ((was now : Past) → Concludes step was now → now ≡ was)
read_or_not (Line text) = inl (text, refl)
read_or_not step = inr (λ was now is. is)

module _ (funnel : Funnel) where
  -- ---- a line is read

  -- a peer's notes, and each line up to a number
  abbrev HasAll : ℕ → PeerPast → Type 0
  HasAll last peer = IsFedPeer funnel peer × HasLines funnel last peer

  -- if a line that names the peer is the next one, it is this line, and so it names the peer by the same words
  module _ (last : ℕ) (token id : List ℕ) (named : List (List ℕ))
      (reads : IsFunnelLine (funnel (last + 1)) token id named) where
    -- each line up to the next one is noted, if that does not name the peer, or is noted, too
    up_to_next : (peer : PeerPast) → HasLines funnel last peer
        → (is_named named peer ≡ true → HasLines funnel (last + 1) peer) → HasLines funnel (last + 1) peer
    up_to_next peer up next number t i below names = elim (cases_lt last number) [
      | inl above ↦ (
          let same : number ≡ last + 1 = omega (arith, above, below) in
          let line = subst (λ (n : ℕ). IsFunnelLine (funnel n) t i names.named) same names.reads in
          let once = line_once (funnel (last + 1)) t i token id names.named named line reads in
          next (subst (λ (ns : List (List ℕ)). is_named ns peer ≡ true) once.2 names.names) number t i below names)
      | inr more ↦ up number t i more names
    ]

    -- the line is read at a peer
    read_peer : (peer : PeerPast) → HasAll last peer → HasAll (last + 1) (read_at (last + 1) token id named peer)
    read_peer peer (one, up) = by (is_named named peer) (nat_lt (mark_at peer.tape) (last + 1)) refl refl
      where
        Own : ℕ → List ℕ → List ℕ → Type 0
        Own = Lines funnel peer

        notes : List Note
        notes = peer.tape.history.notes

        -- it is new to the peer
        new_line : NamesPeer funnel (last + 1) token id peer
            → HasAll (last + 1) (owing_as New (last + 1) token id peer)
        new_line names =
            let new = owing_as New (last + 1) token id peer in
            let more = notes ++ Owe (last + 1) token id ∷ [] in (
              record {
                base = one.base;
                fed = fed_same Own (Lines funnel new) (names_same funnel peer new refl)
                    (names_same funnel new peer refl) more (fed_next Own (are_lines funnel peer) last token id notes names up one.fed);
              },
              λ number t i below own. up_next Own (are_lines funnel peer) last token id notes names up number t i below
                  (names_same funnel new peer refl number t i own),
            )

        -- it was noted before
        old_line : last + 1 ≤ mark_at peer.tape → HasLines funnel (last + 1) peer
        old_line reached =
            up_less Own (are_lines funnel peer) (last + 1) (after start notes).mark notes
            (subst (λ (base : State). last + 1 ≤ (after base notes).mark) one.base reached)
            (fed_mark Own (are_lines funnel peer) notes one.fed)

        by : (b c : Bool) → is_named named peer ≡ b → nat_lt (mark_at peer.tape) (last + 1) ≡ c
            → HasAll (last + 1) (if b && c then owing_as New (last + 1) token id peer else peer)
        by true true names less = new_line (record { above = omega arith; named = named; reads = reads; names = names })
        by true false names less = (
          one,
          elim (cases_lt (mark_at peer.tape) (last + 1)) [
            | inl below ↦ absurd (let no : false ≡ true = sym less ∙ lt-ltb (mark_at peer.tape) (last + 1) below in cc)
            | inr reached ↦ old_line reached
          ],
        )
        by false c names less =
            (one, up_to_next peer up (λ is. absurd (let no : false ≡ true = sym names ∙ is in cc)))

  -- once each line up to the last is noted
  all_read : (life : Life) → AllByRecursion (HasAll life.past.last) life.past.peers
      → AllLegal life.past.intake.history.base life.past.intake.history.notes → IsSound life.past
      → IsFedLife funnel life
  all_read life all legal sound = record {
    past = record {
      peers = all_weaker (HasAll life.past.last) (IsFedPeer funnel) (λ peer is. is.0) life.past.peers all;
      legal = legal;
      marked = all_weaker (HasAll life.past.last) (HasLines funnel (mark_at life.past.intake))
          (λ peer is. up_less (Lines funnel peer) (are_lines funnel peer) (mark_at life.past.intake) life.past.last
          peer.tape.history.notes sound.marked is.1) life.past.peers all;
    };
    lines = λ running.
        all_weaker (HasAll life.past.last) (HasLines funnel life.past.last) (λ peer is. is.1) life.past.peers all;
  }

  line_fed : (text : List ℕ) (life : Life) (outputs : List View) (later : Life) → text ≡ funnel (life.past.last + 1)
      → IsFedLife funnel life → life.running ≡ true → IsSound later.past
      → WasRead (life.past.last + 1) text life outputs later ⊎ WasBad (life.past.last + 1) text life outputs later
      → IsFedLife funnel later
  line_fed text life outputs later goes fed running sound (inl was) =
      let reads = subst (λ (line : List ℕ). IsFunnelLine line was.token was.id was.named) goes was.reads in
      let now = with_past life (read_by (life.past.last + 1) was.token was.id was.named life.past) in
      subst (IsFedLife funnel) (sym was.changed) (all_read now
      (all_mapped (HasAll life.past.last) (HasAll (life.past.last + 1))
      (read_at (life.past.last + 1) was.token was.id was.named)
      (read_peer life.past.last was.token was.id was.named reads) life.past.peers
      (both_hold (IsFedPeer funnel) (HasLines funnel life.past.last) life.past.peers fed.past.peers
      (fed.lines running)))
      fed.past.legal (subst (λ (l : Life). IsSound l.past) was.changed sound))
  line_fed text life outputs later goes fed running sound (inr was) =
      let fault = subst (λ (line : List ℕ). IsReading line (NotGood was.fault)) goes was.reads in
      let now = with_past life (with_last life.past (life.past.last + 1)) in
      subst (IsFedLife funnel) (sym was.changed) (all_read now
      (all_weaker (HasAll life.past.last) (HasAll (life.past.last + 1)) (λ peer is. (
        is.0,
        λ number t i below names. elim (cases_lt life.past.last number) [
          | inl above ↦
              let same : number ≡ life.past.last + 1 = omega (arith, above, below) in
              absurd (good_faultless (funnel (life.past.last + 1)) t i names.named was.fault
              (subst (λ (n : ℕ). IsFunnelLine (funnel n) t i names.named) same names.reads)
              (record { has = fault.0; own = fault.1 }))
          | inr more ↦ is.1 number t i more names
        ],
      )) life.past.peers
      (both_hold (IsFedPeer funnel) (HasLines funnel life.past.last) life.past.peers fed.past.peers
      (fed.lines running)))
      fed.past.legal (subst (λ (l : Life). IsSound l.past) was.changed sound))

  -- ---- any step of a world that runs

  after_reading : (life later : Life) → IsFedLife funnel life → life.running ≡ true → IsSound later.past
      → (HasSince life.past (reading funnel life.past) life.past
      → HasSince life.past (reading funnel life.past) later.past) → IsFedLife funnel later
  after_reading life later fed running sound keeps =
      let has = keeps (reads_first funnel life.past fed.past (fed.lines running)) in
      record {
        past = read_fed funnel life.past later.past has sound;
        lines = λ runs. read_lines funnel life.past later.past has;
      }

  abbrev reading_passage : Life → Passage
  reading_passage life =
      over_tapes (knowing life.past (reading funnel life.past)) (same_since life.past (reading funnel life.past))
      (peer_since life.past (reading funnel life.past))

  taken_running : (step : Step) (life : Life) (outputs : List View) (later : Life) → StepGoesBy funnel life step
      → IsFedLife funnel life → IsSound life.past → IsSound later.past → life.running ≡ true
      → Takes step life outputs later → IsFedLife funnel later
  taken_running step life outputs later goes fed before sound running takes = elim (read_or_not step) [
    | inl (text, is) ↦
        line_fed text.items life outputs later (subst (StepGoesBy funnel life) is goes) fed running sound
        (lines_read_again life later outputs text (subst (λ (s : Step). Takes s life outputs later) is takes))
    | inr rests ↦
        after_reading life later fed running sound
        (takes_make (reading_passage life) step life outputs later (on_reading funnel life step goes before running)
        (λ was now is. λ has. subst (HasSince life.past (reading funnel life.past)) (sym (rests was now is)) has) takes)
  ]

  refused_running : (step : Step) (life : Life) (fault : Fault) (later : Life) → StepGoesBy funnel life step
      → IsFedLife funnel life → IsSound life.past → IsSound later.past → life.running ≡ true
      → RefusesStep step life fault later → IsFedLife funnel later
  refused_running step life fault later goes fed before sound running refuses =
      after_reading life later fed running sound
      (refuses_make (reading_passage life) step life fault later (on_reading funnel life step goes before running)
      refuses)

  crashed_running : (cut : List Step) (life later : Life) → AllByRecursion (StepGoesBy funnel life) cut
      → IsFedLife funnel life → IsSound life.past → IsSound later.past → life.running ≡ true
      → Crashes life cut later → IsFedLife funnel later
  crashed_running cut life later goes fed before sound running crash =
      after_reading life later fed running sound
      (crash_keeps (knowing life.past (reading funnel life.past)) (same_since life.past (reading funnel life.past)) life
      cut later (all_weaker (StepGoesBy funnel life)
      (λ (step : Step). OnPlans (knowing life.past (reading funnel life.past)) step life)
      (λ step one. on_reading funnel life step one before running) cut goes) crash)

  -- ---- and of one that has stopped

  after_opening : (life later : Life) → IsFedLife funnel life → IsSound life.past
      → (later.running ≡ true → later.past.last ≡ mark_at later.past.intake)
      → (HasSince life.past (opening funnel life.past) life.past
      → HasSince life.past (opening funnel life.past) later.past) → IsFedLife funnel later
  after_opening life later fed sound goes_on keeps =
      let past = open_fed funnel life.past later.past (keeps (opens_first funnel life.past fed.past sound)) in
      record {
        past = past;
        lines = λ runs. subst (λ (n : ℕ). AllByRecursion (HasLines funnel n) later.past.peers) (sym (goes_on runs))
            past.marked;
      }

  abbrev opening_passage : Life → Passage
  opening_passage life =
      over_tapes (knowing life.past (opening funnel life.past)) (same_since life.past (opening funnel life.past))
      (peer_since life.past (opening funnel life.past))

  taken_stopped : (step : Step) (life : Life) (outputs : List View) (later : Life)
      → IsFedLife funnel life → IsSound life.past → life.running ≡ false
      → Takes step life outputs later → IsFedLife funnel later
  taken_stopped step life outputs later fed sound stopped takes =
      after_opening life later fed sound (restarted step life outputs later stopped takes)
      (takes_make (opening_passage life) step life outputs later (on_opening funnel life step stopped)
      (any_ends (knowing life.past (opening funnel life.past))
      (λ was number has. record { peers = has.peers; intake = has.intake }) step) takes)

  refused_stopped : (step : Step) (life : Life) (fault : Fault) (later : Life)
      → IsFedLife funnel life → IsSound life.past → life.running ≡ false
      → RefusesStep step life fault later → IsFedLife funnel later
  refused_stopped step life fault later fed sound stopped refuses =
      after_opening life later fed sound
      (λ runs. absurd (let no : false ≡ true = sym (stays_stopped step life fault later stopped refuses) ∙ runs in cc))
      (refuses_make (opening_passage life) step life fault later (on_opening funnel life step stopped) refuses)

  crashed_stopped : (cut : List Step) (life later : Life)
      → IsFedLife funnel life → IsSound life.past → life.running ≡ false
      → Crashes life cut later → IsFedLife funnel later
  crashed_stopped cut life later fed sound stopped crash =
      after_opening life later fed sound
      (λ runs. absurd (let no : false ≡ true = sym (ap (λ (l : Life). l.running) crash.changed) ∙ runs in cc))
      (crash_keeps (knowing life.past (opening funnel life.past)) (same_since life.past (opening funnel life.past)) life
      cut later (at_all (λ (step : Step). OnPlans (knowing life.past (opening funnel life.past)) step life) cut
      (λ i step here. on_opening funnel life step stopped)) crash)

  -- ---- a run

  empty_fed : (life : Life) → IsEmpty life → IsFedLife funnel life
  empty_fed life empty = record {
    past = record {
      peers = all_weaker _ (IsFedPeer funnel) (λ peer none. record {
        base = ap (λ (h : History). h.base) none;
        fed = subst (λ (h : History). AreFed (Lines funnel peer) h.notes) (sym none)
            (fed_none (Lines funnel peer) (are_lines funnel peer));
      }) life.past.peers empty.peers;
      legal = subst (λ (h : History). AllLegal h.base h.notes) (sym empty.intake) tt;
      marked = none_read (mark_at life.past.intake) (ap mark_of empty.intake);
    };
    lines = λ running. none_read life.past.last empty.last;
  }
    where
      none_read : (n : ℕ) → n ≡ 0 → AllByRecursion (HasLines funnel n) life.past.peers
      none_read n is = at_all (HasLines funnel n) life.past.peers (λ rank peer here.
          subst (λ (m : ℕ). HasLines funnel m peer) (sym is)
          (up_none (Lines funnel peer) (are_lines funnel peer) peer.tape.history.notes))

  pub fed_run : (begun : Life) (steps : List Step) (lines : List (List View)) (later : Life)
      → (comes : Comes begun steps lines later) → IsEmpty begun → GoesBy funnel begun steps lines later comes
      → IsFedLife funnel later
  fed_run begun _ _ _ (No_step safe sound) empty goes = empty_fed begun empty
  fed_run begun _ _ _ (Step_taken steps step lines outputs life later comes takes safe sound) empty (before, goes) =
      let fed = fed_run begun steps lines life comes empty before in
      let was = (comes_sound begun steps lines life comes).past in
      elim (either life.running) [
        | inl running ↦ taken_running step life outputs later goes fed was sound.past running takes
        | inr stopped ↦ taken_stopped step life outputs later fed was stopped takes
      ]
  fed_run begun _ _ _ (Step_refused steps step lines fault life later comes refuses safe sound) empty (before, goes) =
      let fed = fed_run begun steps lines life comes empty before in
      let was = (comes_sound begun steps lines life comes).past in
      elim (either life.running) [
        | inl running ↦ refused_running step life fault later goes fed was sound.past running refuses
        | inr stopped ↦ refused_stopped step life fault later fed was stopped refuses
      ]
  fed_run begun _ _ _ (Crashed steps cut lines life later comes crash) empty (before, goes) =
      let fed = fed_run begun steps lines life comes empty before in
      let was = (comes_sound begun steps lines life comes).past in
      let sound = comes_sound begun (steps ++ cut) lines later (Crashed steps cut lines life later comes crash) in
      elim (either life.running) [
        | inl running ↦ crashed_running cut life later goes fed was sound.past running crash
        | inr stopped ↦ crashed_stopped cut life later fed was stopped crash
      ]
