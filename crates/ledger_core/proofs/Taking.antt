-- A tape while it is read, from one payload to the next.
use Rattle.std.proofs.Common.{◌≡◌, ℕ, ◌+◌, ◌-◌, ◌<◌, ◌≤◌, ◌^◌, List, [], ◌∷◌, ◌++◌, length, take, drop, min}
use Rattle.std.proofs.Common.{Result, Ok, Err, inl, inr, refl, sym, ap, ◌∙◌, subst, arith, ⊎_elim}
use Rattle.std.proofs.Common.{length-drop, length-take}
use Rattle.std.specs.Prelude.{◌⊎◌, Bool, true, false, if◌then◌else◌, IsTrue, OnOk}
use Rattle.std.proofs.lemmas.Bool.{cases_lt}
use Rattle.std.proofs.lemmas.List.{append-nil, drop-append-le, drop_all, length_push, take_all, take-append-le}
use Rattle.ledger_core.specs.declared.base.Base.{Base}
use Rattle.ledger_core.specs.declared.ledger.Ledger.{Ledger}
use Rattle.ledger_core.specs.declared.note.Note.{Note}
use Rattle.ledger_core.specs.declared.note.Note.TheVariants.{Owe, Final, Drop, Seen, Closed}
use Rattle.ledger_core.specs.declared.restoring.RefusedPayload.{RefusedPayload}
use Rattle.ledger_core.specs.declared.restoring.Restoring.{Restoring}
use Rattle.ledger_core.specs.declared.restoring.RestoreStage.{RestoreStage}
use Rattle.ledger_core.specs.declared.restoring.RestoreStage.TheVariants.{Unread, Begun, Refused}
use Rattle.ledger_core.specs.Base.{BeginsWith, IsBase, IsSound, LeavesBehind, RestoreStopsAt, Restores}
use Rattle.ledger_core.specs.Base.{SpellsNoBase, base_spelling, based_on, has_imports, marks_in, owe}
use Rattle.ledger_core.specs.Batch.{IsBatch, longest_batch, notes_of, payload_of, payloads_of}
use Rattle.ledger_core.specs.BatchLaws.{AreBatches-append, notes_of-append, payloads_of-append}
use Rattle.ledger_core.specs.Index.{Indexes}
use Rattle.ledger_core.specs.IndexLaws.{indexes-more}
use Rattle.ledger_core.specs.Ledger.{state_of}
use Rattle.ledger_core.specs.Owing.{OwesAll, SpellsNoFurther, TakesDebt, owing_state}
use Rattle.ledger_core.specs.Replay.{LeavesFrom, SpellsNoLegal, StopsFrom}
use Rattle.ledger_core.specs.Restoring.{HasGoneOn, HasRead, HasStopped, HasTaken, IsOwing, IsPlace, IsWhole, StopsWith}
use Rattle.ledger_core.specs.SpellingLaws.{spelling-short}
use Rattle.ledger_core.specs.Spots.{StandsAt, records_length}
use Rattle.ledger_core.specs.State.{State, AllLegal, after, start, step}
use Rattle.ledger_core.specs.StateLaws.{AllLegal-append, after-append}
use Rattle.ledger_core.proofs.Indexed.{base-length, records-push}
use Rattle.ledger_core.proofs.Longer.{begins-longer, found-next, no-base-longer, restore-longer}
use Rattle.ledger_core.proofs.Owed.{has-count, has-longer, owes-count, owes-end, owes-missing, owes-more, owes-none}
use Rattle.ledger_core.proofs.Owed.{owing-whole}

-- these octets spell notes that are legal in turn behind this state, and leave that one
abbrev pub Steps : State → List ℕ → State → Type 0
Steps state payload new =
    (batch : List Note) × IsBatch batch × (payload ≡ payload_of batch) × AllLegal state batch × (new ≡ after state batch)

-- ---- notes

leaves-push : (first : State) (payloads : List (List ℕ)) (payload : List ℕ) (state new : State)
    → LeavesFrom first payloads state → Steps state payload new → LeavesFrom first (payloads ++ payload ∷ []) new
leaves-push first payloads payload state new before (batch, is_batch, spelled, legal, stepped) =
    let batches = before.0 in
    let prefix = notes_of batches in
    let whole : notes_of (batches ++ batch ∷ []) ≡ prefix ++ batch =
    notes_of-append batches (batch ∷ []) ∙ ap (λ (l : List Note). prefix ++ l) (append-nil batch) in
    let here : AllLegal (after first prefix) batch = subst (λ s. AllLegal s batch) before.4 legal in (
      batches ++ batch ∷ [],
      AreBatches-append batches (batch ∷ []) before.1 (is_batch, tt),
      ap (λ (l : List (List ℕ)). l ++ payload ∷ []) before.2
          ∙ ap (λ x. payloads_of batches ++ x ∷ []) spelled
          ∙ sym (payloads_of-append batches (batch ∷ [])),
      subst (AllLegal first) (sym whole) (AllLegal-append first prefix batch before.3 here),
      stepped ∙ ap (λ s. after s batch) before.4 ∙ sym (after-append first prefix batch)
          ∙ ap (after first) (sym whole),
    )

stops-push : (first : State) (payloads : List (List ℕ)) (payload : List ℕ) (state : State)
    → LeavesFrom first payloads state → SpellsNoLegal state payload
    → StopsFrom first (payloads ++ payload ∷ []) (length payloads)
stops-push first payloads payload state before none = record {
  state = state;
  before = subst (λ ps. LeavesFrom first ps state)
      (sym (take-append-le (length payloads) payloads (payload ∷ []) (omega arith)
      ∙ take_all (length payloads) payloads (omega arith))) before;
  octets = payload;
  here = found-next payloads payload;
  stops = none;
}

-- a note takes no debt back from those that were taken
taken-step : (state : State) (note : Note) → state.taken ≤ (step state note).taken
taken-step state (Owe key token id) = omega arith
taken-step state (Final key code) = omega arith
taken-step state (Drop key cause) = omega arith
taken-step state (Seen number) = omega arith
taken-step state (Closed source) = omega arith

taken-grows : (state : State) (notes : List Note) → state.taken ≤ (after state notes).taken
taken-grows state [] = omega arith
taken-grows state (note ∷ notes) = omega (arith, taken-step state note, taken-grows (step state note) notes)

restores-push : (payloads : List (List ℕ)) (payload : List ℕ) (generation : ℕ) (state new : State)
    → 1 ≤ length payloads → Restores payloads generation state → Steps state payload new
    → Restores (payloads ++ payload ∷ []) generation new
restores-push payloads payload generation state new some (inl (none, is, leaves)) steps =
    inl (
      no-base-longer payloads (payload ∷ []) (omega (arith, some)) none,
      is,
      leaves-push start payloads payload state new leaves steps,
    )
restores-push payloads payload generation state new some (inr (base, behind, begins, is, leaves)) steps =
    let debts = leaves.debts in
    inr (
      base,
      behind ++ payload ∷ [],
      begins-longer payloads (payload ∷ []) base behind begins,
      is,
      record {
        sound = leaves.sound;
        debts = debts;
        live = leaves.live;
        has = has-longer (marks_in base) behind (payload ∷ []) debts leaves.has;
        notes = subst (λ ps. LeavesFrom (based_on base debts) ps new)
            (sym (drop-append-le (length debts) behind (payload ∷ [])
            (has-count (marks_in base) behind debts leaves.has)))
            (leaves-push (based_on base debts) (drop (length debts) behind) payload state new leaves.notes steps);
      },
    )

-- one payload more of notes
pub whole-more : (generation taken : ℕ) (payloads : List (List ℕ)) (payload : List ℕ) (state new : State)
    → IsWhole generation taken payloads state → Steps state payload new
    → IsWhole generation taken (payloads ++ payload ∷ []) new
whole-more generation taken payloads payload state new whole steps = record {
  begun = omega (arith, length_push payloads payload);
  restores = restores-push payloads payload generation state new whole.begun whole.restores steps;
  enough = omega (arith, whole.enough, taken-grows state steps.0, ap (λ (s : State). s.taken) steps.4);
}

-- and one that is none
pub whole-stops : (generation taken : ℕ) (payloads : List (List ℕ)) (payload : List ℕ) (state : State)
    → IsWhole generation taken payloads state → SpellsNoLegal state payload
    → RestoreStopsAt (payloads ++ payload ∷ []) (length payloads)
whole-stops generation taken payloads payload state whole none = by-form whole.restores
  where
    by-form : Restores payloads generation state → RestoreStopsAt (payloads ++ payload ∷ []) (length payloads)
    by-form (inl (no_base, is, leaves)) =
        inl (
          no-base-longer payloads (payload ∷ []) (omega (arith, whole.begun)) no_base,
          stops-push start payloads payload state leaves none,
        )
    by-form (inr (base, behind, begins, is, leaves)) =
        let debts = leaves.debts in
        let few = has-count (marks_in base) behind debts leaves.has in
        let rest = drop (length debts) behind in
        inr (
          base,
          behind ++ payload ∷ [],
          begins-longer payloads (payload ∷ []) base behind begins,
          inr (inr (
            leaves.sound,
            (
              debts,
              has-longer (marks_in base) behind (payload ∷ []) debts leaves.has,
              leaves.live,
              (
                length rest,
                omega (arith, few, ap length begins.split, length-drop (length debts) behind),
                subst (λ ps. StopsFrom (based_on base debts) ps (length rest))
                    (sym (drop-append-le (length debts) behind (payload ∷ []) few))
                    (stops-push (based_on base debts) rest payload state leaves.notes none),
              ),
            ),
          )),
        )

-- ---- the first payload

-- it is of notes
pub first-whole : (payload : List ℕ) (state new : State) → SpellsNoBase payload → state ≡ start
    → Steps state payload new → IsWhole 0 0 (payload ∷ []) new
first-whole payload state new none is steps = record {
  begun = omega arith;
  restores = inl (
    none,
    refl,
    leaves-push start [] payload start new ([], tt, refl, tt, refl) (subst (λ s. Steps s payload new) is steps),
  );
  enough = omega arith;
}

pub first-stops : (payload : List ℕ) (state : State) → SpellsNoBase payload → state ≡ start
    → SpellsNoLegal state payload → RestoreStopsAt (payload ∷ []) 0
first-stops payload state none is stops =
    inl (
      none,
      stops-push start [] payload start ([], tt, refl, tt, refl) (subst (λ s. SpellsNoLegal s payload) is stops),
    )

-- it is a Base from which no ledger may begin
pub first-unsound : (payload : List ℕ) (base : Base) → IsBase base → payload ≡ base_spelling base
    → (IsSound base → ⊥) → RestoreStopsAt (payload ∷ []) 0
first-unsound payload base is spelled unsound =
    inr (base, [], record { is = is; split = ap (λ (x : List ℕ). x ∷ []) spelled }, inl (unsound, refl))

-- ---- a Base and its debts

-- all debts of a Base and nothing more
all-there : (base : Base) (behind : List (List ℕ)) (state : State) → IsSound base → OwesAll base behind state
    → length behind ≡ base.live → LeavesBehind base behind state
all-there base behind state sound (debts, has, all, is) live = record {
  sound = sound;
  debts = debts;
  live = all ∙ live;
  has = has;
  notes = subst (λ ps. LeavesFrom (based_on base debts) ps state)
      (sym (drop_all (length debts) behind (omega (arith, all))))
      ([], tt, refl, tt, owing-whole base debts state sound (all ∙ live) is);
}

-- the debts are all there, or one is missing
owing-or-whole : (payloads : List (List ℕ)) (base : Base) (behind : List (List ℕ)) (state : State)
    → BeginsWith payloads base behind → IsSound base → OwesAll base behind state → state.taken ≤ base.taken
    → IsOwing base.generation base.taken payloads state ⊎ IsWhole base.generation base.taken payloads state
owing-or-whole payloads base behind state begins sound owes few =
    ⊎_elim
    (λ (missing : state.taken < base.taken). inl (record {
      base = base;
      behind = behind;
      begins = begins;
      sound = sound;
      owes = owes;
      generation_is = refl;
      taken_is = refl;
      missing = missing;
    }))
    (λ (enough : base.taken ≤ state.taken).
    let live : length behind ≡ base.live =
    omega (arith, few, enough, owes-count base behind state owes, sound.counted) in
    inr (record {
      begun = omega (arith, ap length begins.split);
      restores = inr (base, behind, begins, refl, all-there base behind state sound owes live);
      enough = enough;
    }))
    (cases_lt state.taken base.taken)

-- it is a Base
pub first-base : (payload : List ℕ) (base : Base) (state : State) → IsBase base → payload ≡ base_spelling base
    → IsSound base → state ≡ owing_state base []
    → IsOwing base.generation base.taken (payload ∷ []) state ⊎ IsWhole base.generation base.taken (payload ∷ []) state
first-base payload base state is spelled sound state_is =
    owing-or-whole (payload ∷ []) base [] state (record { is = is; split = ap (λ (x : List ℕ). x ∷ []) spelled }) sound
    (owes-none base state state_is) (omega (arith, sound.counted, ap (λ (s : State). s.taken) state_is))

-- one debt more
pub owing-more-payload : (generation taken : ℕ) (payloads : List (List ℕ)) (payload : List ℕ) (state new : State)
    → IsOwing generation taken payloads state → TakesDebt payload state new
    → IsOwing generation taken (payloads ++ payload ∷ []) new ⊎ IsWhole generation taken (payloads ++ payload ∷ []) new
owing-more-payload generation taken payloads payload state new owing takes =
    let base = owing.base in
    let said = owing-or-whole (payloads ++ payload ∷ []) base (owing.behind ++ payload ∷ []) new
    (begins-longer payloads (payload ∷ []) base owing.behind owing.begins) owing.sound
    (owes-more base owing.behind payload state new owing.owes takes)
    (omega (arith, owing.missing, owing.taken_is, ap (λ (s : State). s.taken) takes.state_is)) in
    subst (λ (g : ℕ). IsOwing g taken (payloads ++ payload ∷ []) new ⊎ IsWhole g taken (payloads ++ payload ∷ []) new)
    (sym owing.generation_is)
    (subst (λ (t : ℕ). IsOwing base.generation t (payloads ++ payload ∷ []) new
    ⊎ IsWhole base.generation t (payloads ++ payload ∷ []) new) (sym owing.taken_is) said)

-- fewer debts than the Base counts
few-debts : (generation taken : ℕ) (payloads : List (List ℕ)) (state : State)
    (owing : IsOwing generation taken payloads state) → length owing.owes.0 < owing.base.live
few-debts generation taken payloads state owing =
    omega (
      arith,
      owing.owes.2,
      owes-count owing.base owing.behind state owing.owes,
      owing.missing,
      owing.taken_is,
      owing.sound.counted,
    )

-- one that is no debt
pub owing-stops : (generation taken : ℕ) (payloads : List (List ℕ)) (payload : List ℕ) (state : State)
    → IsOwing generation taken payloads state → SpellsNoFurther payload state
    → RestoreStopsAt (payloads ++ payload ∷ []) (length payloads)
owing-stops generation taken payloads payload state owing none =
    let base = owing.base in
    let behind = owing.behind in
    let owes = owing.owes in
    inr (
      base,
      behind ++ payload ∷ [],
      begins-longer payloads (payload ∷ []) base behind owing.begins,
      inr (inl (
        owing.sound,
        (
          owes.0,
          owes-end base behind payload state owes none,
          few-debts generation taken payloads state owing,
          omega (arith, owes.2, ap length owing.begins.split),
        ),
      )),
    )

-- none behind the last
pub owing-missing : (generation taken : ℕ) (payloads : List (List ℕ)) (state : State)
    → IsOwing generation taken payloads state → RestoreStopsAt payloads (length payloads)
owing-missing generation taken payloads state owing =
    let base = owing.base in
    let owes = owing.owes in
    inr (
      base,
      owing.behind,
      owing.begins,
      inr (inl (
        owing.sound,
        (
          owes.0,
          owes-missing base owing.behind state owes,
          few-debts generation taken payloads state owing,
          omega (arith, owes.2, ap length owing.begins.split),
        ),
      )),
    )

-- ---- a payload that is longer than any note or batch

pub long-no-base : (payload : List ℕ) → longest_batch < length payload → SpellsNoBase payload
long-no-base payload long = λ base is e. by-flag base (has_imports base) (base-length base) (ap length e)
  where
    by-flag : (base : Base) (b : Bool) → length (base_spelling base) ≡ 49 + (if b then 12 else 0)
        → length (base_spelling base) ≡ length payload → ⊥
    by-flag base true len e = omega (arith, long, len, e)
    by-flag base false len e = omega (arith, long, len, e)

pub long-no-notes : (state : State) (payload : List ℕ) → longest_batch < length payload → SpellsNoLegal state payload
long-no-notes state payload long = λ batch is e legal. by-batch batch is (ap length e)
  where
    by-batch : (batch : List Note) → IsBatch batch → length (payload_of batch) ≡ length payload → ⊥
    by-batch [] is e = is
    by-batch (note ∷ []) is e = omega (arith, long, e, spelling-short note is)
    by-batch (note ∷ next ∷ notes) is e = omega (arith, long, e, is.fits)

pub long-no-debt : (state : State) (payload : List ℕ) → longest_batch < length payload → SpellsNoFurther payload state
long-no-debt state payload long = λ debt further e.
    omega (arith, long, ap length e, spelling-short (owe debt) further.note)

-- ---- places

-- behind one payload more
pub place-more : (payloads : List (List ℕ)) (payload : List ℕ) (index at next behind : ℕ) → IsPlace payloads index at
    → next ≡ min (index + 1) (2 ^ 64 - 1) → behind ≡ min (at + (5 + length payload)) (2 ^ 64 - 1)
    → IsPlace (payloads ++ payload ∷ []) next behind
place-more payloads payload index at next behind place next_is behind_is = record {
  index_is = omega (arith, place.index_is, next_is, length_push payloads payload);
  at_is = omega (arith, place.at_is, behind_is, records-push payloads payload);
}

-- ---- from one stage to the next

-- a debt is read if fewer were taken than the Base counts
pub next-debt : (generation taken : ℕ) (payloads : List (List ℕ)) (payload : List ℕ) (state new : State)
    → state.taken < taken → HasRead (Begun generation taken) state payloads → TakesDebt payload state new
    → HasRead (Begun generation taken) new (payloads ++ payload ∷ [])
next-debt generation taken payloads payload state new few (inl owing) takes =
    owing-more-payload generation taken payloads payload state new owing takes
next-debt generation taken payloads payload state new few (inr whole) takes = absurd (omega (arith, few, whole.enough))

pub next-no-debt : (generation taken : ℕ) (payloads : List (List ℕ)) (payload : List ℕ) (state : State)
    → state.taken < taken → HasRead (Begun generation taken) state payloads → SpellsNoFurther payload state
    → RestoreStopsAt (payloads ++ payload ∷ []) (length payloads)
next-no-debt generation taken payloads payload state few (inl owing) none =
    owing-stops generation taken payloads payload state owing none
next-no-debt generation taken payloads payload state few (inr whole) none = absurd (omega (arith, few, whole.enough))

-- and notes if not
pub next-notes : (generation taken : ℕ) (payloads : List (List ℕ)) (payload : List ℕ) (state new : State)
    → taken ≤ state.taken → HasRead (Begun generation taken) state payloads → Steps state payload new
    → HasRead (Begun generation taken) new (payloads ++ payload ∷ [])
next-notes generation taken payloads payload state new all (inl owing) steps =
    absurd (omega (arith, all, owing.missing))
next-notes generation taken payloads payload state new all (inr whole) steps =
    inr (whole-more generation taken payloads payload state new whole steps)

pub next-no-notes : (generation taken : ℕ) (payloads : List (List ℕ)) (payload : List ℕ) (state : State)
    → taken ≤ state.taken → HasRead (Begun generation taken) state payloads → SpellsNoLegal state payload
    → RestoreStopsAt (payloads ++ payload ∷ []) (length payloads)
next-no-notes generation taken payloads payload state all (inl owing) none = absurd (omega (arith, all, owing.missing))
next-no-notes generation taken payloads payload state all (inr whole) none =
    whole-stops generation taken payloads payload state whole none

-- a payload that is too long is refused wherever it stands
pub long-stops : (stage : RestoreStage) (state : State) (payloads : List (List ℕ)) (payload : List ℕ)
    → longest_batch < length payload → HasRead stage state payloads
    → RestoreStopsAt (payloads ++ payload ∷ []) (length payloads)
long-stops Unread state payloads payload long (none, is) =
    subst (λ (ps : List (List ℕ)). RestoreStopsAt (ps ++ payload ∷ []) (length ps)) (sym none)
    (first-stops payload state (long-no-base payload long) is (long-no-notes state payload long))
long-stops (Begun generation taken) state payloads payload long (inl owing) =
    owing-stops generation taken payloads payload state owing (long-no-debt state payload long)
long-stops (Begun generation taken) state payloads payload long (inr whole) =
    whole-stops generation taken payloads payload state whole (long-no-notes state payload long)
long-stops Refused state payloads payload long none = absurd none

-- ---- what it stands for

-- no payload was refused
pub going : (restoring : Restoring) (payloads : List (List ℕ)) → (restoring.stage ≡ Refused → ⊥)
    → HasTaken restoring payloads → HasGoneOn restoring payloads
going restoring payloads on (inl gone) = gone
going restoring payloads on (inr stopped) = absurd (on stopped.stage_is)

-- one was
pub stopped : (restoring : Restoring) (payloads : List (List ℕ)) → restoring.stage ≡ Refused
    → HasTaken restoring payloads → HasStopped restoring payloads
stopped restoring payloads is (inl gone) =
    absurd (subst (λ (s : RestoreStage). HasRead s (state_of restoring.ledger) payloads) is gone.reads)
stopped restoring payloads is (inr stop) = stop

-- a further payload changes nothing then
pub stopped-more : (restoring : Restoring) (payloads : List (List ℕ)) (payload : List ℕ)
    → HasStopped restoring payloads → HasTaken restoring (payloads ++ payload ∷ [])
stopped-more restoring payloads payload stop =
    inr (record {
      stage_is = stop.stage_is;
      stop = stop.stop;
      within = omega (arith, stop.within, length_push payloads payload);
      stops = restore-longer payloads (payload ∷ []) stop.stop stop.within stop.stops;
      place = subst (λ (ps : List (List ℕ)). IsPlace ps restoring.index restoring.at)
          (sym (take-append-le stop.stop payloads (payload ∷ []) (omega (arith, stop.within)))) stop.place;
    })

-- the payload was read, and its place stepped over
pub gone-more : (old read new : Restoring) (payloads : List (List ℕ)) (payload : List ℕ) → HasGoneOn old payloads
    → HasRead read.stage (state_of read.ledger) (payloads ++ payload ∷ [])
    → ((kept : ℕ) → length payloads + 1 ≤ kept → Indexes kept (payloads ++ payload ∷ []) read.ledger)
    → (read.index ≡ old.index) × (read.at ≡ old.at) → new.ledger ≡ read.ledger → new.stage ≡ read.stage
    → new.index ≡ min (read.index + 1) (2 ^ 64 - 1)
    → new.at ≡ min (read.at + (5 + length payload)) (2 ^ 64 - 1) → HasTaken new (payloads ++ payload ∷ [])
gone-more old read new payloads payload gone reads indexed same ledger stage index at =
    inl (record {
      reads = subst (λ (s : RestoreStage). HasRead s (state_of new.ledger) (payloads ++ payload ∷ [])) (sym stage)
          (subst (λ (l : Ledger). HasRead read.stage (state_of l) (payloads ++ payload ∷ [])) (sym ledger) reads);
      indexed = λ kept few.
          subst (λ (l : Ledger). Indexes kept (payloads ++ payload ∷ []) l) (sym ledger)
          (indexed kept (omega (arith, few, length_push payloads payload)));
      place = place-more payloads payload old.index old.at new.index new.at gone.place
          (index ∙ ap (λ (n : ℕ). min (n + 1) (2 ^ 64 - 1)) same.0)
          (at ∙ ap (λ (n : ℕ). min (n + (5 + length payload)) (2 ^ 64 - 1)) same.1);
    })

-- the payload was refused, and its place kept
pub gone-stops : (old new : Restoring) (payloads : List (List ℕ)) (payload : List ℕ) → HasGoneOn old payloads
    → RestoreStopsAt (payloads ++ payload ∷ []) (length payloads) → new.stage ≡ Refused
    → new.index ≡ old.index → new.at ≡ old.at → HasTaken new (payloads ++ payload ∷ [])
gone-stops old new payloads payload gone stops stage index at =
    let prefix : take (length payloads) (payloads ++ payload ∷ []) ≡ payloads =
    take-append-le (length payloads) payloads (payload ∷ []) (omega arith)
    ∙ take_all (length payloads) payloads (omega arith) in
    inr (record {
      stage_is = stage;
      stop = length payloads;
      within = omega (arith, length_push payloads payload);
      stops = stops;
      place = subst (λ (ps : List (List ℕ)). IsPlace ps new.index new.at) (sym prefix)
          (record { index_is = index ∙ gone.place.index_is; at_is = at ∙ gone.place.at_is });
    })

-- ---- the end

pub unread-apart : ◌≡◌ {A = RestoreStage} Unread Refused → ⊥
unread-apart e = cc e

pub unread-restores : (restoring : Restoring) (payloads : List (List ℕ)) → restoring.stage ≡ Unread
    → HasTaken restoring payloads → Restores payloads 0 (state_of restoring.ledger)
unread-restores restoring payloads is (inl gone) =
    let reads : HasRead Unread (state_of restoring.ledger) payloads =
    subst (λ (s : RestoreStage). HasRead s (state_of restoring.ledger) payloads) is gone.reads in
    subst (λ (ps : List (List ℕ)). Restores ps 0 (state_of restoring.ledger)) (sym reads.0)
    (inl (tt, refl, ([], tt, refl, tt, reads.1)))
unread-restores restoring payloads is (inr stop) = absurd (unread-apart (sym is ∙ stop.stage_is))

pub begun-apart : (generation taken : ℕ) → ◌≡◌ {A = RestoreStage} (Begun generation taken) Refused → ⊥
begun-apart generation taken e = cc e

pub begun-reads : (restoring : Restoring) (generation taken : ℕ) (payloads : List (List ℕ))
    → restoring.stage ≡ Begun generation taken → HasTaken restoring payloads
    → HasRead (Begun generation taken) (state_of restoring.ledger) payloads
begun-reads restoring generation taken payloads is (inl gone) =
    subst (λ (s : RestoreStage). HasRead s (state_of restoring.ledger) payloads) is gone.reads
begun-reads restoring generation taken payloads is (inr stop) =
    absurd (begun-apart generation taken (sym is ∙ stop.stage_is))

pub begun-restores : (generation taken : ℕ) (payloads : List (List ℕ)) (state : State) → taken ≤ state.taken
    → HasRead (Begun generation taken) state payloads → Restores payloads generation state
begun-restores generation taken payloads state all (inl owing) = absurd (omega (arith, all, owing.missing))
begun-restores generation taken payloads state all (inr whole) = whole.restores

pub begun-missing : (generation taken : ℕ) (payloads : List (List ℕ)) (state : State) → state.taken < taken
    → HasRead (Begun generation taken) state payloads → RestoreStopsAt payloads (length payloads)
begun-missing generation taken payloads state few (inl owing) = owing-missing generation taken payloads state owing
begun-missing generation taken payloads state few (inr whole) = absurd (omega (arith, few, whole.enough))

-- where a debt is missing reading stops behind the last payload
pub missing-with : (restoring : Restoring) (generation taken : ℕ) (payloads : List (List ℕ)) (refused : RefusedPayload)
    → restoring.stage ≡ Begun generation taken → restoring.ledger.taken < taken → refused.index ≡ restoring.index
    → refused.at ≡ restoring.at → HasTaken restoring payloads → StopsWith payloads refused
missing-with restoring generation taken payloads refused is few index at (inl gone) = record {
  index = length payloads;
  stops = begun-missing generation taken payloads (state_of restoring.ledger) few
      (begun-reads restoring generation taken payloads is (inl gone));
  within = omega arith;
  index_is = index ∙ gone.place.index_is;
  at_is = at ∙ (gone.place.at_is ∙ ap (λ (ps : List (List ℕ)). min (records_length ps) (2 ^ 64 - 1))
      (sym (take_all (length payloads) payloads (omega arith))));
}
missing-with restoring generation taken payloads refused is few index at (inr stop) =
    absurd (begun-apart generation taken (sym is ∙ stop.stage_is))

pub stopped-with : (restoring : Restoring) (payloads : List (List ℕ)) (refused : RefusedPayload)
    → restoring.stage ≡ Refused → refused.index ≡ restoring.index → refused.at ≡ restoring.at
    → HasTaken restoring payloads → StopsWith payloads refused
stopped-with restoring payloads refused is index at taken =
    let stop = stopped restoring payloads is taken in
    record {
      index = stop.stop;
      stops = stop.stops;
      within = omega (arith, stop.within);
      index_is = omega (arith, index, stop.place.index_is, length-take stop.stop payloads, stop.within);
      at_is = at ∙ stop.place.at_is;
    }

-- it says where its debts are
pub indexed-all : (restoring : Restoring) (payloads : List (List ℕ)) → (restoring.stage ≡ Refused → ⊥)
    → HasTaken restoring payloads → Indexes (length payloads) payloads restoring.ledger
indexed-all restoring payloads on taken = (going restoring payloads on taken).indexed (length payloads) (omega arith)

-- ---- the next payload's place

-- all payloads before it are on the tape, and so is it
pub stands-next : (kept : ℕ) (payloads : List (List ℕ)) (payload : List ℕ) (at : ℕ) → length payloads + 1 ≤ kept
    → at ≡ min (records_length payloads) (2 ^ 64 - 1) → StandsAt kept (payloads ++ payload ∷ []) at 0 payload
stands-next kept payloads payload at few is = record {
  prefix = payloads;
  behind = [];
  split = refl;
  at_is = is;
  slot_is = λ pends. absurd (omega (arith, pends, few));
}

-- and the debts of those before it stand where they stood
pub indexed-next : (restoring : Restoring) (payloads : List (List ℕ)) (payload : List ℕ) (kept : ℕ)
    → length payloads + 1 ≤ kept → HasGoneOn restoring payloads
    → Indexes kept (payloads ++ payload ∷ []) restoring.ledger
    × StandsAt kept (payloads ++ payload ∷ []) restoring.at 0 payload
indexed-next restoring payloads payload kept few gone = (
  indexes-more kept payloads (payload ∷ []) restoring.ledger (gone.indexed kept (omega (arith, few))),
  stands-next kept payloads payload restoring.at few gone.place.at_is,
)

pub no-true : IsTrue false → ⊥
no-true e = cc e

-- what holds of each if all is well
pub on-ok-each : {T E : Type 0} (r : Result T E) (few P : ℕ → Type 0)
    → ((n : ℕ) → few n → OnOk r (P n)) → OnOk r ((n : ℕ) → few n → P n)
on-ok-each (Ok value) few P said = said
on-ok-each (Err fault) few P said = tt

pub unread-reads : (restoring : Restoring) (payloads : List (List ℕ)) → restoring.stage ≡ Unread
    → HasGoneOn restoring payloads → (payloads ≡ []) × (state_of restoring.ledger ≡ start)
unread-reads restoring payloads is gone =
    subst (λ (s : RestoreStage). HasRead s (state_of restoring.ledger) payloads) is gone.reads
