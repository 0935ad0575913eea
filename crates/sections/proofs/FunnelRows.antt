-- A run of the threads over the lines of a funnel, with octets on the disks: two lines are taken, flushed and sealed.
-- `funnel_is_owed` is read off it, as a list of debts. The octets are in specs/WorkedTapes.antt.
use Rattle.std.proofs.Common.{◌≡◌, ◌<◌, ◌≤◌, ◌==◌, ◌∙◌, ℕ, zero, suc, true, false, Some, [], ◌∷◌, refl}
use Rattle.std.proofs.Common.{List, ap, arith, subst, sym}
use Rattle.std.specs.Prelude.{Contains, codes, if◌then◌else◌}
use Rattle.std.specs.List.{slice_get}
use Rattle.ledger_core.specs.State.{State, start}
use Rattle.ledger_core.specs.declared.note.Note.{Note}
use Rattle.ledger_core.specs.declared.note.Note.TheVariants.{Seen}
use Rattle.recovery.specs.Image.{Log}
use Rattle.recovery.specs.Leaving.{EachLedger, IsPrefix, ledger_of_first}
use Rattle.recovery.specs.LeavingLaws.{EachLedger-weaker, each_may}
use Rattle.sections.specs.Funnel.{Feeds, Funnel, HasTaken, IsEmpty, IsFed, IsFedNote, Names, OwesLine, OwesUpTo}
use Rattle.sections.specs.Funnel.Feeds.{Begin, Then}
use Rattle.sections.specs.Post.{PostPast, SealingPast, StationPast}
use Rattle.sections.specs.Post.Progress.{Counted, Due}
use Rattle.sections.specs.Sections.{IsPut, Section, begun_at}
use Rattle.sections.specs.Sections.Call.{Puts}
use Rattle.sections.specs.Sections.Does.{At_station, Is_begun, Is_called_at_intake, Is_counted, Is_due, Is_sealed}
use Rattle.sections.specs.Sections.Does.{Is_shown}
use Rattle.sections.specs.Sections.OfStation.{Is_called, Is_learnt, Is_noted, Is_pulled, Is_sent}
use Rattle.sections.specs.Sections.OfTape.{Is_put}
use Rattle.sections.specs.Sections.Section.{Begins, Calls, Calls_intake, Counts, Dues, Learns, Notes, Pulls, Seals}
use Rattle.sections.specs.Sections.Section.{Sends, Shows}
use Rattle.sections.specs.Tapes.{TapePast}
use Rattle.sections.specs.WorkedTapes.{first_two, first_two_on_tape, made, none_beside, none_on_tape, one, one_debt}
use Rattle.sections.specs.WorkedTapes.{only_made, only_seen, only_two, seen_flushed, seen_leave, seen_may, seen_two}
use Rattle.sections.specs.WorkedTapes.{seen_two_on_tape, two, two_debt, two_flushed, two_leave}
use Rattle.sections.specs.WrittenTapes.{ledger_in, prefix_with, rest_leaves}
use Rattle.sections.proofs.FunnelLines.{receipts_owed, stopped_owed}

-- ---- the funnel, and a post of one station

abbrev funnel : Funnel
funnel = λ number. if number == 1 then record { token = codes "a/1"; id = codes "<x@y>"; peers = 0 ∷ [] }
    else record { token = codes "a/2"; id = codes "<z@y>"; peers = 0 ∷ [] }

abbrev tape : List Note → ℕ → Log → TapePast
tape notes kept log = record {
  history = record { base = start; notes = notes; kept = kept; opened = 0 };
  log = log;
  faults = (0, 0);
  broken = false;
}

-- the notes on its tape, how many are acknowledged, and its disks; those in the queue, and not sent; what its front
-- knows to be on the disks
abbrev station : List Note → ℕ → Log → (queue unsent : List Note) → ℕ → StationPast
station notes kept log queue unsent settled = record {
  tape = tape notes kept log;
  queue = queue;
  unsent = unsent;
  settled = settled;
  cut_off = false;
  runs = true;
}

abbrev post : StationPast → TapePast → ℕ → List SealingPast → PostPast
post one intake last sealings =
    record { stations = one ∷ []; intake = intake; intake_runs = true; last = last; sealings = sealings }

abbrev unseen : TapePast
unseen = tape [] 0 made

abbrev noted : TapePast
noted = tape (Seen 2 ∷ []) 0 made

abbrev acknowledged : TapePast
acknowledged = tape (Seen 2 ∷ []) 1 seen_flushed

-- the receipt, once it has looked at the front, and once it has counted the station
abbrev due : SealingPast
due = record { number = 2; progress = Due 2 ∷ [] }

abbrev counted : SealingPast
counted = record { number = 2; progress = Counted ∷ [] }

-- ---- the spool is empty

none_of : (notes : List Note) (kept : ℕ) → kept ≤ 0 → IsPrefix (tape notes kept made).history start
none_of notes kept none = prefix_with [] (tape notes kept made).history 0 none_on_tape refl refl none (omega arith)

made_empty : IsEmpty (post (station [] 0 made [] [] 0) unseen 0 [])
made_empty = record {
  made = record {
    stations = (
      record {
        all = refl;
        kept = refl;
        left = rest_leaves (IsPrefix unseen.history) [] made.0 made.1 none_on_tape only_made none_beside
            (none_of [] 0 (omega arith));
      },
      tt,
    );
    legal = tt;
    within = omega arith;
    last = refl;
    none = refl;
    left = rest_leaves (IsPrefix unseen.history) [] made.0 made.1 none_on_tape only_made none_beside
        (none_of [] 0 (omega arith));
  };
  stations = (refl, tt);
  intake = refl;
}

-- ---- the flushes

two_of : (kept : ℕ) (log : Log) → kept ≤ 2 → IsPrefix (tape (one ∷ two ∷ []) kept log).history (ledger_in first_two)
two_of kept log enough =
    prefix_with first_two (tape (one ∷ two ∷ []) kept log).history 2 first_two_on_tape refl refl enough (omega arith)

seen_of : (kept : ℕ) (log : Log) → kept ≤ 1 → IsPrefix (tape (Seen 2 ∷ []) kept log).history (ledger_in seen_two)
seen_of kept log enough =
    prefix_with seen_two (tape (Seen 2 ∷ []) kept log).history 1 seen_two_on_tape refl refl enough (omega arith)

two_put : IsPut (tape (one ∷ two ∷ []) 0 made) (tape (one ∷ two ∷ []) 2 two_flushed)
two_put = record {
  worked = refl;
  moments = two_leave (IsPrefix (tape (one ∷ two ∷ []) 0 made).history)
      (none_of (one ∷ two ∷ []) 0 (omega arith)) (two_of 0 made (omega arith));
  left = rest_leaves (IsPrefix (tape (one ∷ two ∷ []) 2 two_flushed).history) first_two two_flushed.0 two_flushed.1
      first_two_on_tape only_two none_beside (two_of 2 two_flushed (omega arith));
  all = refl;
}

seen_put : IsPut noted acknowledged
seen_put = record {
  worked = refl;
  moments = seen_leave (IsPrefix noted.history) (none_of (Seen 2 ∷ []) 0 (omega arith)) (seen_of 0 made (omega arith));
  left = rest_leaves (IsPrefix acknowledged.history) seen_two seen_flushed.0 seen_flushed.1 seen_two_on_tape only_seen
      none_beside (seen_of 1 seen_flushed (omega arith));
  all = refl;
}

-- ---- each section goes by the funnel

goes_by : (past : PostPast) (section : Section) → ((rank : ℕ) (note : Note) → section ≡ Notes rank note → ⊥)
    → (section ≡ Shows → ⊥) → IsFed funnel past section
goes_by past section notes shows = record {
  notes = λ rank note is. absurd (notes rank note is);
  shows = λ is. absurd (shows is);
}

one_fed : IsFed funnel (post (station [] 0 made [] [] 0) unseen 0 []) (Notes 0 one)
one_fed = record {
  notes = λ rank note is.
      let same : one ≡ note = cc in
      subst (IsFedNote funnel (post (station [] 0 made [] [] 0) unseen 0 [])) same (λ line. (refl, refl, refl));
  shows = λ is. absurd cc;
}

two_fed : IsFed funnel (post (station [] 0 made [] (one ∷ []) 0) unseen 1 []) (Notes 0 two)
two_fed = record {
  notes = λ rank note is.
      let same : two ≡ note = cc in
      subst (IsFedNote funnel (post (station [] 0 made [] (one ∷ []) 0) unseen 1 [])) same (λ line. (refl, refl, refl));
  shows = λ is. absurd cc;
}

-- the front has the line before its number is shown
has_it : (number : ℕ) (was : StationPast) → HasTaken number was → (rank : ℕ) (other : StationPast)
    → slice_get (was ∷ []) rank ≡ Some other → HasTaken number other
has_it number was taken zero other here =
    let same : was ≡ other = cc in
    subst (HasTaken number) same taken
has_it number was taken (suc rank) other here = absurd cc

one_shown : IsFed funnel (post (station [] 0 made [] (one ∷ []) 0) unseen 0 []) Shows
one_shown = record {
  notes = λ rank note is. absurd cc;
  shows = λ is rank other here names.
      has_it 1 (station [] 0 made [] (one ∷ []) 0) (record { runs = refl; taken = omega arith }) rank other here;
}

two_shown : IsFed funnel (post (station [] 0 made [] (one ∷ two ∷ []) 0) unseen 1 []) Shows
two_shown = record {
  notes = λ rank note is. absurd cc;
  shows = λ is rank other here names.
      has_it 2 (station [] 0 made [] (one ∷ two ∷ []) 0) (record { runs = refl; taken = omega arith }) rank other here;
}

-- ---- the run

abbrev run : List Section
run = Notes 0 one ∷ Shows ∷ Notes 0 two ∷ Shows ∷ Begins ∷ Sends 0 ∷ Sends 0 ∷ Pulls 0 ∷ Pulls 0 ∷ Dues 0 0 ∷ Calls 0
    Puts ∷ Learns 0 2 ∷ Counts 0 0 ∷ Seals 0 ∷ Calls_intake Puts ∷ []

abbrev ends : PostPast
ends = (post (station (one ∷ two ∷ []) 2 two_flushed [] [] 2) acknowledged 2 (counted ∷ []))

feeds : Feeds funnel (post (station [] 0 made [] [] 0) unseen 0 []) run ends
feeds =
    Then (Notes 0 one ∷ Shows ∷ Notes 0 two ∷ Shows ∷ Begins ∷ Sends 0 ∷ Sends 0 ∷ Pulls 0 ∷ Pulls 0 ∷ Dues 0 0 ∷
    Calls 0 Puts ∷ Learns 0 2 ∷ Counts 0 0 ∷ Seals 0 ∷ []) (Calls_intake Puts)
    (post (station (one ∷ two ∷ []) 2 two_flushed [] [] 2) noted 2 (counted ∷ []))
    (post (station (one ∷ two ∷ []) 2 two_flushed [] [] 2) acknowledged 2 (counted ∷ []))
    (Then (Notes 0 one ∷ Shows ∷ Notes 0 two ∷ Shows ∷ Begins ∷ Sends 0 ∷ Sends 0 ∷ Pulls 0 ∷ Pulls 0 ∷ Dues 0 0 ∷
    Calls 0 Puts ∷ Learns 0 2 ∷ Counts 0 0 ∷ []) (Seals 0)
    (post (station (one ∷ two ∷ []) 2 two_flushed [] [] 2) unseen 2 (counted ∷ []))
    (post (station (one ∷ two ∷ []) 2 two_flushed [] [] 2) noted 2 (counted ∷ []))
    (Then (Notes 0 one ∷ Shows ∷ Notes 0 two ∷ Shows ∷ Begins ∷ Sends 0 ∷ Sends 0 ∷ Pulls 0 ∷ Pulls 0 ∷ Dues 0 0 ∷
    Calls 0 Puts ∷ Learns 0 2 ∷ []) (Counts 0 0)
    (post (station (one ∷ two ∷ []) 2 two_flushed [] [] 2) unseen 2 (due ∷ []))
    (post (station (one ∷ two ∷ []) 2 two_flushed [] [] 2) unseen 2 (counted ∷ []))
    (Then (Notes 0 one ∷ Shows ∷ Notes 0 two ∷ Shows ∷ Begins ∷ Sends 0 ∷ Sends 0 ∷ Pulls 0 ∷ Pulls 0 ∷ Dues 0 0 ∷
    Calls 0 Puts ∷ []) (Learns 0 2) (post (station (one ∷ two ∷ []) 2 two_flushed [] [] 0) unseen 2 (due ∷ []))
    (post (station (one ∷ two ∷ []) 2 two_flushed [] [] 2) unseen 2 (due ∷ []))
    (Then (Notes 0 one ∷ Shows ∷ Notes 0 two ∷ Shows ∷ Begins ∷ Sends 0 ∷ Sends 0 ∷ Pulls 0 ∷ Pulls 0 ∷ Dues 0 0 ∷ [])
    (Calls 0 Puts) (post (station (one ∷ two ∷ []) 0 made [] [] 0) unseen 2 (due ∷ []))
    (post (station (one ∷ two ∷ []) 2 two_flushed [] [] 0) unseen 2 (due ∷ []))
    (Then (Notes 0 one ∷ Shows ∷ Notes 0 two ∷ Shows ∷ Begins ∷ Sends 0 ∷ Sends 0 ∷ Pulls 0 ∷ Pulls 0 ∷ []) (Dues 0 0)
    (post (station (one ∷ two ∷ []) 0 made [] [] 0) unseen 2 (begun_at 2 1 ∷ []))
    (post (station (one ∷ two ∷ []) 0 made [] [] 0) unseen 2 (due ∷ []))
    (Then (Notes 0 one ∷ Shows ∷ Notes 0 two ∷ Shows ∷ Begins ∷ Sends 0 ∷ Sends 0 ∷ Pulls 0 ∷ []) (Pulls 0)
    (post (station (one ∷ []) 0 made (two ∷ []) [] 0) unseen 2 (begun_at 2 1 ∷ []))
    (post (station (one ∷ two ∷ []) 0 made [] [] 0) unseen 2 (begun_at 2 1 ∷ []))
    (Then (Notes 0 one ∷ Shows ∷ Notes 0 two ∷ Shows ∷ Begins ∷ Sends 0 ∷ Sends 0 ∷ []) (Pulls 0)
    (post (station [] 0 made (one ∷ two ∷ []) [] 0) unseen 2 (begun_at 2 1 ∷ []))
    (post (station (one ∷ []) 0 made (two ∷ []) [] 0) unseen 2 (begun_at 2 1 ∷ []))
    (Then (Notes 0 one ∷ Shows ∷ Notes 0 two ∷ Shows ∷ Begins ∷ Sends 0 ∷ []) (Sends 0)
    (post (station [] 0 made (one ∷ []) (two ∷ []) 0) unseen 2 (begun_at 2 1 ∷ []))
    (post (station [] 0 made (one ∷ two ∷ []) [] 0) unseen 2 (begun_at 2 1 ∷ []))
    (Then (Notes 0 one ∷ Shows ∷ Notes 0 two ∷ Shows ∷ Begins ∷ []) (Sends 0)
    (post (station [] 0 made [] (one ∷ two ∷ []) 0) unseen 2 (begun_at 2 1 ∷ []))
    (post (station [] 0 made (one ∷ []) (two ∷ []) 0) unseen 2 (begun_at 2 1 ∷ []))
    (Then (Notes 0 one ∷ Shows ∷ Notes 0 two ∷ Shows ∷ []) Begins
    (post (station [] 0 made [] (one ∷ two ∷ []) 0) unseen 2 [])
    (post (station [] 0 made [] (one ∷ two ∷ []) 0) unseen 2 (begun_at 2 1 ∷ []))
    (Then (Notes 0 one ∷ Shows ∷ Notes 0 two ∷ []) Shows
    (post (station [] 0 made [] (one ∷ two ∷ []) 0) unseen 1 [])
    (post (station [] 0 made [] (one ∷ two ∷ []) 0) unseen 2 [])
    (Then (Notes 0 one ∷ Shows ∷ []) (Notes 0 two) (post (station [] 0 made [] (one ∷ []) 0) unseen 1 [])
    (post (station [] 0 made [] (one ∷ two ∷ []) 0) unseen 1 [])
    (Then (Notes 0 one ∷ []) Shows (post (station [] 0 made [] (one ∷ []) 0) unseen 0 [])
    (post (station [] 0 made [] (one ∷ []) 0) unseen 1 [])
    (Then [] (Notes 0 one) (post (station [] 0 made [] [] 0) unseen 0 [])
    (post (station [] 0 made [] (one ∷ []) 0) unseen 0 [])
    Begin
    one_fed
    (At_station (Notes 0 one) 0 (station [] 0 made [] [] 0) (station [] 0 made [] (one ∷ []) 0) refl
    (Is_noted 0 one refl refl (omega arith))))
    one_shown
    (Is_shown refl))
    two_fed
    (At_station (Notes 0 two) 0 (station [] 0 made [] (one ∷ []) 0) (station [] 0 made [] (one ∷ two ∷ []) 0) refl
    (Is_noted 0 two refl refl (omega arith))))
    two_shown
    (Is_shown refl))
    (goes_by (post (station [] 0 made [] (one ∷ two ∷ []) 0) unseen 2 []) Begins (λ rank note is. cc) (λ is. cc))
    (Is_begun refl))
    (goes_by (post (station [] 0 made [] (one ∷ two ∷ []) 0) unseen 2 (begun_at 2 1 ∷ [])) (Sends 0)
    (λ rank note is. cc) (λ is. cc))
    (At_station (Sends 0) 0 (station [] 0 made [] (one ∷ two ∷ []) 0) (station [] 0 made (one ∷ []) (two ∷ []) 0)
    refl (Is_sent 0 one (two ∷ []) refl)))
    (goes_by (post (station [] 0 made (one ∷ []) (two ∷ []) 0) unseen 2 (begun_at 2 1 ∷ [])) (Sends 0)
    (λ rank note is. cc) (λ is. cc))
    (At_station (Sends 0) 0 (station [] 0 made (one ∷ []) (two ∷ []) 0) (station [] 0 made (one ∷ two ∷ []) [] 0)
    refl (Is_sent 0 two [] refl)))
    (goes_by (post (station [] 0 made (one ∷ two ∷ []) [] 0) unseen 2 (begun_at 2 1 ∷ [])) (Pulls 0)
    (λ rank note is. cc) (λ is. cc))
    (At_station (Pulls 0) 0 (station [] 0 made (one ∷ two ∷ []) [] 0) (station (one ∷ []) 0 made (two ∷ []) [] 0)
    refl (Is_pulled 0 one (two ∷ []) refl refl)))
    (goes_by (post (station (one ∷ []) 0 made (two ∷ []) [] 0) unseen 2 (begun_at 2 1 ∷ [])) (Pulls 0)
    (λ rank note is. cc) (λ is. cc))
    (At_station (Pulls 0) 0 (station (one ∷ []) 0 made (two ∷ []) [] 0) (station (one ∷ two ∷ []) 0 made [] [] 0)
    refl (Is_pulled 0 two [] refl refl)))
    (goes_by (post (station (one ∷ two ∷ []) 0 made [] [] 0) unseen 2 (begun_at 2 1 ∷ [])) (Dues 0 0)
    (λ rank note is. cc) (λ is. cc))
    (Is_due 0 0 (begun_at 2 1) (station (one ∷ two ∷ []) 0 made [] [] 0) refl refl))
    (goes_by (post (station (one ∷ two ∷ []) 0 made [] [] 0) unseen 2 (due ∷ [])) (Calls 0 Puts)
    (λ rank note is. cc) (λ is. cc))
    (At_station (Calls 0 Puts) 0 (station (one ∷ two ∷ []) 0 made [] [] 0)
    (station (one ∷ two ∷ []) 2 two_flushed [] [] 0) refl
    (Is_called 0 Puts (station (one ∷ two ∷ []) 2 two_flushed [] [] 0).tape
    (Is_put (station (one ∷ two ∷ []) 2 two_flushed [] [] 0).tape two_put))))
    (goes_by (post (station (one ∷ two ∷ []) 2 two_flushed [] [] 0) unseen 2 (due ∷ [])) (Learns 0 2)
    (λ rank note is. cc) (λ is. cc))
    (At_station (Learns 0 2) 0 (station (one ∷ two ∷ []) 2 two_flushed [] [] 0)
    (station (one ∷ two ∷ []) 2 two_flushed [] [] 2) refl (Is_learnt 0 2 refl (omega arith))))
    (goes_by (post (station (one ∷ two ∷ []) 2 two_flushed [] [] 2) unseen 2 (due ∷ [])) (Counts 0 0)
    (λ rank note is. cc) (λ is. cc))
    (Is_counted 0 0 2 due (station (one ∷ two ∷ []) 2 two_flushed [] [] 2) refl refl refl (omega arith)))
    (goes_by (post (station (one ∷ two ∷ []) 2 two_flushed [] [] 2) unseen 2 (counted ∷ [])) (Seals 0)
    (λ rank note is. cc) (λ is. cc))
    (Is_sealed 0 counted refl (refl, tt) refl (omega arith, omega arith)))
    (goes_by (post (station (one ∷ two ∷ []) 2 two_flushed [] [] 2) noted 2 (counted ∷ [])) (Calls_intake Puts)
    (λ rank note is. cc) (λ is. cc))
    (Is_called_at_intake Puts acknowledged (Is_put acknowledged seen_put))

-- ---- what the law says of it

names : (number : ℕ) → 0 < number → (funnel number).peers ≡ 0 ∷ [] → Names funnel number 0
names number some is = (some, subst (λ (peers : List ℕ). Contains peers 0) (sym is) (0, omega arith, refl))

-- whatever mark a stop leaves on the intake's tape, here 2: lines 1 and 2 are owed in what it leaves of the peer's
up_to_two : OwesUpTo funnel ends 2
up_to_two =
    each_may (λ (seen : State). OwesUpTo funnel ends seen.mark) seen_flushed (ledger_in seen_two)
    (stopped_owed funnel (post (station [] 0 made [] [] 0) unseen 0 []) ends run made_empty feeds) seen_may

one_is_owed : EachLedger (OwesLine funnel 1 (station (one ∷ two ∷ []) 2 two_flushed [] [] 2)) two_flushed
one_is_owed =
    up_to_two 1 0 (station (one ∷ two ∷ []) 2 two_flushed [] [] 2) (omega arith) (names 1 (omega arith) refl) refl

two_is_owed : EachLedger (OwesLine funnel 2 (station (one ∷ two ∷ []) 2 two_flushed [] [] 2)) two_flushed
two_is_owed =
    up_to_two 2 0 (station (one ∷ two ∷ []) 2 two_flushed [] [] 2) (omega arith) (names 2 (omega arith) refl) refl

-- in plain values
both_are_owed : EachLedger (λ (state : State). state.debts ≡ one_debt ∷ two_debt ∷ []) two_flushed
both_are_owed =
    EachLedger-weaker (OwesLine funnel 2 (station (one ∷ two ∷ []) 2 two_flushed [] [] 2)) _ (λ state owes.
    let all : owes.prefix.count ≡ 2 = omega (arith, owes.prefix.enough, owes.prefix.within) in
    ap (λ (s : State). s.debts) owes.prefix.is
    ∙ ap (λ (n : ℕ). (ledger_of_first (station (one ∷ two ∷ []) 2 two_flushed [] [] 2).tape.history n).debts) all)
    two_flushed two_is_owed

-- and by the receipt, which has counted the station, before the intake's tape is flushed
by_receipt : OwesUpTo funnel ends 2
by_receipt =
    receipts_owed funnel (post (station [] 0 made [] [] 0) unseen 0 []) ends run made_empty feeds 0 counted refl
    (refl, tt)
