-- Worked scripts, computed: what each step reports, what each peer has noted, and how much of it is acknowledged.
use Rattle.std.proofs.Common.{◌≡◌, ℕ, ◌+◌, true, false, None, Some, List, [], ◌∷◌, ◌++◌, length, map, refl, inl, inr}
use Rattle.std.proofs.Common.{arith}
use Rattle.std.specs.List.{AllZip}
use Rattle.std.specs.Prelude.{◌-◌, ◌^◌, codes, if◌then◌else◌}
use Rattle.disk_model.specs.declared.choice.Choice.{Choice}
use Rattle.disk_model.specs.Disk.Event.{Made, Synced, Wrote}
use Rattle.feed_conf.specs.declared.conf.PeerConf.{PeerConf}
use Rattle.ledger_core.specs.State.{keys}
use Rattle.ledger_core.specs.declared.note.Note.TheVariants.{Owe}
use Rattle.recovery.specs.Pairs.LeavesPair.{at_start}
use Rattle.recovery.specs.declared.fault.TapeFault.TheVariants.{Broken}
use Rattle.recovery.specs.Notes.{begun as begun_history, flushed, most_pending, recovered}
use Rattle.peer_queue.specs.DebtPlace.{Ready}
use Rattle.peer_queue.specs.declared.limits.Owed.TheVariants.{Already, New}
use Rattle.sections.specs.Tapes.{TapePast, ledger_at, mark_at}
use Rattle.world_core.specs.Past.{Armed, Life, Past, PeerPast}
use Rattle.world_core.specs.Events.{Acknowledges, Closes, Imports, Opens, OpensIntake, Owes, Parts, Rotates, Sees}
use Rattle.world_core.specs.Events.{Spills}
use Rattle.world_core.specs.Events.AllDo.{Start}
use Rattle.world_core.specs.Events.{closing}
use Rattle.world_core.specs.Events.{import_key, import_mark_at, imported_as, open_source, opened_peer, owed_as}
use Rattle.world_core.specs.Events.{owing_as}
use Rattle.world_core.specs.Events.{parted, seen}
use Rattle.world_core.specs.Halts.{AtRest, ByChoice, armed_with, halted, left, restart_events}
use Rattle.world_core.specs.Imports.{Good, count_new, import_events}
use Rattle.world_core.specs.Laws.{IsAcknowledgedLine}
use Rattle.world_core.specs.LineLaws.{MadeDebt, OwesOrEnded, new_to, read_by, reported_new}
use Rattle.world_core.specs.Crashes.{IsUnderWay, StaysPrefix}
use Rattle.world_core.specs.Safe.{IsSafe}
use Rattle.world_core.specs.Tapes.{noted_at}
use Rattle.world_core.specs.Steps.{IsPlan, begun_at, flush_events, is_named, line_events, owed_there, planned}
use Rattle.world_core.specs.Output.{Mark, Owed, Rotated, View, lines_in, mark_view}
use Rattle.world_core.specs.declared.fault.Fault.TheVariants.{Tape}
use Rattle.world_core.specs.declared.step.Step.TheVariants.{Part, Rotate}

-- ---- what the events of a step leave, if it is taken

-- what a good line leaves
abbrev lined : List ℕ → List ℕ → List (List ℕ) → Past → Past
lined token id named past = record past {
  peers = map (λ (peer : PeerPast).
      if is_named named peer then owing_as (owed_as (past.last + 1) peer) (past.last + 1) token id peer else peer)
      past.peers;
  last = past.last + 1;
}

-- what it reports
abbrev line_said : List (List ℕ) → Past → View
line_said named past = Owed (past.last + 1) (owed_there (past.last + 1) named past.peers)

-- a tape that was flushed
abbrev flushed_tape : TapePast → TapePast
flushed_tape tape = record tape { history = flushed tape.history }

-- each peer was flushed
abbrev all_parted : Past → Past
all_parted past = record past { peers = map (λ (peer : PeerPast). parted peer (flushed_tape peer.tape)) past.peers }

-- this number was sealed
abbrev sealed : ℕ → Past → Past
sealed number past = record past { intake = flushed_tape (seen number past.intake) }

-- a tape on which this many notes were found
abbrev opened_tape : ℕ → TapePast → TapePast
opened_tape count tape = record tape { history = recovered tape.history count }

abbrev opened_peers : List ℕ → List PeerPast → List PeerPast
opened_peers [] peers = []
opened_peers (count ∷ counts) [] = []
opened_peers (count ∷ counts) (peer ∷ peers) =
    opened_peer peer (opened_tape count peer.tape) ∷ opened_peers counts peers

-- all tapes were opened again
abbrev restarted : List ℕ → ℕ → Past → Past
restarted counts count past =
    let intake = opened_tape count past.intake in
    record { peers = opened_peers counts past.peers; intake = intake; last = mark_at intake; begun = None }

-- what each peer has: its mark, what it is owed, and how many of its notes are acknowledged
abbrev standing : Past → List (ℕ × (List ℕ × ℕ))
standing past = map (λ (peer : PeerPast).
    (mark_at peer.tape, (keys (ledger_at peer.tape), peer.tape.history.kept))) past.peers

-- ---- output

-- each line up to its LF, without its CR; the octets after the last LF are no line
two_lines : lines_in (codes "CHECK <x@y>" ++ 13 ∷ 10 ∷ codes ".." ++ 10 ∷ codes "Q")
    ≡ codes "CHECK <x@y>" ∷ codes ".." ∷ []
two_lines = refl

module _ (conf : PeerConf) where
  abbrev tape : TapePast
  tape = record { history = begun_history; log = ([], []); faults = (0, 0); broken = false }

  abbrev peer : List ℕ → PeerPast
  peer name = record { conf = record conf { name = name }; tape = tape; places = []; parted = false }

  abbrev two : Past
  two = record { peers = peer (codes "p") ∷ peer (codes "q") ∷ []; intake = tape; last = 0; begun = None }

  -- a line to both peers, one of them named twice: two events, and both owe it
  abbrev named : List (List ℕ)
  named = codes "p" ∷ codes "q" ∷ codes "p" ∷ []

  line_has : line_events (codes "a/1") (codes "<x@y>") named two
      ≡ Owes 0 (codes "a/1") (codes "<x@y>") ∷ Owes 1 (codes "a/1") (codes "<x@y>") ∷ []
  line_has = refl

  line_has_one : line_events (codes "a/1") (codes "<x@y>") (codes "q" ∷ codes "other" ∷ []) two
      ≡ Owes 1 (codes "a/1") (codes "<x@y>") ∷ []
  line_has_one = refl

  abbrev both : Past
  both = lined (codes "a/1") (codes "<x@y>") named two

  line_tells : line_said named two ≡ Owed 1 ((codes "p", New) ∷ (codes "q", New) ∷ [])
  line_tells = refl

  -- a flush: each peer by name, the number, the intake
  flush_has : flush_events both ≡ Parts 0 ∷ Parts 1 ∷ Sees 1 ∷ Acknowledges ∷ []
  flush_has = refl

  abbrev acknowledged : Past
  acknowledged = sealed 1 (all_parted (begun_at both))

  flush_tells : mark_at acknowledged.intake ≡ 1
  flush_tells = refl

  flush_leaves : standing acknowledged ≡ (1, (1 ∷ [], 1)) ∷ (1, (1 ∷ [], 1)) ∷ []
  flush_leaves = refl

  -- a stop at rest, and a restart: the same is owed, and all of it is ready
  restart_has : restart_events acknowledged ≡ Opens 0 ∷ Opens 1 ∷ OpensIntake ∷ []
  restart_has = refl

  restart_leaves : map (λ (p : PeerPast). p.places) (restarted (1 ∷ 1 ∷ []) 1 (left AtRest acknowledged)).peers
      ≡ ((1, Ready) ∷ []) ∷ ((1, Ready) ∷ []) ∷ []
  restart_leaves = refl

  restart_tells : map mark_view (restarted (1 ∷ 1 ∷ []) 1 (left AtRest acknowledged)).peers
      ≡ Mark (codes "p") 1 (1 ∷ []) ∷ Mark (codes "q") 1 (1 ∷ []) ∷ []
  restart_tells = refl

  -- a stop during the flush of the second peer: the first has its note, the second has not, and the line given again is
  -- new only there
  abbrev half : Past
  half = restarted (1 ∷ 0 ∷ []) 0 (left AtRest both)

  half_stands : standing half ≡ (1, (1 ∷ [], 1)) ∷ (0, ([], 0)) ∷ []
  half_stands = refl

  again_tells : line_said named half ≡ Owed 1 ((codes "p", Already) ∷ (codes "q", New) ∷ [])
  again_tells = refl

  abbrev again : Past
  again = sealed 1 (all_parted (begun_at (lined (codes "a/1") (codes "<x@y>") named half)))

  again_stands : standing again ≡ (1, (1 ∷ [], 1)) ∷ (1, (1 ∷ [], 1)) ∷ []
  again_stands = refl

  -- the law of lines that are read again says the same: to whom the line is new, at whom that is reported, and what the
  -- line makes of all tapes
  again_new : new_to 1 named half.peers ≡ codes "q" ∷ []
  again_new = refl

  again_reported : reported_new (owed_there 1 named half.peers) ≡ codes "q" ∷ []
  again_reported = refl

  again_read : read_by 1 (codes "a/1") (codes "<x@y>") named half ≡ lined (codes "a/1") (codes "<x@y>") named half
  again_read = refl

  -- the debt that the line made at the first peer: owed after its note, if the line is acknowledged
  abbrev first : PeerPast
  first = parted (owing_as New 1 (codes "a/1") (codes "<x@y>") (peer (codes "p")))
      (flushed_tape (noted_at tape (Owe 1 (codes "a/1") (codes "<x@y>"))))

  first_made : IsAcknowledgedLine acknowledged 1 → MadeDebt acknowledged 0 1 (codes "a/1") (codes "<x@y>")
  first_made line = record { line = line; peer = first; here = refl; noted = (0, omega arith, refl) }

  first_owes : OwesOrEnded first 1 (codes "a/1") (codes "<x@y>") (ledger_at first.tape)
  first_owes = inl (0, omega arith, refl)

  -- a flush of that peer is under way although its tape is broken; it will be refused
  abbrev broken_life : Life
  broken_life = record {
    past = record two { peers = record (peer (codes "p")) { tape = record tape { broken = true } } ∷ [] };
    conns = [];
    connected = 0;
    now = 0;
    armed = None;
    running = true;
  }

  part_under_way : IsUnderWay (Part (codes "p")) broken_life broken_life.past broken_life.past
  part_under_way = record {
    running = refl;
    plan = planned broken_life.past (Parts 0 ∷ []) (λ (later : Past). []);
    is_plan = (0, refl, refl);
    count = 0;
    prefix = Start;
    event = Parts 0;
    here = refl;
    makes = inr (
      Tape Broken,
      record {
        peer = record (peer (codes "p")) { tape = record tape { broken = true } };
        tape = record tape { broken = true };
        here = refl;
        refused = inl (refl, refl, refl);
        changed = refl;
      },
    );
  }

  -- the peer keeps its notes, and owes what it owed
  part_within : IsSafe broken_life.past → AllZip StaysPrefix broken_life.past.peers broken_life.past.peers
  part_within safe = (at_start safe.peers.0, tt)

  -- a rotation may end in any generation
  may_rotate : IsPlan (Rotate (codes "p")) broken_life.past
      (planned broken_life.past (Rotates 0 7 ∷ []) (λ (later : Past). Rotated (codes "p") 7 ∷ []))
  may_rotate = (0, refl, (7, refl))

  -- a line between the part and the seal: the kept number is sealed, and the later line is not acknowledged
  abbrev one : Past
  one = record { peers = peer (codes "p") ∷ []; intake = tape; last = 0; begun = None }

  abbrev between : Past
  between = sealed 1 (lined (codes "a/2") (codes "<z@y>") (codes "p" ∷ [])
      (all_parted (begun_at (lined (codes "a/1") (codes "<x@y>") (codes "p" ∷ []) one))))

  between_tells : mark_at between.intake ≡ 1
  between_tells = refl

  between_stands : standing between ≡ (2, (1 ∷ 2 ∷ [], 1)) ∷ []
  between_stands = refl

  -- stopped and opened again with one note: the line after the mark is the second, and new
  between_again : line_said (codes "p" ∷ []) (restarted (1 ∷ []) 1 (left AtRest between))
      ≡ Owed 2 ((codes "p", New) ∷ [])
  between_again = refl

  -- a second seal: the number is not above the mark, and nothing is noted
  sealed_twice : length (sealed 1 between).intake.history.notes ≡ 1
  sealed_twice = refl

  -- a second begin forgets which peers were flushed, and keeps the later number
  begun_again : map (λ (p : PeerPast). p.parted) (begun_at between).peers ≡ false ∷ []
  begun_again = refl

  -- ---- a backlog file

  -- lines 1 and 3 of it, while line 2 is malformed: two notes, the close of the source, and the flush
  abbrev articles : List Good
  articles = (1, (codes "a/1", codes "<x@y>")) ∷ (3, (codes "a/2", codes "<z@y>")) ∷ []

  import_has : import_events 0 0 0 articles ≡ Imports 0 1 (codes "a/1") (codes "<x@y>")
      ∷ Imports 0 3 (codes "a/2") (codes "<z@y>") ∷ Closes 0 ∷ Spills 0 ∷ []
  import_has = refl

  import_counts : count_new 0 articles ≡ 2
  import_counts = refl

  -- if as many notes pend as may, or one fewer, room is made before the note that finds none
  import_of_full : import_events 0 most_pending 0 articles ≡ Spills 0 ∷ Imports 0 1 (codes "a/1") (codes "<x@y>")
      ∷ Imports 0 3 (codes "a/2") (codes "<z@y>") ∷ Closes 0 ∷ Spills 0 ∷ []
  import_of_full = refl

  import_of_nearly_full : import_events 0 (most_pending - 1) 0 articles ≡ Imports 0 1 (codes "a/1") (codes "<x@y>")
      ∷ Spills 0 ∷ Imports 0 3 (codes "a/2") (codes "<z@y>") ∷ Closes 0 ∷ Spills 0 ∷ []
  import_of_nearly_full = refl

  -- lines at or below the mark make no note, whatever the mark
  import_again : import_events 0 most_pending 3 articles ≡ Imports 0 1 (codes "a/1") (codes "<x@y>")
      ∷ Imports 0 3 (codes "a/2") (codes "<z@y>") ∷ Spills 0 ∷ Closes 0 ∷ Spills 0 ∷ []
  import_again = refl

  counts_again : (count_new 3 articles ≡ 0) × (count_new 1 articles ≡ 1)
  counts_again = (refl, refl)

  abbrev import_one : (number : ℕ) → List ℕ → List ℕ → PeerPast → PeerPast
  import_one number token id p = owing_as (imported_as number p) (import_key number p) token id p

  abbrev closed : PeerPast → PeerPast
  closed p = record p { tape = noted_at p.tape (closing p) }

  abbrev imported : PeerPast
  imported = closed (import_one 3 (codes "a/2") (codes "<z@y>")
      (import_one 1 (codes "a/1") (codes "<x@y>") (peer (codes "p"))))

  -- what is owed, and which source is then open
  import_leaves : keys (ledger_at imported.tape) ≡ (2 ^ 64 + 1) ∷ (2 ^ 64 + 3) ∷ []
  import_leaves = refl

  import_opens : (open_source imported ≡ 2) × (import_mark_at imported ≡ 0)
  import_opens = (refl, refl)

  -- ---- stops

  abbrev choice : Choice
  choice = record { happened = 0; fill = 0 }

  abbrev life : Life
  life = record { past = between; conns = []; connected = 3; now = 60; armed = None; running = true }

  abbrev stop : Armed
  stop = record { rank = Some 0; call = 2; choice = choice }

  -- arming keeps the kept number, and a stop drops it: no number is kept, no stop is armed, and the moment and the
  -- numbers of connections go on
  arming_keeps : (armed_with stop life).past.begun ≡ Some 1
  arming_keeps = refl

  halted_so : halted AtRest between (armed_with stop life) ≡ record {
    past = left AtRest between;
    conns = [];
    connected = 3;
    now = 60;
    armed = None;
    running = false;
  }
  halted_so = refl

  halted_keeps : (left AtRest between).begun ≡ None
  halted_keeps = refl

  -- a write that was not synced is left out by a choice that keeps nothing; the new disk can only be that
  torn : map (λ (p : PeerPast). p.tape.log) (left (ByChoice choice) (record one {
    peers = record (peer (codes "p")) { tape = record tape { log = (Wrote 0 (7 ∷ []) ∷ Synced ∷ [], []) } } ∷ [];
  })).peers ≡ (Made [] ∷ [], Made [] ∷ []) ∷ []
  torn = refl
