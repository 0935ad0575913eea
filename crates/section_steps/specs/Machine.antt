-- All locks and queues of a post, and what the threads do with them: each step is what one call's contract says of what
-- one lock keeps. Steps come in any order. That there is one order, in which each holder of a lock finds what the last
-- one left, is what a run assumes; and that a push, a pop, a store and a load are steps of that order.
use Rattle.std.specs.Prelude.{◌≡◌, ◌+◌, ◌<◌, ◌≤◌, ◌^◌, ℕ, Bool, true, List, [], ◌∷◌, ◌++◌, length}
use Rattle.std.specs.Prelude.{Some, Result, slice_get, slice_set}
use Rattle.std.specs.List.{AllZip}
use Rattle.conn_core.specs.declared.outcome.Outcome.{Outcome}
use Rattle.crossbeam_queue.specs.Passes.{view}
use Rattle.disk_model.specs.declared.Disk.{Ghosts}
use Rattle.flusher.specs.Sealed.{HasSettled, IsDoneBelow}
use Rattle.flusher.specs.Shares.{FeederCount}
use Rattle.flusher.specs.declared.fault.PostFault.{PostFault}
use Rattle.flusher.specs.declared.sealing.Receipt.{Receipt}
use Rattle.ledger_core.specs.State.{Owing}
use Rattle.ledger_core.specs.declared.note.Note.{Note}
use Rattle.note_queue.specs.Words.{front_of, sending, tape_of}
use Rattle.note_queue.specs.declared.sender.Sender.{Sender}
use Rattle.note_queue.specs.declared.side.Side.{Side}
use Rattle.peer_queue.specs.Front.{unsent_of}
use Rattle.peer_queue.specs.declared.fault.StationFault.{StationFault}
use Rattle.peer_queue.specs.declared.limits.Shed.{Shed}
use Rattle.peer_queue.specs.declared.settled.Settled.{Settled}
use Rattle.recovery.specs.Words.{IsBroken, flushed_of}
use Rattle.recovery.specs.declared.fault.TapeFault.{TapeFault}
use Rattle.recovery.specs.declared.flushed.Flushed.{Flushed}
use Rattle.recovery.specs.declared.tape.Tape.{Tape}
use Rattle.sections.specs.Post.{PostPast, StationPast}
use Rattle.sections.specs.Sections.{Runs, Section}
use Rattle.section_steps.specs.Ends.{EndStands, SenderStands}
use Rattle.section_steps.specs.FrontClauses.{SaysFail, SaysFinish, SaysKeep, SaysLearn, SaysMove, SaysSend, SaysShed}
use Rattle.section_steps.specs.FrontClauses.{SaysTake}
use Rattle.section_steps.specs.Receipts.{SaysAdd, SaysBegin, SaysDue, SaysRewrite, SaysSeal}
use Rattle.section_steps.specs.Receipts.{SealingSeen, SealingStands}
use Rattle.section_steps.specs.SideClauses.{IsPopped, SaysFlush, SaysPull, SaysRead, SaysRotate}
use Rattle.section_steps.specs.TapeSteps.{TapeStands}

-- ---- what there is

-- a peer: what its front's lock keeps and what its tape's lock keeps; what its queue holds; and the notes that its tape
-- had before the split
pub record Peer (D : Type 0) (g : Ghosts D) : Type 0 where
  pub before : List Note
  pub sender : Sender
  pub side : Side D g
  pub items : List Note

-- all peers, the intake's tape, the number that is shown, and the sealings of all receipts that are being made
pub record Machine (D : Type 0) (g : Ghosts D) : Type 0 where
  pub peers : List (Peer D g)
  pub intake : Tape D g
  pub last : ℕ
  pub sealings : List SealingSeen

-- ---- what a front's lock sees done

module _ {D : Type 0} {g : Ghosts D} where
  -- While this number is shown, a call at this peer leaves this sender, and has pushed these notes.
  --
  -- A line's number is above the one that is shown. A front learns of flushes of its own tape alone, whose counts don't
  -- fall; and it is told that its tape broke if it did.
  pub data FrontCall (last : ℕ) (peer : Peer D g) (new : Sender) : List Note → Type 0 where
    Takes : (place books mark number : ℕ) (token id : List ℕ) (result : Result (Unit {0}) PostFault)
        → last < number → SaysTake place books mark number token id peer.sender new result
        → FrontCall last peer new []
    Finishes : (connection now : ℕ) (outcome : Outcome) (before after : FeederCount)
        (result : Result Settled (Outcome × StationFault))
        → SaysFinish connection now outcome peer.sender new before after result → FrontCall last peer new []
    Sheds : (before after : ℕ) (result : Result Shed StationFault) → SaysShed peer.sender new before after result
        → FrontCall last peer new []
    Keeps : SaysKeep peer.sender new → FrontCall last peer new []
    Puts_off : (result : Result (Unit {0}) (Owing × StationFault)) → SaysMove peer.sender new result
        → FrontCall last peer new []
    Gives_back : (result : Result (Unit {0}) StationFault) → SaysMove peer.sender new result
        → FrontCall last peer new []
    Learns : (flushed : Flushed) (result : Bool) → flushed.count ≤ flushed_of (tape_of peer.side)
        → SaysLearn flushed peer.sender new result → FrontCall last peer new []
    Fails : (has_broken : Bool) → (has_broken ≡ true → IsBroken (tape_of peer.side))
        → SaysFail has_broken peer.sender new → FrontCall last peer new []
    Sends : (says : SaysSend peer.sender new) → FrontCall last peer new says.sends.more

  -- ---- what a tape's lock sees done

  -- a call at this peer leaves this side, and the queue holds these notes then
  pub data SideCall (peer : Peer D g) (new : Side D g) : List Note → Type 0 where
    Pulls : (left : List Note) (says : SaysPull peer.side new) → IsPopped peer.side peer.items new left
        → SideCall peer new left
    Flushes : (result : Result Flushed TapeFault) → SaysFlush peer.side new result → SideCall peer new peer.items
    Rotates : (result : Result ℕ TapeFault) → SaysRotate peer.side new result → SideCall peer new peer.items
    Reads : SaysRead peer.side new → SideCall peer new peer.items

  -- ---- steps

  -- fewer than 2^64 notes were ever made at a peer
  abbrev pub AreFewAt : Peer D g → Type 0
  AreFewAt peer =
      length peer.before + length (view (sending peer.sender)).sent + length (unsent_of (front_of peer.sender)) < 2 ^ 64

  abbrev pub with_peer : Machine D g → ℕ → Peer D g → Machine D g
  with_peer machine rank peer = record machine { peers = slice_set machine.peers rank peer }

  abbrev pub with_receipt : Machine D g → ℕ → SealingSeen → Machine D g
  with_receipt machine id sealing = record machine { sealings = slice_set machine.sealings id sealing }

  pub data Step (old : Machine D g) : Machine D g → Type 0 where
    At_front : (rank : ℕ) (peer : Peer D g) (new : Sender) (pushed : List Note)
        → slice_get old.peers rank ≡ Some peer → FrontCall old.last peer new pushed
        → Step old (with_peer old rank (record peer { sender = new; items = peer.items ++ pushed }))
    At_side : (rank : ℕ) (peer : Peer D g) (new : Side D g) (left : List Note)
        → slice_get old.peers rank ≡ Some peer → SideCall peer new left
        → Step old (with_peer old rank (record peer { side = new; items = left }))
    -- the intake's tape is rewritten, if that is due
    Rewrites : (new : Tape D g) (result : Result (Unit {0}) TapeFault) → SaysRewrite old.intake new result
        → Step old (record old { intake = new })
    -- the next line's number is shown
    Shows : Step old (record old { last = old.last + 1 })
    Begins : (new : SealingSeen) → SaysBegin old.last (length old.peers) new
        → Step old (record old { sealings = old.sealings ++ new ∷ [] })
    -- a receipt looks at a place
    Looks : (id rank due : ℕ) (sealing new : SealingSeen) (peer : Peer D g) → slice_get old.sealings id ≡ Some sealing
        → slice_get old.peers rank ≡ Some peer → AreFewAt peer → SaysDue rank peer.sender due sealing new
        → Step old (with_receipt old id new)
    -- it adds the place once the front has settled what was due
    Adds : (id rank count : ℕ) (sealing new : SealingSeen) (peer : Peer D g) → slice_get old.sealings id ≡ Some sealing
        → slice_get old.peers rank ≡ Some peer → HasSettled count (front_of peer.sender)
        → SaysAdd rank count sealing new → Step old (with_receipt old id new)
    -- the number is noted, and put on the disks, once each place is done
    Seals_number : (id : ℕ) (sealing : SealingSeen) (new : Tape D g) (result : Result Receipt TapeFault)
        → slice_get old.sealings id ≡ Some sealing → IsDoneBelow (length old.peers) sealing.places
        → SaysSeal sealing.number old.intake new result → Step old (record old { intake = new })

  -- any steps, in any order in which each finds what it needs
  pub data Comes (begun : Machine D g) : Machine D g → Type 0 where
    Start : Comes begun begun
    Next : (past later : Machine D g) → Comes begun past → Step past later → Comes begun later

  -- ---- when a machine stands for a post

  pub record PeerStands (peer : Peer D g) (station : StationPast) : Type 0 where
    pub sender : SenderStands peer.before peer.sender station
    pub side : EndStands peer.before peer.side peer.items station

  pub record MachineStands (machine : Machine D g) (post : PostPast) : Type 0 where
    pub peers : AllZip PeerStands machine.peers post.stations
    pub intake : TapeStands post.intake machine.intake
    pub runs : post.intake_runs ≡ true
    pub last : machine.last ≡ post.last
    pub sealings : AllZip (SealingStands post.stations) machine.sealings post.sealings

  -- these sections lead from the post to one for which the machine stands
  pub record ComesByRuns (post : PostPast) (machine : Machine D g) : Type 0 where
    pub sections : List Section
    pub later : PostPast
    pub runs : Runs post sections later
    pub stands : MachineStands machine later
