-- Which types of a post may cross threads: as the disks and the names may.
use denote.RattleType.{RattleType}
use denote.Param.Send.{IsSend, IsSync, sendable}
use Rattle.std.proofs.Crossing.{crosses}
use Rattle.std.proofs.MapsCrossing as maps
use Rattle.std.proofs.MapsCrossingOver as sets
use Rattle.std.proofs.sync.ledger.Share.TheSendSync as share
use Rattle.atomic_table.proofs.shared.Seat.TheSendSync as seat
use Rattle.atomic_table.proofs.shared.Shared.TheSendSync as shared
use Rattle.atomic_table.proofs.send_lease.SendLease.TheSendSync as lease
use Rattle.ledger_core.proofs.key.Key.TheSendSync as key
use Rattle.ledger_core.proofs.note.Debt.TheSendSync as debt
use Rattle.ledger_core.proofs.note.Note.TheSendSync as note
use Rattle.ledger_core.proofs.part.Part.TheSendSync as part
use Rattle.ledger_core.proofs.spot.Spot.TheSendSync as spot
use Rattle.ledger_core.specs.contracts.ledger.Ledger as Ledger
use Rattle.ledger_core.specs.contracts.outline.Outline as Outline
use Rattle.recovery.proofs.tape_segments.TapeSegments.TheSendSync as segments
use Rattle.recovery.specs.contracts.tape.Tape as Tape
use Rattle.flusher.proofs.tally.Books.TheSendSync as books
use Rattle.flusher.proofs.tally.Tally.TheSendSync as tally
use Rattle.flusher.specs.contracts.post.Intake as Intake
use Rattle.disk_model.specs.declared.Disk as disk
use Rattle.flusher.specs.declared.naming.Naming as naming
use Rattle.deferral.specs.contracts.later.Later as Later
use Rattle.deferral.proofs.tree.Bounds.TheSendSync as bounds
use Rattle.deferral.proofs.tree.TreeEntry.TheSendSync as entry
use Rattle.deferral.proofs.tree.Fork.TheLaws.TheKnot as knot
use Rattle.peer_queue.specs.contracts.outbox.Outbox as Outbox
use Rattle.peer_queue.specs.contracts.front.Front as Front
use Rattle.note_queue.specs.contracts.sender.Sender as Sender
use Rattle.note_queue.specs.contracts.side.Side as Side
use Rattle.flusher.specs.contracts.read_ahead.ReadAhead as ReadAhead
use Rattle.flusher.specs.contracts.front_desk.FrontDesk as FrontDesk
use Rattle.flusher.specs.contracts.tape_desk.TapeDesk as TapeDesk
use Rattle.flusher.specs.contracts.post.PeerDesk as PeerDesk
use Rattle.flusher.specs.contracts.post.Post as Post
use Rattle.flusher.specs.contracts.signals.Signals as Signals
use Rattle.flusher.proofs.signals.Latest.TheSendSync as latest

Later-send : IsSend Later.the_field.row
Later-send = search (knot.crosses, entry.the_field_send, bounds.the_field_send, sendable, crosses) depth 20

Ledger-send : IsSend Ledger.the_field.row
Ledger-send = search (spot.the_field_send, sendable, crosses, maps.crosses) depth 20

Outline-send : IsSend Outline.the_field.row
Outline-send = search (part.the_send, sendable, crosses, maps.crosses) depth 20

Outbox-send : IsSend Outbox.the_field.row
Outbox-send = search (Outline-send, note.the_field_send, sendable, crosses) depth 20

Front-send : IsSend Front.the_field.row
Front-send = search (Outbox-send, Later-send, key.the_send, sendable, crosses, maps.crosses, sets.crosses) depth 20

Sender-send : IsSend Sender.the_field.row
Sender-send = search (Front-send, note.the_field_send, seat.the_send, sendable, crosses) depth 20

ReadAhead-send : IsSend ReadAhead.the_field.row
ReadAhead-send = search (debt.the_send, key.the_send, sendable, crosses) depth 20

pub Signals-sync : IsSync Signals.the_field.row
Signals-sync = search (latest.the_field_send, sendable, crosses) depth 20

module _ (D : RattleType) (g : disk.Ghosts D.Denot) where
  Tape-send : IsSend D → IsSend (Tape.the_field D g).row
  Tape-send s = search (Ledger-send, segments.the_field_send, sendable, crosses, maps.crosses, sets.crosses) depth 20

  Intake-send : IsSend D → IsSend (Intake.the_field D g).row
  Intake-send s = let a = Tape-send s in search (sendable, crosses, maps.crosses, sets.crosses) depth 20

  Side-send : IsSend D → IsSend (Side.the_field D g).row
  Side-send s = let a = Tape-send s in search (note.the_field_send, seat.the_send, sendable, crosses) depth 20

module _ (N : RattleType) (n : naming.Ghosts N.Denot) where
  FrontDesk-send : IsSend N → IsSync N → IsSend (FrontDesk.the_field N n).row
  FrontDesk-send t y = search (Sender-send, ReadAhead-send, share.the_send, sendable, crosses) depth 20

module _ (D N : RattleType) (g : disk.Ghosts D.Denot) (n : naming.Ghosts N.Denot) where
  TapeDesk-send : IsSend D → IsSend N → IsSend (TapeDesk.the_field D N g n).row
  TapeDesk-send s t = let a = Side-send D g s in search (sendable, crosses) depth 20

  PeerDesk-sync : IsSend D → IsSend N → IsSync N → IsSync (PeerDesk.the_field D N g n).row
  PeerDesk-sync s t y =
      let a = FrontDesk-send N n t y in let b = TapeDesk-send s t in
      search (note.the_field_send, shared.the_sync, lease.the_sync, sendable, crosses) depth 30

  pub Post-sync : IsSend D → IsSend N → IsSync N → IsSync (Post.the_field D N g n).row
  Post-sync s t y =
      let a = PeerDesk-sync s t y in let b = Intake-send D g s in
      search (tally.the_field_send, books.the_send, sendable, crosses) depth 20
