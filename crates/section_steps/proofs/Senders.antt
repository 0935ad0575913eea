-- What the calls of a sender come to.
use Rattle.std.proofs.Common.{◌≡◌, ℕ, ◌+◌, ◌-◌, List, ◌++◌, drop}
use Rattle.std.proofs.Common.{length, map, sym, ap, subst, arith, length-append, length-drop}
use Rattle.crossbeam_queue.specs.Passes.{Pass, view}
use Rattle.disk_model.specs.declared.Disk.{Ghosts}
use Rattle.ledger_core.specs.declared.note.Note.{Note}
use Rattle.note_queue.specs.Noted.{IsNoted, IsOnlySent}
use Rattle.note_queue.specs.Sending.{SendsMore}
use Rattle.note_queue.specs.Words.{front_of, sending}
use Rattle.note_queue.specs.declared.rule.PassLog.{PassLog}
use Rattle.note_queue.specs.declared.sender.Sender.{Sender}
use Rattle.peer_queue.specs.Front.{sent_of, settled_of, unsent_of, unsettled_of}
use Rattle.peer_queue.specs.declared.front.Front.{Front}
use Rattle.sections.specs.Post.{StationPast, notes_of}
use Rattle.sections.specs.Sections.{Section}
use Rattle.sections.specs.Sections.Section.{Sends}
use Rattle.section_steps.proofs.AtFronts.{does_send}
use Rattle.section_steps.specs.Ends.{SenderStands, front_seen}
use Rattle.section_steps.specs.FrontWords.{seen_with}
use Rattle.section_steps.specs.Steps.{FrontDoes}

-- a call that leaves the pass alone has sent nothing
pub by_pass : {D : Type 0} (g : Ghosts D) (before : List Note) (last rank : ℕ) (was : StationPast)
    (sections : List Section) (pushed : List Note) (old new : Sender) → sending new ≡ sending old
    → FrontDoes g before last rank was sections pushed (seen_with (view (sending old)).sent (front_of new))
    → FrontDoes g before last rank was sections pushed (front_seen new)
by_pass g before last rank was sections pushed old new same does =
    subst (λ (p : Pass Note PassLog). FrontDoes g before last rank was sections pushed
    (seen_with (view p).sent (front_of new))) (sym same) does

-- how many notes pend at a front: those that were sent and are not settled, and those that were not sent
pub pends : (log : PassLog) (front : Front) → IsNoted log front
    → length (unsettled_of front) ≡ sent_of front + length (unsent_of front)
pends log front noted =
    omega (
      arith,
      ap length noted.last,
      length-append (drop (length log.sent - sent_of front) log.sent) (unsent_of front),
      length-drop (length log.sent - sent_of front) log.sent,
      noted.within,
    )

module _ (old new : Sender) (sends : SendsMore old new) (keeps : IsOnlySent (front_of old) (front_of new)) where
  -- as many more were sent as were pushed
  sent_more : sent_of (front_of new) ≡ sent_of (front_of old) + length sends.more
  sent_more =
      omega (
        arith,
        pends (view old.pass) old.front old.noted,
        pends (view new.pass) new.front new.noted,
        ap length keeps.unsettled,
        ap length sends.unsent,
        length-append sends.more (unsent_of new.front),
      )

  pub sends_each : {D : Type 0} (g : Ghosts D) (before : List Note) (last rank : ℕ) (was : StationPast)
      → SenderStands before old was
      → FrontDoes g before last rank was (map (λ (note : Note). Sends rank) sends.more) sends.more (front_seen new)
  sends_each g before last rank was stands =
      does_send g before last rank was (front_seen old) (front_seen new) stands sends.more (unsent_of new.front)
      sends.unsent
      (λ i. record {
        sent = sends.sent i;
        unsent = unsent_of new.front;
        settled = keeps.settled i;
        pending = sent_more i;
        broken = keeps.works i;
      })

-- what a front counts as noted are all notes of its station since the opening
pub noted_all_at : (before : List Note) (sender : Sender) (station : StationPast) → SenderStands before sender station
    → length (notes_of station)
    ≡ station.tape.history.opened + (settled_of (front_of sender) + length (unsettled_of (front_of sender)))
noted_all_at before sender station stands =
    let notes = station.tape.history.notes in
    omega (
      arith,
      pends (view sender.pass) sender.front sender.noted,
      stands.counted,
      ap length stands.noted,
      ap length stands.unsent,
      length-append notes (station.queue ++ station.unsent),
      length-append station.queue station.unsent,
      length-append notes station.queue,
    )
