-- How the two ends of a queue begin, and end.
use Rattle.std.proofs.Common.{◌≡◌, ℕ, None, Option, List, []}
use Rattle.std.proofs.Common.{◌++◌, length, refl, sym, ap, ◌∙◌, subst, arith, append_assoc, append-nil}
use Rattle.std.proofs.Common.{length-drop}
use Rattle.crossbeam_queue.specs.Passes.{view}
use Rattle.disk_model.specs.declared.Disk.{Ghosts as DiskGhosts}
use Rattle.flusher.specs.Sealed.{IsFlushed}
use Rattle.flusher.specs.Split.{IsSplitOf}
use Rattle.flusher.specs.declared.front_desk.FrontDesk.{FrontDesk}
use Rattle.flusher.specs.declared.naming.Naming.{Ghosts}
use Rattle.flusher.specs.declared.tape_desk.TapeDesk.{TapeDesk}
use Rattle.ledger_core.specs.declared.note.Note.{Note}
use Rattle.note_queue.specs.Ends.{put_by}
use Rattle.note_queue.specs.Owns.{kept_list, put_on}
use Rattle.note_queue.specs.Words.{front_of, kept_of, sending, taking, tape_of}
use Rattle.note_queue.specs.declared.joined.Joined.{Joined}
use Rattle.note_queue.specs.declared.rule.PassLog.{PassLog}
use Rattle.note_queue.specs.declared.sender.Sender.{Sender}
use Rattle.note_queue.specs.declared.side.Side.{Side}
use Rattle.peer_queue.specs.Front.{unsent_of}
use Rattle.peer_queue.specs.Words.{StandsFor}
use Rattle.peer_queue.specs.declared.station.Station.{Station}
use Rattle.recovery.specs.Notes.{History}
use Rattle.recovery.specs.Tape.{StandsFor as TapeStandsFor}
use Rattle.recovery.specs.declared.tape.Tape.{Tape}
use Rattle.sections.specs.Post.{StationPast}
use Rattle.section_steps.proofs.AtSides.{cancel}
use Rattle.section_steps.proofs.Tapes.{left_prefix, not_true, stands_now}
use Rattle.section_steps.specs.Ends.{EndStands, SenderStands}
use Rattle.section_steps.specs.Split.{AreFew, BeginsAt, IsLeftOf, SaysJoin}
use Rattle.section_steps.specs.TapeSteps.{TapeStands}

none_put : (got : List Note) (kept : Option Note) → got ≡ [] → kept ≡ None → put_on got kept ≡ []
none_put got kept none is = (λ i. put_on (none i) (is i))

module _ {D : Type 0} {g : DiskGhosts D} where
  pub sent_there : (before : List Note) (sender : Sender) (side : Side D g) (items : List Note) (station : StationPast)
      → SenderStands before sender station → EndStands before side items station
      → (view (sending sender)).sent ≡ (view (taking side)).got ++ items
  sent_there before sender side items station front tape =
      let sent = (view (sending sender)).sent in
      let put = put_by side in
      let kept = kept_list (kept_of side) in
      let got = (view (taking side)).got in
      cancel before sent (got ++ items)
      (sym front.noted
      ∙ ((λ i. tape.put i ++ tape.queue i)
      ∙ (append_assoc before put (kept ++ items)
      ∙ (ap (λ (l : List Note). before ++ l) (sym (append_assoc put kept items))
      ∙ ap (λ (l : List Note). before ++ (l ++ items)) (sym side.last)))))

  pub joined_left : (before : List Note) (sender : Sender) (side : Side D g) (items : List Note)
      (station : StationPast) (joined : Joined D g) → SenderStands before sender station
      → EndStands before side items station → SaysJoin sender side joined → IsLeftOf station joined
  joined_left before sender side items station joined front tape says =
      let same : items ≡ joined.queued.items =
      cancel (view (taking side)).got items joined.queued.items
      (sym (sent_there before sender side items station front tape) ∙ says.order.1) in
      record {
        tape = subst (λ (t : Tape D g). TapeStands station.tape t) (sym says.ends.1) tape.tape;
        left = (λ i. tape.queue i ++ front.unsent i)
            ∙ (append_assoc (kept_list (kept_of side)) items (unsent_of (front_of sender))
            ∙ (λ i. kept_list (sym says.ends.2 i) ++ (same i ++ unsent_of (sym says.ends.0 i))));
      }

  -- ---- a station that was split

  all_kept : (station : Station D g) (h : History) → StandsFor station h → IsFlushed station → h.kept ≡ length h.notes
  all_kept station h stands flushed =
      omega (
        arith,
        flushed.none_pends,
        (stands.working flushed.works).pending_count,
        length-drop h.kept h.notes,
        stands.kept_within,
      )

  module _ {N : Type 0} {n : Ghosts N} where
    pub splits : (place : ℕ) (station : Station D g) (front : FrontDesk N n) (tape : TapeDesk D N g n) (h : History)
        → StandsFor station h → IsFlushed station → AreFew h → IsSplitOf place station front tape
        → BeginsAt h front.seat.sender tape.side
    splits place station front tape h stands flushed few split =
        let sender = front.seat.sender in
        let side = tape.side in
        let now : TapeStandsFor (tape_of side) h = (split.writes.0.stands h).0 stands in
        let kept = all_kept station h stands flushed in
        let sent : (view (sending sender)).sent ≡ [] = ap (λ (log : PassLog). log.sent) split.passes.0 in
        let got : (view (taking side)).got ≡ [] = ap (λ (log : PassLog). log.got) split.passes.1 in
        record {
          sends = record {
            runs = refl;
            noted = ap (λ (l : List Note). h.notes ++ l) (sym sent);
            unsent = sym split.owes.unsent;
            settled = omega (arith, kept, few, stands.opened, stands.count, split.owes.settled);
            counted = omega (
              arith,
              kept,
              few,
              stands.opened,
              stands.count,
              split.owes.settled,
              split.owes.sent,
              ap (λ (l : List Note). length (h.notes ++ l)) sent,
              ap length (append-nil h.notes),
            );
            cut_off = sym (not_true (front_of sender).outbox.broken
                (λ broken. flushed.works (split.owes.works.0 broken)));
          };
          takes = record {
            runs = refl;
            tape = stands_now (tape_of side) h now;
            put = sym (ap (λ (l : List Note). h.notes ++ l)
                (none_put (view (taking side)).got (kept_of side) got split.writes.1) ∙ append-nil h.notes);
            queue = (λ i. kept_list (sym split.writes.1 i) ++ []);
          };
          begun = record { all = refl; kept = kept; left = left_prefix (tape_of side) h now };
        }
