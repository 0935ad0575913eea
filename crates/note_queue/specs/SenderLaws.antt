-- Laws of senders, for this crate and those above: whatever a call does to a front, what the sender keeps holds again.
use Rattle.std.proofs.Common.{◌≡◌, ◌≤◌, ◌+◌, ◌-◌, ℕ, Bool, true, false, true≢false, List, [], ◌∷◌, ◌++◌, drop, length}
use Rattle.std.proofs.Common.{refl, sym, ap, ◌∙◌, subst, append_assoc, arith, drop-drop, length-append, length-drop}
use Rattle.std.proofs.lemmas.List.{drop-append-le}
use Rattle.std.specs.Prelude.{Result, Ok, Err, IfOk, IsTrue, OnErr, OnOk}
use Rattle.ledger_core.specs.Shape.{shape_of}
use Rattle.ledger_core.specs.State.{after}
use Rattle.ledger_core.specs.StateLaws.{after-append}
use Rattle.ledger_core.specs.declared.note.Note.{Note}
use Rattle.peer_queue.specs.Front.{IsSame, KeepsNotes, Notes, front_shape, sent_of, unsent_of, unsettled_of}
use Rattle.peer_queue.specs.FrontCalls.{OnlyOutbox, Settles, Sheds}
use Rattle.peer_queue.specs.Outbox.{Breaks, Learns, Sends, box_shape, unsent_in, unsettled_in}
use Rattle.peer_queue.specs.Shed.{dropped}
use Rattle.peer_queue.specs.ShapesLaws.{shape-after}
use Rattle.peer_queue.specs.Shapes.{shape_after}
use Rattle.peer_queue.specs.declared.fault.StationFault.{StationFault}
use Rattle.peer_queue.specs.declared.front.Front.{Front}
use Rattle.peer_queue.specs.declared.limits.Shed.{Shed}
use Rattle.peer_queue.specs.declared.limits.Owed.{Owed}
use Rattle.peer_queue.specs.declared.limits.Owed.TheVariants.{Already, New}
use Rattle.peer_queue.specs.declared.settled.Settled.{Settled}
use Rattle.peer_queue.specs.declared.settled.Settled.TheVariants.{Answered, Dropped, Later, Ready}
use Rattle.note_queue.specs.Noted.{IsNoted}
use Rattle.note_queue.specs.Relay.{with_sent}
use Rattle.note_queue.specs.declared.rule.PassLog.{PassLog}

-- those of the sent notes that are not settled, if `count` are not
abbrev unsettled_sent : ℕ → List Note → List Note
unsettled_sent count sent = drop (length sent - count) sent

-- neither the shape, nor what is unsent, nor what is not settled has changed
pub noted-same : (log : PassLog) (old new : Front) → front_shape new ≡ front_shape old → unsent_of new ≡ unsent_of old
    → unsettled_of new ≡ unsettled_of old → sent_of new ≡ sent_of old → IsNoted log old → IsNoted log new
noted-same log old new shape unsent unsettled sent is =
    record {
      shape = shape ∙ is.shape ∙ ap (λ l. shape_of (after log.sent_on (log.sent ++ l))) (sym unsent);
      last = unsettled ∙ is.last ∙ (λ i. unsettled_sent (sym sent i) log.sent ++ sym unsent i);
      within = subst (λ n. n ≤ length log.sent) (sym sent) is.within;
    }

-- notes were taken
pub noted-notes : (log : PassLog) (old new : Front) (notes : List Note) → Notes old new notes → IsNoted log old
    → IsNoted log new
noted-notes log old new notes took is =
    let noted = log.sent ++ unsent_of old in
    let box = took.outbox in
    record {
      shape = box.shape
          ∙ ap (λ s. shape_after s notes) is.shape
          ∙ sym (shape-after (after log.sent_on noted) notes)
          ∙ ap shape_of (sym (after-append log.sent_on noted notes))
          ∙ ap (λ l. shape_of (after log.sent_on l)) (append_assoc log.sent (unsent_of old) notes)
          ∙ ap (λ l. shape_of (after log.sent_on (log.sent ++ l))) (sym box.unsent);
      last = box.unsettled
          ∙ ap (λ l. l ++ notes) is.last
          ∙ append_assoc (unsettled_sent (sent_of old) log.sent) (unsent_of old) notes
          ∙ (λ i. unsettled_sent (sym box.sent i) log.sent ++ sym box.unsent i);
      within = subst (λ n. n ≤ length log.sent) (sym box.sent) is.within;
    }

-- only places changed
pub noted-places : (log : PassLog) (old new : Front) → KeepsNotes old new → IsNoted log old → IsNoted log new
noted-places log old new keeps =
    noted-same log old new (ap box_shape keeps.outbox) (ap unsent_in keeps.outbox) (ap unsettled_in keeps.outbox)
    (ap (λ box. box.sent) keeps.outbox)

-- nothing changed
pub noted-unchanged : (log : PassLog) (old new : Front) → IsSame old new → IsNoted log old → IsNoted log new
noted-unchanged log old new same =
    noted-same log old new same.outbox.shape same.outbox.unsent same.outbox.unsettled same.outbox.sent

-- if `more` of them are settled, too, they are no longer among the first of what is not
settled_more : (count more : ℕ) (sent unsent : List Note) → more ≤ count → count ≤ length sent
    → drop more (unsettled_sent count sent ++ unsent) ≡ unsettled_sent (count - more) sent ++ unsent
settled_more count more sent unsent few within =
    let behind = length sent - count in
    let long : more ≤ length (drop behind sent) = omega (arith, length-drop behind sent) in
    let place : behind + more ≡ length sent - (count - more) = omega arith in
    drop-append-le more (drop behind sent) unsent long
    ∙ ap (λ l. l ++ unsent) (drop-drop more behind sent ∙ ap (λ n. drop n sent) place)

-- notes were settled, all of which were sent
pub noted-settled : (log : PassLog) (old new : Front) (count : ℕ) → OnlyOutbox (Learns count) old new
    → count ≤ sent_of old → IsNoted log old → IsNoted log new
noted-settled log old new count learns few is =
    let box = learns.outbox in
    record {
      shape = box.shape ∙ is.shape ∙ ap (λ l. shape_of (after log.sent_on (log.sent ++ l))) (sym box.unsent);
      last = box.unsettled
          ∙ ap (drop count) is.last
          ∙ settled_more (sent_of old) count log.sent (unsent_of old) few is.within
          ∙ (λ i. unsettled_sent (sym box.sent i) log.sent ++ sym box.unsent i);
      within = omega (arith, box.sent, is.within);
    }

-- the front is broken now
pub noted-broken : (log : PassLog) (old new : Front) → OnlyOutbox Breaks old new → IsNoted log old → IsNoted log new
noted-broken log old new breaks =
    let box = breaks.outbox in noted-same log old new box.shape box.unsent box.unsettled box.sent

-- a debt ended, or has another place
pub noted-finished : (log : PassLog) (old new : Front) (connection key : ℕ) (settled : Settled)
    → Settles connection key settled old new → IsNoted log old → IsNoted log new
noted-finished log old new connection key (Answered code) does = noted-notes log old new _ does.notes
noted-finished log old new connection key (Dropped cause) does = noted-notes log old new _ does.notes
noted-finished log old new connection key (Later moment) does = noted-places log old new does.keeps
noted-finished log old new connection key Ready does = noted-places log old new does.keeps

-- ---- by a call's result

-- a debt that a connection held: it ended or has another place, or the call was refused
pub noted-done : {A E : Type 0} (log : PassLog) (old new : Front) (result : Result A E) (connection key : ℕ)
    (settled : Settled) → OnOk result (Settles connection key settled old new) → OnErr result (IsSame old new)
    → IsNoted log old → IsNoted log new
noted-done log old new (Ok a) connection key settled ok err = noted-finished log old new connection key settled ok
noted-done log old new (Err e) connection key settled ok err = noted-unchanged log old new err

-- only places changed, or the call was refused
pub noted-moved : {A E P : Type 0} (log : PassLog) (old new : Front) (result : Result A E) → (P → KeepsNotes old new)
    → OnOk result P → OnErr result (IsSame old new) → IsNoted log old → IsNoted log new
noted-moved log old new (Ok a) keeps ok err = noted-places log old new (keeps ok)
noted-moved log old new (Err e) keeps ok err = noted-unchanged log old new err

-- a line was owed, or was before, or the call was refused
pub noted-owed : (log : PassLog) (old new : Front) (result : Result Owed StationFault) (note : Note)
    → (result ≡ Ok New → Notes old new (note ∷ [])) → (result ≡ Ok Already → new ≡ old)
    → OnErr result (IsSame old new) → IsNoted log old → IsNoted log new
noted-owed log old new (Ok New) note owes same err = noted-notes log old new (note ∷ []) (owes refl)
noted-owed log old new (Ok Already) note owes same err = subst (IsNoted log) (sym (same refl))
noted-owed log old new (Err e) note owes same err = noted-unchanged log old new err

-- debts were shed, or the call was refused
pub noted-shed : (log : PassLog) (old new : Front) (result : Result Shed StationFault) → IfOk result (Sheds old new)
    → OnErr result (IsSame old new) → IsNoted log old → IsNoted log new
noted-shed log old new (Ok shed) ok err = noted-notes log old new (dropped shed.keys.items) ok.notes
noted-shed log old new (Err e) ok err = noted-unchanged log old new err

-- a flush's answer was of this front's tape and of notes that were sent, or nothing changed
pub noted-answered : (log : PassLog) (old new : Front) (answer : Bool) (more : ℕ)
    → (IsTrue answer → OnlyOutbox (Learns more) old new) → (IsTrue answer → more ≤ sent_of old)
    → ((IsTrue answer → ⊥) → new ≡ old) → IsNoted log old → IsNoted log new
noted-answered log old new true more learns few same = noted-settled log old new more (learns refl) (few refl)
noted-answered log old new false more learns few same =
    subst (IsNoted log) (sym (same (λ e. true≢false (sym e))))

-- the first note that was unsent was sent
pub noted-sent : (log : PassLog) (note : Note) (old new : Front) (rest : List Note) → OnlyOutbox Sends old new
    → unsent_of old ≡ note ∷ rest → IsNoted log old → IsNoted (with_sent log note) new
noted-sent log note old new rest sends first is =
    let box = sends.outbox in
    let left = box.unsent note rest first in
    let more = length-append log.sent (note ∷ []) in
    let behind = length log.sent - sent_of old in
    let same : behind ≡ length (log.sent ++ note ∷ []) - sent_of new = omega (arith, more, box.sent, is.within) in
    record {
      shape = box.shape ∙ is.shape
          ∙ ap (λ l. shape_of (after log.sent_on (log.sent ++ l))) first
          ∙ ap (λ l. shape_of (after log.sent_on l)) (sym (append_assoc log.sent (note ∷ []) rest))
          ∙ ap (λ l. shape_of (after log.sent_on ((log.sent ++ note ∷ []) ++ l))) (sym left);
      last = box.unsettled ∙ is.last
          ∙ ap (λ l. drop behind log.sent ++ l) first
          ∙ sym (append_assoc (drop behind log.sent) (note ∷ []) rest)
          ∙ ap (λ l. l ++ rest) (sym (drop-append-le behind log.sent (note ∷ []) (omega arith)))
          ∙ (λ i. drop (same i) (log.sent ++ note ∷ []) ++ sym left i);
      within = omega (arith, more, box.sent, is.within);
    }
