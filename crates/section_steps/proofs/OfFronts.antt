-- What the calls under a front's lock come to, by their clauses.
use Rattle.std.proofs.Common.{◌≡◌, ◌≢◌, ℕ, ◌<◌, Bool, true, false, true≢false, List, [], ◌∷◌, map}
use Rattle.std.proofs.Common.{refl, sym, ap, subst, arith}
use Rattle.std.specs.Prelude.{Result, Ok, Err, if◌then◌else◌, nat_lt}
use Rattle.std.proofs.lemmas.Bool.{ltb-false, ltb-true}
use Rattle.crossbeam_queue.specs.Passes.{view}
use Rattle.conn_core.specs.declared.outcome.Outcome.{Outcome}
use Rattle.disk_model.specs.declared.Disk.{Ghosts}
use Rattle.flusher.specs.Refuses.{RefusesTaking}
use Rattle.flusher.specs.Room.{IsCountFull}
use Rattle.flusher.specs.Shares.{FeederCount}
use Rattle.flusher.specs.Takes.{TakesLine}
use Rattle.flusher.specs.declared.fault.PostFault.{PostFault}
use Rattle.flusher.specs.declared.fault.PostFault.TheVariants.{CountFull, Station, Stranger}
use Rattle.ledger_core.specs.declared.note.Note.{Note}
use Rattle.ledger_core.specs.declared.note.Note.TheVariants.{Owe}
use Rattle.note_queue.specs.Words.{front_of, sending}
use Rattle.note_queue.specs.declared.sender.Sender.{Sender}
use Rattle.peer_queue.specs.Front.{IsBroken, front_shape}
use Rattle.peer_queue.specs.FrontCalls.{Settles}
use Rattle.peer_queue.specs.Settled.{key_in}
use Rattle.peer_queue.specs.declared.fault.StationFault.{StationFault}
use Rattle.peer_queue.specs.declared.fault.StationFault.TheVariants.{Broken}
use Rattle.peer_queue.specs.declared.front.Front.{Front}
use Rattle.peer_queue.specs.declared.limits.Shed.{Shed}
use Rattle.peer_queue.specs.declared.settled.Settled.{Settled}
use Rattle.recovery.specs.declared.flushed.Flushed.{Flushed}
use Rattle.sections.specs.Sections.{Section}
use Rattle.sections.specs.Sections.Section.{Notes, Sends}
use Rattle.section_steps.proofs.FrontCalls.{front_breaks, front_equal, front_keeps, front_learns, front_notes}
use Rattle.section_steps.proofs.FrontCalls.{front_same}
use Rattle.section_steps.proofs.FrontCalls.{front_settles, front_sheds}
use Rattle.section_steps.proofs.Senders.{by_pass, sends_each}
use Rattle.section_steps.specs.At.{DoesThere, LearnsThere, Spot, StandsThere, cut_if, learnt}
use Rattle.section_steps.specs.Ends.{AreOnTape}
use Rattle.section_steps.specs.FrontClauses.{SaysFail, SaysFinish, SaysKeep, SaysLearn, SaysMove, SaysSend, SaysShed}
use Rattle.section_steps.specs.FrontClauses.{SaysTake}
use Rattle.section_steps.specs.FrontWords.{end_notes, ended_notes, seen_with, shed_notes, taken_notes}
use Rattle.section_steps.specs.Steps.{FrontDoes}

-- a call that answers Ok to a line found a front that works
taking_works : (peer mark number : ℕ) (IsFull : Type 0) (front : Front) (answer : Unit {0})
    → RefusesTaking peer IsFull mark number front (Ok answer) → IsBroken front → ⊥
taking_works peer mark number IsFull front answer refuses broken =
    let room : IsFull → ⊥ = λ full.
    let wrong : Ok answer ≡ Err CountFull = refuses.count_full.1 full in absurd cc in
    let same : (front_shape front).mark ≢ mark → ⊥ = λ other.
    let wrong : Ok answer ≡ Err (Stranger peer) = refuses.stranger.1 (room, other) in absurd cc in
    same (λ is. let wrong : Ok answer ≡ Err (Station peer Broken) = refuses.broken.1 (room, is, broken) in absurd cc)

module _ {D : Type 0} (g : Ghosts D) (at : Spot) (old new : Sender) (stands : StandsThere at old) where
  -- as the front's call says, whose pass stays
  passes : (sections : List Section) → sending new ≡ sending old
      → FrontDoes g at.before at.last at.rank at.was sections [] (seen_with (view (sending old)).sent (front_of new))
      → DoesThere g at sections [] new
  passes sections pass does = by_pass g at.before at.last at.rank at.was sections [] old new pass does

  -- ---- lines

  takes_line : (mark number : ℕ) (token id : List ℕ) → (IsBroken (front_of old) → ⊥) → at.last < number
      → TakesLine mark number token id (front_of old) (front_of new) → (test : Bool) → nat_lt mark number ≡ test
      → FrontDoes g at.before at.last at.rank at.was
      (map (Notes at.rank) (if test then Owe number token id ∷ [] else [])) []
      (seen_with (view (sending old)).sent (front_of new))
  takes_line mark number token id works above takes true test =
      front_notes g at.before at.last at.rank at.was (view (sending old)).sent (front_of old) (front_of new) stands
      (Owe number token id ∷ []) works (above, tt) (takes.owes (ltb-true mark number test)).0
  takes_line mark number token id works above takes false test =
      front_equal g at.before at.last at.rank at.was (view (sending old)).sent (front_of old) (front_of new) stands
      (takes.unchanged (ltb-false mark number test))

  pub take : (peer books mark number : ℕ) (token id : List ℕ) (result : Result (Unit {0}) PostFault)
      → SaysTake peer books mark number token id old new result → at.last < number
      → DoesThere g at (map (Notes at.rank) (taken_notes mark number (Owe number token id) result)) [] new
  take peer books mark number token id (Err fault) says above =
      passes [] says.pass (front_same g at.before at.last at.rank at.was (view (sending old)).sent (front_of old)
      (front_of new) stands says.unchanged)
  take peer books mark number token id (Ok answer) says above =
      let result : Result (Unit {0}) PostFault = Ok answer in
      passes (map (Notes at.rank) (taken_notes mark number (Owe number token id) result)) says.pass
      (takes_line mark number token id
      (taking_works peer mark number (IsCountFull books) (front_of old) answer says.refuses) above says.takes
      (nat_lt mark number) refl)

  -- ---- outcomes

  pub finish : (connection now : ℕ) (outcome : Outcome) (before after : FeederCount)
      (result : Result Settled (Outcome × StationFault))
      → SaysFinish connection now outcome old new before after result
      → DoesThere g at (map (Notes at.rank) (ended_notes (key_in outcome) result)) [] new
  finish connection now outcome before after (Err fault) says =
      passes [] says.pass (front_same g at.before at.last at.rank at.was (view (sending old)).sent (front_of old)
      (front_of new) stands says.refuses.unchanged)
  finish connection now outcome before after (Ok settled) says =
      let key = key_in outcome in
      passes (map (Notes at.rank) (end_notes key settled)) says.pass
      (front_settles g at.before at.last at.rank at.was (view (sending old)).sent (front_of old) (front_of new) stands
      connection key settled (λ broken. says.refuses.held.broken.1 broken)
      (subst (λ (s : Settled). Settles connection key s (front_of old) (front_of new)) (sym says.ok.settles)
      says.ok.finishes))

  pub shed : (before after : ℕ) (result : Result Shed StationFault) → SaysShed old new before after result
      → DoesThere g at (map (Notes at.rank) (shed_notes result)) [] new
  shed before after (Err fault) says =
      passes [] says.pass (front_same g at.before at.last at.rank at.was (view (sending old)).sent (front_of old)
      (front_of new) stands says.unchanged)
  shed before after (Ok gone) says =
      let result : Result Shed StationFault = Ok gone in
      passes (map (Notes at.rank) (shed_notes result)) says.pass
      (front_sheds g at.before at.last at.rank at.was (view (sending old)).sent (front_of old) (front_of new) stands
      gone.keys.items (λ broken. let wrong : Ok gone ≡ Err Broken = says.refuses.broken.1 broken in absurd cc)
      says.ok.sheds.notes)

  -- ---- places

  pub keep : SaysKeep old new → DoesThere g at [] [] new
  keep says = passes [] says.pass (front_keeps g at.before at.last at.rank at.was (view (sending old)).sent
      (front_of old) (front_of new) stands says.keeps)

  pub move : {T E : Type 0} (result : Result T E) → SaysMove old new result → DoesThere g at [] [] new
  move (Ok answer) says = passes [] says.pass (front_keeps g at.before at.last at.rank at.was
      (view (sending old)).sent (front_of old) (front_of new) stands says.ok)
  move (Err fault) says = passes [] says.pass (front_same g at.before at.last at.rank at.was
      (view (sending old)).sent (front_of old) (front_of new) stands says.unchanged)

  -- ---- what its tape tells

  pub learn : (flushed : Flushed) (result : Bool) → AreOnTape flushed.count at.was
      → SaysLearn flushed old new result → LearnsThere g at flushed.count result new
  learn flushed false there says = record {
    does = passes [] says.pass (front_equal g at.before at.last at.rank at.was (view (sending old)).sent (front_of old)
        (front_of new) stands (ap front_of (says.unchanged (λ yes. true≢false (sym yes)))));
    settles = λ yes. absurd (true≢false (sym yes));
  }
  learn flushed true there says =
      let count = flushed.count in
      let does : DoesThere g at (learnt at count true) [] new =
      passes (learnt at count true) says.pass
      (front_learns g at.before at.last at.rank at.was (view (sending old)).sent (front_of old) (front_of new) stands
      count (says.answer.0 refl).1 there (says.learns refl)) in
      record {
        does = does;
        settles = λ yes. omega (arith, does.front.settled, (says.learns refl).outbox.settled);
      }

  pub fail : (has_broken : Bool) → (has_broken ≡ true → at.was.tape.broken ≡ true) → SaysFail has_broken old new
      → DoesThere g at (cut_if at has_broken) [] new
  fail false broken says =
      passes [] says.pass (front_equal g at.before at.last at.rank at.was (view (sending old)).sent (front_of old)
      (front_of new) stands (says.keeps refl))
  fail true broken says =
      passes (cut_if at true) says.pass (front_breaks g at.before at.last at.rank at.was (view (sending old)).sent
      (front_of old) (front_of new) stands (broken refl) (says.breaks refl))

  -- ---- notes are sent

  pub send : (says : SaysSend old new)
      → DoesThere g at (map (λ (note : Note). Sends at.rank) says.sends.more) says.sends.more new
  send says = sends_each old new says.sends says.keeps g at.before at.last at.rank at.was stands
