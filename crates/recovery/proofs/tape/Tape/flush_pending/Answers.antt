-- What was pending is on the disk, and nothing is pending; or the tape broke, and stands for what it stood for.
use Rattle.std.proofs.Common.{rules, suc, ◌≡◌, ℕ, List, ◌++◌, length, length-drop, take, drop, take-append-drop, Err}
use Rattle.std.proofs.Common.{refl, sym, ap, ◌∙◌, subst, arith}
use Rattle.ledger_core.specs.declared.note.Note.{Note}
use Rattle.ledger_core.specs.Batch.{longest_batch, payloads_of}
use Rattle.disk_model.specs.Disk.{Event}
use Rattle.tape_journal.specs.Journal.{Holds, appending, disk_of as journal_disk, end_of as journal_end}
use Rattle.tape_journal.specs.Segment.{AllShort}
use Rattle.tape_journal.specs.declared.fault.AppendFault.{AppendFault}
use Rattle.tape_journal.specs.declared.fault.AppendFault.TheVariants.{Disk as AppendDisk, Broken as AppendBroken}
use Rattle.tape_journal.specs.declared.fault.AppendFault.TheVariants.{TapeFull as AppendTapeFull, PayloadTooLong}
use Rattle.tape_journal.specs.declared.fault.AppendFault.TheVariants.{NoMemory as NoAppendMemory}
use Rattle.disk_model.specs.declared.Disk.{Ghosts}
use Rattle.tape_journal.specs.declared.journal.Journal.{Journal}
use Rattle.ledger_core.specs.Base.{Restores}
use Rattle.std.specs.Prelude.{◌-◌, ◌^◌, ◌≤◌, [], ◌∷◌, min, map, vec_items}
use Rattle.std.specs.List.{All}
use Rattle.ledger_core.specs.Index.{Indexes}
use Rattle.ledger_core.specs.IndexLaws.{indexes-flushed}
use Rattle.ledger_core.specs.Spots.{records_length}
use Rattle.ledger_core.specs.StateLaws.{after-append, AllLegal-back}
use Rattle.ledger_core.specs.State.{AllLegal, after}
use Rattle.ledger_core.specs.WrittenLaws.{restores-on}
use Rattle.recovery.specs.LeavingLaws.{cut-none, cut-payloads}
use Rattle.recovery.specs.Pending.{payloads_in}
use Rattle.recovery.specs.Notes.{AreLegal, flushed}
use Rattle.recovery.specs.declared.tape_segments.TapeSegments.{TapeSegments}
use Rattle.recovery.proofs.Counts.{live_risen}
use Rattle.recovery.proofs.Stands.{stands_whole, stands_refused, flush_moments, same_tape}
use Rattle.recovery.specs.Pairs.{placed}
use Rattle.recovery.specs.Words.{append_fault, live_log, other_log}
use Rattle.recovery.specs.declared.fault.TapeFault.TheVariants.{Disk, TapeFull}
use Rattle.recovery.proofs.tape.Tape.flush_pending.Goals as goal

-- the tape reports a fault of the disk if its journal does
disk_told : (fault : AppendFault) → append_fault fault ≡ Disk → fault ≡ AppendDisk
disk_told AppendDisk e = refl
disk_told AppendBroken e = cc
disk_told AppendTapeFull e = cc
disk_told PayloadTooLong e = cc
disk_told NoAppendMemory e = cc

-- what fits a batch is short
fit_short : (payloads : List (List ℕ)) → All (λ (l : List ℕ). length l ≤ longest_batch) payloads → AllShort payloads
fit_short [] all = tt
fit_short (payload ∷ payloads) all = (
  omega (arith, all 0 [] (omega arith)),
  fit_short payloads (λ k d within. all (suc k) d (omega (arith, within))),
)

-- the tape is full if its journal is
full_told : (fault : AppendFault) → append_fault fault ≡ TapeFull → (fault ≡ PayloadTooLong → ⊥) → fault ≡ AppendTapeFull
full_told AppendTapeFull e short = refl
full_told PayloadTooLong e short = absurd (short refl)
full_told AppendDisk e short = absurd (cc e)
full_told AppendBroken e short = absurd (cc e)
full_told NoAppendMemory e short = absurd (cc e)

-- a segment whose journal is the same is the same
same_segments : {D : Type 0} {g : Ghosts D} (segments : TapeSegments D g) (live : Journal D g) → live ≡ segments.live →
    record segments { live = live } ≡ segments
same_segments segments live same = ap (λ (j : Journal _ _). record segments { live = j }) same

pub returns-in-Ok-clause-flushes : goal.returns-in-Ok-clause-flushes
returns-in-Ok-clause-flushes g c = λ h stands.
    let tape = c.args.self.now in
    let w = stands.working c.requires.works in
    let more = drop h.kept h.notes in
    let appends = rw c.payloads.ensures at (c.in-Ok.ensures.appends w.payloads w.holds) in
    let batches = w.pending.batches in
    let held : Holds c.append_all.new.self (w.payloads ++ payloads_in tape.pending) = appends.ok in
    let parts = take-append-drop h.kept h.notes in
    let are = subst (AreLegal h.base) (sym parts) stands.are_legal in
    let left : after (after h.base (take h.kept h.notes)) more ≡ after h.base h.notes = sym
    (after-append h.base (take h.kept h.notes) more) ∙ ap (after h.base) parts in
    let restores = subst (λ (l : List Note). Restores (w.payloads ++ payloads_of batches) tape.segments.generation
    (after (after h.base (take h.kept h.notes)) l)) w.pending.cut.whole
    (restores-on w.payloads tape.segments.generation (after h.base (take h.kept h.notes)) batches w.restores
    w.pending.cut.are
    (subst (AllLegal (after h.base (take h.kept h.notes))) (sym w.pending.cut.whole)
    (AllLegal-back h.base (take h.kept h.notes) more are.legal))) in
    let called : g.D.Disk.log (journal_disk c.append_all.new.self)
    ≡ appending (journal_end tape.segments.live) (payloads_in tape.pending) (live_log tape)
    = appends.calls (λ none. c.requires.pends (omega (
      arith,
      w.pending_count,
      ap length (cut-none more batches w.pending.cut (sym w.pending.payloads ∙ ap (map vec_items) none)),
    ))) in
    let counted : c.saturating_add-self.result ≡ min (length h.notes - h.opened) (2 ^ 64 - 1) = omega (
      arith,
      stands.count,
      w.pending_count,
      length-drop h.kept h.notes,
      stands.kept_within,
      c.saturating_add-self.ensures,
      stands.opened,
    ) in
    record {
      ok = stands_whole _ (flushed h) (c.append_all.ensures.continues.honest.0 stands.honest.0, stands.honest.1)
          stands.are_legal refl stands.ledger
          (w.payloads ++ payloads_of batches)
          (subst (λ (l : List (List ℕ)). Holds c.append_all.new.self (w.payloads ++ l)) w.pending.payloads held)
          (subst (Restores (w.payloads ++ payloads_of batches) tape.segments.generation) left restores) w.other
          c.clear.ensures.payloads c.clear.ensures.count counted
          (omega (arith, stands.opened, stands.kept_within))
          (subst (λ (l : List (List ℕ)). Indexes (length (w.payloads ++ l)) (w.payloads ++ l) tape.ledger)
          w.pending.payloads
          (indexes-flushed (length w.payloads) (w.payloads ++ payloads_in tape.pending) tape.ledger w.indexed.indexes))
          (w.indexed.ends.next_is
          ∙ ap (λ (l : List (List ℕ)). min (records_length (w.payloads ++ l)) (2 ^ 64 - 1)) w.pending.payloads);
      stays = tt;
      count = c.of.ensures.count ∙ counted;
      moments = flush_moments tape h (g.D.Disk.log (journal_disk c.append_all.new.self)) stands c.requires.works
          (λ all holds. let run = rw c.payloads.ensures at (c.append_all.ensures.appends all holds) in run.moments);
      calls = λ pends others cut. ap (λ (l : List Event). placed tape.segments.second l (other_log tape))
          (called ∙ ap (λ (ps : List (List ℕ)). appending (journal_end tape.segments.live) ps (live_log tape))
          (w.pending.payloads ∙ cut-payloads more batches others w.pending.cut cut));
      cause = λ told. absurd (cc told);
    }

pub returns-in-Err-clause-flushes : goal.returns-in-Err-clause-flushes
returns-in-Err-clause-flushes g c = λ h stands.
    let tape = c.args.self.now in
    let w = stands.working c.requires.works in
    let moments = flush_moments tape h (g.D.Disk.log (journal_disk c.append_all.new.self)) stands c.requires.works
    (λ all holds. let run = rw c.payloads.ensures at (c.append_all.ensures.appends all holds) in run.moments) in
    record {
      ok = tt;
      stays = stands_refused tape _ h stands (c.append_all.ensures.continues.honest.0 stands.honest.0, stands.honest.1)
          refl refl refl refl moments
          (λ works. same_segments tape.segments c.append_all.new.self (c.in-Err.ensures.refuses.works works))
          (λ kept was. record { indexes = was.indexes; ends = was.ends });
      count = tt;
      moments = moments;
      calls = λ pends others cut. tt;
      cause = λ told. live_risen tape.segments.second _ _ _
          ((c.in-Err.ensures.appends w.payloads w.holds).cause
          (ap Err (disk_told c.in-Err.fault (cc (told, c.append_fault.ensures)))));
    }

pub returns-in-Err-clause-refuses : goal.returns-in-Err-clause-refuses
returns-in-Err-clause-refuses g c =
    let tape = c.args.self.now in
    let short = fit_short (payloads_in tape.pending) tape.pending.fit in
    let refuses = rw c.payloads.ensures at c.in-Err.ensures.refuses in
    record {
      broken = search rules;
      full = (
        λ told.
            let is = full_told c.in-Err.fault (cc (told, c.append_fault.ensures))
            (λ long. (refuses.too_long.0 (ap Err long)).1 short) in
            let said = refuses.full.0 (ap Err is) in
            (said.0, (said.2, said.3)),
        λ is.
            let fault : c.in-Err.fault ≡ AppendTapeFull = cc (refuses.full.1 (is.0, short, is.1.0, is.1.1)) in
            ap Err (c.append_fault.ensures ∙ ap append_fault fault),
      );
      unchanged = λ other. same_tape tape _ (same_segments tape.segments c.append_all.new.self
          (c.in-Err.ensures.refuses.unchanged (λ disk. other (c.append_fault.ensures ∙ ap append_fault disk)))) _;
      breaks = λ told.
          c.in-Err.ensures.refuses.breaks (ap Err (disk_told c.in-Err.fault (cc (told, c.append_fault.ensures))));
      works = tt;
      kinds = search rules;
    }
