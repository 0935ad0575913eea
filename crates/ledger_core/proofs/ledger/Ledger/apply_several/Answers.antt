use Rattle.std.proofs.Common.{Err, ◌≡◌, ◌-◌, ◌∷◌, ◌++◌, ℕ, List, length, length-append, sym, ap, ◌∙◌, subst, arith}
use Rattle.std.proofs.lemmas.Bool.{false≢true}
use Rattle.std.proofs.lemmas.Result.{err_from_is_err_and}
use Rattle.std.specs.Int.{to_be_bytes, w32}
use Rattle.ledger_core.specs.declared.ledger.ReplayFault.TheVariants.{Refused}
use Rattle.ledger_core.specs.Batch.{together}
use Rattle.ledger_core.specs.IndexLaws.{found-inside, placed}
use Rattle.ledger_core.specs.Ledger.{state_of}
use Rattle.ledger_core.specs.Spots.{IsFound, StandsAt}
use Rattle.ledger_core.proofs.Batches.{AreTaken, no-end, no-next, one-taken}
use Rattle.ledger_core.proofs.Replayed.{err-apart}
use Rattle.ledger_core.proofs.Spellings.{not-empty}
use Rattle.ledger_core.proofs.ledger.Ledger.apply_several.Goals as goal

pub returns-in_default-clause-refused : goal.returns-in_default-clause-refused
returns-in_default-clause-refused c = λ told e. (
  cc e,
  no-next (state_of c.args.self.now) (state_of c.loop.self) c.loop.counter c.args.count c.args.body.now
      c.loop.rest.now c.loop.invariant.taken (omega arith) (λ note behind is split legal.
      let there = rw c.in_default.is at c.first_in.ensures.first in
      false≢true (there note behind split).0),
)

pub returns-in_err-apply_octets-clause-refused : goal.returns-in_err-apply_octets-clause-refused
returns-in_err-apply_octets-clause-refused c = λ told e.
    let p = err_from_is_err_and c.from_residual.result c.from_residual.ensures.1 in
    let fault : c.in_err-apply_octets.field-0.0 ≡ Refused told = sym p.2 ∙ err-apart (sym p.1 ∙ e) in
    let said = c.in_err-apply_octets.ensures.refused told (ap Err fault) in (
      said.0,
      no-next (state_of c.args.self.now) (state_of c.loop.self) c.loop.counter c.args.count c.args.body.now
          c.loop.rest.now c.loop.invariant.taken (omega arith) (λ note behind is split legal.
          said.1 note is (sym (c.in-Some.ensures.first note behind split).1) legal),
    )

pub loop-preserved : goal.loop-preserved
loop-preserved c =
    let taken = c.loop.invariant.taken in
    let said = c.in_ok-apply_octets.ensures.ok in
    let within = length c.args.body.now - length c.loop.rest.now in
    let counted = to_be_bytes w32 c.args.count in
    let split : c.args.body.now ≡ together taken.read ++ (c.in-Some.note.now ++ c.in-Some.behind.now) =
    taken.split ∙ ap (λ (l : List ℕ). together taken.read ++ l) c.in-Some.ensures.parts in
    record {
      taken = one-taken (state_of c.args.self.now) (state_of c.loop.self) (state_of c.apply_octets.new.self)
          c.loop.counter c.args.body.now c.loop.rest.now c.in-Some.note.now c.in-Some.behind.now said.0 taken c.in-Some.ensures.parts
          said.1 said.2 said.3 said.4;
      indexed = λ kept payloads indexes stands.
          c.in_ok-apply_octets.ensures.indexes kept payloads (c.loop.invariant.indexed kept payloads indexes stands)
          (λ note spelled. placed kept payloads c.args.at 0 within note
          (subst (IsFound kept payloads c.args.at 0 within) (sym spelled)
          (found-inside kept payloads c.args.at 0 within c.args.count (together taken.read) c.in-Some.note.now
          c.in-Some.behind.now (subst (λ (l : List ℕ). StandsAt kept payloads c.args.at 0 (11 ∷ (counted ++ l)))
          split stands) (omega (
            arith,
            ap length taken.split,
            length-append (together taken.read) c.loop.rest.now,
          )))));
    }

pub returns-else-is_empty-clause-refused : goal.returns-else-is_empty-clause-refused
returns-else-is_empty-clause-refused c = λ told e. (
  cc e,
  λ notes are. no-end (state_of c.args.self.now) (state_of c.loop.self) c.args.count c.args.body.now c.loop.rest.now
      (subst (λ (n : ℕ). AreTaken (state_of c.args.self.now) (state_of c.loop.self) n c.args.body.now c.loop.rest.now)
      (omega arith) c.loop.invariant.taken) (λ none. not-empty c.loop.rest.now none c.if-is_empty.ensures) notes are,
)
