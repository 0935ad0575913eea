use Rattle.std.proofs.Common.{ℕ, Some, refl, sym, subst, inr, ◌∙◌}
use Rattle.std.proofs.lemmas.Option.{MatchOption-at_some}
use Rattle.note_queue.specs.Words.{front_of}
use Rattle.flusher.specs.Claims.{Holds}
use Rattle.flusher.specs.ReadAhead.{TakesOut, kept_in}
use Rattle.flusher.proofs.Ahead.{found_key}
use Rattle.flusher.proofs.Candidates.{given_back, not_err}
use Rattle.flusher.proofs.Counts.{counted_kept}
use Rattle.peer_queue.specs.declared.fault.StationFault.TheVariants.{Broken}
use Rattle.flusher.proofs.front_desk.FrontDesk.claim.Goals as goal

pub invariant_of-self : goal.invariant_of-self
invariant_of-self g c =
    let old = c.args.self.now in
    let e = c.claim_key.ensures in
    record {
      one_part = old.one_part;
      counted = counted_kept _ _ _ (front_of old.seat.sender) (front_of c.claim_key.new.self) e.keeps old.counted;
      sum = old.sum;
    }

pub returns-in-Some-take-clause-ok : goal.returns-in-Some-take-clause-ok
returns-in-Some-take-clause-ok g c =
    let old = front_of c.args.self.now.seat.sender in
    let new = front_of c.claim_key.new.self in
    let found = MatchOption-at_some _ _ c.in-Some.key c.in-Some.is c.in_ok-key.ensures.some in
    let same = found_key c.in-Some.key (kept_in c.args.self.now.ahead) c.in-Some-take.debt
    (sym c.in-Some-take.ensures.takes.found) in
    subst (λ (key : ℕ). Holds c.args.connection.0 c.args.now key old new) (sym same)
    (record { least = found.0; places = found.2 })

pub returns-in-Some-take-clause-uses : goal.returns-in-Some-take-clause-uses
returns-in-Some-take-clause-uses g c =
    let old = c.args.self.now.ahead in
    let new = c.take.new.self in
    let took = c.in-Some-take.ensures in
    let same = found_key c.in-Some.key (kept_in old) c.in-Some-take.debt (sym took.takes.found) in
    (subst (λ (key : ℕ). TakesOut key old new (Some c.in-Some-take.debt)) (sym same) took.takes, took.end)

pub returns-in-Err-clause-given_back : goal.returns-in-Err-clause-given_back
returns-in-Err-clause-given_back g c =
    let old = front_of c.args.self.now.seat.sender in
    let claimed = c.in_ok-key.ensures in
    let found = MatchOption-at_some _ _ c.in-Some.key c.in-Some.is claimed.some in
    let u = c.unclaim.ensures in
    let back = given_back c.args.connection.0 c.args.now c.in-Some.key old (front_of c.claim_key.new.self)
    (front_of c.unclaim.new.self) c.unclaim.result found.0
    (λ broken. not_err c.in_ok-key.field-0 Broken (claimed.refuses.broken.1 broken)) claimed.keeps found.2 u.ok u.broken
    u.not_held u.kinds in
    inr (c.in-Some.key, found.0, back.1)

pub returns-in-Err-clause-keeps : goal.returns-in-Err-clause-keeps
returns-in-Err-clause-keeps g c =
    let old = front_of c.args.self.now.seat.sender in
    let claimed = c.in_ok-key.ensures in
    let found = MatchOption-at_some _ _ c.in-Some.key c.in-Some.is claimed.some in
    let u = c.unclaim.ensures in
    let back = given_back c.args.connection.0 c.args.now c.in-Some.key old (front_of c.claim_key.new.self)
    (front_of c.unclaim.new.self) c.unclaim.result found.0
    (λ broken. not_err c.in_ok-key.field-0 Broken (claimed.refuses.broken.1 broken)) claimed.keeps found.2 u.ok u.broken
    u.not_held u.kinds in
    record { notes = back.0; sends = record { pass = u.pass ∙ claimed.pass; place = refl } }
