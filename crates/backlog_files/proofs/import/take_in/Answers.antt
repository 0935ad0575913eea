use Rattle.std.proofs.Common.{◌≡◌, ◌∙◌, refl, rules, subst, sym}
use Rattle.std.specs.Prelude.{IsTrue}
use Rattle.peer_queue.specs.Words.{ledger_of}
use Rattle.backlog_files.specs.Imports.{TakesIn, TakesSome}
use Rattle.peer_queue.specs.declared.fault.StationFault.{StationFault}
use Rattle.backlog_files.specs.declared.fault.ImportFault.{ImportFault}
use Rattle.backlog_files.specs.declared.fault.ImportFault.TheVariants.{Station}
use Rattle.backlog_files.proofs.Reach.{empty_piece, ends_open, ends_refused, reaches_end, reaches_line, reaches_none}
use Rattle.backlog_files.proofs.Reach.{reaches_piece, reaches_same, reaches_some}
use Rattle.backlog_files.proofs.Takes.{stays_open}
use Rattle.backlog_files.proofs.import.take_in.Goals as goal
use Rattle.backlog_files.proofs.import.take_in.Goals.{in-Some+in_ok-take-in-Some, in-None+in_ok-read_piece-in-None+else-not-branch}

pub loop-init : goal.loop-init
loop-init g c = (
  λ octets given known.
      reaches_none octets (ledger_of c.args.peer.now.station) c.new-import.result.number c.new-import.result.report
      c.args.lines given known c.new-import.ensures.0 c.new-import.ensures.1,
  refl,
  refl,
)

pub returns-in_err-take-in-Some-clause-imports : goal.returns-in_err-take-in-Some-clause-imports
returns-in_err-take-in-Some-clause-imports g c octets given known =
    let begun = ledger_of c.args.peer.now.station in
    let now = ledger_of c.loop.peer.station in
    let next = ledger_of c.take.new.peer.station in
    let some : (fault : ImportFault) → TakesSome octets begun next fault = λ fault.
    reaches_some octets begun now next c.loop.import.number c.loop.import.report fault c.loop.lines
    (c.loop.invariant.0 octets given known)
    (ends_open fault now next c.in_err-take-in-Some.ensures.refused.0) in
    search (some, rules)

pub returns-in_err-read_piece-in-None-clause-imports : goal.returns-in_err-read_piece-in-None-clause-imports
returns-in_err-read_piece-in-None-clause-imports g c octets given known =
    let begun = ledger_of c.args.peer.now.station in
    let now = ledger_of c.loop.peer.station in
    let some : (fault : ImportFault) → TakesSome octets begun now fault = λ fault.
    reaches_some octets begun now now c.loop.import.number c.loop.import.report fault c.loop.lines
    (c.loop.invariant.0 octets given known) (ends_open fault now now refl) in
    search (some, rules)

pub returns-in_err-source-in-None-clause-imports : goal.returns-in_err-source-in-None-clause-imports
returns-in_err-source-in-None-clause-imports g c octets given known =
    let begun = ledger_of c.args.peer.now.station in
    let now = ledger_of c.loop.peer.station in
    let next = ledger_of c.close.new.peer.station in
    let some : (fault : ImportFault) (refused : StationFault) → fault ≡ Station refused
    → TakesSome octets begun next fault = λ fault refused is.
    reaches_some octets begun now next c.loop.import.number c.loop.import.report fault c.loop.lines
    (c.loop.invariant.0 octets given known)
    (ends_refused fault refused now next is c.in_err-source-in-None.ensures.refused) in
    search (some, rules)

pub returns-then-not-branch-clause-imports : goal.returns-then-not-branch-clause-imports
returns-then-not-branch-clause-imports g c octets given known =
    let begun = ledger_of c.args.peer.now.station in
    let now = ledger_of c.loop.peer.station in
    let number = c.loop.import.number in
    let report = c.loop.import.report in
    let reached = reaches_same octets begun now number report c.loop.lines c.next_read.new.self
    (c.loop.invariant.0 octets given known) c.in-None.ensures.none c.in-None.ensures.reader in
    let read = c.in_ok-read_piece-in-None.ensures.read in
    let none : IsTrue c.in_ok-read_piece-in-None.field-0 → ⊥ = search rules in
    let whole = reaches_end octets begun now (ledger_of c.close.new.peer.station) number report
    c.has_rest-has_rest.result c.next_read.new.self c.read_piece.new.self read.0 reached.0 reached.1 read.1
    (c.in_ok-read_piece-in-None.ensures.end none) (empty_piece read.0 c.in_ok-read_piece-in-None.field-0 read.2 none)
    read.3 c.in_ok-source-in-None.ensures.closed.0 c.has_rest-has_rest.ensures in
    let counted = subst (λ counts. TakesIn octets begun (ledger_of c.close.new.peer.station)
    (record counts { has_rest = c.has_rest-has_rest.result })) (sym c.report.ensures) whole in
    subst (λ report. TakesIn octets begun (ledger_of c.close.new.peer.station) report) (sym c.new.ensures.0) counted

pub loop-preserved : goal.loop-preserved
loop-preserved g c = elim c.match-next_read.branch [
  | in-Some+in_ok-take-in-Some w ↦ rw (w.peer-is, w.lines-is, w.import-is) (
    λ octets given known.
        let same : w.deref.result.now ≡ w.in-Some.line.items = search w.deref.ensures.value in
        reaches_line octets (ledger_of c.args.peer.now.station) (ledger_of c.loop.peer.station)
        (ledger_of w.take.new.peer.station) c.loop.import.number w.take.new.self.number c.loop.import.report
        w.take.new.self.report c.loop.lines c.next_read.new.self w.deref.result.now
        (c.loop.invariant.0 octets given known) (λ read lines stands.
        let line = w.in-Some.ensures.line read lines stands in (line.0, same ∙ line.1, line.2))
        w.in-Some.ensures.reader w.in_ok-take-in-Some.ensures.number w.in_ok-take-in-Some.ensures.taken,
    w.in_ok-take-in-Some.ensures.name ∙ c.loop.invariant.1,
    let next = ledger_of w.take.new.peer.station in
        stays_open (ledger_of c.args.peer.now.station) (ledger_of c.loop.peer.station) next _ _ _ _
        w.in_ok-take-in-Some.ensures.taken c.loop.invariant.2,
  )
  | in-None+in_ok-read_piece-in-None+else-not-branch w ↦ rw (w.peer-is, w.lines-is, w.import-is) (
    λ octets given known.
        let begun = ledger_of c.args.peer.now.station in
        let now = ledger_of c.loop.peer.station in
        let reached = reaches_same octets begun now c.loop.import.number c.loop.import.report c.loop.lines
        c.next_read.new.self (c.loop.invariant.0 octets given known) w.in-None.ensures.none w.in-None.ensures.reader in
        let read = w.in_ok-read_piece-in-None.ensures.read in
        reaches_piece octets begun now c.loop.import.number c.loop.import.report c.next_read.new.self
        w.read_piece.new.self read.0 reached.0 read.1 read.3,
    c.loop.invariant.1,
    c.loop.invariant.2,
  )
]

pub returns-clause-imports : goal.returns-clause-imports
returns-clause-imports g c octets given known =
    let now = ledger_of c.loop.peer.station in
    let some : (fault : ImportFault) → TakesSome octets (ledger_of c.args.peer.now.station) now fault = λ fault.
    reaches_some octets (ledger_of c.args.peer.now.station) now now c.loop.import.number c.loop.import.report fault
    c.loop.lines (c.loop.invariant.0 octets given known) (ends_open fault now now refl) in
    some _
