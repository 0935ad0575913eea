use Rattle.std.proofs.Common.{◌≢◌, ap, refl, rules}
use Rattle.std.specs.Prelude.{Ok}
use Rattle.funnel.specs.declared.line.LineFault.TheVariants.{NoMemory}
use Rattle.peer_queue.specs.Words.{ledger_of}
use Rattle.backlog_files.proofs.Takes.{takes_good, takes_malformed}
use Rattle.backlog_files.proofs.import.Import.report_with.Goals as goal

pub returns-in_ok-owed-in-Ok-clause-taken : goal.returns-in_ok-owed-in-Ok-clause-taken
returns-in_ok-owed-in-Ok-clause-taken g c =
    let e = c.in_ok-owed-in-Ok.ensures in
    takes_good c.in_ok-owed-in-Ok.owed (ledger_of c.args.peer.now.station) (ledger_of c.owe.new.peer.station)
    c.args.number c.args.line.now _ _ c.args.self.now.report c.with_good.result
    c.in-Ok.ensures.good (λ is. e.new (ap Ok is)) (λ is. e.already (ap Ok is)) c.with_good.ensures.new
    c.with_good.ensures.already

pub returns-in-Err : goal.returns-in-Err
returns-in-Err g c =
    let e = c.in-Err.ensures in
    let other : c.in-Err.fault ≢ NoMemory = search rules in
    record {
      taken = takes_malformed c.in-Err.fault (ledger_of c.args.peer.now.station) c.args.number c.args.line.now
          c.args.self.now.report c.with_malformed.result _ refl e.too_long e.no_token e.bad_token e.bad_id other
          c.with_malformed.ensures;
      refused = tt;
      kinds = tt;
      name = refl;
    }
