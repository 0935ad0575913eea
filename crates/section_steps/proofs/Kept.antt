-- What the laws of `sections` say of a machine.
use Rattle.std.proofs.Common.{sym, subst}
use Rattle.disk_model.specs.declared.Disk.{Ghosts}
use Rattle.recovery.specs.Image.{Log}
use Rattle.recovery.specs.Leaving.{EachLedger, IsPrefix}
use Rattle.sections.specs.Laws.{AllAreRecovered, IsBegun, LinesAreAcknowledged, OverRuns, SealedLinesAreAcknowledged}
use Rattle.sections.specs.ListLaws.{zip_at}
use Rattle.sections.specs.Post.{PostPast, StationPast}
use Rattle.sections.specs.Sound.{IsSafe, IsSound}
use Rattle.sections.specs.Tapes.{IsRecovered}
use Rattle.section_steps.proofs.Machines.{comes_by_runs, zip_there}
use Rattle.section_steps.specs.Machine.{Comes, Machine, MachineStands, Peer, PeerStands}
use Rattle.section_steps.specs.Runs.{IsKeptMachine, IsKeptPeer}

module _ {D : Type 0} {g : Ghosts D} where
  kept_peer : (was now : StationPast) (peer : Peer D g) → PeerStands peer now → IsRecovered was.tape now.tape
      → IsKeptPeer was peer
  kept_peer was now peer stands recovered = record {
    h = now.tape.history;
    stands = stands.side.tape.stands;
    notes = stands.side.put;
    left = subst (λ (log : Log). EachLedger (IsPrefix now.tape.history) log) (sym stands.side.tape.log)
        recovered.prefix;
    owes = recovered.owes;
  }

  pub kept : ((post : PostPast) → IsBegun post → IsSound post × IsSafe post)
      → OverRuns (λ begun later. IsSound later × IsSafe later) → OverRuns AllAreRecovered
      → ((post : PostPast) → IsSafe post → LinesAreAcknowledged post)
      → ((post : PostPast) → IsSound post → SealedLinesAreAcknowledged post)
      → (begun later : Machine D g) (post : PostPast) → IsBegun post → MachineStands begun post → Comes begun later
      → IsKeptMachine post later
  kept begins keeps recovers lines sealed begun later post is stands comes =
      let first = begins post is in
      let run = comes_by_runs begun later post stands comes in
      let still = keeps post run.later run.sections first.0 first.1 run.runs in
      let all = recovers post run.later run.sections first.0 first.1 run.runs in
      record {
        comes = run;
        peers = λ rank was peer here there.
            let now = zip_there PeerStands later.peers run.later.stations rank peer run.stands.peers there in
            kept_peer was now.0 peer now.2
            (zip_at (λ (one other : StationPast). IsRecovered one.tape other.tape) post.stations run.later.stations rank
            was now.0 all here now.1);
        lines = lines run.later still.1;
        sealed = sealed run.later still.0;
      }
