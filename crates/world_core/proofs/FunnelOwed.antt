-- What is owed of a funnel's lines after a run that goes by it, and at each moment within the next step.
use Rattle.std.proofs.Common.{◌≡◌, ℕ, ◌≤◌, List, take, sym, ap, subst, inl, inr, arith}
use Rattle.feed_conf.specs.declared.conf.PeerConf.{PeerConf}
use Rattle.ledger_core.specs.declared.note.Note.TheVariants.{Owe}
use Rattle.ledger_core.specs.State.{State, start}
use Rattle.recovery.specs.Leaving.{EachLedger, IsPrefix}
use Rattle.recovery.specs.LeavingLaws.{EachLedger-weaker, LedgersLeave-weaker, each_may}
use Rattle.recovery.specs.Notes.{begun as no_history}
use Rattle.sections.specs.ListLaws.{all_at, at_all, get_below, zip_get}
use Rattle.sections.specs.TapeLaws.{owed_by, prefix_mark}
use Rattle.sections.specs.Tapes.{OwesOrEnded, mark_at}
use Rattle.world_core.specs.Past.{Life, Past, PeerPast}
use Rattle.world_core.specs.Crashes.{IsUnderWay, StaysPrefix}
use Rattle.world_core.specs.FunnelLaws.{DebtsAreAcknowledged, DebtsAreOfLines, EmptyAtFirst, Funnel, FunnelIsOwed}
use Rattle.world_core.specs.FunnelLaws.{FunnelIsOwedWithin, HasAcknowledgedDebt, OfLines, OverFunnels, OwesLine}
use Rattle.world_core.specs.FunnelLaws.{OwesUpTo, OwesUpToWithin, StepGoesBy}
use Rattle.world_core.specs.Safe.{HasAcknowledged, KeepsLines, KeepsNotes}
use Rattle.world_core.specs.Sound.{IsSound}
use Rattle.world_core.specs.Stands.{IsFreshPeer}
use Rattle.world_core.specs.declared.step.Step.{Step}
use Rattle.world_core.proofs.AcknowledgedLines.{below_kept}
use Rattle.world_core.proofs.FunnelOverRuns.{fed_run}
use Rattle.world_core.proofs.FunnelOverSteps.{HasLines, IsFedLife, IsFedPast, IsFedPeer, on_opening, on_reading}
use Rattle.world_core.proofs.FunnelOverSteps.{open_fed, opening, opens_first, read_fed, reading, reads_first}
use Rattle.world_core.proofs.LineDebts.{zip_both}
use Rattle.world_core.proofs.Moments.{moments_recovered}
use Rattle.world_core.proofs.NotesOverEvents.{knowing}
use Rattle.world_core.proofs.PlansStaySound.{under_way_sound}
use Rattle.world_core.proofs.RecoveredNotes.{comes_safe, comes_sound}
use Rattle.world_core.proofs.RestartedLines.{either}
use Rattle.world_core.proofs.WalkOverTapes.{some_keep}

-- ---- a line's debt

-- an acknowledged debt is owed after each prefix of the notes that has all acknowledged ones, or has ended in it
pub owes_line : (number : ℕ) (token id : List ℕ) (peer : PeerPast) → HasAcknowledgedDebt number token id peer
    → (state : State) → IsPrefix peer.tape.history state → OwesLine number token id peer state
owes_line number token id peer debt state prefix =
    let h = peer.tape.history in
    let among = get_below prefix.count h.notes debt.index (Owe number token id)
    (omega (arith, debt.below, prefix.enough)) debt.noted in
    record {
      prefix = prefix;
      owes = subst (λ (s : State). OwesOrEnded (take prefix.count h.notes) number token id s) (sym prefix.is)
          (owed_by h.base (take prefix.count h.notes) debt.index number token id prefix.legal among);
    }

module _ (funnel : Funnel) where
  -- the debt of each line up to a mark that a stop may leave on the intake's tape is acknowledged
  pub seen_lines : (past : Past) → IsFedPast funnel past → (seen : State)
      → KeepsLines past.intake.history past.peers seen
      → OfLines funnel past seen.mark (λ rank number token id peer. HasAcknowledgedDebt number token id peer)
  seen_lines past fed seen keeps rank number token id peer below here names =
      let less : number ≤ mark_at past.intake =
      omega (arith, below, prefix_mark past.intake.history seen fed.legal keeps.prefix) in
      let noted = all_at (HasLines funnel (mark_at past.intake)) past.peers rank peer fed.marked here number token id
      less names in
      record {
        index = noted.0;
        noted = noted.1;
        below = below_kept seen.mark noted.0 number token id peer
            (all_at (HasAcknowledged seen.mark) past.peers rank peer keeps.lines here) below noted.1;
      }

  -- ---- within a step

  under_way_fed : (step : Step) (life : Life) (was now : Past) → StepGoesBy funnel life step → IsFedLife funnel life
      → IsSound life.past → IsUnderWay step life was now → IsFedPast funnel was
  under_way_fed step life was now goes fed sound way = elim (either life.running) [
    | inl running ↦
        read_fed funnel life.past was (some_keep (knowing life.past (reading funnel life.past)) step life.past way.plan
        way.is_plan (on_reading funnel life step goes sound running way.running way.plan way.is_plan) way.count was
        way.prefix (reads_first funnel life.past fed.past (fed.lines running)))
        (under_way_sound step life was now way sound)
    | inr stopped ↦
        open_fed funnel life.past was (some_keep (knowing life.past (opening funnel life.past)) step life.past way.plan
        way.is_plan (on_opening funnel life step stopped way.running way.plan way.is_plan) way.count was way.prefix
        (opens_first funnel life.past fed.past sound))
  ]

-- ---- after a run

pub debts_acknowledged : OverFunnels DebtsAreAcknowledged
debts_acknowledged funnel begun later steps lines comes empty goes rank number token id peer line here names =
    let keeps = each_may (KeepsLines later.past.intake.history later.past.peers) later.past.intake.log line.seen
    (comes_safe begun steps lines later comes).intake line.may in
    seen_lines funnel later.past (fed_run funnel begun steps lines later comes empty goes).past line.seen keeps rank
    number token id peer line.below here names

pub debts_of_lines : OverFunnels DebtsAreOfLines
debts_of_lines funnel begun later steps lines comes empty goes rank index key token id peer here noted line =
    let fed = (fed_run funnel begun steps lines later comes empty goes).past in
    (all_at (IsFedPeer funnel) later.past.peers rank peer fed.peers here).fed.lines index key token id noted line

pub stopped_owed : OverFunnels FunnelIsOwed
stopped_owed funnel begun later steps lines comes empty goes =
    let safe = comes_safe begun steps lines later comes in
    let fed = (fed_run funnel begun steps lines later comes empty goes).past in
    EachLedger-weaker (KeepsLines later.past.intake.history later.past.peers)
    (λ (seen : State). OwesUpTo funnel later.past seen.mark)
    (λ seen keeps rank number token id peer below here names.
    EachLedger-weaker (KeepsNotes peer) (OwesLine number token id peer)
    (owes_line number token id peer
    (seen_lines funnel later.past fed seen keeps rank number token id peer below here names)) peer.tape.log
    (all_at (λ (p : PeerPast). EachLedger (KeepsNotes p) p.tape.log) later.past.peers rank peer safe.peers here))
    later.past.intake.log safe.intake

pub moments_owed : OverFunnels FunnelIsOwedWithin
moments_owed funnel begun life steps lines comes empty goes step was now by way =
    let all = moments_recovered begun life steps lines comes step was now way in
    let fed = under_way_fed funnel step life was now by (fed_run funnel begun steps lines life comes empty goes)
    (comes_sound begun steps lines life comes).past way in
    LedgersLeave-weaker (KeepsLines was.intake.history was.peers)
    (λ (seen : State). OwesUpToWithin funnel was now seen.mark)
    (λ seen keeps rank number token id old below here names new there.
    LedgersLeave-weaker (IsPrefix old.tape.history) (OwesLine number token id old)
    (owes_line number token id old (seen_lines funnel was fed seen keeps rank number token id old below here names))
    old.tape.log new.tape.log (zip_both StaysPrefix was.peers now.peers rank old new all.prefixes here there))
    was.intake.log now.intake.log all.lines

-- ---- a world that was just made

pub empty_first : EmptyAtFirst
empty_first peers world begins =
    let fresh = begins.fresh in
    record {
      peers = at_all (λ (peer : PeerPast). peer.tape.history ≡ no_history) begins.life.past.peers (λ rank peer here.
          (zip_get (λ (conf : PeerConf) (p : PeerPast). IsFreshPeer conf start p) begins.confs begins.life.past.peers
          rank peer fresh.peers here).2.tape.history);
      intake = fresh.intake.history;
      last = ap (λ (l : Life). l.past.last) fresh.rest;
    }
