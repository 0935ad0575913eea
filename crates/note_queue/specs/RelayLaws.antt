-- Each step on a queue keeps its rule.
use Rattle.std.proofs.Common.{◌≡◌, ◌≢◌, ℕ, zero, suc, true, true≢false, List, [], ◌∷◌, ◌++◌, length, set}
use Rattle.std.proofs.Common.{sym, refl, ap, ◌∙◌, subst, ⊎_elim, append_assoc}
use mathlib.Core.Option.{some, some-ne-none}
use lib.ListN.{get_elem?}
use Rattle.crossbeam_queue.specs.Fifo.{Forks, Learns, Merges}
use Rattle.crossbeam_queue.proofs.Lists.{at_set, at_snoc}
use Rattle.ledger_core.specs.State.{State, start}
use Rattle.ledger_core.specs.declared.note.Note.{Note}
use Rattle.note_queue.specs.declared.rule.PassLog.{PassLog}
use Rattle.note_queue.specs.Relay.{AllowsPops, AllowsPushes, HoldsWith, Knows, Relayed, begun, idle, may_pop, may_push}
use Rattle.note_queue.specs.Relay.{pass_log, with_got, with_sent}

-- only the last place of a longer list has its last element
at_end : (l : List PassLog) (a b : PassLog) (j : ℕ) → get_elem? l j ≢ some b → get_elem? (l ++ a ∷ []) j ≡ some b
    → j ≡ length l
at_end [] a b zero n e = refl
at_end [] a b (suc j) n e = absurd (some-ne-none b (sym e))
at_end (x ∷ xs) a b zero n e = absurd (n e)
at_end (x ∷ xs) a b (suc j) n e = ap suc (at_end xs a b j n e)

-- so is each pass
abbrev Each : (ℕ → PassLog → Type 0) → List PassLog → Type 0
Each P logs = (port : ℕ) (log : PassLog) → get_elem? logs port ≡ some log → P port log

-- the pass at one port is this one now, and the others are as they were
each_set : (P : ℕ → PassLog → Type 0) (logs : List PassLog) (port : ℕ) (log : PassLog) → P port log
    → ((j : ℕ) (u : PassLog) → j ≢ port → get_elem? logs j ≡ some u → P j u) → Each P (set logs port log)
each_set P logs port log mine others j u e =
    ⊎_elim (λ (x : (j ≡ port) × (log ≡ u)). subst (λ (y : ℕ × PassLog). P y.0 y.1) (λ i. (sym x.0 i, x.1 i)) mine)
    (λ (x : (j ≢ port) × (get_elem? logs j ≡ some u)). others j u x.0 x.1) (at_set logs port j log u e)

-- a queue to which nothing was sent yet
pub begins : Relayed [] (begun ∷ [])
begins = (
  0,
  0,
  start,
  [],
  [],
  refl,
  each_set (Knows 0 0 start [] []) (begun ∷ []) 0 begun
      ((λ _. (refl, refl, refl)), λ _. (refl, refl, refl))
      (λ j u other e. absurd (other (at_end [] _ u j (λ x. some-ne-none u (sym x)) e))),
)

-- a note is sent
pub pushes-relayed : AllowsPushes Relayed
pushes-relayed room port log note may items logs _ h at =
    let later : PassLog = with_sent log note in
    let mine = h.6 port log at in
    let sent = h.3 ++ note ∷ [] in (
      later,
      (
        h.0,
        h.1,
        h.2,
        sent,
        h.4,
        ap (λ l. l ++ note ∷ []) h.5 ∙ append_assoc h.4 items (note ∷ []),
        each_set (Knows h.0 h.1 h.2 sent h.4) logs port later
            ((λ _. ((mine.0 may).0, (mine.0 may).1, ap (λ l. l ++ note ∷ []) (mine.0 may).2)), mine.1)
            (λ j u other e. ((λ p. absurd (other (((h.6 j u e).0 p).0 ∙ sym (mine.0 may).0))), (h.6 j u e).1)),
      ),
      refl,
    )

-- a note is received
pub pops-relayed : AllowsPops Relayed
pops-relayed port log may note items logs h at =
    let later : PassLog = with_got log note in
    let mine = h.6 port log at in
    let got = h.4 ++ note ∷ [] in (
      later,
      (
        h.0,
        h.1,
        h.2,
        h.3,
        got,
        h.5 ∙ sym (append_assoc h.4 (note ∷ []) items),
        each_set (Knows h.0 h.1 h.2 h.3 got) logs port later
            (mine.0, λ _. ((mine.1 may).0, (mine.1 may).1, ap (λ l. l ++ note ∷ []) (mine.1 may).2))
            (λ j u other e. ((h.6 j u e).0, λ p. absurd (other (((h.6 j u e).1 p).0 ∙ sym (mine.1 may).0)))),
      ),
      refl,
    )

-- A push is refused, a look finds the queue full, or a pop finds nothing: neither the queue nor its passes change, so
-- the rule holds as before.
pub stays : (holds : List Note → List PassLog → Type 0) (port : ℕ) (log : PassLog)
    → Learns holds port log (λ items. HoldsWith holds log items)
stays holds port log items logs h at = (logs, port, h, at)

-- One pass becomes two: the pass that may do both may also change the ledger onto which the notes go
pub forks : (port : ℕ) (log : PassLog) (ledger : State) → log.pushes ≡ true → log.pops ≡ true
    → Forks Relayed port log (may_push ledger log.sent) (may_pop ledger log.got)
forks port log ledger a b items logs h at =
    let left : PassLog = may_push ledger log.sent in
    let right : PassLog = may_pop ledger log.got in
    let mine = h.6 port log at in
    let passes : List PassLog = set logs port left in
    let Old : ℕ → PassLog → Type 0 =
    λ j u. (u.pushes ≡ true → (j ≡ h.0) × (u.sent_on ≡ ledger) × (u.sent ≡ h.3)) × (u.pops ≢ true) in
    let old : Each Old passes =
    each_set Old logs port left ((λ _. ((mine.0 a).0, refl, (mine.0 a).2)), λ p. true≢false (sym p))
    (λ j u other e. (
      (λ p. absurd (other (((h.6 j u e).0 p).0 ∙ sym (mine.0 a).0))),
      λ p. other (((h.6 j u e).1 p).0 ∙ sym (mine.1 b).0),
    )) in (
      h.0,
      length passes,
      ledger,
      h.3,
      h.4,
      h.5,
      λ j u e. ⊎_elim (λ x. ((old j u x).0, λ p. absurd ((old j u x).1 p)))
          (λ (is : right ≡ u). (
            (λ p. absurd (true≢false (sym (ap (λ (y : PassLog). y.pushes) is ∙ p)))),
            λ p. (
              at_end passes right u j (λ x. (old j u x).1 p) e,
              ap (λ (y : PassLog). y.got_on) (sym is),
              ap (λ (y : PassLog). y.got) (sym is) ∙ (mine.1 b).2,
            ),
          )) (at_snoc passes right u j e),
    )

-- the two passes become one
pub merges : (port : ℕ) (log : PassLog) (port' : ℕ) (log' : PassLog) → log.pushes ≡ true → log'.pops ≡ true
    → Merges Relayed port log port' log' (pass_log true true log.sent_on log'.got_on log.sent log'.got)
    idle
merges port log port' log' a b items logs h at two at' =
    let both : PassLog = pass_log true true log.sent_on log'.got_on log.sent log'.got in
    let mine = h.6 port log at in
    let passes : List PassLog = set logs port both in
    let was : get_elem? logs port' ≡ some log' =
    ⊎_elim (λ x. absurd (two x.0)) (λ x. x.1) (at_set logs port port' both log' at') in
    let theirs = (h.6 port' log' was).1 b in
    let Now : ℕ → PassLog → Type 0 = λ j y. j ≢ port' → Knows h.0 port h.2 h.3 h.4 j y in
    let now : Each Now passes =
    each_set Now logs port both (λ _. ((λ _. mine.0 a), λ _. (refl, theirs.1, theirs.2)))
    (λ j y _ e apart. ((h.6 j y e).0, λ p. absurd (apart (((h.6 j y e).1 p).0 ∙ sym theirs.0)))) in (
      h.0,
      port,
      h.2,
      h.3,
      h.4,
      h.5,
      each_set (Knows h.0 port h.2 h.3 h.4) passes port' idle
          ((λ p. absurd (true≢false (sym p))), λ p. absurd (true≢false (sym p)))
          (λ j y apart e. now j y e apart),
    )

-- what the pass that may do both knows
pub totals : (port : ℕ) (log : PassLog) → log.pushes ≡ true → log.pops ≡ true
    → Learns Relayed port log (λ items. (log.sent_on ≡ log.got_on) × (log.sent ≡ log.got ++ items))
totals port log a b items logs h at =
    let mine = h.6 port log at in (
      (mine.0 a).1 ∙ sym (mine.1 b).1,
      (mine.0 a).2 ∙ h.5 ∙ ap (λ l. l ++ items) (sym (mine.1 b).2),
    )
