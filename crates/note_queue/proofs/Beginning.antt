-- What a split gives its two ends.
use Rattle.std.proofs.Common.{◌≡◌, ◌-◌, ℕ, [], ◌++◌, drop, length, sym, ◌∙◌, arith}
use Rattle.std.proofs.Math.Logic.{∥∥₁_map}
use Rattle.disk_model.specs.declared.Disk.{Ghosts}
use Rattle.ledger_core.specs.Shape.{shape_of}
use Rattle.ledger_core.specs.State.{State, after}
use Rattle.peer_queue.specs.Front.{IsPlaced, front_shape, sent_of, unsent_of, unsettled_of}
use Rattle.peer_queue.specs.declared.front.Front.{Front}
use Rattle.recovery.specs.DiskLaws.{honest-along}
use Rattle.recovery.specs.declared.tape.Tape.{Tape}
use Rattle.note_queue.specs.Noted.{IsNoted}
use Rattle.note_queue.specs.Owns.{IsKept}
use Rattle.note_queue.specs.Relay.{may_push}
use Rattle.note_queue.specs.declared.rule.PassLog.{PassLog}

-- a front of this ledger's shape, all of whose notes are settled, and a pass that has sent nothing
pub noted-first : (log : PassLog) (front : Front) (base : State) → front_shape front ≡ shape_of base
    → unsettled_of front ≡ [] → unsent_of front ≡ [] → sent_of front ≡ 0 → log ≡ may_push base [] → IsNoted log front
noted-first log front base shape none unsent sent is =
    record {
      shape = shape ∙ (λ i. shape_of (after (sym is i).sent_on ((sym is i).sent ++ sym unsent i)));
      last = none
          ∙ (λ i. drop (length (sym is i).sent - sym sent i) (sym is i).sent ++ sym unsent i);
      within = omega (arith, sent);
    }

-- a tape that was given a place stands for some history still
pub kept-placed : {D : Type 0} {g : Ghosts D} (place : ℕ) (old new : Tape D g) → IsPlaced place old new
    → ∥ IsKept old ∥₁ → ∥ IsKept new ∥₁
kept-placed place old new placed kept =
    ∥∥₁_map kept (λ is honest. let k = is (honest-along new old placed.disks honest) in
    (k.0, (placed.stands k.0).0 k.1))
