-- What a call did at some moment under the lock of a peer's front, put otherwise.
use Rattle.std.proofs.Common.{◌≡◌, ℕ, None, Some, inr, sym, subst}
use Rattle.std.specs.Prelude.{Result, Ok, Err, IfErr, IfOk}
use Rattle.std.proofs.lemmas.Result.{IfOk-at_ok}
use Rattle.ledger_core.specs.State.{Owing}
use Rattle.note_queue.specs.Words.{front_of}
use Rattle.peer_queue.specs.declared.front.Front.{Front}
use Rattle.flusher.specs.Claims.{Claims, HandsOut, Holds, Unclaims}
use Rattle.flusher.specs.Moments.{AtSomeMoment, HoldsNoKey}
use Rattle.flusher.specs.declared.front_desk.Claimed.{Claimed}
use Rattle.flusher.specs.declared.front_desk.Claimed.TheVariants.{Nothing, Debt, ReadBefore, OnTape}
use Rattle.flusher.specs.declared.naming.Naming.{Ghosts}

-- whatever the refusal is
pub for_each_err : {T E : Type 0} (result : Result T E) (P : E → Type 0) → ((e : E) → P e) → IfErr result P
for_each_err (Ok x) P all = tt
for_each_err (Err e) P all = all e

-- at some moment a claim found this
abbrev Found : (N : Type 0) → Ghosts N → (peer connection now : ℕ) → Claimed → Type 0
Found N n peer connection now claimed =
    AtSomeMoment N n peer (λ old new. Claims connection now old new claimed)

module _ {N : Type 0} {n : Ghosts N} where
  pub follows : (peer : ℕ) (P Q : Front → Front → Type 0) → ((old new : Front) → P old new → Q old new)
      → AtSomeMoment N n peer P → AtSomeMoment N n peer Q
  follows peer P Q so at = record {
    found = at.found;
    left = at.left;
    own = at.own;
    does = so (front_of at.found.seat.sender) (front_of at.left.seat.sender) at.does;
  }

  -- what a claim found is what is handed out
  pub hands_none : (peer connection now : ℕ) (claimed : Claimed) → claimed ≡ Nothing
      → AtSomeMoment N n peer (λ old new. Claims connection now old new claimed)
      → AtSomeMoment N n peer (HandsOut connection now None)
  hands_none peer connection now claimed is at = subst (Found N n peer connection now) is at

  pub hands_debt : (peer connection now : ℕ) (claimed : Claimed) (debt : Owing) → claimed ≡ Debt debt
      → AtSomeMoment N n peer (λ old new. Claims connection now old new claimed)
      → AtSomeMoment N n peer (HandsOut connection now (Some debt))
  hands_debt peer connection now claimed debt is at =
      follows peer (λ old new. Claims connection now old new (Debt debt)) (HandsOut connection now (Some debt))
      (λ old new found. found.0) (subst (Found N n peer connection now) is at)

  pub hands_read_before : (peer connection now : ℕ) (claimed : Claimed) (debt : Owing) → claimed ≡ ReadBefore debt
      → AtSomeMoment N n peer (λ old new. Claims connection now old new claimed)
      → AtSomeMoment N n peer (HandsOut connection now (Some debt))
  hands_read_before peer connection now claimed debt is at = subst (Found N n peer connection now) is at

  -- the debt of a key that was claimed was read from the tape
  pub hands_read : {E : Type 0} (peer connection now : ℕ) (claimed : Claimed) (key : ℕ) (debt : Owing)
      (read : Result Owing E) → claimed ≡ OnTape key → IfOk read (λ (d : Owing). d.0 ≡ key) → read ≡ Ok debt
      → AtSomeMoment N n peer (λ old new. Claims connection now old new claimed)
      → AtSomeMoment N n peer (HandsOut connection now (Some debt))
  hands_read peer connection now claimed key debt read is has_key given at =
      follows peer (λ old new. Claims connection now old new (OnTape key)) (HandsOut connection now (Some debt))
      (λ old new found. subst (λ (k : ℕ). Holds connection now k old new)
      (sym (IfOk-at_ok (λ (d : Owing). d.0 ≡ key) given has_key)) found.0)
      (subst (Found N n peer connection now) is at)

  -- the key of one that was not read was given back
  pub holds_no_key : (peer connection now : ℕ) (claimed : Claimed) (key : ℕ) → claimed ≡ OnTape key
      → AtSomeMoment N n peer (λ old new. Claims connection now old new claimed)
      → AtSomeMoment N n peer (Unclaims connection key) → HoldsNoKey N n peer connection now
  holds_no_key peer connection now claimed key is at back =
      inr (key, subst (Found N n peer connection now) is at, back)
