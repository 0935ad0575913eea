-- What a call did under the lock of a peer's front. No clause can name what a lock holds. So a clause of a public call
-- says that there was such a front at some moment of the call; only the lock gives the call one.
use Rattle.std.specs.Prelude.{◌≡◌, ◌≢◌, ◌⊎◌, ℕ}
use Rattle.flusher.specs.Claims.{Claims, GivesBack, Unclaims}
use Rattle.flusher.specs.declared.fault.PostFault.{PostFault}
use Rattle.flusher.specs.declared.fault.PostFault.TheVariants.{Stranger}
use Rattle.flusher.specs.declared.front_desk.Claimed.TheVariants.{OnTape}
use Rattle.flusher.specs.declared.front_desk.FrontDesk.{FrontDesk}
use Rattle.flusher.specs.declared.naming.Naming.{Ghosts}
use Rattle.note_queue.specs.Words.{front_of}
use Rattle.peer_queue.specs.declared.front.Front.{Front}

-- At some moment of the call the lock held this peer's front with what lies beside it, and the call left them so.
pub record DeskAtSomeMoment (N : Type 0) (n : Ghosts N) (peer : ℕ) (Does : FrontDesk N n → FrontDesk N n → Type 0)
    : Type 0 where
  pub found : FrontDesk N n
  pub left : FrontDesk N n
  pub own : found.seat.place ≡ peer
  pub does : Does found left

-- the same of the front alone
abbrev pub AtSomeMoment : (N : Type 0) → Ghosts N → ℕ → (Front → Front → Type 0) → Type 0
AtSomeMoment N n peer Does =
    DeskAtSomeMoment N n peer (λ found left. Does (front_of found.seat.sender) (front_of left.seat.sender))

-- at some moment of the call the lock held another peer's front, which no run meets
pub record HoldsStray (N : Type 0) (n : Ghosts N) (peer : ℕ) : Type 0 where
  pub found : FrontDesk N n
  pub stray : found.seat.place ≢ peer

-- the call was refused for that
abbrev pub IsStray : (N : Type 0) → Ghosts N → ℕ → PostFault → Type 0
IsStray N n peer fault = (fault ≡ Stranger peer) × HoldsStray N n peer

-- The connection holds no key from a claim that was refused. The front had refused it; or its texts could not be had,
-- and then it was given back.
abbrev pub HoldsNoKey : (N : Type 0) → Ghosts N → (peer connection now : ℕ) → Type 0
HoldsNoKey N n peer connection now =
    AtSomeMoment N n peer (GivesBack connection now)
    ⊎ ((key : ℕ) × AtSomeMoment N n peer (λ old new. Claims connection now old new (OnTape key))
    × AtSomeMoment N n peer (Unclaims connection key))
