-- What holds of the empty transcript and stays true with each event holds of every transcript that calls can make.
use Rattle.std.proofs.Common.{◌≡◌, ℕ, ◌<◌, Bool, true, false, List, [], ◌∷◌, refl, arith, Option, Some, None}
use Rattle.std.specs.Prelude.{if◌then◌else◌, is_some, nat_lt}
use Rattle.std.proofs.lemmas.Bool.{ltb-true}
use Rattle.conn_core.specs.Commands.{Command, Quit}
use Rattle.conn_core.specs.History.{Event, Offered, Put, Came, Faulted, Handed, Sent, Tick, Broke, Leave, Taken, after}
use Rattle.conn_core.specs.History.{closes, is_mode, is_quit_due, outside, phase, puts, reason, room, with_puts}
use Rattle.conn_core.specs.Stands.{Arises, Starts, Goes_on}
use Rattle.conn_core.specs.Stands.{ready_when}
use Rattle.conn_core.specs.declared.options.Options.{Options}
use Rattle.conn_core.specs.declared.phase.Phase.{Phase}
use Rattle.conn_core.specs.declared.phase.Phase.TheVariants.{Greeting, Asking, Streaming, OneByOne, Leaving}
use Rattle.conn_core.specs.declared.ready.Ready.TheVariants.{Yes}
use Rattle.conn_core.specs.declared.reason.Reason.{Reason}
use Rattle.conn_core.specs.ClosingLaws.{needed-open, ready-open}
use Rattle.conn_laws.proofs.Once.{ends_by}

-- an event that ends no debt and closes nothing, whenever it comes
abbrev pub IsQuiet : Event → Type 0
IsQuiet (Put command) = Unit {0}
IsQuiet (Sent count) = Unit {0}
IsQuiet Taken = Unit {0}
IsQuiet (Offered debt) = ⊥
IsQuiet (Came reply) = ⊥
IsQuiet (Faulted fault) = ⊥
IsQuiet (Handed number handing) = ⊥
IsQuiet (Tick now) = ⊥
IsQuiet Broke = ⊥
IsQuiet Leave = ⊥

pub quiet-ends : (options : Options) (h : List Event) (e : Event) → IsQuiet e → ends_by options h e ≡ []
quiet-ends options h (Put command) q = refl
quiet-ends options h (Sent count) q = refl
quiet-ends options h Taken q = refl
quiet-ends options h (Offered debt) q = absurd q
quiet-ends options h (Came reply) q = absurd q
quiet-ends options h (Faulted fault) q = absurd q
quiet-ends options h (Handed number handing) q = absurd q
quiet-ends options h (Tick now) q = absurd q
quiet-ends options h Broke q = absurd q
quiet-ends options h Leave q = absurd q

pub quiet-closes : (options : Options) (h : List Event) (e : Event) → IsQuiet e → closes options h e ≡ None
quiet-closes options h (Put command) q = refl
quiet-closes options h (Sent count) q = refl
quiet-closes options h Taken q = refl
quiet-closes options h (Offered debt) q = absurd q
quiet-closes options h (Came reply) q = absurd q
quiet-closes options h (Faulted fault) q = absurd q
quiet-closes options h (Handed number handing) q = absurd q
quiet-closes options h (Tick now) q = absurd q
quiet-closes options h Broke q = absurd q
quiet-closes options h Leave q = absurd q

-- a debt is accepted only if a mode is agreed
abbrev pub MayCome : Options → List Event → Event → Type 0
MayCome options h (Offered debt) = is_mode (phase options h) ≡ true
MayCome options h (Put command) = Unit {0}
MayCome options h (Came reply) = Unit {0}
MayCome options h (Faulted fault) = Unit {0}
MayCome options h (Handed number handing) = Unit {0}
MayCome options h (Sent count) = Unit {0}
MayCome options h (Tick now) = Unit {0}
MayCome options h Broke = Unit {0}
MayCome options h Leave = Unit {0}
MayCome options h Taken = Unit {0}

ready-room : (b q has_room : Bool) → ready_when b q has_room ≡ Yes → has_room ≡ true
ready-room true q has_room e = cc
ready-room false true has_room e = cc
ready-room false false true e = refl
ready-room false false false e = cc

room-mode : (options : Options) (p : Phase) (n : ℕ) → nat_lt n (room options p) ≡ true → is_mode p ≡ true
room-mode options Streaming n e = refl
room-mode options OneByOne n e = refl
room-mode options Greeting n e = let f : n < 0 = ltb-true n 0 e in absurd (omega arith)
room-mode options Asking n e = let f : n < 0 = ltb-true n 0 e in absurd (omega arith)
room-mode options Leaving n e = let f : n < 0 = ltb-true n 0 e in absurd (omega arith)

pub ready-mode : (options : Options) (p : Phase) (b q : Bool) (n : ℕ)
    → ready_when b q (nat_lt n (room options p)) ≡ Yes → is_mode p ≡ true
ready-mode options p b q n e = room-mode options p n (ready-room b q _ e)

module _ (options : Options) (P : List Event → Type 0) (starts : P [])
    (quiet : (h : List Event) (e : Event) → IsQuiet e → P h → P (e ∷ h))
    (going : (h : List Event) (e : Event) → reason options h ≡ None → MayCome options h e → P h → P (e ∷ h)) where
  put-out : (commands : List Command) (h : List Event) → P h → P (with_puts commands h)
  put-out [] h p = p
  put-out (command ∷ commands) h p = put-out commands (Put command ∷ h) (quiet h (Put command) tt p)

  quit-out : (b : Bool) (h : List Event) → P h → P (if b then Put Quit ∷ h else h)
  quit-out true h p = quiet h (Put Quit) tt p
  quit-out false h p = p

  behind : (h : List Event) (e : Event) → P (e ∷ h) → P (after options h e)
  unfolding after
  behind h e p =
      quit-out (is_quit_due options (with_puts (puts options h e) (e ∷ h))) (with_puts (puts options h e) (e ∷ h))
      (put-out (puts options h e) (e ∷ h) p)

  from-outside : (h : List Event) (e : Event) → MayCome options h e → (r : Option Reason) → reason options h ≡ r
      → P h → P (outside options h e)
  from-outside h e may None q p = rw q (behind h e (going h e q may p))
  from-outside h e may (Some why) q p = rw q p

  counted-sent : (h : List Event) (count : ℕ) (b : Bool) → P h → P (if b then h else Sent count ∷ h)
  counted-sent h count true p = p
  counted-sent h count false p = quiet h (Sent count) tt p

  pub of-arising : (h : List Event) → Arises options h → P h
  of-arising h Starts = starts
  of-arising h (Goes_on g (Offered debt) a ready) =
      behind g (Offered debt)
      (going g (Offered debt) (ready-open (reason options g) _ _ ready)
      (ready-mode options (phase options g) _ _ _ ready) (of-arising g a))
  of-arising h (Goes_on g (Came reply) a can) = from-outside g (Came reply) tt (reason options g) refl (of-arising g a)
  of-arising h (Goes_on g (Faulted fault) a can) = from-outside g (Faulted fault) tt (reason options g) refl (of-arising g a)
  of-arising h (Goes_on g (Handed number handing) a some) =
      behind g (Handed number handing)
      (going g (Handed number handing) (needed-open (reason options g) _ some) tt (of-arising g a))
  of-arising h (Goes_on g (Sent count) a few) = counted-sent g count (is_some (reason options g)) (of-arising g a)
  of-arising h (Goes_on g (Tick now) a can) = from-outside g (Tick now) tt (reason options g) refl (of-arising g a)
  of-arising h (Goes_on g Broke a can) = from-outside g Broke tt (reason options g) refl (of-arising g a)
  of-arising h (Goes_on g Leave a can) = from-outside g Leave tt (reason options g) refl (of-arising g a)
  of-arising h (Goes_on g (Put command) a never) = absurd never
  of-arising h (Goes_on g Taken a few) = quiet g Taken tt (of-arising g a)
