-- The look-ups that run and wait (profile).
use Rattle.std.specs.Prelude.{◌≡◌, ℕ, ◌<◌, ◌≢◌, ◌==◌, List, [], ◌∷◌, ◌++◌}
use Rattle.std.specs.Prelude.{length, take, drop, remove, position, Contains, AllPairs, All}
use Rattle.std.specs.Prelude.{Option, Some, None, option_to_list, slice_get, slice_set}
use Rattle.resolver.specs.declared.host.Answer.{Answer}
use Rattle.resolver.specs.declared.latest_answer.LatestAnswer.{LatestAnswer}
use Rattle.resolver.specs.LatestAnswer.{with_answer}

-- the hosts that are being looked up or wait for it, first come first, and the latest answer for each host
pub record State : Type 0 where
  pub asked : List ℕ
  pub latest : List LatestAnswer

-- the hosts that are being looked up: the first 8
abbrev pub running_of : State → List ℕ
running_of state = take 8 state.asked

-- those that wait for it, first come first
abbrev pub waiting_of : State → List ℕ
waiting_of state = drop 8 state.asked

-- each is a host, and none is there twice
abbrev pub AreHosts : ℕ → List ℕ → Type 0
AreHosts count hosts = AllPairs (λ one other. one ≢ other) hosts × All (λ host. host < count) hosts

-- there is such a host, and it is neither being looked up nor waiting
abbrev pub IsFree : State → ℕ → Type 0
IsFree state host = (host < length state.latest) × (Contains state.asked host → ⊥)

-- a host that is asked for becomes the last
abbrev pub joined : State → ℕ → State
joined state host = record { asked = state.asked ++ host ∷ []; latest = state.latest }

-- the host is at this index among those asked for, and is one of the first 8
abbrev pub IsRunningIn : List ℕ → ℕ → ℕ → Type 0
IsRunningIn asked host at = (position (λ one. one == host) asked ≡ Some at) × (at < 8)

-- the host at this index is being looked up
abbrev pub IsRunning : State → ℕ → ℕ → Type 0
IsRunning state = IsRunningIn state.asked

-- the latest answers, with this one for a host, if there is a host with this index
abbrev pub latest_with : List LatestAnswer → ℕ → Answer → List LatestAnswer
latest_with latest host answer =
    elim (slice_get latest host) [ None ↦ latest | Some of_host ↦ slice_set latest host (with_answer of_host answer) ]

-- The look-up of the host at this index has ended in this answer, and the next one is to be looked up instead.
pub record Answers (old new : State) (host at : ℕ) (answer : Answer) (result : Option ℕ) : Type 0 where
  -- the first that waits
  pub next : result ≡ slice_get (waiting_of old) 0
  pub running : running_of new ≡ remove (running_of old) at ++ option_to_list result
  pub waiting : waiting_of new ≡ drop 1 (waiting_of old)
  pub latest : new.latest ≡ latest_with old.latest host answer
