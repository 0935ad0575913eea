-- How a run of disk calls continues, for proofs of the crates above.
use Rattle.std.specs.Prelude.{◌≡◌, ◌⊎◌, ℕ, List, ◌∷◌, length, take, Result, Ok, Err, OnOk}
use Rattle.std.proofs.Common.{inl, inr, sym, ◌∙◌, subst}
use Rattle.disk_model.specs.declared.DiskFault.{DiskFault}
use Rattle.disk_model.specs.Disk.{Event, Torn, content, Image, EachImage, IsOnly, Leaves, FirstSync, AfterSync, Writes, Cuts, Syncs}
use Rattle.disk_model.specs.Disk.Event.{Wrote, Tore, WasCut, FailedCut, Synced}
use Rattle.disk_model.specs.Disk.Leaves.{at_start, at_next}

-- what holds of each image at each moment holds of each image now
pub Leaves-now : (P : List ℕ → Type 0) (old new : List Event) → Leaves P old new → EachImage P new
Leaves-now P old new (at_start here) = here
Leaves-now P old new (at_next log event so_far here) = here

-- two runs, one after the other
pub Leaves-then : (P : List ℕ → Type 0) (old mid new : List Event) → Leaves P old mid → Leaves P mid new → Leaves P old new
Leaves-then P old mid new first (at_start here) = first
Leaves-then P old mid new first (at_next log event so_far here) = at_next log event (Leaves-then P old mid log first so_far) here

-- a weaker claim
pub Leaves-weaker : (P Q : List ℕ → Type 0) → ((c : List ℕ) → P c → Q c) → (old new : List Event) → Leaves P old new → Leaves Q old new
Leaves-weaker P Q weaker old new (at_start here) = at_start (λ c is. weaker c (here c is))
Leaves-weaker P Q weaker old new (at_next log event so_far here) = at_next log event (Leaves-weaker P Q weaker old log so_far) (λ c is. weaker c (here c is))

-- no call was made
pub Leaves-same : (P : List ℕ → Type 0) (old log new : List Event) → Leaves P old log → new ≡ log → Leaves P old new
Leaves-same P old log new so_far same = subst (λ (l : List Event). Leaves P old l) (sym same) so_far

-- one event more
pub Leaves-event : (P : List ℕ → Type 0) (old log : List Event) (event : Event) (new : List Event) → Leaves P old log → new ≡ event ∷ log → EachImage P (event ∷ log) → Leaves P old new
Leaves-event P old log event new so_far same here = subst (λ (l : List Event). Leaves P old l) (sym same) (at_next log event so_far here)

-- a write, whatever it returned
pub Leaves-write : (P : List ℕ → Type 0) (old log new : List Event) (at : ℕ) (octets : List ℕ) (result : Result (Unit {0}) DiskFault) → Leaves P old log → Writes at octets log result new
    → ((d c : List ℕ) → Image log d → Torn at (length octets) d c → P c) → Leaves P old new
Leaves-write P old log new at octets (Ok v) so_far rule torn = Leaves-event P old log (Wrote at octets) new so_far rule (λ c w. torn w.0 c w.1 w.2)
Leaves-write P old log new at octets (Err e) so_far (inl same) torn = Leaves-same P old log new so_far same
Leaves-write P old log new at octets (Err e) so_far (inr (inl done)) torn =
    Leaves-event P old log (Wrote at octets) new so_far done (λ c w. torn w.0 c w.1 w.2)
Leaves-write P old log new at octets (Err e) so_far (inr (inr tore)) torn = Leaves-event P old log (Tore at (length octets) tore.0) new so_far tore.2 (λ c w. torn w.0 c w.1 w.2)

-- a cut, whatever it returned
pub Leaves-cut : (P : List ℕ → Type 0) (old log new : List Event) (len : ℕ) (result : Result (Unit {0}) DiskFault) → Leaves P old log → Cuts len log result new
    → ((d : List ℕ) → Image log d → P (take len d)) → Leaves P old new
Leaves-cut P old log new len result so_far rule short = cases result rule
  where
    each : (c : List ℕ) → (d : List ℕ) × Image log d × ((c ≡ d) ⊎ (c ≡ take len d)) → P c
    each c (d, is, inl same) = subst P (sym same) (Leaves-now P old log so_far d is)
    each c (d, is, inr shorter) = subst P (sym shorter) (short d is)

    cases : (result : Result (Unit {0}) DiskFault) → Cuts len log result new → Leaves P old new
    cases (Ok v) rule = Leaves-event P old log (WasCut len) new so_far rule each
    cases (Err e) (inl same) = Leaves-same P old log new so_far same
    cases (Err e) (inr (inl done)) = Leaves-event P old log (WasCut len) new so_far done each
    cases (Err e) (inr (inr failed)) = Leaves-event P old log (FailedCut len) new so_far failed each

-- a sync, whatever it returned
pub Leaves-sync : (P : List ℕ → Type 0) (old log new : List Event) (result : Result (Unit {0}) DiskFault) → Leaves P old log → Syncs log result new → P (content log) → Leaves P old new
Leaves-sync P old log new (Ok v) so_far rule here = Leaves-event P old log Synced new so_far rule (λ c is. subst P (sym is) here)
Leaves-sync P old log new (Err e) so_far rule here = Leaves-same P old log new so_far rule

-- after a sync the content is the only image
pub IsOnly-synced : (old new : List Event) (octets : List ℕ) → new ≡ Synced ∷ old → content old ≡ octets → IsOnly new octets
IsOnly-synced old new octets synced whole = subst (λ (l : List Event). IsOnly l octets) (sym synced) (record { whole = whole; images = λ c is. is ∙ whole })

-- a write to a disk with one image
pub Leaves-write_only : (P : List ℕ → Type 0) (old log new : List Event) (octets : List ℕ) (at : ℕ) (from : List ℕ) (result : Result (Unit {0}) DiskFault) → IsOnly log octets → Leaves P old log → Writes at from log result new
    → ((c : List ℕ) → Torn at (length from) octets c → P c) → Leaves P old new
Leaves-write_only P old log new octets at from result only so_far rule torn =
    Leaves-write P old log new at from result so_far rule (λ d c is step. torn c (subst (λ (l : List ℕ). Torn at (length from) l c) (only.images d is) step))

-- a cut of a disk with one image
pub Leaves-cut_only : (P : List ℕ → Type 0) (old log new : List Event) (octets : List ℕ) (len : ℕ) (result : Result (Unit {0}) DiskFault) → IsOnly log octets → Leaves P old log → Cuts len log result new → P (take len octets) → Leaves P old new
Leaves-cut_only P old log new octets len result only so_far rule short =
    Leaves-cut P old log new len result so_far rule (λ d is. subst (λ (l : List ℕ). P (take len l)) (sym (only.images d is)) short)

-- after a successful sync the content is the only image
pub IsOnly-sync : (old new : List Event) (octets : List ℕ) (result : Result (Unit {0}) DiskFault) → Syncs old result new → content old ≡ octets → OnOk result (IsOnly new octets)
IsOnly-sync old new octets (Ok v) rule whole = IsOnly-synced old new octets rule whole
IsOnly-sync old new octets (Err e) rule whole = tt

-- what holds of each image at each moment held of each image at first
pub Leaves-first : (P : List ℕ → Type 0) (old new : List Event) → Leaves P old new → EachImage P old
Leaves-first P old new (at_start here) = here
Leaves-first P old new (at_next log event so_far here) = Leaves-first P old log so_far

-- a weaker claim from the first sync on
pub FirstSync-weaker : (P Q : List ℕ → Type 0) → ((c : List ℕ) → P c → Q c) → (old new : List Event) → FirstSync P old new → FirstSync Q old new
FirstSync-weaker P Q weaker old new (inl same) = inl same
FirstSync-weaker P Q weaker old new (inr synced) = inr (Leaves-weaker P Q weaker (Synced ∷ old) new synced)

-- a sync, whatever it returned
pub FirstSync-sync : (P : List ℕ → Type 0) (old new : List Event) (result : Result (Unit {0}) DiskFault) → Syncs old result new → P (content old) → FirstSync P old new
FirstSync-sync P old new (Ok v) rule here = inr (Leaves-same P (Synced ∷ old) (Synced ∷ old) new (at_start (λ c is. subst P (sym is) here)) rule)
FirstSync-sync P old new (Err e) rule here = inl rule

-- a successful sync, and then a run
pub FirstSync-run : (P : List ℕ → Type 0) (old mid new : List Event) → mid ≡ Synced ∷ old → Leaves P mid new → FirstSync P old new
FirstSync-run P old mid new synced run = inr (subst (λ (l : List Event). Leaves P l new) synced run)

-- one after the other
pub FirstSync-then : (P : List ℕ → Type 0) (old mid new : List Event) → FirstSync P old mid → FirstSync P mid new → FirstSync P old new
FirstSync-then P old mid new (inl same) second = subst (λ (l : List Event). FirstSync P l new) same second
FirstSync-then P old mid new (inr first) (inl same) = inr (Leaves-same P (Synced ∷ old) mid new first same)
FirstSync-then P old mid new (inr first) (inr second) =
    inr (Leaves-then P (Synced ∷ old) (Synced ∷ mid) new (at_next mid Synced first (Leaves-first P (Synced ∷ mid) new second)) second)

-- a weaker claim from the sync on
pub AfterSync-weaker : (P Q : List ℕ → Type 0) → ((c : List ℕ) → P c → Q c) → (old new : List Event) → AfterSync P old new → AfterSync Q old new
AfterSync-weaker P Q weaker old new (inl same) = inl same
AfterSync-weaker P Q weaker old new (inr (event, inl done)) = inr (event, inl done)
AfterSync-weaker P Q weaker old new (inr (event, inr synced)) = inr (event, inr (Leaves-weaker P Q weaker (Synced ∷ event ∷ old) new synced))

-- a write, whatever it returned
pub AfterSync-write : (P : List ℕ → Type 0) (old new : List Event) (at : ℕ) (octets : List ℕ) (result : Result (Unit {0}) DiskFault) → Writes at octets old result new → AfterSync P old new
AfterSync-write P old new at octets (Ok v) rule = inr (Wrote at octets, inl rule)
AfterSync-write P old new at octets (Err e) (inl same) = inl same
AfterSync-write P old new at octets (Err e) (inr (inl done)) = inr (Wrote at octets, inl done)
AfterSync-write P old new at octets (Err e) (inr (inr tore)) = inr (Tore at (length octets) tore.0, inl tore.2)

-- a cut, whatever it returned
pub AfterSync-cut : (P : List ℕ → Type 0) (old new : List Event) (len : ℕ) (result : Result (Unit {0}) DiskFault) → Cuts len old result new → AfterSync P old new
AfterSync-cut P old new len (Ok v) rule = inr (WasCut len, inl rule)
AfterSync-cut P old new len (Err e) (inl same) = inl same
AfterSync-cut P old new len (Err e) (inr (inl done)) = inr (WasCut len, inl done)
AfterSync-cut P old new len (Err e) (inr (inr failed)) = inr (FailedCut len, inl failed)

-- one operation, and then up to a first sync and on
pub AfterSync-then : (P : List ℕ → Type 0) (old mid new : List Event) (event : Event) → mid ≡ event ∷ old → FirstSync P mid new → AfterSync P old new
AfterSync-then P old mid new event done second = from_here (subst (λ (l : List Event). FirstSync P l new) done second)
  where
    from_here : FirstSync P (event ∷ old) new → AfterSync P old new
    from_here (inl same) = inr (event, inl same)
    from_here (inr synced) = inr (event, inr synced)
