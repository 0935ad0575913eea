-- What a disk in memory keeps.
use Rattle.std.proofs.Common.{◌≡◌, ℕ, ◌+◌, ◌<◌, true, false, List, [], ◌∷◌, ◌++◌, length, get_or, take, refl, ap, sym, ◌∙◌}
use Rattle.std.proofs.lemmas.List.{take_more}
use Rattle.disk_model.specs.declared.disk_event.DiskEvent.{DiskEvent}
use Rattle.disk_model.specs.declared.disk_event.DiskEvent.TheVariants.{Began, Write, Cut, Sync}
use Rattle.disk_model.specs.Disk.{Event}
use Rattle.disk_model.specs.Choice.{pending}
use Rattle.disk_model.specs.Memory.{event_of, logged, log_of, is_settling, IsSettled}

logged-push : (log : List Event) (history : List DiskEvent) (event : DiskEvent) → logged log (history ++ event ∷ []) ≡ event_of event ∷ logged log history
logged-push log [] event = refl
logged-push log (m ∷ history) event = logged-push (event_of m ∷ log) history event

-- one event more
pub logged_push : (history : List DiskEvent) (event : DiskEvent) → log_of (history ++ event ∷ []) ≡ event_of event ∷ log_of history
logged_push history event = logged-push [] history event

-- the next of some events
pub logged_more : (log : List Event) (history : List DiskEvent) (i : ℕ) (event : DiskEvent) → i < length history → event ≡ get_or history i event → logged log (take (i + 1) history) ≡ event_of event ∷ logged log (take i history)
logged_more log history i event inside is =
    ap (logged log) (take_more history i event inside ∙ ap (λ (m : DiskEvent). take i history ++ m ∷ []) (sym is)) ∙ logged-push log (take i history) event

-- some events after others
pub logged_append : (log : List Event) (history more : List DiskEvent) → logged log (history ++ more) ≡ logged (logged log history) more
logged_append log [] more = refl
logged_append log (m ∷ history) more = logged_append (event_of m ∷ log) history more

-- from an event that settles on each choice names the content
pub settled_by : (log : List Event) (event : DiskEvent) → is_settling event ≡ true → IsSettled (event_of event ∷ log)
settled_by log (Began octets) settles = record { none = refl; whole = λ choice. refl }
settled_by log (Write at octets) settles = absurd (cc)
settled_by log (Cut len) settles = absurd (cc)
settled_by log Sync settles = record { none = refl; whole = λ choice. refl }

-- any other event is one operation more
pub pending_more : (log : List Event) (event : DiskEvent) → is_settling event ≡ false → pending (event_of event ∷ log) ≡ pending log + 1
pending_more log (Began octets) settles = absurd (cc)
pending_more log (Write at octets) settles = refl
pending_more log (Cut len) settles = refl
pending_more log Sync settles = absurd (cc)
