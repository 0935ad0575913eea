-- A disk in memory keeps each event, oldest first.
use Rattle.std.specs.Prelude.{◌≡◌, Bool, true, false, List, [], ◌∷◌}
use Rattle.disk_model.specs.declared.choice.Choice.{Choice}
use Rattle.disk_model.specs.declared.disk_event.DiskEvent.{DiskEvent}
use Rattle.disk_model.specs.declared.disk_event.DiskEvent.TheVariants.{Began, Write, Cut, Sync}
use Rattle.disk_model.specs.Disk.{Event, content}
use Rattle.disk_model.specs.Disk.Event.{Made, Wrote, WasCut, Synced}
use Rattle.disk_model.specs.Choice.{chosen_image, pending}

-- the event of the model that a kept event stands for
abbrev pub event_of : DiskEvent → Event
event_of (Began octets) = Made octets.items
event_of (Write at octets) = Wrote at octets.items
event_of (Cut len) = WasCut len
event_of Sync = Synced

-- the log with these events after it
abbrev pub logged : List Event → List DiskEvent → List Event
logged past [] = past
logged past (event ∷ history) = logged (event_of event ∷ past) history

-- the log that the kept events make
abbrev pub log_of : List DiskEvent → List Event
log_of history = logged [] history

-- whether the content is the only image from this event on
abbrev pub is_settling : DiskEvent → Bool
is_settling (Began octets) = true
is_settling (Write at octets) = false
is_settling (Cut len) = false
is_settling Sync = true

-- no operation waits for a sync, and each choice names the content
pub record IsSettled (log : List Event) : Type 0 where
  pub none : pending log ≡ 0
  pub whole : (choice : Choice) → chosen_image choice log ≡ content log
