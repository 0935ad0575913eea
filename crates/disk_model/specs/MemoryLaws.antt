-- Laws of a disk in memory.
use Rattle.std.specs.Prelude.{List, [], ◌∷◌, refl}
use Rattle.std.proofs.Common.{inr}
use Rattle.disk_model.specs.declared.disk_event.DiskEvent.{DiskEvent}
use Rattle.disk_model.specs.declared.disk_event.DiskEvent.TheVariants.{Began, Write, Cut, Sync}
use Rattle.disk_model.specs.Disk.{Event, content, Image}
use Rattle.disk_model.specs.Memory.{event_of, logged, log_of}
use Rattle.disk_model.specs.TornLaws.{Torn-overwritten}

content_step : (log : List Event) (event : DiskEvent) → Image log (content log) → Image (event_of event ∷ log) (content (event_of event ∷ log))
content_step log (Began octets) is = refl
content_step log (Write at octets) is = (content log, is, Torn-overwritten (content log) at octets.items)
content_step log (Cut len) is = (content log, is, inr refl)
content_step log Sync is = refl

content_along : (log : List Event) (history : List DiskEvent) → Image log (content log) → Image (logged log history) (content (logged log history))
content_along log [] is = is
content_along log (event ∷ history) is = content_along (event_of event ∷ log) history (content_step log event is)

pub content_among_images : (history : List DiskEvent) → Image (log_of history) (content (log_of history))
content_among_images history = content_along [] history refl
