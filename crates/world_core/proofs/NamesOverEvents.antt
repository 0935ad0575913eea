-- The names of the peers stay over any events.
use Rattle.std.proofs.Common.{◌≡◌, ℕ, ◌+◌, Some, refl, ap, ◌∙◌}
use Rattle.std.specs.List.{slice_get}
use Rattle.world_core.specs.Past.{Past, PeerPast, with_peer}
use Rattle.world_core.specs.Events.{Acknowledges, Claims, Closes, Does, Event, Imports, Opens, OpensIntake, Owes, Parts}
use Rattle.world_core.specs.Events.{Returns, Rotates, Sees, Settles, Sheds, Spills, import_key, imported_as, owed_as}
use Rattle.world_core.specs.Sound.{names_of}
use Rattle.world_core.proofs.MarksAndNotes.{map_set}
use Rattle.world_core.proofs.OutcomeSettled.{conf_settled}
use Rattle.world_core.proofs.SoundOverEvents.{owed_conf}

pub names_put : (past later : Past) (rank : ℕ) (was now : PeerPast) → slice_get past.peers rank ≡ Some was
    → now.conf ≡ was.conf → later ≡ with_peer past rank now
    → names_of later.peers ≡ names_of past.peers
names_put past later rank was now here same is =
    ap (λ (p : Past). names_of p.peers) is
    ∙ map_set (λ (peer : PeerPast). peer.conf.name) past.peers rank was now here (ap (λ conf. conf.name) same)

pub names_does : (event : Event) (past later : Past) → Does event past later
    → names_of later.peers ≡ names_of past.peers
names_does (Owes rank token id) past later d =
    names_put past later rank d.peer _ d.here
    (owed_conf (past.last + 1) token id d.peer (owed_as (past.last + 1) d.peer)) d.changed
names_does (Imports rank number token id) past later d =
    names_put past later rank d.peer _ d.here
    (owed_conf (import_key number d.peer) token id d.peer (imported_as number d.peer)) d.changed
names_does (Closes rank) past later d = names_put past later rank d.peer _ d.here refl d.changed
names_does (Spills rank) past later d = names_put past later rank d.peer _ d.here refl d.changed
names_does (Parts rank) past later d = names_put past later rank d.peer _ d.here refl d.changed
names_does (Rotates rank generation) past later d = names_put past later rank d.peer _ d.here refl d.changed
names_does (Sheds rank numbers) past later d = names_put past later rank d.peer _ d.here refl d.changed
names_does (Claims rank id now) past later d = names_put past later rank d.peer _ d.here refl d.changed
names_does (Returns rank id number) past later d = names_put past later rank d.peer _ d.here refl d.changed
names_does (Settles rank id now outcome) past later d =
    names_put past later rank d.peer _ d.here
    (conf_settled now outcome d.peer) d.changed
names_does (Sees number) past later d = ap (λ (p : Past). names_of p.peers) d.changed
names_does Acknowledges past later d = ap (λ (p : Past). names_of p.peers) d.changed
names_does (Opens rank) past later d = names_put past later rank d.peer _ d.here refl d.changed
names_does OpensIntake past later d = ap (λ (p : Past). names_of p.peers) d.changed
