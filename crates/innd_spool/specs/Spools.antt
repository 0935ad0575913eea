-- Where an article is, by its token, and of which tokens it can be said that their article is gone.
use Rattle.std.specs.Prelude.{◌≡◌, Option, Some, None, Result, Ok, Err, IsSome}
use Rattle.std.specs.BTreeMap.{get}
use Rattle.std.specs.Ordering.{nat_cmp}
use Rattle.innd_storage.specs.declared.token.StorageToken.{StorageToken}
use Rattle.innd_storage.specs.declared.token.StorageToken.TheVariants.{Tradspool, Timehash, Cnfs}
use Rattle.innd_storage.specs.declared.token.TokenFault.{TokenFault}
use Rattle.innd_spool.specs.declared.spool.InndSpool.{InndSpool}

-- the place of a token is known: the newsgroup has a directory, and there is a file that names the buffers
abbrev pub IsKnownPlace : {F P : Type 0} → InndSpool F P → StorageToken → Type 0
IsKnownPlace spool (Tradspool token) = IsSome (get nat_cmp spool.groups.groups token.group)
IsKnownPlace spool (Timehash token) = Unit {0}
IsKnownPlace spool (Cnfs token) = IsSome spool.buffers.path

-- so it is of a token of the storage API; of any other, the folder knows
abbrev pub IsKnown : {F P : Type 0} → InndSpool F P → Result (Option StorageToken) TokenFault → Type 0
IsKnown spool (Err fault) = ⊥
IsKnown spool (Ok None) = Unit {0}
IsKnown spool (Ok (Some place)) = IsKnownPlace spool place

-- what a store knows of places stays, and what it has seen of one
pub record KeepsPlaces {F P : Type 0} (old new : InndSpool F P) : Type 0 where
  pub groups : new.groups ≡ old.groups
  pub path : new.buffers.path ≡ old.buffers.path
  pub seen : new.is_seen_gone ≡ old.is_seen_gone
