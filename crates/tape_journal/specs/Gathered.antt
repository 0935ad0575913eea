-- Which payloads have been gathered, which nothing stores.
use Rattle.std.specs.Prelude.{◌≡◌, ℕ, List, length}
use Rattle.tape_journal.specs.Segment.{AllShort, records}
use Rattle.tape_journal.specs.declared.gathered.Gathered.{Gathered}

-- the number of octets that the records have
abbrev pub octets_in : Gathered → ℕ
octets_in gathered = length gathered.octets.items

-- these payloads have been gathered, in this order, and none of them is too long
pub record Gathers (gathered : Gathered) (payloads : List (List ℕ)) : Type 0 where
  pub records : gathered.octets.items ≡ records payloads
  pub short : AllShort payloads
