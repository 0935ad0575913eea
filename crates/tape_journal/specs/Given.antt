-- What is given of a payload while a segment is read record by record.
use Rattle.std.specs.Prelude.{◌≡◌, ◌<◌, ◌≤◌, ℕ, List, length}
use Rattle.tape_journal.specs.declared.records.ReadPayload.{ReadPayload}
use Rattle.tape_journal.specs.declared.records.ReadPayload.TheVariants.{Octets, TooLong}

-- the longest payload that is given, in octets
abbrev pub longest_given : ℕ
longest_given = 65536

-- its octets, or that it is longer than what is given
abbrev pub IsGiven : ReadPayload → List ℕ → Type 0
IsGiven (Octets octets) payload = (octets.now ≡ payload) × (length payload ≤ longest_given)
IsGiven TooLong payload = longest_given < length payload
