-- What some lines say.
use Rattle.std.proofs.Common.{◌≡◌, ℕ, false, List, [], ◌∷◌, ◌++◌, Option, None, Some, inl, inr, refl}
use Rattle.std.specs.Prelude.{codes}
use Rattle.article_store.specs.declared.store.Found.TheVariants.{Gone}
use Rattle.funnel.specs.Names.{is_peer_name}
use Rattle.drill_script.specs.Action.{Ends, Hands, IsWritten, Receives, Spells, Supplies}
use Rattle.drill_script.specs.StopRequest.{request_of}
use Rattle.drill_script.specs.Line.{Blank, Gives, Says, SaysStep, Takes}
use Rattle.drill_script.specs.Numbers.{u64_of}
use Rattle.drill_script.specs.Script.{KeepsOrder, held_of}
use Rattle.drill_script.specs.Step.{Lines, Flushes, Begins, Parts, Seals, Connects, Acts, Ticks, Imports, Stops, Arms}
use Rattle.drill_script.specs.Step.{Restarts}
use Rattle.drill_script.specs.declared.disk_name.DiskName.{DiskName}
use Rattle.drill_script.specs.declared.disk_name.TapeDisk.{TapeDisk}
use Rattle.drill_script.specs.declared.disk_name.TapeDisk.TheVariants.{First, Second}

abbrev disk_of : Option (List ℕ) → TapeDisk → DiskName
disk_of peer disk = record { peer = peer; disk = disk }

blank_line : Says [] Blank
blank_line = inl refl

comment_line : Says (codes "# all") Blank
comment_line = inr (codes " all", refl)

lone_line : SaysStep (codes "line") (Lines [])
lone_line = inl (refl, refl)

line_of_a_feed : SaysStep (codes "line a/1 <x@y> p") (Lines (codes "a/1 <x@y> p"))
line_of_a_feed = inr refl

-- further octets after the one space belong to the text
line_with_a_leading_space : SaysStep (codes "line  a") (Lines (codes " a"))
line_with_a_leading_space = inr refl

flush_line : SaysStep (codes "flush") Flushes
flush_line = refl

connect_line : SaysStep (codes "connect p") (Connects (codes "p"))
connect_line = (refl, refl)

hand_line : SaysStep (codes "hand 12") (Acts 12 Hands)
hand_line = (codes "12", refl, refl)

say_line : SaysStep (codes "say 1 200 hi") (Acts 1 (Receives (codes "200 hi" ++ 13 ∷ 10 ∷ [])))
say_line = (codes "1", refl, inl (codes "200 hi", refl, refl))

gone_line : SaysStep (codes "article 1 gone") (Acts 1 (Supplies Gone))
gone_line = (codes "1", refl, refl)

tick_line : SaysStep (codes "tick 007") (Ticks 7)
tick_line = (codes "007", refl, refl)

stop_line : SaysStep (codes "stop") Stops
stop_line = refl

armed_line : SaysStep (codes "stop p 3 5 165")
    (Arms (record { peer = Some (codes "p"); call = 3; choice = record { happened = 5; fill = 165 } }))
armed_line = (codes "p 3 5 165", refl, refl)

intake_line : SaysStep (codes "stop ~intake 1 0")
    (Arms (record { peer = None; call = 1; choice = record { happened = 0; fill = 0 } }))
intake_line = (codes "~intake 1 0", refl, refl)

begin_line : SaysStep (codes "begin") Begins
begin_line = refl

part_line : SaysStep (codes "part p") (Parts (codes "p"))
part_line = (refl, refl)

seal_line : SaysStep (codes "seal") Seals
seal_line = refl

-- octets are written in digits of either case, at least one pair
tape_line : Spells (codes "a5Ff") (165 ∷ 255 ∷ [])
    → Says (codes "tape p a5Ff") (Gives (disk_of (Some (codes "p")) First) (165 ∷ 255 ∷ []))
tape_line spells = (codes "p a5Ff", refl, (codes "p", codes "a5Ff", refl, (refl, refl), spells))

-- `~b` behind the name of a tape is its second disk
second_line : Spells (codes "a5") (165 ∷ [])
    → Says (codes "tape p~b a5") (Gives (disk_of (Some (codes "p")) Second) (165 ∷ []))
second_line spells = (codes "p~b a5", refl, (codes "p~b", codes "a5", refl, (refl, refl), spells))

intakes_line : Spells (codes "a5") (165 ∷ []) → Says (codes "tape ~intake a5") (Gives (disk_of None First) (165 ∷ []))
intakes_line spells = (codes "~intake a5", refl, (codes "~intake", codes "a5", refl, (refl, tt), spells))

intakes_second_line : Spells (codes "a5") (165 ∷ [])
    → Says (codes "tape ~intake~b a5") (Gives (disk_of None Second) (165 ∷ []))
intakes_second_line spells = (codes "~intake~b a5", refl, (codes "~intake~b", codes "a5", refl, (refl, tt), spells))

-- the word for the intake's tape is no peer's name, and neither is one with `~b`
intake_is_no_peer : is_peer_name (codes "~intake") ≡ false
intake_is_no_peer = refl

second_is_no_peer : is_peer_name (codes "p~b") ≡ false
second_is_no_peer = refl

-- the text of a backlog file may be empty, but the space before it is not left out; `gone` is a text like any other
empty_import : SaysStep (codes "import p ") (Imports (codes "p") [])
empty_import = (codes "p ", refl, ([], refl, refl, Ends))

import_of_gone : IsWritten (codes "gone") (codes "gone")
    → SaysStep (codes "import p gone") (Imports (codes "p") (codes "gone"))
import_of_gone written = (codes "p gone", refl, (codes "gone", refl, refl, written))

odd_digits : (octets : List ℕ) → Spells (codes "a5f") octets → ⊥
odd_digits octets spells = let never = spells.1 in cc

no_digits : (octets : List ℕ) → Spells [] octets → ⊥
no_digits octets spells = spells.0 refl

-- what a disk holds is what its line says
held_of_one : held_of
    (Gives (disk_of (Some (codes "q")) First) (0 ∷ []) ∷ Gives (disk_of (Some (codes "p")) First) (165 ∷ [])
    ∷ []) (disk_of (Some (codes "p")) First) ≡ Some (165 ∷ [])
held_of_one = refl

held_of_none : held_of (Gives (disk_of (Some (codes "q")) First) (0 ∷ []) ∷ []) (disk_of (Some (codes "p")) First)
    ≡ None
held_of_none = refl

-- the second disk of a tape is not the first
held_of_second : held_of (Gives (disk_of None First) (0 ∷ []) ∷ Gives (disk_of None Second) (165 ∷ []) ∷ [])
    (disk_of None Second) ≡ Some (165 ∷ [])
held_of_second = refl

-- the numbers of a script: only digits, and at most 64 bits
greatest_number : u64_of (codes "18446744073709551615") ≡ Some 18446744073709551615
greatest_number = refl

number_too_great : u64_of (codes "18446744073709551616") ≡ None
number_too_great = refl

signed_number : u64_of (codes "+1") ≡ None
signed_number = refl

-- a stop comes at a call from 1 on, and fills with an octet
call_zero : request_of (codes "p" ∷ codes "0" ∷ codes "1" ∷ []) ≡ None
call_zero = refl

fill_too_great : request_of (codes "p" ∷ codes "1" ∷ codes "1" ∷ codes "256" ∷ []) ≡ None
fill_too_great = refl

-- steps may follow one another, and blank lines may come anywhere
steps_in_order : KeepsOrder [] (Takes Stops ∷ Blank ∷ Takes Restarts ∷ [])
steps_in_order = (tt, (tt, (tt, tt)))
