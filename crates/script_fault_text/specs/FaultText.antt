-- The lines that explain why a line of a script is refused (docs/MANUAL.md).
use Rattle.std.specs.Prelude.{◌≡◌, ◌≢◌, ◌⊎◌, ◌==◌, ◌+◌, ◌-◌, ◌||◌, ℕ, List, [], ◌∷◌, ◌++◌, Option, None, Some}
use Rattle.std.specs.Prelude.{Result, Ok, Err, codes, decimal, drop, get_or, length, map, min, nat_le, nat_lt}
use Rattle.std.specs.Prelude.{if◌then◌else◌, replicate, take}
use Rattle.std.specs.List.{position, slice_split}
use Rattle.std.specs.Option.{option_map}
use Rattle.feed_conf.specs.Explanation.{explanation}
use Rattle.feed_conf.specs.Lexemes.{Lexeme}
use Rattle.feed_conf.specs.Reading.{HaveLexemes, lines_of}
use Rattle.feed_conf.specs.Settings.{Outcome, meaning}
use Rattle.feed_conf.specs.declared.fault.ConfFault.{ConfFault}
use Rattle.funnel.specs.Line.{without_cr}
use Rattle.drill_script.specs.Peer.{IsNamedWith, peer_text}
use Rattle.drill_script.specs.Words.{IsSolid}
use Rattle.drill_script.specs.declared.fault.BrokenRule.{BrokenRule}
use Rattle.drill_script.specs.declared.fault.BrokenRule.TheVariants.{NoStep, NoPeer, PeerBehindStep, DeclaredTwice}
use Rattle.drill_script.specs.declared.fault.BrokenRule.TheVariants.{NoTape, TapeBehindStep, NoPeerOfTape, TapeTwice}
use Rattle.drill_script.specs.declared.fault.BrokenRule.TheVariants.{Unended}
use Rattle.script_fault_text.specs.Parts.{may_lack, misfit_place, parts_of, wanted}
use Rattle.script_fault_text.specs.declared.part.Part.{Part}

-- the line of this number, counted from 1, without its LF and the CR before that
abbrev pub line_at : (script : List ℕ) → (number : ℕ) → List ℕ
line_at script number = without_cr (get_or (slice_split (λ octet. octet == 10) script) (number - 1) [])

-- where the first space stands in a text
abbrev pub place_of_space : List ℕ → Option ℕ
place_of_space text = position (λ octet. octet == 32) text

-- where the first space stands at or after this place
abbrev pub space_from : (line : List ℕ) → (place : ℕ) → Option ℕ
space_from line place = option_map (λ count. place + count) (place_of_space (drop place line))

-- the text up to this place, or all of it
abbrev pub up_to : List ℕ → Option ℕ → List ℕ
up_to text None = text
up_to text (Some end) = take end text

-- the first word of a text
abbrev pub first_word : List ℕ → List ℕ
first_word text = up_to text (place_of_space text)

-- the word between the space at this place and the next space, or the line's end
abbrev pub word_after : (line : List ℕ) → (space : ℕ) → List ℕ
word_after line space = first_word (drop (space + 1) line)

-- what a message begins with; columns count from 1
abbrev pub place_text : (source : List ℕ) → (number column : ℕ) → List ℕ
place_text source number column = source ++ codes ": line " ++ decimal number ++ codes ", column " ++ decimal column

-- an octet as it is shown
abbrev pub visible : ℕ → ℕ
visible octet = if nat_lt octet 32 || nat_lt 126 octet then 63 else octet

-- the end of a word that has so many octets: a quote, and two dots if not all are shown
abbrev pub ending : ℕ → List ℕ
ending count = if nat_le count 40 then codes "\"" else codes "\".."

-- a word as it is shown, up to the closing quote: 40 octets of it at most
abbrev pub shown : List ℕ → List ℕ
shown word = map visible (take (min (length word) 40) word) ++ ending (length word)

-- this word, before which the line has so many octets, is not what is wanted there
abbrev pub misfit_text : (source : List ℕ) → (number before : ℕ) → (word wanted : List ℕ) → List ℕ
misfit_text source number before word wanted =
    place_text source number (before + 1) ++ codes ": \"" ++ shown word ++ codes ": expected " ++ wanted ++ 10 ∷ []

-- something follows the last part
abbrev pub ended_text : (source : List ℕ) → (number : ℕ) → (line : List ℕ) → (space : Option ℕ) → List ℕ
ended_text source number line None = []
ended_text source number line (Some space) =
    misfit_text source number space (drop space line) (codes "the end of the line")

-- the line has ended before this part
abbrev pub missing_text : (source : List ℕ) → (number : ℕ) → (line : List ℕ) → Part → List ℕ
missing_text source number line part =
    if may_lack part then [] else misfit_text source number (length line) [] (wanted part)

-- this text after a space is not what the part has to be, from this octet on
abbrev pub unfit_text : (source : List ℕ) → (number : ℕ) → Part → (space : ℕ) → (text : List ℕ) → Option ℕ → List ℕ
unfit_text source number part space text None = []
unfit_text source number part space text (Some misfit) =
    misfit_text source number (space + 1 + misfit) (drop misfit text) (wanted part)

abbrev pub part_text : (source : List ℕ) → (number : ℕ) → Part → (space : ℕ) → (text : List ℕ) → List ℕ
part_text source number part space text = unfit_text source number part space text (misfit_place part text)

-- the last part is all that is left of the line
abbrev pub last_text : (source : List ℕ) → (number : ℕ) → (line : List ℕ) → Part → (space : Option ℕ) → List ℕ
last_text source number line part None = missing_text source number line part
last_text source number line part (Some space) = part_text source number part space (drop (space + 1) line)

-- the message on a word, or that on what follows it if the word is what it has to be
abbrev pub or_else : List ℕ → (fits : Option ℕ) → List ℕ → List ℕ
or_else here None behind = behind
or_else here (Some misfit) behind = here

-- The message on the first of these parts that the line does not have; the first part begins after this space.
abbrev pub parts_text : (source : List ℕ) → (number : ℕ) → (line : List ℕ) → List Part → (space : Option ℕ) → List ℕ
parts_text source number line [] space = ended_text source number line space
parts_text source number line (part ∷ []) space = last_text source number line part space
parts_text source number line (part ∷ other ∷ others) None = missing_text source number line part
parts_text source number line (part ∷ other ∷ others) (Some space) =
    or_else (part_text source number part space (word_after line space)) (misfit_place part (word_after line space))
    (parts_text source number line (other ∷ others) (space_from line (space + 1)))

-- the words that a line may begin with
abbrev pub first_words : List ℕ
first_words =
    codes "#, peer, tape, line, flush, begin, part, seal, connect, hand, say, raw, article, break, tick, shed, "
    ++ codes "rotate, import, stop or restart"

-- the message on a line by the parts that follow its first word
abbrev pub by_parts : (source : List ℕ) → (number : ℕ) → (line : List ℕ) → Option (List Part) → List ℕ
by_parts source number line None = misfit_text source number 0 (first_word line) first_words
by_parts source number line (Some parts) = parts_text source number line parts (space_from line 0)

-- the message on a line that does not have its form
abbrev pub form_text : (source : List ℕ) → (number : ℕ) → (line : List ℕ) → List ℕ
form_text source number line = by_parts source number line (parts_of (first_word line))

-- the message on the first word of a line
abbrev pub first_text : (source : List ℕ) → (number : ℕ) → (line wanted : List ℕ) → List ℕ
first_text source number line wanted = misfit_text source number 0 (first_word line) wanted

-- the message on the second word of a line, or none if it has no space
abbrev pub second_at : (source : List ℕ) → (number : ℕ) → (line wanted : List ℕ) → Option ℕ → List ℕ
second_at source number line wanted None = []
second_at source number line wanted (Some space) =
    misfit_text source number (space + 1) (word_after line space) wanted

abbrev pub second_text : (source : List ℕ) → (number : ℕ) → (line wanted : List ℕ) → List ℕ
second_text source number line wanted = second_at source number line wanted (space_from line 0)

-- what a configuration's text means: its settings, or its first fault
abbrev pub Means : List ℕ → Result Outcome ConfFault → Type 0
Means text meant = (lines : List (List Lexeme)) → HaveLexemes (lines_of text) lines → meaning lines ≡ meant

-- The block of a peer's settings, on the line of this number.
abbrev pub block_text : (number : ℕ) → (name items : List ℕ) → List ℕ
block_text number name items = replicate (number - 1) 10 ++ peer_text name items

-- The lines on the settings of a peer: the explanation of their fault, as that of a configuration, or that they are not
-- those of one peer.
abbrev pub AreOnSettings : (source : List ℕ) → (number : ℕ) → (line name items lines : List ℕ) → Type 0
AreOnSettings source number line name items lines =
    ((fault : ConfFault) × Means (block_text number name items) (Err fault)
    × (lines ≡ explanation source (block_text number name items) fault))
    ⊎ ((outcome : Outcome) × Means (block_text number name items) (Ok outcome)
    × (lines ≡ second_text source number line (codes "the settings of one peer of this name")))

-- The lines on what follows `peer ` on a line: they are on the settings of the peer that it names.
abbrev pub AreOnDeclaration : (source : List ℕ) → (number : ℕ) → (line declaration lines : List ℕ) → Type 0
AreOnDeclaration source number line declaration lines =
    (name items : List ℕ) × IsNamedWith declaration name items × IsSolid name
    × AreOnSettings source number line name items lines

-- The lines on a line that has its form: those on what follows `peer `, or none if it does not begin so.
pub record AreOnFormed (source : List ℕ) (number : ℕ) (line lines : List ℕ) : Type 0 where
  pub formed : form_text source number line ≡ []
  pub declared : (declaration : List ℕ) → line ≡ codes "peer " ++ declaration
      → AreOnDeclaration source number line declaration lines
  pub others : ((declaration : List ℕ) → line ≡ codes "peer " ++ declaration → ⊥) → lines ≡ []

-- The lines on a peer's line: those on its form, or if it has that, on its settings.
abbrev pub AreOnPeer : (source : List ℕ) → (number : ℕ) → (line lines : List ℕ) → Type 0
AreOnPeer source number line lines =
    ((form_text source number line ≢ []) × (lines ≡ form_text source number line))
    ⊎ AreOnFormed source number line lines

-- The lines that explain why this line of a script is refused.
abbrev pub AreOn : (source : List ℕ) → (number : ℕ) → (line : List ℕ) → BrokenRule → (lines : List ℕ) → Type 0
AreOn source number line NoStep lines = lines ≡ form_text source number line
AreOn source number line NoTape lines = lines ≡ form_text source number line
AreOn source number line NoPeer lines = AreOnPeer source number line lines
AreOn source number line PeerBehindStep lines = lines ≡ first_text source number line (codes "it before the first step")
AreOn source number line TapeBehindStep lines = lines ≡ first_text source number line (codes "it before the first step")
AreOn source number line DeclaredTwice lines =
    lines ≡ second_text source number line (codes "a name that no line above declares")
AreOn source number line NoPeerOfTape lines =
    lines ≡ second_text source number line (codes "the name of a peer that a line above declares")
AreOn source number line TapeTwice lines =
    lines ≡ second_text source number line (codes "a disk that no line above gives")
AreOn source number line Unended lines = lines ≡ []
