-- A map whose lines are read one after the other.
use Rattle.std.proofs.Common.{◌≡◌, ◌∙◌, sym, ap, ℕ, List, [], ◌∷◌, ◌++◌, None}
use Rattle.std.specs.List.{All}
use Rattle.std.specs.BTreeMap.{BTreeMap}
use Rattle.std.specs.Global.{Vec}
use Rattle.std.proofs.lemmas.List.Elements.{All-append, All-cons, All-nil}
use Rattle.std.proofs.lemmas.List.Sums.{fold-append}
use Rattle.funnel.specs.Stream.{BeginsWithLine, IsUnended, ended}
use Rattle.funnel.specs.StreamLaws.{ended_push}
use Rattle.innd_storage.specs.MapLines.{map_line_of}
use Rattle.innd_spool.specs.Groups.{IsMapOf, directory_in, directory_of, with_parts}

-- the lines that were read, what is left of the text, and that the map has what the lines say
pub record HasRead (text left : List ℕ) (groups : BTreeMap ℕ (Vec ℕ)) (lines : List (List ℕ)) : Type 0 where
  pub whole : text ≡ ended lines ++ left
  pub each : All IsUnended lines
  pub says : (number : ℕ) → directory_of groups number ≡ directory_in lines number

pub read_more : (text left line behind : List ℕ) (old new : BTreeMap ℕ (Vec ℕ)) (lines : List (List ℕ))
    → HasRead text left old lines → BeginsWithLine left line behind
    → ((number : ℕ) → directory_of new number ≡ with_parts number (directory_of old number) (map_line_of line))
    → HasRead text behind new (lines ++ line ∷ [])
read_more text left line behind old new lines read begins says = record {
  whole = ended_push text left line behind lines read.whole begins.0;
  each = All-append IsUnended lines (line ∷ []) read.each (All-cons IsUnended line [] begins.1 (All-nil IsUnended));
  says = λ number.
      says number ∙ ap (λ before. with_parts number before (map_line_of line)) (read.says number)
      ∙ sym (fold-append (λ before other. with_parts number before (map_line_of other)) None lines (line ∷ []));
}

pub read_all : (text left : List ℕ) (groups : BTreeMap ℕ (Vec ℕ)) (lines : List (List ℕ))
    → HasRead text left groups lines → IsUnended left → IsMapOf text groups
read_all text left groups lines read last =
    (lines, left, record { whole = read.whole; each = read.each; last = last }, read.says)
