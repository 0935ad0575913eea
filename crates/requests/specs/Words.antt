-- The words that can be asked, and which fields each has (profile).
use Rattle.std.specs.Prelude.{ℕ, Bool, true, not, List, [], ◌∷◌, Option, codes}
use Rattle.std.specs.List.{find}
use Rattle.std.specs.Str.{bytes_eq}
use Rattle.requests.specs.declared.words.Word.{Word}
use Rattle.requests.specs.declared.words.Word.TheVariants.{Status, StatusJson, Retry, LogVerbose, LogQuiet, LogReopen}
use Rattle.requests.specs.declared.words.Word.TheVariants.{Hold, Release, Purge, DropArticle, TakeIn, Reload}
use Rattle.requests.specs.declared.words.Rule.{Rule}
use Rattle.requests.specs.declared.words.Rule.TheVariants.{Never, May, Must}
use Rattle.requests.specs.declared.words.Rules.{Rules}

-- how a word is spelled
abbrev pub word_text : Word → List ℕ
word_text Status = codes "status"
word_text StatusJson = codes "status-json"
word_text Retry = codes "retry"
word_text LogVerbose = codes "log-verbose"
word_text LogQuiet = codes "log-quiet"
word_text LogReopen = codes "log-reopen"
word_text Hold = codes "hold"
word_text Release = codes "release"
word_text Purge = codes "purge"
word_text DropArticle = codes "drop"
word_text TakeIn = codes "take-in"
word_text Reload = codes "reload"

abbrev pub all_words : List Word
all_words =
    Status ∷ StatusJson ∷ Retry ∷ LogVerbose ∷ LogQuiet ∷ LogReopen ∷ Hold ∷ Release ∷ Purge ∷ DropArticle ∷ TakeIn
    ∷ Reload ∷ []

-- the word that is spelled so
abbrev pub word_in : List ℕ → Option Word
word_in text = find (λ word. bytes_eq text (word_text word)) all_words

-- whether a field may be there, or may be missing
abbrev pub allows : Rule → Bool → Bool
allows Never there = not there
allows May there = true
allows Must there = there

-- which fields a word has
abbrev pub rules : Word → Rules
rules Status = record { peer = May; id = Never; key = Never }
rules StatusJson = record { peer = May; id = Never; key = Never }
rules Retry = record { peer = May; id = Never; key = Never }
rules LogVerbose = record { peer = Never; id = Never; key = Never }
rules LogQuiet = record { peer = Never; id = Never; key = Never }
rules LogReopen = record { peer = Never; id = Never; key = Never }
rules Hold = record { peer = Must; id = Never; key = Never }
rules Release = record { peer = Must; id = Never; key = Never }
rules Purge = record { peer = Must; id = Never; key = May }
rules DropArticle = record { peer = May; id = Must; key = Never }
rules TakeIn = record { peer = May; id = Never; key = Never }
rules Reload = record { peer = Never; id = Never; key = Never }
