-- Peers found by their names, and the names that their values keep.
use Rattle.std.proofs.Common.{◌≡◌, ◌+◌, ℕ, Bool, true, false, List, [], ◌∷◌, map, length, cond, Option, None, Some}
use Rattle.std.proofs.Common.{refl, ap, ◌∙◌, sym, add-one}
use Rattle.std.specs.List.{slice_get}
use Rattle.std.specs.Option.{option_map, option_copied}
use Rattle.std.specs.Slice.{IsItemAt}
use Rattle.std.specs.Borrow.{Bor}
use Rattle.std.proofs.lemmas.Option.{slice_get_past, slice_get_read}
use Rattle.std.specs.Str.{bytes_eq}
use Rattle.feed_conf.specs.Lexemes.{Lexeme}
use Rattle.feed_conf.specs.Items.{Nothing, items, items_of}
use Rattle.feed_conf.specs.Scan.{lexemes_of}
use Rattle.feed_conf.specs.Reading.{Use, Declared, HaveLexemes}
use Rattle.feed_conf.specs.ReaderView.{index_of}
use Rattle.feed_conf.specs.Settings.{Settings, settings_of}
use Rattle.feed_conf.specs.ConfView.{find_settings}
use Rattle.feed_conf.specs.LexemeLaws.{lexemes-are}
use Rattle.feed_conf.proofs.Walks.{has-lexemes}

-- the values at an index
abbrev pub at_index : Option ℕ → List Settings → Option Settings
at_index None peers = None
at_index (Some index) peers = slice_get peers index

next-index : (o : Option ℕ) (peer : Settings) (peers : List Settings)
    → at_index (option_map (λ index. index + 1) o) (peer ∷ peers) ≡ at_index o peers
next-index None peer peers = refl
next-index (Some n) peer peers = rw add-one refl

find-step : (b : Bool) (o : Option ℕ) (found : Option Settings) (peer : Settings) (peers : List Settings)
    → found ≡ at_index o peers →
    cond b (Some peer) found ≡ at_index (cond b (Some 0) (option_map (λ index. index + 1) o)) (peer ∷ peers)
find-step true o found peer peers h = refl
find-step false o found peer peers h = h ∙ sym (next-index o peer peers)

-- the values of the first peer of a name are those at its index
pub find-index : (octets : List ℕ) (peers : List Settings)
    → find_settings octets peers ≡ at_index (index_of octets (map (λ (peer : Settings). peer.name) peers)) peers
find-index octets [] = refl
find-index octets (peer ∷ peers) =
    find-step (bytes_eq octets peer.name) (index_of octets (map (λ (p : Settings). p.name) peers))
    (find_settings octets peers) peer peers (find-index octets peers)

-- the values of peers keep the peers' names
pub names-kept : (uses : List Use) (outer : List ℕ) (peers : List Declared)
    → map (λ (peer : Settings). peer.name) (map (settings_of uses outer) peers) ≡ map
    (λ (peer : Declared). peer.name) peers
names-kept uses outer [] = refl
names-kept uses outer (peer ∷ peers) = ap (λ z. peer.name ∷ z) (names-kept uses outer peers)

-- lines say what their lexemes say
pub items-are : (lines : List (List ℕ)) (lexemes : List (List Lexeme)) → HaveLexemes lines lexemes
    → map (λ ts. items ts Nothing) lexemes ≡ map items_of lines
items-are [] [] h = refl
items-are [] (ts ∷ lexemes) h = absurd h
items-are (line ∷ lines) [] h = absurd h
items-are (line ∷ lines) (ts ∷ lexemes) h =
    ap (λ z. items z Nothing ∷ map (λ us. items us Nothing) lexemes) (sym (lexemes-are line ts h.0))
    ∙ ap (λ z. items_of line ∷ z) (items-are lines lexemes h.1)

-- lines have lexemes
pub have-lexemes : (lines : List (List ℕ)) → HaveLexemes lines (map lexemes_of lines)
have-lexemes [] = tt
have-lexemes (line ∷ lines) = (has-lexemes line, have-lexemes lines)

-- what is lent from a list at an index
pub item-copied : {X : Type 0} (xs : List X) (i : ℕ) (r : Option (Bor X)) → IsItemAt xs i r
    → option_copied r ≡ slice_get xs i
item-copied xs i None h = sym (slice_get_past xs i h.3)
item-copied xs i (Some x) h = sym (slice_get_read xs (length xs) i x.now refl h.3.0 h.1)
