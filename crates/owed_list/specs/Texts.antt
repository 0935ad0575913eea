-- The lines of a list, and of what waits for strangers (docs/MANUAL.md).
use Rattle.std.specs.Prelude.{◌≡◌, ◌≤◌, ◌∷◌, ◌++◌, ◌==◌, [], if◌then◌else◌, ℕ, List, IsTrue, codes, decimal, length}
use Rattle.funnel.specs.Line.{IsBacklogLine, longest_line}
use Rattle.funnel.specs.Names.{is_peer_name}
use Rattle.funnel.specs.Words.{IsFirstWord}
use Rattle.owed_list.specs.declared.lines.Owed.{Owed}
use Rattle.owed_list.specs.declared.lines.Owed.TheVariants.{Kept, Unknown}

-- an article that waits for a peer of this name, in this place: a number of its tape, or another file
abbrev pub owed_text : (name place token id : List ℕ) → List ℕ
owed_text name place token id = name ++ codes " " ++ place ++ codes " " ++ token ++ codes " " ++ id ++ 10 ∷ []

-- no line of a backlog file
abbrev pub IsNoArticle : List ℕ → Type 0
IsNoArticle line = (token id : List ℕ) → IsBacklogLine line token id → ⊥

-- A line of `~unknown`: the name of a peer, a token and a message-id, and then any words.
pub record IsUnknownLine (line name token id : List ℕ) : Type 0 where
  pub rest : List ℕ
  pub short : length line ≤ longest_line
  pub first : IsFirstWord line name rest
  pub name_form : IsTrue (is_peer_name name)
  pub article : IsBacklogLine rest token id

-- no line of `~unknown`
abbrev pub IsNoUnknownLine : List ℕ → Type 0
IsNoUnknownLine line = (name token id : List ℕ) → IsUnknownLine line name token id → ⊥

-- the line of such a file has this article, which waits for the peer of this name
abbrev pub HasArticle : Owed → (line name token id : List ℕ) → Type 0
HasArticle (Kept peer) line name token id = (name ≡ peer.now) × IsBacklogLine line token id
HasArticle Unknown line name token id = IsUnknownLine line name token id

-- no line of such a file
abbrev pub IsNoLine : Owed → List ℕ → Type 0
IsNoLine (Kept peer) line = IsNoArticle line
IsNoLine Unknown line = IsNoUnknownLine line

-- how the list names such a file, in place of a number
abbrev pub place_of : Owed → List ℕ
place_of (Kept peer) = codes "~kept"
place_of Unknown = codes "~unknown"

-- how many articles are said to wait
abbrev pub count_text : ℕ → List ℕ
count_text count = if count == 1 then codes "1 article waits" else decimal count ++ codes " articles wait"

-- the line on a file of a stranger, without its LF: how many articles wait there
abbrev pub waiting_text : (name ending : List ℕ) → ℕ → List ℕ
waiting_text name ending count = name ++ ending ++ codes ": no such peer; " ++ count_text count
