-- What a whole chain of sends and receipts says of what a link took and gave.
use Rattle.std.specs.Prelude.{◌≡◌, ℕ, List, [], ◌∷◌, ◌++◌, drop, take, Option, None, Some}
use Rattle.reply_reader.specs.Stream.{Given, Reads}
use Rattle.conn_core.specs.History.{Event, Came, put_octets, sent, reason}
use Rattle.conn_core.specs.declared.options.Options.{Options}

-- the replies that came, oldest first
abbrev pub came : List Event → List Given
came [] = []
came (Came reply ∷ h) = came h ++ reply ∷ []
came (e ∷ h) = came h

-- what a link took since is exactly the output that counts as sent since: in order, with nothing left out and nothing
-- repeated
abbrev pub TookInOrder : List Event → List Event → (before : List ℕ) → Option (List ℕ) → Type 0
TookInOrder h later before now = now ≡ Some (before ++ drop (sent h) (take (sent later) (put_octets later)))

-- the octets held back before, followed by what a link gave since, are the lines of the replies that came since,
-- followed by a rest: while the connection is open, what is held back now
pub record GaveReplies (options : Options) (unread : List ℕ) (h : List Event) (before left : List ℕ)
    (later : List Event) (now : Option (List ℕ)) : Type 0 where
  pub given : List ℕ
  pub replies : List Given
  pub rest : List ℕ
  pub gave_is : now ≡ Some (before ++ given)
  pub came_is : came later ≡ came h ++ replies
  pub made_up : Reads (unread ++ given) replies rest
  pub rest_is : reason options later ≡ None → rest ≡ left
