-- What a script's `stop` line with a tape arms (docs/FORMATS.md).
use Rattle.std.specs.Prelude.{ℕ, ◌&&◌, nat_lt, nat_le, if◌then◌else◌, List, [], ◌∷◌, Option, None, Some, option_map}
use Rattle.std.specs.Prelude.{Bool, ◌||◌, codes}
use Rattle.std.specs.Str.{bytes_eq}
use Rattle.disk_model.specs.declared.choice.Choice.{Choice}
use Rattle.funnel.specs.Names.{is_peer_name}
use Rattle.drill_script.specs.Numbers.{u64_of}
use Rattle.drill_script.specs.declared.stop_request.StopRequest.{StopRequest}

-- the peer at whose tape the stop comes, or none for the intake's; the calls up to it; what it leaves
pub record Armed : Type 0 where
  pub peer : Option (List ℕ)
  pub call : ℕ
  pub choice : Choice

abbrev pub armed_by : StopRequest → Armed
armed_by request = record { peer = request.peer; call = request.call; choice = request.choice }

abbrev pub view_of : Option StopRequest → Option Armed
view_of request = option_map armed_by request

-- a word names a tape: the intake's, or that of a peer
abbrev pub is_tape : List ℕ → Bool
is_tape word = bytes_eq word (codes "~intake") || is_peer_name word

-- the peer whose tape the word names, or none for the intake's
abbrev pub peer_of : List ℕ → Option (List ℕ)
peer_of word = if bytes_eq word (codes "~intake") then None else Some word

-- a word and three numbers arm a stop if the word names a tape, the first number is above 0, and the last is an octet
abbrev pub armed_of : List ℕ → Option ℕ → Option ℕ → Option ℕ → Option Armed
armed_of word None bits fill = None
armed_of word (Some call) None fill = None
armed_of word (Some call) (Some bits) None = None
armed_of word (Some call) (Some bits) (Some fill) =
    if is_tape word && (nat_lt 0 call && nat_le fill 255) then Some (record {
      peer = peer_of word;
      call = call;
      choice = record { happened = bits; fill = fill };
    }) else None

abbrev pub armed : List ℕ → List ℕ → List ℕ → List ℕ → Option Armed
armed word call bits fill = armed_of word (u64_of call) (u64_of bits) (u64_of fill)

-- the words after `stop`; without a fill, it is 0
abbrev pub request_of : List (List ℕ) → Option Armed
request_of (word ∷ call ∷ bits ∷ []) = armed word call bits (codes "0")
request_of (word ∷ call ∷ bits ∷ fill ∷ []) = armed word call bits fill
request_of words = None
