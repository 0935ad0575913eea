-- The exchange by which a peer is logged in to (RFC 4643, section 2.3): what a login stands for, by the octets that
-- came, in whatever pieces.
use Rattle.std.specs.Prelude.{◌≡◌, ◌≢◌, ◌⊎◌, ◌+◌, ◌-◌, ℕ, Bool, true, false, List, [], ◌∷◌, ◌++◌, length}
use Rattle.std.specs.Prelude.{Option, Some, if◌then◌else◌, nat_le, unwrap_or, drop, take, ◌≤◌}
use Rattle.funnel.specs.Line.{without_cr}
use Rattle.funnel.specs.Stream.{ended}
use Rattle.reply_reader.specs.Reply.{BeginsWithCode, IsNoReply}
use Rattle.reply_reader.specs.Stream.{IsShort, longest_reply}
use Rattle.login.specs.Steps.{meaning_of}
use Rattle.login.specs.declared.step.LoginStep.{LoginStep}
use Rattle.login.specs.declared.step.LoginStep.TheVariants.{Greeting, User, Password}
use Rattle.login.specs.declared.step.Meaning.TheVariants.{Fails}
use Rattle.login.specs.declared.step.Refusal.{Refusal}
use Rattle.login.specs.declared.step.Refusal.TheVariants.{Answer, NoCode, TooLong, Timeout, NoMemory}
use Rattle.login.specs.declared.step.LoginEnd.{LoginEnd}
use Rattle.login.specs.declared.step.LoginEnd.TheVariants.{Open, Accepted, Refused}

-- What a login holds.
pub record Held : Type 0 where
  -- the commands, each with its end
  pub user : List ℕ
  pub password : List ℕ
  -- how many octets of them have been sent
  pub sent : ℕ
  -- what is or was awaited, and whether it ended there
  pub step : LoginStep
  pub end : LoginEnd
  -- what came of the line that is awaited; after the end the last line, without its LF
  pub line : List ℕ
  -- the greeting with its LF, once there is one, and what came after the login
  pub handed : List ℕ
  -- since when it is quiet, whether something moved since the last tick, and how long it may be quiet
  pub quiet : Option ℕ
  pub moved : Bool
  pub timeout : ℕ

-- how many octets of the two commands, of which the first has so many, are to be sent at this step
abbrev pub due : LoginStep → (user_len all : ℕ) → ℕ
due Greeting user_len all = 0
due User user_len all = user_len
due Password user_len all = all

-- USER is sent after the greeting, PASS after a 381
abbrev pub put_out_at : LoginStep → (user password : List ℕ) → List ℕ
put_out_at Greeting user password = []
put_out_at User user password = user
put_out_at Password user password = user ++ password

-- all that was to be sent so far
abbrev pub put_out : Held → List ℕ
put_out held = put_out_at held.step held.user held.password

-- the line, without its LF, is short enough and a reply with this code
abbrev pub HasCode : ℕ → List ℕ → Type 0
HasCode code line = IsShort line × ((rest : List ℕ) × BeginsWithCode (without_cr line) code rest)

-- the line is a greeting that lets articles or at least commands come (RFC 3977, section 5.1)
abbrev pub IsGreeting : List ℕ → Type 0
IsGreeting line = HasCode 200 line ⊎ HasCode 201 line

-- the lines that came before what is awaited, and the greeting among them with its LF
abbrev pub Came : LoginStep → (lines : List (List ℕ)) → (greeting : List ℕ) → Type 0
Came Greeting lines greeting = (lines ≡ []) × (greeting ≡ [])
Came User lines greeting = (first : List ℕ) × (lines ≡ first ∷ []) × (greeting ≡ first ++ 10 ∷ []) × IsGreeting first
Came Password lines greeting =
    (first asked : List ℕ) × (lines ≡ first ∷ asked ∷ []) × (greeting ≡ first ++ 10 ∷ []) × IsGreeting first
    × HasCode 381 asked

-- Why a login that waited for this is refused by the line that came, without its LF, and what came after it.
abbrev pub Refuses : LoginStep → Refusal → (line rest : List ℕ) → Type 0
Refuses step (Answer code) line rest =
    ((after : List ℕ) × (rest ≡ 10 ∷ after)) × HasCode code line × (meaning_of step code ≡ Fails)
Refuses step NoCode line rest = ((after : List ℕ) × (rest ≡ 10 ∷ after)) × IsNoReply line
Refuses step TooLong line rest =
    ((octet : ℕ) × (after : List ℕ) × (rest ≡ octet ∷ after) × (octet ≢ 10)) × (length line + 1 ≡ longest_reply)
Refuses step Timeout line rest = Unit {0}
Refuses step NoMemory line rest = Unit {0}

-- What the line and what came after it mean: while the line is awaited, nothing came after it. If it is a 281 to USER
-- or PASS, the greeting and all octets after that line are handed on, and nothing else.
abbrev pub Judged : LoginStep → LoginEnd → (line rest greeting handed : List ℕ) → Type 0
Judged step Open line rest greeting handed = (rest ≡ []) × (handed ≡ greeting)
Judged step Accepted line rest greeting handed =
    ((after : List ℕ) × (rest ≡ 10 ∷ after) × (handed ≡ greeting ++ after)) × HasCode 281 line × (step ≢ Greeting)
Judged step (Refused refusal) line rest greeting handed = Refuses step refusal line rest

-- These octets came: whole lines, and what came of the line that is awaited or that ended the login.
pub record Stands (step : LoginStep) (end : LoginEnd) (line handed came : List ℕ) : Type 0 where
  pub lines : List (List ℕ)
  pub rest : List ℕ
  pub greeting : List ℕ
  pub whole : came ≡ ended lines ++ (line ++ rest)
  pub before : Came step lines greeting
  pub judged : Judged step end line rest greeting handed

-- these octets may have come, if memory sufficed for them
abbrev pub StandsFor : Held → List ℕ → Type 0
StandsFor held came = (held.end ≡ Refused NoMemory) ⊎ Stands held.step held.end held.line held.handed came

-- a login is under way
abbrev pub is_open : LoginEnd → Bool
is_open Open = true
is_open Accepted = false
is_open (Refused refusal) = false

-- since when it is quiet at this tick: since now if something moved, or if it is the first tick
abbrev pub quiet_at : Held → ℕ → ℕ
quiet_at held now = if held.moved then now else unwrap_or held.quiet now

-- what a tick at this moment makes of a login that is under way: it fails if it has been quiet for too long
abbrev pub ticked : Held → ℕ → Held
ticked held now = record held {
  quiet = Some (quiet_at held now);
  moved = false;
  end = if nat_le held.timeout (now - quiet_at held now) then Refused Timeout else held.end;
}

abbrev pub after_tick : Held → ℕ → Held
after_tick held now = if is_open held.end then ticked held now else held

-- a call takes in octets alone
pub record KeepsCommands (old new : Held) : Type 0 where
  pub user : new.user ≡ old.user
  pub password : new.password ≡ old.password
  pub sent : new.sent ≡ old.sent
  pub timeout : new.timeout ≡ old.timeout

-- the password in the line that sends it
abbrev pub password_in : Held → List ℕ
password_in held = take (length held.password - 16) (drop 14 held.password)

-- What holds of a login's fields: the first of its commands has this many octets of all, no more was sent than was to
-- be, and the line is short enough and has no LF.
pub record IsSound (user_len sent : ℕ) (step : LoginStep) (all : ℕ) (line : List ℕ) : Type 0 where
  pub commands : user_len + 16 ≤ all
  pub sent_due : sent ≤ due step user_len all
  pub short : IsShort line
