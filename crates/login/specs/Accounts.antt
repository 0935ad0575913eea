-- The file of accounts, in the form of INN's passwd.nntp: lines `host:user:password`, which `:authinfo` may follow.
use Rattle.std.specs.Prelude.{◌==◌, ◌&&◌, ◌||◌, ◌+◌, ℕ, Bool, if◌then◌else◌, nat_eq, nat_lt, List, [], ◌∷◌, length}
use Rattle.std.specs.Prelude.{drop, take, Option, Some, None, Result, Ok, Err, codes}
use Rattle.std.specs.List.{list_all, position_or_len, slice_split, starts_with}
use Rattle.std.specs.Str.{bytes_eq}
use Rattle.login.specs.Account.{is_argument, is_printable}
use Rattle.login.specs.declared.account_line.AccountLine.{AccountLine}
use Rattle.login.specs.declared.account_line.AccountLineFault.{AccountLineFault}
use Rattle.login.specs.declared.account_line.AccountLineFault.TheVariants.{BadHost, BadUser, BadPassword, BadStyle}
use Rattle.login.specs.declared.account.Account.{Account}
use Rattle.login.specs.declared.accounts.AccountsFault.{AccountsFault}

-- where an octet stands first, or how many octets there are
unfoldable pub place_of : ℕ → List ℕ → ℕ
place_of octet octets = position_or_len (λ other. other == octet) octets

-- what comes before the first such octet, or all
abbrev pub before : ℕ → List ℕ → List ℕ
before octet text = take (place_of octet text) text

-- what comes after the first such octet, or nothing
abbrev pub after : ℕ → List ℕ → List ℕ
after octet text = drop (place_of octet text + 1) text

abbrev pub begins : List ℕ → List ℕ → Bool
begins text word = starts_with nat_eq text word

-- a host and its account
pub record Entry : Type 0 where
  pub host : List ℕ
  pub user : List ℕ
  pub password : List ℕ

-- a space or a tab
abbrev pub is_blank : ℕ → Bool
is_blank octet = octet == 32 || octet == 9

-- a line that has no account: a comment, or one without anything but blanks
abbrev pub is_other : List ℕ → Bool
is_other line = begins line (codes "#") || list_all is_blank line

-- printable octets without a blank, of which there is one
abbrev pub is_host : List ℕ → Bool
is_host octets = nat_lt 0 (length octets) && list_all is_printable octets

-- a host and what follows its colon
abbrev pub with_host : (host behind : List ℕ) → Option (List ℕ × List ℕ)
with_host host behind = if is_host host then Some (host, behind) else None

-- the host in brackets, and what follows the colon after them
abbrev pub bracketed : List ℕ → Option (List ℕ × List ℕ)
bracketed text =
    if begins (after 93 text) (codes ":") then with_host (before 93 text) (drop 1 (after 93 text)) else None

-- the host of a line, which may be in brackets, and what follows its colon
abbrev pub host_of : List ℕ → Option (List ℕ × List ℕ)
host_of line = if begins line (codes "[") then bracketed (drop 1 line) else with_host (before 58 line) (after 58 line)

-- what may follow the password: nothing, or `:authinfo`
abbrev pub is_style : List ℕ → Bool
is_style text = length text == 0 || bytes_eq text (codes ":authinfo")

-- what follows the text before the first colon, with that colon
abbrev pub from_colon : List ℕ → List ℕ
from_colon text = drop (place_of 58 text) text

-- the account with these parts, or the first that is not good
abbrev pub with_parts : (host user rest : List ℕ) → Result (Option Entry) AccountLineFault
with_parts host user rest =
    if is_argument user then (
    if is_argument (before 58 rest) then (
    if is_style (from_colon rest)
    then Ok (Some (record { host = host; user = user; password = before 58 rest }))
    else Err BadStyle)
    else Err BadPassword)
    else Err BadUser

-- the account behind this host and its colon
abbrev pub account_at : Option (List ℕ × List ℕ) → Result (Option Entry) AccountLineFault
account_at None = Err BadHost
account_at (Some found) = with_parts found.0 (before 58 found.1) (after 58 found.1)

-- what a line has, without its LF: an account, or nothing
abbrev pub account_in : List ℕ → Result (Option Entry) AccountLineFault
account_in line = if is_other line then Ok None else account_at (host_of line)

-- the parts of what a line was read as
abbrev pub entry_of : AccountLine → Entry
entry_of line = record { host = line.host.now; user = line.user.now; password = line.password.now }

abbrev pub entry_given : Result (Option AccountLine) AccountLineFault → Result (Option Entry) AccountLineFault
entry_given (Ok None) = Ok None
entry_given (Ok (Some line)) = Ok (Some (entry_of line))
entry_given (Err fault) = Err fault

-- the lines of a file, each without its LF
abbrev pub lines_of : List ℕ → List (List ℕ)
lines_of text = slice_split (λ octet. octet == 10) text

-- the fault of a line with this number, if there is one, otherwise that of the others
abbrev pub fault_at : ℕ → Result (Option Entry) AccountLineFault → Option AccountsFault → Option AccountsFault
fault_at number (Err kind) others = Some (record { line = number; kind = kind })
fault_at number (Ok entry) others = others

-- the first line at fault, the first of them with this number
abbrev pub first_fault : ℕ → List (List ℕ) → Option AccountsFault
first_fault number [] = None
first_fault number (line ∷ lines) = fault_at number (account_in line) (first_fault (number + 1) lines)

-- the account of a line if it is for this host, otherwise what the others have
abbrev pub entry_at : (host : List ℕ) → Result (Option Entry) AccountLineFault → Option Entry → Option Entry
entry_at host (Err fault) others = others
entry_at host (Ok None) others = others
entry_at host (Ok (Some entry)) others = if bytes_eq entry.host host then Some entry else others

-- the first account for this host
abbrev pub first_entry : (host : List ℕ) → List (List ℕ) → Option Entry
first_entry host [] = None
first_entry host (line ∷ lines) = entry_at host (account_in line) (first_entry host lines)

-- the user and the password of an account
abbrev pub parts_of : Account → List ℕ × List ℕ
parts_of account = (account.user.items, account.password.items)

-- the user and the password of an entry
abbrev pub login_of : Entry → List ℕ × List ℕ
login_of entry = (entry.user, entry.password)
