-- The login with which a connection begins (RFC 4643, section 2.3), between its link and its machine.
use Rattle.std.specs.Prelude.{◌||◌, ◌+◌, ℕ, false, List, [], ◌++◌, None, nat_lt}
use Rattle.conn_core.specs.History.{Event}
use Rattle.conn_core.specs.Stands.{StandsFor}
use Rattle.conn_core.specs.State.{Holding}
use Rattle.conn_core.specs.declared.options.Options.{Options}
use Rattle.event_loop.specs.Chain.{Input}
use Rattle.event_loop.specs.declared.moved.Moved.{Moved}
use Rattle.event_loop.specs.declared.moved.Moved.TheVariants.{Done, Later, Closed, Fault}
use Rattle.login.specs.Account.{password_line, user_line}
use Rattle.login.specs.Accounts.{parts_of}
use Rattle.login.specs.Exchange.{Held}
use Rattle.login.specs.declared.account.Account.{Account}
use Rattle.login.specs.declared.step.LoginEnd.TheVariants.{Open}
use Rattle.login.specs.declared.step.LoginStep.TheVariants.{Greeting}

-- a login with this account that has just begun, to a peer that has this long to answer
abbrev pub begun : Account → (timeout : ℕ) → Held
begun account timeout = record {
  user = user_line (parts_of account).0;
  password = password_line (parts_of account).1;
  sent = 0;
  step = Greeting;
  end = Open;
  line = [];
  handed = [];
  quiet = None;
  moved = false;
  timeout = timeout;
}

-- a login of whose output a link did this
abbrev pub after_sending : Held → Moved → Held
after_sending held (Done count) = record held { sent = held.sent + count; moved = held.moved || nat_lt 0 count }
after_sending held Later = held
after_sending held Closed = held
after_sending held Fault = held

-- A connection's machine was given these octets as those that came, after the ones that it holds back of a reply; if
-- memory was refused, some of the replies in them.
abbrev pub IsGiven : List ℕ → (old new : Holding) → Type 0
IsGiven octets old new =
    (options : Options) (unread : List ℕ) (h : List Event) → StandsFor options old unread h
    → (left : List ℕ)
    × ((later : List Event) × (StandsFor options new left later × Input options (unread ++ octets) h left later))
