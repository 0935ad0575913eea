-- The definitions computed on whole exchanges.
use Rattle.std.specs.Prelude.{◌≡◌, ℕ, true, false, Option, Some, None, List, [], ◌∷◌, ◌++◌, codes, map, replicate, refl}
use Rattle.dot_codec.specs.Block.{written}
use Rattle.reply_reader.specs.declared.fault.ReplyFault.TheVariants.{TooLong}
use Rattle.ledger_core.specs.State.{Owing}
use Rattle.ledger_core.specs.declared.note.FinalCode.{FinalCode}
use Rattle.ledger_core.specs.declared.note.FinalCode.TheVariants.{TakethisReceived, IhaveRejected, CheckNotWanted}
use Rattle.ledger_core.specs.declared.note.Cause.TheVariants.{Missing}
use Rattle.conn_core.specs.Checks.{are_off}
use Rattle.conn_core.specs.Commands.{Sendable, Gone, Held}
use Rattle.conn_core.specs.History.{Event, Offered, Came, Faulted, Handed, Sent, Tick, Broke, Leave, after, outside, story, outcomes, put_octets, output, reason, held, need}
use Rattle.conn_core.specs.Stands.{ready_of}
use Rattle.conn_core.specs.declared.options.Options.{Options}
use Rattle.conn_core.specs.declared.ready.Ready.TheVariants.{Busy, Shut}
use Rattle.conn_core.specs.declared.reason.Reason.{Reason}
use Rattle.conn_core.specs.declared.reason.Reason.TheVariants.{Reader, Unmatched, Ended, Timeout}
use Rattle.conn_core.specs.declared.outcome.Outcome.{Outcome}
use Rattle.conn_core.specs.declared.outcome.Outcome.TheVariants.{Final, Deferred, Lost, Back}

abbrev defaults : Options
defaults = record { streaming = true; max_queue = 20; check_high = 9500; check_low = 9000; check_filter = 20; response_timeout = 300 }

-- these events, one after another
abbrev run : List Event → List Event → List Event
run h [] = h
run h (e ∷ later) = run (outside defaults h e) later

abbrev xy : List ℕ
xy = codes "<x@y>"

abbrev zy : List ℕ
zy = codes "<z@y>"

abbrev wz : List ℕ
wz = codes "<w@z>"

abbrev debt : ℕ → List ℕ → Owing
debt number id = (number, (codes "a/1", id))

abbrev line : ℕ → Event
line code = Came (record { code = code; id = None; text = [] })

abbrev about : ℕ → List ℕ → Event
about code id = Came (record { code = code; id = Some id; text = id })

abbrev final : Owing → FinalCode → Outcome
final debt code = Final (record { debt = debt; code = code })

abbrev later : Owing → Outcome
later debt = Deferred (record { debt = debt })

abbrev crlf : List ℕ
crlf = 13 ∷ 10 ∷ []

-- a debt goes all the way in streaming mode, its text with an empty line and one that begins with a dot
abbrev text : List ℕ
text = written (codes "Subject: t" ∷ [] ∷ codes ".b" ∷ [])

abbrev streamed : List Event
streamed = run [] (line 200 ∷ line 203 ∷ Offered (debt 1 xy) ∷ about 238 xy ∷ Handed 1 (Sendable text) ∷ about 239 xy ∷ [])

streamed-octets : put_octets streamed
    ≡ codes "MODE STREAM" ++ crlf ++ codes "CHECK <x@y>" ++ crlf ++ codes "TAKETHIS <x@y>" ++ crlf ++ codes "Subject: t" ++ crlf ++ crlf ++ codes "..b" ++ crlf ++ codes "." ++ crlf
unfolding after story
streamed-octets = refl

streamed-outcomes : outcomes defaults streamed ≡ final (debt 1 xy) TakethisReceived ∷ []
unfolding after story
streamed-outcomes = refl

streamed-open : reason defaults streamed ≡ None
unfolding after story
streamed-open = refl

-- MODE STREAM is not known: one debt at a time, its article fetched first
abbrev one : List ℕ
one = written (codes "one" ∷ [])

abbrev two : List ℕ
two = written (codes "two" ∷ [])

abbrev by_one : List Event
by_one = run [] (line 200 ∷ line 501 ∷ Offered (debt 1 xy) ∷ [])

abbrev by_ones : List Event
by_ones = run by_one (Handed 1 (Sendable one) ∷ line 335 ∷ line 436 ∷ Offered (debt 2 zy) ∷ Handed 2 (Sendable two) ∷ line 335 ∷ line 437 ∷ [])

by_one-needs : need defaults by_one ≡ Some 1
unfolding after story
by_one-needs = refl

by_one-busy : ready_of defaults by_one ≡ Busy
unfolding after story
by_one-busy = refl

by_ones-octets : put_octets by_ones
    ≡ codes "MODE STREAM" ++ crlf ++ codes "IHAVE <x@y>" ++ crlf ++ one ++ codes "IHAVE <z@y>" ++ crlf ++ two
unfolding after story
by_ones-octets = refl

by_ones-outcomes : outcomes defaults by_ones ≡ later (debt 1 xy) ∷ final (debt 2 zy) IhaveRejected ∷ []
unfolding after story
by_ones-outcomes = refl

-- one id twice: a reply answers the first command that has no answer
abbrev same_id : List Event
same_id = run [] (line 200 ∷ line 203 ∷ Offered (debt 1 xy) ∷ Offered (debt 2 xy) ∷ Offered (debt 3 zy) ∷ about 438 zy ∷ about 438 xy ∷ [])

same_id-outcomes : outcomes defaults same_id ≡ final (debt 3 zy) CheckNotWanted ∷ final (debt 1 xy) CheckNotWanted ∷ []
unfolding after story
same_id-outcomes = refl

same_id-held : map (λ (x : Held). x.debt) (held defaults same_id) ≡ debt 2 xy ∷ []
unfolding after story
same_id-held = refl

-- one debt in flight
abbrev in_flight : List Event
in_flight = run [] (line 200 ∷ line 203 ∷ Offered (debt 1 xy) ∷ [])

deferred : outcomes defaults (run in_flight (about 431 xy ∷ [])) ≡ later (debt 1 xy) ∷ []
unfolding after story
deferred = refl

-- three in flight, and the article given for the first; some of it is sent; then it breaks
abbrev breaks : List Event
breaks = run in_flight (Offered (debt 2 zy) ∷ Offered (debt 3 wz) ∷ about 238 xy ∷ Handed 1 (Sendable one) ∷ Sent 72 ∷ Broke ∷ [])

breaks-outcomes : outcomes defaults breaks ≡ Back (debt 1 xy) ∷ Back (debt 2 zy) ∷ Back (debt 3 wz) ∷ []
unfolding after story
breaks-outcomes = refl

breaks-output : output defaults breaks ≡ []
unfolding after story
breaks-output = refl

-- 400 with one in flight
abbrev ended : List Event
ended = run in_flight (line 400 ∷ [])

ended-outcomes : outcomes defaults ended ≡ Back (debt 1 xy) ∷ []
unfolding after story
ended-outcomes = refl

ended-reason : reason defaults ended ≡ Some (Ended 400)
unfolding after story
ended-reason = refl

ended-close : ready_of defaults ended ≡ Shut
unfolding after story
ended-close = refl

-- replies of a malicious peer, with one debt in flight: what comes out, and why it closes
abbrev told : List Event → List Outcome × Option Reason
told events = (outcomes defaults (run in_flight events), reason defaults (run in_flight events))

wrong_code : told (about 239 xy ∷ []) ≡ (Back (debt 1 xy) ∷ [], Some Unmatched)
unfolding after story
wrong_code = refl

stranger : told (about 438 wz ∷ []) ≡ (Back (debt 1 xy) ∷ [], Some Unmatched)
unfolding after story
stranger = refl

behind_close : told (line 400 ∷ about 438 xy ∷ []) ≡ (Back (debt 1 xy) ∷ [], Some (Ended 400))
unfolding after story
behind_close = refl

before_close : told (about 438 xy ∷ line 400 ∷ []) ≡ (final (debt 1 xy) CheckNotWanted ∷ [], Some (Ended 400))
unfolding after story
before_close = refl

second_reply : told (about 438 xy ∷ about 438 xy ∷ []) ≡ (final (debt 1 xy) CheckNotWanted ∷ [], Some Unmatched)
unfolding after story
second_reply = refl

too_long : told (Faulted TooLong ∷ []) ≡ (Back (debt 1 xy) ∷ [], Some (Reader TooLong))
unfolding after story
too_long = refl

no_id : told (line 438 ∷ []) ≡ (Back (debt 1 xy) ∷ [], Some Unmatched)
unfolding after story
no_id = refl

-- IHAVE, 335, a block, some of it sent, 400
abbrev cut_short : List Event
cut_short = run by_one (Handed 1 (Sendable one) ∷ line 335 ∷ Sent 5 ∷ line 400 ∷ [])

cut_short-outcomes : outcomes defaults cut_short ≡ Back (debt 1 xy) ∷ []
unfolding after story
cut_short-outcomes = refl

cut_short-reason : reason defaults cut_short ≡ Some (Ended 400)
unfolding after story
cut_short-reason = refl

cut_short-output : output defaults cut_short ≡ []
unfolding after story
cut_short-output = refl

-- the article is gone
gone : outcomes defaults (run in_flight (about 238 xy ∷ Handed 1 Gone ∷ [])) ≡ Lost (debt 1 xy) Missing ∷ []
unfolding after story
gone = refl

-- QUIT goes out once nothing is held, and only once
quits : put_octets (run in_flight (Leave ∷ about 438 xy ∷ Sent 3 ∷ Leave ∷ [])) ≡ codes "MODE STREAM" ++ crlf ++ codes "CHECK <x@y>" ++ crlf ++ codes "QUIT" ++ crlf
unfolding after story
quits = refl

-- the check switch, newest answer first
switch-on : are_off defaults (replicate 19 true) ≡ false
switch-on = refl

switch-off : are_off defaults (false ∷ replicate 19 true) ≡ true
switch-off = refl

switch-stays : are_off defaults (replicate 19 true ++ (false ∷ replicate 19 true)) ≡ true
switch-stays = refl

switch-again : are_off defaults (false ∷ (replicate 19 true ++ (false ∷ replicate 19 true))) ≡ true
switch-again = refl

switch-ninety : are_off defaults (false ∷ false ∷ (replicate 19 true ++ (false ∷ replicate 19 true))) ≡ true
switch-ninety = refl

switch-back : are_off defaults (false ∷ false ∷ false ∷ (replicate 19 true ++ (false ∷ replicate 19 true))) ≡ false
switch-back = refl

-- the timeout, from the quiet moment: the greeting does not come; it comes; an answer does not come; only an article is wanted
late_greeting : reason defaults (run [] (Tick 100 ∷ Tick 399 ∷ Tick 400 ∷ [])) ≡ Some Timeout
unfolding after story
late_greeting = refl

in_time : reason defaults (run [] (Tick 100 ∷ Tick 399 ∷ line 200 ∷ Tick 400 ∷ Tick 699 ∷ [])) ≡ None
unfolding after story
in_time = refl

late_answer : told (Tick 100 ∷ Tick 399 ∷ Tick 400 ∷ []) ≡ (Back (debt 1 xy) ∷ [], Some Timeout)
unfolding after story
late_answer = refl

only_wanted : reason defaults (run in_flight (about 238 xy ∷ Tick 100 ∷ Tick 1000 ∷ [])) ≡ None
unfolding after story
only_wanted = refl

sent_counts : reason defaults (run in_flight (Tick 100 ∷ Sent 1 ∷ Tick 400 ∷ [])) ≡ None
unfolding after story
sent_counts = refl
