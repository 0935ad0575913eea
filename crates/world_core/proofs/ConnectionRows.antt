-- Worked steps on connections, computed: what goes out, what becomes of debts, and what each step reports.
use Rattle.std.proofs.Common.{◌≡◌, ℕ, true, false, None, Some, List, [], ◌∷◌, ◌++◌, refl, inl, inr, arith}
use Rattle.std.specs.Prelude.{codes}
use Rattle.feed_conf.specs.declared.conf.PeerConf.{PeerConf}
use Rattle.ledger_core.specs.State.{Owing}
use Rattle.ledger_core.specs.declared.note.Cause.TheVariants.{Deferred as PutOff, Missing}
use Rattle.ledger_core.specs.declared.note.FinalCode.TheVariants.{TakethisReceived}
use Rattle.conn_core.specs.Commands.{Gone, Sendable}
use Rattle.conn_core.specs.History.{Broke, Came, Event as Happening, Handed as HandedIn, Offered, Tick, after, output}
use Rattle.conn_core.specs.History.{outside, story}
use Rattle.conn_core.specs.declared.options.Options.{Options}
use Rattle.conn_core.specs.declared.outcome.Outcome.TheVariants.{Final}
use Rattle.conn_core.specs.declared.reason.Reason.TheVariants.{Broken, Ended, Timeout}
use Rattle.peer_queue.specs.declared.limits.Limits.{Limits}
use Rattle.peer_queue.specs.declared.settled.Settled.TheVariants.{Answered, Dropped, Later, Ready}
use Rattle.recovery.specs.Notes.{begun as begun_history}
use Rattle.sections.specs.Tapes.{TapePast}
use Rattle.world_core.specs.Past.{ConnPast, Life, Past}
use Rattle.world_core.specs.Events.{Settles}
use Rattle.world_core.specs.Exchange.{TakesConnect, exchange_views, followed_up, fresh_conn, settled_out, unsettled}
use Rattle.world_core.specs.Exchange.{waiting, with_transcript}
use Rattle.world_core.specs.ExchangeLaws.{settle_events}
use Rattle.world_core.specs.Runs.{RefusesStep}
use Rattle.world_core.specs.Output.{Closed, Connected, Need, SentLine, View, Settled}
use Rattle.world_core.specs.declared.fault.Fault.TheVariants.{NoConnection, NoPeer}
use Rattle.world_core.specs.declared.step.Step.TheVariants.{Connect, Hand}

-- ---- what follows a step on connection 1, at the moment 60

abbrev options : Options
options = record {
  streaming = true;
  max_queue = 20;
  check_high = 9500;
  check_low = 9000;
  check_filter = 20;
  response_timeout = 300;
}

abbrev limits : Limits
limits = record { backlog_limit = 0; backlog_high = 0; drop_deferred = false }

-- a connection none of whose outcomes has gone to its peer
abbrev cxn : List Happening → ConnPast
cxn h = record { rank = 2; unread = []; transcript = h; settled = 0 }

-- what is reported of it, if its transcript was the first before the step and is the second after it
abbrev outputs : List Happening → List Happening → List View
outputs was h = exchange_views limits options 1 60 was (cxn h)

-- its transcript once its outcomes have gone to the peer and its output counts as sent
abbrev sent : List Happening → List Happening
sent h = (followed_up options (cxn h)).transcript

abbrev debt : Owing
debt = (7, (codes "a/1", codes "<x@y>"))

abbrev line : ℕ → Happening
line code = Came (record { code = code; id = None; text = [] })

abbrev about : ℕ → Happening
about code = Came (record { code = code; id = Some (codes "<x@y>"); text = codes "<x@y>" })

-- the greeting came, and the answer to it counts as sent; then streaming was granted
abbrev greeted : List Happening
greeted = outside options [] (line 200)

abbrev streaming : List Happening
streaming = sent (outside options (sent greeted) (line 203))

greeting_tells : outputs [] greeted ≡ SentLine 1 (codes "MODE STREAM") ∷ []
unfolding after story
greeting_tells = refl

nothing_left : output options (sent greeted) ≡ []
unfolding after story
nothing_left = refl

-- a debt was handed over: a CHECK goes out
abbrev offered : List Happening
offered = after options streaming (Offered debt)

offer_tells : outputs streaming offered ≡ SentLine 1 (codes "CHECK <x@y>") ∷ []
unfolding after story
offer_tells = refl

-- the peer wants the article, which is handed in: the command and its lines go out
abbrev checked : List Happening
checked = sent offered

abbrev wanted : List Happening
wanted = outside options checked (about 238)

wanted_tells : outputs checked wanted ≡ Need 1 7 ∷ []
unfolding after story
wanted_tells = refl

abbrev crlf : List ℕ
crlf = 13 ∷ 10 ∷ []

abbrev given : List Happening
given = after options wanted
    (HandedIn 7 (Sendable (codes "S: t" ++ crlf ++ crlf ++ codes "..b" ++ crlf ++ codes "." ++ crlf)))

article_tells : outputs wanted given ≡ SentLine 1 (codes "TAKETHIS <x@y>") ∷ SentLine 1 (codes "S: t") ∷ SentLine 1 []
    ∷ SentLine 1 (codes "..b") ∷ SentLine 1 (codes ".") ∷ []
unfolding after story
article_tells = refl

-- or there is no article, and the debt is dropped
lost_tells : outputs wanted (after options wanted (HandedIn 7 Gone)) ≡ Settled 1 7 (Dropped Missing) ∷ []
unfolding after story
lost_tells = refl

-- it was taken: the verdict goes to the peer at rank 2, and is reported
abbrev answered : List Happening
answered = outside options (sent given) (about 239)

answer_has : settle_events 2 1 60 (unsettled options (cxn answered))
    ≡ Settles 2 1 60 (Final (record { debt = debt; code = TakethisReceived })) ∷ []
unfolding after story
answer_has = refl

answer_tells : outputs (sent given) answered ≡ Settled 1 7 (Answered TakethisReceived) ∷ []
unfolding after story
answer_tells = refl

-- An outcome that is refused waits, and is the next to be settled, also after a tick; once it is settled none waits.
waits_on : outputs answered (outside options (waiting (cxn answered)).transcript (Tick 61))
    ≡ Settled 1 7 (Answered TakethisReceived) ∷ []
unfolding after story
waits_on = refl

none_waits : unsettled options (settled_out options (cxn answered)) ≡ []
unfolding after story
none_waits = refl

-- the peer defers it: it waits, or is dropped if the settings drop deferred debts
defer_tells : outputs checked (outside options checked (about 431)) ≡ Settled 1 7 (Later 120) ∷ []
unfolding after story
defer_tells = refl

drop_tells : exchange_views (record limits { drop_deferred = true }) options 1 60 checked
    (cxn (outside options checked (about 431))) ≡ Settled 1 7 (Dropped PutOff) ∷ []
unfolding after story
drop_tells = refl

-- the server ends the connection, or it breaks, or no answer comes: the debt is ready again, and the reason of the
-- close is reported
end_tells : outputs checked (outside options checked (line 400)) ≡ Settled 1 7 Ready ∷ Closed 1 (Ended 400) ∷ []
unfolding after story
end_tells = refl

break_tells : outputs checked (outside options checked Broke) ≡ Settled 1 7 Ready ∷ Closed 1 Broken ∷ []
unfolding after story
break_tells = refl

timeout_tells : outputs checked (outside options (outside options checked (Tick 60)) (Tick 360))
    ≡ Settled 1 7 Ready ∷ Closed 1 Timeout ∷ []
unfolding after story
timeout_tells = refl

-- once closed, it reports no more
abbrev closed : ConnPast
closed = followed_up options (cxn (outside options checked Broke))

closed_tells : exchange_views limits options 1 60 closed.transcript
    (with_transcript closed (outside options closed.transcript (about 238))) ≡ []
unfolding after story
closed_tells = refl

-- ---- steps of a world

module _ (conf : PeerConf) where
  abbrev tape : TapePast
  tape = record { history = begun_history; log = ([], []); faults = (0, 0); broken = false }

  abbrev past : Past
  past = record {
    peers = record { conf = record conf { name = codes "p" }; tape = tape; places = []; parted = true } ∷ [];
    intake = tape;
    last = 4;
    begun = None;
  }

  abbrev life : Life
  life = record { past = past; conns = []; connected = 3; now = 60; armed = None; running = true }

  -- a connection has the number after the last one that was made, and an empty transcript
  connect_takes : TakesConnect (codes "p") life (Connected 4 (codes "p") ∷ []) (record life {
    conns = (4, fresh_conn 0) ∷ [];
    connected = 4;
  })
  connect_takes = record { rank = 0; here = refl; fits = omega arith; outputs_are = refl; changed = refl }

  connect_refused : RefusesStep (Connect (codes "q")) life NoPeer life
  connect_refused = inl (inr (refl, (inl (refl, refl), refl)))

  hand_refused : RefusesStep (Hand 4) life NoConnection life
  hand_refused = inl (inr (refl, inl (refl, refl, refl)))
