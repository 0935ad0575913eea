-- What holds of every transcript: only commands that were put out are answered, an article is handed in only if one
-- was wanted, and only debts that were accepted come out.
use Rattle.std.proofs.Common.{◌≡◌, ℕ, ◌<◌, ◌≤◌, Bool, true, false, List, [], ◌∷◌, ◌++◌, length, refl, ap, arith, find}
use Rattle.std.proofs.Common.{Option, Some, None, length-append}
use Rattle.std.specs.Prelude.{if◌then◌else◌}
use Rattle.std.proofs.lemmas.Bool.{ne_eqb}
use Rattle.reply_reader.specs.Stream.{Given}
use Rattle.ledger_core.specs.State.{Owing}
use Rattle.conn_core.specs.Codes.{meaning}
use Rattle.conn_core.specs.Used.{with_ticket}
use Rattle.conn_core.specs.Commands.{Ask, Held, Want, Handing, is_at, is_of, held_for, fits_ask, belongs_to}
use Rattle.conn_core.specs.Commands.{outcome_by, loss_of, want_of}
use Rattle.conn_core.specs.History.{Event, Offered, Put, Came, Faulted, Handed, Sent, Tick, Broke, Leave, Taken}
use Rattle.conn_core.specs.History.{accepted, asks, ask_in, answered, answered_now, answered_ask, phase, closes}
use Rattle.conn_core.specs.History.{story, Story, ends, held, End, ended_tickets, end_of, ends_by_meaning}
use Rattle.conn_core.specs.History.{ends_by_answer, ends_by_loss, held_wanting, ends_at_close, wants_by_answer}
use Rattle.conn_core.specs.History.{wants_at_once, newcomer}
use Rattle.conn_core.specs.declared.phase.Phase.{Phase}
use Rattle.conn_core.specs.declared.phase.Phase.TheVariants.{Greeting, Asking, Streaming, OneByOne, Leaving}
use Rattle.conn_core.specs.declared.options.Options.{Options}
use Rattle.conn_core.specs.declared.reason.Reason.{Reason}
use Rattle.conn_core.specs.declared.outcome.Outcome.{Outcome}
use Rattle.conn_core.specs.declared.codes.Meaning.{Meaning}
use Rattle.conn_core.specs.UsedLaws.{AllBelow, AllBelow-with_ticket}
use Rattle.conn_core.specs.HeldLaws.{AllBelow-append, find-below, held_from-below, tickets, ended_tickets-backs}

AllBelow-more : (xs : List ℕ) (m n : ℕ) → m ≤ n → AllBelow xs m → AllBelow xs n
AllBelow-more xs m n h below k q = below k (omega arith)

answered_now-below : (p : Phase) (reply : Given) (done : List ℕ) (sent : List Ask) → AllBelow done (length sent)
    → AllBelow (with_ticket (answered_now p reply done sent) done) (length sent)
answered_now-below Greeting reply done sent below = below
answered_now-below Asking reply done sent below = below
answered_now-below Streaming reply done sent below = AllBelow-with_ticket (fits_ask reply) done sent _ refl below
answered_now-below OneByOne reply done sent below = AllBelow-with_ticket (belongs_to reply) done sent _ refl below
answered_now-below Leaving reply done sent below = below

pub ended_tickets-append : (xs ys : List End) → ended_tickets (xs ++ ys) ≡ ended_tickets xs ++ ended_tickets ys
ended_tickets-append [] ys = refl
ended_tickets-append (x ∷ xs) ys = ap (λ ps. x.ticket ∷ ps) (ended_tickets-append xs ys)

end_of-below : (x : Held) (outcomes : List Outcome) (m : ℕ) → x.ticket < m
    → AllBelow (ended_tickets (end_of x outcomes)) m
end_of-below x [] m h = λ k q. refl
end_of-below x (o ∷ outcomes) m h = λ k q. rw (ne_eqb x.ticket k (λ e. omega arith)) (end_of-below x outcomes m h k q)

by_meaning-below : (held : List Held) (m : Option Meaning) (ticket n : ℕ) (o : Option Held)
    → find (is_at ticket) held ≡ o
    → AllBelow (tickets held) n → AllBelow (ended_tickets (ends_by_meaning m o)) n
by_meaning-below held m ticket n None e below = λ k q. refl
by_meaning-below held None ticket n (Some x) e below = λ k q. refl
by_meaning-below held (Some m) ticket n (Some x) e below = end_of-below x (outcome_by m x.debt) n (find-below ticket held x n below e)

by_answer-below : (hs : List Held) (code : ℕ) (o : Option (ℕ × Ask)) (n : ℕ) → AllBelow (tickets hs) n
    → AllBelow (ended_tickets (ends_by_answer hs code o)) n
by_answer-below held code None n below = λ k q. refl
by_answer-below held code (Some found) n below = by_meaning-below held (meaning found.1.verb code) found.1.ticket n _ refl below

at_close-below : (o : Option Reason) (held : List Held) (n : ℕ) → AllBelow (tickets held) n
    → AllBelow (ended_tickets (ends_at_close o held)) n
at_close-below None held n below = λ k q. refl
at_close-below (Some reason) held n below = λ k q. rw (ended_tickets-backs held) (below k q)

loss-below : (handing : Handing) (held : List Held) (ticket n : ℕ) (o : Option Held) → find (is_at ticket) held ≡ o
    → AllBelow (tickets held) n → AllBelow (ended_tickets (ends_by_loss handing o)) n
loss-below handing held ticket n None e below = λ k q. refl
loss-below handing held ticket n (Some x) e below = end_of-below x (loss_of handing x.debt) n (find-below ticket held x n below e)

by_loss-below : (handing : Handing) (held : List Held) (o : Option Want) (n : ℕ) → AllBelow (tickets held) n
    → AllBelow (ended_tickets (ends_by_loss handing (held_for held o))) n
by_loss-below handing held None n below = λ k q. refl
by_loss-below handing held (Some want) n below = loss-below handing held want.ticket n _ refl below

-- one more want
wants-step : (b : Bool) (story : Story) (want : Want) → AllBelow story.handed (length story.wants)
    → AllBelow (if b then record story { wants = story.wants ++ want ∷ [] } else story).handed (length (if b then record story { wants = story.wants ++ want ∷ [] } else story).wants)
wants-step true story want below = AllBelow-more _ _ _ (omega (arith, length-append story.wants (want ∷ []))) below
wants-step false story want below = below

ends-step : (b : Bool) (story : Story) (wants : List Want) → (if b then record story { wants = wants } else story).ends ≡ story.ends
ends-step true story wants = refl
ends-step false story wants = refl

module _ (options : Options) where
  -- only commands that were put out are answered
  pub answered_below : (h : List Event) → AllBelow (answered options h) (length (asks h))
  answered_below [] = λ k q. refl
  answered_below (Came reply ∷ h) = answered_now-below (phase options h) reply (answered options h) (asks h) (answered_below h)
  answered_below (Put command ∷ h) = AllBelow-more _ _ _ (omega (arith, length-append (asks h) (ask_in command))) (answered_below h)
  answered_below (Offered debt ∷ h) = answered_below h
  answered_below (Faulted fault ∷ h) = answered_below h
  answered_below (Handed number handing ∷ h) = answered_below h
  answered_below (Sent count ∷ h) = answered_below h
  answered_below (Tick now ∷ h) = answered_below h
  answered_below (Broke ∷ h) = answered_below h
  answered_below (Leave ∷ h) = answered_below h
  answered_below (Taken ∷ h) = answered_below h

  -- a debt that is accepted ends nothing
  pub ends-offered : (h : List Event) (debt : Owing) → ends options (Offered debt ∷ h) ≡ ends options h
  unfolding story
  ends-offered h debt = ends-step (wants_at_once options h) (story options h) _

  -- an article is handed in only if one was wanted
  pub handed_below : (h : List Event) → AllBelow (story options h).handed (length (story options h).wants)
  unfolding story
  handed_below [] = λ k q. refl
  handed_below (Came reply ∷ h) =
      AllBelow-more _ _ _ (omega (arith, length-append (story options h).wants (wants_by_answer (held options h) reply.code (answered_ask options h reply)))) (handed_below h)
  handed_below (Put command ∷ h) = handed_below h
  handed_below (Offered debt ∷ h) = wants-step (wants_at_once options h) (story options h) (want_of (newcomer h debt)) (handed_below h)
  handed_below (Faulted fault ∷ h) = handed_below h
  handed_below (Handed number handing ∷ h) = AllBelow-with_ticket (is_of number) (story options h).handed (story options h).wants _ refl (handed_below h)
  handed_below (Sent count ∷ h) = handed_below h
  handed_below (Tick now ∷ h) = handed_below h
  handed_below (Broke ∷ h) = handed_below h
  handed_below (Leave ∷ h) = handed_below h
  handed_below (Taken ∷ h) = handed_below h

  pub tickets-below : (h : List Event) → AllBelow (tickets (held options h)) (length (accepted h))
  tickets-below h = held_from-below (ended_tickets (ends options h)) 0 (accepted h) (length (accepted h)) (omega arith)

  -- those that end at a close are below too
  closed-below : (h : List Event) (e : Event) → AllBelow (ended_tickets (ends options h)) (length (accepted h))
      → AllBelow (ended_tickets (ends options h ++ ends_at_close (closes options h e) (held options h))) (length (accepted h))
  closed-below h e below = λ k q.
      rw (ended_tickets-append (ends options h) (ends_at_close (closes options h e) (held options h)))
      (AllBelow-append _ _ _ below (at_close-below (closes options h e) _ _ (tickets-below h)) k q)

  -- only debts that were accepted come out
  pub ends_below : (h : List Event) → AllBelow (ended_tickets (ends options h)) (length (accepted h))
  unfolding story
  ends_below [] = λ k q. refl
  ends_below (Came reply ∷ h) = λ k q.
      let below = tickets-below h in
      let by = ends_by_answer (held options h) reply.code (answered_ask options h reply) in
      let at = ends_at_close (closes options h (Came reply)) (held options h) in
      rw (ended_tickets-append (ends options h ++ by) at, ended_tickets-append (ends options h) by)
      (AllBelow-append _ _ _ (AllBelow-append _ _ _ (ends_below h) (by_answer-below _ reply.code (answered_ask options h reply) _ below)) (at_close-below (closes options h (Came reply)) _ _ below) k q)
  ends_below (Handed number handing ∷ h) = λ k q.
      let by = ends_by_loss handing (held_wanting h (story options h) number) in
      rw (ended_tickets-append (ends options h) by) (AllBelow-append _ _ _ (ends_below h) (by_loss-below handing _ _ _ (tickets-below h)) k q)
  ends_below (Offered debt ∷ h) = λ k q.
      rw (ends-offered h debt) (AllBelow-more _ _ _ (omega (arith, length-append (accepted h) (debt ∷ []))) (ends_below h) k q)
  ends_below (Faulted fault ∷ h) = closed-below h (Faulted fault) (ends_below h)
  ends_below (Tick now ∷ h) = closed-below h (Tick now) (ends_below h)
  ends_below (Broke ∷ h) = closed-below h Broke (ends_below h)
  ends_below (Put command ∷ h) = ends_below h
  ends_below (Sent count ∷ h) = ends_below h
  ends_below (Leave ∷ h) = ends_below h
  ends_below (Taken ∷ h) = ends_below h
