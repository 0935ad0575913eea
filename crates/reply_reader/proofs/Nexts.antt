-- The answer of a call and the octets that wait: what each says of the other.
use Rattle.std.proofs.Common.{◌≡◌, ◌≢◌, ◌⊎◌, ℕ, Option, Some, None, Result, Ok, Err, List, [], ◌∷◌, ◌++◌, sym, ◌∙◌, ap}
use Rattle.std.proofs.Common.{refl, inl, inr, subst}
use Rattle.std.specs.Prelude.{◌↔◌, IfErr, IfSome}
use Rattle.std.proofs.lemmas.List.{append-nil}
use Rattle.funnel.specs.Stream.{IsUnended}
use Rattle.funnel.specs.StreamLaws.{first_line_once, whole_line_ends}
use Rattle.reply_reader.specs.Reply.{IsNoReply, IsReplyLine}
use Rattle.reply_reader.specs.Stream.{AtWork, BeginsWithNoReply, BeginsWithReply, Broken, Given, Held, IsFaulty, IsShort, IsTooLong, Reads, StandsFor, Working}
use Rattle.reply_reader.specs.Next.{GivesReply, NextIs, RefusesNext, given_of, given_by}
use Rattle.reply_reader.specs.declared.fault.ReplyFault.{ReplyFault}
use Rattle.reply_reader.specs.declared.fault.ReplyFault.TheVariants.{TooLong, NoCode, NoMemory, Failed}
use Rattle.reply_reader.specs.declared.line.Reply.{Reply}
use Rattle.reply_reader.specs.LengthLaws.{part-is-not-long, short-is-not-long}
use Rattle.reply_reader.specs.LineLaws.{line-apart}
use Rattle.reply_reader.proofs.Readings.{reads-reply}

-- octets that begin with a whole line do not wait for an LF
whole-is-no-part : (unread line rest : List ℕ) → unread ≡ line ++ 10 ∷ rest → IsShort unread → ⊥
whole-is-no-part unread line rest e part = whole_line_ends line rest (subst (λ o. IsUnended o) e part.line)

reply-is-no-part : (unread rest : List ℕ) (given : Given) → BeginsWithReply unread given rest → IsShort unread → ⊥
reply-is-no-part unread rest given (line, e, this) part = whole-is-no-part unread line rest e part

reply-is-not-long : (unread rest : List ℕ) (given : Given) → BeginsWithReply unread given rest → IsTooLong unread → ⊥
reply-is-not-long unread rest given (line, e, this) long = short-is-not-long unread line rest e this.0 long

no-reply-is-no-part : (unread : List ℕ) → BeginsWithNoReply unread → IsShort unread → ⊥
no-reply-is-no-part unread (line, rest, e, short, none) part = whole-is-no-part unread line rest e part

no-reply-is-not-long : (unread : List ℕ) → BeginsWithNoReply unread → IsTooLong unread → ⊥
no-reply-is-not-long unread (line, rest, e, short, none) long = short-is-not-long unread line rest e short long

reply-is-no-no-reply : (unread rest : List ℕ) (given : Given) → BeginsWithReply unread given rest → BeginsWithNoReply unread → ⊥
reply-is-no-no-reply unread rest given (line, e, this) (line', rest', f, short, none) =
    let cut = first_line_once line line' rest rest' this.0.line short.line (sym e ∙ f) in
    let reads : IsReplyLine line' given.code given.id given.text = subst (λ l. IsReplyLine l given.code given.id given.text) cut.0 this.1 in
    line-apart line' given.code given.id given.text reads none

module _ (unread rest : List ℕ) where
  none-from : (r : Result (Option Reply) ReplyFault) → NextIs unread rest r → IsShort unread → r ≡ Ok None
  none-from (Ok (Some reply)) n part = absurd (reply-is-no-part unread rest _ n part)
  none-from (Ok None) n part = refl
  none-from (Err TooLong) n part = absurd (part-is-not-long unread part n)
  none-from (Err NoCode) n part = absurd (no-reply-is-no-part unread n part)
  none-from (Err NoMemory) (same, given, behind, whole) part = absurd (reply-is-no-part unread behind given whole part)
  none-from (Err Failed) n part = absurd n

  -- the call returns none exactly if no whole line waits
  pub none-iff : (r : Result (Option Reply) ReplyFault) → NextIs unread rest r → (r ≡ Ok None) ↔ IsShort unread
  none-iff r n = (λ e. let m : NextIs unread rest (Ok None) = subst (λ s. NextIs unread rest s) e n in m.0, none-from r n)

  long-from : (r : Result (Option Reply) ReplyFault) → NextIs unread rest r → IsTooLong unread → r ≡ Err TooLong
  long-from (Ok (Some reply)) n long = absurd (reply-is-not-long unread rest _ n long)
  long-from (Ok None) n long = absurd (part-is-not-long unread n.0 long)
  long-from (Err TooLong) n long = refl
  long-from (Err NoCode) n long = absurd (no-reply-is-not-long unread n long)
  long-from (Err NoMemory) (same, given, behind, whole) long = absurd (reply-is-not-long unread behind given whole long)
  long-from (Err Failed) n long = absurd n

  -- the call returns that the first line is too long exactly if it is
  pub long-iff : (r : Result (Option Reply) ReplyFault) → NextIs unread rest r → (r ≡ Err TooLong) ↔ IsTooLong unread
  long-iff r n = (λ e. subst (λ s. NextIs unread rest s) e n, long-from r n)

  no-code-from : (r : Result (Option Reply) ReplyFault) → NextIs unread rest r → BeginsWithNoReply unread → r ≡ Err NoCode
  no-code-from (Ok (Some reply)) n none = absurd (reply-is-no-no-reply unread rest _ n none)
  no-code-from (Ok None) n none = absurd (no-reply-is-no-part unread none n.0)
  no-code-from (Err TooLong) n none = absurd (no-reply-is-not-long unread none n)
  no-code-from (Err NoCode) n none = refl
  no-code-from (Err NoMemory) (same, given, behind, whole) none = absurd (reply-is-no-no-reply unread behind given whole none)
  no-code-from (Err Failed) n none = absurd n

  -- the call returns that the first line has no code exactly if it has none
  pub no-code-iff : (r : Result (Option Reply) ReplyFault) → NextIs unread rest r → (r ≡ Err NoCode) ↔ BeginsWithNoReply unread
  no-code-iff r n = (λ e. subst (λ s. NextIs unread rest s) e n, no-code-from r n)

  -- a reader at work stands for what it gave
  pub gives-more : (next : Option Reply) → NextIs unread rest (Ok next) → (fed : List ℕ) (given : List Given) → Reads fed given unread → Reads fed (given ++ given_by (Ok next)) rest
  gives-more None n fed given r =
      subst (λ g. Reads fed g rest) (sym (append-nil given)) (subst (λ u. Reads fed given u) (sym n.1) r)
  gives-more (Some reply) n fed given r = reads-reply fed unread rest given (given_of reply) r n

  -- a fault that is returned is there
  pub final-fault : (fault : ReplyFault) → fault ≢ NoMemory → NextIs unread rest (Err fault) → IsFaulty unread
  final-fault TooLong other n = inl n
  final-fault NoCode other n = inr n
  final-fault NoMemory other n = absurd (other refl)
  final-fault Failed other n = absurd n

  pub breaks-at : (fault : ReplyFault) → fault ≢ NoMemory → NextIs unread rest (Err fault) → (fed : List ℕ) (given : List Given) → Reads fed given unread
      → StandsFor Broken fed (given ++ [])
  breaks-at fault other n fed given r =
      (unread, subst (λ g. Reads fed g unread) (sym (append-nil given)) r, final-fault fault other n)

-- the same for a reader that holds these octets
module _ (held : Held) (unread rest : List ℕ) (is : held ≡ Working unread) where
  pub at-none : (r : Result (Option Reply) ReplyFault) → NextIs unread rest r → (r ≡ Ok None) ↔ AtWork held IsShort
  at-none r n = subst (λ h. (r ≡ Ok None) ↔ AtWork h IsShort) (sym is) (none-iff unread rest r n)

  at-long : (r : Result (Option Reply) ReplyFault) → NextIs unread rest r → (r ≡ Err TooLong) ↔ AtWork held IsTooLong
  at-long r n = subst (λ h. (r ≡ Err TooLong) ↔ AtWork h IsTooLong) (sym is) (long-iff unread rest r n)

  at-no-code : (r : Result (Option Reply) ReplyFault) → NextIs unread rest r → (r ≡ Err NoCode) ↔ AtWork held BeginsWithNoReply
  at-no-code r n = subst (λ h. (r ≡ Err NoCode) ↔ AtWork h BeginsWithNoReply) (sym is) (no-code-iff unread rest r n)

  reads-of : (fed : List ℕ) (given : List Given) → StandsFor held fed given → Reads fed given unread
  reads-of fed given s = subst (λ h. StandsFor h fed given) is s

  pub at-given : (next : Option Reply) → NextIs unread rest (Ok next) → (fed : List ℕ) (given : List Given) → StandsFor held fed given → Reads fed (given ++ given_by (Ok next)) rest
  at-given next n fed given s = gives-more unread rest next n fed given (reads-of fed given s)

  pub at-broken : (fault : ReplyFault) → fault ≢ NoMemory → NextIs unread rest (Err fault) → (fed : List ℕ) (given : List Given) → StandsFor held fed given → StandsFor Broken fed (given ++ [])
  at-broken fault other n fed given s = breaks-at unread rest fault other n fed given (reads-of fed given s)

  -- a reply that is given was the first
  pub at-reply : (next : Option Reply) → NextIs unread rest (Ok next)
      → IfSome next (λ reply. GivesReply held (Working rest) (given_of reply))
  at-reply (Some reply) n = record { unread = unread; rest = rest; waited = is; begins = n; waits = refl }
  at-reply None n = tt

  at-memory : (r : Result (Option Reply) ReplyFault) → NextIs unread rest r → r ≡ Err NoMemory
      → AtWork held (λ waiting. (given : Given) × (behind : List ℕ) × BeginsWithReply waiting given behind)
  at-memory r n e =
      let memory : NextIs unread rest (Err NoMemory) = subst (λ s. NextIs unread rest s) e n in
      subst (λ h. AtWork h (λ waiting. (given : Given) × (behind : List ℕ) × BeginsWithReply waiting given behind)) (sym is)
      (memory.1, memory.2, memory.3)

  at-refuses : (r : Result (Option Reply) ReplyFault) (new : Held) → NextIs unread rest r → (r ≡ Err NoMemory → new ≡ held)
      → IfErr r (λ fault. fault ≢ NoMemory → new ≡ Broken) → RefusesNext held new r
  at-refuses r new n unchanged breaks = record {
    failed = (λ e. absurd (subst (λ s. NextIs unread rest s) e n), λ b. let e : Working unread ≡ Broken = sym is ∙ b in cc);
    too_long = at-long r n;
    no_code = at-no-code r n;
    no_memory = at-memory r n;
    unchanged = unchanged;
    breaks = breaks;
  }

  only-memory : (r : Result (Option Reply) ReplyFault) → IfErr r (λ fault. fault ≡ NoMemory)
      → IfErr r (λ fault. fault ≢ NoMemory → Working rest ≡ Broken)
  only-memory (Ok next) memory = tt
  only-memory (Err fault) memory = λ other. absurd (other memory)

  -- a call that returned no fault but want of memory
  pub at-works : (r : Result (Option Reply) ReplyFault) → NextIs unread rest r → IfErr r (λ fault. fault ≡ NoMemory)
      → RefusesNext held (Working rest) r
  at-works r n memory =
      at-refuses r (Working rest) n
      (λ e. let same : NextIs unread rest (Err NoMemory) = subst (λ s. NextIs unread rest s) e n in ap Working same.0 ∙ sym is)
      (only-memory r memory)

  -- a call that returned another fault
  pub at-fault : (fault : ReplyFault) → fault ≢ NoMemory → NextIs unread rest (Err fault) → RefusesNext held Broken (Err fault)
  at-fault fault other n =
      at-refuses (Err fault) Broken n (λ e. let memory : fault ≡ NoMemory = cc in absurd (other memory)) (λ o. refl)

-- a call that reads a whole line
module _ (unread line rest : List ℕ) (parts : unread ≡ line ++ 10 ∷ rest) (short : IsShort line) where
  pub line-fails : (fault : ReplyFault) → ((fault ≡ NoCode) ⊎ ((fault ≡ NoMemory) × ((code : ℕ) × (id : Option (List ℕ)) × (text : List ℕ) × IsReplyLine line code id text)))
      → (fault ≡ NoCode → IsNoReply line) → (same : List ℕ) → same ≡ unread → NextIs unread same (Err fault)
  line-fails fault (inl is) none same e = subst (λ f. NextIs unread same (Err f)) (sym is) (line, rest, parts, short, none is)
  line-fails fault (inr (is, (code, id, text, reads))) none same e =
      subst (λ f. NextIs unread same (Err f)) (sym is) (e, record { code = code; id = id; text = text }, rest, (line, parts, (short, reads)))
