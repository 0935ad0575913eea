-- What the answers of a reader say, and what a call makes of it.
use Rattle.std.specs.Prelude.{◌≡◌, ◌≢◌, ◌↔◌, ℕ, Option, Some, None, Result, Ok, Err, List, [], ◌∷◌, IfErr, IsErrOf}
use Rattle.reply_reader.specs.Stream.{AtWork, BeginsWithNoReply, BeginsWithReply, Broken, Given, Held, IsShort}
use Rattle.reply_reader.specs.Stream.{IsTooLong, Working}
use Rattle.reply_reader.specs.declared.fault.ReplyFault.{ReplyFault}
use Rattle.reply_reader.specs.declared.fault.ReplyFault.TheVariants.{TooLong, NoCode, NoMemory, Failed}
use Rattle.reply_reader.specs.declared.line.Reply.{Reply}

-- the content of a reply
abbrev pub given_of : Reply → Given
given_of reply = record { code = reply.code; id = reply.id; text = reply.text.items }

-- what the answer of one call adds to the replies given
abbrev pub given_by : Result (Option Reply) ReplyFault → List Given
given_by (Ok (Some reply)) = given_of reply ∷ []
given_by (Ok None) = []
given_by (Err fault) = []

-- what a call returns while these octets wait, and which of them wait afterwards
abbrev pub NextIs : List ℕ → List ℕ → Result (Option Reply) ReplyFault → Type 0
NextIs unread rest (Ok (Some reply)) = BeginsWithReply unread (given_of reply) rest
NextIs unread rest (Ok None) = IsShort unread × (rest ≡ unread)
NextIs unread rest (Err TooLong) = IsTooLong unread
NextIs unread rest (Err NoCode) = BeginsWithNoReply unread
NextIs unread rest (Err NoMemory) =
    (rest ≡ unread) × (given : Given) × (behind : List ℕ) × BeginsWithReply unread given behind
NextIs unread rest (Err Failed) = ⊥

-- The reply was the first of the octets that waited, and the rest after its line waits now.
pub record GivesReply (old new : Held) (given : Given) : Type 0 where
  pub unread : List ℕ
  pub rest : List ℕ
  pub waited : old ≡ Working unread
  pub begins : BeginsWithReply unread given rest
  pub waits : new ≡ Working rest

-- When the next reply is refused, in the order in which the faults are tested, and what a refusal leaves.
pub record RefusesNext (old new : Held) (result : Result (Option Reply) ReplyFault) : Type 0 where
  pub failed : IsErrOf result Failed ↔ (old ≡ Broken)
  pub too_long : IsErrOf result TooLong ↔ AtWork old IsTooLong
  pub no_code : IsErrOf result NoCode ↔ AtWork old BeginsWithNoReply
  -- memory is refused only for a reply, and its line stays unread
  pub no_memory : IsErrOf result NoMemory
      → AtWork old (λ unread. (given : Given) × (rest : List ℕ) × BeginsWithReply unread given rest)
  pub unchanged : IsErrOf result NoMemory → new ≡ old
  -- every other fault is final
  pub breaks : IfErr result (λ fault. fault ≢ NoMemory → new ≡ Broken)
