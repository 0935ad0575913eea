use Rattle.std.proofs.Common.{inl, inr}
use Rattle.flusher.proofs.Moments.{hands_debt, hands_none, hands_read, hands_read_before, holds_no_key}
use Rattle.flusher.proofs.post.Post.claim.Goals as goal

pub returns-in-Nothing-clause-claims : goal.returns-in-Nothing-clause-claims
returns-in-Nothing-clause-claims g c =
    hands_none c.args.peer c.args.connection.0 c.args.now _ c.in-Nothing.is c.in_ok-claimed.ensures.claims

pub returns-in-Debt-clause-claims : goal.returns-in-Debt-clause-claims
returns-in-Debt-clause-claims g c =
    hands_debt c.args.peer c.args.connection.0 c.args.now _ c.in-Debt.debt c.in-Debt.is c.in_ok-claimed.ensures.claims

pub returns-in-ReadBefore-clause-claims : goal.returns-in-ReadBefore-clause-claims
returns-in-ReadBefore-clause-claims g c =
    hands_read_before c.args.peer c.args.connection.0 c.args.now _ c.in-ReadBefore.debt c.in-ReadBefore.is
    c.in_ok-claimed.ensures.claims

pub returns-in-Ok-clause-claims : goal.returns-in-Ok-clause-claims
returns-in-Ok-clause-claims g c =
    hands_read c.args.peer c.args.connection.0 c.args.now _ c.in-OnTape.key c.in-Ok.debt c.read-read.result
    c.in-OnTape.is c.read-read.ensures.key c.in-Ok.ensures.ok c.in_ok-claimed.ensures.claims

pub returns-in-Err-clause-given_back : goal.returns-in-Err-clause-given_back
returns-in-Err-clause-given_back g c =
    elim c.in-Err.ensures.given_back [
      | inl back ↦
          inl
          (holds_no_key c.args.peer c.args.connection.0 c.args.now _ c.in-OnTape.key c.in-OnTape.is
          c.in_ok-claimed.ensures.claims back.1)
      | inr stray ↦ inr stray
    ]
