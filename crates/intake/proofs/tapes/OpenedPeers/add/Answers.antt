use Rattle.std.proofs.Common.{inr, refl, rules}
use Rattle.intake.proofs.tapes.OpenedPeers.add.Goals as goal

pub returns-in_ok-push-in-Err-clause-added : goal.returns-in_ok-push-in-Err-clause-added
returns-in_ok-push-in-Err-clause-added c =
    inr (
      record { conf = c.args.conf; error = c.in-Err.error },
      search (rules, c.if-leaves_out.true),
      refl,
      search c.in_ok-push-in-Err.ensures.items,
      refl,
    )
