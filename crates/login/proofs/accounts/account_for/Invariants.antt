-- No line so far has an account for the host.
use Rattle.std.proofs.Common.{◌≡◌, map, drop}
use Rattle.login.specs.Accounts.{first_entry, lines_of}
use Rattle.login.proofs.accounts.account_for.Given as goal

abbrev pub invariant-loop-index : goal.invariant-loop-index
invariant-loop-index l =
    first_entry l.host (map (λ line. line.now) (drop l.index l.lines.items)) ≡ first_entry l.host (lines_of l.text)
