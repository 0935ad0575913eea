-- No line so far is at fault.
use Rattle.std.proofs.Common.{◌≡◌, ◌+◌, map, drop}
use Rattle.login.specs.Accounts.{first_fault, lines_of}
use Rattle.login.proofs.accounts.check_accounts.Given as goal

abbrev pub invariant-loop-index : goal.invariant-loop-index
invariant-loop-index l =
    first_fault (l.index + 1) (map (λ line. line.now) (drop l.index l.lines.items)) ≡ first_fault 1 (lines_of l.text)
