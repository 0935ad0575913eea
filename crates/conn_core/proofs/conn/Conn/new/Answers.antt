use Rattle.std.proofs.Common.{◌≡◌, arith}
use Rattle.std.proofs.lemmas.List.Elements.{All-nil}
use Rattle.conn_core.proofs.Calls.{fresh-call}
use Rattle.conn_core.proofs.conn.Conn.new.Goals as goal

pub returns-clause-ok : goal.returns-clause-ok
returns-clause-ok c = fresh-call c.args.options _ c.new.ensures.holds c.in_ok-new.ensures (record { line = All-nil (λ o. o ≡ 10 → ⊥); short = omega arith })
