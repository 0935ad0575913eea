-- One connection each.
use Rattle.std.specs.Prelude.{◌≡◌, ◌+◌, ◌≤◌, ℕ, List, [], ◌∷◌, length, min, sum_by}
use Rattle.std.proofs.Common.{arith, lit≤}
use Rattle.std.proofs.lemmas.List.Sums.{sum_by-cons}
use Rattle.std.proofs.Math.Nat.{min-le_right}
use Rattle.feed_conf.specs.declared.conf.PeerConf.{PeerConf}
use Rattle.intake.specs.OpenFiles.{connections_at}

pub one_each : (peers : List PeerConf) → connections_at 1 peers ≤ length peers
one_each [] = lit≤ tt
one_each (peer ∷ peers) =
    let e = sum_by-cons (λ one. min one.max_connections 1) peer peers in
    let h = one_each peers in
    let m = min-le_right peer.max_connections 1 in
    omega (arith, e, h, m)
