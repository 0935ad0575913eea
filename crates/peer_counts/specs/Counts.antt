-- What became of debts, counted (profile).
use Rattle.std.specs.Prelude.{ℕ, ◌+◌, ◌-◌, ◌^◌, min}
use Rattle.peer_counts.specs.declared.counts.PeerCounts.{PeerCounts}

-- two counts together, of which none goes beyond the greatest u64
abbrev pub plus : ℕ → ℕ → ℕ
plus a b = min (a + b) (2 ^ 64 - 1)

-- nothing was counted
abbrev pub no_counts : PeerCounts
no_counts = record {
  offered = 0;
  accepted = 0;
  refused = 0;
  rejected = 0;
  deferred = 0;
  missing = 0;
  unsendable = 0;
  sent_octets = 0;
  made = 0;
}

-- these counts and those
abbrev pub sum_of : PeerCounts → PeerCounts → PeerCounts
sum_of a b = record {
  offered = plus a.offered b.offered;
  accepted = plus a.accepted b.accepted;
  refused = plus a.refused b.refused;
  rejected = plus a.rejected b.rejected;
  deferred = plus a.deferred b.deferred;
  missing = plus a.missing b.missing;
  unsendable = plus a.unsendable b.unsendable;
  sent_octets = plus a.sent_octets b.sent_octets;
  made = plus a.made b.made;
}
