-- Names that are no peers of a configuration.
use Rattle.std.specs.Prelude.{◌&&◌, ℕ, Bool, not, List, Option, None, Some, is_some, map}
use Rattle.std.specs.List.{find}
use Rattle.funnel.specs.Names.{is_peer_name}
use Rattle.feed_conf.specs.ConfView.{find_settings}
use Rattle.feed_conf.specs.Settings.{Outcome}
use Rattle.feed_ends.specs.declared.listing.Listing.{Listing}
use Rattle.feed_ends.specs.declared.listing.Scope.{Scope}
use Rattle.feed_ends.specs.declared.listing.Scope.TheVariants.{Peers, All}
use Rattle.cli.specs.declared.runner.Errand.{Errand}
use Rattle.cli.specs.declared.runner.Errand.TheVariants.{List as ListOwed, Feed}

-- the name is one of a peer of these settings
abbrev pub is_peer : Outcome → List ℕ → Bool
is_peer conf name = is_peer_name name && is_some (find_settings name conf.peers)

-- the first of these names that is no peer
abbrev pub first_stranger : Outcome → List (List ℕ) → Option (List ℕ)
first_stranger conf names = find (λ name. not (is_peer conf name)) names

-- the first name of a list of what is owed that is no peer; any name may be asked for in the list of all that waits
abbrev pub stranger_in : Scope → (names : List (List ℕ)) → Outcome → Option (List ℕ)
stranger_in Peers names conf = first_stranger conf names
stranger_in All names conf = None

-- the same, of what a list has
abbrev pub stranger_of : Listing → Outcome → Option (List ℕ)
stranger_of listing conf = stranger_in listing.scope (map (λ name. name.now) listing.names.items) conf

-- the same, of what an errand asks for: a feed asks for no names
abbrev pub stranger_of_errand : Errand → Outcome → Option (List ℕ)
stranger_of_errand (ListOwed listing verbose) conf = stranger_of listing conf
stranger_of_errand (Feed source drops_missing verbose) conf = None
