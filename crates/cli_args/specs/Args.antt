-- What the arguments of the command line ask for (docs/MANUAL.md).
use Rattle.std.specs.Prelude.{◌≡◌, ◌⊎◌, List, [], ℕ, Bool, true, false, Option, None, Some, IsSome, IsNone, codes}
use Rattle.std.specs.Prelude.{map, option_map}
use Rattle.feed_ends.specs.declared.listing.Listing.{Listing}
use Rattle.feed_ends.specs.declared.listing.Scope.{Scope}
use Rattle.feed_ends.specs.declared.listing.Scope.TheVariants.{Peers, All}
use Rattle.feed_ends.specs.declared.source.Source.{Source}
use Rattle.feed_ends.specs.declared.source.Source.TheVariants.{Backlogs, Funnel}
use Rattle.cli.specs.declared.order.Order.{Order}
use Rattle.cli.specs.declared.order.Order.TheVariants.{DrillFromInput, Drill, Check, PrintConf, Owed, Feed}
use Rattle.cli.specs.declared.order.Order.TheVariants.{Print, Mistake}
use Rattle.cli_args.specs.declared.args.Given.{Given}

-- A source is given for a feed: `-x` without `--follow` and `--tidy`, or a funnel without `-x`.
abbrev pub HasSource : Given → Type 0
HasSource given = ((given.backlog ≡ true) × (given.follow ≡ false) × (given.tidy ≡ false))
    ⊎ ((given.backlog ≡ false) × IsSome given.funnel)

-- What says how much a list has, `--all`, `--peer` and `--summary`, is given only beside `--owed`.
abbrev pub ListingFits : Given → Type 0
ListingFits given = (given.owed ≡ true)
    ⊎ ((given.all ≡ false) × IsNone given.names × (given.summary ≡ false))

-- something is given besides `-c FILE`, `--drill FILE`, `--print-conf` and `-v`
abbrev pub HasOther : Given → Type 0
HasOther given = (given.log_time ≡ true) ⊎ (given.follow ≡ true) ⊎ (given.tidy ≡ true) ⊎ (given.expired ≡ true)
    ⊎ (given.check ≡ true) ⊎ (given.owed ≡ true) ⊎ (given.all ≡ true) ⊎ IsSome given.names ⊎ (given.summary ≡ true)
    ⊎ (given.backlog ≡ true) ⊎ IsSome given.funnel

-- something is given besides `-c FILE` and `--drill FILE`
abbrev pub HasMore : Given → Type 0
HasMore given = (given.verbose ≡ true) ⊎ (given.print_conf ≡ true) ⊎ HasOther given

-- something is asked for on a configuration: `--print-conf`, alone or with `-v`, or without it one of the others
abbrev pub HasOrder : Given → Type 0
HasOrder given = ((given.print_conf ≡ true) × (HasOther given → ⊥))
    ⊎ ((given.print_conf ≡ false) × ListingFits given
    × ((given.check ≡ true) ⊎ (given.owed ≡ true) ⊎ HasSource given))

-- A drill's file, and nothing else.
abbrev pub AsksDrill : List ℕ → Given → Type 0
AsksDrill path given =
    (option_map (λ file. file.now) given.drill ≡ Some path) × IsNone given.config × (HasMore given → ⊥)

-- `--print-conf` stands alone, or with `-v`, by which a bad configuration is explained.
abbrev pub AsksPrintConf : Bool → Given → Type 0
AsksPrintConf verbose given = (given.print_conf ≡ true) × (verbose ≡ given.verbose) × (HasOther given → ⊥)

-- `-C` wins over all others; with `-v` its result is explained.
abbrev pub AsksCheck : Bool → Given → Type 0
AsksCheck verbose given =
    (given.print_conf ≡ false) × (given.check ≡ true) × (verbose ≡ given.verbose) × ListingFits given

-- the names that are given, each by one `--peer`
abbrev pub names_in : Option (List (List ℕ)) → List (List ℕ)
names_in None = []
names_in (Some names) = names

-- whose articles a list has, by `--all`
abbrev pub scope_by : Bool → Scope
scope_by true = All
scope_by false = Peers

-- a list of all that waits with `--all`, of these names with `--peer`, and in short with `--summary`
abbrev pub AsksListing : Listing → Given → Type 0
AsksListing listing given = (listing.scope ≡ scope_by given.all)
    × (map (λ name. name.now) listing.names.items
    ≡ names_in (option_map (λ names. map (λ name. name.now) names.now) given.names))
    × (listing.is_summary ≡ given.summary)

-- Otherwise `--owed` wins; with `-v` a bad configuration is explained.
abbrev pub AsksOwed : Listing → Bool → Given → Type 0
AsksOwed listing verbose given = (given.print_conf ≡ false) × (given.check ≡ false) × (given.owed ≡ true)
    × (verbose ≡ given.verbose) × AsksListing listing given

-- from the backlogs only with `-x`, otherwise from the funnel, which is followed with `--follow` and tidied with
-- `--tidy`
abbrev pub AsksSource : Source → Given → Type 0
AsksSource Backlogs given = (given.backlog ≡ true) × (given.follow ≡ false) × (given.tidy ≡ false)
AsksSource (Funnel path followed tidied) given = (given.backlog ≡ false) × (followed ≡ given.follow)
    × (tidied ≡ given.tidy) × (option_map (λ file. file.now) given.funnel ≡ Some path.now)

-- Otherwise the peers are fed, with `--expired` every missing article is dropped, and with `-v` that is logged.
abbrev pub AsksFeed : Source → (drops_missing verbose : Bool) → Given → Type 0
AsksFeed source drops_missing verbose given = (given.print_conf ≡ false) × (given.check ≡ false)
    × (given.owed ≡ false) × ListingFits given × (drops_missing ≡ given.expired) × (verbose ≡ given.verbose)
    × AsksSource source given

-- What is asked for on the configuration at this path, if it can only be a feed.
abbrev pub AsksSourceOf : List ℕ → Given → Order → Type 0
AsksSourceOf conf given DrillFromInput = ⊥
AsksSourceOf conf given (Drill path) = ⊥
AsksSourceOf conf given (Check path verbose) = ⊥
AsksSourceOf conf given (PrintConf path verbose) = ⊥
AsksSourceOf conf given (Owed path listing verbose) = ⊥
AsksSourceOf conf given (Feed path source drops_missing verbose) = (path.now ≡ conf)
    × (drops_missing ≡ given.expired) × (verbose ≡ given.verbose) × AsksSource source given
AsksSourceOf conf given (Print text) = ⊥
AsksSourceOf conf given (Mistake what) = HasSource given → ⊥

-- What is asked for on the configuration at this path.
abbrev pub AsksOf : List ℕ → Given → Order → Type 0
AsksOf conf given DrillFromInput = ⊥
AsksOf conf given (Drill path) = ⊥
AsksOf conf given (Check path verbose) = (path.now ≡ conf) × AsksCheck verbose given
AsksOf conf given (PrintConf path verbose) = (path.now ≡ conf) × AsksPrintConf verbose given
AsksOf conf given (Owed path listing verbose) = (path.now ≡ conf) × AsksOwed listing verbose given
AsksOf conf given (Feed path source drops_missing verbose) =
    (path.now ≡ conf) × AsksFeed source drops_missing verbose given
AsksOf conf given (Print text) = ⊥
AsksOf conf given (Mistake what) = HasOrder given → ⊥

-- What is asked for: a drill, or something on a configuration. Anything else is a mistake.
abbrev pub Asks : Given → Order → Type 0
Asks given DrillFromInput = ⊥
Asks given (Drill path) = AsksDrill path.now given
Asks given (Check path verbose) = (option_map (λ file. file.now) given.config ≡ Some path.now) × IsNone given.drill
    × AsksCheck verbose given
Asks given (PrintConf path verbose) = (option_map (λ file. file.now) given.config ≡ Some path.now)
    × IsNone given.drill × AsksPrintConf verbose given
Asks given (Owed path listing verbose) = (option_map (λ file. file.now) given.config ≡ Some path.now)
    × IsNone given.drill × AsksOwed listing verbose given
Asks given (Feed path source drops_missing verbose) = (option_map (λ file. file.now) given.config ≡ Some path.now)
    × IsNone given.drill × AsksFeed source drops_missing verbose given
Asks given (Print text) = ⊥
Asks given (Mistake what) = (IsSome given.drill × (IsSome given.config ⊎ HasMore given))
    ⊎ (IsNone given.drill × IsNone given.config)
    ⊎ (IsNone given.drill × IsSome given.config × (HasOrder given → ⊥))

-- a text is to be printed
abbrev pub IsPrinted : Order → Type 0
IsPrinted DrillFromInput = ⊥
IsPrinted (Drill path) = ⊥
IsPrinted (Check path verbose) = ⊥
IsPrinted (PrintConf path verbose) = ⊥
IsPrinted (Owed path listing verbose) = ⊥
IsPrinted (Feed path source drops_missing verbose) = ⊥
IsPrinted (Print text) = Unit {0}
IsPrinted (Mistake what) = ⊥

-- the arguments are wrong
abbrev pub IsMistaken : Order → Type 0
IsMistaken DrillFromInput = ⊥
IsMistaken (Drill path) = ⊥
IsMistaken (Check path verbose) = ⊥
IsMistaken (PrintConf path verbose) = ⊥
IsMistaken (Owed path listing verbose) = ⊥
IsMistaken (Feed path source drops_missing verbose) = ⊥
IsMistaken (Print text) = ⊥
IsMistaken (Mistake what) = Unit {0}

-- whether a flag is given, by the text that `clap` gives it
abbrev pub IsFlag : Option (List ℕ) → Bool → Type 0
IsFlag None stands = stands ≡ false
IsFlag (Some text) stands = (text ≡ codes "true" → stands ≡ true) × (text ≡ codes "false" → stands ≡ false)
