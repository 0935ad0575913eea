-- No number exceeds the greatest of its key (profile).
use Rattle.std.specs.Prelude.{ℕ, ◌≤◌, List, [], ◌∷◌}
use Rattle.feed_conf.specs.Keys.{row_of}
use Rattle.feed_conf.specs.Reading.{Use}
use Rattle.feed_conf.specs.Settings.{number}
use Rattle.feed_conf.specs.TableView.{IsTableOf}
use Rattle.feed_conf.specs.declared.key.Kind.{Kind}
use Rattle.feed_conf.specs.declared.key.Kind.TheVariants.{AnyText, ShortText, Switch, Connections, Number, Whole, Fraction}
use Rattle.feed_conf.specs.declared.table.Table.{Table}

-- the greatest number that a value of the kind is taken as; 0 for texts and booleans
abbrev pub greatest : Kind → ℕ
greatest AnyText = 0
greatest ShortText = 0
greatest Switch = 0
greatest Connections = 64
greatest (Number least most) = most
greatest (Whole least most) = most
greatest (Fraction least most) = most

-- the number of each use is at most the greatest of its key
abbrev pub AreBounded : List Use → Type 0
AreBounded [] = Unit {0}
AreBounded (entry ∷ uses) = (number entry.value ≤ greatest (row_of entry.key).kind) × AreBounded uses

-- the table holds only such numbers
abbrev pub HoldsBounded : Table → Type 0
HoldsBounded table = (uses : List Use) × IsTableOf table uses × AreBounded uses
