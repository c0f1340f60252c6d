-- Sets of columns by steps.
use Rattle.std.specs.Prelude.{◌≡◌, ℤ, List, Bool, false}
use Rattle.region.specs.Steps.{Step}
use Rattle.region.specs.Steps.{value_at, final_value, IsReduced}

-- from a place on, whether the columns are in the set
abbrev pub Columns : Type 0
Columns = List (Step Bool)

-- a column is in the set
abbrev pub has_column : Columns → ℤ → Bool
has_column columns x = value_at false columns x

-- one value for all columns
abbrev pub column : Bool → ℤ → Bool
column b x = b

-- steps that give finitely many columns
pub record HasColumns (steps : List (Step Bool)) : Type 0 where
  pub reduced : IsReduced column false steps
  pub ends : final_value false steps ≡ false
