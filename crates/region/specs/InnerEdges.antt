-- Inside the crate: edges from left to right, and the cells between them.
use Rattle.std.specs.Prelude.{◌≡◌, ℕ, ℤ, ◌<ℤ◌, ◌≤ℤ◌, pos, negsuc, List, [], ◌∷◌, ◌++◌, length, false, FitsSigned}
use Rattle.std.specs.Int.{w32}
use Rattle.region.specs.declared.cover.Cover.{Cover}
use Rattle.region.specs.declared.cover.Cover.TheVariants.{Cell, Pair'}
use Rattle.region.specs.InnerRow.{empty_row}
use Rattle.region.specs.InnerCover.{strip_of, covers, IsCover}

-- each edge is to the right of the one before, the first of them to the right of a column
abbrev pub IsRisingFrom : ℤ → List ℤ → Type 0
IsRisingFrom from [] = Unit {0}
IsRisingFrom from (e ∷ edges) = (from <ℤ e) × IsRisingFrom e edges

-- each edge is to the right of the one before
abbrev pub IsRising : List ℤ → Type 0
IsRising [] = Unit {0}
IsRising (e ∷ edges) = IsRisingFrom e edges

-- the right edges of the cells
abbrev pub right_edges : Cover → List ℤ
right_edges (Cell s) = s.to ∷ []
right_edges (Pair' s p l q r) = right_edges l ++ right_edges r

-- nothing is covered in any row
abbrev pub IsBare : Cover → Type 0
IsBare t = (y x : ℤ) → negsuc 2147483647 ≤ℤ y → covers t y x ≡ false

-- so many cells from an edge on, and the edges that are left
pub record IsBuilt (from : ℤ) (edges : List ℤ) (count : ℕ) (t : Cover) (rest : List ℤ) : Type 0 where
  pub edges_are : edges ≡ right_edges t ++ rest
  pub count_is : length (right_edges t) ≡ count
  pub size : (strip_of t).size ≡ count
  pub from_is : (strip_of t).from ≡ from
  pub from_fits : FitsSigned w32 (strip_of t).from
  pub to_fits : FitsSigned w32 (strip_of t).to
  pub rising : IsRisingFrom (strip_of t).to rest
  pub row : (strip_of t).row ≡ empty_row
  pub cover : IsCover (negsuc 2147483647) t
  pub steady : (strip_of t).steady ≡ pos 2147483647
  pub bare : IsBare t

-- all cells between edges
pub record IsOver (edges : List ℤ) (t : Cover) : Type 0 where
  pub edges_are : edges ≡ (strip_of t).from ∷ right_edges t
  pub from_fits : FitsSigned w32 (strip_of t).from
  pub to_fits : FitsSigned w32 (strip_of t).to
  pub cover : IsCover (negsuc 2147483647) t
  pub steady : (strip_of t).steady ≡ pos 2147483647
  pub bare : IsBare t
