-- Inside the crate: how far a sweep over two sets has come.
use Rattle.std.specs.Prelude.{◌≡◌, ℤ, ◌+ℤ◌, ◌<ℤ◌, ◌≤ℤ◌, pos, List, [], ◌∷◌, ◌++◌, ◌⊎◌, Bool, false, Option, Some, None}
use Rattle.std.specs.Int.{int_min, int_max}
use Rattle.region.specs.Steps.{Step, value_at, final_value, AllValid, IsReduced, Same}
use Rattle.region.specs.InnerSteps.{EndsBefore, IsOrdered, AllFit}
use Rattle.region.specs.declared.operation.Operation.{Operation}
use Rattle.region.specs.Operation.{holds_after}

-- an operand gives the result of an operation where it is so, whatever the other one is
abbrev pub Decides : (Bool → Bool → Bool) → Bool → Type 0
Decides op a = (b c : Bool) → op a b ≡ op a c

abbrev pub LeftDecides : Operation → Bool → Type 0
LeftDecides operation = Decides (holds_after operation)

abbrev pub RightDecides : Operation → Bool → Type 0
RightDecides operation = Decides (λ b a. holds_after operation a b)

-- what decides the result, for each operand that can
pub record AreDeciders (op : Bool → Bool → Bool) (left right : Option Bool) : Type 0 where
  pub by_left : (a : Bool) → left ≡ Some a → Decides op a
  pub by_right : (b : Bool) → right ≡ Some b → Decides (λ b a. op a b) b

-- an operation on two sets, point by point
abbrev pub both : (Bool → Bool → Bool) → (ℤ → ℤ → Bool) → (ℤ → ℤ → Bool) → ℤ → ℤ → Bool
both op a b z x = op (a z x) (b z x)

-- the same on the columns of one place
abbrev pub both_now : (Bool → Bool → Bool) → (ℤ → Bool) → (ℤ → Bool) → ℤ → Bool
both_now op a b x = op (a x) (b x)

-- the first of two places, where there is one
abbrev pub sooner : Option ℤ → Option ℤ → Option ℤ
sooner None b = b
sooner (Some a) None = Some a
sooner (Some a) (Some b) = Some (int_min a b)

-- the last of two places, where both are
abbrev pub later : Option ℤ → Option ℤ → Option ℤ
later None b = None
later (Some a) None = None
later (Some a) (Some b) = Some (int_max a b)

-- a place is reached at another or before it
abbrev pub IsReached : ℤ → Option ℤ → Type 0
IsReached n None = ⊥
IsReached n (Some m) = m ≤ℤ n

-- the steps of a set: they are in order, and each changes the columns
pub record AreStepsOf {V : Type 0} (holds : V → ℤ → Bool) (valid : V → Type 0) (empty : V) (set : ℤ → ℤ → Bool) (steps : List (Step V)) : Type 0 where
  pub points : (x y : ℤ) → holds (value_at empty steps y) x ≡ set y x
  pub reduced : IsReduced holds empty steps
  pub values : AllValid valid steps
  pub fits : AllFit steps
  pub final : (x : ℤ) → holds (final_value empty steps) x ≡ false

-- a step can be put after these at a place
pub record CanTake {V : Type 0} (valid : V → Type 0) (place : ℤ) (steps : List (Step V)) : Type 0 where
  pub ordered : IsOrdered steps
  pub values : AllValid valid steps
  pub fits : AllFit steps
  pub before : EndsBefore place steps

-- these columns were put from a place on: by a step, where they are not the last ones
pub record IsPut {V : Type 0} (holds : V → ℤ → Bool) (valid : V → Type 0) (empty : V) (columns : ℤ → Bool) (place : ℤ) (steps more : List (Step V)) : Type 0 where
  pub value : V
  pub is_valid : valid value
  pub holds_columns : (x : ℤ) → holds value x ≡ columns x
  pub put : (Same holds value (final_value empty steps) × (more ≡ steps))
      ⊎ ((¬ Same holds value (final_value empty steps)) × (more ≡ steps ++ record { from = place; value = value } ∷ []))

-- the steps so far have all rows before a place, and what is left of both sets has the others
pub record IsSwept {V : Type 0} (holds : V → ℤ → Bool) (valid : V → Type 0) (empty : V) (op : Bool → Bool → Bool) (a b rest_a rest_b : ℤ → ℤ → Bool)
    (now_a now_b : ℤ → Bool) (place : ℤ) (steps : List (Step V)) : Type 0 where
  pub done : (x y : ℤ) → y <ℤ place → holds (value_at empty steps y) x ≡ both op a b y x
  pub now : (x : ℤ) → holds (final_value empty steps) x ≡ both_now op now_a now_b x
  pub left : (x y : ℤ) → place ≤ℤ y → rest_a y x ≡ a y x
  pub right : (x y : ℤ) → place ≤ℤ y → rest_b y x ≡ b y x
  pub reduced : IsReduced holds empty steps
  pub values : AllValid valid steps
  pub fits : AllFit steps
  pub before : EndsBefore (place +ℤ pos 1) steps

-- a sweep as it stands at a place
pub record Sweeps {C V O : Type 0} (set : C → ℤ → ℤ → Bool) (now : C → ℤ → Bool) (is_at : ℤ → C → Type 0) (has : O → List (Step V) → Type 0)
    (holds : V → ℤ → Bool) (valid : V → Type 0) (empty : V) (op : Bool → Bool → Bool) (a b left right : C) (out : O) : Type 0 where
  pub place : ℤ
  pub steps : List (Step V)
  pub put : has out steps
  pub left_at : is_at place left
  pub right_at : is_at place right
  pub swept : IsSwept holds valid empty op (set a) (set b) (set left) (set right) (now left) (now right) place steps
