-- A brush with the slots in which drivers keep its realised forms.
use Rattle.std.specs.Prelude.{ℕ, List, [], ◌∷◌, Option, None, Bool, ◌==◌, ◌≡◌, ◌≢◌, if◌then◌else◌}
use Rattle.std.specs.List.{list_any}
use Rattle.brush_obj.specs.declared.face.BrushFace.{BrushFace}
use Rattle.brush_obj.specs.declared.slot.Slot.{Slot}
use Rattle.brush_obj.specs.Realised.{Realised}

pub record Brush : Type 0 where
  pub face : BrushFace
  pub slots : List Slot

-- an owner has a place among slots
abbrev pub is_among : List Slot → ℕ → Bool
is_among slots owner = list_any (λ s. s.owner == owner) slots

-- the realised brush in an owner's slot, or none where the slot is empty or the owner has no place
abbrev pub kept_among : List Slot → ℕ → Option Realised
kept_among [] owner = None
kept_among (s ∷ rest) owner = if s.owner == owner then s.realised else kept_among rest owner

-- an owner has a place in a brush
abbrev pub has_place : Brush → ℕ → Bool
has_place b owner = is_among b.slots owner

-- the realised brush that a brush keeps for an owner
abbrev pub kept : Brush → ℕ → Option Realised
kept b owner = kept_among b.slots owner

-- all owners but one have what they had
pub record OnlyOf (owner : ℕ) (old new : List Slot) : Type 0 where
  pub places : (other : ℕ) → other ≢ owner → is_among new other ≡ is_among old other
  pub kept : (other : ℕ) → other ≢ owner → kept_among new other ≡ kept_among old other

-- the brush looks the same, and all owners but one have what they had
pub record OnlySlot (owner : ℕ) (old new : Brush) : Type 0 where
  pub face : new.face ≡ old.face
  pub others : OnlyOf owner old.slots new.slots
