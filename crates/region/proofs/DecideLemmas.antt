use Rattle.std.proofs.Common.{Bool, true, false, refl}
use Rattle.std.proofs.lemmas.Bool.{false≢true}
use Rattle.region.specs.declared.operation.Operation.TheVariants.{Union, Intersect, Subtract, Xor}
use Rattle.region.specs.InnerSweep.{LeftDecides, RightDecides}

pub left_of_union : LeftDecides Union true
left_of_union true true = refl
left_of_union true false = refl
left_of_union false true = refl
left_of_union false false = refl

pub left_of_intersect : LeftDecides Intersect false
left_of_intersect true true = refl
left_of_intersect true false = refl
left_of_intersect false true = refl
left_of_intersect false false = refl

pub left_of_subtract : LeftDecides Subtract false
left_of_subtract true true = refl
left_of_subtract true false = refl
left_of_subtract false true = refl
left_of_subtract false false = refl

pub left_of_xor : (a : Bool) → ¬ LeftDecides Xor a
left_of_xor true decides = false≢true (decides true false)
left_of_xor false decides = false≢true (decides false true)

pub right_of_union : RightDecides Union true
right_of_union true true = refl
right_of_union true false = refl
right_of_union false true = refl
right_of_union false false = refl

pub right_of_intersect : RightDecides Intersect false
right_of_intersect true true = refl
right_of_intersect true false = refl
right_of_intersect false true = refl
right_of_intersect false false = refl

pub right_of_subtract : RightDecides Subtract true
right_of_subtract true true = refl
right_of_subtract true false = refl
right_of_subtract false true = refl
right_of_subtract false false = refl

pub right_of_xor : (a : Bool) → ¬ RightDecides Xor a
right_of_xor true decides = false≢true (decides true false)
right_of_xor false decides = false≢true (decides false true)
