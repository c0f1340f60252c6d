-- Laws of vectors whose items were lent.
use Rattle.std.proofs.Common.{◌≡◌, ◌∙◌, List, length, Vec, sym}
use Rattle.std.proofs.lemmas.List.{with_items_is}
use Rattle.std.specs.Vec.{with_items}

pub with_items-same : {X Z : Type 0} (v : Vec X Z) (w : List X) → length w ≡ length v.items → (with_items v w).items ≡ w
with_items-same v w e = with_items_is v w (e ∙ sym v.ok.0)
