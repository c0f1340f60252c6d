-- What the owner of bits has once a loan of them is over.
use Rattle.std.specs.Prelude.{ℕ, List}
use Rattle.std.specs.Borrow.{follows, MutBor, Fml, u8}
use Rattle.std.specs.Vec.{with_items}
use Rattle.surf_obj.specs.declared.object.SurfObj.{SurfObj}
use Rattle.surf_obj.specs.declared.lent.LentSurf.{LentSurf}
use Rattle.surf_obj.specs.contracts.object.SurfObj.{the_row}
use denote.Array.{Array}

-- the surface ends with the bytes that were left behind the slice
abbrev pub LendsBytes : MutBor SurfObj → MutBor (List ℕ) → Fml
LendsBytes s r = follows the_row (Array u8 0) s.ghost_name r.ghost_name (λ w. record s.now { bits = with_items s.now.bits w })

-- the surface ends with the bytes that were left on the lent one
abbrev pub LendsSurface : MutBor SurfObj → LentSurf → Fml
LendsSurface s r = follows the_row (Array u8 0) s.ghost_name r.bits.ghost_name (λ w. record s.now { bits = with_items s.now.bits w })
