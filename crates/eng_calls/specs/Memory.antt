-- When a call may want memory.
use Rattle.std.specs.Prelude.{◌≡◌, Option, None, IsTrue}
use Rattle.std.specs.Borrow.{Bor}
use Rattle.rop_mix.specs.Needs.{source_needed, mask_needed}
use Rattle.surf_obj.specs.declared.view.LentView.{LentView}
use Rattle.brush_obj.specs.declared.blt_call.BltCall.{BltCall}
use Rattle.brush_obj.specs.declared.draw_call.DrawCall.{DrawCall}
use Rattle.brush_obj.specs.declared.draw_call.DrawCall.TheVariants.{Blt, Copy, Paint}

-- source and mask are needed, and the source is the target's own: it is held, and no view of it is lent
pub record MayWantMemory (call : BltCall) (src : Option (Bor LentView)) : Type 0 where
  pub held : ¬ (call.held ≡ None)
  pub unlent : src ≡ None
  pub source : IsTrue (source_needed call.rop.code)
  pub mask : IsTrue (mask_needed call.rop.code)

-- of all calls a raster operation alone
abbrev pub CallMayWantMemory : DrawCall → Option (Bor LentView) → Type 0
CallMayWantMemory (Blt c) src = MayWantMemory c src
CallMayWantMemory (Copy c) src = ⊥
CallMayWantMemory (Paint c) src = ⊥
