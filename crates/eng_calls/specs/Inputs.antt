-- What a drawing call is handed, as its operands.
use Rattle.std.specs.Prelude.{ℕ, ◌≡◌, length, List, Option, Some, None, false, option_map}
use Rattle.std.specs.Borrow.{Bor}
use Rattle.std.specs.Option.{option_copied}
use Rattle.geom_base.specs.declared.point.Point.{Point}
use Rattle.geom_base.specs.declared.target.Target.{Target}
use Rattle.pix_format.specs.declared.format.Format.{Format}
use Rattle.pix_format.specs.declared.rgb.Rgb.{Rgb}
use Rattle.pix_format.specs.Value.{colours_of}
use Rattle.pix_format.specs.Xlate.{Translation}
use Rattle.brush_obj.specs.Brush.{tiled}
use Rattle.brush_obj.specs.Calls.{Operands, as_kept, not_there}
use Rattle.brush_obj.specs.Slots.{Brush}
use Rattle.brush_obj.specs.declared.draw_call.DrawCall.{DrawCall}
use Rattle.brush_obj.specs.declared.draw_call.DrawCall.TheVariants.{Blt, Copy, Paint}
use Rattle.copy_port.specs.Given.{Given, picture_of_view}
use Rattle.blt_kernel.specs.Handed.{TranslatesFrom, mask_of, source_of}
use Rattle.eng_calls.specs.declared.inputs.Inputs.{Inputs}

-- the pattern of a brush on a target of a format and a table; without a brush any will do, since no call reads it then
abbrev pub pattern_of : Option (Bor Brush) → Format → List Rgb → Point → ℕ
pattern_of (Some brush) format table = tiled brush.now.face format table
pattern_of None format table = λ q. 0

-- a source as a translation keeps it; without one there is none
abbrev pub translated_by : Option (Bor Translation) → (Point → Option ℕ) → Point → Option ℕ
translated_by (Some xlate) source = as_kept xlate.now source
translated_by None source = not_there

-- the operands of a call on a target of a format, whose own values it may hold
abbrev pub drawn_with : Inputs → Option Target → (Point → Option ℕ) → Format → Operands
drawn_with i held own format = record {
  source = translated_by i.xlate (source_of i.source held own);
  clear = λ p. false;
  mask = mask_of i.mask;
  pattern = pattern_of i.brush format i.table.now;
  format = format;
}

-- it is handed in, and is so
abbrev pub IsGiven : {A : Type 0} → Option A → (A → Type 0) → Type 0
IsGiven (Some a) P = P a
IsGiven None P = ⊥

-- a translation is handed in, from the call's source to a target of a format
abbrev pub Translates : Inputs → Option Target → Format → Type 0
Translates i held format = IsGiven i.xlate (λ x. TranslatesFrom i.source held format x.now × (x.now.to ≡ format))

-- so is a brush, with the table of that format
abbrev pub HasBrush : Inputs → Format → Type 0
HasBrush i format = IsGiven i.brush (λ b. length i.table.now ≡ colours_of format)

-- a call is handed what it needs
abbrev pub Suits : DrawCall → Inputs → Format → Type 0
Suits (Blt c) i format = Translates i c.held format × HasBrush i format
Suits (Copy c) i format = Translates i c.held format
Suits (Paint c) i format = HasBrush i format

-- the same as a record of pictures and colours
abbrev pub given_of : Inputs → Given
given_of i = record {
  source = option_map picture_of_view i.source;
  mask = option_map picture_of_view i.mask;
  xlate = option_copied i.xlate;
  table = i.table.now;
  brush = option_map (λ (b : Bor Brush). b.now.face) i.brush;
}
