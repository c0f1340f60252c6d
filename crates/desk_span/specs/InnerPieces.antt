-- Of private calls: what a drawing on the desk asks of a screen.
use Rattle.std.specs.Prelude.{◌≡◌, Bool, IsTrue, true, ◌&&◌, if◌then◌else◌}
use Rattle.geom_base.specs.declared.point.Point.{Point}
use Rattle.geom_base.specs.declared.size.Size.{Size}
use Rattle.geom_base.specs.declared.target.Target.TheVariants.{Screen}
use Rattle.geom_base.specs.Points.{IsIn, LiesIn, RectMoves, is_in, moved, moved_back, moved_rect, whole}
use Rattle.geom_base.specs.Step.{Area}
use Rattle.brush_obj.specs.Calls.{lent_call, moved_call, reads_source, source_point}
use Rattle.brush_obj.specs.declared.draw_call.DrawCall.{DrawCall}
use Rattle.brush_obj.specs.declared.draw_call.DrawCall.TheVariants.{Blt, Copy, Paint}
use Rattle.clip_obj.specs.Clip.{to_origin}
use Rattle.script_orders.specs.declared.desk_command.DeskCommand.{DeskCommand}
use Rattle.desk_span.specs.declared.screen.Piece.{Piece}
use Rattle.desk_span.specs.Desk.{area_of, in_clip}
use Rattle.desk_span.specs.InnerBeside.{is_own, stand_of}
use Rattle.desk_span.specs.InnerDrawing.{held_for}
use Rattle.desk_span.specs.Kept.{ScreenKept}
use Rattle.desk_span.specs.Meeting.{Reaches}
use Rattle.desk_span.specs.Pieces.{is_desk}

-- a drawing's call in a screen's own coordinates, its source counted from where that stands
abbrev pub screen_call : ScreenKept → DeskCommand → DrawCall
screen_call w c = lent_call (moved_call c.call (to_origin w.at)) (stand_of w.at c.source)

-- the call on a driver's screen, which it holds where that is its own source
abbrev pub aimed : Bool → DrawCall → DrawCall
aimed own (Blt c) = Blt (record c { target = Screen; held = held_for own Screen })
aimed own (Copy c) = Copy (record c { target = Screen; held = held_for own Screen })
aimed own (Paint c) = Paint (record c { target = Screen })

-- a call that reads what it draws on, of this size, finds the source of a point there
abbrev pub FindsThere : Bool → DrawCall → Size → Point → Type 0
FindsThere own call size p = IsTrue (own && reads_source call) → IsIn (source_point call p) (whole size)

-- the points of a screen that a drawing reaches in its clip, and finds its source for, where that is the desk of this screen alone
abbrev pub piece_on : ScreenKept → DeskCommand → Area
piece_on w c p =
    let q = moved p w.at in
    area_of c q && (if reads_source c.call && is_desk c.source then is_in (moved_back w.at (source_point c.call q)) (whole w.size) else true)

-- what a drawing on the desk asks of a screen: its points are those of the rectangle in the clip
pub record IsPiece (w : ScreenKept) (c : DeskCommand) (piece : Piece) : Type 0 where
  pub call : piece.call ≡ aimed (is_own c.target c.source) (screen_call w c)
  pub moves : RectMoves (to_origin w.at) piece.asked
  pub inside : LiesIn (moved_rect piece.asked (to_origin w.at)) w.size
  pub points : (p : Point) → IsIn p (whole w.size) →
      (in_clip c.clip (moved p w.at) && is_in p (moved_rect piece.asked (to_origin w.at))) ≡ piece_on w c p
  pub reached : Reaches (piece_on w c) w.size
