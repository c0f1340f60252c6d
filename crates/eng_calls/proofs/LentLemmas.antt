-- Calls whose operands are handed in are those of the record of what is handed; and sources that stand for others.
use Rattle.std.proofs.Common.{◌≡◌, ◌∙◌, ℕ, ℤ, pos, ◌-ℤ◌, IsTrue, List, Option, Some, None, is_some, option_map, refl, ap, arith}
use Rattle.std.specs.Borrow.{Bor}
use Rattle.std.specs.Option.{option_copied}
use Rattle.std.proofs.lemmas.Bool.{false≢true}
use Rattle.std.proofs.lemmas.Int.{ints}
use Rattle.geom_base.specs.declared.point.Point.{Point}
use Rattle.geom_base.specs.declared.rect.Rect.{Rect}
use Rattle.geom_base.specs.declared.target.Target.{Target}
use Rattle.geom_base.specs.Points.{IsIn, moved_back}
use Rattle.pix_format.specs.declared.format.Format.{Format}
use Rattle.pix_format.specs.declared.rgb.Rgb.{Rgb}
use Rattle.pix_format.specs.Xlate.{Translation, translated}
use Rattle.surf_obj.specs.Layout.{values_in}
use Rattle.surf_obj.specs.Object.{object_bytes, object_layout}
use Rattle.surf_obj.specs.View.{view_bytes, view_format, view_layout, view_size, view_values}
use Rattle.surf_obj.specs.declared.layout.Layout.{Layout}
use Rattle.surf_obj.specs.declared.view.LentView.{LentView}
use Rattle.brush_obj.specs.Calls.{SameButSource, reads_source, shown, source_point}
use Rattle.brush_obj.specs.Slots.{Brush}
use Rattle.brush_obj.specs.declared.draw_call.DrawCall.{DrawCall}
use Rattle.brush_obj.specs.declared.draw_call.DrawCall.TheVariants.{Blt, Copy, Paint}
use Rattle.blt_kernel.specs.Handed.{mask_of, source_of}
use Rattle.copy_port.specs.Given as given
use Rattle.copy_port.specs.State.{Shown}
use Rattle.eng_calls.specs.Copies.{HeldFor, begins_at, picture_of_copy}
use Rattle.eng_calls.specs.Inputs.{drawn_with, given_of, pattern_of, translated_by}
use Rattle.eng_calls.specs.declared.copies.PartCopy.{PartCopy}
use Rattle.eng_calls.specs.declared.inputs.Inputs.{Inputs}

-- operands one by one
mask_given : (m : Option (Bor LentView)) → mask_of m ≡ given.points_of (option_map given.picture_of_view m)
mask_given (Some view) = refl
mask_given None = refl

source_lent : (s : Option (Bor LentView)) (own : Point → Option ℕ) → source_of s None own ≡ given.points_of (option_map given.picture_of_view s)
source_lent (Some view) own = refl
source_lent None own = refl

pattern_given : (b : Option (Bor Brush)) (format : Format) (table : List Rgb) →
    pattern_of b format table ≡ given.pattern_of (option_map (λ (b : Bor Brush). b.now.face) b) format table
pattern_given (Some brush) format table = refl
pattern_given None format table = refl

translated_given : (x : Option (Bor Translation)) (a b : Point → Option ℕ) (p q : Point) → a p ≡ b q →
    translated_by x a p ≡ given.translated_by (option_copied x) b q
translated_given (Some xlate) a b p q e = ap (option_map (translated xlate.now)) e
translated_given None a b p q e = refl

-- a point moved back by nothing
moved_nowhere : (p : Point) → moved_back (record { x = pos 0; y = pos 0 }) p ≡ p
moved_nowhere p = ap (λ x. record { x = x; y = p.y -ℤ pos 0 }) (minus p.x) ∙ ap (λ y. record { x = p.x; y = y }) (minus p.y)
  where
    minus : (z : ℤ) → z -ℤ pos 0 ≡ z
    minus z = omega (arith, ints)

first_alone : (s : Option given.Picture) → given.first_of s None ≡ s
first_alone (Some s) = refl
first_alone None = refl

-- a copy of what is held, or the source that is lent, stands for the source of a call
pub stands_for : (held : Option Target) (call : DrawCall) (lent source : Option given.Picture) (targets : Shown) (frame : Rect) (part : Option PartCopy) →
    given.HoldsLive held source targets → HeldFor held call targets frame part → lent ≡ given.first_of (option_map picture_of_copy part) source →
    IsTrue (reads_source call) → (p : Point) → IsIn p frame →
    given.points_of lent (moved_back (begins_at part) (source_point call p)) ≡ given.points_of (given.first_of source (given.held_in held targets)) (source_point call p)
stands_for None call lent source targets frame part live h e reads p inside =
    let none : lent ≡ source = e ∙ ap (λ (o : Option PartCopy). given.first_of (option_map picture_of_copy o) source) h in
    rw (none, h, first_alone source) (ap (given.points_of source) (moved_nowhere (source_point call p)))
stands_for (Some t) call lent source targets frame part live h e reads p inside =
    let alone : lent ≡ option_map picture_of_copy part = e ∙ rw live.1 (first_alone (option_map picture_of_copy part)) in
    rw (alone, live.1) (h.points reads p inside)

-- the operands of a call whose source is lent, and those of what is asked
pub same_but_source : (call : DrawCall) (i lent : Inputs) (held : Option Target) (targets : Shown) (at : Point) (own : Point → Option ℕ) (format : Format) (p : Point) →
    lent.mask ≡ i.mask → lent.xlate ≡ i.xlate → lent.table ≡ i.table → lent.brush ≡ i.brush →
    (IsTrue (reads_source call) → given.points_of (option_map given.picture_of_view lent.source) (moved_back at (source_point call p)) ≡
    given.points_of (given.first_of (given_of i).source (given.held_in held targets)) (source_point call p)) →
    SameButSource call at (given.operands_given (given_of i) (given.held_in held targets) format) (drawn_with lent None own format) p
same_but_source call i lent held targets at own format p mask xlate table brush source = record {
  source = λ reads. rw xlate (translated_given i.xlate (source_of lent.source None own) (given.points_of (given.first_of (given_of i).source (given.held_in held targets)))
      (moved_back at (source_point call p)) (source_point call p)
      (ap (λ (f : Point → Option ℕ). f (moved_back at (source_point call p))) (source_lent lent.source own) ∙ source reads));
  mask = rw mask (mask_given i.mask);
  pattern = rw (brush, table) (pattern_given i.brush format i.table.now);
  format = refl;
}

-- a view of a copy shows it
pub copy_is_source : (held : Option PartCopy) (part : PartCopy) (i : Inputs) (view : LentView) → held ≡ Some part → view_bytes view ≡ object_bytes part.pixels →
    view_layout view ≡ object_layout part.pixels →
    Some (record { format = view_format view; at = shown (view_size view) (view_values view) }) ≡
    given.first_of (option_map picture_of_copy held) (given_of i).source
copy_is_source held part i view e bits layout =
    ap (λ (l : Layout). Some (seen l (view_bytes view))) layout ∙ ap (λ (b : List ℕ). Some (seen (object_layout part.pixels) b)) bits ∙ rw e refl
  where
    seen : Layout → List ℕ → given.Picture
    seen l b = record { format = l.format; at = shown l.size (values_in l b) }

is_there : {A : Type 0} (o : Option A) (P : A → Type 0) → given.IsThereAnd o P → IsTrue (is_some o)
is_there None P h = absurd h
is_there (Some a) P h = refl

-- a call that reads its source has a translation, by which what is there stays there

pub has_translation : (call : DrawCall) (g : given.Given) (held : Option given.Picture) (format : Format) → IsTrue (reads_source call) →
    given.Suits call g held format → IsTrue (is_some g.xlate)
has_translation (Blt c) g held format reads h = is_there g.xlate _ h.0
has_translation (Copy c) g held format reads h = is_there g.xlate _ h.0
has_translation (Paint c) g held format reads h = absurd (false≢true reads)

pub translated_found : (x : Option Translation) (source : Point → Option ℕ) (q : Point) → IsTrue (is_some x) → IsTrue (is_some (source q)) →
    IsTrue (is_some (given.translated_by x source q))
translated_found None source q t h = absurd (false≢true t)
translated_found (Some x) source q t h = kept (source q) h
  where
    kept : (v : Option ℕ) → IsTrue (is_some v) → IsTrue (is_some (option_map (translated x) v))
    kept None l = absurd (false≢true l)
    kept (Some v) l = refl
