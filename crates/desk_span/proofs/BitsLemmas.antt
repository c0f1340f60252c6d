-- What was drawn on bits is drawn on the surface that they hold.
use Rattle.std.proofs.Common.{◌≡◌, ℕ, List, length, Option, Some, None, Bor, refl, sym, ap, ◌∙◌}
use Rattle.std.specs.Option.{option_copied}
use Rattle.std.specs.Prelude.{option_map, unwrap_or}
use Rattle.std.specs.Vec.{with_items}
use Rattle.std.proofs.lemmas.List.{with_items_is}
use Rattle.geom_base.specs.declared.point.Point.{Point}
use Rattle.geom_base.specs.declared.target.Target.{Target}
use Rattle.pix_format.specs.Value.{colours_of}
use Rattle.pix_format.specs.Xlate.{Translation}
use Rattle.pix_format.specs.declared.format.Format.{Format}
use Rattle.pix_format.specs.declared.rgb.Rgb.{Rgb}
use Rattle.surf_obj.specs.Layout.{values_in}
use Rattle.surf_obj.specs.Object.{IsBlank, object_bytes, object_layout}
use Rattle.surf_obj.specs.Surface.{Surface}
use Rattle.surf_obj.specs.declared.layout.Layout.{Layout}
use Rattle.surf_obj.specs.declared.object.SurfObj.{SurfObj}
use Rattle.surf_obj.specs.declared.view.LentView.{LentView}
use Rattle.brush_obj.specs.Calls.{as_kept, held_of, new_of_call, shown}
use Rattle.brush_obj.specs.declared.draw_call.DrawCall.{DrawCall}
use Rattle.brush_obj.specs.declared.draw_call.DrawCall.TheVariants.{Blt, Copy, Paint}
use Rattle.blt_kernel.specs.Handed.{TranslatesFrom, mask_of, source_of}
use Rattle.eng_calls.specs.Inputs.{drawn_with, IsGiven, Suits, translated_by}
use Rattle.eng_calls.specs.declared.inputs.Inputs.{Inputs}
use Rattle.desk_span.specs.declared.inputs.PaneInputs.{PaneInputs}
use Rattle.desk_span.specs.Desk.{shown_by, translation}
use Rattle.desk_span.specs.InnerDrawing.{Seen, seen_of, seen_of_view, operands_with, source_held, translation_for}

-- the surface that bytes hold
abbrev pub surface_on : Layout → List Rgb → List ℕ → Surface
surface_on l table bytes = record { size = l.size; format = l.format; table = table; values = values_in l bytes }

-- the bytes of a surface after a loan
pub bytes_after : (s : SurfObj) (lent new : List ℕ) → length new ≡ length lent → lent ≡ object_bytes s → (with_items s.bits new).items ≡ new
bytes_after s lent new kept is = with_items_is s.bits new (kept ∙ ap length is ∙ sym s.bits.ok.0)

-- a new surface of one row into which values were put
pub row_shown : (blank : SurfObj) (bytes values : List ℕ) (format given : Format) (table own : List Rgb) →
    IsBlank (record { w = length values; h = 1 }) given blank → given ≡ format → own ≡ table → values_in (object_layout blank) bytes ≡ values →
    surface_on (object_layout blank) own bytes ≡ record { size = record { w = length values; h = 1 }; format = format; table = table; values = values }
row_shown blank bytes values format given table own new formats tables same = λ i. record {
  size = ap (λ (l : Layout). l.size) new.layout i;
  format = (ap (λ (l : Layout). l.format) new.layout ∙ formats) i;
  table = tables i;
  values = same i;
}

-- what was lent looks like the surface that was handed
abbrev pub LooksLike : Option (Bor LentView) → Option Surface → Type 0
LooksLike lent handed = option_map seen_of_view (option_copied lent) ≡ option_map seen_of handed

-- so it is the source, or the mask, of the drawing
source_lent : (lent : Option (Bor LentView)) (handed : Option Surface) (held : Option Target) (t : Surface) → LooksLike lent handed →
    source_of lent held (shown t.size t.values) ≡ shown_by (source_held handed held t)
source_lent None None None t e = refl
source_lent None None (Some h) t e = refl
source_lent (Some v) (Some s) held t e = let same : seen_of_view v.now ≡ seen_of s = cc in ap (λ (l : Seen). shown l.0 l.2) same
source_lent None (Some s) held t e = absurd (cc)
source_lent (Some v) None held t e = absurd (cc)

mask_lent : (lent : Option (Bor LentView)) (handed : Option Surface) → LooksLike lent handed → mask_of lent ≡ shown_by handed
mask_lent None None e = refl
mask_lent (Some v) (Some s) e = let same : seen_of_view v.now ≡ seen_of s = cc in ap (λ (l : Seen). shown l.0 l.2) same
mask_lent None (Some s) e = absurd (cc)
mask_lent (Some v) None e = absurd (cc)

-- and a translation from it leads from what was lent
leads_from : (lent : Option (Bor LentView)) (handed : Option Surface) (held : Option Target) (t : Surface) (xlate : Translation) → LooksLike lent handed →
    xlate.from ≡ (unwrap_or handed t).format → TranslatesFrom lent held t.format xlate
leads_from None None None t xlate e from = tt
leads_from None None (Some h) t xlate e from = from
leads_from (Some v) (Some s) held t xlate e from = let same : seen_of_view v.now ≡ seen_of s = cc in from ∙ sym (ap (λ (l : Seen). l.1) same)
leads_from None (Some s) held t xlate e from = absurd (cc)
leads_from (Some v) None held t xlate e from = absurd (cc)

module _ (t : Surface) (i : PaneInputs) (lent : Inputs) (table : lent.table.now ≡ t.table) (brush : lent.brush ≡ Some i.brush)
    (source : LooksLike lent.source (option_copied i.source)) (mask : LooksLike lent.mask (option_copied i.mask)) where
  abbrev from_source : Translation
  from_source = translation (unwrap_or (option_copied i.source) t) t i.back

  translates : (xlate : Option (Bor Translation)) (held : Option Target) → option_copied xlate ≡ Some from_source →
      IsGiven xlate (λ x. TranslatesFrom lent.source held t.format x.now × (x.now.to ≡ t.format))
  translates None held e = absurd (cc)
  translates (Some x) held e = let same : x.now ≡
      from_source = cc in rw same (leads_from lent.source (option_copied i.source) held t from_source source refl, refl)

  same_xlate : (xlate : Option (Bor Translation)) (given : Point → Option ℕ) → option_copied xlate ≡ Some from_source →
      translated_by xlate given ≡ as_kept from_source given
  same_xlate None given e = absurd (cc)
  same_xlate (Some x) given e = let same : x.now ≡ from_source = cc in ap (λ (y : Translation). as_kept y given) same

  -- what was lent suits the call
  pub suits : (call : DrawCall) → option_copied lent.xlate ≡ translation_for call from_source → length t.table ≡ colours_of t.format → Suits call lent t.format
  suits (Blt c) e fits = (translates lent.xlate c.held e, rw (table, brush) fits)
  suits (Copy c) e fits = translates lent.xlate c.held e
  suits (Paint c) e fits = rw (table, brush) fits

  -- and gives what the surfaces give
  pub drawn_alike : (call : DrawCall) → option_copied lent.xlate ≡ translation_for call from_source →
      new_of_call call (drawn_with lent (held_of call) (shown t.size t.values) t.format) ≡ new_of_call call (operands_with t (held_of call) i)
  drawn_alike (Blt c) e =
      rw (
        same_xlate lent.xlate (source_of lent.source c.held (shown t.size t.values)) e,
        source_lent lent.source (option_copied i.source) c.held t source,
        mask_lent lent.mask (option_copied i.mask) mask,
        table,
        brush,
      ) refl
  drawn_alike (Copy c) e =
      rw (same_xlate lent.xlate (source_of lent.source c.held (shown t.size t.values)) e, source_lent lent.source (option_copied i.source) c.held t source) refl
  drawn_alike (Paint c) e = rw (table, brush) refl
