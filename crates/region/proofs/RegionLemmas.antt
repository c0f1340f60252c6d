use Rattle.std.proofs.Common.{◌≡◌, ◌∙◌, ℤ, List, [], ◌∷◌, Bool, false, refl, ap, sym, subst}
use Rattle.std.specs.List.{AllPairs}
use Rattle.geom_base.specs.declared.point.Point.{Point}
use Rattle.geom_base.specs.declared.rect.Rect.{Rect}
use Rattle.geom_base.specs.Points.{is_in_some, AreApart}
use Rattle.region.specs.Steps.{Step}
use Rattle.region.specs.Steps.{value_at, final_value, AllValid}
use Rattle.region.specs.InnerSteps.{IsOrdered}
use Rattle.region.specs.Columns.{HasColumns, Columns, has_column}
use Rattle.region.specs.InnerColumns.{IsColumns}
use Rattle.region.specs.Band.{rects_of, Bands, has_point, IsCanonical}
use Rattle.region.specs.Region.{IsRegion, IsRegionOf, RegionIsUnique, RegionIsApart}
use Rattle.region.proofs.StepLemmas.{reduced_is_ordered}
use Rattle.region.proofs.UniqueLemmas.{same_steps, match_is_equal, same_columns}
use Rattle.region.proofs.RectLemmas.{rects_points, rects_apart, all_pairs_apart}

pub no_columns : HasColumns []
no_columns = record { reduced = tt; ends = refl }

pub held_no_columns : IsColumns []
held_no_columns = record { columns = no_columns; fits = tt }

pub values_of : (bands : Bands) → AllValid IsColumns bands → AllValid HasColumns bands
values_of [] h = tt
values_of (b ∷ bands) h = (h.0.columns, values_of bands h.1)

-- canonical bands

pub canonical_is_ordered : (bands : Bands) → IsCanonical bands → IsOrdered bands
canonical_is_ordered bands h = reduced_is_ordered has_column [] bands h.reduced

none_at_end : (bands : Bands) → IsCanonical bands → (x : ℤ) → has_column (final_value [] bands) x ≡ false
none_at_end bands h x = rw h.ends refl

pub canonical_points : (bands : Bands) → IsCanonical bands → (p : Point) → is_in_some p (rects_of bands) ≡ has_point bands p
canonical_points bands h p = rects_points bands p (canonical_is_ordered bands h) h.values (none_at_end bands h)

pub region_points : (rects : List Rect) (h : IsRegion rects) (p : Point) → is_in_some p rects ≡ has_point h.bands p
region_points rects h p = ap (is_in_some p) h.listed ∙ canonical_points h.bands h.canonical p

pub region_is_unique : RegionIsUnique
region_is_unique a b ha hb same =
    let points : (x y : ℤ) → has_column (value_at [] ha.bands y) x ≡ has_column (value_at [] hb.bands y) x = λ x y.
    let p : Point = record { x = x; y = y } in sym (region_points a ha p) ∙ same p ∙ region_points b hb p in
    let bands : ha.bands ≡ hb.bands = match_is_equal ha.bands hb.bands
    (same_steps has_column HasColumns
    (λ c d. c ≡ d) same_columns [] [] ha.bands hb.bands ha.canonical.values hb.canonical.values ha.canonical.reduced hb.canonical.reduced
    (λ x. refl) points) in
    ha.listed ∙ ap rects_of bands ∙ sym hb.listed

none_from : (b : Step Columns) (bands : Bands) → final_value b.value bands ≡ [] → (e : Columns) (x : ℤ) → has_column (final_value e (b ∷ bands)) x ≡ false
none_from b bands h e x = rw h refl

bands_are_apart : (bands : Bands) → IsCanonical bands → AllPairs AreApart (rects_of bands)
bands_are_apart [] h = all_pairs_apart [] tt
bands_are_apart (b ∷ bands) h = all_pairs_apart _ (rects_apart (b ∷ bands) (canonical_is_ordered (b ∷ bands) h) h.values (none_from b bands h.ends))

pub region_is_apart : RegionIsApart
region_is_apart rects h = subst (AllPairs AreApart) (sym h.listed) (bands_are_apart h.bands h.canonical)

-- the region of canonical bands
pub region_of_canonical : (bands : Bands) → IsCanonical bands → IsRegionOf (has_point bands) (rects_of bands)
region_of_canonical bands h = record { canonical = record { bands = bands; canonical = h; listed = refl }; points = λ p. canonical_points bands h p }

pub region_same : (f g : Point → Bool) → ((p : Point) → f p ≡ g p) → (rects : List Rect) → IsRegionOf f rects → IsRegionOf g rects
region_same f g same rects h = record { canonical = h.canonical; points = λ p. h.points p ∙ same p }
