use Rattle.std.proofs.Common.{◌≡◌, ◌∙◌, ℕ, ℤ, ◌+◌, ◌-◌, ◌^◌, ◌<◌, ◌≤◌, ◌<ℤ◌, ◌≤ℤ◌, ◌+ℤ◌, pos, negsuc, List, [], ◌∷◌, ◌++◌, length, get_or}
use Rattle.std.proofs.Common.{drop, true, false, refl, ap, sym, subst, arith, inl, inr, ◌||◌, FitsSigned, w32}
use Rattle.std.specs.Int.{int_max}
use Rattle.std.specs.List.{All}
use Rattle.std.proofs.lemmas.Int.{ints, clamps}
use Rattle.std.proofs.lemmas.Bool.{false≢true}
use Rattle.std.proofs.lemmas.List.Elements.{All-get_or}
use Rattle.std.proofs.lemmas.Bool.{cases_Bool, or_parts}
use Rattle.geom_base.specs.Tests.{same_tests}
use Rattle.geom_base.specs.declared.point.Point.{Point}
use Rattle.geom_base.specs.declared.rect.Rect.{Rect}
use Rattle.geom_base.specs.Points.{is_in_some, no_rect}
use Rattle.region.specs.Steps.{Step}
use Rattle.region.specs.declared.cover.Cover.{Cover}
use Rattle.region.specs.declared.cover.Cover.TheVariants.{Cell, Pair'}
use Rattle.region.specs.Steps.{final_value, AllValid, IsReduced}
use Rattle.region.specs.InnerSteps.{EndsBefore, AllFit}
use Rattle.region.specs.Columns.{HasColumns, Columns, has_column}
use Rattle.region.specs.InnerColumns.{IsColumns}
use Rattle.region.specs.Band.{Bands, has_point}
use Rattle.region.specs.InnerSweep.{CanTake}
use Rattle.region.specs.InnerScan.{before_or}
use Rattle.region.specs.Limits.{most_rects}
use Rattle.region.specs.InnerBandList.{run_count, rect_count, IsKept, IsCounted, IsBuilt, AreCanonical}
use Rattle.region.specs.InnerCover.{strip_of, covers, filled_in, columns_in, IsCover, IsShaped, SameStrip, SameShape, IsMoved}
use Rattle.region.specs.InnerEdges.{IsOver}
use Rattle.region.specs.InnerScan.{IsSolid, AllRects, BeginBelow, BeginIn, AreDownward, IsArranged, HasBothEdges}
use Rattle.region.specs.InnerScan.{HaveBegun, IsNextRow, ahead, EndsBeforeRects, IsScanned, IsScannedInto}
use Rattle.region.specs.declared.band_list.BandList.{BandList}
use Rattle.region.specs.declared.strip.Strip.{Strip}
use Rattle.region.proofs.StepLemmas.{at_or_before, final_value-push, EndsBefore-push, EndsBefore-later, AllValid-push}
use Rattle.region.proofs.StepLemmas.{AllFit-push, IsReduced-push, IsOrdered-push, reduced_is_ordered, final_is_valid}
use Rattle.region.proofs.BeforeLemmas.{before_or-same, before_or-push, before_or-end, by_place}
use Rattle.region.proofs.UniqueLemmas.{same_columns}
use Rattle.region.proofs.RegionLemmas.{no_columns, held_no_columns}
use Rattle.region.proofs.CountLemmas.{count_fits, rect_count-push}
use Rattle.region.proofs.KeptLemmas.{kept_is_counted}
use Rattle.region.proofs.CoverLemmas.{or_none, same_strip, covers_above, grown, IsGrown}
use Rattle.region.proofs.CoverTurnLemmas.{told, seen_later, same_shape}
use Rattle.region.proofs.CoverStepLemmas.{columns_are, columns_hold, fits_between, told_runs}
use Rattle.region.proofs.ScanLemmas.{two_edges, first_of, none_above, none_past, all_rects, edges_same, has_edges}

max_is : (y z : ℤ) → z ≤ℤ y → int_max y z ≡ y
max_is y z h = omega (arith, ints, clamps, h)

max_other : (y z : ℤ) → y <ℤ z → int_max y z ≡ z
max_other y z h = omega (arith, ints, clamps, h)

-- as long as the row lasts, it stays the same
steady_same : (z y x : ℤ) (t : Cover) → IsCover z t → z ≤ℤ y → y ≤ℤ (strip_of t).steady → covers t y x ≡ covers t z x
steady_same z y x t c h k =
    let here = told z t c.seen z (omega (arith, ints)) (omega (arith, ints, h, k)) in
    let there = told z t c.seen y h k in
    let g : IsGrown t t y z = grown t t c.shaped c.shaped (same_shape t) y z (λ x i. covers_above t c.shaped z y x h i) in
    same_tests (covers t y x) (covers t z x) (covers_above t c.shaped z y x h) (g.same (sym there.filled ∙ here.filled) x)

-- above the next change stands what stands in the present row
ahead_before : (rects : List Rect) (z p y x : ℤ) (t : Cover) (rest : List Rect) (bands : Bands) → IsScanned rects z t rest bands →
    IsNextRow (strip_of t).steady rest p → y <ℤ p → ahead z t rest y x ≡ covers t z x
ahead_before rects z p y x t rest bands s n h =
    let none : is_in_some (record { x = x; y = y }) rest ≡ false = none_above rest p y x s.ready.downward n.below h in
    or_none (covers t (int_max y z) x) (is_in_some (record { x = x; y = y }) rest) none
    ∙ steady_same z (int_max y z) x t s.cover (omega (arith, ints, clamps)) (omega (arith, ints, clamps, s.steady, n.steady_until, h))

ahead_from : (z p y x : ℤ) (t more new : Cover) (rest others : List Rect) → z ≤ℤ p → HaveBegun z p rest t others more → IsMoved p more new → p ≤ℤ y →
    ahead p new others y x ≡ ahead z t rest y x
ahead_from z p y x t more new rest others k b m h =
    ap (λ u. covers new u x || is_in_some (record { x = x; y = y }) others) (max_is y p h)
    ∙ ap (λ u. u || is_in_some (record { x = x; y = y }) others) (m.points y x) ∙ b.adding.begun.points y x h
    ∙ ap (λ u. covers t u x || is_in_some (record { x = x; y = y }) rest) (sym (max_is y z (omega (arith, ints, k, h))))

later_below : (p : ℤ) (rects : List Rect) → BeginBelow (p +ℤ pos 1) rects → BeginBelow p rects
later_below p [] h = tt
later_below p (r ∷ rects) h = omega (arith, ints, h)

ahead_above : (z p y x : ℤ) (t more new : Cover) (rest others : List Rect) → HaveBegun z p rest t others more → y <ℤ p → ahead p new others y x ≡ covers new p x
ahead_above z p y x t more new rest others b h =
    let none : is_in_some (record { x = x; y = y }) others ≡ false = none_above others p y x b.adding.begun.ready.downward (later_below p others b.later) h in
    or_none (covers new (int_max y p) x) (is_in_some (record { x = x; y = y }) others) none ∙ ap (λ u. covers new u x) (max_other y p h)

begins_later : (z p : ℤ) (rest : List Rect) → BeginBelow z rest → BeginIn p rest → z ≤ℤ p
begins_later z p [] b e = absurd e
begins_later z p (r ∷ rest) b e = omega (arith, ints, b, e)

ends_at : (p : ℤ) (rest : List Rect) (bands : Bands) → EndsBeforeRects bands rest → BeginIn p rest → EndsBefore p bands
ends_at p [] bands b e = absurd e
ends_at p (r ∷ rest) bands b e = subst (λ y. EndsBefore y bands) e b

shape_back : (a b : Cover) → SameShape a b → SameShape b a
shape_back (Cell s) (Cell t) h = (sym h.0, sym h.1, sym h.2)
shape_back (Cell s) (Pair' t p l q r) h = absurd h
shape_back (Pair' s p l q r) (Cell t) h = absurd h
shape_back (Pair' s p l q r) (Pair' t p2 l2 q2 r2) h = ((sym h.0.0, sym h.0.1, sym h.0.2), shape_back l l2 h.1, shape_back r r2 h.2)

pub next_is_later : (z p steady : ℤ) (rest : List Rect) → BeginBelow z rest → z ≤ℤ steady → IsNextRow steady rest p → z ≤ℤ p
next_is_later z p steady rest b k n = elim n.here [ inl e ↦ omega (arith, ints, k, e) | inr e ↦ begins_later z p rest b e ]

ends_before_next : (z p steady : ℤ) (rest : List Rect) (bands : Bands) → EndsBefore (z +ℤ pos 1) bands → EndsBeforeRects bands rest → z ≤ℤ steady →
    IsNextRow steady rest p → EndsBefore p bands
ends_before_next z p steady rest bands a b k n = elim n.here [
  | inl e ↦ EndsBefore-later (z +ℤ pos 1) p bands a
      (omega (arith, ints, k, e))
  | inr e ↦ ends_at p rest bands b e
]

-- whether the columns changed can be seen from the numbers of covered cells
pub unchanged : (z p : ℤ) (t more new : Cover) (rest others : List Rect) → IsCover z t → z ≤ℤ p → HaveBegun z p rest t others more → IsMoved p more new →
    filled_in t z ≡ filled_in more z → filled_in more z ≡ filled_in new p → (x : ℤ) → covers new p x ≡ covers t z x
unchanged z p t more new rest others c h b m e f x =
    let i = b.adding.begun in
    let up : IsGrown t more z z = grown t more c.shaped i.cover.shaped i.shape z z (i.more z) in
    let down : IsGrown new more p z = grown new more m.cover.shaped i.cover.shaped (shape_back more new m.shape) p z
    (λ x k. covers_above more i.cover.shaped z p x h (sym (m.points p x) ∙ k)) in
    same_tests (covers new p x) (covers t z x) (λ k. up.same e x (covers_above more i.cover.shaped z p x h (sym (m.points p x) ∙ k)))
    (λ k. down.same (sym f) x (i.more z x k))

pub changed : (z p : ℤ) (t more new : Cover) (rest others : List Rect) → IsCover z t → z ≤ℤ p → HaveBegun z p rest t others more → IsMoved p more new →
    ((filled_in t z ≡ filled_in more z) × (filled_in more z ≡ filled_in new p) → ⊥) →
    ((x : ℤ) → covers new p x ≡ covers t z x) → ⊥
changed z p t more new rest others c h b m differ same =
    let i = b.adding.begun in
    let back : (x : ℤ) → covers more z x ≡ true → covers t z x ≡ true = λ x k. elim (i.begun z x k) [ inl o ↦ o | inr n ↦ sym (same x) ∙ m.points p x ∙ n ] in
    let up : IsGrown t more z z = grown t more c.shaped i.cover.shaped i.shape z z (i.more z) in
    let up_back : IsGrown more t z z = grown more t i.cover.shaped c.shaped (shape_back t more i.shape) z z back in
    let down : IsGrown new more p z = grown new more m.cover.shaped i.cover.shaped (shape_back more new m.shape) p z
    (λ x k. covers_above more i.cover.shaped z p x h (sym (m.points p x) ∙ k)) in
    let down_back : IsGrown more new z p = grown more new i.cover.shaped m.cover.shaped m.shape z p (λ x k. same x ∙ back x k) in
    differ (omega (arith, up.more, up_back.more), omega (arith, down.more, down_back.more))

none_past_last : (z p y x : ℤ) (t more : Cover) (rest others : List Rect) → HaveBegun z p rest t others more → p ≤ℤ y → pos 2147483647 ≤ℤ y →
    AllRects IsSolid rest → covers t y x ≡ false → covers more y x ≡ false
none_past_last z p y x t more rest others b h k s e =
    let none : is_in_some (record { x = x; y = y }) rest ≡ false = none_past rest y x s k in
    (or_parts (covers more y x) (is_in_some (record { x = x; y = y }) others)
    (b.adding.begun.points y x h ∙ ap (λ u. covers t y x || u) none ∙ ap (λ u. u || false) e)).0

ends_before_rects : (p : ℤ) (bands : Bands) (rects : List Rect) → EndsBefore (p +ℤ pos 1) bands → BeginBelow (p +ℤ pos 1) rects → EndsBeforeRects bands rects
ends_before_rects p bands [] h b = tt
ends_before_rects p bands (r ∷ rects) h b = EndsBefore-later (p +ℤ pos 1) r.top bands h b

-- what one turn finds, whatever becomes of the bands
pub record IsTurned (z p : ℤ) (t more new : Cover) (rest others : List Rect) : Type 0 where
  pub next : IsNextRow (strip_of t).steady rest p
  pub begun : HaveBegun z p rest t others more
  pub moved : IsMoved p more new

-- the scan after a turn, given the bands
turned : (rects : List Rect) (z p : ℤ) (t more new : Cover) (rest others : List Rect) (bands full : Bands) → IsScanned rects z t rest bands →
    IsTurned z p t more new rest others →
    ((x y : ℤ) → before_or has_column [] full (ahead p new others) y x ≡ is_in_some (record { x = x; y = y }) rects) →
    ((x : ℤ) → has_column (final_value [] full) x ≡ covers new p x) →
    IsReduced has_column [] full → AllValid IsColumns full → AllFit full → EndsBefore (p +ℤ pos 1) full → IsScanned rects p new others full
turned rects z p t more new rest others bands full s t1 points now reduced values fits ends =
    let k : z ≤ℤ p = next_is_later z p (strip_of t).steady rest s.below s.steady t1.next in
    let i = t1.begun.adding.begun in
    let a : SameStrip (strip_of t) (strip_of more) = same_strip t more i.shape in
    let b : SameStrip (strip_of more) (strip_of new) = same_strip more new t1.moved.shape in
    record {
      points = points;
      now = now;
      reduced = reduced;
      values = values;
      fits = fits;
      ends = ends;
      before = ends_before_rects p full others ends t1.begun.later;
      cover = t1.moved.cover;
      steady = t1.moved.steady;
      ready = record { solid = i.ready.solid; downward = i.ready.downward; edges = edges_same more new others t1.moved.shape i.ready.edges };
      below = later_below p others t1.begun.later;
      first = omega (arith, ints, s.first, k);
      last = t1.next.last;
      ended = λ y x h. t1.moved.points y x
          ∙ none_past_last z p y x t more rest others t1.begun (omega (arith, ints, h, t1.next.last)) h s.ready.solid (s.ended y x h);
      from = omega (arith, ints, s.from, a.0, b.0);
      to = omega (arith, ints, s.to, a.1, b.1);
    }

-- a turn that changes no column
pub turned_same : (rects : List Rect) (z p : ℤ) (t more new : Cover) (rest others : List Rect) (bands : Bands) → IsScanned rects z t rest bands →
    IsTurned z p t more new rest others → filled_in t z ≡ filled_in more z → filled_in more z ≡ filled_in new p →
    IsScanned rects p new others bands
turned_same rects z p t more new rest others bands s t1 e f =
    let k : z ≤ℤ p = next_is_later z p (strip_of t).steady rest s.below s.steady t1.next in
    let same = unchanged z p t more new rest others s.cover k t1.begun t1.moved e f in
    turned rects z p t more new rest others bands bands s t1
    (λ x y. before_or-same has_column [] bands (ahead p new others) (ahead z t rest) (λ y x. elim (at_or_before y p) [
      | inl h ↦ ahead_above z p y x t more new rest others t1.begun h ∙ same x ∙ sym (ahead_before rects z p y x t rest bands s t1.next h)
      | inr h ↦ ahead_from z p y x t more new rest others k t1.begun t1.moved h
    ]) y x ∙ s.points x y)
    (λ x. s.now x ∙ sym (same x)) s.reduced s.values s.fits (EndsBefore-later (z +ℤ pos 1) (p +ℤ pos 1) bands s.ends (omega (arith, ints, k)))

turned_columns : (rects : List Rect) (z p : ℤ) (t more new : Cover) (rest others : List Rect) (bands : Bands) → IsScanned rects z t rest bands →
    IsTurned z p t more new rest others → IsColumns (columns_in new p)
turned_columns rects z p t more new rest others bands s t1 =
    let a : SameStrip (strip_of t) (strip_of more) = same_strip t more t1.begun.adding.begun.shape in
    let b : SameStrip (strip_of more) (strip_of new) = same_strip more new t1.moved.shape in
    columns_are new t1.moved.cover.shaped p (omega (arith, ints, s.from, a.0, b.0)) (omega (arith, ints, s.to, a.1, b.1))

turned_fits : (rects : List Rect) (z p : ℤ) (t more new : Cover) (rest others : List Rect) (bands : Bands) → IsScanned rects z t rest bands →
    IsTurned z p t more new rest others → FitsSigned w32 p
turned_fits rects z p t more new rest others bands s t1 =
    let k : z ≤ℤ p = next_is_later z p (strip_of t).steady rest s.below s.steady t1.next in fits_between p (omega (arith, ints, s.first, k)) t1.next.last

-- a turn that changes some
pub turned_new : (rects : List Rect) (z p : ℤ) (t more new : Cover) (rest others : List Rect) (bands : Bands) → IsScanned rects z t rest bands →
    IsTurned z p t more new rest others →
    ((filled_in t z ≡ filled_in more z) × (filled_in more z ≡ filled_in new p) → ⊥) →
    IsScanned rects p new others (bands ++ record { from = p; value = columns_in new p } ∷ [])
turned_new rects z p t more new rest others bands s t1 differ =
    let k : z ≤ℤ p = next_is_later z p (strip_of t).steady rest s.below s.steady t1.next in
    let b : Step Columns = record { from = p; value = columns_in new p } in
    let hold : (x : ℤ) → has_column (columns_in new p) x ≡ covers new p x = columns_hold new t1.moved.cover.shaped p in
    let ends : EndsBefore p bands = ends_before_next z p (strip_of t).steady rest bands s.ends s.before s.steady t1.next in
    turned rects z p t more new rest others bands (bands ++ b ∷ []) s t1
    (λ x y. before_or-push has_column [] bands b (ahead p new others) y x
    ∙ before_or-same has_column [] bands _ (ahead z t rest) (λ y x. sym (by_place y p _ _ _
    (λ h. ahead_before rects z p y x t rest bands s t1.next h ∙ sym (s.now x))
    (λ h. sym (ahead_from z p y x t more new rest others k t1.begun t1.moved h)))) y x ∙ s.points x y)
    (λ x. ap (λ v. has_column v x) (final_value-push [] bands b) ∙ hold x)
    (IsReduced-push has_column [] bands b s.reduced ends
    (λ same. changed z p t more new rest others s.cover k t1.begun t1.moved differ (λ x. sym (hold x) ∙ same x ∙ s.now x)))
    (AllValid-push IsColumns bands b s.values (turned_columns rects z p t more new rest others bands s t1))
    (AllFit-push bands b s.fits (turned_fits rects z p t more new rest others bands s t1))
    (EndsBefore-push (p +ℤ pos 1) bands b (EndsBefore-later p (p +ℤ pos 1) bands ends (omega (arith, ints))) (omega (arith, ints)))

-- a band can be put after the others
turned_takes : (rects : List Rect) (z p : ℤ) (t more new : Cover) (rest others : List Rect) (bands : Bands) → IsScanned rects z t rest bands →
    IsTurned z p t more new rest others → CanTake IsColumns p bands
turned_takes rects z p t more new rest others bands s t1 = record {
  ordered = reduced_is_ordered has_column [] bands s.reduced;
  values = s.values;
  fits = s.fits;
  before = ends_before_next z p (strip_of t).steady rest bands s.ends s.before s.steady t1.next;
}

-- a number of 64 bits holds the count of the bands with one more
room_after : (rects : List Rect) (z p : ℤ) (t more new : Cover) (rest others : List Rect) (bands : Bands) (count : ℕ) → IsScanned rects z t rest bands →
    IsTurned z p t more new rest others → count ≡ rect_count bands → count + (strip_of new).row.runs < 2 ^ 64
room_after rects z p t more new rest others bands count s t1 k =
    let b : Step Columns = record { from = p; value = columns_in new p } in
    let take = turned_takes rects z p t more new rest others bands s t1 in
    let n = count_fits (bands ++ b ∷ []) (IsOrdered-push bands b take.ordered take.before)
    (AllFit-push bands b s.fits (turned_fits rects z p t more new rest others bands s t1))
    (AllValid-push IsColumns bands b s.values (turned_columns rects z p t more new rest others bands s t1)) in
    let m = rect_count-push bands b in
    let r = told_runs p new (strip_of new) t1.moved.cover t1.moved.steady refl in
    omega (arith, n, m, r, k)

none_below : (t : Cover) → IsShaped t → (z y x : ℤ) → z ≤ℤ y → covers t z x ≡ false → covers t y x ≡ false
none_below t h z y x k e = elim (cases_Bool (covers t y x)) [ inl c ↦ absurd (false≢true (sym e ∙ covers_above t h z y x k c)) | inr c ↦ c ]

all_columns : (bands : Bands) → AllValid IsColumns bands → AllValid HasColumns bands
all_columns [] h = tt
all_columns (b ∷ bands) h = (h.0.columns, all_columns bands h.1)

no_ends : (rects : List Rect) → EndsBeforeRects [] rects
no_ends [] = tt
no_ends (r ∷ rects) = tt

-- where nothing changes any more, nothing is covered, and the bands hold all
pub scanned_all : (rects : List Rect) (z : ℤ) (t : Cover) (rest : List Rect) (bands : Bands) → IsScanned rects z t rest bands → rest ≡ [] →
    (strip_of t).steady ≡ pos 2147483647 → AreCanonical bands × ((p : Point) → has_point bands p ≡ is_in_some p rects)
scanned_all rects z t rest bands s e k =
    let bare : (x : ℤ) → covers t z x ≡ false = λ x. sym (steady_same z (pos 2147483647) x t s.cover s.last (omega (arith, ints, k)))
    ∙ s.ended (pos 2147483647) x (omega (arith, ints)) in
    let below : (y x : ℤ) → ahead z t rest y x ≡ has_column (final_value [] bands) x = λ y x.
    ap (λ u. covers t (int_max y z) x || is_in_some (record { x = x; y = y }) u) e ∙ or_none (covers t (int_max y z) x) false refl
    ∙ none_below t s.cover.shaped z (int_max y z) x (omega (arith, ints, clamps)) (bare x) ∙ sym (s.now x ∙ bare x) in (
      record {
        canonical = record {
          reduced = s.reduced;
          values = all_columns bands s.values;
          ends = same_columns (final_value [] bands) [] (final_is_valid IsColumns [] bands held_no_columns s.values).columns no_columns (λ x. s.now x ∙ bare x);
        };
        values = s.values;
      },
      λ p. sym (before_or-end has_column [] bands p.y p.x)
          ∙ before_or-same has_column [] bands (λ y x. has_column (final_value [] bands) x) (ahead z t rest) (λ y x. sym (below y x)) p.y p.x
          ∙ s.points p.x p.y,
    )

-- a band more, with which they are too many
pub counted_past : (bands : Bands) (old new : BandList) (runs : ℕ) (b : Step Columns) → IsCounted old bands → runs ≡ run_count b.value →
    new.count ≡ old.count + runs → old.most < old.count + runs → new.most ≡ old.most → new.ended ≡ 0 → IsCounted new (bands ++ b ∷ [])
counted_past bands old new runs b k r count many most ended = record {
  number = let m = rect_count-push bands b in omega (arith, m, r, count, k.number);
  within = omega (arith, ended);
  few = λ few. absurd (omega (arith, few, many, count, most));
}

-- before the first turn
pub scanned_none : (rects : List Rect) (edges : List ℤ) (r : Rect) (others : List Rect) (t : Cover) → rects ≡ r ∷ others → All IsSolid rects →
    AreDownward rects → IsOver edges t → All (HasBothEdges edges) rects → IsScanned rects r.top t rects []
scanned_none rects edges r others t e solid down o both =
    let all = all_rects IsSolid rects solid in
    let top : IsSolid r = (subst (AllRects IsSolid) e all).0 in
    record {
      points = λ x y. ap (λ u. u || is_in_some (record { x = x; y = y }) rects) (o.bare (int_max y r.top) x (omega (arith, ints, clamps, top.top)));
      now = λ x. sym (o.bare r.top x top.top);
      reduced = tt;
      values = tt;
      fits = tt;
      ends = tt;
      before = no_ends rects;
      cover = record { shaped = o.cover.shaped; seen = seen_later (negsuc 2147483647) r.top t top.top o.cover.seen };
      steady = omega (arith, ints, o.steady, top.points.down, top.bottom);
      ready = record { solid = all; downward = down; edges = has_edges edges t rects o (all_rects (HasBothEdges edges) rects both) };
      below = subst (BeginBelow r.top) (sym e) (omega (arith, ints));
      first = top.top;
      last = omega (arith, ints, top.points.down, top.bottom);
      ended = λ y x h. o.bare y x (omega (arith, ints, h));
      from = omega (arith, ints, o.from_fits);
      to = omega (arith, ints, o.to_fits);
    }

-- how many rows there can be below one
abbrev pub rows_below : ℤ → ℕ
rows_below (pos n) = 2147483648 - n
rows_below (negsuc n) = 2147483649 + n

pub rows_fall : (z p : ℤ) → z <ℤ p → p ≤ℤ pos 2147483647 → rows_below p < rows_below z
rows_fall (pos m) (pos n) h k = omega (arith, ints, h, k)
rows_fall (pos m) (negsuc n) h k = absurd (omega (arith, ints, h))
rows_fall (negsuc m) (pos n) h k = omega (arith, ints, h, k)
rows_fall (negsuc m) (negsuc n) h k = omega (arith, ints, h)

rows_le : (z p : ℤ) → z ≤ℤ p → p ≤ℤ pos 2147483647 → rows_below p ≤ rows_below z
rows_le z p h k = elim (at_or_before z p) [
  | inl b ↦ let n = rows_fall z p b k in omega (arith, n)
  | inr e ↦ let same : z ≡ p = omega (arith, ints, h, e) in subst (λ u. rows_below u ≤ rows_below z) same (omega arith)
]

not_begun : (p : ℤ) (rests others : List Rect) → others ≡ rests → BeginBelow (p +ℤ pos 1) others → BeginIn p rests → ⊥
not_begun p [] others e b h = h
not_begun p (r ∷ rests) others e b h = let c = subst (BeginBelow (p +ℤ pos 1)) e b in omega (arith, ints, c, h)

-- each turn leaves fewer rectangles or rows
pub turn_falls : (rects : List Rect) (z p : ℤ) (t more new : Cover) (rest others : List Rect) (bands : Bands) → IsScanned rects z t rest bands →
    IsTurned z p t more new rest others → length others + rows_below p < length rest + rows_below z
turn_falls rects z p t more new rest others bands s t1 =
    let k : z ≤ℤ p = next_is_later z p (strip_of t).steady rest s.below s.steady t1.next in
    let rows = rows_le z p k t1.next.last in
    elim t1.begun.adding.fewer [
      | inl e ↦ elim t1.next.here [
        | inl h ↦
            let less = rows_fall z p (omega (arith, ints, h, s.steady)) t1.next.last in
            let same = ap length e in omega (arith, less, same)
        | inr h ↦ absurd (not_begun p rest others e t1.begun.later h)
      ]
      | inr l ↦ omega (arith, l, rows)
    ]

-- other rectangles with the same points
pub scanned_for : (sorted rects : List Rect) (z : ℤ) (t : Cover) (rest : List Rect) (bands : Bands) → ((p : Point) → is_in_some p sorted ≡ is_in_some p rects) →
    IsScanned sorted z t rest bands → IsScanned rects z t rest bands
scanned_for sorted rects z t rest bands same s = record {
  points = λ x y. s.points x y ∙ same (record { x = x; y = y });
  now = s.now;
  reduced = s.reduced;
  values = s.values;
  fits = s.fits;
  ends = s.ends;
  before = s.before;
  cover = s.cover;
  steady = s.steady;
  ready = s.ready;
  below = s.below;
  first = s.first;
  last = s.last;
  ended = s.ended;
  from = s.from;
  to = s.to;
}

-- the same with the names that code has

pub turn_of : (z p : ℤ) (t more new : Cover) (rest others : List Rect) (s : Strip) → s ≡ strip_of t → IsNextRow s.steady rest p →
    HaveBegun z p rest t others more → IsMoved p more new → IsTurned z p t more new rest others
turn_of z p t more new rest others s e n b m = record { next = subst (λ u. IsNextRow u.steady rest p) e n; begun = b; moved = m }

pub filled_as : (z : ℤ) (t : Cover) (s : Strip) → IsCover z t → z ≤ℤ (strip_of t).steady → s ≡ strip_of t → s.row.filled ≡ filled_in t z
filled_as z t s c k e = ap (λ u. u.row.filled) e ∙ (told z t c.seen z (omega (arith, ints)) k).filled

pub into_same : (rects : List Rect) (z p : ℤ) (t more new : Cover) (rest others : List Rect) (list : BandList) (a b c : Strip) →
    IsScannedInto rects z t rest list → IsTurned z p t more new rest others → a ≡ strip_of t → b ≡ strip_of more → c ≡ strip_of new →
    a.row.filled ≡ b.row.filled → b.row.filled ≡ c.row.filled → IsScannedInto rects p new others list
into_same rects z p t more new rest others list a b c i t1 ea eb ec f g =
    let s = i.scanned in
    let begun = t1.begun.adding.begun in
    let first = filled_as z t a s.cover s.steady ea in
    let second = filled_as z more b begun.cover (begun.steady s.steady) eb in
    let third = filled_as p new c t1.moved.cover t1.moved.steady ec in
    record {
      bands = i.bands;
      scanned = turned_same rects z p t more new rest others i.bands s t1 (sym first ∙ f ∙ second) (sym second ∙ g ∙ third);
      counted = i.counted;
      limit = i.limit;
    }

pub into_new : (rects : List Rect) (z p : ℤ) (t more new : Cover) (rest others : List Rect) (list next : BandList) (a b c : Strip) →
    IsScannedInto rects z t rest list → IsTurned z p t more new rest others → a ≡ strip_of t → b ≡ strip_of more → c ≡ strip_of new →
    ((a.row.filled ≡ b.row.filled) × (b.row.filled ≡ c.row.filled) → ⊥) →
    ((lists : Bands) → IsCounted list lists → CanTake IsColumns p lists →
    IsCounted next (lists ++ record { from = p; value = columns_in new p } ∷ [])) → next.most ≡ list.most → IsScannedInto rects p new others next
into_new rects z p t more new rest others list next a b c i t1 ea eb ec differ count same =
    let s = i.scanned in
    let begun = t1.begun.adding.begun in
    let first = filled_as z t a s.cover s.steady ea in
    let second = filled_as z more b begun.cover (begun.steady s.steady) eb in
    let third = filled_as p new c t1.moved.cover t1.moved.steady ec in
    record {
      bands = i.bands ++ record { from = p; value = columns_in new p } ∷ [];
      scanned = turned_new rects z p t more new rest others i.bands s t1 (λ e. differ (first ∙ e.0 ∙ sym second, second ∙ e.1 ∙ sym third));
      counted = count i.bands i.counted (turned_takes rects z p t more new rest others i.bands s t1);
      limit = same ∙ i.limit;
    }

pub into_room : (rects : List Rect) (z p : ℤ) (t more new : Cover) (rest others : List Rect) (list : BandList) → IsScannedInto rects z t rest list →
    IsTurned z p t more new rest others → list.count + (strip_of new).row.runs < 2 ^ 64
into_room rects z p t more new rest others list i t1 = room_after rects z p t more new rest others i.bands list.count i.scanned t1 i.counted.number

pub into_columns : (rects : List Rect) (z p : ℤ) (t more new : Cover) (rest others : List Rect) (list : BandList) → IsScannedInto rects z t rest list →
    IsTurned z p t more new rest others → IsColumns (columns_in new p)
into_columns rects z p t more new rest others list i t1 = turned_columns rects z p t more new rest others i.bands i.scanned t1

pub into_counted : (rects : List Rect) (z p : ℤ) (t more new : Cover) (rest others : List Rect) (list : BandList) → IsScannedInto rects z t rest list →
    IsTurned z p t more new rest others → (lists : Bands) × IsCounted list lists × CanTake IsColumns p lists
into_counted rects z p t more new rest others list i t1 =
    (i.bands, i.counted, turned_takes rects z p t more new rest others i.bands i.scanned t1)

pub into_falls : (rects : List Rect) (z p : ℤ) (t more new : Cover) (rest others : List Rect) (list : BandList) → IsScannedInto rects z t rest list →
    IsTurned z p t more new rest others → length others + rows_below p < length rest + rows_below z
into_falls rects z p t more new rest others list i t1 = turn_falls rects z p t more new rest others i.bands i.scanned t1

pub into_seen : (rects : List Rect) (z p : ℤ) (t more : Cover) (rest others : List Rect) (list : BandList) (s : Strip) → IsScannedInto rects z t rest list →
    s ≡ strip_of t → IsNextRow s.steady rest p → HaveBegun z p rest t others more → IsCover p more
into_seen rects z p t more rest others list s i e n b =
    let k : z ≤ℤ p = next_is_later z p (strip_of t).steady rest i.scanned.below i.scanned.steady (subst (λ u. IsNextRow u.steady rest p) e n) in
    record { shaped = b.adding.begun.cover.shaped; seen = seen_later z p more k b.adding.begun.cover.seen }

pub into_none : (rects sorted : List Rect) (edges : List ℤ) (t : Cover) (list : BandList) (z : ℤ) → 1 ≤ length sorted → z ≡ (get_or sorted 0 no_rect).top →
    IsArranged rects sorted → IsOver edges t → All (HasBothEdges edges) sorted → IsKept list [] → list.most ≡ most_rects →
    IsScannedInto rects z t sorted list
into_none rects sorted edges t list z n ez a o both kept most =
    let e = first_of sorted no_rect n in
    record {
      bands = [];
      scanned = scanned_for sorted rects z t sorted [] a.points
          (subst (λ u. IsScanned sorted u t sorted []) (sym ez)
          (scanned_none sorted edges (get_or sorted 0 no_rect) (drop 1 sorted) t e a.solid a.downward o both));
      counted = kept_is_counted list [] kept;
      limit = most;
    }

pub into_all : (rects : List Rect) (z : ℤ) (t : Cover) (rest : List Rect) (list : BandList) (s : Strip) → IsScannedInto rects z t rest list → s ≡ strip_of t →
    rest ≡ [] → s.steady ≡ pos 2147483647 →
    IsBuilt most_rects (λ p. is_in_some p rects) list
into_all rects z t rest list s i e none last =
    let all = scanned_all rects z t rest i.bands i.scanned none (ap (λ u. u.steady) (sym e) ∙ last) in
    record { bands = i.bands; counted = i.counted; limit = i.limit; canonical = all.0; points = all.1 }

pub first_edges : (rects sorted : List Rect) (edges : List ℤ) → 1 ≤ length sorted → IsArranged rects sorted → All (HasBothEdges edges) sorted → 2 ≤ length edges
first_edges rects sorted edges n a both =
    let solid : IsSolid (get_or sorted 0 no_rect) = All-get_or IsSolid sorted 0 no_rect (omega (arith, n)) a.solid in
    let here : HasBothEdges edges (get_or sorted 0 no_rect) = All-get_or (HasBothEdges edges) sorted 0 no_rect (omega (arith, n)) both in
    two_edges edges (get_or sorted 0 no_rect).left (get_or sorted 0 no_rect).right solid.points.across here.left here.right
