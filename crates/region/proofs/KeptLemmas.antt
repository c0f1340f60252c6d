-- Bands whose rectangles are counted and kept.
use Rattle.std.proofs.Common.{◌≡◌, ◌∙◌, ℕ, ℤ, ◌+◌, ◌≤◌, List, [], ◌∷◌, ◌++◌, map, length, take, drop, pos, Bool, refl, ap, sym, subst, arith}
use Rattle.std.proofs.Common.{length-append, append-nil, append_assoc, take-append-drop, ◌<◌, ◌^◌, FitsSigned, w32}
use Rattle.geom_base.specs.declared.point.Point.{Point}
use Rattle.geom_base.specs.declared.rect.Rect.{Rect}
use Rattle.region.specs.declared.span.Span.{Span}
use Rattle.region.specs.declared.band_list.BandList.{BandList}
use Rattle.region.specs.Steps.{Step, final_value}
use Rattle.region.specs.Columns.{Columns, has_column}
use Rattle.region.specs.Band.{Bands, row_rects, rects_of}
use Rattle.region.specs.Spans.{rects_of_spans}
use Rattle.region.specs.Region.{IsRegionOf}
use Rattle.region.specs.InnerSpanList.{span_steps}
use Rattle.region.specs.InnerBandList.{ended_at, run_count, rect_count, IsKept, IsCounted, IsBuilt}
use Rattle.region.specs.InnerSpanList.{span_of}
use Rattle.region.proofs.StepLemmas.{final_is_valid, final_value-push, IsOrdered-push, AllFit-push, AllValid-push}
use Rattle.region.proofs.CountLemmas.{rects_are_counted, rect_count-push, count_fits}
use Rattle.region.specs.InnerColumns.{IsColumns}
use Rattle.region.specs.InnerSweep.{AreStepsOf, CanTake, IsPut}
use Rattle.region.proofs.RegionLemmas.{held_no_columns, no_columns, values_of, region_of_canonical, region_same}
use Rattle.region.proofs.UniqueLemmas.{same_columns}
use Rattle.std.proofs.lemmas.List.{length-map, map-append, take_more}
use Rattle.std.proofs.Common.{◌⊎◌, inl, inr, get_or}

-- the rectangles of a row of spans
pub spans_are_listed : (top bottom : ℤ) (spans : List Span) → row_rects top bottom (span_steps spans) ≡ rects_of_spans top bottom spans
spans_are_listed top bottom [] = refl
spans_are_listed top bottom (s ∷ []) = refl
spans_are_listed top bottom (s ∷ t ∷ spans) = ap (λ u. record { left = s.left; top = top; right = s.right; bottom = bottom } ∷ u)
    (spans_are_listed top bottom (t ∷ spans))

pub spans_are_counted : (spans : List Span) → run_count (span_steps spans) ≡ length spans
spans_are_counted [] = refl
spans_are_counted (s ∷ spans) = let rest = spans_are_counted spans in omega (arith, rest)

pub span_steps_same : (a b : List Span) → span_steps a ≡ span_steps b → a ≡ b
span_steps_same [] [] e = refl
span_steps_same [] (t ∷ b) e = absurd (omega (arith, ap length e))
span_steps_same (s ∷ a) [] e = absurd (omega (arith, ap length e))
span_steps_same (s ∷ a) (t ∷ b) e =
    let left : s.left ≡ t.left = ap (first_place s.left) e in
    let right : s.right ≡ t.right = ap (λ l. first_place s.left (rest_of l)) e in
    let rest : span_steps a ≡ span_steps b = ap (λ l. rest_of (rest_of l)) e in
    ap (λ x. record { left = x; right = s.right } ∷ a) left ∙ ap (λ x. record { left = t.left; right = x } ∷ a) right ∙ ap (λ l. t ∷ l) (span_steps_same a b rest)
  where
    first_place : ℤ → Columns → ℤ
    first_place z [] = z
    first_place z (s ∷ steps) = s.from

    rest_of : Columns → Columns
    rest_of [] = []
    rest_of (s ∷ steps) = steps

no_spans : (spans : List Span) → [] ≡ span_steps spans → spans ≡ []
no_spans [] e = refl
no_spans (s ∷ spans) e = absurd (omega (arith, ap length e))

-- bands with a step more at the end
closed : (bands : Bands) (s : Step Columns) → final_value [] bands ≡ [] → rects_of (bands ++ s ∷ []) ≡ rects_of bands
closed [] s e = refl
closed (b ∷ []) s e = rw e refl
closed (b ∷ c ∷ bands) s e = ap (λ u. row_rects b.from c.from b.value ++ u) (closed (c ∷ bands) s e)

one_more : (bands : Bands) (s t : Step Columns) →
    rects_of ((bands ++ s ∷ []) ++ t ∷ []) ≡ rects_of (bands ++ s ∷ []) ++ row_rects s.from t.from s.value
one_more [] s t = append-nil (row_rects s.from t.from s.value)
one_more (b ∷ []) s t =
    ap (λ u. row_rects b.from s.from b.value ++ u) (append-nil (row_rects s.from t.from s.value))
    ∙ ap (λ u. u ++ row_rects s.from t.from s.value) (sym (append-nil (row_rects b.from s.from b.value)))
one_more (b ∷ c ∷ bands) s t =
    ap (λ u. row_rects b.from c.from b.value ++ u) (one_more (c ∷ bands) s t)
    ∙ sym (append_assoc (row_rects b.from c.from b.value) (rects_of ((c ∷ bands) ++ s ∷ [])) (row_rects s.from t.from s.value))

-- parts of a list
take_all : (a b : List Rect) → take (length a) (a ++ b) ≡ a
take_all [] b = refl
take_all (r ∷ a) b = ap (λ u. r ∷ u) (take_all a b)

drop_all : (a b : List Rect) → drop (length a) (a ++ b) ≡ b
drop_all [] b = refl
drop_all (r ∷ a) b = drop_all a b

ended_spans : (from top place : ℤ) (spans : List Span) → map (ended_at place) (rects_of_spans top from spans) ≡ rects_of_spans top place spans
ended_spans from top place [] = refl
ended_spans from top place (s ∷ spans) = ap (λ u. record { left = s.left; top = top; right = s.right; bottom = place } ∷ u) (ended_spans from top place spans)

-- no bands
pub kept_none : (list : BandList) → list.count ≡ 0 → list.ended ≡ 0 → list.rects.items ≡ [] → IsKept list []
kept_none list count ended items = record {
  row = [];
  from = pos 0;
  number = count;
  within = rw (ended, items) (omega arith);
  value = refl;
  last = rw (ended, items) refl;
  all = λ few to columns. sym (ap (λ n. take n list.rects.items ++ []) ended ∙ ap (λ l. take 0 l ++ []) items);
}

-- what is kept hangs on these alone
pub kept_alike : (old new : BandList) (bands : Bands) → new.rects.items ≡ old.rects.items → new.ended ≡ old.ended → new.count ≡ old.count →
    new.most ≡ old.most → IsKept old bands → IsKept new bands
kept_alike old new bands items ended count most k = record {
  row = k.row;
  from = k.from;
  number = count ∙ k.number;
  within = rw (items, ended) k.within;
  value = k.value;
  last = ap (λ n. drop n new.rects.items) ended ∙ ap (drop old.ended) items ∙ k.last;
  all = λ few to columns. k.all (rw (sym count, sym most) few) to columns
      ∙ ap (λ l. take old.ended l ++ rects_of_spans k.from to k.row) (sym items)
      ∙ ap (λ n. take n new.rects.items ++ rects_of_spans k.from to k.row) (sym ended);
}

-- a band with these spans was begun at a row, after these rectangles: those of the bands before it, where they are not too many
pub record HasBegun (old new : BandList) (place : ℤ) (spans : List Span) (before : List Rect) : Type 0 where
  pub count : new.count ≡ old.count + length spans
  pub most : new.most ≡ old.most
  pub items : new.rects.items ≡ before ++ rects_of_spans place place spans
  pub ended : new.ended ≡ length before
  pub few : new.count ≤ old.most → before ≡ take old.ended old.rects.items ++ map (ended_at place) (drop old.ended old.rects.items)

within_more : (old new : BandList) (place : ℤ) (spans : List Span) (before : List Rect) → HasBegun old new place spans before →
    new.ended ≤ length new.rects.items
within_more old new place spans before b = subst (λ n. n ≤ length new.rects.items) (sym b.ended) (subst (λ l. length before ≤ length l) (sym b.items)
    (let n = length-append before (rects_of_spans place place spans) in omega (arith, n)))

number_more : (old new : BandList) (bands : Bands) (place : ℤ) (spans : List Span) (before : List Rect) → HasBegun old new place spans before →
    old.count ≡ rect_count bands → new.count ≡ rect_count (bands ++ record { from = place; value = span_steps spans } ∷ [])
number_more old new bands place spans before b number =
    let m = rect_count-push bands (record { from = place; value = span_steps spans }) in
    let l = spans_are_counted spans in
    omega (arith, m, l, b.count, number)

pub kept_more : (old new : BandList) (bands : Bands) (place : ℤ) (spans : List Span) (before : List Rect) → HasBegun old new place spans before →
    IsKept old bands → IsKept new (bands ++ record { from = place; value = span_steps spans } ∷ [])
kept_more old new bands place spans before b k =
    let step : Step Columns = record { from = place; value = span_steps spans } in
    record {
      row = spans;
      from = place;
      number = number_more old new bands place spans before b k.number;
      within = within_more old new place spans before b;
      value = final_value-push [] bands step;
      last = ap (λ n. drop n new.rects.items) b.ended ∙ ap (drop (length before)) b.items ∙ drop_all before (rects_of_spans place place spans);
      all = λ few to columns.
          let few_then : new.count ≤ old.most = subst (λ n. new.count ≤ n) b.most few in
          let whole : before ≡ rects_of (bands ++ step ∷ []) =
          b.few few_then
          ∙ ap (λ l. take old.ended old.rects.items ++ map (ended_at place) l) k.last
          ∙ ap (λ l. take old.ended old.rects.items ++ l) (ended_spans k.from k.from place k.row)
          ∙ sym (k.all (omega (arith, b.count, few_then)) place (span_steps spans)) in
          one_more bands step (record { from = to; value = columns })
          ∙ ap (λ u. rects_of (bands ++ step ∷ []) ++ u) (spans_are_listed place to spans)
          ∙ ap (λ u. u ++ rects_of_spans place to spans) (sym whole ∙ sym (take_all before (rects_of_spans place place spans))
          ∙ ap (take (length before)) (sym b.items) ∙ ap (λ n. take n new.rects.items) (sym b.ended));
    }

pub counted_more : (old new : BandList) (bands : Bands) (place : ℤ) (spans : List Span) (before : List Rect) → HasBegun old new place spans before →
    IsCounted old bands → IsCounted new (bands ++ record { from = place; value = span_steps spans } ∷ [])
counted_more old new bands place spans before b k = record {
  number = number_more old new bands place spans before b k.number;
  within = within_more old new place spans before b;
  few = λ few. kept_more old new bands place spans before b
      (k.few (let m : new.count ≤ old.most = subst (λ n. new.count ≤ n) b.most few in omega (arith, b.count, m)));
}

-- a number of 64 bits has room for a band more
pub counted_room : (list : BandList) (bands : Bands) (place : ℤ) (spans : List Span) → IsCounted list bands → CanTake IsColumns place bands →
    IsColumns (span_steps spans) → FitsSigned w32 place → list.count + length spans < 2 ^ 64
counted_room list bands place spans k take columns fits =
    let b : Step Columns = record { from = place; value = span_steps spans } in
    let n = count_fits (bands ++ b ∷ []) (IsOrdered-push bands b take.ordered take.before) (AllFit-push bands b take.fits fits)
    (AllValid-push IsColumns bands b take.values columns) in
    let m = rect_count-push bands b in
    let l = spans_are_counted spans in
    omega (arith, n, m, l, k.number)

-- what is kept is counted
pub kept_is_counted : (list : BandList) (bands : Bands) → IsKept list bands → IsCounted list bands
kept_is_counted list bands k = record { number = k.number; within = k.within; few = λ few. k }

-- the list of counted bands that are few
built_rects : (most : ℕ) (set : Point → Bool) (list : BandList) → list.count ≤ most → (b : IsBuilt most set list) → list.rects.items ≡ rects_of b.bands
built_rects most set list few b =
    let kept = b.counted.few (subst (λ n. list.count ≤ n) (sym b.limit) few) in
    let none : kept.row ≡ [] = no_spans kept.row (sym b.canonical.canonical.ends ∙ kept.value) in
    sym (take-append-drop list.ended list.rects.items)
    ∙ ap (λ l. take list.ended list.rects.items ++ l) (kept.last ∙ ap (rects_of_spans kept.from kept.from) none)
    ∙ ap (λ l. take list.ended list.rects.items ++ rects_of_spans kept.from kept.from l) (sym none)
    ∙ sym (kept.all (subst (λ n. list.count ≤ n) (sym b.limit) few) kept.from [])
    ∙ closed b.bands _ b.canonical.canonical.ends

pub built_region : (most : ℕ) (set : Point → Bool) (list : BandList) → list.count ≤ most → IsBuilt most set list → IsRegionOf set list.rects.items
built_region most set list few b =
    subst (IsRegionOf set) (sym (built_rects most set list few b)) (region_same _ set b.points _ (region_of_canonical b.bands b.canonical.canonical))

pub built_count : (most : ℕ) (set : Point → Bool) (list : BandList) → list.count ≤ most → IsBuilt most set list → list.count ≡ length list.rects.items
built_count most set list few b = b.counted.number ∙ sym (rects_are_counted b.bands b.canonical.canonical)
    ∙ ap length (sym (built_rects most set list few b))

-- the rectangles of a row of spans, one by one
pub rects_next : (top bottom : ℤ) (spans : List Span) (i : ℕ) (d : Span) → i < length spans →
    rects_of_spans top bottom (take (i + 1) spans) ≡ rects_of_spans top bottom (take i spans) ++
    record { left = (get_or spans i d).left; top = top; right = (get_or spans i d).right; bottom = bottom } ∷ []
rects_next top bottom spans i d lt = ap (rects_of_spans top bottom) (take_more spans i d lt) ∙ map-append _ (take i spans) (get_or spans i d ∷ [])

spans_back : (top bottom : ℤ) (spans : List Span) → map span_of (rects_of_spans top bottom spans) ≡ spans
spans_back top bottom [] = refl
spans_back top bottom (s ∷ spans) = ap (λ l. s ∷ l) (spans_back top bottom spans)

le_or_lt : (a b : ℕ) → (a ≤ b) ⊎ (b < a)
le_or_lt a b = grind arith

-- what is left of the rectangles where a band begins
pub begun_ended : (old ended added : BandList) (place : ℤ) (more : ℕ) → old.ended ≤ length old.rects.items →
    ended.rects.items ≡ take old.ended old.rects.items ++ map (ended_at place) (drop old.ended old.rects.items) → ended.ended ≡ length old.rects.items →
    (ended.count + more ≤ ended.most → (added.rects.items ≡ ended.rects.items) × (added.ended ≡ ended.ended)) →
    (ended.most < ended.count + more → (added.rects.items ≡ []) × (added.ended ≡ 0)) → added.ended ≡ length added.rects.items
begun_ended old ended added place more within items end few many = elim (le_or_lt (ended.count + more) ended.most) [
  | inl h ↦
      let f = few h in
      let n = length-append (take old.ended old.rects.items) (map (ended_at place) (drop old.ended old.rects.items)) in
      let m = length-map (drop old.ended old.rects.items) (ended_at place) in
      let whole = length-append (take old.ended old.rects.items) (drop old.ended old.rects.items) in
      let same : length ended.rects.items ≡ length old.rects.items =
      ap length items ∙ n ∙ ap (λ k. length (take old.ended old.rects.items) + k) m ∙ sym whole ∙ ap length (take-append-drop old.ended old.rects.items) in
      f.1 ∙ end ∙ sym same ∙ ap length (sym f.0)
  | inr h ↦ let f = many h in f.1 ∙ ap length (sym f.0)
]

-- the last band has these spans
pub kept_same : (list : BandList) (bands : Bands) (place : ℤ) (spans : List Span) → IsKept list bands → IsColumns (span_steps spans) →
    map span_of (drop list.ended list.rects.items) ≡ spans → IsPut has_column IsColumns [] (has_column (span_steps spans)) place bands bands
kept_same list bands place spans k columns e =
    let row : k.row ≡ spans = sym (spans_back k.from k.from k.row) ∙ ap (map span_of) (sym k.last) ∙ e in
    record {
      value = span_steps spans;
      is_valid = columns;
      holds_columns = λ x. refl;
      put = inl ((λ x. ap (λ l. has_column l x) (sym (k.value ∙ ap span_steps row))), refl);
    }

-- and if it hasn't, they are a step more
pub kept_differs : (list : BandList) (bands : Bands) (place : ℤ) (spans : List Span) → IsKept list bands → CanTake IsColumns place bands →
    IsColumns (span_steps spans) → (¬ (map span_of (drop list.ended list.rects.items) ≡ spans)) →
    IsPut has_column IsColumns [] (has_column (span_steps spans)) place bands (bands ++ record { from = place; value = span_steps spans } ∷ [])
kept_differs list bands place spans k take columns differ = record {
  value = span_steps spans;
  is_valid = columns;
  holds_columns = λ x. refl;
  put = inr (
    (λ same. differ (
        let steps : span_steps spans ≡ final_value [] bands = same_columns (span_steps spans) (final_value [] bands) columns.columns
        (final_is_valid IsColumns [] bands held_no_columns take.values).columns same in
        ap (map span_of) k.last ∙ spans_back k.from k.from k.row ∙ sym (span_steps_same spans k.row (steps ∙ k.value))
        )),
    refl,
  );
}

-- what a sweep put
pub built_by_steps : (list : BandList) (most : ℕ) (grid : ℤ → ℤ → Bool) (set : Point → Bool) (bands : Bands) → IsKept list bands → list.most ≡ most →
    AreStepsOf has_column IsColumns [] grid bands → ((p : Point) → grid p.y p.x ≡ set p) → IsBuilt most set list
built_by_steps list most grid set bands k limit h same = record {
  bands = bands;
  counted = kept_is_counted list bands k;
  limit = limit;
  canonical = record {
    canonical = record {
      reduced = h.reduced;
      values = values_of bands h.values;
      ends = same_columns (final_value [] bands) [] (final_is_valid IsColumns [] bands held_no_columns h.values).columns no_columns h.final;
    };
    values = h.values;
  };
  points = λ p. h.points p.x p.y ∙ same p;
}

-- what is built of a set is built of an equal one
pub built_alike : (most : ℕ) (f g : Point → Bool) (list : BandList) → ((p : Point) → f p ≡ g p) → IsBuilt most f list → IsBuilt most g list
built_alike most f g list same h = record {
  bands = h.bands;
  counted = h.counted;
  limit = h.limit;
  canonical = h.canonical;
  points = λ p. h.points p ∙ same p;
}
