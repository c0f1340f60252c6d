use Rattle.std.proofs.Common.{◌≡◌, ◌∙◌, ℕ, ℤ, zero, suc, ◌+◌, ◌<◌, ◌≤◌, ◌<ℤ◌, ◌≤ℤ◌, ◌+ℤ◌, pos, List, [], ◌∷◌, ◌++◌, length, get_or, drop}
use Rattle.std.proofs.Common.{take, Bool, true, false, refl, ap, sym, subst, arith, ◌⊎◌, inl, inr, ◌&&◌, ◌||◌}
use Rattle.std.specs.List.{All, Contains, filter}
use Rattle.std.specs.List.Sorted.{IsStrictlySortedBy, IsPermutation, IsSortedByKey}
use Rattle.std.specs.Ordering.{int_cmp, is_lt}
use Rattle.std.proofs.lemmas.Int.{ints}
use Rattle.std.proofs.lemmas.Bool.Decides.{nat_tests}
use Rattle.std.proofs.lemmas.List.Elements.{All-nil, All-cons, All-head, All-tail, All-contains, All-more, All-weaker, Contains-append_left, Contains-push}
use Rattle.std.proofs.lemmas.List.{take_all}
use Rattle.std.proofs.lemmas.List.Sorted.{list_any-IsPermutation, All-permutation, sorted_far, ranks_by}
use Rattle.std.proofs.lemmas.Cmp.{int_cmp_total}
use Rattle.std.proofs.lemmas.Bool.{cases_Bool, or_cases, or_left, or_right}
use Rattle.geom_base.specs.declared.point.Point.{Point}
use Rattle.geom_base.specs.declared.rect.Rect.{Rect}
use Rattle.geom_base.specs.Points.{is_in, is_in_some, no_rect}
use Rattle.region.specs.declared.strip.Strip.{Strip}
use Rattle.region.specs.declared.cover.Cover.{Cover}
use Rattle.region.specs.declared.cover.Cover.TheVariants.{Cell, Pair'}
use Rattle.region.specs.InnerStrip.{within}
use Rattle.region.specs.InnerCover.{strip_of, covers, IsCover, SameStrip, SameShape, reaches, IsAdded}
use Rattle.region.specs.InnerEdges.{IsRisingFrom, IsRising, IsOver}
use Rattle.geom_base.specs.Points.{has_points}
use Rattle.region.specs.InnerScan.{AllRects, IsSolid, IsArranged, BeginBelow, AreDownward, HasBothEdges, HasEdgesIn, AreReady, AreBeginning}
use Rattle.region.proofs.CoverLemmas.{same_strip}
use Rattle.region.proofs.CoverTurnLemmas.{same_shape}
use Rattle.region.proofs.EdgeLemmas.{IsEdgeOf, AllEdges, edges_split, first_is_edge, splits_same}

-- rectangles without points add none

no_points : (r : Rect) (p : Point) → has_points r ≡ false → is_in p r ≡ false
no_points r p e = grind (arith, ints)

pub filtered_points : (rects : List Rect) (p : Point) → is_in_some p (filter has_points rects) ≡ is_in_some p rects
filtered_points [] p = refl
filtered_points (r ∷ rects) p = elim (cases_Bool (has_points r)) [
  | inl e ↦ rw e (ap (λ u. is_in p r || u) (filtered_points rects p))
  | inr e ↦ rw (e, no_points r p e) (filtered_points rects p)
]

-- order

not_below : (a b : ℤ) → is_lt (int_cmp a b) ≡ false → b ≤ℤ a
not_below a b h = grind (arith, ints, nat_tests)

pub downward_by : (rects : List Rect) →
    ((i j : ℕ) (d : Rect) → i ≤ j → j < length rects → is_lt (int_cmp (get_or rects j d).top (get_or rects i d).top) ≡ false) → AreDownward rects
downward_by [] h = tt
downward_by (r ∷ []) h = (tt, tt)
downward_by (r ∷ q ∷ rects) h = (
  not_below q.top r.top (h zero (suc zero) r (omega arith) (omega arith)),
  downward_by (q ∷ rects) (λ i j d k l. h (suc i) (suc j) d (omega (arith, k)) (omega (arith, l))),
)

pub all_rects : (P : Rect → Type 0) (rects : List Rect) → All P rects → AllRects P rects
all_rects P [] h = tt
all_rects P (r ∷ rects) h = (All-head P r rects h, all_rects P rects (All-tail P r rects h))

above_is_out : (r : Rect) (y x : ℤ) → y <ℤ r.top → is_in (record { x = x; y = y }) r ≡ false
above_is_out r y x h = grind (arith, ints)

below_is_out : (r : Rect) (y x : ℤ) → r.bottom ≤ℤ y → is_in (record { x = x; y = y }) r ≡ false
below_is_out r y x h = grind (arith, ints)

pub none_above : (rects : List Rect) (p y x : ℤ) → AreDownward rects → BeginBelow p rects → y <ℤ p → is_in_some (record { x = x; y = y }) rects ≡ false
none_above [] p y x d b h = refl
none_above (r ∷ rects) p y x d b h = rw (above_is_out r y x (omega (arith, ints, b, h))) (none_above rects r.top y x d.1 d.0 (omega (arith, ints, b, h)))

pub none_past : (rects : List Rect) (y x : ℤ) → AllRects IsSolid rects → pos 2147483647 ≤ℤ y → is_in_some (record { x = x; y = y }) rects ≡ false
none_past [] y x s h = refl
none_past (r ∷ rects) y x s h = rw (below_is_out r y x (omega (arith, ints, s.0.bottom, h))) (none_past rects y x s.1 h)

-- edges

rising_from : (e : ℤ) (edges : List ℤ) → IsStrictlySortedBy int_cmp (e ∷ edges) → IsRisingFrom e edges
unfolding IsStrictlySortedBy
rising_from e [] h = tt
rising_from e (f ∷ edges) h = let lower = h.0.0 in (grind (arith, ints, nat_tests), rising_from f edges h.1)

pub rising : (edges : List ℤ) → IsStrictlySortedBy int_cmp edges → IsRising edges
rising [] h = tt
rising (e ∷ edges) h = rising_from e edges h

edges_all : (P : ℤ → Type 0) (edges : List ℤ) → AllEdges P edges → All P edges
edges_all P [] h = All-nil P
edges_all P (e ∷ edges) h = All-cons P e edges h.0 (edges_all P edges h.1)

pub edge_is : (edges : List ℤ) (t : Cover) (e : ℤ) → IsOver edges t → Contains edges e → IsEdgeOf t e
edge_is edges t e o c = All-contains (IsEdgeOf t) edges e
    (edges_all (IsEdgeOf t) edges (subst (AllEdges (IsEdgeOf t)) (sym o.edges_are) (first_is_edge t o.cover.shaped, edges_split t o.cover.shaped))) c

pub has_edges : (edges : List ℤ) (t : Cover) (rects : List Rect) → IsOver edges t → AllRects (HasBothEdges edges) rects → AllRects (HasEdgesIn t) rects
has_edges edges t [] o h = tt
has_edges edges t (r ∷ rects) o h =
    let a = edge_is edges t r.left o h.0.left in
    let b = edge_is edges t r.right o h.0.right in (record { left = a.splits; right = b.splits; from = a.from; to = b.to }, has_edges edges t rects o h.1)

pub two_edges : (edges : List ℤ) (a b : ℤ) → a <ℤ b → Contains edges a → Contains edges b → 2 ≤ length edges
two_edges [] a b h c d = absurd (omega (arith, c.1))
two_edges (e ∷ []) a b h (zero, c, i) (zero, d, j) = absurd (omega (arith, ints, i, j, h))
two_edges (e ∷ []) a b h (zero, c, i) (suc k, d, j) = absurd (omega (arith, d))
two_edges (e ∷ []) a b h (suc k, c, i) d = absurd (omega (arith, c))
two_edges (e ∷ f ∷ edges) a b h c d = omega arith

pub edges_same : (a b : Cover) (rects : List Rect) → SameShape a b → AllRects (HasEdgesIn a) rects → AllRects (HasEdgesIn b) rects
edges_same a b [] h k = tt
edges_same a b (r ∷ rects) h k =
    let s : SameStrip (strip_of a) (strip_of b) = same_strip a b h in (
      record {
        left = splits_same a b r.left h k.0.left;
        right = splits_same a b r.right h k.0.right;
        from = omega (arith, ints, k.0.from, s.0);
        to = omega (arith, ints, k.0.to, s.1);
      },
      edges_same a b rects h k.1,
    )

pub shape_on : (a b c : Cover) → SameShape a b → SameShape b c → SameShape a c
shape_on (Cell s) (Cell t) (Cell u) h k = (h.0 ∙ k.0, h.1 ∙ k.1, h.2 ∙ k.2)
shape_on (Cell s) (Cell t) (Pair' u p l q r) h k = absurd k
shape_on (Cell s) (Pair' t p l q r) c h k = absurd h
shape_on (Pair' s p l q r) (Cell t) c h k = absurd h
shape_on (Pair' s p l q r) (Pair' t p2 l2 q2 r2) (Cell u) h k = absurd k
shape_on (Pair' s p l q r) (Pair' t p2 l2 q2 r2) (Pair' u p3 l3 q3 r3) h k =
    ((h.0.0 ∙ k.0.0, h.0.1 ∙ k.0.1, h.0.2 ∙ k.0.2), shape_on l l2 l3 h.1 k.1, shape_on r r2 r3 h.2 k.2)

-- adding the rectangles that begin in a row

pub begun_none : (z p : ℤ) (rects : List Rect) (t : Cover) → IsCover z t → AreReady t rects → BeginBelow p rects → AreBeginning z p rects t rects t
begun_none z p rects t c a b = record {
  begun = record { cover = c; shape = same_shape t; steady = λ h. h; points = λ y x h. refl; more = λ y x h. h; begun = λ y x h. inl h; ready = a; below = b };
  fewer = inl refl;
}

is_in_reaches : (r : Rect) (s : Strip) (y x : ℤ) → s.from ≤ℤ r.left → r.right ≤ℤ s.to → r.top ≤ℤ y →
    (within s x && reaches r y x) ≡ is_in (record { x = x; y = y }) r
is_in_reaches r s y x h k b = grind (arith, ints)

or_moved : (a b c : Bool) → ((a || b) || c) ≡ (a || (b || c))
or_moved true b c = refl
or_moved false b c = refl

reaches_below : (r : Rect) (s : Strip) (y p x : ℤ) → p <ℤ r.bottom → (within s x && reaches r y x) ≡ true → (within s x && reaches r p x) ≡ true
reaches_below r s y p x h e = grind (arith, ints)

begins_at : (p : ℤ) (r : Rect) (rest : List Rect) → p ≤ℤ r.top → BeginBelow r.top rest → BeginBelow p rest
begins_at p r [] h b = tt
begins_at p r (q ∷ rest) h b = omega (arith, ints, h, b)

fewer_yet : (rects rest others : List Rect) (r : Rect) → (rest ≡ rects) ⊎ (length rest < length rects) → rest ≡ r ∷ others →
    (others ≡ rects) ⊎ (length others < length rects)
fewer_yet rects rest others r (inl e) f = inr (let n : length rects ≡ suc (length others) = ap length (sym e ∙ f) in omega (arith, n))
fewer_yet rects rest others r (inr h) f = inr (let n : length rest ≡ suc (length others) = ap length f in omega (arith, n, h))

pub begun_more : (z p : ℤ) (rects rest others : List Rect) (old mid new : Cover) (r : Rect) → AreBeginning z p rects old rest mid → rest ≡ r ∷ others →
    r.top ≤ℤ p → IsAdded z r mid new → AreBeginning z p rects old others new
begun_more z p rects rest others old mid new r b e h a =
    let i = b.begun in
    let ready = subst (AreReady mid) e i.ready in
    let below = subst (BeginBelow p) e i.below in
    let solid = ready.solid.0 in
    let edge = ready.edges.0 in
    record {
      begun = record {
        cover = a.cover;
        shape = shape_on old mid new i.shape a.shape;
        steady = λ k. a.steady (i.steady k);
        points = λ y x k.
            ap (λ u. u || is_in_some (record { x = x; y = y }) others)
            (a.points y x ∙ ap (λ u. covers mid y x || u) (is_in_reaches r (strip_of mid) y x edge.from edge.to (omega (arith, ints, h, k))))
            ∙ or_moved (covers mid y x) (is_in (record { x = x; y = y }) r) (is_in_some (record { x = x; y = y }) others)
            ∙ ap (λ u. covers mid y x || is_in_some (record { x = x; y = y }) u) (sym e) ∙ i.points y x k;
        more = λ y x k. a.points y x ∙ or_left (covers mid y x) (within (strip_of mid) x && reaches r y x) (i.more y x k);
        begun = λ y x k. elim (or_cases (covers mid y x) (within (strip_of mid) x && reaches r y x) (sym (a.points y x) ∙ k)) [
          | inl c ↦ elim (i.begun y x c) [ inl o ↦ inl o | inr n ↦ inr (a.points p x ∙ or_left (covers mid p x) (within (strip_of mid) x && reaches r p x) n) ]
          | inr c ↦ inr (a.points p x ∙ or_right (covers mid p x) (within (strip_of mid) x && reaches r p x)
              (reaches_below r (strip_of mid) y p x (omega (arith, ints, h, below, solid.points.down)) c))
        ];
        ready = record { solid = ready.solid.1; downward = ready.downward.1; edges = edges_same mid new others a.shape ready.edges.1 };
        below = begins_at p r others below ready.downward.0;
      };
      fewer = fewer_yet rects rest others r b.fewer e;
    }

pub first_of : (rects : List Rect) (d : Rect) → 1 ≤ length rects → rects ≡ get_or rects zero d ∷ drop (suc zero) rects
first_of [] d h = absurd (omega (arith, h))
first_of (r ∷ rects) d h = refl

pub later_first : (p : ℤ) (rects : List Rect) (d : Rect) → 1 ≤ length rects → p <ℤ (get_or rects zero d).top → BeginBelow (p +ℤ pos 1) rects
later_first p [] d n h = tt
later_first p (r ∷ rects) d n h = omega (arith, ints, h)

pub first_solid : (t : Cover) (rects : List Rect) (d : Rect) → 1 ≤ length rects → AreReady t rects → IsSolid (get_or rects zero d)
first_solid t [] d n h = absurd (omega (arith, n))
first_solid t (r ∷ rects) d n h = h.solid.0

-- collecting edges

pub edges_pushed : (edges mid new : List ℤ) (a b : ℤ) (rects : List Rect) (i : ℕ) → mid ≡ edges ++ a ∷ [] → new ≡ mid ++ b ∷ [] →
    a ≡ (get_or rects i no_rect).left → b ≡ (get_or rects i no_rect).right → i < length rects →
    All (HasBothEdges edges) (take i rects) → All (HasBothEdges new) (take (i + 1) rects)
edges_pushed edges mid new a b rects i em en ea eb h all =
    let keep : (e : ℤ) → Contains edges e →
    Contains new e = λ e c. subst (λ l. Contains l e) (sym en)
    (Contains-append_left mid (b ∷ []) e (subst (λ l. Contains l e) (sym em) (Contains-append_left edges (a ∷ []) e c))) in
    All-more (HasBothEdges new) rects i no_rect h
    (All-weaker (HasBothEdges edges) (HasBothEdges new) (λ r k. record { left = keep r.left k.left; right = keep r.right k.right }) (take i rects) all)
    (record {
      left = subst (λ l. Contains l (get_or rects i no_rect).left) (sym en)
          (Contains-append_left mid (b ∷ []) (get_or rects i no_rect).left
          (subst (λ l. Contains l (get_or rects i no_rect).left) (sym em) (subst (Contains (edges ++ a ∷ [])) ea (Contains-push edges a))));
      right = subst (λ l. Contains l (get_or rects i no_rect).right) (sym en) (subst (Contains (mid ++ b ∷ [])) eb (Contains-push mid b));
    })

pub edges_kept : (edges new : List ℤ) (rects : List Rect) (i : ℕ) → ((e : ℤ) → Contains edges e → Contains new e) → length rects ≤ i →
    All (HasBothEdges edges) (take i rects) → All (HasBothEdges new) rects
edges_kept edges new rects i keep h all = All-weaker (HasBothEdges edges) (HasBothEdges new)
    (λ r k. record { left = keep r.left k.left; right = keep r.right k.right }) rects (subst (All (HasBothEdges edges)) (take_all i rects h) all)

-- sorting

pub arranged : (rects solid sorted : List Rect) → solid ≡ filter has_points rects → All IsSolid solid → IsPermutation solid sorted →
    IsSortedByKey (λ r. r.top) int_cmp sorted → IsArranged rects sorted
arranged rects solid sorted e all perm order = record {
  points = λ p. sym (list_any-IsPermutation (λ r. is_in p r) solid sorted perm) ∙ ap (is_in_some p) e ∙ filtered_points rects p;
  solid = All-permutation IsSolid solid sorted perm all;
  downward = downward_by sorted (sorted_far (λ x y. is_lt (int_cmp x.top y.top)) (ranks_by int_cmp_total (λ r. r.top)) sorted order);
}
