use Rattle.std.proofs.Common.{◌≡◌, ◌∙◌, ℤ, ◌+◌, ◌<ℤ◌, ◌≤ℤ◌, pos, ◌++◌, Bool, true, false, refl, ap, sym, subst, arith}
use Rattle.std.proofs.Common.{◌⊎◌, inl, inr, int_lt, int_le, if◌then◌else◌, ◌&&◌, ◌||◌}
use Rattle.std.specs.Int.{int_max, int_min}
use Rattle.std.proofs.lemmas.Int.{ints, clamps}
use Rattle.std.proofs.lemmas.Bool.{false≢true}
use Rattle.std.proofs.lemmas.Bool.{cases_Bool}
use mathlib.Core.Bool.{or-true, or-false}
use Rattle.geom_base.specs.Tests.{int_lt-true, int_lt-false}
use Rattle.geom_base.specs.declared.rect.Rect.{Rect}
use Rattle.region.specs.declared.row.Row.{Row}
use Rattle.region.specs.declared.strip.Strip.{Strip}
use Rattle.region.specs.declared.cover.Cover.{Cover}
use Rattle.region.specs.declared.cover.Cover.TheVariants.{Cell, Pair'}
use Rattle.region.specs.InnerRow.{full_row, empty_row, beside, IsSound}
use Rattle.region.specs.InnerStrip.{within, seen_at, covered_until}
use Rattle.region.specs.InnerCover.{strip_of, covers, filled_in, first_in, last_in, steps_in, IsRowOf, IsTold, IsSeen}
use Rattle.region.specs.InnerCover.{IsShaped, IsCover, SameStrip, SameShape, reaches, IsAdded, IsMoved}
use Rattle.region.specs.InnerBandList.{run_count}
use Rattle.region.proofs.StepLemmas.{lt_is, ge_is}
use Rattle.region.proofs.CountLemmas.{flag}
use Rattle.region.proofs.CoverLemmas.{within_left, within_right, has_width, not_covered, same_strip, run_count-append, runs_before, row_is_sound}

pub same_shape : (t : Cover) → SameShape t t
same_shape (Cell s) = (refl, refl, refl)
same_shape (Pair' s p l q r) = ((refl, refl, refl), same_shape l, same_shape r)

pub told : (z : ℤ) (t : Cover) → IsSeen z t → IsTold z t
told z (Cell s) h = h
told z (Pair' s p l q r) h = h.0

-- what was seen at a row is seen at a later one
pub seen_later : (y z : ℤ) (t : Cover) → y ≤ℤ z → IsSeen y t → IsSeen z t
seen_later y z (Cell s) k h = λ x a b. h x (omega (arith, ints, k, a)) b
seen_later y z (Pair' s p l q r) k h =
    ((λ x a b. h.0 x (omega (arith, ints, k, a)) b), (λ x a b. h.1 x (omega (arith, ints, k, a)) b), seen_later y z l k h.2, seen_later y z r k h.3)

full_told : (t : Cover) (y : ℤ) → int_lt y (strip_of t).until ≡ true → IsRowOf t y (full_row (strip_of t).size)
full_told (Cell s) y e = record { filled = rw e refl; runs = rw e refl; first = sym e; last = sym e }
full_told (Pair' s p l q r) y e = record { filled = rw e refl; runs = rw e refl; first = rw e refl; last = rw e refl }

pub empty_told : (s : Strip) (y : ℤ) → int_lt y s.until ≡ false → IsRowOf (Cell s) y empty_row
empty_told s y e = record { filled = rw e refl; runs = rw e refl; first = sym e; last = sym e }

-- the row of a pair that is not covered as a whole
pub beside_told : (t : Cover) (l r : Cover) (y : ℤ) (a b : Row) → IsRowOf l y a → IsRowOf r y b → filled_in t y ≡ filled_in l y + filled_in r y →
    steps_in t y false ≡ steps_in l y false ++ steps_in r y (last_in l y) →
    first_in t y ≡ first_in l y → last_in t y ≡ last_in r y → IsRowOf t y (beside a b)
beside_told t l r y a b ha hb f st fi la =
    let m = run_count-append (steps_in l y false) (steps_in r y (last_in l y)) in
    let n = runs_before r y (last_in l y) in
    let j : flag (a.last && b.first) ≡ flag (last_in l y && first_in r y) = rw (ha.last, hb.first) refl in
    let q : run_count (steps_in t y false) ≡ run_count (steps_in l y false ++ steps_in r y (last_in l y)) = ap run_count st in
    record {
      filled = rw (ha.filled, hb.filled) (sym f);
      runs = omega (arith, ha.runs, hb.runs, j, q, m, n);
      first = ha.first ∙ sym fi;
      last = hb.last ∙ sym la;
    }

pub seen_cell : (z : ℤ) (s : Strip) → z ≤ℤ pos 2147483647 → IsShaped (Cell s) → IsMoved z (Cell s) (Cell (seen_at z empty_row (pos 2147483647) s))
seen_cell z s top h = elim (cases_Bool (int_lt z s.until)) [
  | inl e ↦ rw e (record {
    cover = record { shaped = h; seen = λ y a b. full_told _ y (lt_is y s.until (omega (arith, ints, b))) };
    shape = (refl, refl, refl);
    steady = let i : z <ℤ s.until = int_lt-true z s.until e in omega (arith, ints, i);
    points = λ y x. refl;
  })
  | inr e ↦ rw e (record {
    cover = record {
      shaped = h;
      seen = λ y a b. empty_told _ y
          (ge_is y s.until (let i : s.until ≤ℤ z = int_lt-false z s.until e in omega (arith, ints, i, a)));
    };
    shape = (refl, refl, refl);
    steady = top;
    points = λ y x. refl;
  })
]

-- where a pair is not covered as a whole, its parts have to last
abbrev pub PartsLast : ℤ → Strip → Cover → Cover → Type 0
PartsLast z s l r = s.until ≤ℤ z → (z ≤ℤ (strip_of l).steady) × (z ≤ℤ (strip_of r).steady)

pub parts_sound : (z until : ℤ) (t : Cover) → IsCover z t → (until ≤ℤ z → z ≤ℤ (strip_of t).steady) → until ≤ℤ z → IsSound (strip_of t).row (strip_of t).size
parts_sound z until t c k h = row_is_sound t c.shaped z (strip_of t).row (told z t c.seen z (omega (arith, ints)) (k h))

seen_pair : (z : ℤ) (s : Strip) (p : _) (l : Cover) (q : _) (r : Cover) → IsShaped (Pair' s p l q r) → IsSeen z l → IsSeen z r → PartsLast z s l r →
    let t : Cover = Pair' (seen_at z (beside (strip_of l).row (strip_of r).row) (int_min (strip_of l).steady (strip_of r).steady) s) p l q r in IsCover z t
    × (z ≤ℤ (strip_of t).steady)
seen_pair z s p l q r h sl sr k = elim (cases_Bool (int_lt z s.until)) [
  | inl e ↦ rw e (
    record {
      shaped = h;
      seen = ((λ y a b. full_told _ y (lt_is y s.until (omega (arith, ints, b)))), (λ y a b. inl (omega (arith, ints, b))), sl, sr);
    },
    let i : z <ℤ s.until = int_lt-true z s.until e in omega (arith, ints, i),
  )
  | inr e ↦
      let i : s.until ≤ℤ z = int_lt-false z s.until e in
      let n : (z ≤ℤ (strip_of l).steady) × (z ≤ℤ (strip_of r).steady) = k i in
      rw e (
        record {
          shaped = h;
          seen = (
            (λ y a b.
                let d : int_lt y s.until ≡ false = ge_is y s.until (omega (arith, ints, i, a)) in
                beside_told _ l r y (strip_of l).row (strip_of r).row (told z l sl y a (omega (arith, ints, clamps, b)))
                (told z r sr y a (omega (arith, ints, clamps, b))) (rw d refl) (rw d refl) (rw d refl) (rw d refl)),
            (λ y a b. inr (omega (arith, ints, clamps, b), omega (arith, ints, clamps, b))),
            sl,
            sr,
          );
        },
        omega (arith, ints, clamps, n.0, n.1),
      )
]

both_false : (a b : Bool) → (if a then false else false) ≡ ((if b then false else false) || false)
both_false true true = refl
both_false true false = refl
both_false false true = refl
both_false false false = refl

with_itself : (w r : Bool) → w ≡ (w || (w && r))
with_itself true r = refl
with_itself false r = refl

outside : (a b : Bool) → (a ≡ true → b ≡ true) → b ≡ false → a ≡ false
outside true b h e = absurd (false≢true (sym e ∙ h refl))
outside false b h e = refl

parts_none : (s : Strip) (p : _) (l : Cover) (q : _) (r : Cover) → IsShaped (Pair' s p l q r) → (y x : ℤ) → within s x ≡ false →
    (covers l y x || covers r y x) ≡ false
parts_none s p l q r h y x w =
    rw (
      not_covered l h.4 y x (outside (within (strip_of l) x) (within s x) (within_left s l r x h.0 h.1 h.2 h.5) w),
      not_covered r h.5 y x (outside (within (strip_of r) x) (within s x) (within_right s l r x h.0 h.1 h.2 h.4) w),
    ) refl

-- a rectangle over the whole strip covers it until its lower edge, and what the parts cover counts no more there
whole_points : (from to left right bottom until y x : ℤ) (other : Bool) → left ≤ℤ from → to ≤ℤ right →
    ((int_le from x && int_lt x to) ≡ false → other ≡ false) →
    (if int_lt y (int_max until bottom) then (int_le from x && int_lt x to) else other)
    ≡ ((if int_lt y until then (int_le from x && int_lt x to) else other) ||
    ((int_le from x && int_lt x to) && (int_le left x && int_lt x right && int_lt y bottom)))
whole_points from to left right bottom until y x other h k none = elim (cases_Bool (int_le from x && int_lt x to)) [
  | inl e ↦
      let i : (from ≤ℤ x) × (x <ℤ to) = (grind (arith, ints), grind (arith, ints)) in
      let a : int_le left x ≡ true = grind (arith, ints) in
      let b : int_lt x right ≡ true = grind (arith, ints) in
      rw (e, a, b) (elim (cases_Bool (int_lt y until)) [
        | inl u ↦ rw (u, lt_is y (int_max until bottom) (let j : y <ℤ until = int_lt-true y until u in omega (arith, ints, clamps, j))) refl
        | inr u ↦
            let j : until ≤ℤ y = int_lt-false y until u in
            rw u (elim (cases_Bool (int_lt y bottom)) [
              | inl v ↦ rw (v, lt_is y (int_max until bottom) (let m : y <ℤ bottom = int_lt-true y bottom v in omega (arith, ints, clamps, m)))
                  (sym (or-true other))
              | inr v ↦ rw (v, ge_is y (int_max until bottom) (let m : bottom ≤ℤ y = int_lt-false y bottom v in omega (arith, ints, clamps, j, m)))
                  (sym (or-false other))
            ])
      ])
  | inr e ↦
      let o : other ≡ false = none e in
      rw (e, o) (both_false (int_lt y (int_max until bottom)) (int_lt y until))
]

-- what is added to both parts is added to the whole
parts_or : (wl wr a b r : Bool) → ((a || (wl && r)) || (b || (wr && r))) ≡ ((a || b) || ((wl || wr) && r))
parts_or wl wr true b r = refl
parts_or true wr false b true = sym (or-true b)
parts_or true true false b false = refl
parts_or true false false b false = refl
parts_or false wr false b r = refl

parts_points : (u w wl wr a b r : Bool) → w ≡ (wl || wr) → (if u then w else ((a || (wl && r)) || (b || (wr && r)))) ≡ ((if u then w else (a || b)) || (w && r))
parts_points true w wl wr a b r e = with_itself w r
parts_points false w wl wr a b r e = parts_or wl wr a b r ∙ ap (λ v. (a || b) || (v && r)) (sym e)

within_parts : (s : Strip) (l r : Cover) (x : ℤ) → s.from ≡ (strip_of l).from → (strip_of l).to ≡ (strip_of r).from → s.to ≡ (strip_of r).to →
    (strip_of l).from <ℤ (strip_of l).to → (strip_of r).from <ℤ (strip_of r).to →
    within s x ≡ (within (strip_of l) x || within (strip_of r) x)
within_parts s l r x a b c h k = grind (arith, ints)

pub added_whole_cell : (z : ℤ) (rect : Rect) (s : Strip) → IsCover z (Cell s) → rect.left ≤ℤ s.from → s.to ≤ℤ rect.right → z <ℤ rect.bottom →
    IsAdded z rect (Cell s) (Cell (covered_until rect.bottom s))
added_whole_cell z rect s c h k below = record {
  cover = record { shaped = c.shaped; seen = λ y a b. full_told _ y (lt_is y (int_max s.until rect.bottom) (omega (arith, ints, b))) };
  shape = (refl, refl, refl);
  steady = λ o. omega (arith, ints, clamps, below);
  points = λ y x. whole_points s.from s.to rect.left rect.right rect.bottom s.until y x false h k (λ e. refl);
}

pub added_whole_pair : (z : ℤ) (rect : Rect) (s : Strip) (p : _) (l : Cover) (q : _) (r : Cover) → IsCover z (Pair' s p l q r) → rect.left ≤ℤ s.from →
    s.to ≤ℤ rect.right → z <ℤ rect.bottom →
    IsAdded z rect (Pair' s p l q r) (Pair' (covered_until rect.bottom s) p l q r)
added_whole_pair z rect s p l q r c h k below = record {
  cover = record {
    shaped = c.shaped;
    seen = (
      (λ y a b. full_told _ y (lt_is y (int_max s.until rect.bottom) (omega (arith, ints, b)))),
      (λ y a b. inl (omega (arith, ints, b))),
      c.seen.2,
      c.seen.3,
    );
  };
  shape = same_shape (Pair' s p l q r);
  steady = λ o. omega (arith, ints, clamps, below);
  points = λ y x. whole_points s.from s.to rect.left rect.right rect.bottom s.until y x (covers l y x || covers r y x) h k
      (λ e. parts_none s p l q r c.shaped y x e);
}

none_reached : (from to left right bottom y x : ℤ) → (right ≤ℤ from) ⊎ (to ≤ℤ left) →
    ((int_le from x && int_lt x to) && (int_le left x && int_lt x right && int_lt y bottom)) ≡ false
none_reached from to left right bottom y x (inl h) = grind (arith, ints)
none_reached from to left right bottom y x (inr h) = grind (arith, ints)

-- a rectangle that does not meet the strip changes nothing
pub added_apart : (z : ℤ) (rect : Rect) (t : Cover) → IsCover z t → (rect.right ≤ℤ (strip_of t).from) ⊎ ((strip_of t).to ≤ℤ rect.left) → IsAdded z rect t t
added_apart z rect t c h = record {
  cover = c;
  shape = same_shape t;
  steady = λ o. o;
  points = λ y x. sym (ap (λ u. covers t y x || u) (none_reached (strip_of t).from (strip_of t).to rect.left rect.right rect.bottom y x h)
      ∙ or-false (covers t y x));
}

pair_shaped : (s u : Strip) (p : _) (l m : Cover) (q : _) (r n : Cover) → IsShaped (Pair' s p l q r) → SameStrip s u → SameShape l m → SameShape r n →
    IsShaped m → IsShaped n → IsShaped (Pair' u p m q n)
pair_shaped s u p l m q r n h e f g hm hn =
    let a : SameStrip (strip_of l) (strip_of m) = same_strip l m f in
    let b : SameStrip (strip_of r) (strip_of n) = same_strip r n g in
    (sym e.0 ∙ h.0 ∙ a.0, sym a.1 ∙ h.1 ∙ b.0, sym e.1 ∙ h.2 ∙ b.1, sym e.2 ∙ h.3 ∙ rw (a.2, b.2) refl, hm, hn)

-- a strip with what was seen has the same columns, and is covered as long
pub seen_same : (z : ℤ) (row : Row) (steady : ℤ) (s : Strip) → SameStrip s (seen_at z row steady s) × (s.until ≡ (seen_at z row steady s).until)
seen_same z row steady s = elim (cases_Bool (int_lt z s.until)) [ inl e ↦ rw e ((refl, refl, refl), refl) | inr e ↦ rw e ((refl, refl, refl), refl) ]

pair_points : (rect : Rect) (z : ℤ) (s u : Strip) (p : _) (l m : Cover) (q : _) (r n : Cover) → IsShaped (Pair' s p l q r) → SameStrip s u → s.until ≡ u.until →
    IsAdded z rect l m → IsAdded z rect r n → (y x : ℤ) →
    covers (Pair' u p m q n) y x ≡ (covers (Pair' s p l q r) y x || (within s x && reaches rect y x))
pair_points rect z s u p l m q r n h e f al ar y x =
    let w : within u x ≡ within s x = rw (e.0, e.1) refl in
    let a : covers (Pair' u p m q n) y x ≡ (if int_lt y s.until then within s x else (covers m y x || covers n y x)) = rw (f, e.0, e.1) refl in
    a ∙ rw (al.points y x, ar.points y x)
    (parts_points (int_lt y s.until) (within s x) (within (strip_of l) x) (within (strip_of r) x) (covers l y x) (covers r y x) (reaches rect y x)
    (within_parts s l r x h.0 h.1 h.2 (has_width l h.4) (has_width r h.5)))

-- added to both parts of a pair whose row is not looked at
pub added_unseen : (z : ℤ) (rect : Rect) (s : Strip) (p : _) (l m : Cover) (q : _) (r n : Cover) → IsCover z (Pair' s p l q r) → IsAdded z rect l m →
    IsAdded z rect r n → s.steady <ℤ z → IsAdded z rect (Pair' s p l q r) (Pair' s p m q n)
added_unseen z rect s p l m q r n c al ar old = record {
  cover = record {
    shaped = pair_shaped s s p l m q r n c.shaped (refl, refl, refl) al.shape ar.shape al.cover.shaped ar.cover.shaped;
    seen = ((λ y a b. absurd (omega (arith, ints, a, b, old))), (λ y a b. absurd (omega (arith, ints, a, b, old))), al.cover.seen, ar.cover.seen);
  };
  shape = ((refl, refl, refl), al.shape, ar.shape);
  steady = λ o. absurd (omega (arith, ints, o, old));
  points = λ y x. pair_points rect z s s p l m q r n c.shaped (refl, refl, refl) refl al ar y x;
}

-- a pair that is current has parts that are, unless it is covered as a whole
pub parts_last : (z : ℤ) (s : Strip) (p : _) (l : Cover) (q : _) (r : Cover) → IsSeen z (Pair' s p l q r) → z ≤ℤ s.steady → PartsLast z s l r
parts_last z s p l q r h k u = elim (h.1 z (omega (arith, ints)) k) [ inl e ↦ absurd (omega (arith, ints, e, u)) | inr e ↦ e ]

-- added to both parts of a pair
pub added_seen : (z : ℤ) (rect : Rect) (s : Strip) (p : _) (l m : Cover) (q : _) (r n : Cover) → IsCover z (Pair' s p l q r) → IsAdded z rect l m →
    IsAdded z rect r n → z ≤ℤ s.steady →
    IsAdded z rect (Pair' s p l q r) (Pair' (seen_at z (beside (strip_of m).row (strip_of n).row) (int_min (strip_of m).steady (strip_of n).steady) s) p m q n)
added_seen z rect s p l m q r n c al ar now =
    let shaped = pair_shaped s s p l m q r n c.shaped (refl, refl, refl) al.shape ar.shape al.cover.shaped ar.cover.shaped in
    let last : PartsLast z s m n = λ u. let k = parts_last z s p l q r c.seen now u in (al.steady k.0, ar.steady k.1) in
    let new = seen_pair z s p m q n shaped al.cover.seen ar.cover.seen last in
    let same = seen_same z (beside (strip_of m).row (strip_of n).row) (int_min (strip_of m).steady (strip_of n).steady) s in
    record {
      cover = new.0;
      shape = (same.0, al.shape, ar.shape);
      steady = λ o. new.1;
      points = λ y x. pair_points rect z s
          (seen_at z (beside (strip_of m).row (strip_of n).row)
          (int_min (strip_of m).steady (strip_of n).steady) s) p l m q r n c.shaped same.0 same.1 al ar y x;
    }

-- gone on in both parts of a pair
pub moved_pair : (z : ℤ) (s : Strip) (p : _) (l m : Cover) (q : _) (r n : Cover) → IsCover z (Pair' s p l q r) → IsMoved z l m → IsMoved z r n →
    IsMoved z (Pair' s p l q r) (Pair' (seen_at z (beside (strip_of m).row (strip_of n).row) (int_min (strip_of m).steady (strip_of n).steady) s) p m q n)
moved_pair z s p l m q r n c al ar =
    let shaped = pair_shaped s s p l m q r n c.shaped (refl, refl, refl) al.shape ar.shape al.cover.shaped ar.cover.shaped in
    let new = seen_pair z s p m q n shaped al.cover.seen ar.cover.seen (λ u. (al.steady, ar.steady)) in
    let same = seen_same z (beside (strip_of m).row (strip_of n).row) (int_min (strip_of m).steady (strip_of n).steady) s in
    record {
      cover = new.0;
      shape = (same.0, al.shape, ar.shape);
      steady = new.1;
      points = λ y x. rw (sym same.1, sym same.0.0, sym same.0.1, al.points y x, ar.points y x) refl;
    }

pub moved_not : (z : ℤ) (t : Cover) → IsCover z t → z ≤ℤ (strip_of t).steady → IsMoved z t t
moved_not z t c h = record { cover = c; shape = same_shape t; steady = h; points = λ y x. refl }

-- the same with the names that code has

pub added_pair : (z : ℤ) (rect : Rect) (t : Cover) (s : Strip) (p : _) (l m : Cover) (q : _) (r n : Cover) (a b u : Strip) → t ≡ Pair' s p l q r → IsCover z t →
    IsAdded z rect l m → IsAdded z rect r n → z ≤ℤ s.steady →
    a ≡ strip_of m → b ≡ strip_of n → u ≡ seen_at z (beside a.row b.row) (int_min a.steady b.steady) s → IsAdded z rect t (Pair' u p m q n)
added_pair z rect t s p l m q r n a b u et c al ar now ea eb eu =
    let e : u ≡ seen_at z (beside (strip_of m).row (strip_of n).row) (int_min (strip_of m).steady (strip_of n).steady) s = eu ∙ rw (ea, eb) refl in
    subst (λ v. IsAdded z rect t (Pair' v p m q n)) (sym e)
    (subst (λ v. IsAdded z rect v (Pair'
    (seen_at z (beside (strip_of m).row (strip_of n).row) (int_min (strip_of m).steady (strip_of n).steady) s) p m q n)) (sym et)
    (added_seen z rect s p l m q r n (subst (IsCover z) et c) al ar now))

pub left_sound : (z : ℤ) (t : Cover) (s : Strip) (p : _) (l m : Cover) (q : _) (r : Cover) (rect : Rect) (a : Strip) → t ≡ Pair' s p l q r → IsCover z t →
    IsAdded z rect l m → z ≤ℤ s.steady → a ≡ strip_of m → s.until ≤ℤ z → IsSound a.row a.size
left_sound z t s p l m q r rect a et c al now ea u =
    let d = subst (IsCover z) et c in
    subst (λ v. IsSound v.row v.size) (sym ea) (parts_sound z s.until m al.cover (λ w. al.steady (parts_last z s p l q r d.seen now w).0) u)

pub right_sound : (z : ℤ) (t : Cover) (s : Strip) (p : _) (l : Cover) (q : _) (r n : Cover) (rect : Rect) (b : Strip) → t ≡ Pair' s p l q r → IsCover z t →
    IsAdded z rect r n → z ≤ℤ s.steady → b ≡ strip_of n → s.until ≤ℤ z → IsSound b.row b.size
right_sound z t s p l q r n rect b et c ar now eb u =
    let d = subst (IsCover z) et c in
    subst (λ v. IsSound v.row v.size) (sym eb) (parts_sound z s.until n ar.cover (λ w. ar.steady (parts_last z s p l q r d.seen now w).1) u)

pub moved_sound : (z until : ℤ) (l m : Cover) (a : Strip) → IsMoved z l m → a ≡ strip_of m → until ≤ℤ z → IsSound a.row a.size
moved_sound z until l m a h e u = subst (λ v. IsSound v.row v.size) (sym e) (parts_sound z until m h.cover (λ w. h.steady) u)

pub moved_sizes : (z : ℤ) (t : Cover) (s : Strip) (p : _) (l m : Cover) (q : _) (r n : Cover) (a b : Strip) → t ≡ Pair' s p l q r → IsCover z t →
    SameShape l m → SameShape r n → a ≡ strip_of m → b ≡ strip_of n → a.size + b.size ≡ s.size
moved_sizes z t s p l m q r n a b et c al ar ea eb =
    let d = subst (IsCover z) et c in
    rw (ea, eb) (let i : SameStrip (strip_of l) (strip_of m) = same_strip l m al in let j : SameStrip (strip_of r) (strip_of n) = same_strip r n ar in
    sym (d.shaped.3 ∙ rw (i.2, j.2) refl))

pub moved_on : (z : ℤ) (t : Cover) (s : Strip) (p : _) (l m : Cover) (q : _) (r n : Cover) (a b u : Strip) → t ≡ Pair' s p l q r → IsCover z t → IsMoved z l m →
    IsMoved z r n →
    a ≡ strip_of m → b ≡ strip_of n → u ≡ seen_at z (beside a.row b.row) (int_min a.steady b.steady) s → IsMoved z t (Pair' u p m q n)
moved_on z t s p l m q r n a b u et c al ar ea eb eu =
    let e : u ≡ seen_at z (beside (strip_of m).row (strip_of n).row) (int_min (strip_of m).steady (strip_of n).steady) s = eu ∙ rw (ea, eb) refl in
    subst (λ v. IsMoved z t (Pair' v p m q n)) (sym e)
    (subst (λ v. IsMoved z v (Pair' (seen_at z (beside (strip_of m).row (strip_of n).row) (int_min (strip_of m).steady (strip_of n).steady) s) p m q n))
    (sym et)
    (moved_pair z s p l m q r n (subst (IsCover z) et c) al ar))

pub in_both : (a b c d : ℤ) → (int_le a b && int_le c d) ≡ true → (a ≤ℤ b) × (c ≤ℤ d)
in_both a b c d e = (grind (arith, ints), grind (arith, ints))

pub in_one : (a b c d : ℤ) → (int_lt a b && int_lt c d) ≡ false → (d ≤ℤ c) ⊎ (b ≤ℤ a)
in_one a b c d e = elim (cases_Bool (int_lt a b)) [
  | inl u ↦ inl (int_lt-false c d (rw u at e))
  | inr u ↦ inr (int_lt-false a b u)
]

pub added_whole : (z : ℤ) (rect : Rect) (t : Cover) (s : Strip) (p : _) (l : Cover) (q : _) (r : Cover) (u : Strip) → t ≡ Pair' s p l q r → IsCover z t →
    rect.left ≤ℤ s.from → s.to ≤ℤ rect.right → z <ℤ rect.bottom →
    u ≡ covered_until rect.bottom s → IsAdded z rect t (Pair' u p l q r)
added_whole z rect t s p l q r u et c h k below eu =
    subst (λ v. IsAdded z rect v (Pair' u p l q r)) (sym et)
    (subst (λ v. IsAdded z rect (Pair' s p l q r) (Pair' v p l q r)) (sym eu) (added_whole_pair z rect s p l q r (subst (IsCover z) et c) h k below))

pub added_old : (z : ℤ) (rect : Rect) (t : Cover) (s : Strip) (p : _) (l m : Cover) (q : _) (r n : Cover) → t ≡ Pair' s p l q r → IsCover z t →
    IsAdded z rect l m → IsAdded z rect r n → s.steady <ℤ z → IsAdded z rect t (Pair' s p m q n)
added_old z rect t s p l m q r n et c al ar old = subst (λ v. IsAdded z rect v (Pair' s p m q n)) (sym et)
    (added_unseen z rect s p l m q r n (subst (IsCover z) et c) al ar old)
