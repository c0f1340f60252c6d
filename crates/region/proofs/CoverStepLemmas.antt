use Rattle.std.proofs.Common.{◌≡◌, ◌∙◌, ℤ, ◌+◌, ◌≤◌, ◌<ℤ◌, ◌≤ℤ◌, pos, negsuc, List, [], ◌∷◌, ◌++◌, Bool, true, false, refl, ap, sym}
use Rattle.std.proofs.Common.{subst, arith, inl, inr, int_lt, if◌then◌else◌, ◌||◌, FitsSigned, w32, append_assoc}
use Rattle.std.proofs.lemmas.Int.{ints}
use Rattle.std.proofs.lemmas.List.{append-nil}
use Rattle.std.proofs.lemmas.Bool.{false≢true}
use Rattle.std.proofs.lemmas.Bool.{cases_Bool}
use Rattle.region.specs.Steps.{Step}
use Rattle.region.specs.declared.strip.Strip.{Strip}
use Rattle.region.specs.declared.cover.Cover.{Cover}
use Rattle.region.specs.declared.cover.Cover.TheVariants.{Cell, Pair'}
use Rattle.region.specs.Columns.{column}
use Rattle.region.specs.InnerColumns.{IsColumns}
use Rattle.region.specs.InnerStrip.{within}
use Rattle.region.specs.Steps.{value_at, final_value, BeginsAfter, IsReduced}
use Rattle.region.specs.InnerSteps.{BeginsFrom, AllFit}
use Rattle.region.specs.InnerSpanList.{change}
use Rattle.region.specs.InnerCover.{strip_of, covers, filled_in, last_in, steps_in, columns_in, IsShaped, IsCover}
use Rattle.region.specs.InnerBandList.{run_count}
use Rattle.region.proofs.StepLemmas.{ge_is, at_or_before, value_at-before, BeginsAfter-earlier}
use Rattle.region.proofs.CoverLemmas.{or_none, within_is, within_if, has_width, has_size, not_covered, run_count-append}
use Rattle.region.proofs.CoverTurnLemmas.{told}

or_other : (a b : Bool) → a ≡ false → b ≡ (a || b)
or_other a b e = rw e refl

left_of : (s : Strip) (x : ℤ) → s.to ≤ℤ x → within s x ≡ false
left_of s x h = grind (arith, ints)

right_of : (s : Strip) (x : ℤ) → x <ℤ s.from → within s x ≡ false
right_of s x h = grind (arith, ints)

-- a change and what follows

change_begins : (before u : Bool) (x to : ℤ) (rest : List (Step Bool)) → x <ℤ to → BeginsFrom to rest → BeginsFrom x (change before u x ++ rest)
change_begins true true x to [] h b = tt
change_begins true true x to (s ∷ rest) h b = omega (arith, ints, h, b)
change_begins true false x to rest h b = omega (arith, ints)
change_begins false true x to rest h b = omega (arith, ints)
change_begins false false x to [] h b = tt
change_begins false false x to (s ∷ rest) h b = omega (arith, ints, h, b)

change_value : (before u : Bool) (from : ℤ) (rest : List (Step Bool)) (x : ℤ) → from ≤ℤ x → value_at before (change before u from ++ rest) x ≡ value_at u rest x
change_value true true from rest x h = refl
change_value true false from rest x h = rw (ge_is x from h) refl
change_value false true from rest x h = rw (ge_is x from h) refl
change_value false false from rest x h = refl

change_reduced : (before u : Bool) (from : ℤ) (rest : List (Step Bool)) → BeginsAfter from rest → IsReduced column u rest →
    IsReduced column before (change before u from ++ rest)
change_reduced true true from rest b h = h
change_reduced true false from rest b h = ((λ same. false≢true (same (pos 0))), b, h)
change_reduced false true from rest b h = ((λ same. false≢true (sym (same (pos 0)))), b, h)
change_reduced false false from rest b h = h

change_final : (before u : Bool) (from : ℤ) (rest : List (Step Bool)) → final_value before (change before u from ++ rest) ≡ final_value u rest
change_final true true from rest = refl
change_final true false from rest = refl
change_final false true from rest = refl
change_final false false from rest = refl

change_fits : (before u : Bool) (from : ℤ) (rest : List (Step Bool)) → FitsSigned w32 from → AllFit rest → AllFit (change before u from ++ rest)
change_fits true true from rest f h = h
change_fits true false from rest f h = (f, h)
change_fits false true from rest f h = (f, h)
change_fits false false from rest f h = h

begins_after : (x to : ℤ) (rest : List (Step Bool)) → x <ℤ to → BeginsFrom to rest → BeginsAfter x rest
begins_after x to rest h b = BeginsAfter-earlier x to rest h b

-- the steps of a row, and what follows

joined : (l r : Cover) (y : ℤ) (before : Bool) (rest : List (Step Bool)) →
    (steps_in l y before ++ steps_in r y (last_in l y)) ++ rest ≡ steps_in l y before ++ (steps_in r y (last_in l y) ++ rest)
joined l r y before rest = append_assoc (steps_in l y before) (steps_in r y (last_in l y)) rest

steps_begin : (t : Cover) → IsShaped t → (y : ℤ) (before : Bool) (rest : List (Step Bool)) → BeginsFrom (strip_of t).to rest →
    BeginsFrom (strip_of t).from (steps_in t y before ++ rest)
steps_begin (Cell s) h y before rest b = change_begins before (int_lt y s.until) s.from s.to rest h.0 b
steps_begin (Pair' s p l q r) h y before rest b = elim (cases_Bool (int_lt y s.until)) [
  | inl e ↦ rw e (change_begins before true s.from s.to rest (has_width (Pair' s p l q r) h) b)
  | inr e ↦
      let right = steps_begin r h.5 y (last_in l y) rest (subst (λ z. BeginsFrom z rest) h.2 b) in
      let left = steps_begin l h.4 y before (steps_in r y (last_in l y) ++ rest)
      (subst (λ z. BeginsFrom z (steps_in r y (last_in l y) ++ rest)) (sym h.1) right) in
      rw e (subst (BeginsFrom s.from) (sym (joined l r y before rest))
      (subst (λ z. BeginsFrom z (steps_in l y before ++ (steps_in r y (last_in l y) ++ rest))) (sym h.0) left))
]

steps_reduced : (t : Cover) → IsShaped t → (y : ℤ) (before : Bool) (rest : List (Step Bool)) → BeginsFrom (strip_of t).to rest →
    IsReduced column (last_in t y) rest → IsReduced column before (steps_in t y before ++ rest)
steps_reduced (Cell s) h y before rest b k = change_reduced before (int_lt y s.until) s.from rest (begins_after s.from s.to rest h.0 b) k
steps_reduced (Pair' s p l q r) h y before rest b k = elim (cases_Bool (int_lt y s.until)) [
  | inl e ↦ rw e (change_reduced before true s.from rest (begins_after s.from s.to rest (has_width (Pair' s p l q r) h) b) (rw e at k))
  | inr e ↦
      let c = subst (λ z. BeginsFrom z rest) h.2 b in
      let right = steps_reduced r h.5 y (last_in l y) rest c (rw e at k) in
      let left = steps_reduced l h.4 y before (steps_in r y (last_in l y) ++ rest)
      (subst (λ z. BeginsFrom z (steps_in r y (last_in l y) ++ rest)) (sym h.1) (steps_begin r h.5 y (last_in l y) rest c)) right in
      rw e (subst (IsReduced column before) (sym (joined l r y before rest)) left)
]

steps_final : (t : Cover) (y : ℤ) (before : Bool) (rest : List (Step Bool)) → final_value before (steps_in t y before ++ rest) ≡ final_value (last_in t y) rest
steps_final (Cell s) y before rest = change_final before (int_lt y s.until) s.from rest
steps_final (Pair' s p l q r) y before rest = elim (cases_Bool (int_lt y s.until)) [
  | inl e ↦ rw e (change_final before true s.from rest)
  | inr e ↦ rw e (ap (final_value before) (joined l r y before rest) ∙ steps_final l y before (steps_in r y (last_in l y) ++ rest)
      ∙ steps_final r y (last_in l y) rest)
]

pub fits_between : (z : ℤ) → negsuc 2147483647 ≤ℤ z → z ≤ℤ pos 2147483647 → FitsSigned w32 z
fits_between z h k = omega (arith, ints)

steps_fit : (t : Cover) → IsShaped t → (y : ℤ) (before : Bool) (rest : List (Step Bool)) → negsuc 2147483647 ≤ℤ (strip_of t).from →
    (strip_of t).to ≤ℤ pos 2147483647 → AllFit rest → AllFit (steps_in t y before ++ rest)
steps_fit (Cell s) h y before rest lo hi f = change_fits before (int_lt y s.until) s.from rest (fits_between s.from lo (omega (arith, ints, h.0, hi))) f
steps_fit (Pair' s p l q r) h y before rest lo hi f = elim (cases_Bool (int_lt y s.until)) [
  | inl e ↦ rw e (change_fits before true s.from rest
      (fits_between s.from lo (let w : s.from <ℤ s.to = has_width (Pair' s p l q r) h in omega (arith, ints, w, hi))) f)
  | inr e ↦
      let a : (strip_of l).from <ℤ (strip_of l).to = has_width l h.4 in
      let b : (strip_of r).from <ℤ (strip_of r).to = has_width r h.5 in
      let right = steps_fit r h.5 y (last_in l y) rest (omega (arith, ints, lo, h.0, h.1, a)) (omega (arith, ints, hi, h.2)) f in
      let left = steps_fit l h.4 y before (steps_in r y (last_in l y) ++ rest) (omega (arith, ints, lo, h.0)) (omega (arith, ints, hi, h.2, h.1, b)) right in
      rw e (subst AllFit (sym (joined l r y before rest)) left)
]

steps_after : (t : Cover) → IsShaped t → (y : ℤ) (before : Bool) (rest : List (Step Bool)) (x : ℤ) → (strip_of t).to ≤ℤ x →
    value_at before (steps_in t y before ++ rest) x ≡ value_at (last_in t y) rest x
steps_after (Cell s) h y before rest x k = change_value before (int_lt y s.until) s.from rest x (omega (arith, ints, h.0, k))
steps_after (Pair' s p l q r) h y before rest x k = elim (cases_Bool (int_lt y s.until)) [
  | inl e ↦ rw e (change_value before true s.from rest x (let w : s.from <ℤ s.to = has_width (Pair' s p l q r) h in omega (arith, ints, w, k)))
  | inr e ↦
      let b : (strip_of r).from <ℤ (strip_of r).to = has_width r h.5 in
      rw e (ap (λ u. value_at before u x) (joined l r y before rest)
      ∙ steps_after l h.4 y before (steps_in r y (last_in l y) ++ rest) x (omega (arith, ints, k, h.2, h.1, b))
      ∙ steps_after r h.5 y (last_in l y) rest x (omega (arith, ints, k, h.2)))
]

cell_value : (u w : Bool) → w ≡ true → u ≡ (if u then w else false)
cell_value true w e = sym e
cell_value false w e = refl

steps_inside : (t : Cover) → IsShaped t → (y : ℤ) (before : Bool) (rest : List (Step Bool)) → BeginsFrom (strip_of t).to rest → (x : ℤ) →
    within (strip_of t) x ≡ true → value_at before (steps_in t y before ++ rest) x ≡ covers t y x
steps_inside (Cell s) h y before rest b x w =
    let i : (s.from ≤ℤ x) × (x <ℤ s.to) = within_is s x w in
    change_value before (int_lt y s.until) s.from rest x i.0 ∙ value_at-before (int_lt y s.until) rest x (begins_after x s.to rest i.1 b)
    ∙ cell_value (int_lt y s.until) (within s x) w
steps_inside (Pair' s p l q r) h y before rest b x w =
    let i : (s.from ≤ℤ x) × (x <ℤ s.to) = within_is s x w in
    elim (cases_Bool (int_lt y s.until)) [
      | inl e ↦ rw e (change_value before true s.from rest x i.0 ∙ value_at-before true rest x (begins_after x s.to rest i.1 b) ∙ sym w)
      | inr e ↦
          let c = subst (λ z. BeginsFrom z rest) h.2 b in
          let d = subst (λ z. BeginsFrom z (steps_in r y (last_in l y) ++ rest)) (sym h.1) (steps_begin r h.5 y (last_in l y) rest c) in
          rw e (ap (λ u. value_at before u x) (joined l r y before rest) ∙ elim (at_or_before x (strip_of l).to) [
            | inl k ↦
                let v : within (strip_of l) x ≡ true = within_if (strip_of l) x (omega (arith, ints, i.0, h.0)) k in
                steps_inside l h.4 y before (steps_in r y (last_in l y) ++ rest) d x v
                ∙ sym (or_none (covers l y x) (covers r y x) (not_covered r h.5 y x (right_of (strip_of r) x (omega (arith, ints, k, h.1)))))
            | inr k ↦
                let v : within (strip_of r) x ≡ true = within_if (strip_of r) x (omega (arith, ints, k, h.1)) (omega (arith, ints, i.1, h.2)) in
                steps_after l h.4 y before (steps_in r y (last_in l y) ++ rest) x k ∙ steps_inside r h.5 y (last_in l y) rest c x v
                ∙ or_other (covers l y x) (covers r y x) (not_covered l h.4 y x (left_of (strip_of l) x k))
          ])
    ]

-- the columns of a row are those of the set

close_begins : (u : Bool) (x : ℤ) → BeginsFrom x (change u false x)
close_begins true x = omega (arith, ints)
close_begins false x = tt

close_reduced : (u : Bool) (x : ℤ) → IsReduced column u (change u false x)
close_reduced true x = ((λ same. false≢true (same (pos 0))), tt, tt)
close_reduced false x = tt

close_final : (u : Bool) (x : ℤ) → final_value u (change u false x) ≡ false
close_final true x = refl
close_final false x = refl

close_fits : (u : Bool) (x : ℤ) → FitsSigned w32 x → AllFit (change u false x)
close_fits true x f = (f, tt)
close_fits false x f = tt

close_after : (u : Bool) (to x : ℤ) → to ≤ℤ x → value_at u (change u false to) x ≡ false
close_after true to x h = rw (ge_is x to h) refl
close_after false to x h = refl

close_runs : (u : Bool) (x : ℤ) → run_count (change u false x) ≡ 0
close_runs true x = refl
close_runs false x = refl

pub columns_are : (t : Cover) → IsShaped t → (y : ℤ) → negsuc 2147483647 ≤ℤ (strip_of t).from → (strip_of t).to ≤ℤ pos 2147483647 → IsColumns (columns_in t y)
columns_are t h y lo hi =
    let rest = change (last_in t y) false (strip_of t).to in
    let w : (strip_of t).from <ℤ (strip_of t).to = has_width t h in
    record {
      columns = record {
        reduced = steps_reduced t h y false rest (close_begins (last_in t y) (strip_of t).to) (close_reduced (last_in t y) (strip_of t).to);
        ends = steps_final t y false rest ∙ close_final (last_in t y) (strip_of t).to;
      };
      fits = steps_fit t h y false rest lo hi (close_fits (last_in t y) (strip_of t).to (fits_between (strip_of t).to (omega (arith, ints, w, lo)) hi));
    }

pub columns_hold : (t : Cover) → IsShaped t → (y x : ℤ) → value_at false (columns_in t y) x ≡ covers t y x
columns_hold t h y x =
    let rest = change (last_in t y) false (strip_of t).to in
    let b = close_begins (last_in t y) (strip_of t).to in
    elim (at_or_before x (strip_of t).from) [
      | inl k ↦ value_at-before false (columns_in t y) x (begins_after x (strip_of t).from (columns_in t y) k (steps_begin t h y false rest b))
          ∙ sym (not_covered t h y x (right_of (strip_of t) x k))
      | inr k ↦ elim (at_or_before x (strip_of t).to) [
        | inl i ↦ steps_inside t h y false rest b x (within_if (strip_of t) x k i)
        | inr i ↦ steps_after t h y false rest x i ∙ close_after (last_in t y) (strip_of t).to x i ∙ sym (not_covered t h y x (left_of (strip_of t) x i))
      ]
    ]

pub columns_count : (t : Cover) (y : ℤ) → run_count (columns_in t y) ≡ run_count (steps_in t y false)
columns_count t y =
    let a = run_count-append (steps_in t y false) (change (last_in t y) false (strip_of t).to) in
    let b = close_runs (last_in t y) (strip_of t).to in omega (arith, a, b)

-- an empty row

nothing_covered : (t : Cover) → IsShaped t → (y : ℤ) → filled_in t y ≡ 0 → (before : Bool) →
    (steps_in t y before ≡ change before false (strip_of t).from) × (last_in t y ≡ false)
nothing_covered (Cell s) h y n before = elim (cases_Bool (int_lt y s.until)) [
  | inl e ↦ absurd (let m : s.size ≡ 0 = rw e at n in omega (arith, m, h.1))
  | inr e ↦ (rw e refl, e)
]
nothing_covered (Pair' s p l q r) h y n before = elim (cases_Bool (int_lt y s.until)) [
  | inl e ↦ absurd (let m : s.size ≡ 0 = rw e at n in let k : 1 ≤ s.size = has_size (Pair' s p l q r) h in omega (arith, m, k))
  | inr e ↦
      let m : filled_in l y + filled_in r y ≡ 0 = rw e at n in
      let left = nothing_covered l h.4 y (omega (arith, m)) before in
      let right = nothing_covered r h.5 y (omega (arith, m)) (last_in l y) in (
        rw e (ap (λ u. steps_in l y before ++ u) (right.0 ∙ ap (λ u. change u false (strip_of r).from) left.1) ∙ append-nil (steps_in l y before) ∙ left.0
            ∙ ap (change before false) (sym h.0)),
        rw e right.1,
      )
]

-- what code turns for a pair

pub empty_steps : (z : ℤ) (t : Cover) (s : Strip) (p : _) (l : Cover) (q : _) (r : Cover) (before : Bool) → t ≡ Pair' s p l q r → IsCover z t →
    z ≤ℤ (strip_of t).steady → s.row.filled ≡ 0 → (steps_in t z before ≡ change before false s.from) × (last_in t z ≡ false)
empty_steps z t s p l q r before et c now n =
    let f : (strip_of t).row.filled ≡ filled_in t z = (told z t c.seen z (omega (arith, ints)) now).filled in
    let none = nothing_covered t c.shaped z (sym f ∙ ap (λ u. (strip_of u).row.filled) et ∙ n) before in
    (none.0 ∙ ap (λ u. change before false (strip_of u).from) et, none.1)

-- the runs that a strip tells
pub told_runs : (z : ℤ) (t : Cover) (s : Strip) → IsCover z t → z ≤ℤ (strip_of t).steady → s ≡ strip_of t → s.row.runs ≡ run_count (columns_in t z)
told_runs z t s c now e = ap (λ u. u.row.runs) e ∙ (told z t c.seen z (omega (arith, ints)) now).runs ∙ sym (columns_count t z)
