use Rattle.std.proofs.Common.{◌≡◌, ◌∙◌, ℤ, ◌+◌, ◌≤◌, ◌<ℤ◌, ◌≤ℤ◌, List, [], ◌∷◌, ◌++◌, Bool, true, false, refl, ap, sym}
use Rattle.std.proofs.Common.{subst, arith, ◌⊎◌, inl, inr, int_lt, if◌then◌else◌, ◌&&◌, ◌||◌}
use Rattle.std.proofs.lemmas.Int.{ints}
use Rattle.std.proofs.lemmas.Bool.{false≢true}
use Rattle.std.proofs.lemmas.Bool.{cases_Bool, or_cases, or_left, or_right}
use mathlib.Core.Bool.{or-false}
use Rattle.geom_base.specs.Tests.{int_lt-true, int_lt-false}
use Rattle.region.specs.Steps.{Step}
use Rattle.region.specs.declared.row.Row.{Row}
use Rattle.region.specs.declared.strip.Strip.{Strip}
use Rattle.region.specs.declared.cover.Cover.{Cover}
use Rattle.region.specs.declared.cover.Cover.TheVariants.{Cell, Pair'}
use Rattle.region.specs.InnerRow.{IsSound}
use Rattle.region.specs.InnerStrip.{within}
use Rattle.region.specs.InnerSpanList.{change}
use Rattle.region.specs.InnerCover.{strip_of, covers, filled_in, first_in, last_in, steps_in, IsRowOf, IsShaped, SameStrip, SameShape}
use Rattle.region.specs.InnerBandList.{run_count}
use Rattle.region.proofs.StepLemmas.{lt_is, ge_is, at_or_before}
use Rattle.region.proofs.CountLemmas.{flag}

pub within_is : (s : Strip) (x : ℤ) → within s x ≡ true → (s.from ≤ℤ x) × (x <ℤ s.to)
within_is s x e = (grind (arith, ints), grind (arith, ints))

pub within_if : (s : Strip) (x : ℤ) → s.from ≤ℤ x → x <ℤ s.to → within s x ≡ true
within_if s x h k = grind (arith, ints)

choose : (u a b : Bool) → (if u then a else b) ≡ true → (a ≡ true) ⊎ (b ≡ true)
choose true a b e = inl e
choose false a b e = inr e

pub or_none : (a b : Bool) → b ≡ false → (a || b) ≡ a
or_none a b e = ap (λ u. a || u) e ∙ or-false a

pick : {A : Type 0} (P : A → Type 0) (u : Bool) (a b : A) → P a → P b → P (if u then a else b)
pick P true a b h k = h
pick P false a b h k = k

-- a strip has a column
pub has_width : (t : Cover) → IsShaped t → (strip_of t).from <ℤ (strip_of t).to
has_width (Cell s) h = h.0
has_width (Pair' s p l q r) h =
    let a : (strip_of l).from <ℤ (strip_of l).to = has_width l h.4 in
    let b : (strip_of r).from <ℤ (strip_of r).to = has_width r h.5 in omega (arith, ints, a, b, h.0, h.1, h.2)

pub has_size : (t : Cover) → IsShaped t → 1 ≤ (strip_of t).size
has_size (Cell s) h = omega (arith, h.1)
has_size (Pair' s p l q r) h =
    let a : 1 ≤ (strip_of l).size = has_size l h.4 in omega (arith, a, h.3)

-- the columns of a part are columns of the whole
pub within_left : (s : Strip) (l r : Cover) (x : ℤ) → s.from ≡ (strip_of l).from → (strip_of l).to ≡ (strip_of r).from → s.to ≡ (strip_of r).to → IsShaped r →
    within (strip_of l) x ≡ true → within s x ≡ true
within_left s l r x a b c h w =
    let i : ((strip_of l).from ≤ℤ x) × (x <ℤ (strip_of l).to) = within_is (strip_of l) x w in
    let k : (strip_of r).from <ℤ (strip_of r).to = has_width r h in
    within_if s x (omega (arith, ints, i.0, a)) (omega (arith, ints, i.1, b, c, k))

pub within_right : (s : Strip) (l r : Cover) (x : ℤ) → s.from ≡ (strip_of l).from → (strip_of l).to ≡ (strip_of r).from → s.to ≡ (strip_of r).to → IsShaped l →
    within (strip_of r) x ≡ true → within s x ≡ true
within_right s l r x a b c h w =
    let i : ((strip_of r).from ≤ℤ x) × (x <ℤ (strip_of r).to) = within_is (strip_of r) x w in
    let k : (strip_of l).from <ℤ (strip_of l).to = has_width l h in
    within_if s x (omega (arith, ints, i.0, a, b, k)) (omega (arith, ints, i.1, c))

-- only columns of the strip are covered
pub covers_within : (t : Cover) → IsShaped t → (y x : ℤ) → covers t y x ≡ true → within (strip_of t) x ≡ true
covers_within (Cell s) h y x e = elim (choose (int_lt y s.until) (within s x) false e) [ inl w ↦ w | inr n ↦ absurd (false≢true n) ]
covers_within (Pair' s p l q r) h y x e = elim (choose (int_lt y s.until) (within s x) (covers l y x || covers r y x) e) [
  | inl w ↦ w
  | inr n ↦ elim (or_cases (covers l y x) (covers r y x) n) [
    | inl a ↦ within_left s l r x h.0 h.1 h.2 h.5 (covers_within l h.4 y x a)
    | inr b ↦ within_right s l r x h.0 h.1 h.2 h.4 (covers_within r h.5 y x b)
  ]
]

pub not_covered : (t : Cover) → IsShaped t → (y x : ℤ) → within (strip_of t) x ≡ false → covers t y x ≡ false
not_covered t h y x w = elim (cases_Bool (covers t y x)) [ inl c ↦ absurd (false≢true (sym w ∙ covers_within t h y x c)) | inr c ↦ c ]

pub filled_le : (t : Cover) → IsShaped t → (y : ℤ) → filled_in t y ≤ (strip_of t).size
filled_le (Cell s) h y = pick (λ n. n ≤ s.size) (int_lt y s.until) s.size 0 (omega arith) (omega arith)
filled_le (Pair' s p l q r) h y = pick (λ n. n ≤ s.size) (int_lt y s.until) s.size (filled_in l y + filled_in r y) (omega arith)
    (let a : filled_in l y ≤ (strip_of l).size = filled_le l h.4 y in let b : filled_in r y ≤ (strip_of r).size = filled_le r h.5 y in omega (arith, a, b, h.3))

-- where all cells are covered, all columns are
pub full_covers : (t : Cover) → IsShaped t → (y : ℤ) → filled_in t y ≡ (strip_of t).size → (x : ℤ) → within (strip_of t) x ≡ true → covers t y x ≡ true
full_covers (Cell s) h y f x w = elim (cases_Bool (int_lt y s.until)) [
  | inl e ↦ rw e w
  | inr e ↦ absurd (let n : 0 ≡ s.size = rw e at f in omega (arith, n, h.1))
]
full_covers (Pair' s p l q r) h y f x w = elim (cases_Bool (int_lt y s.until)) [
  | inl e ↦ rw e w
  | inr e ↦
      let n : filled_in l y + filled_in r y ≡ s.size = rw e at f in
      let a : filled_in l y ≤ (strip_of l).size = filled_le l h.4 y in
      let b : filled_in r y ≤ (strip_of r).size = filled_le r h.5 y in
      let i : (s.from ≤ℤ x) × (x <ℤ s.to) = within_is s x w in
      rw e (elim (at_or_before x (strip_of l).to) [
        | inl before ↦ or_left (covers l y x) (covers r y x)
            (full_covers l h.4 y (omega (arith, n, a, b, h.3)) x (within_if (strip_of l) x (omega (arith, ints, i.0, h.0)) before))
        | inr after ↦ or_right (covers l y x) (covers r y x)
            (full_covers r h.5 y (omega (arith, n, a, b, h.3)) x (within_if (strip_of r) x (omega (arith, ints, after, h.1)) (omega (arith, ints, i.1, h.2))))
      ])
]

pub covers_full : (t : Cover) → IsShaped t → (y : ℤ) → ((x : ℤ) → within (strip_of t) x ≡ true → covers t y x ≡ true) → filled_in t y ≡ (strip_of t).size
covers_full (Cell s) h y f = elim (cases_Bool (int_lt y s.until)) [
  | inl e ↦ rw e refl
  | inr e ↦ absurd (let c : covers (Cell s) y s.from ≡ true = f s.from (within_if s s.from (omega (arith, ints)) h.0) in false≢true (rw e at c))
]
covers_full (Pair' s p l q r) h y f = elim (cases_Bool (int_lt y s.until)) [
  | inl e ↦ rw e refl
  | inr e ↦
      let a : filled_in l y ≡ (strip_of l).size = covers_full l h.4 y (λ x w.
      let c : covers (Pair' s p l q r) y x ≡ true = f x (within_left s l r x h.0 h.1 h.2 h.5 w) in
      let d : (covers l y x || covers r y x) ≡ true = rw e at c in
      elim (or_cases (covers l y x) (covers r y x) d) [
        | inl i ↦ i
        | inr i ↦ absurd (
            let m : ((strip_of l).from ≤ℤ x) × (x <ℤ (strip_of l).to) = within_is (strip_of l) x w in
            let n : ((strip_of r).from ≤ℤ x)
            × (x <ℤ (strip_of r).to) = within_is (strip_of r) x (covers_within r h.5 y x i) in omega (arith, ints, m.1, n.0, h.1))
      ]) in
      let b : filled_in r y ≡ (strip_of r).size = covers_full r h.5 y (λ x w.
      let c : covers (Pair' s p l q r) y x ≡ true = f x (within_right s l r x h.0 h.1 h.2 h.4 w) in
      let d : (covers l y x || covers r y x) ≡ true = rw e at c in
      elim (or_cases (covers l y x) (covers r y x) d) [
        | inl i ↦ absurd (
            let m : ((strip_of r).from ≤ℤ x) × (x <ℤ (strip_of r).to) = within_is (strip_of r) x w in
            let n : ((strip_of l).from ≤ℤ x)
            × (x <ℤ (strip_of l).to) = within_is (strip_of l) x (covers_within l h.4 y x i) in omega (arith, ints, n.1, m.0, h.1))
        | inr i ↦ i
      ]) in
      rw e (omega (arith, a, b, h.3))
]

pub same_strip : (a b : Cover) → SameShape a b → SameStrip (strip_of a) (strip_of b)
same_strip (Cell s) (Cell t) h = h
same_strip (Cell s) (Pair' t p l q r) h = absurd h
same_strip (Pair' s p l q r) (Cell t) h = absurd h
same_strip (Pair' s p l q r) (Pair' t p2 l2 q2 r2) h = h.0

pub within_same : (s t : Strip) → SameStrip s t → (x : ℤ) → within s x ≡ within t x
within_same s t h x = rw (h.0, h.1) refl

-- a row that has all columns of another has more cells, or the same columns
pub record IsGrown (a b : Cover) (y z : ℤ) : Type 0 where
  pub more : filled_in a y ≤ filled_in b z
  pub same : filled_in a y ≡ filled_in b z → (x : ℤ) → covers b z x ≡ true → covers a y x ≡ true

grown_to_full : (a b : Cover) → IsShaped a → IsShaped b → SameShape a b → (y z : ℤ) → filled_in b z ≡ (strip_of b).size → IsGrown a b y z
grown_to_full a b ha hb h y z f =
    let s : SameStrip (strip_of a) (strip_of b) = same_strip a b h in
    let n : filled_in a y ≤ (strip_of a).size = filled_le a ha y in
    record {
      more = omega (arith, f, s.2, n);
      same = λ e x c. full_covers a ha y (omega (arith, e, f, s.2)) x (within_same (strip_of a) (strip_of b) s x ∙ covers_within b hb z x c);
    }

grown_from_full : (a b : Cover) → IsShaped a → IsShaped b → SameShape a b → (y z : ℤ) → ((x : ℤ) → covers a y x ≡ true → covers b z x ≡ true) →
    filled_in a y ≡ (strip_of a).size → IsGrown a b y z
grown_from_full a b ha hb h y z all f =
    let s : SameStrip (strip_of a) (strip_of b) = same_strip a b h in
    grown_to_full a b ha hb h y z (covers_full b hb z (λ x w. all x (full_covers a ha y f x (within_same (strip_of a) (strip_of b) s x ∙ w))))

left_grows : (la ra lb rb : Cover) → IsShaped la → IsShaped ra → IsShaped lb → IsShaped rb → SameShape la lb → SameShape ra rb →
    (strip_of la).to ≡ (strip_of ra).from → (y z x : ℤ) →
    ((covers la y x || covers ra y x) ≡ true → (covers lb z x || covers rb z x) ≡ true) → covers la y x ≡ true → covers lb z x ≡ true
left_grows la ra lb rb hla hra hlb hrb sl sr e y z x all c = elim (or_cases (covers lb z x) (covers rb z x) (all (or_left (covers la y x) (covers ra y x) c))) [
  | inl i ↦ i
  | inr i ↦ absurd (
      let m : ((strip_of la).from ≤ℤ x) × (x <ℤ (strip_of la).to) = within_is (strip_of la) x (covers_within la hla y x c) in
      let n : ((strip_of rb).from ≤ℤ x) × (x <ℤ (strip_of rb).to) = within_is (strip_of rb) x (covers_within rb hrb z x i) in
      let s : SameStrip (strip_of ra) (strip_of rb) = same_strip ra rb sr in omega (arith, ints, m.1, n.0, e, s.0))
]

right_grows : (la ra lb rb : Cover) → IsShaped la → IsShaped ra → IsShaped lb → IsShaped rb → SameShape la lb → SameShape ra rb →
    (strip_of la).to ≡ (strip_of ra).from → (y z x : ℤ) →
    ((covers la y x || covers ra y x) ≡ true → (covers lb z x || covers rb z x) ≡ true) → covers ra y x ≡ true → covers rb z x ≡ true
right_grows la ra lb rb hla hra hlb hrb sl sr e y z x all c = elim
    (or_cases (covers lb z x) (covers rb z x) (all (or_right (covers la y x) (covers ra y x) c))) [
      | inl i ↦ absurd (
          let m : ((strip_of ra).from ≤ℤ x) × (x <ℤ (strip_of ra).to) = within_is (strip_of ra) x (covers_within ra hra y x c) in
          let n : ((strip_of lb).from ≤ℤ x) × (x <ℤ (strip_of lb).to) = within_is (strip_of lb) x (covers_within lb hlb z x i) in
          let s : SameStrip (strip_of la) (strip_of lb) = same_strip la lb sl in omega (arith, ints, m.0, n.1, e, s.1))
      | inr i ↦ i
    ]

pub grown : (a b : Cover) → IsShaped a → IsShaped b → SameShape a b → (y z : ℤ) → ((x : ℤ) → covers a y x ≡ true → covers b z x ≡ true) → IsGrown a b y z
grown (Cell s) (Cell t) ha hb h y z all = elim (cases_Bool (int_lt z t.until)) [
  | inl e ↦ grown_to_full (Cell s) (Cell t) ha hb h y z (rw e refl)
  | inr e ↦ elim (cases_Bool (int_lt y s.until)) [
    | inl d ↦ grown_from_full (Cell s) (Cell t) ha hb h y z all (rw d refl)
    | inr d ↦ record { more = rw (d, e) (omega arith); same = λ n x c. absurd (false≢true (rw e at c)) }
  ]
]
grown (Cell s) (Pair' t p l q r) ha hb h y z all = absurd h
grown (Pair' s p l q r) (Cell t) ha hb h y z all = absurd h
grown (Pair' s p l q r) (Pair' t p2 l2 q2 r2) ha hb h y z all = elim (cases_Bool (int_lt z t.until)) [
  | inl e ↦ grown_to_full (Pair' s p l q r) (Pair' t p2 l2 q2 r2) ha hb h y z (rw e refl)
  | inr e ↦ elim (cases_Bool (int_lt y s.until)) [
    | inl d ↦ grown_from_full (Pair' s p l q r) (Pair' t p2 l2 q2 r2) ha hb h y z all (rw d refl)
    | inr d ↦
        let parts : (x : ℤ) → (covers l y x || covers r y x) ≡ true →
        (covers l2 z x || covers r2 z x) ≡ true = λ x c. let k : covers (Pair' t p2 l2 q2 r2) z x ≡ true = all x (rw d c) in rw e at k in
        let left : IsGrown l l2 y z = grown l l2 ha.4 hb.4 h.1 y z (λ x c. left_grows l r l2 r2 ha.4 ha.5 hb.4 hb.5 h.1 h.2 ha.1 y z x (parts x) c) in
        let right : IsGrown r r2 y z = grown r r2 ha.5 hb.5 h.2 y z (λ x c. right_grows l r l2 r2 ha.4 ha.5 hb.4 hb.5 h.1 h.2 ha.1 y z x (parts x) c) in
        record {
          more = rw (d, e) (omega (arith, left.more, right.more));
          same = λ n x c.
              let m : filled_in l y + filled_in r y ≡ filled_in l2 z + filled_in r2 z = rw (d, e) at n in
              let k : (covers l2 z x || covers r2 z x) ≡ true = rw e at c in
              rw d (elim (or_cases (covers l2 z x) (covers r2 z x) k) [
                | inl i ↦ or_left (covers l y x) (covers r y x) (left.same (omega (arith, m, left.more, right.more)) x i)
                | inr i ↦ or_right (covers l y x) (covers r y x) (right.same (omega (arith, m, left.more, right.more)) x i)
              ]);
        }
  ]
]

-- what is covered in a row is covered in the rows above
pub covers_above : (t : Cover) → IsShaped t → (y z x : ℤ) → y ≤ℤ z → covers t z x ≡ true → covers t y x ≡ true
covers_above (Cell s) h y z x k c = elim (cases_Bool (int_lt z s.until)) [
  | inl e ↦ rw (lt_is y s.until (let i : z <ℤ s.until = int_lt-true z s.until e in omega (arith, ints, i, k))) (rw e at c)
  | inr e ↦ absurd (false≢true (rw e at c))
]
covers_above (Pair' s p l q r) h y z x k c = elim (cases_Bool (int_lt y s.until)) [
  | inl e ↦ rw e (covers_within (Pair' s p l q r) h z x c)
  | inr e ↦
      let d : (covers l z x || covers r z x) ≡
      true = rw (ge_is z s.until (let i : s.until ≤ℤ y = int_lt-false y s.until e in omega (arith, ints, i, k))) at c in
      rw e (elim (or_cases (covers l z x) (covers r z x) d) [
        | inl i ↦ or_left (covers l y x) (covers r y x) (covers_above l h.4 y z x k i)
        | inr i ↦ or_right (covers l y x) (covers r y x) (covers_above r h.5 y z x k i)
      ])
]

-- runs

pub run_count-append : (a b : List (Step Bool)) → run_count (a ++ b) ≡ run_count a + run_count b
run_count-append [] b = omega arith
run_count-append (s ∷ a) b = ap (λ n. flag s.value + n) (run_count-append a b) ∙ omega arith

change_runs : (u : Bool) (x : ℤ) → run_count (change true u x) + flag u ≡ run_count (change false u x)
change_runs true x = refl
change_runs false x = refl

-- a covered column before takes the first run away
pub runs_after : (t : Cover) (y : ℤ) → run_count (steps_in t y true) + flag (first_in t y) ≡ run_count (steps_in t y false)
runs_after (Cell s) y = change_runs (int_lt y s.until) s.from
runs_after (Pair' s p l q r) y = elim (cases_Bool (int_lt y s.until)) [
  | inl e ↦ rw e refl
  | inr e ↦
      let a = run_count-append (steps_in l y true) (steps_in r y (last_in l y)) in
      let b = run_count-append (steps_in l y false) (steps_in r y (last_in l y)) in
      let n = runs_after l y in rw e (omega (arith, a, b, n))
]

pub runs_before : (t : Cover) (y : ℤ) (before : Bool) →
    run_count (steps_in t y before) + (if before && first_in t y then 1 else 0) ≡ run_count (steps_in t y false)
runs_before t y true = runs_after t y
runs_before t y false = omega arith

pub runs_le : (t : Cover) → IsShaped t → (y : ℤ) → run_count (steps_in t y false) ≤ filled_in t y
runs_le (Cell s) h y = elim (cases_Bool (int_lt y s.until)) [ inl e ↦ rw e (omega (arith, h.1)) | inr e ↦ rw e (omega arith) ]
runs_le (Pair' s p l q r) h y = elim (cases_Bool (int_lt y s.until)) [
  | inl e ↦ rw e (has_size (Pair' s p l q r) h)
  | inr e ↦
      let a = run_count-append (steps_in l y false) (steps_in r y (last_in l y)) in
      let b = runs_before r y (last_in l y) in
      let m : run_count (steps_in l y false) ≤ filled_in l y = runs_le l h.4 y in
      let n : run_count (steps_in r y false) ≤ filled_in r y = runs_le r h.5 y in rw e (omega (arith, a, b, m, n))
]

pub row_is_sound : (t : Cover) → IsShaped t → (y : ℤ) (row : Row) → IsRowOf t y row → IsSound row (strip_of t).size
row_is_sound t h y row k = record {
  filled = subst (λ n. n ≤ (strip_of t).size) (sym k.filled) (filled_le t h y);
  runs = rw (k.runs, k.filled) (runs_le t h y);
  first = let n = runs_after t y in rw (k.first, k.runs) (omega (arith, n));
}
