-- Laws of steps: those that hold of every list, and then those of a list that has as many values as the size has points.
use Rattle.std.proofs.Common.{◌≡◌, ◌≢◌, ℕ, ◌+◌, ◌*◌, ◌/◌, ◌%◌, ◌<◌, Bool, true, false, cond, ◌&&◌, ◌||◌, List, [], ◌∷◌, length, get_or, set, refl, sym, ap}
use Rattle.std.proofs.Common.{◌∙◌, ◌⊎◌, inl, inr, Option, zero, suc, arith, add-zero, zero-add, IsTrue, true≢false, unwrap_or}
use Rattle.std.proofs.lemmas.Nat.{div-mul-add, mod-mul-add, mul-add-lt, div_below, mod_below, div-add-mod'}
use Rattle.std.proofs.Math.Nat.{mul_comm}
use Rattle.std.proofs.lemmas.List.{length-set, get_or-set_same, get_or-set_other}
use Rattle.geom_base.specs.declared.point.Point.{Point}
use Rattle.geom_base.specs.declared.size.Size.{Size}
use Rattle.geom_base.specs.Grid.{value_at, point_of}
use Rattle.geom_base.specs.GridLaws.{same_place_or, place-apart, same_grid, wide_of}
use Rattle.geom_base.specs.Points.{point_at}
use Rattle.geom_base.specs.Step.{Area, Change, map_from, step_at, value_after, redrawn}

-- maps that agree at each place and value give one list
pub map_from-ext : (f g : ℕ → ℕ → ℕ) (n : ℕ) (vs : List ℕ) → ((i : ℕ) → i < length vs → f (n + i) (get_or vs i 0) ≡ g (n + i) (get_or vs i 0)) →
    map_from f n vs ≡ map_from g n vs
unfolding map_from
map_from-ext f g n [] h = refl
map_from-ext f g n (v ∷ vs) h =
    let head : f n v ≡ g n v = rw add-zero at (h 0 (omega arith)) in
    let tail : map_from f (n + 1) vs ≡
    map_from g (n + 1) vs = map_from-ext f g (n + 1) vs (λ i lt. let e : n + 1 + i ≡ n + suc i = omega arith in rw e (h (suc i) (omega arith))) in
    cc

pub map_from-map_from : (f g : ℕ → ℕ → ℕ) (n : ℕ) (vs : List ℕ) → map_from f n (map_from g n vs) ≡ map_from (λ i v. f i (g i v)) n vs
unfolding map_from
map_from-map_from f g n [] = refl
map_from-map_from f g n (v ∷ vs) = ap (λ ws. f n (g n v) ∷ ws) (map_from-map_from f g (n + 1) vs)

pub length-map_from : (f : ℕ → ℕ → ℕ) (n : ℕ) (vs : List ℕ) → length (map_from f n vs) ≡ length vs
unfolding map_from
length-map_from f n [] = refl
length-map_from f n (v ∷ vs) = let e = length-map_from f (n + 1) vs in omega arith

pub get_or-map_from : (f : ℕ → ℕ → ℕ) (n : ℕ) (vs : List ℕ) (i : ℕ) → i < length vs → get_or (map_from f n vs) i 0 ≡ f (n + i) (get_or vs i 0)
unfolding map_from
get_or-map_from f n [] i h = absurd (omega arith)
get_or-map_from f n (v ∷ vs) zero h = rw add-zero
get_or-map_from f n (v ∷ vs) (suc i) h = let e : n + suc i ≡ n + 1 + i = omega arith in rw e (get_or-map_from f (n + 1) vs i (omega arith))

pub map_from-same : (n : ℕ) (vs : List ℕ) → map_from (λ i v. v) n vs ≡ vs
unfolding map_from
map_from-same n [] = refl
map_from-same n (v ∷ vs) = ap (λ ws. v ∷ ws) (map_from-same (n + 1) vs)

pub length-redrawn : (size : Size) (vs : List ℕ) (area : Area) (new : Change) → length (redrawn size vs area new) ≡ length vs
unfolding redrawn
length-redrawn size vs area new = length-map_from (step_at size.w area new) 0 vs

-- a step in no point at all
pub redrawn_nowhere : (size : Size) (vs : List ℕ) (new : Change) → redrawn size vs (λ _. false) new ≡ vs
unfolding redrawn
redrawn_nowhere size vs new = map_from-same 0 vs

-- two rules and areas that give the same at each place
pub redrawn_ext : (size : Size) (vs : List ℕ) (area area' : Area) (new new' : Change) →
    ((i : ℕ) → i < length vs → step_at size.w area new i (get_or vs i 0) ≡ step_at size.w area' new' i (get_or vs i 0)) →
    redrawn size vs area new ≡ redrawn size vs area' new'
unfolding redrawn
redrawn_ext size vs area area' new new' h = map_from-ext (step_at size.w area new) (step_at size.w area' new') 0 vs (λ i lt. rw zero-add (h i lt))

one_step : (p q : Bool) → (IsTrue q → p ≡ false) → (f : ℕ → ℕ) (v : ℕ) → cond q (f (cond p (f v) v)) (cond p (f v) v) ≡ cond (p || q) (f v) v
one_step true true h f v = cc (h refl)
one_step true false h f v = refl
one_step false true h f v = refl
one_step false false h f v = refl

-- two steps on apart areas are one
pub redrawn_redrawn : (size : Size) (vs : List ℕ) (a b : Area) (new : Change) → ((p : Point) → IsTrue (b p) → a p ≡ false) →
    redrawn size (redrawn size vs a new) b new ≡ redrawn size vs (λ p. a p || b p) new
unfolding redrawn
redrawn_redrawn size vs a b new apart =
    map_from-map_from (step_at size.w b new) (step_at size.w a new) 0 vs
    ∙ map_from-ext _ (step_at size.w (λ p. a p || b p) new) 0 vs
    (λ i h. rw zero-add (one_step (a (point_of size.w i)) (b (point_of size.w i)) (apart (point_of size.w i)) (value_after new (point_of size.w i))
    (get_or vs i 0)))

two_steps : (p q : Bool) (f g h : ℕ → ℕ) (v : ℕ) → (IsTrue q → p ≡ false) → (IsTrue p → f v ≡ h v) → (IsTrue q → g v ≡ h v) →
    cond q (g (cond p (f v) v)) (cond p (f v) v) ≡ cond (p || q) (h v) v
two_steps true true f g h v apart a b = absurd (true≢false (apart refl))
two_steps true false f g h v apart a b = a refl
two_steps false true f g h v apart a b = b refl
two_steps false false f g h v apart a b = refl

-- two steps on apart areas, each by its own rule, are one step by a rule that agrees with each on its area
pub redrawn_two : (size : Size) (vs : List ℕ) (a b : Area) (f g h : Change) → ((p : Point) → IsTrue (b p) → a p ≡ false) →
    ((p : Point) (v : ℕ) → IsTrue (a p) → f p v ≡ h p v) → ((p : Point) (v : ℕ) → IsTrue (b p) → g p v ≡ h p v) →
    redrawn size (redrawn size vs a f) b g ≡ redrawn size vs (λ p. a p || b p) h
unfolding redrawn
redrawn_two size vs a b f g h apart on_a on_b =
    map_from-map_from (step_at size.w b g) (step_at size.w a f) 0 vs
    ∙ map_from-ext _ (step_at size.w (λ p. a p || b p) h) 0 vs (λ i lt. rw zero-add
    (two_steps (a (point_of size.w i)) (b (point_of size.w i)) (value_after f (point_of size.w i)) (value_after g (point_of size.w i))
    (value_after h (point_of size.w i)) (get_or vs i 0) (apart (point_of size.w i))
    (λ t. ap (λ (o : Option ℕ). unwrap_or o (get_or vs i 0)) (on_a (point_of size.w i) (get_or vs i 0) t))
    (λ t. ap (λ (o : Option ℕ). unwrap_or o (get_or vs i 0)) (on_b (point_of size.w i) (get_or vs i 0) t))))

pub value_at-redrawn : (size : Size) (vs : List ℕ) (area : Area) (new : Change) (x y : ℕ) → length vs ≡ size.w * size.h → x < size.w → y < size.h →
    value_at size (redrawn size vs area new) x y ≡ cond (area (point_at x y)) (value_after new (point_at x y) (value_at size vs x y)) (value_at size vs x y)
unfolding redrawn
value_at-redrawn size vs area new x y long hx hy =
    let lt : y * size.w + x < length vs = rw long (mul-add-lt y size.w x size.h hy hx) in
    get_or-map_from (step_at size.w area new) 0 vs (y * size.w + x) lt
    ∙ rw (zero-add, mod-mul-add y size.w x hx, div-mul-add y size.w x hx) refl

-- what is seen of a step at one point
abbrev after : Size → List ℕ → Area → Change → ℕ → ℕ → ℕ
after size vs area new x y = cond (area (point_at x y)) (value_after new (point_at x y) (value_at size vs x y)) (value_at size vs x y)

-- steps that agree at each point of the grid
pub redrawn_grid : (size : Size) (vs : List ℕ) (area area' : Area) (new new' : Change) → length vs ≡ size.w * size.h →
    ((x y : ℕ) → x < size.w → y < size.h →
    cond (area (point_at x y)) (value_after new (point_at x y) (value_at size vs x y)) (value_at size vs x y) ≡
    cond (area' (point_at x y)) (value_after new' (point_at x y) (value_at size vs x y)) (value_at size vs x y)) →
    redrawn size vs area new ≡ redrawn size vs area' new'
redrawn_grid size vs area area' new new' long same =
    redrawn_ext size vs area area' new new' (λ i lt.
    let below : i < size.w * size.h = rw (← long) lt in
    let wide : 0 < size.w = wide_of size.w size.h i below in
    rw (div-add-mod' i size.w) at (same (i % size.w) (i / size.w) (mod_below i size.w wide)
    (div_below i size.w size.h wide (rw (mul_comm size.h size.w) below))))

-- a step in no point of the surface changes nothing
pub redrawn_none : (size : Size) (vs : List ℕ) (area : Area) (new : Change) → length vs ≡ size.w * size.h →
    ((x y : ℕ) → x < size.w → y < size.h → area (point_at x y) ≡ false) → redrawn size vs area new ≡ vs
redrawn_none size vs area new long none =
    redrawn_grid size vs area (λ _. false) new new long (λ x y hx hy. rw (none x y hx hy) refl) ∙ redrawn_nowhere size vs new

-- only what the area is inside the surface matters
pub redrawn_same : (size : Size) (vs : List ℕ) (area area' : Area) (new : Change) → length vs ≡ size.w * size.h →
    ((x y : ℕ) → x < size.w → y < size.h → area' (point_at x y) ≡ area (point_at x y)) → redrawn size vs area new ≡ redrawn size vs area' new
redrawn_same size vs area area' new long same = redrawn_grid size vs area area' new new long (λ x y hx hy. rw (same x y hx hy) refl)

-- two rules that give the same values in the area
pub redrawn_rule : (size : Size) (vs : List ℕ) (area : Area) (new new' : Change) → length vs ≡ size.w * size.h →
    ((x y : ℕ) → x < size.w → y < size.h → area (point_at x y) ≡ true →
    value_after new (point_at x y) (value_at size vs x y) ≡ value_after new' (point_at x y) (value_at size vs x y)) →
    redrawn size vs area new ≡ redrawn size vs area new'
redrawn_rule size vs area new new' long same =
    redrawn_grid size vs area area new new' long
    (λ x y hx hy. cases (area (point_at x y)) (value_after new (point_at x y) (value_at size vs x y))
    (value_after new' (point_at x y) (value_at size vs x y)) (value_at size vs x y) (same x y hx hy))
  where
    cases : (b : Bool) (u v d : ℕ) → (b ≡ true → u ≡ v) → cond b u d ≡ cond b v d
    cases true u v d h = h refl
    cases false u v d h = refl

-- a step in one area and then in another that has no point of it is a step in both
pub redrawn_both : (size : Size) (vs : List ℕ) (a b both : Area) (new : Change) → length vs ≡ size.w * size.h →
    ((x y : ℕ) → x < size.w → y < size.h → (both (point_at x y) ≡ (a (point_at x y) || b (point_at x y))) × ((a (point_at x y) && b (point_at x y)) ≡ false)) →
    redrawn size (redrawn size vs a new) b new ≡ redrawn size vs both new
unfolding redrawn
redrawn_both size vs a b both new long apart =
    map_from-map_from (step_at size.w b new) (step_at size.w a new) 0 vs
    ∙ map_from-ext _ (step_at size.w both new) 0 vs (λ i lt.
    let below : i < size.w * size.h = rw (← long) lt in
    let wide : 0 < size.w = wide_of size.w size.h i below in
    let at = apart (i % size.w) (i / size.w) (mod_below i size.w wide) (div_below i size.w size.h wide (rw (mul_comm size.h size.w) below)) in
    rw (zero-add, at.0) (two_steps (a (point_of size.w i)) (b (point_of size.w i)) (value_after new (point_of size.w i)) (get_or vs i 0) at.1))
  where
    two_steps : (p q : Bool) (f : ℕ → ℕ) (d : ℕ) → (p && q) ≡ false → cond q (f (cond p (f d) d)) (cond p (f d) d) ≡ cond (p || q) (f d) d
    two_steps true true f d h = cc
    two_steps true false f d h = refl
    two_steps false q f d h = refl

-- one more point
pub redrawn_more : (size : Size) (vs : List ℕ) (area area' : Area) (new : Change) (x y : ℕ) → length vs ≡ size.w * size.h → x < size.w → y < size.h →
    area' (point_at x y) ≡ true →
    ((x' y' : ℕ) → x' < size.w → y' < size.h → (x' ≢ x) ⊎ (y' ≢ y) → area' (point_at x' y') ≡ area (point_at x' y')) →
    set (redrawn size vs area new) (y * size.w + x) (value_after new (point_at x y) (value_at size vs x y)) ≡ redrawn size vs area' new
redrawn_more size vs area area' new x y long hx hy here others =
    let f = after size vs area' new in
    let v = value_after new (point_at x y) (value_at size vs x y) in
    let l0 : length (redrawn size vs area new) ≡ size.w * size.h = length-redrawn size vs area new ∙ long in
    let here_after : v ≡ f x y = rw here refl in
    let at : y * size.w + x < length (redrawn size vs area new) = rw l0 (mul-add-lt y size.w x size.h hy hx) in
    same_grid size.w size.h f (set (redrawn size vs area new) (y * size.w + x) v) (length-set (redrawn size vs area new) (y * size.w + x) v ∙ l0)
    (λ x' y' hx' hy'. elim (same_place_or x y x' y') [
      | inl same ↦ rw (same.0, same.1) (get_or-set_same (redrawn size vs area new) (y * size.w + x) v 0 at ∙ here_after)
      | inr other ↦ get_or-set_other (redrawn size vs area new) (y * size.w + x) (y' * size.w + x') v 0 (place-apart x y x' y' size.w hx hx' other)
          ∙ value_at-redrawn size vs area new x' y' long hx' hy'
          ∙ ap (λ (b : Bool). cond b (value_after new (point_at x' y') (value_at size vs x' y')) (value_at size vs x' y'))
          (sym (others x' y' hx' hy' other))
    ])
    ∙ sym (same_grid size.w size.h f (redrawn size vs area' new) (length-redrawn size vs area' new ∙ long)
    (λ x' y' hx' hy'. value_at-redrawn size vs area' new x' y' long hx' hy'))
