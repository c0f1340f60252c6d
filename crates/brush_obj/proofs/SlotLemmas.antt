-- The slots of a brush.
use Rattle.std.proofs.Common.{◌≡◌, ◌≢◌, ℕ, zero, suc, ◌<◌, List, [], ◌∷◌, ◌++◌, length, get_or, set, Some, None, Bool, true}
use Rattle.std.proofs.Common.{false, cond, ◌||◌, refl, sym, ◌∙◌, ap, arith, ◌==◌, nat_lt, true≢false}
use Rattle.std.specs.List.{position, position_or_len}
use Rattle.std.proofs.lemmas.List.Quantifiers.{position-Some}
use Rattle.std.proofs.lemmas.List.Sums.{fails_before_first}
use Rattle.brush_obj.specs.declared.slot.Slot.{Slot}
use Rattle.brush_obj.specs.Slots.{OnlyOf, is_among, kept_among}

same : (a b : ℕ) → a ≡ b → (a == b) ≡ true
same a b e = grind arith

apart : (a b c : ℕ) → a ≡ b → c ≢ b → (a == c) ≡ false
apart a b c e h = grind arith

-- the first slot of an owner
abbrev pub is_of : ℕ → Slot → Bool
is_of owner s = s.owner == owner

-- a slot is the first one of its owner
pub record IsFirst (owner : ℕ) (xs : List Slot) (i : ℕ) (d : Slot) : Type 0 where
  pub inside : i < length xs
  pub here : (get_or xs i d).owner ≡ owner
  pub before : (k : ℕ) → k < i → is_of owner (get_or xs k d) ≡ false

later : (owner : ℕ) (x : Slot) (xs : List Slot) (i : ℕ) (d : Slot) → IsFirst owner (x ∷ xs) (suc i) d → IsFirst owner xs i d
later owner x xs i d f = record { inside = let h = f.inside in omega arith; here = f.here; before = λ k h. f.before (suc k) (omega arith) }

pub kept-first : (owner : ℕ) (xs : List Slot) (i : ℕ) (d : Slot) → IsFirst owner xs i d → kept_among xs owner ≡ (get_or xs i d).realised
kept-first owner [] i d f = absurd (let h = f.inside in omega arith)
kept-first owner (x ∷ xs) zero d f = rw (same x.owner owner f.here) refl
kept-first owner (x ∷ xs) (suc i) d f = rw (f.before 0 (omega arith)) (kept-first owner xs i d (later owner x xs i d f))

pub kept-set : (owner : ℕ) (xs : List Slot) (i : ℕ) (d s : Slot) → IsFirst owner xs i d → s.owner ≡ owner → kept_among (set xs i s) owner ≡ s.realised
kept-set owner [] i d s f e = absurd (let h = f.inside in omega arith)
kept-set owner (x ∷ xs) zero d s f e = rw (same s.owner owner e) refl
kept-set owner (x ∷ xs) (suc i) d s f e = rw (f.before 0 (omega arith)) (kept-set owner xs i d s (later owner x xs i d f) e)

pub kept-set_other : (owner other : ℕ) (xs : List Slot) (i : ℕ) (d s : Slot) → IsFirst owner xs i d → s.owner ≡ owner → other ≢ owner →
    kept_among (set xs i s) other ≡ kept_among xs other
kept-set_other owner other [] i d s f e h = refl
kept-set_other owner other (x ∷ xs) zero d s f e h = rw (apart s.owner owner other e h, apart x.owner owner other f.here h) refl
kept-set_other owner other (x ∷ xs) (suc i) d s f e h = ap (λ o. cond (x.owner == other) x.realised o)
    (kept-set_other owner other xs i d s (later owner x xs i d f) e h)

pub among-set : (owner : ℕ) (xs : List Slot) (i : ℕ) (d s : Slot) → IsFirst owner xs i d → s.owner ≡ owner → is_among (set xs i s) owner ≡ true
among-set owner [] i d s f e = absurd (let h = f.inside in omega arith)
among-set owner (x ∷ xs) zero d s f e = rw (same s.owner owner e) refl
among-set owner (x ∷ xs) (suc i) d s f e = rw (f.before 0 (omega arith)) (among-set owner xs i d s (later owner x xs i d f) e)

pub among-set_other : (owner other : ℕ) (xs : List Slot) (i : ℕ) (d s : Slot) → IsFirst owner xs i d → s.owner ≡ owner → other ≢ owner →
    is_among (set xs i s) other ≡ is_among xs other
among-set_other owner other [] i d s f e h = refl
among-set_other owner other (x ∷ xs) zero d s f e h = rw (apart s.owner owner other e h, apart x.owner owner other f.here h) refl
among-set_other owner other (x ∷ xs) (suc i) d s f e h = ap (λ b. (x.owner == other) || b) (among-set_other owner other xs i d s (later owner x xs i d f) e h)

-- no slot is an owner's
abbrev pub IsAbsent : ℕ → List Slot → Type 0
IsAbsent owner xs = (k : ℕ) (d : Slot) → k < length xs → is_of owner (get_or xs k d) ≡ false

absent-later : (owner : ℕ) (x : Slot) (xs : List Slot) → IsAbsent owner (x ∷ xs) → IsAbsent owner xs
absent-later owner x xs a = λ k d h. a (suc k) d (omega arith)

pub kept-absent : (owner : ℕ) (xs : List Slot) → IsAbsent owner xs → kept_among xs owner ≡ None
kept-absent owner [] a = refl
kept-absent owner (x ∷ xs) a = rw (a 0 x (omega arith)) (kept-absent owner xs (absent-later owner x xs a))

pub among-absent : (owner : ℕ) (xs : List Slot) → IsAbsent owner xs → is_among xs owner ≡ false
among-absent owner [] a = refl
among-absent owner (x ∷ xs) a = rw (a 0 x (omega arith)) (among-absent owner xs (absent-later owner x xs a))

pub kept-push : (owner : ℕ) (xs : List Slot) (s : Slot) → IsAbsent owner xs → s.owner ≡ owner → kept_among (xs ++ s ∷ []) owner ≡ s.realised
kept-push owner [] s a e = rw (same s.owner owner e) refl
kept-push owner (x ∷ xs) s a e = rw (a 0 x (omega arith)) (kept-push owner xs s (absent-later owner x xs a) e)

pub among-push : (owner : ℕ) (xs : List Slot) (s : Slot) → s.owner ≡ owner → is_among (xs ++ s ∷ []) owner ≡ true
among-push owner [] s e = rw (same s.owner owner e) refl
among-push owner (x ∷ xs) s e = either (x.owner == owner) (is_among (xs ++ s ∷ []) owner) (among-push owner xs s e)
  where
    either : (a b : Bool) → b ≡ true → (a || b) ≡ true
    either true b h = refl
    either false b h = h

pub kept-push_other : (owner other : ℕ) (xs : List Slot) (s : Slot) → s.owner ≡ owner → other ≢ owner → kept_among (xs ++ s ∷ []) other ≡ kept_among xs other
kept-push_other owner other [] s e h = rw (apart s.owner owner other e h) refl
kept-push_other owner other (x ∷ xs) s e h = ap (λ o. cond (x.owner == other) x.realised o) (kept-push_other owner other xs s e h)

pub among-push_other : (owner other : ℕ) (xs : List Slot) (s : Slot) → s.owner ≡ owner → other ≢ owner → is_among (xs ++ s ∷ []) other ≡ is_among xs other
among-push_other owner other [] s e h = rw (apart s.owner owner other e h) refl
among-push_other owner other (x ∷ xs) s e h = ap (λ b. (x.owner == other) || b) (among-push_other owner other xs s e h)

-- what the place of an owner says
pub first_place : (owner : ℕ) (xs : List Slot) (i : ℕ) (d : Slot) → position (is_of owner) xs ≡ Some i → IsFirst owner xs i d
first_place owner xs i d e =
    let p = position-Some (is_of owner) xs i d e in
    record { inside = p.0; here = number (get_or xs i d).owner owner p.1; before = p.2 }
  where
    number : (a b : ℕ) → (a == b) ≡ true → a ≡ b
    number a b h = grind arith

pub no_place : (owner : ℕ) (xs : List Slot) → position (is_of owner) xs ≡ None → IsAbsent owner xs
no_place owner xs e = λ k d h. fails_before_first (is_of owner) xs k d (below (position_or_len (is_of owner) xs) (length xs) e k h)
  where
    below : (n m : ℕ) → cond (nat_lt n m) (Some n) None ≡ None → (k : ℕ) → k < m → k < n
    below n m e k h = grind arith

-- a slot of the owner in place of its first one
pub placed : (owner : ℕ) (xs : List Slot) (i : ℕ) (s : Slot) → position (is_of owner) xs ≡ Some i → s.owner ≡ owner →
    (kept_among (set xs i s) owner ≡ s.realised) × (is_among (set xs i s) owner ≡ true) × OnlyOf owner xs (set xs i s)
placed owner xs i s at e =
    let f = first_place owner xs i s at in (
      kept-set owner xs i s s f e,
      among-set owner xs i s s f e,
      record {
        places = λ other h. among-set_other owner other xs i s s f e h;
        kept = λ other h. kept-set_other owner other xs i s s f e h;
      },
    )

neither : (a b : Bool) → (a || b) ≡ false → (a ≡ false) × (b ≡ false)
neither true b h = absurd (true≢false h)
neither false b h = (refl, h)

among-none : (owner : ℕ) (xs : List Slot) → is_among xs owner ≡ false → IsAbsent owner xs
among-none owner [] none = λ k d h. absurd (omega arith)
among-none owner (x ∷ xs) none =
    let both = neither (x.owner == owner) (is_among xs owner) none in
    each both.0 (among-none owner xs both.1)
  where
    each : (x.owner == owner) ≡ false → IsAbsent owner xs → IsAbsent owner (x ∷ xs)
    each here later zero d h = here
    each here later (suc k) d h = later k d (omega arith)

-- a slot of an owner that had none
pub added : (owner : ℕ) (xs : List Slot) (s : Slot) → is_among xs owner ≡ false → s.owner ≡ owner →
    (kept_among (xs ++ s ∷ []) owner ≡ s.realised) × (is_among (xs ++ s ∷ []) owner ≡ true) × OnlyOf owner xs (xs ++ s ∷ [])
added owner xs s none e = (
  kept-push owner xs s (among-none owner xs none) e,
  among-push owner xs s e,
  record {
    places = λ other h. among-push_other owner other xs s e h;
    kept = λ other h. kept-push_other owner other xs s e h;
  },
)

-- an owner that has a place has one that is found
pub found : (owner : ℕ) (xs : List Slot) → is_among xs owner ≡ true → position (is_of owner) xs ≡ None → ⊥
found owner xs among none = true≢false (sym among ∙ among-absent owner xs (no_place owner xs none))

-- what is found at the place is what is kept
pub kept_there : (owner : ℕ) (xs : List Slot) (i : ℕ) (s : Slot) → position (is_of owner) xs ≡ Some i → s ≡ get_or xs i s → s.realised ≡ kept_among xs owner
kept_there owner xs i s at e = ap (λ (x : Slot). x.realised) e ∙ sym (kept-first owner xs i s (first_place owner xs i s at))

pub kept_nowhere : (owner : ℕ) (xs : List Slot) → position (is_of owner) xs ≡ None → kept_among xs owner ≡ None
kept_nowhere owner xs none = kept-absent owner xs (no_place owner xs none)
