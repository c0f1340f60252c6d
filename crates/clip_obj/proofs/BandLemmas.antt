-- The places of bands, and the list with each band turned.
use Rattle.std.proofs.Common.{◌≡◌, ◌∙◌, ℕ, ◌+◌, ◌-◌, ◌<◌, ◌≤◌, zero, suc, ℤ, List, [], ◌∷◌, ◌++◌, take, drop, length, get_or, Bool}
use Rattle.std.proofs.Common.{true, false, cond, refl, ap, sym, subst, arith, ◌⊎◌, inl, inr, reverse}
use Rattle.std.specs.Ordering.{int_eq}
use Rattle.std.specs.List.{All, AllWithin}
use Rattle.std.proofs.lemmas.Int.{ints}
use Rattle.std.proofs.lemmas.List.{take-append-drop, drop-drop, length-take, length-take-le, length-drop, get_or-append-add}
use Rattle.std.proofs.lemmas.List.{get_or_append_left, get_or-take, get_or-drop, get_or-reverse, length-reverse, get_or_default}
use Rattle.std.proofs.lemmas.List.Elements.{All-head, All-tail}
use Rattle.geom_base.specs.declared.rect.Rect.{Rect}
use Rattle.geom_base.specs.Points.{no_rect, HasPoints}
use Rattle.region.specs.Order.{ComesFirst, IsInOrder}
use Rattle.clip_obj.specs.declared.band.Band.{Band}
use Rattle.clip_obj.specs.declared.direction.Direction.TheVariants.{LeftDown}
use Rattle.clip_obj.specs.Order.{behind_band, turned}
use Rattle.clip_obj.specs.InnerBand.{BeginsOff, IsBandAt, IsBand}
use Rattle.clip_obj.proofs.TurnLemmas.{BeginsElsewhere, stays, turned_begins, turned_band}
use Rattle.clip_obj.proofs.BatchLemmas.{length-ordered}

-- rectangles that begin in one row stand together

squeezed : (a b c : Rect) → HasPoints a → HasPoints b → ComesFirst a b → ComesFirst b c → a.top ≡ c.top → b.top ≡ a.top
squeezed a b c pa pb (inl ab) bc e = sym (ab.0)
squeezed a b c pa pb (inr ab) (inl bc) e = bc.0 ∙ sym e
squeezed a b c pa pb (inr ab) (inr bc) e = absurd (omega (arith, ints, ab, bc, e, pa.down, pb.down))

between : (rects : List Rect) (i j k : ℕ) → IsInOrder rects → i < j → j < k → k < length rects →
    (get_or rects i no_rect).top ≡ (get_or rects k no_rect).top → (get_or rects j no_rect).top ≡ (get_or rects i no_rect).top
between rects i j k h ij jk within e =
    squeezed (get_or rects i no_rect) (get_or rects j no_rect) (get_or rects k no_rect) (h.points i no_rect (omega (arith, ij, jk, within)))
    (h.points j no_rect (omega (arith, jk, within))) (h.order i j no_rect ij (omega (arith, jk, within))) (h.order j k no_rect jk within) e

at_top : (rects : List Rect) (k : ℕ) (d : Rect) (top : ℤ) → k < length rects → (get_or rects k d).top ≡ top → (get_or rects k no_rect).top ≡ top
at_top rects k d top lt e = ap (λ (r : Rect). r.top) (get_or_default rects k no_rect d lt) ∙ e

last_or_before : (k n : ℕ) → k < n → (k ≡ n - 1) ⊎ (k < n - 1)
last_or_before k n lt = grind arith

first_or_after : (n k : ℕ) → n ≤ k → (k ≡ n) ⊎ (n < k)
first_or_after n k le = grind arith

before_or_from : (k n : ℕ) → (k < n) ⊎ (n ≤ k)
before_or_from k n = grind arith

pub none_before : (rects : List Rect) (start place : ℕ) → IsInOrder rects → 0 < start → start ≤ place → place < length rects →
    (¬ ((get_or rects (start - 1) no_rect).top ≡ (get_or rects place no_rect).top)) → AllWithin (BeginsOff rects place) rects 0 start
none_before rects start place h some le within other k d low lt e =
    let here : (get_or rects k no_rect).top ≡ (get_or rects place no_rect).top = at_top rects k d (get_or rects place no_rect).top
    (omega (arith, lt, le, within)) e in
    elim (last_or_before k start lt) [
      | inl last ↦ other (subst (λ n. (get_or rects n no_rect).top ≡ (get_or rects place no_rect).top) last here)
      | inr earlier ↦ other (between rects k (start - 1) place h earlier (omega (arith, some, le)) within here ∙ here)
    ]

pub none_after : (rects : List Rect) (end place : ℕ) → IsInOrder rects → place < end →
    (¬ ((get_or rects end no_rect).top ≡ (get_or rects place no_rect).top)) → AllWithin (BeginsOff rects place) rects end (length rects)
none_after rects end place h past other k d low lt e =
    let here : (get_or rects k no_rect).top ≡ (get_or rects place no_rect).top = at_top rects k d (get_or rects place no_rect).top lt e in
    elim (first_or_after end k low) [
      | inl first ↦ other (subst (λ n. (get_or rects n no_rect).top ≡ (get_or rects place no_rect).top) first here)
      | inr later ↦ other (between rects place end k h past later lt (sym here))
    ]

-- places before one and from it on
pub joined : (P : Rect → Type 0) (rects : List Rect) (low place high : ℕ) → AllWithin P rects low (place + 1) → AllWithin P rects place high →
    AllWithin P rects low high
joined P rects low place high h g k d from to = elim (before_or_from k place) [
  | inl before ↦ h k d from (omega (arith, before))
  | inr from_it ↦ g k d from_it to
]

-- all places of a band have one band
pub band_of_all : (rects : List Rect) (band : Band) (place : ℕ) → IsBandAt rects band place → IsBand rects band
band_of_all rects band place h q from to =
    let same : (get_or rects q no_rect).top ≡ (get_or rects place no_rect).top = h.inside q no_rect from to in
    record {
      from = from;
      to = to;
      within = h.within;
      before = λ k d low lt e. h.before k d low lt (e ∙ same);
      inside = λ k d low lt. h.inside k d low lt ∙ sym same;
      after = λ k d low lt e. h.after k d low lt (e ∙ same);
    }

-- the list with each band turned, at a place of a band

behind_over : (r : Rect) (xs ys : List Rect) → BeginsElsewhere r.top ys → behind_band r (xs ++ ys) ≡ behind_band r xs ++ ys
behind_over r [] ys h = stays r ys h
behind_over r (s ∷ xs) ys h = either (behind_over r xs ys h) (int_eq s.top r.top)
  where
    either : behind_band r (xs ++ ys) ≡ behind_band r xs ++ ys → (b : Bool) →
        cond b (s ∷ behind_band r (xs ++ ys)) (r ∷ s ∷ (xs ++ ys)) ≡ cond b (s ∷ behind_band r xs) (r ∷ s ∷ xs) ++ ys
    either next true = ap (λ (l : List Rect). s ∷ l) next
    either next false = refl

turned_parts : (xs ys : List Rect) → All (λ x. BeginsElsewhere x.top ys) xs → turned (xs ++ ys) ≡ turned xs ++ turned ys
turned_parts [] ys h = refl
turned_parts (x ∷ xs) ys h = ap (behind_band x) (turned_parts xs ys (All-tail (λ x. BeginsElsewhere x.top ys) x xs h))
    ∙ behind_over x (turned xs) (turned ys) (turned_begins x.top ys (All-head (λ x. BeginsElsewhere x.top ys) x xs h))

begins_elsewhere : (rects : List Rect) (n : ℕ) (top : ℤ) → (n < length rects → ¬ ((get_or rects n no_rect).top ≡ top)) → BeginsElsewhere top (drop n rects)
begins_elsewhere [] zero top h = tt
begins_elsewhere [] (suc n) top h = tt
begins_elsewhere (r ∷ rects) zero top h = h (omega arith)
begins_elsewhere (r ∷ rects) (suc n) top h = begins_elsewhere rects n top (λ lt. h (omega (arith, lt)))

turned_in_three : (rects : List Rect) (start n place : ℕ) → IsBandAt rects (record { start = start; end = start + n }) place →
    turned rects ≡ turned (take start rects) ++ (reverse (take n (drop start rects)) ++ turned (drop n (drop start rects)))
turned_in_three rects start n place h =
    let top : ℤ = (get_or rects place no_rect).top in
    let long : length (take start rects) ≡ start = length-take-le start rects (omega (arith, h.within)) in
    let first : (get_or rects start no_rect).top ≡ top = h.inside start no_rect (omega arith) (omega (arith, h.from, h.to)) in
    ap turned (sym (take-append-drop start rects))
    ∙ turned_parts (take start rects) (drop start rects) (λ k d lt. begins_elsewhere rects start (get_or (take start rects) k d).top
    (λ _ e. h.before k d (omega arith) (omega (arith, lt, long))
    (ap (λ (r : Rect). r.top) (sym (get_or-take start rects k d (omega (arith, lt, long)))) ∙ sym e ∙ first)))
    ∙ ap (λ (l : List Rect). turned (take start rects) ++ l)
    (ap turned (sym (take-append-drop n (drop start rects)))
    ∙ turned_band top (take n (drop start rects)) (drop n (drop start rects)) in_row
    (subst (BeginsElsewhere top) (sym (drop-drop n start rects))
    (begins_elsewhere rects (start + n) top (λ lt. h.after (start + n) no_rect (omega arith) lt))))
  where
    in_row : All (λ r. r.top ≡ (get_or rects place no_rect).top) (take n (drop start rects))
    in_row k d lt =
        let below : k < n = omega (arith, lt, length-take n (drop start rects)) in
        ap (λ (r : Rect). r.top) (get_or-take n (drop start rects) k d below ∙ get_or-drop start rects k d)
        ∙ h.inside (start + k) d (omega arith) (omega (arith, below))

turned_there : (rects : List Rect) (start n place : ℕ) → IsBandAt rects (record { start = start; end = start + n }) place →
    get_or (turned rects) place no_rect ≡ get_or rects (start + (start + n - 1 - place)) no_rect
turned_there rects start n place h =
    let front : length (turned (take start rects)) ≡ start = length-ordered LeftDown (take start rects) ∙
    length-take-le start rects (omega (arith, h.within)) in
    let long : length (take n (drop start rects)) ≡ n = length-take-le n (drop start rects) (omega (arith, h.within, length-drop start rects)) in
    let i : ℕ = place - start in
    let below : i < n = omega (arith, h.from, h.to) in
    let back : n - 1 - i < n = omega (arith, below) in
    let there : length (turned (take start rects)) + i ≡ place = omega (arith, front, h.from) in
    ap (λ (l : List Rect). get_or l place no_rect) (turned_in_three rects start n place h)
    ∙ ap (λ k. get_or (turned (take start rects) ++ (reverse (take n (drop start rects)) ++ turned (drop n (drop start rects)))) k no_rect) (sym there)
    ∙ get_or-append-add (turned (take start rects)) (reverse (take n (drop start rects)) ++ turned (drop n (drop start rects))) i no_rect
    ∙ get_or_append_left (reverse (take n (drop start rects))) (turned (drop n (drop start rects))) no_rect i
    (omega (arith, below, long, length-reverse (take n (drop start rects))))
    ∙ get_or-reverse (take n (drop start rects)) i no_rect (omega (arith, below, long))
    ∙ ap (λ m. get_or (take n (drop start rects)) (m - 1 - i) no_rect) long
    ∙ get_or-take n (drop start rects) (n - 1 - i) no_rect back
    ∙ get_or-drop start rects (n - 1 - i) no_rect
    ∙ ap (λ k. get_or rects (start + k) no_rect) (omega (arith, h.from, h.to))

pub turned_place : (rects : List Rect) (band : Band) (place : ℕ) → IsBandAt rects band place →
    get_or (turned rects) place no_rect ≡ get_or rects (band.start + (band.end - 1 - place)) no_rect
turned_place rects band place h =
    let end : band.start + (band.end - band.start) ≡ band.end = omega (arith, h.from, h.to) in
    turned_there rects band.start (band.end - band.start) place
    (subst (λ e. IsBandAt rects (record { start = band.start; end = e }) place) (sym end) h)
    ∙ ap (λ e. get_or rects (band.start + (e - 1 - place)) no_rect) end
