-- A call in one rectangle after another.
use Rattle.std.proofs.Common.{◌≡◌, ◌∙◌, ℕ, ◌+◌, ◌<◌, ◌≤◌, List, [], ◌∷◌, ◌++◌, length, get_or, take, drop, refl, sym, ap, subst, arith, zero, suc}
use Rattle.std.specs.List.{All}
use Rattle.std.proofs.lemmas.List.{drop_more, get_or-drop, length-drop, take-append-drop}
use Rattle.geom_base.specs.declared.rect.Rect.{Rect}
use Rattle.geom_base.specs.declared.size.Size.{Size}
use Rattle.geom_base.specs.Points.{is_in, no_rect}
use Rattle.pix_format.specs.declared.format.Format.{Format}
use Rattle.surf_obj.specs.Lent.{size_of, format_of, values_of, OnlyPixels}
use Rattle.geom_base.specs.Step.{redrawn}
use Rattle.surf_obj.specs.declared.lent.LentSurf.{LentSurf}
use Rattle.surf_obj.specs.LentLaws.{OnlyPixels-size, OnlyPixels-format}
use Rattle.eng_calls.specs.Steps.{Rule, step_by_step}
use Rattle.eng_calls.proofs.HeartLemmas.{steps-append}

-- a drawing of a surface that has another's size and format, by what is given on that
module _ (gives : Size → Format → Rule) (old now next : LentSurf) (only : OnlyPixels old now) where
  abbrev pub rule : Rule
  rule = gives (size_of old) (format_of old)

  like : (step : Size → Rule → List ℕ) → values_of next ≡ step (size_of now) (gives (size_of now) (format_of now)) → values_of next ≡ step (size_of old) rule
  like step drew =
      drew ∙ ap (λ (s : Size). step s (gives s (format_of now))) (OnlyPixels-size old now only)
      ∙ ap (λ (f : Format). step (size_of old) (gives (size_of old) f)) (OnlyPixels-format old now only)

  pub drawn_next : (rects : List Rect) (i : ℕ) → i < length rects →
      step_by_step (size_of old) rule (drop i rects) (values_of now) ≡ step_by_step (size_of old) rule rects (values_of old) →
      values_of next ≡ redrawn (size_of now) (values_of now) (λ p. is_in p (get_or rects i no_rect)) (gives (size_of now) (format_of now) (values_of now)) →
      step_by_step (size_of old) rule (drop (i + 1) rects) (values_of next) ≡ step_by_step (size_of old) rule rects (values_of old)
  drawn_next rects i lt before drew =
      ap (step_by_step (size_of old) rule (drop (i + 1) rects))
      (like (λ s r. redrawn s (values_of now) (λ p. is_in p (get_or rects i no_rect)) (r (values_of now))) drew)
      ∙ sym (ap (λ (l : List Rect). step_by_step (size_of old) rule l (values_of now)) (drop_more rects i no_rect lt))
      ∙ before

  pub batch_next : (part left rest all : List Rect) (n : ℕ) → part ≡ take n left → rest ≡ drop n left →
      step_by_step (size_of old) rule left (values_of now) ≡ step_by_step (size_of old) rule all (values_of old) →
      values_of next ≡ step_by_step (size_of now) (gives (size_of now) (format_of now)) part (values_of now) →
      step_by_step (size_of old) rule rest (values_of next) ≡ step_by_step (size_of old) rule all (values_of old)
  batch_next part left rest all n first later before drew =
      ap (λ (l : List Rect). step_by_step (size_of old) rule l (values_of next)) later
      ∙ ap (step_by_step (size_of old) rule (drop n left))
      (like (λ s r. step_by_step s r part (values_of now)) drew ∙ ap (λ (l : List Rect). step_by_step (size_of old) rule l (values_of now)) first)
      ∙ sym (steps-append (size_of old) rule (take n left) (drop n left) (values_of now))
      ∙ ap (λ (l : List Rect). step_by_step (size_of old) rule l (values_of now)) (take-append-drop n left)
      ∙ before

all_dropped : (rects : List Rect) (i : ℕ) → length rects ≤ i → drop i rects ≡ []
all_dropped [] zero h = refl
all_dropped [] (suc i) h = refl
all_dropped (r ∷ rects) zero h = absurd (omega (arith, h))
all_dropped (r ∷ rects) (suc i) h = all_dropped rects i (omega (arith, h))

pub drawn_end : (size : Size) (rule : Rule) (rects : List Rect) (i : ℕ) (values : List ℕ) → length rects ≤ i →
    values ≡ step_by_step size rule (drop i rects) values
drawn_end size rule rects i values past = ap (λ (l : List Rect). step_by_step size rule l values) (sym (all_dropped rects i past))

-- a batch and the rest

taken_back : (n : ℕ) (xs ys : List Rect) → n ≤ length xs → take n (take n xs ++ ys) ≡ take n xs
taken_back zero xs ys h = refl
taken_back (suc n) [] ys h = absurd (omega (arith, h))
taken_back (suc n) (x ∷ xs) ys h = ap (λ (l : List Rect). x ∷ l) (taken_back n xs ys (omega (arith, h)))

pub batch_of : (n : ℕ) (left batch was : List Rect) → n ≤ length left → batch ≡ take n left ++ drop n was → take n batch ≡ take n left
batch_of n left batch was fits e = ap (take n) e ∙ taken_back n left (drop n was) fits

none_left : (rest : List Rect) → length rest ≤ 0 → rest ≡ []
none_left [] h = refl
none_left (r ∷ rest) h = absurd (omega (arith, h))

pub batches_end : (size : Size) (rule : Rule) (rest : List Rect) (values : List ℕ) → length rest ≤ 0 → values ≡ step_by_step size rule rest values
batches_end size rule rest values none = ap (λ (l : List Rect). step_by_step size rule l values) (sym (none_left rest none))

pub all_of_rest : (P : Rect → Type 0) (n : ℕ) (left rest : List Rect) → rest ≡ drop n left → All P left → All P rest
all_of_rest P n left rest e all = rw e (λ k d lt. subst P (sym (get_or-drop n left k d)) (all (n + k) d (omega (arith, lt, length-drop n left))))
