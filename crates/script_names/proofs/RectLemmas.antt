use Rattle.std.proofs.Common.{◌≡◌, ℕ, ◌+◌, ◌-◌, ◌<◌, ◌≤◌, List, [], ◌∷◌, ◌++◌, length, drop, Ok, Err, add-one}
use Rattle.std.proofs.Common.{drop-cons, append-nil, length-drop, ◌∙◌, sym, ap, refl, arith}
use Rattle.std.specs.Prelude.{All}
use Rattle.std.proofs.lemmas.List.Elements.{All-push}
use Rattle.geom_base.specs.declared.rect.Rect.{Rect}
use Rattle.script_words.specs.declared.refusal.Refusal.{Refusal}
use Rattle.script_words.specs.Asking.{◌>>=◌}
use Rattle.script_words.specs.AskingLaws.{with_front, with_front-push}
use Rattle.script_words.specs.Lines.{word_at}
use Rattle.script_words.specs.Places.{rect_in, AreCoordinates}
use Rattle.script_names.specs.Tails.{rects_from}

-- the rectangles from one word to another are found
pub record RectsTo (words : List (List ℕ)) (from i : ℕ) (found : List Rect) : Type 0 where
  pub place : i ≤ length words
  pub rest : with_front found (rects_from (drop i words)) ≡ rects_from (drop from words)
  pub range : All AreCoordinates found

-- a word, and those after it
cut : (words : List (List ℕ)) (i j : ℕ) → j ≡ i + 1 → i < length words → drop i words ≡ word_at words i ∷ drop j words
cut words i j e h = rw (e, add-one) (drop-cons words i [] h)

-- the next four words
next_four : (words : List (List ℕ)) (i : ℕ) → 4 ≤ length words - i →
    rects_from (drop i words) ≡ (rect_in words i >>= (λ rect. with_front (rect ∷ []) (rects_from (drop (i + 4) words))))
next_four words i h =
    rw (
      cut words i (i + 1) refl (omega arith),
      cut words (i + 1) (i + 2) (omega arith) (omega arith),
      cut words (i + 2) (i + 3) (omega arith) (omega arith),
      cut words (i + 3) (i + 4) (omega arith) (omega arith),
    ) refl

-- one more rectangle
pub rects_step : {words : List (List ℕ)} {from i : ℕ} {found : List Rect} (x : Rect) → RectsTo words from i found → 4 ≤ length words - i →
    rect_in words i ≡ Ok x → AreCoordinates x → RectsTo words from (i + 4) (found ++ (x ∷ []))
rects_step {words} {from} {i} {found} x so_far h e in_range = record {
  place = omega arith;
  rest = with_front-push found x (rects_from (drop (i + 4) words))
      ∙ sym (ap (with_front found) (next_four words i h ∙ ap (λ r. r >>= (λ rect. with_front (rect ∷ []) (rects_from (drop (i + 4) words)))) e)) ∙ so_far.rest;
  range = All-push AreCoordinates found x so_far.range in_range;
}

-- a rectangle is refused
pub rects_exit : {words : List (List ℕ)} {from i : ℕ} {found : List Rect} (refusal : Refusal) → RectsTo words from i found → 4 ≤ length words - i →
    rect_in words i ≡ Err refusal → rects_from (drop from words) ≡ Err refusal
rects_exit {words} {from} {i} {found} refusal so_far h e = sym so_far.rest
    ∙ ap (with_front found) (next_four words i h ∙ ap (λ r. r >>= (λ rect. with_front (rect ∷ []) (rects_from (drop (i + 4) words)))) e)

-- fewer than four words are left
none_left : (words : List (List ℕ)) → length words < 4 → rects_from words ≡ Ok []
none_left [] h = refl
none_left (a ∷ []) h = refl
none_left (a ∷ b ∷ []) h = refl
none_left (a ∷ b ∷ c ∷ []) h = refl
none_left (a ∷ b ∷ c ∷ d ∷ words) h = absurd (omega arith)

pub rects_end : {words : List (List ℕ)} {from i : ℕ} {found : List Rect} → RectsTo words from i found → length words - i < 4 →
    rects_from (drop from words) ≡ Ok found
rects_end {words} {from} {i} {found} so_far h = sym so_far.rest ∙ rw (none_left (drop i words) (omega (arith, length-drop i words)), append-nil) refl
