use Rattle.std.proofs.Common.{◌≡◌, ◌≢◌, ℕ, zero, suc, ◌+◌, ◌<◌, List, [], ◌∷◌, ◌++◌, Bool, true, false, Option, Some, None, length, get_or}
use Rattle.std.proofs.Common.{◌∙◌, ap, sym, subst, refl, arith}
use Rattle.std.specs.Prelude.{if◌then◌else◌, codes, slice_set}
use Rattle.std.specs.Str.{bytes_eq}
use Rattle.std.proofs.lemmas.List.{length-set, length_push, get_or-set_other, get_or_append_left, get_or_at}
use Rattle.std.proofs.lemmas.Option.{none-some, same_Some}
use Rattle.std.proofs.lemmas.Bool.{false≢true}
use Rattle.std.proofs.lemmas.Int.{ints}
use Rattle.std.proofs.lemmas.Slice.Eq.{bytes_eq-Decides}
use Rattle.script_words.specs.Lines.{word_at}
use Rattle.script_orders.specs.Live.{Live, Look, first_live}
use Rattle.script_orders.specs.Places.{IsPlace}
use Rattle.script_orders.specs.Rows.{zero_point}
use Rattle.script_names.specs.declared.entry.Bitmap.{Bitmap}
use Rattle.script_names.specs.Names.{Name, NameMap, bitmap, brush, no_clip, screen, with_name, without_name}
use Rattle.script_read.specs.InnerKnows.{LeadsTo, KnowsNames, Knows, look_of}
use Rattle.script_read.specs.State.{first_reader_state}

-- what a word stands for where one more name is in use, or one less
with_one : {P : Type 0} (test : Bool) (what x : Name) (was : Option Name) → (if test then Some what else was) ≡ Some x →
    (test ≡ true → what ≡ x → P) → (was ≡ Some x → P) → P
with_one true what x was e new old = new refl (same_Some what x e)
with_one false what x was e new old = old e

without_one : (test : Bool) (x : Name) (was : Option Name) → (if test then None else was) ≡ Some x → (test ≡ false) × (was ≡ Some x)
without_one true x was e = absurd (none-some x e)
without_one false x was e = (refl, e)

-- what is there has the number of one that was made
made_within : {A : Type 0} (xs : List (Option A)) (n : ℕ) (x : A) → get_or xs n None ≡ Some x → n < length xs
made_within [] n x e = absurd (none-some x e)
made_within (y ∷ ys) zero x e = omega arith
made_within (y ∷ ys) (suc n) x e = let h = made_within ys n x e in omega (arith, h)

-- a name of something else is in use
pub with_other : {names : NameMap} {made : List (List ℕ)} {brushes : ℕ} {l : Live} (word : List ℕ) (what : Name) → ((b : Bitmap) → what ≢ bitmap b) →
    ((n : ℕ) → what ≢ brush n) → KnowsNames names made brushes l → KnowsNames (with_name word what names) made brushes l
with_other {names} word what no_bitmap no_brush h = record {
  bitmaps_made = h.bitmaps_made;
  brushes_made = h.brushes_made;
  bitmap_names = λ v b e. with_one (bytes_eq word v) what (bitmap b) (names v) e (λ t k. absurd (no_bitmap b k)) (h.bitmap_names v b);
  brush_names = λ v n e. with_one (bytes_eq word v) what (brush n) (names v) e (λ t k. absurd (no_brush n k)) (h.brush_names v n);
}

same_brush : (m n : ℕ) → brush m ≡ brush n → m ≡ n
same_brush m n e = cc

-- one more brush was made
pub with_brush : {names : NameMap} {made : List (List ℕ)} {brushes : ℕ} {l : Live} (word : List ℕ) → KnowsNames names made brushes l →
    KnowsNames (with_name word (brush brushes) names) made (brushes + 1) (record l { brushes = l.brushes + 1 })
with_brush {names} {made} {brushes} {l} word h = record {
  bitmaps_made = h.bitmaps_made;
  brushes_made = ap (λ n. n + 1) h.brushes_made;
  bitmap_names = λ v b e. let k = with_one (bytes_eq word v) (brush brushes) (bitmap b) (names v) e (λ t k. cc) (h.bitmap_names v b) in
      record { there = k.there; made_as = k.made_as };
  brush_names = λ v n e. with_one (bytes_eq word v) (brush brushes) (brush n) (names v) e
      (λ t k. let i = same_brush brushes n k in let j = h.brushes_made in omega (arith, i, j))
      (λ k. let i = h.brush_names v n k in omega (arith, i));
}

-- one more bitmap was made
more_there : {made : List (List ℕ)} {l : Live} {v : List ℕ} {b : Bitmap} (word : List ℕ) (look : Look) → length made ≡ length l.bitmaps → LeadsTo made l v b →
    LeadsTo (made ++ word ∷ []) (record l { bitmaps = l.bitmaps ++ Some look ∷ [] }) v b
more_there {made} {l} {v} {b} word look same h =
    let few = made_within l.bitmaps b.number (look_of b) h.there in
    record {
      there = get_or_append_left l.bitmaps (Some look ∷ []) None b.number few ∙ h.there;
      made_as = get_or_append_left made (word ∷ []) [] b.number (omega (arith, few, same)) ∙ h.made_as;
    }

made_there : (made : List (List ℕ)) (l : Live) (word v : List ℕ) (b : Bitmap) → length made ≡ length l.bitmaps → b.number ≡ length made → word ≡ v →
    LeadsTo (made ++ word ∷ []) (record l { bitmaps = l.bitmaps ++ Some (look_of b) ∷ [] }) v b
made_there made l word v b same number e = record {
  there = get_or_at l.bitmaps (Some (look_of b)) [] None b.number (omega arith);
  made_as = get_or_at made word [] [] b.number (sym number) ∙ e;
}

same_bitmap : (a b : Bitmap) → bitmap a ≡ bitmap b → a ≡ b
same_bitmap a b e = cc

pub with_bitmap : {names : NameMap} {made : List (List ℕ)} {brushes : ℕ} {l : Live} (word : List ℕ) (a : Bitmap) → a.number ≡ length made →
    KnowsNames names made brushes l → KnowsNames (with_name word (bitmap a) names) (made ++ word ∷ []) brushes
    (record l { bitmaps = l.bitmaps ++ Some (look_of a) ∷ [] })
with_bitmap {names} {made} {brushes} {l} word a number h = record {
  bitmaps_made = let e = h.bitmaps_made in omega (arith, e, length_push made word, length_push l.bitmaps (Some (look_of a)));
  brushes_made = h.brushes_made;
  bitmap_names = λ v b e. with_one (bytes_eq word v) (bitmap a) (bitmap b) (names v) e
      (λ t k. subst (λ (x : Bitmap). LeadsTo (made ++ word ∷ []) (record l { bitmaps = l.bitmaps ++ Some (look_of a) ∷ [] }) v x) (same_bitmap a b k)
      (made_there made l word v a h.bitmaps_made number ((bytes_eq-Decides word v).0 t)))
      (λ k. more_there word (look_of a) h.bitmaps_made (h.bitmap_names v b k));
  brush_names = λ v n e. with_one (bytes_eq word v) (bitmap a) (brush n) (names v) e (λ t k. cc) (h.brush_names v n);
}

-- another name has another number
other_number : {made : List (List ℕ)} {l : Live} (word v : List ℕ) (a b : Bitmap) → LeadsTo made l word a → LeadsTo made l v b → bytes_eq word v ≡ false →
    b.number ≢ a.number
other_number {made} word v a b h k t e = absurd (false≢true (sym t ∙ (bytes_eq-Decides word v).1 (sym h.made_as ∙ ap (word_at made) (sym e) ∙ k.made_as)))

-- a bitmap is gone, with its name
pub without_bitmap : {names : NameMap} {made : List (List ℕ)} {brushes : ℕ} {l : Live} (word : List ℕ) (a : Bitmap) → names word ≡ Some (bitmap a) →
    KnowsNames names made brushes l → KnowsNames (without_name word names) made brushes (record l { bitmaps = slice_set l.bitmaps a.number None })
without_bitmap {names} {made} {brushes} {l} word a named h = record {
  bitmaps_made = h.bitmaps_made ∙ sym (length-set l.bitmaps a.number None);
  brushes_made = h.brushes_made;
  bitmap_names = λ v b e.
      let k = without_one (bytes_eq word v) (bitmap b) (names v) e in
      let was = h.bitmap_names v b k.1 in
      record {
        there = get_or-set_other l.bitmaps a.number b.number None None (other_number word v a b (h.bitmap_names word a named) was k.0) ∙ was.there;
        made_as = was.made_as;
      };
  brush_names = λ v n e. h.brush_names v n (without_one (bytes_eq word v) (brush n) (names v) e).1;
}

-- before the first line
knows_nothing : KnowsNames (λ word. None) [] 0 first_live
knows_nothing = record {
  bitmaps_made = refl;
  brushes_made = refl;
  bitmap_names = λ word b e. absurd (none-some (bitmap b) e);
  brush_names = λ word n e. absurd (none-some (brush n) e);
}

zero_place : IsPlace zero_point
zero_place = record {
  across = record { least = omega (arith, ints); greatest = omega (arith, ints) };
  down = record { least = omega (arith, ints); greatest = omega (arith, ints) };
}

pub knows_first : Knows first_reader_state first_live
knows_first = (
  with_other (codes "none") no_clip (λ b e. cc) (λ n e. cc) (with_other (codes "screen") screen (λ b e. cc) (λ n e. cc) knows_nothing),
  zero_place,
)
