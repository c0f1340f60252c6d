use Rattle.std.proofs.Common.{◌≡◌, ℕ, ◌+◌, ◌<◌, ◌≤◌, ◌^◌, List, [], ◌∷◌, ◌++◌, Vec, Global, length, get_or, map}
use Rattle.std.proofs.Common.{All, Bool, true, false, cond, arith, refl, ap, ◌∙◌}
use Rattle.std.specs.Prelude.{EachIndex, slice_index, ◌↔◌, nat_le}
use Rattle.std.specs.List.{range_with_len}
use Rattle.std.proofs.lemmas.Bool.Decides.{nat_tests}
use Rattle.std.proofs.lemmas.List.{get_or_default, get_or-map, length-map}
use Rattle.std.proofs.lemmas.List.FromFn.{map-range_with_len_more, get_or-map-range_with_len, length-map-range_with_len, fill_by_all}
use Rattle.pix_format.specs.declared.rgb.Rgb.{Rgb}
use Rattle.pix_format.specs.declared.format.Format.{Format}
use Rattle.pix_format.specs.declared.format.Format.TheVariants.{B1, B4, B8, B555, B565, B24, B32}
use Rattle.pix_format.specs.declared.ready.Ready.TheVariants.{Values}
use Rattle.pix_format.specs.declared.ready.Ready.{Ready}
use Rattle.pix_format.specs.declared.xlate.XlateKind.{XlateKind}
use Rattle.pix_format.specs.declared.xlate.XlateKind.TheVariants.{Trivial, ToMono, Table, Computed}
use Rattle.pix_format.specs.Value.{bits_of, black, colour_of, colours_of, value_of}
use Rattle.pix_format.specs.Translate.{same_kind, is_to_mono, recoloured}
use Rattle.pix_format.specs.Xlate.{Translation, kind_of, translated}
use Rattle.pix_format.specs.InnerReady.{IsReady}
use Rattle.pix_format.specs.XlateLaws.{Decides-same_kind}

-- one more entry of a table made by a rule
pub tabulated-push : {X : Type 0} (f : ℕ → X) (xs ys : List X) (y : X) (n : ℕ) → xs ≡ map f (range_with_len 0 n) → ys ≡ xs ++ y ∷ [] → y ≡ f n →
    ys ≡ map f (range_with_len 0 (n + 1))
tabulated-push f xs ys y n so_far pushed entry =
    rw (map-range_with_len_more f 0 n n (omega arith), ← so_far, ← entry) pushed

-- a table made by a rule has no less than all entries
pub tabulated-all : {X : Type 0} (f : ℕ → X) (xs : List X) (n m : ℕ) → xs ≡ map f (range_with_len 0 n) → n ≡ m → xs ≡ map f (range_with_len 0 m)
tabulated-all f xs n m made e = rw (← e) made

-- a translation of neither other kind gives the value of the colour
recoloured-translated : (t : Translation) (v : ℕ) → same_kind t.from t.from_table t.to t.to_table ≡ false → is_to_mono t.from t.to ≡ false →
    recoloured t.from t.from_table t.to t.to_table v ≡ translated t v
recoloured-translated t v other colour = rw (other, colour) refl

-- a format of at most eight bits has a colour in its table for each value
colours_of-small : (format : Format) → bits_of format ≤ 8 → colours_of format ≡ 2 ^ bits_of format
colours_of-small B1 small = refl
colours_of-small B4 small = refl
colours_of-small B8 small = refl
colours_of-small B555 small = absurd (omega arith)
colours_of-small B565 small = absurd (omega arith)
colours_of-small B24 small = absurd (omega arith)
colours_of-small B32 small = absurd (omega arith)

colour_of-small : (format : Format) (table : List Rgb) (v : ℕ) → bits_of format ≤ 8 → get_or table v black ≡ colour_of format table v
colour_of-small B1 table v small = refl
colour_of-small B4 table v small = refl
colour_of-small B8 table v small = refl
colour_of-small B555 table v small = absurd (omega arith)
colour_of-small B565 table v small = absurd (omega arith)
colour_of-small B24 table v small = absurd (omega arith)
colour_of-small B32 table v small = absurd (omega arith)

-- what the tests of a translation's kind tell of the values of its table's colours
pub IsReady-values : (t : Translation) (vs : Vec ℕ Global) → same_kind t.from t.from_table t.to t.to_table ≡ false → is_to_mono t.from t.to ≡ false →
    bits_of t.from ≤ 8 → length t.from_table ≡ colours_of t.from → vs.items ≡ map (value_of t.to t.to_table) t.from_table →
    All (λ v. v < 2 ^ bits_of t.to) vs.items → IsReady t (Values vs)
IsReady-values t vs other colour small table made fits =
    let count = 2 ^ bits_of t.from in
    let new = value_of t.to t.to_table in
    let entries : length t.from_table ≡ count = table ∙ colours_of-small t.from small in
    let long : length vs.items ≡ count = ap length made ∙ length-map t.from_table new ∙ entries in (
      rw (other, colour) (grind (arith, nat_tests)),
      fill_by_all (translated t) vs.items count 0 long (λ k inside. ap (λ xs. get_or xs k 0) made ∙ get_or-map new t.from_table k black 0 (rw entries inside)
          ∙ ap new (colour_of-small t.from t.from_table k small) ∙ recoloured-translated t k other colour),
      fits,
    )

-- the table has an entry for each value
pub IsReady-length : (t now : Translation) (r : Ready) (vs : Vec ℕ Global) → t ≡ now → IsReady t r → r ≡ Values vs → length vs.items ≡ 2 ^ bits_of now.from
IsReady-length t now r vs same ready is =
    let own = rw (same, is) at ready in
    ap length own.1 ∙ length-map-range_with_len (translated now) 0 (2 ^ bits_of now.from)

-- the entry of a value is its translation
pub IsReady-entry : (t now : Translation) (r : Ready) (vs : Vec ℕ Global) (v d : ℕ) → t ≡ now → IsReady t r → r ≡ Values vs → v < 2 ^ bits_of now.from →
    get_or vs.items v d ≡ translated now v
IsReady-entry t now r vs v d same ready is inside =
    let own = rw (same, is) at ready in
    ap (λ xs. get_or xs v d) own.1 ∙ get_or-map-range_with_len (translated now) 0 (2 ^ bits_of now.from) v v d inside (omega arith)

-- and fits the target
pub IsReady-fits : (t now : Translation) (r : Ready) (vs : Vec ℕ Global) (v d : ℕ) → t ≡ now → IsReady t r → r ≡ Values vs → v < 2 ^ bits_of now.from →
    get_or vs.items v d < 2 ^ bits_of now.to
IsReady-fits t now r vs v d same ready is inside =
    let own = rw (same, is) at ready in
    own.2 v d (rw (IsReady-length t now r vs same ready is) inside)

-- a row through the table is translated
pub looked_up-translated : (t now : Translation) (r : Ready) (vs : Vec ℕ Global) (table old new : List ℕ) → t ≡ now → IsReady t r → r ≡ Values vs →
    table ≡ vs.items → length new ≡ length old → All (λ v. v < 2 ^ bits_of now.from) old →
    EachIndex new (λ k. slice_index new k ≡ slice_index table (slice_index old k)) → EachIndex new (λ k. slice_index new k ≡ translated now (slice_index old k))
looked_up-translated t now r vs table old new same ready is items long small looked_up k inside =
    looked_up k inside ∙ ap (λ xs. get_or xs (get_or old k 0) 0) items ∙ IsReady-entry t now r vs (get_or old k 0) 0 same ready is (small k 0 (omega arith))

-- and fits the target
pub looked_up-fit : (t now : Translation) (r : Ready) (vs : Vec ℕ Global) (table old new : List ℕ) → t ≡ now → IsReady t r → r ≡ Values vs → table ≡ vs.items →
    length new ≡ length old → All (λ v. v < 2 ^ bits_of now.from) old → EachIndex new (λ k. slice_index new k ≡ slice_index table (slice_index old k)) →
    All (λ v. v < 2 ^ bits_of now.to) new
looked_up-fit t now r vs table old new same ready is items long small looked_up k d inside =
    let fits = IsReady-fits t now r vs (get_or old k 0) 0 same ready is (small k 0 (omega arith)) in
    rw (get_or_default new k d 0 inside, looked_up k inside, items) fits

trivial_by : (same mono small : Bool) →
    (cond same Trivial (cond mono ToMono (cond small Table Computed)) ≡ Trivial → same ≡ true)
    × (same ≡ true → cond same Trivial (cond mono ToMono (cond small Table Computed)) ≡ Trivial)
trivial_by true mono small = (λ _. refl, λ _. refl)
trivial_by false true small = (λ e. absurd (cc), λ e. absurd (cc))
trivial_by false false true = (λ e. absurd (cc), λ e. absurd (cc))
trivial_by false false false = (λ e. absurd (cc), λ e. absurd (cc))

-- a kind is trivial exactly where format and table are the same
pub trivial_kind : (t : Translation) (kind : XlateKind) → kind ≡ kind_of t → (kind ≡ Trivial) ↔ ((t.from ≡ t.to) × (t.from_table ≡ t.to_table))
trivial_kind t kind is =
    let same = same_kind t.from t.from_table t.to t.to_table in
    let by = trivial_by same (is_to_mono t.from t.to) (nat_le (bits_of t.from) 8) in
    let decides = Decides-same_kind t.from t.from_table t.to t.to_table in
    rw is (λ e. decides.0 (by.0 e), λ e. by.1 (decides.1 e))
