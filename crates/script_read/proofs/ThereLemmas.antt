use Rattle.std.proofs.Common.{◌≡◌, ℕ, ◌+◌, ◌*◌, ◌<◌, ◌≤◌, List, Bool, true, false, Option, Some, None, Ok, length, arith, refl}
use Rattle.std.specs.Prelude.{IfOk, IfSome, slice_index, codes, drop, nat_le, ◌==◌}
use Rattle.std.specs.Char.{is_ascii_alphabetic}
use Rattle.std.specs.Str.{bytes_eq}
use Rattle.std.proofs.lemmas.Bool.{and_parts}
use Rattle.std.proofs.lemmas.Bool.Decides.{nat_tests}
use Rattle.std.proofs.lemmas.Result.{IfOk-at_ok}
use Rattle.geom_base.specs.Points.{most_side}
use Rattle.pix_format.specs.Value.{bits_of, colours_of}
use Rattle.brush_obj.specs.declared.draw_call.DrawCall.{DrawCall}
use Rattle.brush_obj.specs.Image.{most_pattern_side}
use Rattle.script_words.specs.AskingLaws.{if_read, if_asked, if_either}
use Rattle.script_words.specs.Lines.{word_at}
use Rattle.script_words.specs.Places.{colour_in}
use Rattle.script_words.specs.Spelling.{count_in}
use Rattle.script_words.specs.SpellingLaws.{count_within}
use Rattle.script_orders.specs.declared.desk_command.Spot.{Spot}
use Rattle.script_orders.specs.declared.desk_command.Spot.TheVariants as spots
use Rattle.script_orders.specs.declared.orders.CreateOrder.{CreateOrder}
use Rattle.script_orders.specs.Asked.{CanCreate, IsSurfaceSize, MaskIsOther, RowIsCopied}
use Rattle.script_orders.specs.Limits.{most_bitmap_pixels, most_pixels}
use Rattle.script_orders.specs.Live.{Live, Look, Any, IsThere, SpotIsThere, FeedIsThere, MaskIsThere, BrushIsThere, FaceIsThere, NamedIsThere}
use Rattle.script_names.specs.declared.entry.Bitmap.{Bitmap}
use Rattle.script_names.specs.Names.{Name, NameMap, bitmap, brush, screen}
use Rattle.script_names.specs.Fields.{bitmap_of, spot_of, brush_of, bitmap_in, spot_in, spot_or_none, bitmap_or_none, brush_in, brush_or_none}
use Rattle.script_names.specs.Fields.{is_dash, face_in, named_in, hatch_in, table_in, format_in, new_name}
use Rattle.script_read.specs.Commands.{has_room_for, create_in}
use Rattle.script_read.specs.Drawing.{feed_from, needed_feed, needed_mask, is_mono_mask, is_other, number_of_mask}
use Rattle.script_read.specs.InnerKnows.{Knows, IsKept, look_of}
use Rattle.script_read.specs.State.{ReaderState}

-- what holds of a bitmap's size and format holds of what is there
pub there : (l : Live) (b : Bitmap) (P : Look → Type 0) → IsKept l b → P (look_of b) → IsThere l b.number P
there l b P e h = rw e h

-- a bitmap by its name
kept : (l : Live) (o : Option Name) → ((b : Bitmap) → o ≡ Some (bitmap b) → IsKept l b) → IfOk (bitmap_of o) (IsKept l)
kept l (Some (bitmap b)) h = h b refl
kept l o h = tt

pub bitmap_there : (s : ReaderState) {l : Live} (word : List ℕ) → Knows s l → IfOk (bitmap_in s.names word) (IsKept l)
bitmap_there s {l} word h = kept l (s.names word) (λ b e. (h.0.bitmap_names word b e).there)

is_bitmap_name : (o : Option Name) → IfOk (bitmap_of o) (λ b. o ≡ Some (bitmap b))
is_bitmap_name (Some (bitmap b)) = refl
is_bitmap_name o = tt

pub bitmap_named : (names : NameMap) {b : Bitmap} (word : List ℕ) → bitmap_in names word ≡ Ok b → names word ≡ Some (bitmap b)
bitmap_named names word e = IfOk-at_ok (λ b. names word ≡ Some (bitmap b)) e (is_bitmap_name (names word))

-- what is drawn on
kept_spot : (l : Live) (o : Option Name) → ((b : Bitmap) → o ≡ Some (bitmap b) → IsKept l b) → IfOk (spot_of o) (SpotIsThere l)
kept_spot l (Some screen) h = tt
kept_spot l (Some (bitmap b)) h = there l b Any (h b refl) tt
kept_spot l o h = tt

pub spot_there : (s : ReaderState) {l : Live} (word : List ℕ) → Knows s l → IfOk (spot_in s.names word) (SpotIsThere l)
spot_there s {l} word h = kept_spot l (s.names word) (λ b e. (h.0.bitmap_names word b e).there)

-- a source
pub feed_there : (l : Live) (target spot : Spot) → SpotIsThere l spot → FeedIsThere l target (feed_from spot)
feed_there l target spots.Desk h = tt
feed_there l target (spots.Bitmap n) h = h

pub source_there : (s : ReaderState) {l : Live} (word : List ℕ) → Knows s l → IfOk (spot_or_none s.names word) (λ source. IfSome source (SpotIsThere l))
source_there s {l} word h = if_either _ (is_dash word) _ _ (λ t. tt)
    (λ t. if_read _ (spot_in s.names word) _ (λ spot e. IfOk-at_ok (SpotIsThere l) e (spot_there s word h)))

pub needed_there : (l : Live) (target : Spot) (needed : Bool) (source : Option Spot) → IfSome source (SpotIsThere l) →
    FeedIsThere l target (needed_feed needed source)
needed_there l target true (Some spot) h = feed_there l target spot h
needed_there l target true None h = tt
needed_there l target false source h = tt

-- a source is no row of values
pub no_row : (spot : Spot) (call : DrawCall) → RowIsCopied (feed_from spot) call
no_row spots.Desk call = tt
no_row (spots.Bitmap n) call = tt

pub needed_no_row : (needed : Bool) (source : Option Spot) (call : DrawCall) → RowIsCopied (needed_feed needed source) call
needed_no_row true (Some spot) call = no_row spot call
needed_no_row true None call = tt
needed_no_row false source call = tt

-- a mask
pub mask_kept : (s : ReaderState) {l : Live} (word : List ℕ) → Knows s l → IfOk (bitmap_or_none s.names word) (λ mask. IfSome mask (IsKept l))
mask_kept s {l} word h = if_either _ (is_dash word) _ _ (λ t. tt)
    (λ t. if_read _ (bitmap_in s.names word) _ (λ b e. IfOk-at_ok (IsKept l) e (bitmap_there s word h)))

pub needed_kept : (l : Live) (needed : Bool) (mask : Option Bitmap) → IfSome mask (IsKept l) → IfSome (needed_mask needed mask) (IsKept l)
needed_kept l true mask h = h
needed_kept l false mask h = tt

pub mask_there : (l : Live) (mask : Option Bitmap) → IfSome mask (IsKept l) → is_mono_mask mask ≡ true → MaskIsThere l (number_of_mask mask)
mask_there l None h e = tt
mask_there l (Some b) h e = there l b (λ look. bits_of look.format ≡ 1) h (grind (arith, nat_tests, e))

pub mask_other : (target : Spot) (mask : Option Bitmap) → is_other target mask ≡ true → MaskIsOther target (number_of_mask mask)
mask_other spots.Desk mask e = tt
mask_other (spots.Bitmap n) None e = tt
mask_other (spots.Bitmap n) (Some b) e = grind (arith, nat_tests, e)

-- a brush
made_brush : (l : Live) (o : Option Name) → ((n : ℕ) → o ≡ Some (brush n) → n < l.brushes) → IfOk (brush_of o) (BrushIsThere l)
made_brush l (Some (brush n)) h = h n refl
made_brush l o h = tt

pub brush_there : (s : ReaderState) {l : Live} (word : List ℕ) → Knows s l → IfOk (brush_in s.names word) (BrushIsThere l)
brush_there s {l} word h = if_either _ (slice_index word 0 == 35) _ _
    (λ t. if_read _ (colour_in (drop 1 word)) _ (λ colour e. tt))
    (λ t. made_brush l (s.names word) (h.0.brush_names word))

pub with_there : (s : ReaderState) {l : Live} (word : List ℕ) → Knows s l → IfOk (brush_or_none s.names word) (BrushIsThere l)
with_there s word h = if_either _ (is_dash word) _ _ (λ t. tt) (λ t. brush_there s word h)

-- what a brush is made of
pub face_there : (s : ReaderState) {l : Live} (words : List (List ℕ)) → Knows s l → IfOk (face_in s.names words) (λ face. face.fits ≡ true → FaceIsThere l face.face)
face_there s {l} words h = if_either _ (bytes_eq (word_at words 2) (codes "solid")) _ _
    (λ t. if_read _ (colour_in (word_at words 3)) _ (λ colour e u. tt))
    (λ t. if_either _ (bytes_eq (word_at words 2) (codes "hatch")) _ _
    (λ t. if_read _ (hatch_in (word_at words 3)) _ (λ kind e. if_read _ (colour_in (word_at words 4)) _ (λ fore e.
    if_read _ (colour_in (word_at words 5)) _ (λ back e u. tt))))
    (λ t. if_either _ (bytes_eq (word_at words 2) (codes "pattern")) _ _
    (λ t. if_read _ (bitmap_in s.names (word_at words 3)) _ (λ b e u.
    let w = and_parts (nat_le b.size.w most_pattern_side) (nat_le b.size.h most_pattern_side) u in
    there l b (λ look. (look.size.w ≤ most_pattern_side) × (look.size.h ≤ most_pattern_side)) (IfOk-at_ok (IsKept l) e (bitmap_there s (word_at words 3) h))
    (grind (arith, nat_tests, w.0), grind (arith, nat_tests, w.1))))
    (λ t. tt)))

-- what is dumped
pub named_there : (s : ReaderState) {l : Live} (word : List ℕ) → Knows s l → IfOk (named_in s.names word) (NamedIsThere l)
named_there s {l} word h = if_either _ (is_ascii_alphabetic (slice_index word 0)) _ _
    (λ t. if_read _ (bitmap_in s.names word) _ (λ b e. there l b Any (IfOk-at_ok (IsKept l) e (bitmap_there s word h)) tt))
    (λ t. if_read _ (count_in 0 0 word) _ (λ n e. let w = IfOk-at_ok (λ n. (0 ≤ n) × (n ≤ 0)) e (count_within 0 0 word) in omega (arith, w.1)))

-- a bitmap to be made
pub record IsAsked (number : ℕ) (o : CreateOrder) : Type 0 where
  pub numbered : o.number ≡ number
  pub widths : (1 ≤ o.size.w) × (o.size.w ≤ most_side)
  pub heights : (1 ≤ o.size.h) × (o.size.h ≤ most_side)
  pub table : length o.table ≡ colours_of o.format

pub create_asked : (names : NameMap) (number : ℕ) (words : List (List ℕ)) → IfOk (create_in names number words) (IsAsked number)
unfolding create_in
create_asked names number words =
    if_read _ (new_name names (word_at words 1)) _ (λ u e.
    if_read _ (count_in 1 most_side (word_at words 2)) _ (λ w ew.
    if_read _ (count_in 1 most_side (word_at words 3)) _ (λ h eh.
    if_read _ (format_in (word_at words 4)) _ (λ format ef.
    if_read _ (table_in names words (length words) format) _ (λ colours ec.
    if_asked _ (length colours == colours_of format) _ _ (λ t. record {
      numbered = refl;
      widths = IfOk-at_ok (λ n. (1 ≤ n) × (n ≤ most_side)) ew (count_within 1 most_side (word_at words 2));
      heights = IfOk-at_ok (λ n. (1 ≤ n) × (n ≤ most_side)) eh (count_within 1 most_side (word_at words 3));
      table = grind (arith, nat_tests, t);
    }))))))

pub created : (s : ReaderState) (number : ℕ) (o : CreateOrder) → IsAsked number o → has_room_for s o.size ≡ true → CanCreate o
created s number o h e =
    let w = and_parts _ (nat_le (s.pixels + o.size.w * o.size.h) most_bitmap_pixels) e in
    let v = and_parts _ (nat_le (o.size.w * o.size.h) most_pixels) w.0 in
    let size : IsSurfaceSize o.size = record {
      least_width = h.widths.0;
      most_width = h.widths.1;
      least_height = h.heights.0;
      most_height = h.heights.1;
      few_pixels = grind (arith, nat_tests, v.1);
    } in
    record { size = size; table = h.table }
