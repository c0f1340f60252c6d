use Rattle.std.proofs.Common.{◌≡◌, ℕ, ◌+◌, ◌≤◌, ◌<◌, ◌^◌, List, [], ◌∷◌, ◌++◌, Some, None, Result, Ok, Err, length, true, ◌∙◌, refl, arith}
use Rattle.std.specs.Prelude.{All, IfOk, IfSome, drop, nat_le, nat_lt, ◌&&◌}
use Rattle.std.proofs.lemmas.Bool.{and_parts}
use Rattle.std.proofs.lemmas.List.{length-set, length_push}
use Rattle.std.proofs.lemmas.Result.{IfOk-at_ok}
use Rattle.pix_format.specs.Value.{bits_of}
use Rattle.brush_obj.specs.declared.draw_call.DrawCall.TheVariants as calls
use Rattle.region.specs.Limits.{most_rects}
use Rattle.rop_mix.specs.Needs.{source_needed, mask_needed}
use Rattle.script_words.specs.Asking.{each}
use Rattle.script_words.specs.AskingLaws.{if_read, if_asked, if_either, each_all}
use Rattle.script_words.specs.Lines.{word_at, words_of}
use Rattle.script_words.specs.Places.{colour_in, rect_in, point_in, is_well_ordered}
use Rattle.script_words.specs.Spelling.{hexadecimal_in}
use Rattle.script_words.specs.declared.refusal.Refusal.{Refusal}
use Rattle.script_orders.specs.Asked.{Asked}
use Rattle.script_orders.specs.Limits.{most_brushes, most_commands, most_tables}
use Rattle.script_orders.specs.Live.{Live, SpotIsThere, BrushIsThere, FaceIsThere, NamedIsThere, CanRun, after, first_live}
use Rattle.script_orders.specs.declared.script_command.ScriptCommand.{ScriptCommand}
use Rattle.script_orders.specs.declared.script_command.ScriptCommand.TheVariants.{Create, Delete, Brush, Draw, Dump, Sum, Nothing}
use Rattle.script_names.specs.FieldLaws.{value_fits}
use Rattle.script_names.specs.Fields.{new_name, spot_in, bitmap_in, spot_or_none, bitmap_or_none, brush_in, brush_or_none}
use Rattle.script_names.specs.Fields.{value_in, face_in, mix_in, named_in, clip_in}
use Rattle.script_names.specs.Names.{table, region}
use Rattle.script_read.specs.Commands.{Meaning, has_room, has_room_for, has_room_for_rects, create_in, keep_bitmap, keep_region, meaning_of}
use Rattle.script_read.specs.Commands.{read_back, read_bitmap, read_blt, read_brush, read_brushorg, read_clip, read_copy, read_delete, read_dump}
use Rattle.script_read.specs.Commands.{read_line, read_paint, read_pixels, read_region, read_sum, read_table, verb_among, all_verbs, count_fits}
use Rattle.script_read.specs.Drawing.{blt_from, copy_from, feed_from, has_operands, is_mono_mask, is_other, needed_feed, needed_mask}
use Rattle.script_read.specs.InnerKnows.{Knows, CanAsk, CanMean, IsKept}
use Rattle.script_read.specs.Reading.{FirstRefusal, behind, followed, is_skipped, read_lines, read_text_line}
use Rattle.script_read.specs.Regions.{named_region_in}
use Rattle.script_read.specs.State.{ReaderState, first_reader_state}
use Rattle.script_read.specs.declared.verb.Verb.{Verb}
use Rattle.script_read.specs.declared.verb.Verb.TheVariants as verbs
use Rattle.script_read.proofs.KnowsLemmas.{knows_first, with_other, with_brush, with_bitmap, without_bitmap}
use Rattle.script_read.proofs.OperandLemmas.{all_places, from_is_named, needed_mask_named, needed_source_named, operands_named, point_at, rect_at}
use Rattle.script_read.proofs.ThereLemmas.{there, bitmap_named, spot_there, source_there, needed_there, feed_there, no_row, needed_no_row}
use Rattle.script_read.proofs.ThereLemmas.{mask_kept, needed_kept, mask_there, mask_other, brush_there, with_there, face_there, named_there}
use Rattle.script_read.proofs.ThereLemmas.{bitmap_there, IsAsked, create_asked, created}

-- the meaning of each line can be carried out
abbrev LineCan : (ReaderState → List (List ℕ) → Meaning) → Type 0
LineCan read = (s : ReaderState) (l : Live) (words : List (List ℕ)) → Knows s l → CanMean l (read s words)

back_can : LineCan read_back
unfolding read_back
back_can s l words h = if_read _ (colour_in (word_at words 1)) _ (λ colour e. (tt, h))

origin_can : LineCan read_brushorg
unfolding read_brushorg
origin_can s l words h = if_read _ (point_in words 1) _ (λ origin e. (tt, (h.0, point_at words 1 e)))

clip_can : LineCan read_clip
unfolding read_clip
clip_can s l words h = if_read _ (clip_in s.names (word_at words 1)) _ (λ clip e. (tt, h))

dump_can : LineCan read_dump
unfolding read_dump
dump_can s l words h = if_read _ (named_in s.names (word_at words 1)) _ (λ q e. (IfOk-at_ok (NamedIsThere l) e (named_there s (word_at words 1) h), h))

sum_can : LineCan read_sum
unfolding read_sum
sum_can s l words h = if_read _ (named_in s.names (word_at words 1)) _ (λ q e. (IfOk-at_ok (NamedIsThere l) e (named_there s (word_at words 1) h), h))

table_can : LineCan read_table
unfolding read_table
table_can s l words h =
    if_read _ (new_name s.names (word_at words 1)) _ (λ u e.
    if_read _ (each colour_in (drop 2 words)) _ (λ colours ec.
    if_asked _ (has_room s && nat_lt s.tables most_tables) _ _ (λ t.
    (tt, (with_other (word_at words 1) (table colours) (λ b k. cc) (λ n k. cc) h.0, h.1)))))

region_can : LineCan read_region
unfolding read_region keep_region
region_can s l words h =
    if_read _ (named_region_in s.names words) _ (λ rects e.
    if_asked (CanAsk l) (has_room_for_rects s (length rects)) _ _ (λ t.
    if_asked (CanAsk l) (nat_le (length rects) most_rects) _ _ (λ u.
    (tt, (with_other (word_at words 1) (region rects) (λ b k. cc) (λ n k. cc) h.0, h.1)))))

brush_can : LineCan read_brush
unfolding read_brush
brush_can s l words h =
    if_read _ (new_name s.names (word_at words 1)) _ (λ u e.
    if_read _ (face_in s.names words) _ (λ face ef.
    if_asked _ (face.fits && has_room s && nat_lt s.brushes most_brushes) _ _ (λ t.
    let fits = (and_parts face.fits _ (and_parts _ _ t).0).0 in
    ((IfOk-at_ok (λ face. face.fits ≡ true → FaceIsThere l face.face) ef (face_there s words h) fits, h.0.brushes_made), (with_brush (word_at words 1) h.0, h.1)))))

bitmap_can : LineCan read_bitmap
unfolding read_bitmap keep_bitmap
bitmap_can s l words h =
    if_read _ (create_in s.names (length s.made) words) _ (λ o e.
    let asked = IfOk-at_ok (IsAsked (length s.made)) e (create_asked s.names (length s.made) words) in
    if_asked _ (has_room_for s o.size) _ _ (λ t.
    ((created s (length s.made) o asked t, asked.numbered ∙ h.0.bitmaps_made), (with_bitmap (word_at words 1) _ asked.numbered h.0, h.1))))

delete_can : LineCan read_delete
unfolding read_delete
delete_can s l words h =
    let name = word_at words 1 in
    if_read _ (bitmap_in s.names name) _ (λ b e.
    (there l b _ (IfOk-at_ok (IsKept l) e (bitmap_there s name h)) tt, (without_bitmap name b (bitmap_named s.names name e) h.0, h.1)))

copy_can : LineCan read_copy
unfolding read_copy
copy_can s l words h =
    if_read _ (spot_in s.names (word_at words 1)) _ (λ target et.
    if_read _ (rect_in words 2) _ (λ rect er.
    if_read _ (spot_in s.names (word_at words 6)) _ (λ source es.
    if_read _ (point_in words 7) _ (λ src ep.
    if_asked _ (is_well_ordered rect) _ _ (λ t. (
      record {
        target = IfOk-at_ok (SpotIsThere l) et (spot_there s (word_at words 1) h);
        source = feed_there l target source (IfOk-at_ok (SpotIsThere l) es (spot_there s (word_at words 6) h));
        mask = tt;
        other = mask_other target None refl;
        brush = tt;
        row = no_row source (calls.Copy (copy_from rect src));
        places = all_places (feed_from source) (calls.Copy (copy_from rect src)) (rect_at words 2 er t, point_at words 7 ep);
        needs = from_is_named source;
      },
      h,
    ))))))

paint_can : LineCan read_paint
unfolding read_paint
paint_can s l words h =
    if_read _ (spot_in s.names (word_at words 1)) _ (λ target et.
    if_read _ (rect_in words 2) _ (λ rect er.
    if_read _ (brush_in s.names (word_at words 6)) _ (λ with ew.
    if_read _ (mix_in (word_at words 7)) _ (λ mix em.
    if_asked _ (is_well_ordered rect) _ _ (λ t. (
      record {
        target = IfOk-at_ok (SpotIsThere l) et (spot_there s (word_at words 1) h);
        source = tt;
        mask = tt;
        other = mask_other target None refl;
        brush = IfOk-at_ok (BrushIsThere l) ew (brush_there s (word_at words 6) h);
        row = tt;
        places = (rect_at words 2 er t, h.1);
        needs = tt;
      },
      h,
    ))))))

pixels_can : LineCan read_pixels
unfolding read_pixels
pixels_can s l words h =
    if_read _ (bitmap_in s.names (word_at words 1)) _ (λ b e.
    if_read _ (point_in words 2) _ (λ at ea.
    if_read _ (each (value_in b.format) (drop 4 words)) _ (λ values ev.
    let kept = IfOk-at_ok (IsKept l) e (bitmap_there s (word_at words 1) h) in (
      record {
        target = there l b _ kept tt;
        source = there l b _ kept (IfOk-at_ok (All (λ v. v < 2 ^ bits_of b.format)) ev (each_all _ (value_in b.format) (value_fits b.format) (drop 4 words)));
        mask = tt;
        other = tt;
        brush = tt;
        row = (refl, refl);
        places = tt;
        needs = λ e. cc;
      },
      h,
    ))))

blt_can : LineCan read_blt
unfolding read_blt
blt_can s l words h =
    if_read _ (spot_in s.names (word_at words 1)) _ (λ target et.
    if_read _ (rect_in words 2) _ (λ rect er.
    if_read _ (spot_or_none s.names (word_at words 6)) _ (λ source es.
    if_read _ (point_in words 7) _ (λ src ep.
    if_read _ (bitmap_or_none s.names (word_at words 9)) _ (λ mask em.
    if_read _ (point_in words 10) _ (λ at ea.
    if_read _ (brush_or_none s.names (word_at words 12)) _ (λ with ew.
    if_read _ (hexadecimal_in 4 (word_at words 13)) _ (λ code ec.
    if_asked _ (is_well_ordered rect) _ _ (λ t.
    if_asked _ (has_operands code source mask with) _ _ (λ all.
    let named = operands_named code source mask with all in
    let bits = needed_mask (mask_needed code) mask in
    let kept = needed_kept l (mask_needed code) mask (IfOk-at_ok (λ mask. IfSome mask (IsKept l)) em (mask_kept s (word_at words 9) h)) in
    if_asked _ (is_mono_mask bits) _ _ (λ mono.
    if_asked _ (is_other target bits) _ _ (λ other. (
      record {
        target = IfOk-at_ok (SpotIsThere l) et (spot_there s (word_at words 1) h);
        source = needed_there l target (source_needed code) source
            (IfOk-at_ok (λ source. IfSome source (SpotIsThere l)) es (source_there s (word_at words 6) h));
        mask = mask_there l bits kept mono;
        other = mask_other target bits other;
        brush = IfOk-at_ok (BrushIsThere l) ew (with_there s (word_at words 12) h);
        row = needed_no_row (source_needed code) source (calls.Blt (blt_from rect src at s.origin code));
        places = all_places (needed_feed (source_needed code) source) (calls.Blt (blt_from rect src at s.origin code))
            (rect_at words 2 er t, point_at words 7 ep, point_at words 10 ea, h.1);
        needs = (needed_source_named (source_needed code) source named.0, needed_mask_named (mask_needed code) mask named.1);
      },
      h,
    )))))))))))))

meaning_can : (verb : Verb) → LineCan (meaning_of verb)
meaning_can verbs.Back = back_can
meaning_can verbs.Bitmap = bitmap_can
meaning_can verbs.Blt = blt_can
meaning_can verbs.Brush = brush_can
meaning_can verbs.Brushorg = origin_can
meaning_can verbs.Clip = clip_can
meaning_can verbs.Copy = copy_can
meaning_can verbs.Delete = delete_can
meaning_can verbs.Dump = dump_can
meaning_can verbs.Paint = paint_can
meaning_can verbs.Pixels = pixels_can
meaning_can verbs.Region = region_can
meaning_can verbs.Sum = sum_can
meaning_can verbs.Table = table_can

line_can : (commands : ℕ) → LineCan (read_line commands)
unfolding read_line
line_can commands s l words h =
    if_asked _ (nat_lt commands most_commands) _ _ (λ t.
    if_read _ (verb_among all_verbs (word_at words 0)) _ (λ verb e.
    if_asked _ (count_fits verb words) _ _ (λ u. meaning_can verb s l words h)))

-- commands can be done, and then all that can be done wherever the reader knows what is there
abbrev CanGoOn : Live → List ScriptCommand → ReaderState → Type 0
CanGoOn l commands s = (more : List ScriptCommand) → ((t : Live) → Knows s t → CanRun t more) → CanRun l (commands ++ more)

text_line_can : (commands : ℕ) (s : ReaderState) (l : Live) (line : List ℕ) → Knows s l → IfOk (read_text_line commands s line) (λ x. CanGoOn l x.0 x.1)
unfolding read_text_line
text_line_can commands s l line h = if_either _ (is_skipped line) _ _ (λ t more k. k l h)
    (λ t. if_read _ (read_line commands s (words_of line)) _ (λ x e more k.
    let can = IfOk-at_ok (CanAsk l) e (line_can commands s l (words_of line) h) in
    (can.0, k (after x.0 l) can.1)))

-- a command makes at most one bitmap
few_after : (c : ScriptCommand) (l : Live) → length (after c l).bitmaps ≤ length l.bitmaps + 1
few_after (Create o) l = omega (arith, length_push l.bitmaps (Some (record { size = o.size; format = o.format })))
few_after (Delete n) l = omega (arith, length-set l.bitmaps n None)
few_after (Brush o) l = omega arith
few_after (Draw c) l = omega arith
few_after (Dump q) l = omega arith
few_after (Sum q) l = omega arith
few_after Nothing l = omega arith

-- what is there where so many commands were read
pub record HasRead (s : ReaderState) (n : ℕ) : Type 0 where
  pub live : Live
  pub knows : Knows s live
  pub few : length live.bitmaps ≤ n

pub read_nothing : HasRead first_reader_state 0
read_nothing = record { live = first_live; knows = knows_first; few = omega arith }

-- no more bitmaps were made than commands are read
pub made_few : {s : ReaderState} {n : ℕ} → HasRead s n → length s.made ≤ n
made_few h = omega (arith, h.knows.0.bitmaps_made, h.few)

-- one more line
line_reads : (commands n : ℕ) (s : ReaderState) (line : List ℕ) → HasRead s n → IfOk (read_text_line commands s line) (λ x. HasRead x.1 (n + length x.0))
unfolding read_text_line
line_reads commands n s line h = if_either _ (is_skipped line) _ _ (λ t. record { live = h.live; knows = h.knows; few = omega (arith, h.few) })
    (λ t. if_read _ (read_line commands s (words_of line)) _ (λ x e.
    let can = IfOk-at_ok (CanAsk h.live) e (line_can commands s h.live (words_of line) h.knows) in
    record { live = after x.0 h.live; knows = can.1; few = omega (arith, h.few, few_after x.0 h.live) }))

pub read_on : (commands : ℕ) {n : ℕ} {s after : ReaderState} (line : List ℕ) (asked : List ScriptCommand) → HasRead s n →
    read_text_line commands s line ≡ Ok (asked, after) → HasRead after (n + length asked)
read_on commands {n} {s} line asked h e = IfOk-at_ok (λ x. HasRead x.1 (n + length x.0)) e (line_reads commands n s line h)

behind_can : (l : Live) (front : List ScriptCommand) (s : ReaderState) (rest : Result Asked FirstRefusal) → CanGoOn l front s →
    ((t : Live) → Knows s t → IfOk rest (λ a. CanRun t a.commands)) → IfOk (behind front rest) (λ a. CanRun l a.commands)
behind_can l front s (Ok a) h k = h a.commands k
behind_can l front s (Err e) h k = tt

followed_can : (n : ℕ) (l : Live) (read : Result (List ScriptCommand × ReaderState) Refusal)
    (rest : List ScriptCommand → ReaderState → Result Asked FirstRefusal) → IfOk read (λ x. CanGoOn l x.0 x.1) →
    ((asked : List ScriptCommand) (s : ReaderState) (t : Live) → Knows s t → IfOk (rest asked s) (λ a. CanRun t a.commands)) →
    IfOk (followed n read rest) (λ a. CanRun l a.commands)
followed_can n l (Ok x) rest h k = behind_can l x.0 x.1 (rest x.0 x.1) h (k x.0 x.1)
followed_can n l (Err e) rest h k = tt

lines_can : (n commands : ℕ) (s : ReaderState) (l : Live) (lines : List (List ℕ)) → Knows s l →
    IfOk (read_lines n commands s lines) (λ a. CanRun l a.commands)
unfolding read_lines
lines_can n commands s l [] h = tt
lines_can n commands s l (line ∷ lines) h = followed_can n l (read_text_line commands s line) _ (text_line_can commands s l line h)
    (λ asked after t k. lines_can (n + 1) (commands + length asked) after t lines k)

-- whatever the lines ask can be run
pub read_lines_can_run : (n commands : ℕ) (s : ReaderState) (l : Live) (lines : List (List ℕ)) (a : Asked) → Knows s l →
    read_lines n commands s lines ≡ Ok a → CanRun l a.commands
read_lines_can_run n commands s l lines a h e = IfOk-at_ok (λ a. CanRun l a.commands) e (lines_can n commands s l lines h)
