-- What the calls of a driver of a linear frame buffer leave.
use Rattle.std.proofs.Common.{◌≡◌, ◌∙◌, ℕ, ◌+◌, ◌*◌, ◌/◌, ◌≤◌, unwrap_or, true, false, IsTrue, List, length, replicate, Option, Some, None, option_map, is_some, is_err, Result, Ok, Err, OnErr, refl, sym, ap, subst, arith, true≢false}
use Rattle.std.proofs.lemmas.List.{length-replicate}
use Rattle.std.specs.Borrow.{Bor}
use Rattle.std.specs.Option.{option_copied}
use Rattle.geom_base.specs.declared.point.Point.{Point}
use Rattle.geom_base.specs.declared.rect.Rect.{Rect}
use Rattle.geom_base.specs.declared.target.Target.{Target}
use Rattle.geom_base.specs.declared.target.Target.TheVariants.{Screen as screen, Bitmap}
use Rattle.geom_base.specs.Points.{is_in_some}
use Rattle.geom_base.specs.Step.{Area, Change, redrawn}
use Rattle.pix_format.specs.declared.format.Format.{Format}
use Rattle.pix_format.specs.declared.rgb.Rgb.{Rgb}
use Rattle.pix_format.specs.Value.{colours_of}
use Rattle.pix_format.specs.Xlate.{Translation}
use Rattle.surf_obj.specs.declared.layout.Layout.{Layout}
use Rattle.surf_obj.specs.Layout.{Holds, row_bytes, values_in}
use Rattle.surf_obj.specs.Object.{padded}
use Rattle.surf_obj.specs.Surface.{Surface, changed}
use Rattle.surf_obj.specs.declared.view.LentView.{LentView}
use Rattle.brush_obj.specs.Calls.{Operands, as_kept, held_of, new_of_call, shown, target_of}
use Rattle.brush_obj.specs.Slots.{Brush}
use Rattle.brush_obj.specs.declared.draw_call.DrawCall.{DrawCall}
use Rattle.brush_obj.specs.declared.draw_call.DrawCall.TheVariants.{Blt, Copy, Paint}
use Rattle.blt_kernel.specs.Handed.{TranslatesFrom, mask_of, source_of}
use Rattle.copy_port.specs.Given as given
use Rattle.copy_port.specs.State.{IsLive, blank, drawn_on, next_count, surface_of}
use Rattle.copy_port.specs.declared.words.Mode.{Mode}
use Rattle.eng_calls.specs.Inputs.{IsGiven, Suits, drawn_with, given_of, pattern_of, translated_by}
use Rattle.eng_calls.specs.declared.inputs.Inputs.{Inputs}
use Rattle.ddi_driver.specs.Enabling.{screen_alone}
use Rattle.ddi_driver.specs.HookLaws.{CountsOffer}
use Rattle.ddi_driver.specs.Modes.{IsMode}
use Rattle.drv_linear.specs.State.{HoldsScreen, IsScreenOf, rest_with, shown_at, state_with, surface_at}
use Rattle.drv_linear.specs.declared.policy.Policy.{Policy}
use Rattle.drv_linear.specs.declared.screen.Screen.{Screen}
use Rattle.surf_obj.specs.BlankLaws.{values_in-zeros}

-- as many bytes hold the screen still
pub held_still : (o : Option Screen) (a b : List ℕ) → length b ≡ length a → HoldsScreen o (length a) → HoldsScreen o (length b)
held_still o a b e h = subst (HoldsScreen o) (sym e) h

pub on_err : {T E P : Type 0} (r : Result T E) → is_err r ≡ true → OnErr r P → P
on_err (Ok x) e h = absurd (true≢false (sym e))
on_err (Err x) e h = h

-- a target that is live is the screen

pub surface_is : (s : Screen) (bytes : List ℕ) (t : Target) → IsLive (shown_at (Some s) bytes) t → surface_of (shown_at (Some s) bytes) t ≡ surface_at s bytes
surface_is s bytes screen live = refl
surface_is s bytes (Bitmap n) live = absurd (true≢false (sym live))

-- a step of its surface is one on what is shown
pub screen_drawn : (s : Screen) (bytes after : List ℕ) (t : Target) (new : Change) (area : Area) → IsLive (shown_at (Some s) bytes) t →
    values_in s.layout after ≡ redrawn s.layout.size (values_in s.layout bytes) area new →
    shown_at (Some s) after ≡ drawn_on t new area (shown_at (Some s) bytes)
screen_drawn s bytes after t new area live is = λ i q. at t q live i
  where
    step : surface_at s after ≡ changed new area (surface_at s bytes)
    step = ap (λ (values : List ℕ). record { size = s.layout.size; format = s.layout.format; table = s.table; values = values }) is

    at : (t q : Target) → IsLive (shown_at (Some s) bytes) t → shown_at (Some s) after q ≡ drawn_on t new area (shown_at (Some s) bytes) q
    at screen screen there = ap Some step
    at screen (Bitmap n) there = refl
    at (Bitmap m) q there = absurd (true≢false (sym there))

-- a source that is held is the screen

-- what the bytes have, as a call on them finds it
abbrev pub own_of : Screen → List ℕ → Point → Option ℕ
own_of s bytes = shown s.layout.size (values_in s.layout bytes)

source_given : (s : Screen) (bytes : List ℕ) (source : Option (Bor LentView)) (held : Option Target) →
    given.HoldsLive held (option_map given.picture_of_view source) (shown_at (Some s) bytes) →
    source_of source held (own_of s bytes) ≡ given.points_of (given.first_of (option_map given.picture_of_view source) (given.held_in held (shown_at (Some s) bytes)))
source_given s bytes (Some view) held h = refl
source_given s bytes None None h = refl
source_given s bytes None (Some screen) h = refl
source_given s bytes None (Some (Bitmap n)) h = absurd (true≢false (sym h.0))

translated_given : (x : Option (Bor Translation)) (a b : Point → Option ℕ) → a ≡ b → translated_by x a ≡ given.translated_by (option_copied x) b
translated_given (Some xlate) a b e = ap (as_kept xlate.now) e
translated_given None a b e = refl

mask_given : (m : Option (Bor LentView)) → mask_of m ≡ given.points_of (option_map given.picture_of_view m)
mask_given (Some view) = refl
mask_given None = refl

pattern_given : (b : Option (Bor Brush)) (format : Format) (table : List Rgb) →
    pattern_of b format table ≡ given.pattern_of (option_map (λ (b : Bor Brush). b.now.face) b) format table
pattern_given (Some brush) format table = refl
pattern_given None format table = refl

abbrev operands_with : (Point → Option ℕ) → (Point → Option ℕ) → (Point → ℕ) → Format → Operands
operands_with source mask pattern format = record { source = source; clear = λ p. false; mask = mask; pattern = pattern; format = format }

-- the operands of a call on the bytes are those of what is asked
operands_given : (s : Screen) (bytes : List ℕ) (i : Inputs) (held : Option Target) → given.HoldsLive held (given_of i).source (shown_at (Some s) bytes) →
    drawn_with i held (own_of s bytes) s.layout.format ≡ given.operands_given (given_of i) (given.held_in held (shown_at (Some s) bytes)) s.layout.format
operands_given s bytes i held h =
    let source = translated_given i.xlate _ _ (source_given s bytes i.source held h) in
    let pattern = pattern_given i.brush s.layout.format i.table.now in
    ap (λ (f : Point → Option ℕ). operands_with f (mask_of i.mask) (pattern_of i.brush s.layout.format i.table.now) s.layout.format) source
    ∙ ap (λ (m : Point → Option ℕ). operands_with (given.translated_by (given_of i).xlate (given.points_of
    (given.first_of (given_of i).source (given.held_in held (shown_at (Some s) bytes))))) m (pattern_of i.brush s.layout.format i.table.now) s.layout.format)
    (mask_given i.mask)
    ∙ ap (λ (q : Point → ℕ). operands_with (given.translated_by (given_of i).xlate (given.points_of
    (given.first_of (given_of i).source (given.held_in held (shown_at (Some s) bytes))))) (given.points_of (given_of i).mask) q s.layout.format) pattern

-- a call that was drawn on the bytes is what was asked
pub asked_drawn : (s : Screen) (bytes after : List ℕ) (call : DrawCall) (i : Inputs) (rects : List Rect) →
    given.CanDraw call (given_of i) (shown_at (Some s) bytes) rects →
    values_in s.layout after ≡ redrawn s.layout.size (values_in s.layout bytes) (λ p. is_in_some p rects)
    (new_of_call call (drawn_with i (held_of call) (own_of s bytes) s.layout.format)) →
    shown_at (Some s) after ≡ drawn_on (target_of call) (given.asked_of call (given_of i) (shown_at (Some s) bytes) rects).new (λ p. is_in_some p rects)
    (shown_at (Some s) bytes)
asked_drawn s bytes after call i rects can is =
    let format : s.layout.format ≡ (surface_of (shown_at (Some s) bytes) (target_of call)).format =
    sym (ap (λ (x : Surface). x.format) (surface_is s bytes (target_of call) can.alive)) in
    let same = operands_given s bytes i (held_of call) can.held
    ∙ ap (given.operands_given (given_of i) (given.held_in (held_of call) (shown_at (Some s) bytes))) format in
    screen_drawn s bytes after (target_of call) _ (λ p. is_in_some p rects) can.alive
    (is ∙ ap (λ (o : Operands). redrawn s.layout.size (values_in s.layout bytes) (λ p. is_in_some p rects) (new_of_call call o)) same)

-- what suits a call on the screen suits it on the bytes

leads_own : (s : Screen) (bytes : List ℕ) (source : Option (Bor LentView)) (held : Option Target) (xlate : Translation) →
    given.HoldsLive held (option_map given.picture_of_view source) (shown_at (Some s) bytes) →
    given.LeadsFrom (given.first_of (option_map given.picture_of_view source) (given.held_in held (shown_at (Some s) bytes))) xlate →
    TranslatesFrom source held s.layout.format xlate
leads_own s bytes (Some view) held xlate h leads = leads
leads_own s bytes None None xlate h leads = tt
leads_own s bytes None (Some screen) xlate h leads = leads
leads_own s bytes None (Some (Bitmap n)) xlate h leads = absurd (true≢false (sym h.0))

translates_own : (x : Option (Bor Translation)) (format : Format) (P Q : Translation → Type 0) → ((xlate : Translation) → P xlate → Q xlate) →
    given.IsThereAnd (option_copied x) (λ xlate. P xlate × (xlate.to ≡ format)) → IsGiven x (λ xlate. Q xlate.now × (xlate.now.to ≡ format))
translates_own (Some xlate) format P Q f h = (f xlate.now h.0, h.1)
translates_own None format P Q f h = absurd h

brush_own : (b : Option (Bor Brush)) (table : List Rgb) (format : Format) → length table ≡ colours_of format →
    IsTrue (is_some (option_map (λ (b : Bor Brush). b.now.face) b)) → IsGiven b (λ b. length table ≡ colours_of format)
brush_own (Some brush) table format e h = e
brush_own None table format e h = absurd (true≢false (sym h))

suits_format : (s : Screen) (bytes : List ℕ) (call : DrawCall) (i : Inputs) → given.HoldsLive (held_of call) (given_of i).source (shown_at (Some s) bytes) →
    length i.table.now ≡ colours_of s.layout.format → given.Suits call (given_of i) (given.held_in (held_of call) (shown_at (Some s) bytes)) s.layout.format →
    Suits call i s.layout.format
suits_format s bytes (Blt c) i h e suits = (
  translates_own i.xlate s.layout.format _ _ (λ xlate leads. leads_own s bytes i.source c.held xlate h leads) suits.0,
  brush_own i.brush i.table.now s.layout.format e suits.1,
)
suits_format s bytes (Copy c) i h e suits =
    translates_own i.xlate s.layout.format _ _ (λ xlate leads. leads_own s bytes i.source c.held xlate h leads) suits.0
suits_format s bytes (Paint c) i h e suits = brush_own i.brush i.table.now s.layout.format e suits

pub suits_bytes : (s : Screen) (bytes : List ℕ) (call : DrawCall) (i : Inputs) (rects : List Rect) →
    given.CanDraw call (given_of i) (shown_at (Some s) bytes) rects → Suits call i s.layout.format
suits_bytes s bytes call i rects can =
    let here = surface_is s bytes (target_of call) can.alive in
    suits_format s bytes call i can.held (ap length (can.table ∙ ap (λ (x : Surface). x.table) here) ∙ s.colours)
    (subst (λ (x : Surface). given.Suits call (given_of i) (given.held_in (held_of call) (shown_at (Some s) bytes)) x.format) here can.suits)

-- a call on a live target was offered
pub counts_offer : (o : Option Screen) (bytes : List ℕ) (holds now : HoldsScreen o (length bytes)) (faults written : ℕ) (policy : Policy)
    (offered declined asked : ℕ) (t : Target) → IsLive (shown_at o bytes) t →
    CountsOffer t (state_with o bytes holds faults written (rest_with (is_some o) policy offered declined asked))
    (state_with o bytes now faults written (rest_with (is_some o) policy (next_count offered) declined asked))
counts_offer o bytes holds now faults written policy offered declined asked screen live = record {
  shown = refl;
  faults = refl;
  written = refl;
  counts = record { offered = refl; offered_bitmaps = refl; declined = refl };
  mode = record { driver = record { kind = refl; limits = refl }; enabled = refl; hooks = refl; cuts = refl };
  bitmaps = record { asked = refl; made = refl };
}
counts_offer o bytes holds now faults written policy offered declined asked (Bitmap n) live = absurd (true≢false (sym live))

-- a device that was just powered on for a mode

holds_one : (s : Screen) (bytes : List ℕ) → Holds s.layout (length bytes) → HoldsScreen (Some s) (length bytes)
holds_one s bytes h x e = subst (λ (y : Screen). Holds y.layout (length bytes)) (ap (λ (o : Option Screen). unwrap_or o s) e) h

padded_holds : (l : Layout) (m : Mode) (bytes : List ℕ) → IsMode m → l ≡ padded m.size m.format →
    bytes ≡ replicate (l.size.h * l.stride) 0 → Holds l (length bytes)
padded_holds l m bytes mode e zeros =
    let long : length bytes ≡ l.size.h * l.stride = ap length zeros ∙ length-replicate (l.size.h * l.stride) 0 in
    rw long (rw e (record { rows = zero_more _; columns = rounded (row_bytes m.format m.size.w); sides = mode.size.sides }))
  where
    zero_more : (n : ℕ) → 0 + n ≤ n
    zero_more n = omega arith

    rounded : (n : ℕ) → n ≤ (n + 3) / 4 * 4
    rounded n = omega arith

pub new_holds : (s : Screen) (m : Mode) (bytes : List ℕ) → IsMode m → IsScreenOf m s →
    bytes ≡ replicate (s.layout.size.h * s.layout.stride) 0 → HoldsScreen (Some s) (length bytes)
new_holds s m bytes mode is zeros = holds_one s bytes (padded_holds s.layout m bytes mode is.layout zeros)

pub new_shown : (s : Screen) (m : Mode) (bytes : List ℕ) → IsScreenOf m s →
    bytes ≡ replicate (s.layout.size.h * s.layout.stride) 0 → shown_at (Some s) bytes ≡ screen_alone (blank m.size m.format m.table)
new_shown s m bytes is zeros = λ i t. at t i
  where
    filled : values_in s.layout bytes ≡ replicate (s.layout.size.w * s.layout.size.h) 0
    filled = ap (values_in s.layout) zeros ∙ values_in-zeros s.layout (s.layout.size.h * s.layout.stride)

    same : surface_at s bytes ≡ blank m.size m.format m.table
    same = ap (λ (v : List ℕ). record { size = s.layout.size; format = s.layout.format; table = s.table; values = v }) filled
        ∙ ap (λ (l : Layout). blank l.size l.format s.table) is.layout ∙ ap (blank m.size m.format) is.table

    at : (t : Target) → shown_at (Some s) bytes t ≡ screen_alone (blank m.size m.format m.table) t
    at screen = ap Some same
    at (Bitmap n) = refl
