-- A drawing on a bitmap that is out of its place meanwhile.
use Rattle.std.proofs.Common.{◌≡◌, ◌∙◌, ℕ, zero, suc, pos, ◌*◌, ◌+ℤ◌, ◌<◌, Bool, true, false, IsTrue, List, [], ◌∷◌, length, get_or, set, Option, Some, None, Err, refl, sym, ap, subst, arith, true≢false}
use Rattle.std.specs.Prelude.{if◌then◌else◌, option_map, nat_eq}
use Rattle.std.specs.List.{All}
use Rattle.std.proofs.lemmas.Bool.Decides.{nat_tests}
use Rattle.std.proofs.lemmas.Int.{ints}
use Rattle.std.proofs.lemmas.List.{set-set, set-get_or, get_or-set_other}
use Rattle.geom_base.specs.declared.point.Point.{Point}
use Rattle.geom_base.specs.declared.port_answer.PortAnswer.{PortAnswer}
use Rattle.geom_base.specs.Points.{IsIn, moved, point_at, whole}
use Rattle.surf_obj.specs.Surface.{Surface, changed, changed_nowhere}
use Rattle.brush_obj.specs.Calls.{Operands, blt_of, combined, new_of_blt, new_of_call, not_there, operand, point_across, reads_source, source_point}
use Rattle.brush_obj.specs.Wrapping.{from_origin}
use Rattle.brush_obj.specs.declared.blt_call.BltCall.{BltCall}
use Rattle.pix_format.specs.Value.{bits_of}
use Rattle.rop_mix.specs.Needs.{mask_needed, pattern_needed, source_needed}
use Rattle.brush_obj.specs.Slots.{Brush}
use Rattle.brush_obj.specs.declared.draw_call.DrawCall.{DrawCall}
use Rattle.brush_obj.specs.declared.draw_call.DrawCall.TheVariants.{Blt, Copy, Paint}
use Rattle.copy_port.specs.Port.{FaultRose, Keeps}
use Rattle.copy_port.specs.State.{PortState}
use Rattle.hook_route.specs.declared.outcome.Cause.{Cause}
use Rattle.hook_route.specs.declared.outcome.Cause.TheVariants as causes
use Rattle.script_orders.specs.Rows.{zero_point}
use Rattle.script_orders.specs.declared.desk_command.DeskCommand.{DeskCommand}
use Rattle.script_orders.specs.declared.desk_command.Spot.{Spot}
use Rattle.script_orders.specs.declared.desk_command.Spot.TheVariants as spots
use Rattle.script_orders.specs.declared.named.Named.TheVariants.{Bitmap}
use Rattle.script_orders.specs.declared.script_command.ScriptCommand.TheVariants as asked
use Rattle.desk_span.specs.declared.sight.Sight.{Sight}
use Rattle.desk_span.specs.Carries.{Carries}
use Rattle.desk_span.specs.CarryLaws.{only_read, still_serves, still_shown}
use Rattle.desk_span.specs.Desk.{State, area_of, drawn, drawn_on, new_of, operands_of, source_at}
use Rattle.desk_span.specs.Drives.{HasCause, PieceOf}
use Rattle.desk_span.specs.InnerBeside.{IsAmong, IsBeside, IsSeenAs, faces_of, undrawn}
use Rattle.desk_span.specs.InnerRouted.{kept_with}
use Rattle.desk_span.specs.InnerSight.{Sees, answer_of, seen_state}
use Rattle.desk_span.specs.Kept.{Kept, ScreenKept, Serves, state_by}
use Rattle.desk_span.specs.Meeting.{IsTarget, Reaches}
use Rattle.desk_span.specs.Reports.{Told}
use Rattle.desk_span.specs.Telling.{IsReport}
use Rattle.desk_span.proofs.RoutedLemmas.{same_change}

-- a surface whose first point is the drawing's
same_point : ◌≡◌ {A = Point → Point} (λ p. moved p zero_point) (λ p. p)
same_point = λ i p. record {
  x = (let e : p.x +ℤ pos 0 ≡ p.x = grind (arith, ints) in e) i;
  y = (let e : p.y +ℤ pos 0 ≡ p.y = grind (arith, ints) in e) i;
}

pub reached_there : (c : DeskCommand) (t : Surface) → Reaches (λ p. area_of c (moved p zero_point)) t.size → Reaches (area_of c) t.size
reached_there c t h = subst (λ (counted : Point → Point). Reaches (λ p. area_of c (counted p)) t.size) same_point h

-- calls that find the same source give the same
operand_alike : (needed : Bool) (a b : Option ℕ) → (IsTrue needed → a ≡ b) → operand needed a ≡ operand needed b
operand_alike true a b h = h refl
operand_alike false a b h = refl

blt_alike : (c : BltCall) (o : Operands) (source : Point → Option ℕ) (p : Point) (d : ℕ) →
    (IsTrue (source_needed c.rop.code) → source (point_across c.rect c.src p) ≡ o.source (point_across c.rect c.src p)) →
    new_of_blt c (record o { source = source }) p d ≡ new_of_blt c o p d
blt_alike c o source p d h =
    ap (λ (s : Option ℕ). combined c.rop.code (bits_of o.format) s (operand (mask_needed c.rop.code) (o.mask (point_across c.rect c.mask p)))
    (if pattern_needed c.rop.code then o.pattern (from_origin c.origin p) else 0) d)
    (operand_alike (source_needed c.rop.code) (source (point_across c.rect c.src p)) (o.source (point_across c.rect c.src p)) h)

source_alike : (call : DrawCall) (o : Operands) (source : Point → Option ℕ) (p : Point) (d : ℕ) →
    (IsTrue (reads_source call) → source (source_point call p) ≡ o.source (source_point call p)) →
    new_of_call call (record o { source = source }) p d ≡ new_of_call call o p d
source_alike (Blt c) o source p d h = blt_alike c o source p d h
source_alike (Copy c) o source p d h = blt_alike (blt_of c) (record o { mask = not_there; pattern = λ q. 0 }) source p d (λ needed. h refl)
source_alike (Paint c) o source p d h = refl

new_seen : (s : State) (c : DeskCommand) (t : Surface) (part : Option Surface) (at p : Point) (d : ℕ) →
    (IsTrue (reads_source c.call) → source_at (seen_state s part at) t c.back c.source (source_point c.call p) ≡ source_at s t c.back c.source (source_point c.call p)) →
    new_of (seen_state s part at) c t p d ≡ new_of s c t p d
new_seen s c t (Some part) at p d h = source_alike c.call (operands_of s c t) (source_at (seen_state s (Some part) at) t c.back c.source) p d h
new_seen s c t None at p d h = source_alike c.call (operands_of s c t) (source_at (seen_state s None at) t c.back c.source) p d h

-- beside what is seen stands what stands beside the bitmap
seen_as : (s : State) (part : Option Surface) (at : Point) → IsSeenAs (seen_state s part at) at part
seen_as s (Some part) at = record { places = refl; screens = refl }
seen_as s None at = (refl, refl)

seen_among : (s : State) (part : Option Surface) (at : Point) (spot : Spot) (t : Surface) (items : List (Option Surface)) (made : List Brush) →
    IsAmong s spot t items made → IsAmong (seen_state s part at) spot t items made
seen_among s (Some part) at spots.Desk t items made h = absurd h.own
seen_among s None at spots.Desk t items made h = absurd h.own
seen_among s (Some part) at (spots.Bitmap n) t items made h = record { bitmaps = h.bitmaps; own = h.own; brushes = h.brushes }
seen_among s None at (spots.Bitmap n) t items made h = record { bitmaps = h.bitmaps; own = h.own; brushes = h.brushes }

pub beside_seen : (s : State) (spot : Spot) (t : Surface) (sight : Sight) (items : List (Option Surface)) (made : List Brush) → IsAmong s spot t items made →
    IsBeside (seen_state s sight.part sight.at) spot t sight items made
beside_seen s spot t sight items made h = record {
  screen = seen_as s sight.part sight.at;
  among = seen_among s sight.part sight.at spot t items made h;
}

-- what was drawn with what is seen is what the drawing asks for
pub drawn_seen : (s : State) (c : DeskCommand) (t after : Surface) (sight : Sight) → length t.values ≡ t.size.w * t.size.h → Sees s c t.size sight →
    after ≡ changed (λ p. new_of (seen_state s sight.part sight.at) c t (moved p zero_point)) (λ p. area_of c (moved p zero_point)) t →
    after ≡ changed (new_of s c t) (area_of c) t
drawn_seen s c t after sight long sees e =
    let there = seen_state s sight.part sight.at in
    e ∙ ap (λ (counted : Point → Point). changed (λ p. new_of there c t (counted p)) (λ p. area_of c (counted p)) t) same_point
    ∙ same_change t (new_of there c t) (new_of s c t) (area_of c) (area_of c) long
    (λ x y hx hy h. (h, λ d. new_seen s c t sight.part sight.at (point_at x y) d (sees.finds t (point_at x y) (on_it x y hx hy) h)))
    (λ x y hx hy h h' d. absurd (true≢false (sym h' ∙ h)))
  where
    on_it : (x y : ℕ) → x < t.size.w → y < t.size.h → IsIn (point_at x y) (whole t.size)
    on_it x y hx hy = record { from_left = omega (arith, ints); to_right = omega (arith, ints, hx); from_top = omega (arith, ints); to_bottom = omega (arith, ints, hy) }

-- a driver that is asked only to be read
fault_told : (cause : Cause) (before after : ℕ) → FaultRose (answer_of {A = Unit {0}} (Err cause)) before after → HasCause cause before after
fault_told causes.Fault before after rose = rose
fault_told causes.Memory before after rose = tt

-- what stands beside a bitmap that is out of its place
pub among : (s : State) (brushes : List Brush) → faces_of brushes ≡ s.brushes → (n : ℕ) (t : Surface) → get_or s.bitmaps n None ≡ Some t → (spot : Spot) →
    spot ≡ spots.Bitmap n → IsAmong s spot t (set s.bitmaps n None) brushes
among s brushes faces n t here spot on = subst (λ (q : Spot). IsAmong s q t (set s.bitmaps n None) brushes) (sym on) (record {
  bitmaps = λ m other. get_or-set_other s.bitmaps n m None None other;
  own = here;
  brushes = faces;
})

module _ (w : ScreenKept) (bitmaps : List (Option Surface)) (brushes : List Brush) (before after : PortState) (n : ℕ) (t : Surface)
    (here : get_or bitmaps n None ≡ Some t) (c : DeskCommand) (on : c.target ≡ spots.Bitmap n) (serves : Serves w before) where
  abbrev kept_of : List (Option Surface) → Kept
  kept_of items = kept_with w items brushes

  abbrev s : State
  s = state_by (kept_of bitmaps) before

  no_piece : PieceOf s (asked.Draw c) 0 → ⊥
  no_piece h = let e : spots.Bitmap n ≡ spots.Desk = sym on ∙ h.target in absurd (cc)

  put_back : set (set bitmaps n None) n (Some t) ≡ bitmaps
  put_back = set-set bitmaps n None (Some t) ∙ ap (λ (x : Option Surface). set bitmaps n x) (sym here) ∙ set-get_or bitmaps n None

  -- a drawing that was done
  pub drawn_carries : (answer : PortAnswer) → Keeps before after answer → (now : Surface) → now ≡ changed (new_of s c t) (area_of c) t →
      Carries (kept_of bitmaps) (kept_of (set (set bitmaps n None) n (Some now))) (asked.Draw c) [] before after
  drawn_carries answer keeps now e = record {
    screen = refl;
    serves = still_serves before after answer keeps w serves;
    shows = still_shown before after answer keeps (kept_of (set (set bitmaps n None) n (Some now)))
        ∙ ap (λ (items : List (Option Surface)). record s { bitmaps = items }) (set-set bitmaps n None (Some now)
        ∙ ap (λ (x : Surface). set bitmaps n (Some x)) e
        ∙ ap (λ (x : Option Surface). set bitmaps n (option_map (drawn s c [] (Bitmap n)) x)) (sym here))
        ∙ ap (drawn_on s c []) (sym on);
    tells = record { order = tt; each = λ i d lt. absurd (omega (arith, lt)) };
    drives = only_read before after answer keeps s (asked.Draw c) [] no_piece tt (λ i d lt. absurd (omega (arith, lt)));
  }

  -- and one that was not
  undrawn_same : (cause : Cause) → drawn s c (undrawn n cause ∷ []) (Bitmap n) t ≡ t
  undrawn_same cause = let same : nat_eq n n ≡ true = grind (arith, nat_tests) in rw same (changed_nowhere (new_of s c t) t)

  report : (cause : Cause) → Reaches (area_of c) t.size → IsReport s c (undrawn n cause)
  report cause reached = record {
    meets = record {
      target = subst (λ (spot : Spot). IsTarget spot (Bitmap n)) (sym on) refl;
      surface = t;
      there = here;
      reached = reached;
    };
    few = omega arith;
    parts = λ i d lt. absurd (omega (arith, lt));
    undrawn = refl;
  }

  one_report : (P : Told → Type 0) (told : Told) → P told → All P (told ∷ [])
  one_report P told h zero d lt = h
  one_report P told h (suc i) d lt = absurd (omega (arith, lt))

  pub undrawn_carries : (cause : Cause) → Keeps before after (answer_of {A = Unit {0}} (Err cause)) → (now : Surface) → now ≡ t → Reaches (area_of c) t.size →
      (told : Told) → told ≡ undrawn n cause →
      Carries (kept_of bitmaps) (kept_of (set (set bitmaps n None) n (Some now))) (asked.Draw c) (told ∷ []) before after
  undrawn_carries cause keeps now e reached told is =
      subst (λ (r : Told). Carries (kept_of bitmaps) (kept_of (set (set bitmaps n None) n (Some now))) (asked.Draw c) (r ∷ []) before after) (sym is) (record {
        screen = refl;
        serves = still_serves before after _ keeps w serves;
        shows = still_shown before after _ keeps (kept_of (set (set bitmaps n None) n (Some now)))
            ∙ ap (λ (items : List (Option Surface)). record s { bitmaps = items }) (ap (λ (x : Surface). set (set bitmaps n None) n (Some x)) e ∙ put_back
            ∙ sym (set-get_or bitmaps n None) ∙ ap (λ (x : Option Surface). set bitmaps n x) (here ∙ ap (λ (x : Surface). Some x) (sym (undrawn_same cause)))
            ∙ ap (λ (x : Option Surface). set bitmaps n (option_map (drawn s c (undrawn n cause ∷ []) (Bitmap n)) x)) (sym here))
            ∙ ap (drawn_on s c (undrawn n cause ∷ [])) (sym on);
        tells = record { order = (λ i d lt. absurd (omega (arith, lt)), tt); each = one_report (IsReport s c) (undrawn n cause) (report cause reached) };
        drives = only_read before after _ keeps s (asked.Draw c) (undrawn n cause ∷ []) no_piece tt
            (one_report (λ (r : Told). HasCause r.cause before.faults after.faults) (undrawn n cause) (fault_told cause before.faults after.faults keeps.cause));
      })
