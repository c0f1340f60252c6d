-- Laws of routed calls: one for each way in which a call is drawn.
use Rattle.std.proofs.Common.{◌≡◌, ◌∙◌, ℕ, ◌*◌, ◌≤◌, Bool, true, false, ◌||◌, IsTrue, List, [], length, refl, ap, sym, subst, arith, le_refl, true≢false, Some, None, is_some}
use Rattle.std.specs.List.{All}
use Rattle.geom_base.specs.declared.point.Point.{Point}
use Rattle.geom_base.specs.declared.port_answer.PortAnswer.{PortAnswer}
use Rattle.geom_base.specs.declared.port_answer.PortAnswer.TheVariants as port
use Rattle.geom_base.specs.declared.rect.Rect.{Rect}
use Rattle.geom_base.specs.Drawn.{Drawn}
use Rattle.geom_base.specs.Points.{HasPoints, is_in_some}
use Rattle.geom_base.specs.Step.{Area, nowhere}
use Rattle.brush_obj.specs.declared.draw_call.DrawCall.{DrawCall}
use Rattle.clip_obj.specs.Clip.{LiesWithin}
use Rattle.copy_port.specs.Given.{Asked, Given, asked_of}
use Rattle.copy_port.specs.Laws.{drawn_on-nowhere}
use Rattle.copy_port.specs.Port.{Draws, Pushes}
use Rattle.copy_port.specs.State.{PortState, Shown, drawn_on}
use Rattle.ddi_driver.specs.Hook.{HookContract, ShownAfter, HasReason, is_declined}
use Rattle.ddi_driver.specs.HookLaws.{pushed_within, same_bitmaps, same_mode}
use Rattle.ddi_driver.specs.declared.answers.HookAnswer.{HookAnswer}
use Rattle.ddi_driver.specs.declared.answers.HookAnswer.TheVariants as hook
use Rattle.hook_route.specs.declared.outcome.Cause.TheVariants.{Fault, Memory}
use Rattle.hook_route.specs.declared.outcome.Outcome.{Outcome}
use Rattle.hook_route.specs.declared.outcome.Outcome.TheVariants.{All as all, Part}
use Rattle.hook_route.specs.Routes.{Asking, HasCause, IsUndrawn, Routed, ShownRouted, WasAsked, managed_outcome}

-- what was pushed onto an empty list is what stands in it
from_empty : (most : ℕ) (more : Area) (d e : Drawn) → d.rects ≡ [] → Pushes most more d e → (p : Point) → is_in_some p e.rects ≡ more p
from_empty most more d e empty h p = h.points p ∙ ap (λ (rects : List Rect). is_in_some p rects || more p) empty

-- memory was wanting before the offer
pub wanting : (a : Asked) (s : PortState) (d e : Drawn) → d.rects ≡ [] → e.rects ≡ d.rects → d.spare ≤ e.spare → Routed a s s d e (Part Memory)
wanting a s d e empty same more = record {
  more = nowhere;
  points = λ p. ap (is_in_some p) (same ∙ empty);
  within = λ p h. absurd (true≢false (sym h));
  shown = sym (drawn_on-nowhere a.target a.new s.shown);
  cause = tt;
  later = le_refl _;
  asking = None;
  counts = record { offered = refl; offered_bitmaps = refl; declined = refl };
  asked = asked (s.rest.hooks a.hook);
  declined = λ e. cc;
  written = λ h e. refl;
  spare = omega arith;
  mode = same_mode s.rest s.rest refl;
  bitmaps = same_bitmaps s.rest s.rest refl;
}
  where
    asked : (hooked : Bool) → WasAsked hooked None nowhere (Part Memory)
    asked true = λ e p. refl
    asked false = refl

-- what the answer of a hook that drew means
abbrev pub hook_outcome : HookAnswer → Outcome
hook_outcome hook.Done = all
hook_outcome hook.Declined = all
hook_outcome hook.Fault = Part Fault
hook_outcome hook.NoMemory = Part Memory

-- its hook drew it
pub by_hook : (a : Asked) (before after : PortState) (d e : Drawn) (answer : HookAnswer) → is_declined answer ≡ false → d.rects ≡ [] →
    IsTrue (before.rest.hooks a.hook) → HookContract a before after d e answer → Routed a before after d e (hook_outcome answer)
by_hook a before after d e answer drew empty hooked h = record {
  more = h.more;
  points = from_empty _ h.more d e empty h.pushes;
  within = h.within;
  shown = shown answer drew h.shown;
  cause = cause answer drew h.reason;
  later = h.later;
  asking = Some false;
  counts = rw (← drew) h.counts;
  asked = rw hooked (asked (hook_outcome answer));
  declined = λ e. cc;
  written = λ x y. h.written;
  spare = h.pushes.spare;
  mode = h.mode;
  bitmaps = h.bitmaps;
}
  where
    shown : (answer : HookAnswer) → is_declined answer ≡ false → ShownAfter a h.more before.shown after.shown answer →
        ShownRouted a h.more before.shown after.shown (hook_outcome answer)
    shown hook.Done drew s = s
    shown hook.Declined drew s = absurd (true≢false drew)
    shown hook.Fault drew s = s
    shown hook.NoMemory drew s = s

    cause : (answer : HookAnswer) → is_declined answer ≡ false → HasReason a before after d e answer → HasCause before.faults after.faults (hook_outcome answer)
    cause hook.Done drew r = tt
    cause hook.Declined drew r = tt
    cause hook.Fault drew r = r
    cause hook.NoMemory drew r = tt

    asked : (outcome : Outcome) → WasAsked true (Some false) h.more outcome
    asked all = refl
    asked (Part c) = λ e p. cc

-- its hook declined it
pub by_decline : (a : Asked) (before after : PortState) (d e : Drawn) → IsTrue (before.rest.hooks a.hook) → HookContract a before after d e hook.Declined →
    IsUndrawn a before after d e
by_decline a before after d e hooked h = record {
  shown = h.shown;
  drawn = h.reason.1;
  later = h.later;
  asking = Some true;
  counts = h.counts;
  hooked = hooked;
  refused = λ t. refl;
  declined = λ e. h.reason.0;
  mode = h.mode;
  bitmaps = h.bitmaps;
}

-- it isn't hooked
pub by_none : (a : Asked) (s : PortState) (d : Drawn) → s.rest.hooks a.hook ≡ false → IsUndrawn a s s d d
by_none a s d none = record {
  shown = refl;
  drawn = refl;
  later = le_refl _;
  asking = None;
  counts = record { offered = refl; offered_bitmaps = refl; declined = refl };
  hooked = none;
  refused = λ t. absurd (true≢false (sym t));
  declined = λ e. cc;
  mode = same_mode s.rest s.rest refl;
  bitmaps = same_bitmaps s.rest s.rest refl;
}

-- the engine drew it through the driver's port
pub by_engine : (a b : Asked) (before mid after : PortState) (z d e f : Drawn) (answer : PortAnswer) → d.rects ≡ [] → z.spare ≤ d.spare →
    IsUndrawn a before mid d e → b ≡ a → Draws b.target b.new (λ p. is_in_some p b.clip) (mid.rest.cuts * length b.clip) mid after e f answer →
    Routed a before after z f (managed_outcome answer)
by_engine a b before mid after z d e f answer empty room u same drew = record {
  more = h.more;
  points = from_empty _ h.more e f (ap (λ (x : Drawn). x.rects) u.drawn ∙ empty) h.pushes;
  within = h.within;
  shown = shown answer h;
  cause = cause answer h;
  later = omega (arith, u.later, h.later);
  asking = u.asking;
  counts = rw h.rest u.counts;
  asked = rw u.hooked (asked u.asking (managed_outcome answer));
  declined = u.declined;
  written = λ t n. absurd (n (u.refused (sym u.hooked ∙ t)));
  spare = let spared : e.spare ≡ d.spare = ap (λ (x : Drawn). x.spare) u.drawn in omega (arith, h.pushes.spare, spared, room);
  mode = rw h.rest u.mode;
  bitmaps = rw h.rest u.bitmaps;
}
  where
    h : Draws a.target a.new (λ p. is_in_some p a.clip) (before.rest.cuts * length a.clip) mid after e f answer
    h =
        subst (λ (n : ℕ). Draws a.target a.new (λ p. is_in_some p a.clip) (n * length a.clip) mid after e f answer) u.mode.cuts
        (subst (λ (x : Asked). Draws x.target x.new (λ p. is_in_some p x.clip) (mid.rest.cuts * length x.clip) mid after e f answer) same drew)

    shown : (answer : PortAnswer) (h : Draws a.target a.new (λ p. is_in_some p a.clip) (before.rest.cuts * length a.clip) mid after e f answer) →
        ShownRouted a h.more before.shown after.shown (managed_outcome answer)
    shown port.Done h = h.shown ∙ ap (drawn_on a.target a.new h.more) u.shown
        ∙ ap (λ (area : Area). drawn_on a.target a.new area before.shown) (λ i p. h.done p i)
    shown port.Fault h = h.shown ∙ ap (drawn_on a.target a.new h.more) u.shown
    shown port.NoMemory h = h.shown ∙ ap (drawn_on a.target a.new h.more) u.shown

    cause : (answer : PortAnswer) → Draws a.target a.new (λ p. is_in_some p a.clip) (before.rest.cuts * length a.clip) mid after e f answer →
        HasCause before.faults after.faults (managed_outcome answer)
    cause port.Done h = tt
    cause port.Fault h = omega (arith, u.later, h.cause)
    cause port.NoMemory h = tt

    asked : (asking : Asking) (outcome : Outcome) → WasAsked (is_some asking) asking h.more outcome
    asked None outcome = refl
    asked (Some refused) all = refl
    asked (Some refused) (Part c) = λ e p. cc

-- the same is asked
pub same_asked : (call : DrawCall) (g h : Given) (m n : Shown) (r s : List Rect) → g ≡ h → m ≡ n → r ≡ s → asked_of call g m r ≡ asked_of call h n s
same_asked call g h m n r s e f k = ap (λ x. asked_of call x m r) e ∙ ap (λ (x : Shown). asked_of call h x r) f ∙ ap (asked_of call h n) k

-- what stands in the drawn list has points, and lies within the bounds of the clip
pub drawn_within : (a : Asked) (bounds : Rect) (before after : PortState) (d e : Drawn) (outcome : Outcome) → Routed a before after d e outcome →
    All (LiesWithin bounds) a.clip → All HasPoints e.rects → All (LiesWithin bounds) e.rects
drawn_within a bounds before after d e outcome h clip points = pushed_within bounds a.clip e.rects (λ p t. h.within p (sym (h.points p) ∙ t)) clip points
