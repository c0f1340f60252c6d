-- Laws of the hook contract, for drivers: one for each way in which a hook ends.
use Rattle.std.proofs.Common.{◌≡◌, ◌∙◌, ◌*◌, ◌≤◌, ◌||◌, false, IsTrue, List, [], get_or, length, refl, ap, sym, subst, arith, true≢false}
use Rattle.std.specs.List.{All}
use Rattle.std.proofs.lemmas.List.Folds.{list_any_at}
use Rattle.geom_base.specs.declared.point.Point.{Point}
use Rattle.geom_base.specs.declared.port_answer.PortAnswer.{PortAnswer}
use Rattle.geom_base.specs.declared.port_answer.PortAnswer.TheVariants as port
use Rattle.geom_base.specs.declared.rect.Rect.{Rect}
use Rattle.geom_base.specs.declared.target.Target.{Target}
use Rattle.geom_base.specs.Drawn.{Drawn}
use Rattle.geom_base.specs.PointLaws.{is_in-IsIn}
use Rattle.geom_base.specs.Points.{HasPoints, is_in, is_in_some}
use Rattle.geom_base.specs.Step.{Area, nowhere}
use Rattle.brush_obj.specs.declared.draw_call.DrawCall.{DrawCall}
use Rattle.clip_obj.specs.Clip.{LiesWithin}
use Rattle.clip_obj.specs.ClipLaws.{clip_in, lies_within}
use Rattle.copy_port.specs.Given.{Asked, Given, asked_of}
use Rattle.copy_port.specs.Laws.{drawn_on-nowhere, pushes_none}
use Rattle.copy_port.specs.Port.{Draws, Pushes}
use Rattle.copy_port.specs.State.{PortState, Rest, Rose, Shown, drawn_on, next_count}
use Rattle.ddi_driver.specs.Hook.{CountsCall, HasReason, HookContract, ShownAfter, is_declined, punted}
use Rattle.ddi_driver.specs.Kept.{SameBitmaps, SameMode}
use Rattle.ddi_driver.specs.declared.answers.HookAnswer.{HookAnswer}
use Rattle.ddi_driver.specs.declared.answers.HookAnswer.TheVariants.{Done, Declined, Fault, NoMemory}

-- that a call was offered was counted, and nothing else happened
pub record CountsOffer (target : Target) (before after : PortState) : Type 0 where
  pub shown : after.shown ≡ before.shown
  pub faults : after.faults ≡ before.faults
  pub written : after.written ≡ before.written
  pub counts : CountsCall target false before.rest after.rest
  pub mode : SameMode before.rest after.rest
  pub bitmaps : SameBitmaps before.rest after.rest

-- that it was declined was counted, and nothing else happened
pub record CountsDeclined (before after : PortState) : Type 0 where
  pub shown : after.shown ≡ before.shown
  pub faults : after.faults ≡ before.faults
  pub written : after.written ≡ before.written
  pub offered : after.rest.offered ≡ before.rest.offered
  pub offered_bitmaps : after.rest.offered_bitmaps ≡ before.rest.offered_bitmaps
  pub declined : after.rest.declined ≡ next_count before.rest.declined
  pub mode : SameMode before.rest after.rest
  pub bitmaps : SameBitmaps before.rest after.rest

-- nothing but what is shown and the count of faults changes, after a call was offered
pub record Serves (mid after : PortState) : Type 0 where
  pub later : mid.faults ≤ after.faults
  pub written : after.written ≡ mid.written
  pub rest : after.rest ≡ mid.rest

none_within : (clip : Area) (p : Point) → IsTrue (nowhere p) → IsTrue (clip p)
none_within clip p h = absurd (true≢false (sym h))

mode_then : (a b c : Rest) → SameMode a b → SameMode b c → SameMode a c
mode_then a b c f g = record {
  driver = record { kind = g.driver.kind ∙ f.driver.kind; limits = g.driver.limits ∙ f.driver.limits };
  enabled = g.enabled ∙ f.enabled;
  hooks = g.hooks ∙ f.hooks;
  cuts = g.cuts ∙ f.cuts;
}

bitmaps_then : (a b c : Rest) → SameBitmaps a b → SameBitmaps b c → SameBitmaps a c
bitmaps_then a b c f g = record { asked = g.asked ∙ f.asked; made = g.made ∙ f.made }

-- a hook that ends in anything but Declined, by what is shown in the end and why
ends : (a : Asked) (more : Area) (before mid after : PortState) (d e : Drawn) (answer : HookAnswer) → is_declined answer ≡ false →
    CountsOffer a.target before mid → Serves mid after → Pushes (before.rest.cuts * length a.clip) more d e →
    ((p : Point) → IsTrue (more p) → IsTrue (is_in_some p a.clip)) → ShownAfter a more before.shown after.shown answer →
    HasReason a before after d e answer → HookContract a before after d e answer
ends a more before mid after d e answer taken c s pushes within shown reason = record {
  more = more;
  pushes = pushes;
  within = within;
  shown = shown;
  reason = reason;
  later = let x = c.faults in let y = s.later in omega arith;
  written = s.written ∙ c.written;
  counts = rw (s.rest, taken) c.counts;
  mode = rw s.rest c.mode;
  bitmaps = rw s.rest c.bitmaps;
}

-- the clip was drawn on the driver's own pixels, and nothing was pushed
pub hook_done : (a : Asked) (before mid after : PortState) (d : Drawn) → CountsOffer a.target before mid → Serves mid after →
    after.shown ≡ drawn_on a.target a.new (λ p. is_in_some p a.clip) mid.shown → HookContract a before after d d Done
hook_done a before mid after d c s shown =
    ends a nowhere before mid after d d Done refl c s (pushes_none _ d) (none_within (λ p. is_in_some p a.clip))
    (shown ∙ ap (drawn_on a.target a.new (λ p. is_in_some p a.clip)) c.shown) tt

-- a call of the device failed before the first pixel
pub hook_fault : (a : Asked) (before mid after : PortState) (d : Drawn) → CountsOffer a.target before mid → Serves mid after →
    after.shown ≡ mid.shown → Rose mid.faults after.faults → HookContract a before after d d Fault
hook_fault a before mid after d c s shown rose =
    ends a nowhere before mid after d d Fault refl c s (pushes_none _ d) (none_within (λ p. is_in_some p a.clip))
    (shown ∙ c.shown ∙ sym (drawn_on-nowhere a.target a.new before.shown)) (let x = c.faults in omega arith)

-- memory was wanting before the first pixel
pub hook_wanting : (a : Asked) (before mid after : PortState) (d : Drawn) → CountsOffer a.target before mid → Serves mid after →
    after.shown ≡ mid.shown → HookContract a before after d d NoMemory
hook_wanting a before mid after d c s shown =
    ends a nowhere before mid after d d NoMemory refl c s (pushes_none _ d) (none_within (λ p. is_in_some p a.clip))
    (shown ∙ c.shown ∙ sym (drawn_on-nowhere a.target a.new before.shown)) tt

-- the call was declined
pub hook_declined : (a : Asked) (before mid after : PortState) (d : Drawn) → CountsOffer a.target before mid → CountsDeclined mid after →
    IsTrue (before.rest.declines a.class) → HookContract a before after d d Declined
hook_declined a before mid after d c s declines = record {
  more = nowhere;
  pushes = pushes_none _ d;
  within = none_within (λ p. is_in_some p a.clip);
  shown = s.shown ∙ c.shown;
  reason = (declines, refl);
  later = let x = c.faults in let y = s.faults in omega arith;
  written = s.written ∙ c.written;
  counts = record {
    offered = s.offered ∙ c.counts.offered;
    offered_bitmaps = s.offered_bitmaps ∙ c.counts.offered_bitmaps;
    declined = s.declined ∙ ap next_count c.counts.declined;
  };
  mode = mode_then before.rest mid.rest after.rest c.mode s.mode;
  bitmaps = bitmaps_then before.rest mid.rest after.rest c.bitmaps s.bitmaps;
}

-- The call was handed back to the engine, which drew it through the driver's port, or the driver drew it so itself; and what was written on the
-- way was taken off the count again.
pub hook_punted : (a : Asked) (before mid after : PortState) (d e : Drawn) (answer : PortAnswer) → CountsOffer a.target before mid →
    Draws a.target a.new (λ p. is_in_some p a.clip) (mid.rest.cuts * length a.clip) mid after d e answer → after.written ≡ mid.written →
    HookContract a before after d e (punted answer)
hook_punted a before mid after d e answer c h written =
    ends a h.more before mid after d e (punted answer) (taken answer) c (record { later = h.later; written = written; rest = h.rest })
    (subst (λ n. Pushes (n * length a.clip) h.more d e) c.mode.cuts h.pushes) h.within (shown answer h) (reason answer h)
  where
    taken : (answer : PortAnswer) → is_declined (punted answer) ≡ false
    taken port.Done = refl
    taken port.Fault = refl
    taken port.NoMemory = refl

    shown : (answer : PortAnswer) (h : Draws a.target a.new (λ p. is_in_some p a.clip) (mid.rest.cuts * length a.clip) mid after d e answer) →
        ShownAfter a h.more before.shown after.shown (punted answer)
    shown port.Done h = h.shown ∙ ap (drawn_on a.target a.new h.more) c.shown
        ∙ ap (λ (area : Area). drawn_on a.target a.new area before.shown) (λ i p. h.done p i)
    shown port.Fault h = h.shown ∙ ap (drawn_on a.target a.new h.more) c.shown
    shown port.NoMemory h = h.shown ∙ ap (drawn_on a.target a.new h.more) c.shown

    reason : (answer : PortAnswer) → Draws a.target a.new (λ p. is_in_some p a.clip) (mid.rest.cuts * length a.clip) mid after d e answer →
        HasReason a before after d e (punted answer)
    reason port.Done h = tt
    reason port.Fault h = let x = c.faults in let y = h.cause in omega arith
    reason port.NoMemory h = tt

-- the same contract where what the call is handed is written in other words
pub hook_given : (call : DrawCall) (g h : Given) (m : Shown) (rects : List Rect) (before after : PortState) (d e : Drawn) (answer : HookAnswer) → g ≡ h →
    HookContract (asked_of call g m rects) before after d e answer → HookContract (asked_of call h m rects) before after d e answer
hook_given call g h m rects before after d e answer same k = subst (λ (x : Given). HookContract (asked_of call x m rects) before after d e answer) same k

-- what no call of a port changes

pub same_mode : (a b : Rest) → b ≡ a → SameMode a b
same_mode a b e = rw e (record { driver = record { kind = refl; limits = refl }; enabled = refl; hooks = refl; cuts = refl })

pub same_bitmaps : (a b : Rest) → b ≡ a → SameBitmaps a b
same_bitmaps a b e = rw e (record { asked = refl; made = refl })

-- rectangles with points whose points are those of a clip lie within the clip's bounds
pub pushed_within : (bounds : Rect) (clip rects : List Rect) → ((p : Point) → IsTrue (is_in_some p rects) → IsTrue (is_in_some p clip)) →
    All (LiesWithin bounds) clip → All HasPoints rects → All (LiesWithin bounds) rects
pushed_within bounds clip rects within inside points = λ k d lt.
    lies_within (get_or rects k d) bounds (λ p h. (is_in-IsIn p bounds).0 (clip_in bounds clip p inside
    (within p (list_any_at (λ r. is_in p r) rects k d lt ((is_in-IsIn p (get_or rects k d)).1 h))))) (points k d lt)

-- so what a hook pushes onto an empty list has points, and lies within the bounds of its clip
pub hook_pushed_within : (a : Asked) (bounds : Rect) (before after : PortState) (d e : Drawn) (answer : HookAnswer) → HookContract a before after d e answer →
    d.rects ≡ [] → All (LiesWithin bounds) a.clip → All HasPoints e.rects → All (LiesWithin bounds) e.rects
hook_pushed_within a bounds before after d e answer h empty clip points =
    pushed_within bounds a.clip e.rects (λ p t. h.within p (sym (h.pushes.points p ∙ ap (λ (rects : List Rect). is_in_some p rects || h.more p) empty) ∙ t)) clip points
