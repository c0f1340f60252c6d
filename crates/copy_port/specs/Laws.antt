-- Laws of drawings on the targets of a driver.
use Rattle.std.proofs.Common.{◌≡◌, ◌∙◌, ℕ, ◌+◌, ◌<◌, ◌≤◌, Bool, true, false, ◌||◌, if◌then◌else◌, cond, IsTrue, List, [], ◌∷◌, length, refl, ap, sym, subst, arith}
use Rattle.std.proofs.Common.{is_some, unwrap_or, true≢false, le_refl, Option, Some, None, option_map, eqb-true}
use Rattle.geom_base.specs.declared.point.Point.{Point}
use Rattle.geom_base.specs.declared.port_answer.PortAnswer.{PortAnswer}
use Rattle.geom_base.specs.declared.port_answer.PortAnswer.TheVariants.{Done, Fault, NoMemory}
use Rattle.geom_base.specs.declared.rect.Rect.{Rect}
use Rattle.geom_base.specs.declared.size.Size.{Size}
use Rattle.geom_base.specs.declared.target.Target.{Target}
use Rattle.geom_base.specs.declared.target.Target.TheVariants.{Screen, Bitmap}
use Rattle.geom_base.specs.Drawn.{Drawn, continues, joined, pushed}
use Rattle.geom_base.specs.Points.{is_in, is_in_some}
use Rattle.geom_base.specs.Step.{Area, Change, nowhere, redrawn}
use Rattle.surf_obj.specs.RectLaws.{redrawn_twice}
use Rattle.surf_obj.specs.Rects.{as_in_at}
use Rattle.surf_obj.specs.Surface.{Surface, changed, changed_nowhere}
use Rattle.copy_port.specs.State.{PortState, Rest, Shown, drawn_on, same_target, surface_of}
use Rattle.copy_port.specs.Port.{Draws, FaultRose, IfDone, Keeps, Pushes}

-- answers

pub not_done : (answer : PortAnswer) (P : Type 0) → ¬ (answer ≡ Done) → IfDone answer P
not_done Done P h = absurd (h refl)
not_done Fault P h = tt
not_done NoMemory P h = tt

pub if_done : (answer : PortAnswer) {P Q : Type 0} → (P → Q) → IfDone answer P → IfDone answer Q
if_done Done f p = f p
if_done Fault f p = tt
if_done NoMemory f p = tt

pub rose_later : (answer : PortAnswer) (a b c : ℕ) → a ≤ b → FaultRose answer b c → FaultRose answer a c
rose_later Done a b c h r = tt
rose_later Fault a b c h r = omega arith
rose_later NoMemory a b c h r = tt

-- what is shown

pub drawn_on-nowhere : (t : Target) (new : Change) (m : Shown) → drawn_on t new nowhere m ≡ m
drawn_on-nowhere t new m = λ i q. none_at new (same_target q t) (m q) i
  where
    none_at : (new : Change) (p : Bool) (o : Option Surface) → (if p then option_map (changed new nowhere) o else o) ≡ o
    none_at new true None = refl
    none_at new true (Some s) = ap Some (changed_nowhere new s)
    none_at new false o = refl

pub same_target-true : (p q : Target) → same_target p q ≡ true → p ≡ q
same_target-true Screen Screen e = refl
same_target-true Screen (Bitmap n) e = cc
same_target-true (Bitmap m) Screen e = cc
same_target-true (Bitmap m) (Bitmap n) e = ap Bitmap (eqb-true m n e)

-- changes that are one on the target
pub drawn_on-same : (t : Target) (f g : Change) (a : Area) (m : Shown) → ((s : Surface) → m t ≡ Some s → changed f a s ≡ changed g a s) →
    drawn_on t f a m ≡ drawn_on t g a m
drawn_on-same t f g a m h = λ i q. at (same_target q t) (m q) (λ e s is. h s (sym (ap m (same_target-true q t e)) ∙ is)) i
  where
    at : (p : Bool) (o : Option Surface) → (p ≡ true → (s : Surface) → o ≡ Some s → changed f a s ≡ changed g a s) →
        (if p then option_map (changed f a) o else o) ≡ (if p then option_map (changed g a) o else o)
    at true None h = refl
    at true (Some s) h = ap Some (h refl s refl)
    at false o h = refl

-- a target and another one have what they had, but for values
record SameShape (a b : Option Surface) : Type 0 where
  there : is_some b ≡ is_some a
  size : (surface_of (λ (t : Target). b) Screen).size ≡ (surface_of (λ (t : Target). a) Screen).size
  format : (surface_of (λ (t : Target). b) Screen).format ≡ (surface_of (λ (t : Target). a) Screen).format

shape_at : (new : Change) (a : Area) (p : Bool) (o : Option Surface) → SameShape o (if p then option_map (changed new a) o else o)
shape_at new a true None = record { there = refl; size = refl; format = refl }
shape_at new a true (Some s) = record { there = refl; size = refl; format = refl }
shape_at new a false o = record { there = refl; size = refl; format = refl }

pub live_on : (t q : Target) (new : Change) (a : Area) (m : Shown) → is_some (drawn_on t new a m q) ≡ is_some (m q)
live_on t q new a m = (shape_at new a (same_target q t) (m q)).there

pub size_on : (t q : Target) (new : Change) (a : Area) (m : Shown) → (surface_of (drawn_on t new a m) q).size ≡ (surface_of m q).size
size_on t q new a m = (shape_at new a (same_target q t) (m q)).size

pub format_on : (t q : Target) (new : Change) (a : Area) (m : Shown) → (surface_of (drawn_on t new a m) q).format ≡ (surface_of m q).format
format_on t q new a m = (shape_at new a (same_target q t) (m q)).format

-- what is pushed

pub pushes_none : (most : ℕ) (d : Drawn) → Pushes most nowhere d d
pushes_none most d = record { points = λ p. sym (or_false (is_in_some p d.rects)); spare = omega arith; room = le_refl _; longer = le_refl _ }
  where
    or_false : (b : Bool) → (b || false) ≡ b
    or_false true = refl
    or_false false = refl

pub pushes_then : (m n : ℕ) (a b : Area) (d e f : Drawn) → Pushes m a d e → Pushes n b e f → Pushes (m + n) (λ p. a p || b p) d f
pushes_then m n a b d e f g h = record {
  points = λ p. h.points p ∙ ap (λ x. x || b p) (g.points p) ∙ or_assoc (is_in_some p d.rects) (a p) (b p);
  spare = omega (arith, g.spare, h.spare);
  room = omega (arith, g.room, h.room);
  longer = omega (arith, g.longer, h.longer);
}
  where
    or_assoc : (x y z : Bool) → ((x || y) || z) ≡ (x || (y || z))
    or_assoc true y z = refl
    or_assoc false y z = refl

-- drawings

-- an answer before anything was drawn
pub draws_nothing : (t : Target) (new : Change) (area : Area) (most : ℕ) (before after : PortState) (d : Drawn) (answer : PortAnswer) →
    ¬ (answer ≡ Done) → Keeps before after answer → Draws t new area most before after d d answer
draws_nothing t new area most before after d answer refused k = record {
  more = nowhere;
  pushes = pushes_none most d;
  within = λ p h. absurd (true≢false (sym h));
  shown = k.shown ∙ sym (drawn_on-nowhere t new before.shown);
  done = not_done answer _ refused;
  rest = k.rest;
  later = k.later;
  cause = k.cause;
}

-- nothing to draw, and done
pub draws_nowhere : (t : Target) (new : Change) (area : Area) (most : ℕ) (s : PortState) (d : Drawn) → ((p : Point) → area p ≡ false) →
    Draws t new area most s s d d Done
draws_nowhere t new area most s d none = record {
  more = nowhere;
  pushes = pushes_none most d;
  within = λ p h. absurd (true≢false (sym h));
  shown = sym (drawn_on-nowhere t new s.shown);
  done = λ p. sym (none p);
  rest = refl;
  later = le_refl _;
  cause = tt;
}

-- a call that only reads, and then a drawing
pub keeps_then_draws : (t : Target) (new : Change) (area : Area) (most : ℕ) (before mid after : PortState) (d e : Drawn) (first answer : PortAnswer) →
    Keeps before mid first → Draws t new area most mid after d e answer → Draws t new area most before after d e answer
keeps_then_draws t new area most before mid after d e first answer k h = record {
  more = h.more;
  pushes = h.pushes;
  within = h.within;
  shown = h.shown ∙ ap (drawn_on t new h.more) k.shown;
  done = h.done;
  rest = h.rest ∙ k.rest;
  later = omega (arith, k.later, h.later);
  cause = rose_later answer _ _ _ k.later h.cause;
}

-- two calls that only read
pub keeps_then_keeps : (before mid after : PortState) (answer : PortAnswer) → Keeps before mid Done → Keeps mid after answer → Keeps before after answer
keeps_then_keeps before mid after answer k h = record {
  shown = h.shown ∙ k.shown;
  written = h.written ∙ k.written;
  rest = h.rest ∙ k.rest;
  later = omega (arith, k.later, h.later);
  cause = rose_later answer _ _ _ k.later h.cause;
}

pub keeps_all : (s : PortState) → Keeps s s Done
keeps_all s = record { shown = refl; written = refl; rest = refl; later = le_refl _; cause = tt }

-- the same drawing by another change and over other points
pub draws_as : (t : Target) (f g : Change) (a b : Area) (most : ℕ) (before after : PortState) (d e : Drawn) (answer : PortAnswer) → ((p : Point) → a p ≡ b p) →
    ((s : Surface) (c : Area) → before.shown t ≡ Some s → ((p : Point) → IsTrue (c p) → IsTrue (a p)) → changed f c s ≡ changed g c s) →
    Draws t f a most before after d e answer → Draws t g b most before after d e answer
draws_as t f g a b most before after d e answer area same h = record {
  more = h.more;
  pushes = h.pushes;
  within = λ p m. subst (λ (x : Bool). IsTrue x) (area p) (h.within p m);
  shown = h.shown ∙ drawn_on-same t f g h.more before.shown (λ s is. same s h.more is h.within);
  done = if_done answer (λ e p. e p ∙ area p) h.done;
  rest = h.rest;
  later = h.later;
  cause = h.cause;
}

-- points get the values that they have in a surface, and then others do
pub drawn_on-twice : (t : Target) (corner : Point) (size : Size) (values : List ℕ) (a b : Area) (m : Shown) →
    drawn_on t (as_in_at corner size values) b (drawn_on t (as_in_at corner size values) a m) ≡ drawn_on t (as_in_at corner size values) (λ p. a p || b p) m
drawn_on-twice t corner size values a b m = λ i q. at (same_target q t) (m q) i
  where
    at : (p : Bool) (o : Option Surface) →
        (if p then option_map (changed (as_in_at corner size values) b) (if p then option_map (changed (as_in_at corner size values) a) o else o)
        else (if p then option_map (changed (as_in_at corner size values) a) o else o)) ≡
        (if p then option_map (changed (as_in_at corner size values) (λ x. a x || b x)) o else o)
    at true None = refl
    at true (Some s) = ap (λ (vs : List ℕ). Some (record s { values = vs })) (redrawn_twice s.size size s.values values a b corner)
    at false o = refl

-- a drawing that is done, and then another of the same surface
pub draws_then_draws : (t : Target) (corner : Point) (size : Size) (values : List ℕ) (a b : Area) (m n : ℕ) (before mid after : PortState) (d e f : Drawn)
    (answer : PortAnswer) → Draws t (as_in_at corner size values) a m before mid d e Done → Draws t (as_in_at corner size values) b n mid after e f answer →
    Draws t (as_in_at corner size values) (λ p. a p || b p) (m + n) before after d f answer
draws_then_draws t corner size values a b m n before mid after d e f answer g h = record {
  more = λ p. g.more p || h.more p;
  pushes = pushes_then m n g.more h.more d e f g.pushes h.pushes;
  within = λ p i. either (g.more p) (h.more p) (a p) (b p) (g.within p) (h.within p) i;
  shown = h.shown ∙ ap (drawn_on t (as_in_at corner size values) h.more) g.shown ∙ drawn_on-twice t corner size values g.more h.more before.shown;
  done = if_done answer (λ same p. ap (λ x. x || h.more p) (g.done p) ∙ ap (λ x. a p || x) (same p)) h.done;
  rest = h.rest ∙ g.rest;
  later = omega (arith, g.later, h.later);
  cause = rose_later answer _ _ _ g.later h.cause;
}
  where
    either : (p q a b : Bool) → (IsTrue p → IsTrue a) → (IsTrue q → IsTrue b) → IsTrue (p || q) → IsTrue (a || b)
    either true q a b f g h = subst (λ c. IsTrue (c || b)) (sym (f refl)) refl
    either false true true b f g h = refl
    either false true false b f g h = g refl
    either false false a b f g h = absurd (true≢false (sym h))

-- a drawing that stopped is one of a greater area, and of more entries, that stopped
pub draws_part : (t : Target) (new : Change) (a b : Area) (m n : ℕ) (before after : PortState) (d e : Drawn) (answer : PortAnswer) → ¬ (answer ≡ Done) →
    ((p : Point) → IsTrue (a p) → IsTrue (b p)) → m ≤ n → Draws t new a m before after d e answer → Draws t new b n before after d e answer
draws_part t new a b m n before after d e answer refused wider le h = record {
  more = h.more;
  pushes = record { points = h.pushes.points; spare = omega (arith, h.pushes.spare); room = h.pushes.room; longer = h.pushes.longer };
  within = λ p i. wider p (h.within p i);
  shown = h.shown;
  done = not_done answer _ refused;
  rest = h.rest;
  later = h.later;
  cause = h.cause;
}

-- a rectangle that was pushed is an entry more at most
longer-pushed : (rects : List Rect) (r : Rect) → length rects ≤ length (pushed rects r)
longer-pushed [] r = omega arith
longer-pushed (last ∷ []) r = either (continues last r)
  where
    either : (b : Bool) → 1 ≤ length (cond b (joined last r ∷ []) (last ∷ r ∷ []))
    either true = le_refl _
    either false = omega arith
longer-pushed (s ∷ t ∷ rects) r = let h = longer-pushed (t ∷ rects) r in omega (arith, h)

-- a rectangle was drawn whole, and pushed
pub draws_rect : (t : Target) (new : Change) (r : Rect) (most : ℕ) (before after : PortState) (d e : Drawn) →
    after.shown ≡ drawn_on t new (λ p. is_in p r) before.shown → after.rest ≡ before.rest → before.faults ≤ after.faults → 1 ≤ most →
    e.rects ≡ pushed d.rects r → ((p : Point) → is_in_some p e.rects ≡ (is_in_some p d.rects || is_in p r)) → d.spare ≤ e.spare + 1 →
    length d.rects + d.spare ≤ length e.rects + e.spare → Draws t new (λ p. is_in p r) most before after d e Done
draws_rect t new r most before after d e shown rest later least rects points spare room = record {
  more = λ p. is_in p r;
  pushes = record { points = points; spare = omega (arith, spare, least); room = room; longer = rw rects (longer-pushed d.rects r) };
  within = λ p h. h;
  shown = shown;
  done = λ p. refl;
  rest = rest;
  later = later;
  cause = tt;
}
