-- A surface that was read whole.
use Rattle.std.proofs.Common.{◌≡◌, ℕ, pos, ◌*◌, ◌+ℤ◌, List, ◌++◌, take, drop, length, unsigned_abs, arith, ap, refl, sym, ◌∙◌}
use Rattle.std.proofs.Common.{append-nil}
use Rattle.std.proofs.lemmas.Int.{ints}
use Rattle.std.proofs.lemmas.List.{drop_all, take_all}
use Rattle.geom_base.specs.Grid.{value_at}
use Rattle.geom_base.specs.Points.{whole}
use Rattle.geom_base.specs.declared.rect.Rect.{Rect}
use Rattle.geom_base.specs.declared.size.Size.{Size}
use Rattle.surf_obj.specs.RectLaws.{reads_rect, sides_of-whole, whole_count}
use Rattle.surf_obj.specs.Rects.{ReadsRect, rect_values}
use Rattle.geom_base.specs.declared.target.Target.TheVariants.{Screen}
use Rattle.copy_port.specs.State.{PortState}
use Rattle.desk_span.specs.Kept.{ScreenKept, Serves, shown_by_driver}

same_place : (n : ℕ) → unsigned_abs (pos n +ℤ pos 0) ≡ n
same_place n = omega (arith, ints)

-- the values of the whole of a surface are its values
whole_values : (size : Size) (values : List ℕ) → length values ≡ size.w * size.h → rect_values (whole size) size values ≡ values
whole_values size values long =
    sym (reads_rect (whole size) size values values (long ∙ sym (whole_count size)) (λ x y hx hy.
    ap (λ (s : Size). value_at s values x y) (sides_of-whole size) ∙ rw (same_place x, same_place y) refl))

-- so is what is read of the whole through a view
pub whole_read : (size own seen : Size) (values shown out : List ℕ) (r : Rect) → own ≡ size → seen ≡ size → shown ≡ values → r ≡ whole own →
    length values ≡ own.w * own.h → ReadsRect r seen shown out → out ≡ values
whole_read size own seen values shown out r same alike here rect long reads =
    reads ∙ rw (rect, here, alike, same) (whole_values size values (rw same at long))

-- and of the whole of a screen through its driver
pub screen_read : (w : ScreenKept) (driver : PortState) → Serves w driver → (out : List ℕ) (r : Rect) → r ≡ whole w.size →
    ReadsRect r (shown_by_driver driver).size (shown_by_driver driver).values out → out ≡ (shown_by_driver driver).values
screen_read w driver serves out r e reads =
    let t = shown_by_driver driver in
    whole_read t.size w.size t.size t.values t.values out r (sym serves.size) refl refl e
    ((driver.sound Screen serves.alive).count ∙ ap (λ (z : Size). z.w * z.h) serves.size) reads

-- a list whose every item was written
pub written_whole : {A : Type 0} (n : ℕ) (out items : List A) → length out ≡ n → length items ≡ n → take n (out ++ drop (length out) items) ≡ out
written_whole {A} n out items long wide =
    ap (λ (rest : List A). take n (out ++ rest)) (drop_all (length out) items (omega (arith, long, wide)))
    ∙ ap (take n) (append-nil out) ∙ take_all n out (omega (arith, long))
