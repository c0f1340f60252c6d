-- The facts of a clip have one proof at most.
use Rattle.std.proofs.Common.{◌≡◌, ℤ, ◌≤ℤ◌, List, get_or}
use Rattle.std.specs.Int.Signed.{le_z}
use Rattle.std.specs.List.{All, AllPairs}
use Rattle.std.proofs.Math.Bool.{Bool-set}
use Rattle.std.proofs.Math.Dec.{T_prop}
use Rattle.geom_base.specs.declared.rect.Rect.{Rect}
use Rattle.geom_base.specs.Points.{AreApart}
use Rattle.clip_obj.specs.Clip.{Clip, LiesWithin}

le_same : (a b : ℤ) (h g : a ≤ℤ b) → h ≡ g
le_same a b h g = λ i. record { le = T_prop (le_z a b) h.le g.le i }

within_same : (outer r : Rect) (h g : LiesWithin outer r) → h ≡ g
within_same outer r h g = λ i. record {
  left = le_same outer.left r.left h.left g.left i;
  across = le_same r.left r.right h.across g.across i;
  right = le_same r.right outer.right h.right g.right i;
  top = le_same outer.top r.top h.top g.top i;
  down = le_same r.top r.bottom h.down g.down i;
  bottom = le_same r.bottom outer.bottom h.bottom g.bottom i;
}

pub clip_same : (bounds : Rect) (rects left : List Rect) (h g : All (LiesWithin bounds) rects) (u v : AllPairs AreApart rects) →
    ◌≡◌ {A = Clip} (record { bounds = bounds; rects = rects; left = left; inside = h; apart = u })
    (record { bounds = bounds; rects = rects; left = left; inside = g; apart = v })
clip_same bounds rects left h g u v = λ i. record {
  bounds = bounds;
  rects = rects;
  left = left;
  inside = λ k d lt. within_same bounds (get_or rects k d) (h k d lt) (g k d lt) i;
  apart = λ j k d lt within p. Bool-set _ _ (u j k d lt within p) (v j k d lt within p) i;
}

pub left_same : (bounds : Rect) (rects left more : List Rect) (h : All (LiesWithin bounds) rects) (u : AllPairs AreApart rects) → left ≡ more →
    ◌≡◌ {A = Clip} (record { bounds = bounds; rects = rects; left = left; inside = h; apart = u })
    (record { bounds = bounds; rects = rects; left = more; inside = h; apart = u })
left_same bounds rects left more h u e = λ i. record { bounds = bounds; rects = rects; left = e i; inside = h; apart = u }
