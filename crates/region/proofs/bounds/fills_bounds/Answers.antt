use Rattle.std.proofs.Common.{inl, inr, refl}
use Rattle.std.proofs.lemmas.Bool.{false≢true}
use Rattle.geom_base.specs.Points.{no_rect}
use Rattle.region.proofs.BoundsLemmas.{empty_is_whole, one_is_whole, others_are_not}
use Rattle.region.proofs.bounds.fills_bounds.Goals as goal

pub returns-then-not-has_points : goal.returns-then-not-has_points
returns-then-not-has_points c = empty_is_whole c.args.rects.now c.args.bounds.now c.is_empty.result c.is_empty.ensures
    (λ h. false≢true (c.if-not-has_points.ensures.points.1 h)) c.requires

pub returns-in-len1 : goal.returns-in-len1
returns-in-len1 c = one_is_whole c.args.rects.now c.args.bounds.now no_rect c.eq.result c.eq.ensures c.in-len1.len_at_least c.in-len1.len_below
    (c.if-not-has_points.ensures.points.0 refl) c.requires

pub returns-in_default : goal.returns-in_default
returns-in_default c = (
  λ e. absurd (false≢true e),
  λ same. absurd (others_are_not c.args.rects.now c.args.bounds.now (inl c.in_default.len_below)
      (c.if-not-has_points.ensures.points.0 refl) c.requires same),
)

pub returns-in_default-2 : goal.returns-in_default-2
returns-in_default-2 c = (
  λ e. absurd (false≢true e),
  λ same. absurd (others_are_not c.args.rects.now c.args.bounds.now (inr c.in_default.len_at_least)
      (c.if-not-has_points.ensures.points.0 refl) c.requires same),
)
