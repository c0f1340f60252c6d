use Rattle.std.proofs.Common.{◌≡◌, ap, subst, length, ◌∙◌, rules}
use Rattle.std.proofs.lemmas.Bool.{false≢true}
use Rattle.geom_base.specs.Points.{is_in_some}
use Rattle.clip_obj.specs.Clip.{Clip}
use Rattle.clip_obj.specs.Complexity.{IsWhole}
use Rattle.clip_obj.proofs.clip.ClipObj.complexity.Goals as goal

pub returns-then-len-eq1 : goal.returns-then-len-eq1
returns-then-len-eq1 c = subst (λ (v : Clip). (IsWhole v → ⊥) × (length v.rects ≡ 1)) c.self.view_is (
  λ w. false≢true (c.if-fills_bounds.ensures.1 (λ p. ap (is_in_some p) c.deref.ensures.value ∙ w p)),
  search rules,
)

pub returns : goal.returns
returns c = subst (λ (v : Clip). (IsWhole v → ⊥) × (length v.rects ≡ 1 → ⊥)) c.self.view_is (
  λ w. false≢true (c.if-fills_bounds.ensures.1 (λ p. ap (is_in_some p) c.deref.ensures.value ∙ w p)),
  search rules,
)
