use Rattle.std.proofs.Common.{◌≡◌, ◌∙◌, ◌-◌, ℕ, List, ap, sym, subst, length, min, drop, rules}
use Rattle.std.proofs.lemmas.List.{drop-drop}
use Rattle.geom_base.specs.declared.rect.Rect.{Rect}
use Rattle.clip_obj.specs.InnerBand.{IsBand}
use Rattle.clip_obj.specs.Clip.{Clip}
use Rattle.clip_obj.specs.Order.{ordered}
use Rattle.clip_obj.proofs.SameLemmas.{clip_same, left_same}
use Rattle.clip_obj.proofs.BatchLemmas.{length-left, more_left}
use Rattle.clip_obj.proofs.clip.ClipObj.next_batch.Goals as goal

pub returns-clause-number : goal.returns-clause-number
returns-clause-number c =
    let long : c.len.result ≡ length c.self.inside.rects.items = search rules in
    c.min-len.ensures ∙ ap (λ (n : ℕ). min (length c.args.out.now) n)
    (ap (λ (n : ℕ). n - c.self.inside.done) long ∙ sym (length-left c.self.inside.direction c.self.inside.rects.items c.self.inside.done)
    ∙ ap (λ (v : Clip). length v.left) c.self.view_is)

pub returns-clause-more : goal.returns-clause-more
returns-clause-more c =
    let long : c.len.result ≡ length c.self.inside.rects.items = search rules in
    more_left c.self.inside.direction c.self.inside.rects.items c.self.inside.done c.min-len.result (c.len.result - c.self.inside.done)
    (ap (λ (n : ℕ). n - c.self.inside.done) long)

pub fill_batch-requires-clause-band : goal.fill_batch-requires-clause-band
fill_batch-requires-clause-band c =
    subst (λ (l : List Rect). IsBand l c.self.inside.band) (sym c.deref.ensures.value) c.self.invariant.3

pub invariant_of-self : goal.invariant_of-self
invariant_of-self c = (
  c.self.invariant.0,
  c.self.invariant.1,
  search rules,
  subst (λ (l : List Rect). IsBand l c.fill_batch.new.band) c.deref.ensures.value c.fill_batch.ensures.band,
)

pub returns-clause-rest : goal.returns-clause-rest
returns-clause-rest c =
    clip_same c.self.inside.bounds c.self.inside.rects.items _ _ c.self.inside.inside _ c.self.inside.apart
    ∙ left_same c.self.inside.bounds c.self.inside.rects.items _ _ c.self.inside.inside c.self.inside.apart
    (sym (drop-drop c.min-len.result c.self.inside.done (ordered c.self.inside.direction c.self.inside.rects.items)))
    ∙ ap (λ (v : Clip). record v { left = drop c.min-len.result v.left }) c.self.view_is
