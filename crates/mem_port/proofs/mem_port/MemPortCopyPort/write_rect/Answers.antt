use Rattle.std.proofs.Common.{◌∙◌, ap, arith, sym}
use Rattle.geom_base.specs.Points.{is_in}
use Rattle.copy_port.specs.Laws.{draws_rect}
use Rattle.copy_port.specs.State.{drawn_on}
use Rattle.surf_obj.specs.Rects.{with_values}
use Rattle.mem_port.specs.Calls.{breaks_at, fails_at}
use Rattle.mem_port.specs.Rows.{row_of}
use Rattle.mem_port.specs.Port.{rest_of}
use Rattle.mem_port.proofs.PortLemmas.{broken_draws, drawn_part, fault_draws, holds_at, part_broken, part_failed, part_whole}
use Rattle.mem_port.proofs.PortLemmas.{pushed_failed, pushed_part, rose_before, rose_of, row_within, same_shown}
use Rattle.mem_port.proofs.mem_port.MemPortCopyPort.write_rect.Goals as goal

pub returns-then-fails_now-clause-draws : goal.returns-then-fails_now-clause-draws
returns-then-fails_now-clause-draws c =
    let h = c.fails_now.ensures.counted in
    fault_draws _ _ _ _ _ _ _ _ _ _ _ _ _ _ _ h.screen h.bitmap h.cuts h.later (rose_of _ _ _ c.if-fails_now.true h.faults)

pub returns-then-holds-clause-draws : goal.returns-then-holds-clause-draws
returns-then-holds-clause-draws c =
    let h = c.fails_now.ensures.counted in
    let k = c.count_fault.ensures in
    broken_draws _ _ _ _ _ _ _ _ _ _ c.write_row.ensures.draws (same_shown _ _ _ _ (k.same.screen ∙ h.screen) (k.same.bitmap ∙ h.bitmap))
    (ap rest_of (k.same.cuts ∙ h.cuts)) (omega (arith, h.later, k.later))
    (rose_before _ _ _ h.later k.count) (λ p i. row_within _ p c.requires.inside.points i) c.args.self.now.least

pub returns-clause-draws : goal.returns-clause-draws
returns-clause-draws c =
    let h = c.fails_now.ensures.counted in
    draws_rect _ _ _ _ _ _ _ _
    (c.set_rect.ensures.shown ∙ ap (drawn_on c.args.target (with_values c.args.rect c.args.from.now) (λ p. is_in p c.args.rect))
    (same_shown _ _ _ _ h.screen h.bitmap))
    (ap rest_of (c.set_rect.ensures.same.cuts ∙ h.cuts)) (omega (arith, h.later, c.set_rect.ensures.same.faults)) c.args.self.now.least
    c.push.ensures.rects c.push.ensures.points c.push.ensures.spare c.push.ensures.room

pub returns-then-fails_now-clause-exact : goal.returns-then-fails_now-clause-exact
returns-then-fails_now-clause-exact c =
    let p = c.args.self.now in
    let r = c.args.rect in
    let h = c.fails_now.ensures.counted in
    part_failed (fails_at p) (breaks_at p) c.args.target (with_values r c.args.from.now) r _ _
    (sym c.fails_now.ensures.which ∙ c.if-fails_now.true) (same_shown _ _ _ _ h.screen h.bitmap)

pub returns-then-fails_now-clause-pushed : goal.returns-then-fails_now-clause-pushed
returns-then-fails_now-clause-pushed c =
    let p = c.args.self.now in
    pushed_failed (fails_at p) (breaks_at p) c.args.rect _ (sym c.fails_now.ensures.which ∙ c.if-fails_now.true)

pub returns-then-holds-clause-exact : goal.returns-then-holds-clause-exact
returns-then-holds-clause-exact c =
    let p = c.args.self.now in
    let r = c.args.rect in
    let h = c.fails_now.ensures.counted in
    let k = c.count_fault.ensures.same in
    drawn_part (fails_at p) (breaks_at p) r (row_of r) c.args.target (with_values r c.args.from.now) _ _
    (part_broken (fails_at p) (breaks_at p) r (sym c.fails_now.ensures.which ∙ c.if-fails_now.false)
    (sym (holds_at _ _ _ _ h.calls h.breaks) ∙ sym c.holds.ensures ∙ c.if-holds.true))
    (c.write_row.ensures.shown ∙ ap (drawn_on c.args.target (with_values r c.args.from.now) (λ q. is_in q (row_of r)))
    (same_shown _ _ _ _ (k.screen ∙ h.screen) (k.bitmap ∙ h.bitmap)))

pub returns-then-holds-clause-pushed : goal.returns-then-holds-clause-pushed
returns-then-holds-clause-pushed c =
    let p = c.args.self.now in
    let r = c.args.rect in
    let h = c.fails_now.ensures.counted in
    let e = sym c.fails_now.ensures.which ∙ c.if-fails_now.false in
    pushed_part (fails_at p) (breaks_at p) r (row_of r) _ _ e
    (part_broken (fails_at p) (breaks_at p) r e (sym (holds_at _ _ _ _ h.calls h.breaks) ∙ sym c.holds.ensures ∙ c.if-holds.true)) c.write_row.ensures.rects

pub returns-clause-exact : goal.returns-clause-exact
returns-clause-exact c =
    let p = c.args.self.now in
    let r = c.args.rect in
    let h = c.fails_now.ensures.counted in
    drawn_part (fails_at p) (breaks_at p) r r c.args.target (with_values r c.args.from.now) _ _
    (part_whole (fails_at p) (breaks_at p) r (sym c.fails_now.ensures.which ∙ c.if-fails_now.false)
    (sym (holds_at _ _ _ _ h.calls h.breaks) ∙ sym c.holds.ensures ∙ c.if-holds.false))
    (c.set_rect.ensures.shown ∙ ap (drawn_on c.args.target (with_values r c.args.from.now) (λ q. is_in q r))
    (same_shown _ _ _ _ h.screen h.bitmap))

pub returns-clause-pushed : goal.returns-clause-pushed
returns-clause-pushed c =
    let p = c.args.self.now in
    let r = c.args.rect in
    let h = c.fails_now.ensures.counted in
    let e = sym c.fails_now.ensures.which ∙ c.if-fails_now.false in
    pushed_part (fails_at p) (breaks_at p) r r _ _ e
    (part_whole (fails_at p) (breaks_at p) r e (sym (holds_at _ _ _ _ h.calls h.breaks) ∙ sym c.holds.ensures ∙ c.if-holds.false)) c.push.ensures.rects
