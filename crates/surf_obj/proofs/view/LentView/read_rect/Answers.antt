use Rattle.std.proofs.Common.{◌∙◌, ◌^◌, length, ap, arith}
use Rattle.std.proofs.lemmas.List.{get_or_default}
use Rattle.geom_base.specs.declared.size.Size.{Size}
use Rattle.pix_format.specs.Value.{bits_of}
use Rattle.surf_obj.specs.RectLaws.{reads_rect}
use Rattle.surf_obj.specs.View.{view_values, view_size, view_format}
use Rattle.surf_obj.proofs.RectLemmas.{row_room, row_inside, row_wide, rows_read, rows_fit, every_place}
use Rattle.surf_obj.proofs.view.LentView.read_rect.Goals as goal

pub slice_bounds-read_row-end : goal.slice_bounds-read_row-end
slice_bounds-read_row-end c =
    row_room c.args.rect.now c.size-w.result.w c.loop-row.row c.size-w.result.h (length c.loop-row.out) c.loop-row-test.true
    (ap (λ (s : Size). s.h) c.size-w.ensures) (ap (λ (s : Size). s.w) c.size-w.ensures) (c.loop-row.auto.out ∙ c.requires.count)

pub read_row-requires : goal.read_row-requires
read_row-requires c =
    let room = row_room c.args.rect.now c.size-w.result.w c.loop-row.row c.size-w.result.h (length c.loop-row.out) c.loop-row-test.true
    (ap (λ (s : Size). s.h) c.size-w.ensures) (ap (λ (s : Size). s.w) c.size-w.ensures) (c.loop-row.auto.out ∙ c.requires.count) in
    row_inside c.args.rect.now (view_size c.args.self.now) c.first_of.result c.loop-row.row c.size-w.result.h _ c.requires.inside c.loop-row-test.true
    (ap (λ (s : Size). s.h) c.size-w.ensures) c.first_of.ensures (row_wide c.loop-row.out c.size-w.result.w c.loop-row.row room ∙ (ap (λ (s : Size). s.w) c.size-w.ensures))

pub loop-row-preserved : goal.loop-row-preserved
loop-row-preserved c =
    let room = row_room c.args.rect.now c.size-w.result.w c.loop-row.row c.size-w.result.h (length c.loop-row.out) c.loop-row-test.true
    (ap (λ (s : Size). s.h) c.size-w.ensures) (ap (λ (s : Size). s.w) c.size-w.ensures) (c.loop-row.auto.out ∙ c.requires.count) in
    record {
      values = rows_read c.args.rect.now (view_size c.args.self.now) (view_values c.args.self.now) c.loop-row.out c.read_row.new.out c.first_of.result
          c.size-w.result.w c.loop-row.row (ap (λ (s : Size). s.w) c.size-w.ensures) room c.read_row.auto.out c.first_of.ensures c.loop-row.invariant.values
          c.read_row.ensures.values;
      fits = rows_fit c.loop-row.out c.read_row.new.out c.size-w.result.w c.loop-row.row (2 ^ bits_of (view_format c.args.self.now)) room
          c.read_row.auto.out c.loop-row.invariant.fits c.read_row.ensures.fits;
    }

pub returns-clause-values : goal.returns-clause-values
returns-clause-values c =
    reads_rect c.args.rect.now (view_size c.args.self.now) (view_values c.args.self.now) c.loop-row.out (c.loop-row.auto.out ∙ c.requires.count)
    (λ x y hx hy. c.loop-row.invariant.values x y hx (omega (arith, hy, c.loop-row-test.false, (ap (λ (s : Size). s.h) c.size-w.ensures))))

pub returns-clause-fits : goal.returns-clause-fits
returns-clause-fits c k d lt =
    rw (get_or_default c.loop-row.out k d 0 lt) (c.loop-row.invariant.fits k (every_place c.args.rect.now c.size-w.result.w c.loop-row.row
    c.size-w.result.h k (length c.loop-row.out) c.loop-row-test.false (ap (λ (s : Size). s.h) c.size-w.ensures) (ap (λ (s : Size). s.w) c.size-w.ensures)
    (c.loop-row.auto.out ∙ c.requires.count) lt))
