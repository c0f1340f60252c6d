use Rattle.std.proofs.Common.{◌∙◌, ◌^◌, ◌<◌, length, ap, All, ℕ}
use Rattle.std.proofs.lemmas.List.Elements.{All-take, All-drop}
use Rattle.geom_base.specs.Points.{is_in}
use Rattle.geom_base.specs.Step.{redrawn}
use Rattle.geom_base.specs.declared.size.Size.{Size}
use Rattle.pix_format.specs.Value.{bits_of}
use Rattle.surf_obj.specs.Lent.{values_of, size_of, format_of}
use Rattle.surf_obj.specs.LentLaws.{OnlyPixels-refl, OnlyPixels-trans, OnlyPixels-size, OnlyPixels-format, length-values_of}
use Rattle.surf_obj.specs.Rects.{with_values}
use Rattle.surf_obj.proofs.RectLemmas.{row_room, row_inside, row_wide, no_row, all_rows, row_written}
use Rattle.surf_obj.proofs.lent.LentSurf.write_rect.Goals as goal

pub loop-row-init : goal.loop-row-init
loop-row-init c = record {
  values = no_row c.args.rect.now (size_of c.args.self.now) (values_of c.args.self.now) c.args.values.now (length-values_of c.args.self.now);
  only = OnlyPixels-refl c.args.self.now;
}

pub slice_bounds-write_row-end : goal.slice_bounds-write_row-end
slice_bounds-write_row-end c =
    row_room c.args.rect.now c.size-w.result.w c.loop-row.row c.size-w.result.h (length c.args.values.now) c.loop-row-test.true
    (ap (λ (s : Size). s.h) c.size-w.ensures) (ap (λ (s : Size). s.w) c.size-w.ensures) c.requires.count

pub write_row-requires-clause-inside : goal.write_row-requires-clause-inside
write_row-requires-clause-inside c =
    let room = row_room c.args.rect.now c.size-w.result.w c.loop-row.row c.size-w.result.h (length c.args.values.now) c.loop-row-test.true
    (ap (λ (s : Size). s.h) c.size-w.ensures) (ap (λ (s : Size). s.w) c.size-w.ensures) c.requires.count in
    rw (OnlyPixels-size c.args.self.now c.loop-row.self c.loop-row.invariant.only)
    (row_inside c.args.rect.now (size_of c.args.self.now) c.first_of.result c.loop-row.row c.size-w.result.h _ c.requires.inside c.loop-row-test.true
    (ap (λ (s : Size). s.h) c.size-w.ensures) c.first_of.ensures (row_wide c.args.values.now c.size-w.result.w c.loop-row.row room ∙ (ap (λ (s : Size). s.w) c.size-w.ensures)))

pub write_row-requires-clause-fits : goal.write_row-requires-clause-fits
write_row-requires-clause-fits c =
    let P = λ (v : ℕ). v < 2 ^ bits_of (format_of c.loop-row.self) in
    let fits : All P c.args.values.now = rw (OnlyPixels-format c.args.self.now c.loop-row.self c.loop-row.invariant.only) c.requires.fits in
    All-take P _ _ (All-drop P _ _ fits)

pub loop-row-preserved : goal.loop-row-preserved
loop-row-preserved c =
    let old = c.args.self.now in
    let room = row_room c.args.rect.now c.size-w.result.w c.loop-row.row c.size-w.result.h (length c.args.values.now) c.loop-row-test.true
    (ap (λ (s : Size). s.h) c.size-w.ensures) (ap (λ (s : Size). s.w) c.size-w.ensures) c.requires.count in
    record {
      values = row_written c.args.rect.now (size_of old) (size_of c.loop-row.self) (values_of old) (values_of c.loop-row.self) (values_of c.write_row.new.self)
          c.args.values.now c.first_of.result c.size-w.result.w c.loop-row.row _ (length-values_of old) c.requires.inside
          (OnlyPixels-size old c.loop-row.self c.loop-row.invariant.only) (ap (λ (s : Size). s.w) c.size-w.ensures) c.first_of.ensures
          (row_wide c.args.values.now c.size-w.result.w c.loop-row.row room) c.loop-row.invariant.values c.write_row.ensures.values;
      only = OnlyPixels-trans old c.loop-row.self c.write_row.new.self c.loop-row.invariant.only c.write_row.ensures.only;
    }

pub returns-clause-values : goal.returns-clause-values
returns-clause-values c =
    c.loop-row.invariant.values
    ∙ ap (λ r. redrawn (size_of c.args.self.now) (values_of c.args.self.now) (λ p. is_in p r) (with_values c.args.rect.now c.args.values.now))
    (all_rows c.args.rect.now (size_of c.args.self.now) c.loop-row.row c.size-w.result.h c.requires.inside c.loop-row-test.false
    c.loop-row.auto.row-end (ap (λ (s : Size). s.h) c.size-w.ensures))
