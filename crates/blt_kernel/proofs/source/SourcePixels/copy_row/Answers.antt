use Rattle.std.proofs.Common.{◌∙◌, ◌<◌, ◌^◌, ℕ, subst, arith}
use Rattle.std.proofs.lemmas.Int.{ints}
use Rattle.pix_format.specs.Value.{bits_of}
use Rattle.surf_obj.specs.Lent.{size_of, format_of, values_of}
use Rattle.surf_obj.specs.View.{view_size, view_values}
use Rattle.surf_obj.specs.LentLaws.{length-values_of}
use Rattle.blt_kernel.proofs.ShiftLemmas.{value_along}
use Rattle.blt_kernel.proofs.CopyLemmas.{copied_across}
use Rattle.blt_kernel.proofs.source.SourcePixels.copy_row.Goals as goal

pub returns-in-Some-clause-values : goal.returns-in-Some-clause-values
returns-in-Some-clause-values c =
    rw c.in-Some.is (rw (c.at-from.ensures, c.at-at.ensures) at c.copy_row.ensures.values
    ∙ copied_across (size_of c.args.dst.now) (values_of c.args.dst.now) c.args.self.now.shift (view_size c.in-Some.view.now)
    (view_values c.in-Some.view.now) c.args.x c.args.y c.args.len c.column.result c.row.result
    (length-values_of c.args.dst.now) c.column.ensures.value c.row.ensures.value)

pub returns-in-None-clause-values : goal.returns-in-None-clause-values
returns-in-None-clause-values c =
    rw c.in-None.is (rw (c.at-from.ensures, c.at-at.ensures) at c.move_row.ensures.values
    ∙ copied_across (size_of c.args.dst.now) (values_of c.args.dst.now) c.args.self.now.shift (size_of c.args.dst.now)
    (values_of c.args.dst.now) c.args.x c.args.y c.args.len c.column.result c.row.result
    (length-values_of c.args.dst.now) c.column.ensures.value c.row.ensures.value)

pub returns-in-Some-clause-fits : goal.returns-in-Some-clause-fits
returns-in-Some-clause-fits c k h =
    rw c.in-Some.is (subst (λ (v : ℕ). v < 2 ^ bits_of (format_of c.args.dst.now))
    (value_along c.args.self.now.shift (view_size c.in-Some.view.now)
    (view_values c.in-Some.view.now) c.args.x c.args.y k c.column.result c.row.result c.column.ensures.value c.row.ensures.value)
    (rw c.at-from.ensures at (c.copy_row.ensures.fits k h)))

pub returns-in-None-clause-fits : goal.returns-in-None-clause-fits
returns-in-None-clause-fits c k h =
    rw c.in-None.is (subst (λ (v : ℕ). v < 2 ^ bits_of (format_of c.args.dst.now))
    (value_along c.args.self.now.shift (size_of c.args.dst.now)
    (values_of c.args.dst.now) c.args.x c.args.y k c.column.result c.row.result c.column.ensures.value c.row.ensures.value)
    (rw c.at-from.ensures at (c.move_row.ensures.fits k h)))

pub copy_row-requires-clause-source : goal.copy_row-requires-clause-source
copy_row-requires-clause-source c =
    let there = rw c.in-Some.is at c.requires.there in
    let column = c.column.ensures.value in
    let row = c.row.ensures.value in
    rw c.at-from.ensures (record {
      left = omega (arith, ints);
      across = omega (arith, ints);
      right = omega (arith, ints, there.to_right);
      top = omega (arith, ints);
      down = omega (arith, ints);
      bottom = omega (arith, ints, there.to_bottom);
    })
