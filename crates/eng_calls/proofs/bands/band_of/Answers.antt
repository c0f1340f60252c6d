use Rattle.std.proofs.Common.{◌+◌, ◌*◌, ◌+ℤ◌, ◌≤ℤ◌, FitsSigned, arith, pos, rules, w32}
use Rattle.std.proofs.lemmas.Int.{ints, to_z-of_z}
use Rattle.geom_base.specs.PointLaws.{same_edges}
use Rattle.eng_calls.specs.InnerBands.{band_of, band_rows}
use Rattle.eng_calls.proofs.BandLemmas.{band_bottom, band_top, bottom_fits, next_end, row_end}
use Rattle.eng_calls.proofs.bands.band_of.Goals as goal

pub overflow_add-result : goal.overflow_add-result
overflow_add-result c =
    let r = c.args.rect.now in
    let rows = band_rows c.args.room r in
    let end = row_end c.args.room r c.args.k c.requires.band in
    let fits : FitsSigned w32 r.bottom = search rules in
    let to : (r.top +ℤ pos ((c.args.k + 1) * rows)) ≤ℤ r.bottom = omega (arith, ints, end, c.requires.down) in
    rw c.band_rows-rows.ensures (bottom_fits r.top r.bottom c.args.k rows c.requires.top to fits)

pub returns : goal.returns
returns c =
    let r = c.args.rect.now in
    let k = c.args.k in
    let rows = band_rows c.args.room r in
    let end = row_end c.args.room r k c.requires.band in
    let next = next_end k rows in
    let fits : FitsSigned w32 r.bottom = search rules in
    let to : (r.top +ℤ pos ((k + 1) * rows)) ≤ℤ r.bottom = omega (arith, ints, end, c.requires.down) in
    let from : (r.top +ℤ pos (k * rows)) ≤ℤ r.bottom = omega (arith, ints, to, next) in
    same_edges _ (band_of c.args.room r k) (grind (arith, ints, to_z-of_z))
    (rw c.band_rows-rows.ensures (band_top r.top r.bottom (k * rows) c.requires.top from fits)) (grind (arith, ints, to_z-of_z))
    (rw c.band_rows-rows.ensures (band_bottom r.top r.bottom k rows c.requires.top to fits))
