use Rattle.std.proofs.Common.{◌∙◌, ◌*◌, ◌<◌, ℕ, ap, arith, length, subst, sym}
use Rattle.std.proofs.lemmas.List.{length-take-le}
use Rattle.geom_base.specs.Points.{corner_of, width_of}
use Rattle.surf_obj.specs.Layout.{values_in}
use Rattle.copy_port.specs.Laws.{draws_nowhere}
use Rattle.eng_calls.proofs.BandLemmas.{band_height, band_within, first_none, part_fits, within_itself}
use Rattle.eng_calls.proofs.TransferLemmas.{band_ended, band_in_target, band_stopped, in_target_after, next_band, part_after}
use Rattle.eng_calls.proofs.transfer.store_rect.Goals as goal

pub loop-k-init : goal.loop-k-init
loop-k-init g c = draws_nowhere _ _ _ _ _ _ (first_none (length c.args.room.now) c.args.rect.now)

pub slice_bounds-store_band-end : goal.slice_bounds-store_band-end
slice_bounds-store_band-end g c =
    rw (c.band_size-size.ensures, c.loop-k.auto.room)
    (part_fits (length c.args.room.now) c.args.rect.now c.args.rect.now (within_itself c.args.rect.now c.requires.inside.points) c.requires.room)

pub slice_bounds-store_band-end-in-loop-k : goal.slice_bounds-store_band-end-in-loop-k
slice_bounds-store_band-end-in-loop-k g c =
    sym (length-take-le _ c.loop-k.room (rw (c.band_size-size.ensures, c.loop-k.auto.room)
    (part_fits (length c.args.room.now) c.args.rect.now c.args.rect.now (within_itself c.args.rect.now c.requires.inside.points) c.requires.room)))

pub store_band-requires-clause-part : goal.store_band-requires-clause-part
store_band-requires-clause-part g c = part_after _ _ _ _ _ _ _ _ _ c.args.part.now c.loop-k.invariant c.requires.part

pub store_band-requires-clause-inside : goal.store_band-requires-clause-inside
store_band-requires-clause-inside g c =
    let t = c.args.part.now.target in
    rw c.band_of-band.ensures (band_in_target _ t (length c.args.room.now) c.args.rect.now c.loop-k.k
    (subst (λ (n : ℕ). c.loop-k.k < n) c.band_count-count.ensures c.loop-k-test.true)
    (in_target_after _ t _ _ _ _ _ _ _ _ c.args.rect.now c.loop-k.invariant c.requires.inside))

pub store_band-requires-clause-within : goal.store_band-requires-clause-within
store_band-requires-clause-within g c =
    rw c.band_of-band.ensures (band_within (length c.args.room.now) c.args.part.now.rect c.args.rect.now c.loop-k.k c.requires.inside.points c.requires.within
    (subst (λ (n : ℕ). c.loop-k.k < n) c.band_count-count.ensures c.loop-k-test.true))

pub store_band-requires-clause-count : goal.store_band-requires-clause-count
store_band-requires-clause-count g c =
    length-take-le _ c.loop-k.room (rw (c.band_size-size.ensures, c.loop-k.auto.room)
    (part_fits (length c.args.room.now) c.args.rect.now c.args.rect.now (within_itself c.args.rect.now c.requires.inside.points) c.requires.room))
    ∙ c.band_size-size.ensures
    ∙ rw c.band_of-band.ensures (ap (λ (n : ℕ). width_of c.args.rect.now * n) (sym (band_height (length c.args.room.now) c.args.rect.now c.loop-k.k)))

pub returns-in_default : goal.returns-in_default
returns-in_default g c =
    band_stopped _ _ (length c.args.room.now) c.args.rect.now c.loop-k.k _ _ _ _ _ c.in_default.not-Done c.requires.inside.points
    (subst (λ (n : ℕ). c.loop-k.k < n) c.band_count-count.ensures c.loop-k-test.true)
    (next_band c.args.part.now.target (corner_of c.args.part.now.rect) c.args.part.now.layout.size (values_in c.args.part.now.layout c.args.bits.now)
    _ _ _ _ _ _ (length c.args.room.now) c.args.rect.now c.loop-k.k _ c.loop-k.invariant (rw c.band_of-band.ensures at c.store_band.ensures))

pub loop-k-preserved : goal.loop-k-preserved
loop-k-preserved g c =
    next_band c.args.part.now.target (corner_of c.args.part.now.rect) c.args.part.now.layout.size (values_in c.args.part.now.layout c.args.bits.now)
    _ _ _ _ _ _ (length c.args.room.now) c.args.rect.now c.loop-k.k _ c.loop-k.invariant (rw c.band_of-band.ensures at c.in-Done.ensures)

pub returns : goal.returns
returns g c =
    band_ended _ _ (length c.args.room.now) c.args.rect.now c.loop-k.k _ _ _ _ c.requires.inside.points
    (omega (arith, c.band_count-count.ensures, c.loop-k.auto.k-end, c.loop-k-test.false)) c.loop-k.invariant
