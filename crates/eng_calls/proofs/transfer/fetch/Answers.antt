use Rattle.std.proofs.Common.{◌∙◌, ◌*◌, ◌<◌, ℕ, ap, arith, length, subst, sym}
use Rattle.std.proofs.lemmas.List.{length-take-le}
use Rattle.geom_base.specs.Points.{corner_of, width_of}
use Rattle.surf_obj.specs.Layout.{values_in}
use Rattle.surf_obj.specs.LayoutLaws.{length-values_in}
use Rattle.clip_obj.specs.Clip.{to_origin}
use Rattle.copy_port.specs.Laws.{keeps_all, keeps_then_keeps}
use Rattle.copy_port.specs.State.{surface_of}
use Rattle.eng_calls.proofs.BandLemmas.{band_height, band_within, part_fits, within_itself}
use Rattle.eng_calls.proofs.TransferLemmas.{all_read, band_in_target, next_read, none_read}
use Rattle.eng_calls.proofs.transfer.fetch.Goals as goal

pub loop-k-init : goal.loop-k-init
loop-k-init g c = record {
  keeps = keeps_all _;
  values = none_read (length c.args.room.now) c.args.part.now.rect (to_origin (corner_of c.args.part.now.rect)) c.args.part.now.layout.size
      (values_in c.args.part.now.layout c.args.bits.now) _;
}

pub fetch_rect-requires-clause-inside : goal.fetch_rect-requires-clause-inside
fetch_rect-requires-clause-inside g c =
    let t = c.args.part.now.target in
    rw (c.band_of-band.ensures, c.loop-k.invariant.keeps.shown) (band_in_target (g.P.Pictured.state c.args.port.now).shown t (length c.args.room.now)
    c.args.part.now.rect c.loop-k.k (subst (λ (n : ℕ). c.loop-k.k < n) c.band_count-count.ensures c.loop-k-test.true) c.requires.inside)

pub fetch_rect-requires-clause-within : goal.fetch_rect-requires-clause-within
fetch_rect-requires-clause-within g c =
    let r = c.args.part.now.rect in
    rw c.band_of-band.ensures (band_within (length c.args.room.now) r r c.loop-k.k c.requires.inside.points (within_itself r c.requires.inside.points)
    (subst (λ (n : ℕ). c.loop-k.k < n) c.band_count-count.ensures c.loop-k-test.true))

pub fetch_rect-requires-clause-count : goal.fetch_rect-requires-clause-count
fetch_rect-requires-clause-count g c =
    let r = c.args.part.now.rect in
    length-take-le _ c.loop-k.room (rw (c.band_size-size.ensures, c.loop-k.auto.room)
    (part_fits (length c.args.room.now) r r (within_itself r c.requires.inside.points) c.requires.room))
    ∙ c.band_size-size.ensures
    ∙ rw c.band_of-band.ensures (ap (λ (n : ℕ). width_of r * n) (sym (band_height (length c.args.room.now) r c.loop-k.k)))

pub loop-k-preserved : goal.loop-k-preserved
loop-k-preserved g c =
    let s = surface_of (g.P.Pictured.state c.args.port.now).shown c.args.part.now.target in
    let origin = to_origin (corner_of c.args.part.now.rect) in
    record {
      keeps = keeps_then_keeps _ _ _ _ c.loop-k.invariant.keeps c.in-Done.ensures.keeps;
      values = next_read (length c.args.room.now) c.args.part.now.rect c.loop-k.k origin origin c.args.part.now.layout.size s.size
          (values_in c.args.part.now.layout c.args.bits.now) _ _ s.values c.loop-k.invariant.values
          (rw (c.band_of-band.ensures, c.loop-k.invariant.keeps.shown) at c.in-Done.ensures.values);
    }

pub returns-clause-values : goal.returns-clause-values
returns-clause-values g c =
    let s = surface_of (g.P.Pictured.state c.args.port.now).shown c.args.part.now.target in
    all_read (length c.args.room.now) c.args.part.now.rect c.loop-k.k c.args.part.now.layout.size s.size (values_in c.args.part.now.layout c.args.bits.now) _
    s.values c.requires.inside.points c.requires.part.size (length-values_in c.args.part.now.layout c.args.bits.now)
    (omega (arith, c.band_count-count.ensures, c.loop-k.auto.k-end, c.loop-k-test.false)) c.loop-k.invariant.values
