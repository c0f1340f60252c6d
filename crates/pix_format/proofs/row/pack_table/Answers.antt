use Rattle.std.proofs.Common.{◌∙◌, ℕ, arith, refl, ap}
use Rattle.std.proofs.lemmas.Simd.{get_or-replicate}
use Rattle.pix_format.specs.Colour.{nearest}
use Rattle.pix_format.proofs.row.pack_table.Goals as goal

pub loop-i-init : goal.loop-i-init
loop-i-init c = record {
  done = λ k h. absurd (omega (arith, h));
  rest = λ k h. refl;
  kept = record {
    each = λ j h. rw (get_or-replicate {A = ℕ} 64 j _ 0 h, get_or-replicate {A = ℕ} 64 j _ 0 h)
        (c.nearest-index.ensures.index ∙ ap (nearest c.args.table.now) c.unpacked888.ensures);
  };
}
