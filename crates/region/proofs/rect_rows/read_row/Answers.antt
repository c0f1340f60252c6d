use Rattle.std.proofs.Common.{◌≡◌, ◌∙◌, ◌∷◌, get_or, ap, sym, refl, arith, rules, SFits, w32, to_z, of_z}
use Rattle.std.proofs.lemmas.Int.{to_z-of_z}
use Rattle.geom_base.specs.Points.{no_rect}
use Rattle.region.proofs.ScanLemmas.{first_of}
use Rattle.region.proofs.RectRowLemmas.{read_pushed}
use Rattle.region.proofs.rect_rows.read_row.Goals as goal

pub loop-rest-preserved : goal.loop-rest-preserved
loop-rest-preserved c =
    let rest = c.loop-rest.rest.now in
    let first = get_or rest 0 no_rect in
    let left_fits : SFits w32 first.left = search rules in
    let right_fits : SFits w32 first.right = search rules in
    let split : rest ≡ first ∷ c.split_at.result.1.now = first_of rest no_rect (omega (arith, c.in-len1-up.len_at_least))
    ∙ ap (λ u. first ∷ u) (sym c.split_at.ensures.back) in
    let pushed = rw c.in_ok-push.was at c.push.ensures.items in
    read_pushed c.args.row.now c.args.rects.now rest c.split_at.result.1.now c.loop-rest.spans.items c.push.new.self.items (to_z w32 c.loop-rest.end-bits)
    (to_z w32 (of_z w32 first.left)) (to_z w32 (of_z w32 first.right)) first c.loop-rest.invariant split (c.if-not-is_next.ensures refl) pushed
    (to_z-of_z w32 first.left left_fits) (to_z-of_z w32 first.right right_fits)
