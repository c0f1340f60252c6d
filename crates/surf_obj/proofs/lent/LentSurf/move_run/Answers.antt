use Rattle.std.proofs.Common.{◌≡◌, ◌∙◌, ◌+◌, ◌-◌, ℕ, refl, sym, ap, arith, add-zero, length}
use Rattle.geom_base.specs.Grid.{value_at}
use Rattle.geom_base.specs.Points.{point_at}
use Rattle.surf_obj.specs.Lent.{values_of}
use Rattle.surf_obj.specs.Runs.{copied}
use Rattle.surf_obj.proofs.LayoutLemmas.{values_in-fit}
use Rattle.surf_obj.proofs.PartLemmas.{copied-pixel, run-room, part-bytes, part-written, part-padding, past_first, whole-bytes}
use Rattle.surf_obj.proofs.lent.LentSurf.move_run.Goals as goal

no_less : (n : ℕ) → n - 0 ≡ n
no_less n = omega arith

pub move_bytes-requires-clause-room : goal.move_bytes-requires-clause-room
move_bytes-requires-clause-room c =
    let old = c.args.self.now in
    let whole = λ (n : ℕ). whole-bytes old.layout.format n c.requires.whole in
    run-room old.layout c.args.x c.args.y c.args.len c.place-at.result _ (length old.bits.now) old.holds (whole c.args.x) (whole c.args.len)
    c.requires.columns c.requires.row c.place-at.ensures (rw c.bits.ensures refl)

pub move_bytes-requires-clause-there : goal.move_bytes-requires-clause-there
move_bytes-requires-clause-there c =
    let old = c.args.self.now in
    let whole = λ (n : ℕ). whole-bytes old.layout.format n c.requires.whole in
    run-room old.layout c.args.from_x c.args.from_y c.args.len c.place-first.result _ (length old.bits.now) old.holds (whole c.args.from_x) (whole c.args.len)
    c.requires.source_columns c.requires.source_row c.place-first.ensures (rw c.bits.ensures refl)

pub returns-clause-values : goal.returns-clause-values
returns-clause-values c =
    let old = c.args.self.now in
    let f = old.layout.format in
    let whole = λ (n : ℕ). whole-bytes f n c.requires.whole in
    let change = copied old.layout.size (values_of old) (point_at c.args.from_x c.args.from_y) (point_at c.args.x c.args.y) in
    rw add-zero at (part-written old.layout old.bits.now c.move_bytes.new.bits c.args.x c.args.y 0 c.args.len c.place-at.result change old.holds.columns
    (whole (c.args.x + 0)) (omega arith) (whole (c.args.len - 0)) c.requires.columns c.requires.row (rw add-zero c.place-at.ensures)
    (λ k lo hi.
    rw (no_less k) (copied-pixel old.layout c.move_bytes.new.bits old.bits.now c.args.from_x c.args.from_y c.place-at.result c.place-first.result _ c.args.len k
    (whole c.args.from_x) (whole c.args.len) c.place-first.ensures
    (rw c.bits.ensures refl) c.move_bytes.ensures.values hi c.requires.source_columns c.requires.source_row)
    ∙ ap (λ i. value_at old.layout.size (values_of old) (c.args.from_x + i) c.args.from_y) (sym (past_first c.args.x k)))
    (part-bytes f (c.args.len - 0) c.place-at.result _ old.bits.now c.move_bytes.new.bits (whole (c.args.len - 0))
    (rw (no_less c.args.len, c.bits.ensures) refl) c.move_bytes.ensures.bytes))

pub returns-clause-only : goal.returns-clause-only
returns-clause-only c =
    let old = c.args.self.now in
    let f = old.layout.format in
    let whole = λ (n : ℕ). whole-bytes f n c.requires.whole in
    record {
      loan = refl;
      layout = refl;
      padding = part-padding old.layout old.bits.now c.move_bytes.new.bits c.args.x c.args.y 0 c.args.len c.place-at.result old.holds.columns
          (whole (c.args.x + 0)) (omega arith) (whole (c.args.len - 0)) c.requires.columns c.requires.row (rw add-zero c.place-at.ensures)
          (part-bytes f (c.args.len - 0) c.place-at.result _ old.bits.now c.move_bytes.new.bits (whole (c.args.len - 0))
          (rw (no_less c.args.len, c.bits.ensures) refl) c.move_bytes.ensures.bytes);
    }

pub returns-clause-fits : goal.returns-clause-fits
returns-clause-fits c k lt =
    let old = c.args.self.now in
    values_in-fit old.layout old.bits.now (c.args.from_x + k) c.args.from_y
    (omega (arith, lt, c.requires.source_columns)) c.requires.source_row c.move_bytes.ensures.items
