use Rattle.std.proofs.Common.{◌≡◌, ◌∙◌, [], ap, sym, subst, take, rules, w32, to_z, of_z}
use Rattle.std.proofs.lemmas.Int.{to_z-of_z}
use Rattle.region.specs.Operation.{holds_after}
use Rattle.region.specs.Columns.{has_column}
use Rattle.region.specs.InnerColumns.{IsColumns}
use Rattle.region.specs.InnerCursor.{in_columns}
use Rattle.region.specs.InnerSweep.{CanTake, IsPut}
use Rattle.region.specs.InnerSpanList.{span_steps}
use Rattle.region.proofs.UniqueLemmas.{on_ok_also}
use Rattle.region.proofs.SpanListLemmas.{put_alike}
use Rattle.region.proofs.band_output.BandOutputOutputBandCursor.put.Goals as goal

pub put_row-requires-clause-columns : goal.put_row-requires-clause-columns
put_row-requires-clause-columns c = subst (λ l. IsColumns (span_steps l)) (sym c.spans.ensures) c.in_ok-combine.ensures.columns

pub returns-clause-put : goal.returns-clause-put
returns-clause-put c =
    let place : to_z w32 (of_z w32 c.args.place) ≡ c.args.place = search (rules, to_z-of_z) in
    on_ok_also _ _ c.put_row.result (λ f steps k taken.
    let p = f steps k (subst (λ z. CanTake IsColumns z steps) (sym place) taken) in (
      p.0,
      p.1,
      put_alike has_column IsColumns [] _ _ c.args.place steps p.0 (λ x. ap (λ l. has_column (span_steps l) x) c.spans.ensures
          ∙ c.in_ok-combine.ensures.points x
          ∙ ap (λ l. holds_after c.args.operation (in_columns x l) (in_columns x c.band-2.result.now)) c.band.ensures
          ∙ ap (λ l. holds_after c.args.operation (in_columns x (take c.args.a.now.here c.args.a.now.rects.now)) (in_columns x l)) c.band-2.ensures)
          (subst (λ z. IsPut has_column IsColumns [] (has_column (span_steps c.spans.result.now)) z steps p.0) place p.2),
    )) c.put_row.ensures.put
