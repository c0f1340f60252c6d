use Rattle.std.proofs.Common.{◌≡◌, ◌∙◌, ◌++◌, ◌∷◌, [], ap, sym, subst, map, drop, rules, w32, to_z, of_z}
use Rattle.std.proofs.lemmas.Int.{to_z-of_z}
use Rattle.region.specs.InnerColumns.{IsColumns}
use Rattle.region.specs.InnerSweep.{CanTake}
use Rattle.std.proofs.lemmas.Bool.{false≢true}
use Rattle.region.specs.InnerSpanList.{span_steps}
use Rattle.region.specs.InnerBandList.{IsKept}
use Rattle.region.specs.InnerSpanList.{span_of}
use Rattle.region.proofs.UniqueLemmas.{on_ok_also}
use Rattle.region.proofs.KeptLemmas.{kept_same, kept_differs}
use Rattle.region.proofs.band_list.BandList.put_row.Goals as goal

pub returns-then-have_spans-clause-put : goal.returns-then-have_spans-clause-put
returns-then-have_spans-clause-put c =
    let last = c.split_at.ensures.back ∙ ap (drop c.args.self.now.ended) c.deref.ensures.value in
    λ bands k take. (
      bands,
      k,
      kept_same c.args.self.now bands c.args.place c.args.spans.now k c.requires.columns
          (ap (map span_of) (sym last) ∙ c.have_spans.ensures.0 c.if-have_spans.true),
    )

pub returns-clause-put : goal.returns-clause-put
returns-clause-put c =
    let last = c.split_at.ensures.back ∙ ap (drop c.args.self.now.ended) c.deref.ensures.value in
    let place : to_z w32 (of_z w32 c.args.place) ≡ c.args.place = search (rules, to_z-of_z) in
    on_ok_also _ _ c.begin.result (λ kept bands k take. (
      bands ++ record { from = c.args.place; value = span_steps c.args.spans.now } ∷ [],
      subst (λ z. IsKept c.begin.new.self (bands ++ record { from = z; value = span_steps c.args.spans.now } ∷ [])) place
          (kept bands k (subst (λ z. CanTake IsColumns z bands) (sym place) take)),
      kept_differs c.args.self.now bands c.args.place c.args.spans.now k take c.requires.columns
          (λ e. false≢true (sym c.if-have_spans.false ∙ c.have_spans.ensures.1 (ap (map span_of) last ∙ e))),
    )) c.begin.ensures.kept
