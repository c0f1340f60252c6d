use Rattle.std.proofs.Common.{Ok, map, sym, ap, ◌∙◌}
use Rattle.script_names.specs.Names.{names_of}
use Rattle.script_read.proofs.RegionLemmas.{combined_found, finds}
use Rattle.script_read.proofs.regions.operated.Goals as goal

pub returns : goal.returns
returns c =
    let a = c.region-3.result.now in
    let b = c.region-4.result.now in
    rw c.in-Some.is (finds _ _ (combined_found c.in-Some.by (names_of c.args.names.now) (map (λ w. w.now) c.args.words.now) a b
    (rw c.word.ensures at c.in_ok-a.ensures.ok ∙ ap Ok (sym c.region-3.ensures.value))
    (rw c.word-2.ensures at c.in_ok-b.ensures.ok ∙ ap Ok (sym c.region-4.ensures.value)))
    (c.combined.ensures.canonical c.region-3.ensures.within c.region-4.ensures.within))
