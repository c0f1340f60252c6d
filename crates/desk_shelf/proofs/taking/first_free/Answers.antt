use Rattle.std.proofs.Common.{◌∙◌, below_more, ap, sym, subst, ◌<◌, ◌≤◌}
use Rattle.std.proofs.lemmas.List.{length-map}
use Rattle.desk_shelf.specs.Free.{is_free}
use Rattle.desk_shelf.specs.Shelf.{state_before}
use Rattle.desk_shelf.proofs.TakingLemmas.{found_first, found_none}
use Rattle.desk_shelf.proofs.taking.first_free.Goals as goal

pub loop-place-preserved : goal.loop-place-preserved
loop-place-preserved g c =
    below_more _ _ c.loop-place.invariant
    (ap (is_free c.args.wanted) (state_before _ c.args.shelf.now c.loop-place.place _ c.loop-place-test.true c.index-shelf-place.is)
    ∙ sym c.is_free.ensures ∙ c.if-is_free.false)

pub returns-then-is_free : goal.returns-then-is_free
returns-then-is_free g c =
    found_first c.args.wanted _ c.loop-place.place (subst (λ n. c.loop-place.place < n) (sym (length-map c.args.shelf.now _)) c.loop-place-test.true)
    c.loop-place.invariant
    (ap (is_free c.args.wanted) (state_before _ c.args.shelf.now c.loop-place.place _ c.loop-place-test.true c.index-shelf-place.is)
    ∙ sym c.is_free.ensures ∙ c.if-is_free.true)

pub returns : goal.returns
returns g c =
    found_none c.args.wanted _ c.loop-place.place
    (subst (λ n. n ≤ c.loop-place.place) (sym (length-map c.args.shelf.now _)) c.loop-place-test.false) c.loop-place.invariant
