use Rattle.std.proofs.Common.{◌≡◌, ◌∙◌, ◌++◌, false, refl, ap, subst, rules, w32, to_z, of_z}
use Rattle.std.proofs.lemmas.Int.{to_z-of_z}
use Rattle.region.specs.Operation.{holds_after}
use Rattle.region.specs.Columns.{column}
use Rattle.region.specs.InnerSweep.{IsPut}
use Rattle.region.specs.InnerSpanList.{steps_of, change}
use Rattle.region.proofs.UniqueLemmas.{on_ok_also}
use Rattle.region.proofs.SpanListLemmas.{turn_is_put}
use Rattle.region.proofs.span_list.SpanListOutputSpanCursor.put.Goals as goal

pub returns-clause-put : goal.returns-clause-put
returns-clause-put c =
    let place : to_z w32 (of_z w32 c.args.place) ≡ c.args.place = search (rules, to_z-of_z) in
    let value : c.holds.result ≡ holds_after c.args.operation c.args.a.now.inside c.args.b.now.inside =
    c.holds.ensures in
    on_ok_also _ _ c.turn.result (λ e steps same take. (
      steps_of c.turn.new.self,
      refl,
      subst (λ l. IsPut column (λ b. Unit {0}) false (λ x. holds_after c.args.operation c.args.a.now.inside c.args.b.now.inside) c.args.place l
          (steps_of c.turn.new.self)) same
          (subst (λ v. IsPut column (λ b. Unit {0}) false (λ x. v) c.args.place (steps_of c.args.self.now) (steps_of c.turn.new.self)) value
          (turn_is_put c.args.self.now c.turn.new.self c.holds.result c.args.place
          (e ∙ ap (λ z. steps_of c.args.self.now ++ change c.args.self.now.inside c.holds.result z) place))),
    )) c.turn.ensures.steps
