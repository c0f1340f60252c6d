use Rattle.std.proofs.Common.{◌≡◌, ◌∙◌, ◌++◌, ◌∷◌, [], ap, rules, w32, to_z, of_z}
use Rattle.std.proofs.lemmas.Int.{to_z-of_z}
use Rattle.region.specs.InnerSpanList.{begun_step, span_steps}
use Rattle.region.proofs.SpanListLemmas.{turned_on, turned_off}
use Rattle.region.proofs.span_list.SpanList.turn.Goals as goal
use Rattle.region.proofs.span_list.SpanList.turn.Goals.{then-inside, else-inside+in_ok-push}

pub returns-clause-steps : goal.returns-clause-steps
returns-clause-steps c =
    let place : to_z w32 (of_z w32 c.args.place) ≡ c.args.place = search (rules, to_z-of_z) in
    elim c.if-inside.branch [
      | then-inside w ↦
          ap (λ l. span_steps l.spans.items ++ begun_step c.args.inside l.left) w.self-is
          ∙ ap (λ z. span_steps c.args.self.now.spans.items ++ begun_step c.args.inside z) place
          ∙ turned_on c.args.self.now.spans.items c.args.self.now.left c.args.place c.args.self.now.inside c.args.inside w.if-inside.true
          c.if-inside-self.false
      | else-inside+in_ok-push w ↦
          let left : to_z w32 (of_z w32 c.args.self.now.left) ≡ c.args.self.now.left = search (rules, to_z-of_z) in
          ap (λ l. span_steps l.spans.items ++ begun_step c.args.inside l.left) w.self-is
          ∙ turned_off c.args.self.now.spans.items w.push.new.self.items c.args.self.now.left c.args.place c.args.self.now.inside c.args.inside
          w.if-inside.false c.if-inside-self.false
          (rw w.in_ok-push.was at w.push.ensures.items ∙ ap (λ z. c.args.self.now.spans.items ++ record { left = z; right = to_z w32 (of_z w32 c.args.place) } ∷ []) left
          ∙ ap (λ z. c.args.self.now.spans.items ++ record { left = c.args.self.now.left; right = z } ∷ []) place)
    ]
