use Rattle.std.proofs.Common.{◌∙◌, ◌≡◌, sym, true, false, rules, refl}
use Rattle.desk_run.proofs.CallLemmas.{form_input, no_input, size_answered, usage_answered}
use Rattle.desk_run.proofs.call.run_desktop.Goals as goal

pub returns-in-Err-Size-clause-answered : goal.returns-in-Err-Size-clause-answered
returns-in-Err-Size-clause-answered g c bytes left =
    let comes = rw c.in-Err-Size.field-0-is at c.in-Err-Size.ensures in
    let in_form : c.is_run.result ≡ true = search rules in
    size_answered _ _ bytes _ (form_input _ bytes (sym c.is_run.ensures ∙ in_form)) (comes.bytes bytes left).0 comes.count refl c.say-in-Err-Size.ensures

pub returns-then-not-is_run-clause-answered : goal.returns-then-not-is_run-clause-answered
returns-then-not-is_run-clause-answered g c bytes left =
    let no_form : c.is_run.result ≡ false = search rules in
    usage_answered _ _ c.say.result (no_input _ bytes (sym c.is_run.ensures ∙ no_form)) refl refl refl c.say.ensures
