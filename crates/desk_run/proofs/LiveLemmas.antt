-- What can be run, one command after the other.
use Rattle.std.proofs.Common.{◌≡◌, ◌∙◌, ℕ, suc, ◌+◌, ◌<◌, List, length, get_or, drop, drop-cons, add-one, sym, ap, subst}
use Rattle.script_orders.specs.Live.{CanDo, CanRun, Live, after}
use Rattle.script_orders.specs.declared.script_command.ScriptCommand.{ScriptCommand}
use Rattle.copy_port.specs.State.{PortState}
use Rattle.desk_span.specs.Carries.{Carries}
use Rattle.desk_span.specs.Desk.{live_of}
use Rattle.desk_span.specs.Kept.{Kept, live_in, state_by}
use Rattle.desk_span.specs.LiveLaws.{live_after}
use Rattle.desk_span.specs.Reports.{Told}

-- the next command of a run can be carried out, and those behind it afterwards
pub run_next : (l : Live) (commands : List ScriptCommand) (i : ℕ) (c : ScriptCommand) → CanRun l (drop i commands) → i < length commands →
    c ≡ get_or commands i c → CanDo l c × CanRun (after c l) (drop (i + 1) commands)
run_next l commands i c can lt is =
    rw (add-one) (subst (λ (d : ScriptCommand). CanDo l d × CanRun (after d l) (drop (suc i) commands)) (sym is)
    (subst (CanRun l) (drop-cons commands i c lt) can))

pub can_rest : (c : ScriptCommand) (told : List Told) (k l : Kept) (from to : PortState) (rest : List ScriptCommand) → Carries k l c told from to →
    CanRun (after c (live_in k)) rest → CanRun (live_in l) rest
can_rest c told k l from to rest h can =
    subst (λ (live : Live). CanRun live rest) (sym (ap live_of h.shows ∙ live_after c told (state_by k from))) can
