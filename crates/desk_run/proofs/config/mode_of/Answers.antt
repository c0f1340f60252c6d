use Rattle.std.proofs.Common.{◌≡◌, ℕ, ap, refl}
use Rattle.bitflags.specs.Sets.{known_from}
use Rattle.desk_run.specs.Config.{all_classes, all_hooks}
use Rattle.desk_run.proofs.config.mode_of.Goals as goal

pub returns-clause-mode : goal.returns-clause-mode
unfolding known_from
returns-clause-mode c =
    let hooks : c.all.result ≡ all_hooks = ap (λ (n : ℕ). record { 0 = n }) (c.all.ensures tt) in
    let classes : c.all-2.result ≡ all_classes = ap (λ (n : ℕ). record { 0 = n }) (c.all-2.ensures tt) in
    rw (c.in_ok-standard.ensures.colours, hooks, classes, c.of.ensures, c.in_ok-vec.ensures.items, c.of-2.ensures, c.new.ensures.items) refl
