use Rattle.std.proofs.Common.{refl, sym}
use Rattle.copy_port.specs.declared.words.Kind.TheVariants.{Linear}
use Rattle.desk_shelf.specs.FreeLaws.{first_free_is}
use Rattle.desk_run.specs.Input.{checked_of}
use Rattle.desk_run.proofs.CallLemmas.{short_ends, was_run_ends}
use Rattle.desk_run.proofs.call.run_input.Goals as goal

pub run_at-requires-clause-disabled : goal.run_at-requires-clause-disabled
run_at-requires-clause-disabled g c =
    (first_free_is Linear _ c.in-Some.place (sym (rw c.deref.ensures.value at c.in-Some.ensures))).disabled

pub returns-in-Some : goal.returns-in-Some
returns-in-Some g c =
    let takes = sym (rw c.deref.ensures.value at c.in-Some.ensures) in
    record {
      ends = was_run_ends _ (checked_of c.args.input.now) c.requires.few c.in-Some.place c.args.shelf.now.items c.run_at.new.shelf.items takes
          c.run_at.ensures.others _ _ _ _ c.run_at.result c.run_at.ensures.run;
      others = rw takes c.run_at.ensures.others;
    }

pub returns-in-None : goal.returns-in-None
returns-in-None g c =
    let none = sym (rw c.deref.ensures.value at c.in-None.ensures) in
    record {
      ends = short_ends (checked_of c.args.input.now) _ _ c.say.result none refl (rw c.short_of_one.ensures at c.say.ensures);
      others = rw none refl;
    }
