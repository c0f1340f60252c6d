use Rattle.std.specs.Prelude.{◌<◌, ◌^◌}
use Rattle.std.specs.List.{All}
use Rattle.pix_format.specs.Value.{bits_of}
use Rattle.surf_obj.specs.Rects.{ReadsRect}
use Rattle.copy_port.specs.Port.{IfDone, Keeps}
use Rattle.copy_port.specs.State.{PortState, surface_of}
use Rattle.desk_shelf.specs.Shelf.{at_place, others_set}
use Rattle.desk_shelf.proofs.calls.read_at.Goals as goal

pub returns-clause-keeps : goal.returns-clause-keeps
returns-clause-keeps g c =
    at_place _ _ _ _ _ (λ (a b : PortState). Keeps a b c.read_port.result) c.requires.place c.index_mut.ensures.value c.read_port.ensures.keeps

pub returns-clause-values : goal.returns-clause-values
returns-clause-values g c =
    at_place _ _ _ _ c.read_port.new.driver (λ (a b : PortState). let s = surface_of a.shown c.args.target in
    IfDone c.read_port.result (ReadsRect c.args.rect s.size s.values c.read_port.new.out))
    c.requires.place c.index_mut.ensures.value c.read_port.ensures.values

pub returns-clause-fits : goal.returns-clause-fits
returns-clause-fits g c =
    at_place _ _ _ _ c.read_port.new.driver (λ (a b : PortState). let s = surface_of a.shown c.args.target in
    IfDone c.read_port.result (All (λ v. v < 2 ^ bits_of s.format) c.read_port.new.out))
    c.requires.place c.index_mut.ensures.value c.read_port.ensures.fits

pub returns-clause-others : goal.returns-clause-others
returns-clause-others g c = others_set _ _ _
