use Rattle.std.proofs.Common.{arith}
use Rattle.script_words.specs.LineLaws.{room_behind}
use Rattle.desk_run.proofs.input.read_input.Goals as goal

pub read_lines-requires : goal.read_lines-requires
read_lines-requires c =
    let found = c.in-Some.ensures in
    let room = room_behind _ _ c.args.bytes.now _ found.0 found.1 in
    omega (arith, room)
