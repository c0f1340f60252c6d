use Rattle.std.proofs.Common.{◌≡◌, ◌+◌, ◌++◌, take}
use Rattle.brush_obj.proofs.rbrush.RBrush.put_row.Given as goal

-- the values so far stand behind the old ones
abbrev pub invariant-loop-value : goal.invariant-loop-value
invariant-loop-value l = record {
  size : l.self.size ≡ l.initial.self.size;
  values : l.self.values ≡ l.initial.self.values ++ take l.value-index l.values;
  room : l.self.room + l.value-index ≡ l.initial.self.room;
}
