-- A source over a reader of the outside.
use Rattle.std.specs.Prelude.{ℕ}
use Rattle.desk_io.specs.declared.std_source.StdSource.{StdSource}

-- the reader below
abbrev pub reader_of : {R : Type 0} → StdSource R → R
reader_of source = source.reader

-- how many reads have failed
abbrev pub read_faults : {R : Type 0} → StdSource R → ℕ
read_faults source = source.faults
