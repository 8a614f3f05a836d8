-- The line of a record with its end.
use Rattle.std.specs.Prelude.{ℕ, List, ◌++◌, codes}
use Rattle.record_kinds.specs.declared.record.Record.{Record}
use Rattle.searching.specs.Lines as lines

abbrev pub head : ℕ → Record → List ℕ
head n r = lines.line n r ++ codes "\n"
