-- What an index tells the lines of records.
use Rattle.std.specs.Prelude.{ℕ, List}
use Rattle.record_shapes.specs.Shapes.{Around}
use Rattle.gedcom_export.specs.Names.{name_with}
use Rattle.gedcom_export.specs.Index.{Index, letter_in}
use Rattle.gedcom_export.specs.Owned.{sides_by}
use Rattle.gedcom_export.specs.Paths.{path_in}

-- the cross reference of a number
abbrev pub names_in : Index → ℕ → List ℕ
names_in i n = name_with (letter_in i n) n

abbrev pub around_in : Index → Around
around_in i = record {
  path = path_in i;
  child_in = λ n. sides_by n i.child_in;
  partner_in = λ n. sides_by n i.partner_in;
}
