-- An attribute of a tag, as contracts see it.
use Rattle.std.specs.Prelude.{ℕ, List}
use Rattle.html_text.specs.declared.names.Name.{Name}

pub record Attribute : Type 0 where
  pub name : Name
  pub value : List ℕ
