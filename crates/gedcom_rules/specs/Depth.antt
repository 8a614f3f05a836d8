-- How many lines stand open after lines: one of each level down to that of the last one.
use Rattle.std.specs.Prelude.{ℕ, ◌+◌, ◌==◌, if◌then◌else◌}
use Rattle.gedcom_rules.specs.Rules.{Progress}

-- so many lines
abbrev pub depth : Progress → ℕ
depth p = if p.count == 0 then 0 else p.last + 1
