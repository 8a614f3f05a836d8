-- How many nodes stand open after lines: one of each level down to that of the last one.
use Rattle.std.specs.Prelude.{◌≡◌, ℕ, ◌+◌, ◌==◌, false, if◌then◌else◌}
use Rattle.std.specs.Option.{option_map_or}
use Rattle.gedcom_rules.specs.Rules.{Progress, is_continued}

-- so many nodes: a continuation is none
abbrev pub node_depth : Progress → ℕ
node_depth p = if p.count == 0 then 0 else (if option_map_or (λ s. is_continued s.role)
    (p.above p.last) false then p.last else p.last + 1)

-- so many are, until the trailer stands
abbrev pub IsDeep : Progress → ℕ → Type 0
IsDeep p n = p.done ≡ false → n ≡ node_depth p
