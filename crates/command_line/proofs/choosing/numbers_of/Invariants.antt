use Rattle.std.proofs.Common.{◌≡◌, ◌++◌, drop, flat_map, map}
use Rattle.std.specs.List.{list_all}
use Rattle.command_line.specs.Meanings.{is_number, numbers_in}
use Rattle.command_line.proofs.choosing.numbers_of.Given as goal

-- the numbers so far and those of what is left are all of them, and what is left gives numbers if all does
abbrev pub invariant-loop-word : goal.invariant-loop-word
invariant-loop-word l = record {
  numbers : l.numbers.items ++ flat_map numbers_in (map (λ w. w.now) (drop l.word-index l.words))
      ≡ flat_map numbers_in (map (λ w. w.now) l.words);
  given : list_all is_number (map (λ w. w.now) (drop l.word-index l.words))
      ≡ list_all is_number (map (λ w. w.now) l.words);
}
