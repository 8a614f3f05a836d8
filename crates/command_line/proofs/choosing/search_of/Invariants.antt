use Rattle.std.proofs.Common.{◌≡◌, ◌++◌, drop, flat_map, map}
use Rattle.std.specs.List.{list_all}
use Rattle.command_line.specs.Meanings.{is_searched, search_words}
use Rattle.command_line.proofs.choosing.search_of.Given as goal

-- the words so far and those of what is left are all of them, and what is left is searched where all is
abbrev pub invariant-loop-word : goal.invariant-loop-word
invariant-loop-word l = record {
  words : l.search ++ flat_map search_words (map (λ w. w.now) (drop l.word-index l.words))
      ≡ flat_map search_words (map (λ w. w.now) l.words);
  searched : list_all is_searched (map (λ w. w.now) (drop l.word-index l.words))
      ≡ list_all is_searched (map (λ w. w.now) l.words);
}
