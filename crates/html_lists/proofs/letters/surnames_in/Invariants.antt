use Rattle.std.proofs.Common.{◌≡◌, drop}
use Rattle.std.specs.Prelude.{fold}
use Rattle.std.specs.FinMap.{get}
use Rattle.std.specs.List.{flat_map}
use Rattle.html_lists.specs.Letters.{arranged, surnames_of, texts, with_surname}
use Rattle.html_lists.proofs.letters.surnames_in.Given as goal

abbrev pub invariant-each : goal.invariant-each
invariant-each l = fold with_surname (texts l.found)
    (flat_map (λ n. surnames_of (get l.library.records n)) (drop l.number-index l.numbers))
    ≡ arranged (flat_map (λ n. surnames_of (get l.library.records n)) l.numbers)
