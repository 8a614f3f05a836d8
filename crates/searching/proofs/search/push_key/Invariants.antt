use Rattle.std.proofs.Common.{◌≡◌, ◌++◌, ◌∷◌, [], encode_utf8_all, string_bytes, take}
use Rattle.std.specs.List.{flat_map}
use Rattle.searching.specs.Scans.{items}
use Rattle.searching.proofs.search.push_key.Given as goal

abbrev pub invariant-each : goal.invariant-each
invariant-each l = string_bytes l.out
    ≡ string_bytes l.fn.out ++ flat_map (λ w. encode_utf8_all (items w) ++ 32 ∷ []) (take l.word-index l.words)
