use Rattle.std.proofs.Common.{◌≡◌, ◌++◌, string_bytes, take}
use Rattle.std.specs.List.{flat_map}
use Rattle.page_checks.specs.Rows.{of_like}
use Rattle.page_checks.proofs.rows.push_likes.Given as goal

abbrev pub invariant-each : goal.invariant-each
invariant-each l = l.out.items
    ≡ l.fn.out.items ++ flat_map (λ path. of_like l.name (string_bytes path)) (take l.path-index l.found)
