use Rattle.std.proofs.Common.{◌≡◌, ◌++◌, take}
use Rattle.std.specs.List.{flat_map}
use Rattle.page_answers.specs.Likes.{like_in}
use Rattle.page_checks.specs.Rows.{of_new}
use Rattle.page_checks.proofs.rows.push_paths.Given as goal

abbrev pub invariant-each : goal.invariant-each
invariant-each l = l.out.items
    ≡ l.fn.out.items ++ flat_map (of_new (like_in l.likes) l.name) (take l.path-index l.news)
