use Rattle.std.proofs.Common.{◌≡◌, List, take, ℕ}
use Rattle.std.specs.BTreeSet.{contains_text}
use Rattle.page_places.specs.News.{is_made}
use Rattle.page_places.proofs.news.insert_all.Given as goal

abbrev pub invariant-loop-path : goal.invariant-loop-path
invariant-loop-path l =
    (x : List ℕ) → contains_text l.made x ≡ is_made (contains_text l.fn.made) (take l.path-index l.paths) x
