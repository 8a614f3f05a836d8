use Rattle.std.specs.BTreeSet.{contains_text}
use Rattle.std.proofs.Common.{◌≡◌, ◌++◌, [], List, drop, take, ℕ}
use Rattle.page_answers.specs.Keys.{have_words}
use Rattle.page_answers.specs.Likes.{like_in}
use Rattle.page_checks.specs.Rows as specs
use Rattle.page_checks.proofs.rows.checked_rows.Given as goal

abbrev pub invariant-loop-row : goal.invariant-loop-row
invariant-loop-row l = record {
  place : l.at ≡ l.row-index;
  so_far : l.checked.items ++ specs.checked_rows l.order l.sheet l.answers.rows.items (like_in l.answers.likes) l.at
      (take l.row-index l.rows) (drop l.row-index l.rows)
      ≡ specs.checked_rows l.order l.sheet l.answers.rows.items (like_in l.answers.likes) 0 [] l.rows;
  seen : (x : List ℕ) → contains_text l.seen x ≡ have_words l.sheet (take l.row-index l.rows) x;
}
