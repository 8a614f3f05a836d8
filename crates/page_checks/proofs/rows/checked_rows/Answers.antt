use Rattle.std.specs.BTreeSet.{contains_text}
use Rattle.std.specs.Prelude.{Option}
use Rattle.std.proofs.Common.{Bool, List, [], ap, arith, take, ◌++◌, ◌||◌, ◌∙◌, ◌∷◌, ◌≡◌, ℕ}
use Rattle.page_answers.specs.Keys.{has_words, have_words, is_among, key_of}
use Rattle.page_answers.specs.Likes.{like_in}
use Rattle.page_checks.specs.Rows.{Likes, answer_at, checked_row, is_repeated}
use Rattle.page_checks.specs.declared.findings.CheckedRow.{CheckedRow}
use Rattle.page_answers.specs.declared.keys.Key.{Key}
use Rattle.page_checks.proofs.Checked.{among, one_more, words_more}
use Rattle.page_checks.proofs.rows.checked_rows.Goals as goal

pub loop-row-preserved : goal.loop-row-preserved
loop-row-preserved c =
    let order = c.args.order in
    let s = c.args.sheet.now in
    let answers = c.args.answers.now.rows.items in
    let likes : Likes = like_in c.args.answers.now.likes in
    let at = c.loop-row.at in
    let i = c.loop-row.row-index in
    let row = c.row-item.result in
    let before = take i c.rows-rows.result.now in
    let f : List ℕ → Bool = contains_text c.loop-row.seen in
    let repeated : c.in_ok-is_repeated.is_repeated ≡ is_repeated s before row = c.in_ok-is_repeated.ensures.found
    ∙ ap (is_among f) c.in_ok-key.ensures
    ∙ among f (have_words s before) (key_of s row) c.loop-row.invariant.seen in
    let is : c.in_ok-found.found
    ≡ checked_row order s (answer_at answers at) likes (key_of s row) (is_repeated s before row) row =
    c.in_ok-found.ensures
    ∙ ap (λ (k : Option Key). checked_row order s (answer_at answers at) likes k c.in_ok-is_repeated.is_repeated row)
    c.in_ok-key.ensures
    ∙ ap (λ (b : Bool). checked_row order s (answer_at answers at) likes (key_of s row) b row) repeated in
    let now = c.in_ok-push.ensures.items
    ∙ ap (λ (r : CheckedRow). c.loop-row.checked.items ++ r ∷ []) is in
    record {
      place = omega (arith, c.loop-row.invariant.place);
      so_far = one_more order s answers likes at i c.rows-rows.result.now row c.loop-row.checked.items
          c.push.new.self.items _ c.loop-row-test.true c.row-item.is now c.loop-row.invariant.so_far;
      seen = words_more s c.rows-rows.result.now i row f (contains_text c.see.new.seen) c.loop-row-test.true
          c.row-item.is
          (λ x. c.in_ok-is_repeated.ensures.added x
          ∙ ap (λ (k : Option Key). f x || has_words x k) c.in_ok-key.ensures) c.loop-row.invariant.seen;
    }
