use Rattle.std.proofs.Common.{◌≡◌, ◌++◌, ◌∙◌, ℕ, List, ap, append_assoc}
use Rattle.room_requests.specs.Replies.{allow_line, size_line, status_line}
use Rattle.html_answers.specs.Replies.{last_lines, type_line}
use Rattle.html_answers.proofs.replies.push_head.Goals as goal

-- five parts, added one by one
five : (old a b c d e : List ℕ) → old ++ a ++ b ++ c ++ d ++ e ≡ old ++ (a ++ b ++ c ++ d ++ e)
five old a b c d e = simp append_assoc

pub returns : goal.returns
returns c =
    let first = c.in_ok-push_status.ensures in
    let second = c.in_ok-push_allow.ensures ∙ ap (λ z. z ++ allow_line c.args.status) first in
    let third = c.in_ok-push_type.ensures ∙ ap (λ z. z ++ type_line c.args.media) second in
    let fourth = c.in_ok-push_size.ensures ∙ ap (λ z. z ++ size_line c.args.size) third in
    c.in_ok-push_last.ensures ∙ ap (λ z. z ++ last_lines) fourth
    ∙ five _ (status_line c.args.status) (allow_line c.args.status) (type_line c.args.media) (size_line c.args.size)
    last_lines
