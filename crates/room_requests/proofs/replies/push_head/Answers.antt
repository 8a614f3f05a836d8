use Rattle.std.proofs.Common.{◌≡◌, ◌++◌, ◌∙◌, ℕ, List, ap, append_assoc, codes}
use Rattle.room_requests.specs.Replies.{allow_line, size_line, status_line}
use Rattle.room_requests.proofs.replies.push_head.Goals as goal

-- five parts, added one by one
five : (old a b c d e : List ℕ) → old ++ a ++ b ++ c ++ d ++ e ≡ old ++ (a ++ b ++ c ++ d ++ e)
five old a b c d e = simp append_assoc

abbrev kind : List ℕ
kind = codes "Content-Type: text/plain; charset=utf-8\r\n"

abbrev end : List ℕ
end = codes "Connection: close\r\n\r\n"

pub returns : goal.returns
returns c =
    let first = c.in_ok-push_status.ensures in
    let second = c.in_ok-push_allow.ensures ∙ ap (λ z. z ++ allow_line c.args.status) first in
    let third = c.in_ok-extend_from_slice.ensures.items ∙ ap (λ z. z ++ kind) second in
    let fourth = c.in_ok-push_size.ensures ∙ ap (λ z. z ++ size_line c.args.size) third in
    c.in_ok-extend_from_slice-2.ensures.items ∙ ap (λ z. z ++ end) fourth
    ∙ five _ (status_line c.args.status) (allow_line c.args.status) kind (size_line c.args.size) end
