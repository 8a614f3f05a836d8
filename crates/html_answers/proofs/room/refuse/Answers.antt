use Rattle.std.proofs.Common.{subst, ◌≡◌, ℕ, List}
use Rattle.std.specs.Prelude.{IfOk}
use Rattle.html_answers.specs.Replies.{refusal}
use Rattle.html_answers.proofs.room.refuse.Goals as goal

pub returns : goal.returns
returns c =
    subst (λ (s : List ℕ). IfOk c.refusal.result (λ bytes. bytes.items ≡ refusal s c.args.status c.args.with_page))
    c.society.ensures c.refusal.ensures
