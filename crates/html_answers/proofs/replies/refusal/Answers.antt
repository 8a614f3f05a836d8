use Rattle.html_answers.proofs.replies.refusal.Goals as goal

pub returns : goal.returns
returns c =
    rw (c.as_str-2.ensures.value, c.in_ok-page.ensures, c.as_str.ensures) at c.reply.ensures
