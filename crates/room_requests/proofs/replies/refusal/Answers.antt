use Rattle.room_requests.proofs.replies.refusal.Goals as goal

pub returns : goal.returns
returns c = rw (c.as_str.ensures.value, c.in_ok-page.ensures) at c.reply.ensures
