use Rattle.std.proofs.Common.{rules}
use Rattle.record_text.specs.Words.{words}
use Rattle.record_text.proofs.Joins.{join_behind}
use Rattle.record_text.proofs.naming.spaced.Goals as goal

pub loop-word-init : goal.loop-word-init
loop-word-init c = (
  search rules,
  rw (c.in_ok-push_str.ensures.bytes, c.new-out.ensures.bytes, c.in-Some.ensures)
      (join_behind c.in-Some.first.now (words c.in-Some.after_first.now)),
)
