use Rattle.std.proofs.Common.{sym}
use Rattle.std.proofs.lemmas.Result.{on_ok_weaker}
use Rattle.std.specs.Prelude.{string_bytes}
use Rattle.page_answers.proofs.Listed.{one_more}
use Rattle.page_answers.proofs.index.PlaceIndex.add.Goals as goal

pub returns : goal.returns
returns c = on_ok_weaker c.add_under.result
    (one_more c.args.self.now.paths c.add_under.new.paths (string_bytes c.in_ok-key.key)
    (string_bytes c.in_ok-path.path) c.args.path.now c.in_ok-key.ensures c.in_ok-path.ensures.ok) c.add_under.ensures
