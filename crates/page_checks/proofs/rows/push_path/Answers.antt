use Rattle.std.proofs.lemmas.Result.{on_ok_weaker}
use Rattle.page_answers.specs.Likes.{like_in}
use Rattle.page_checks.proofs.Likes.{path_more}
use Rattle.page_checks.proofs.rows.push_path.Goals as goal

pub returns : goal.returns
returns c = on_ok_weaker c.push_likes.result
    (path_more (like_in c.args.likes.now) c.args.name.now c.args.path.now c.as_str.result.now c.as_str-2.result.now
    c.in_ok-found.found.now c.args.out.now.items c.push_found.new.out.items c.push_likes.new.out.items c.as_str.ensures
    c.as_str-2.ensures c.in_ok-push_found.ensures c.in_ok-found.ensures) c.push_likes.ensures
