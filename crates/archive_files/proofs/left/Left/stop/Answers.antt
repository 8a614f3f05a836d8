use Rattle.std.proofs.Common.{arith}
use Rattle.archive_files.proofs.Found.{found_again}
use Rattle.archive_files.proofs.Leaving.{stopped}
use Rattle.archive_files.proofs.left.Left.stop.Goals as goal

pub returns-in-Open : goal.returns-in-Open
returns-in-Open g c =
    let into = c.into_store.ensures in
    stopped c.args.self c.in-Open.conn c.into_store.result c.in-Open.is (λ clean. record {
      clean = omega (arith, into.quiet.clean);
      found = found_again c.in-Open.conn c.into_store.result (into.numbered clean) (into.sound clean)
          into.quiet.outcomes;
    })
