use Rattle.std.proofs.Common.{sym, subst}
use Rattle.std.specs.Str.{IsUtf8}
use Rattle.commands.specs.Sound.{WhereSome}
use Rattle.archive_steps.specs.Words.{IsUtf8Date}
use Rattle.archive_steps.proofs.words.tell_date.Goals as goal

pub returns-in-Some : goal.returns-in-Some
returns-in-Some c =
    subst (WhereSome IsUtf8Date) (sym c.in-Some.is) (
      subst IsUtf8 c.spelling.ensures.same c.spelling.utf8,
      c.spelling.ensures.given,
    )
