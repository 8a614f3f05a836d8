use Rattle.plain_export.proofs.Failing.{fails_by, long_fits}
use Rattle.plain_export.proofs.pages.page_line.Goals as goal

pub returns-then-is_long-clause-refused : goal.returns-then-is_long-clause-refused
returns-then-is_long-clause-refused c =
    fails_by c.words_line.result (long_fits _ (cc)) c.words_line.ensures.refused
