-- The words of a report.
use Rattle.std.specs.Prelude.{ℕ, List, codes}
use Rattle.receipts.specs.declared.report.ReportWord.{ReportWord}
use Rattle.receipts.specs.declared.report.ReportWord.TheVariants as reported

abbrev pub report_word : ReportWord → List ℕ
report_word reported.Dangling = codes "dangling"
report_word reported.OneSided = codes "one-sided"
report_word reported.Doubled = codes "doubled"
report_word reported.ValueDropped = codes "value dropped"
