-- What is made is the masked state.
use Rattle.std.proofs.Common.{◌≡◌, ℕ, ap, ◌∙◌}
use Rattle.std.specs.Prelude.{ℤ}
use Rattle.std.specs.FinMap.{get, empty}
use Rattle.std.specs.BTreeSet.{BTreeSet}
use Rattle.archive_state.specs.Content.{Content}
use Rattle.masking.specs.Masking.{IsMasked}
use Rattle.masking.specs.Judged.{IsJudgement, tests_of}
use Rattle.masking.specs.Showing.{Shows}

pub masked_is : (c : Content) (today : ℤ) (living silent open_entries : BTreeSet ℕ) (made after : Content)
    → IsJudgement c.records today living silent open_entries → Shows c.records living open_entries made.records
    → after ≡ record made { next = c.next; receipts = empty; slips = empty } → IsMasked c today after
masked_is c today living silent open_entries made after judged shows is = record {
  judged = tests_of living open_entries;
  judges = judged.judges;
  records = λ n. ap (λ (s : Content). get s.records n) is ∙ shows n;
  next = ap (λ (s : Content). s.next) is;
  receipts = ap (λ (s : Content). s.receipts) is;
  slips = ap (λ (s : Content). s.slips) is;
}
