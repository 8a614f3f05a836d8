use Rattle.date_spans.specs.Between.{IsBetween}
use Rattle.date_spans.proofs.OneList.{one_list}
use Rattle.date_spans.proofs.laws.there_is_one_list_between_days.Goals as goal

pub returns : goal.returns
returns c = λ m first last ns ms. one_list (IsBetween m first last) ns ms
