use Rattle.std.proofs.Common.{refl}
use Rattle.store_tables.proofs.PastStatements.{all_of_tables_below}
use Rattle.store_tables.proofs.laws.values_of_before_stay.Goals as goal

pub returns-clause-above : goal.returns-clause-above
returns-clause-above c rows t good = all_of_tables_below rows t good.holds

pub returns-clause-others : goal.returns-clause-others
returns-clause-others c = record {
  next = λ n rows. refl;
  version = λ version rows. refl;
  batch = λ n is_open rows. refl;
  closed = λ n rows. refl;
  no_batch = λ n rows. refl;
  record_row = λ n kind batch rows. refl;
  changed = λ n kind batch rows. refl;
  no_record = λ n rows. refl;
  pack = λ n lines rows. refl;
  no_lines = λ n rows. refl;
  no_lines_from = λ n at rows. refl;
  receipt = λ token receipt rows. refl;
  slip = λ n keep gone is_undone rows. refl;
  undone = λ n rows. refl;
  sides = λ n sides rows. refl;
  span = λ n lo hi rows. refl;
  no_span = λ n rows. refl;
  link = λ target n rows. refl;
  no_link = λ target n rows. refl;
  sought = λ n text target rows. refl;
  no_sought = λ n rows. refl;
}
