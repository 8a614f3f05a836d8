-- What an import adds can be read again.
use Rattle.std.proofs.Common.{sym, ap, subst}
use Rattle.record_shapes.specs.Lists.{EachOf}
use Rattle.records.specs.Shallow.{IsShallow}
use Rattle.archive_state.specs.Applied.{applied, with_puts, with_slip, without}
use Rattle.archive_state.specs.Changes.{Changes}
use Rattle.archive_state.specs.Content.{Content}
use Rattle.archive_state.specs.Sound.{EachIn}
use Rattle.store_rows.specs.Meaning.{AllShallow, IsShallowSlip}
use Rattle.store_rows.specs.Shallow.{IsShallowPut}
use Rattle.import_commits.specs.Commits.{IsAddition}
use Rattle.store_rows.proofs.Written.{puts_shallow}

pub shallow_added : (c : Content) (changes : Changes) → IsAddition c changes → EachOf IsShallowPut changes.puts
    → AllShallow c → AllShallow (applied c changes)
shallow_added c changes adds puts all = record {
  records = subst (λ m. EachIn m (λ _. IsShallow))
      (sym (ap (without (with_puts c.records changes.puts)) adds.removals))
      (puts_shallow changes.puts c.records puts all.records);
  slips = subst (λ m. EachIn m (λ _. IsShallowSlip)) (sym (ap (with_slip c.slips) adds.slip)) all.slips;
}
