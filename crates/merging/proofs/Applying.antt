-- What the changes of a merge and of an undoing leave, when they are made.
use Rattle.std.proofs.Common.{◌≡◌, ℕ, ◌+◌, [], ◌∷◌, refl, ap}
use Rattle.std.specs.Prelude.{Some, None, option_map}
use Rattle.std.specs.List.{flat_map}
use Rattle.std.specs.FinMap.{get}
use Rattle.receipts.specs.declared.answer.Answer.{Answer}
use Rattle.archive_state.specs.Applied.{applied, as_undone, put_if}
use Rattle.archive_state.specs.Content.{Content}
use Rattle.archive_state.specs.Slips.{Slip}
use Rattle.archive_state.specs.declared.changes.SlipChange.TheVariants as change
use Rattle.merging.specs.Merges.{merge_changes, put_new, put_old, slip_of, undone_records, with_merge, with_undo}

pub merge_applied : (c : Content) (keep gone : ℕ) (a : Answer)
    → applied c (record {
      puts = flat_map put_new (merge_changes keep gone c.records);
      removals = gone ∷ [];
      next = c.next + 1;
      answer = a;
      kept = None;
      slip = Some (change.Made c.next (slip_of keep gone c.records));
    })
    ≡ with_merge keep gone c (c.next + 1)
merge_applied c keep gone a = refl

pub undo_applied : (c : Content) (n : ℕ) (s : Slip) (a : Answer) → get c.slips n ≡ Some s
    → applied c (record {
      puts = flat_map put_old s.changes;
      removals = [];
      next = c.next;
      answer = a;
      kept = None;
      slip = Some (change.Undone n);
    }) ≡ with_undo n s c
undo_applied c n s a at =
    ap (λ o. record c { records = undone_records s c.records; slips = put_if c.slips n (option_map as_undone o) }) at
