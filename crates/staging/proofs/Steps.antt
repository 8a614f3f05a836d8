-- What each single commit makes of the rows, where the numbers of a batch stay without a record.
use Rattle.std.proofs.Common.{
  ◌≡◌,
  ◌++◌,
  ◌<◌,
  ◌≤◌,
  ℕ,
  List,
  length,
  get_or,
  drop,
  true,
  false,
  Result,
  OnOk,
  ap,
  sym,
  subst,
  ◌∙◌,
}
use Rattle.std.specs.Prelude.{◌==◌}
use Rattle.std.specs.List.{list_any}
use Rattle.sqlite.specs.State.{State, HasCleanDisk}
use Rattle.record_shapes.specs.Lists.{EachOf}
use Rattle.store_tables.specs.Calls.{Settled}
use Rattle.store_tables.specs.Rows.{Rows, without_lines_from}
use Rattle.store_rows.specs.Meaning.{has_record}
use Rattle.store_rows.specs.Writing.{without_all_lines, without_record_rows}
use Rattle.staged_rows.specs.Removing.{AreAside}
use Rattle.staged_rows.proofs.Taken.{lines_from_out, lines_out, rows_out}
use Rattle.staging.specs.Clearing.{Clears, IsThinned, LeavesEither}
use Rattle.staging.proofs.Cleared.{IsOnTheWay, clears_then, one_commit}
use Rattle.staging.proofs.Thinned.{has_none, lines_of_two, rows_of_two, there, there_from, thinned_from}
use Rattle.staged_rows.proofs.Alike.{seen_same}
use Rattle.record_shapes.proofs.Each.{each_front, each_back}

module _ {A E : Type 0} (ns : List ℕ) (old new : State) (result : Result A E)
    (clean : HasCleanDisk new → HasCleanDisk old) where
  abbrev Makes : (Rows → Rows) → Type 0
  Makes f = HasCleanDisk new → OnOk result ((rows : Rows) → Settled old rows → Settled new (f rows))

  abbrev MayMake : (Rows → Rows) → Type 0
  MayMake f = HasCleanDisk new → (rows : Rows) → Settled old rows → LeavesEither new rows (f rows)

  pub fewer_lines : (n at : ℕ) → list_any (λ m. m == n) ns ≡ true → Makes (without_lines_from n at)
      → MayMake (without_lines_from n at) → Clears ns (IsThinned n) old new result
  fewer_lines n at has done crash =
      one_commit ns (IsThinned n) (without_lines_from n at) old new result done crash clean
      (thinned_from n at)
      (λ rows aside. lines_from_out n at rows (has_none (λ m. has_record m rows ≡ false) n ns has aside))

  -- the numbers of which lines or rows are removed are some of them, in one piece
  module _ (front ks behind : List ℕ) (are : ns ≡ front ++ (ks ++ behind)) where
    are_aside : (rows : Rows) → AreAside ns rows → AreAside ks rows
    are_aside rows all =
        let none = λ (m : ℕ). has_record m rows ≡ false in
        each_front none ks behind (each_back none front (ks ++ behind) (subst (EachOf none) are all))

    pub no_lines : Makes (without_all_lines ks) → MayMake (without_all_lines ks)
        → Clears ns (λ rows here. without_all_lines behind here ≡ without_all_lines (ks ++ behind) rows) old new result
    no_lines done crash =
        one_commit ns _ (without_all_lines ks) old new result done crash clean
        (λ rows. sym (lines_of_two ks behind rows))
        (λ rows aside. lines_out rows ks rows (are_aside rows aside) (seen_same rows))

    pub no_rows : Makes (without_record_rows ks) → MayMake (without_record_rows ks)
        → Clears ns (λ rows here. without_record_rows behind here ≡ without_record_rows (ks ++ behind) rows) old new
        result
    no_rows done crash =
        one_commit ns _ (without_record_rows ks) old new result done crash clean
        (λ rows. sym (rows_of_two ks behind rows))
        (λ rows aside. rows_out rows ks rows (are_aside rows aside) (seen_same rows))

  -- where `rest` is left so far, and its front is removed
  module _ (start : State) (front rest ks behind : List ℕ) (are : ns ≡ front ++ rest)
      (parted : rest ≡ ks ++ behind) where
    pub lines_go_on : IsOnTheWay ns (λ rows here. without_all_lines rest here ≡ without_all_lines ns rows) start old
        → Makes (without_all_lines ks) → MayMake (without_all_lines ks)
        → Clears ns (λ rows here. without_all_lines behind here ≡ without_all_lines ns rows) start new result
    lines_go_on way done crash =
        clears_then (λ rows here. without_all_lines behind here ≡ without_all_lines ns rows) result way
        (no_lines front ks behind (are ∙ ap (λ r. front ++ r) parted) done crash)
        (λ x y z p q. q ∙ ap (λ r. without_all_lines r y) (sym parted) ∙ p)

    pub rows_go_on : IsOnTheWay ns (λ rows here. without_record_rows rest here ≡ without_record_rows ns rows) start old
        → Makes (without_record_rows ks) → MayMake (without_record_rows ks)
        → Clears ns (λ rows here. without_record_rows behind here ≡ without_record_rows ns rows) start new result
    rows_go_on way done crash =
        clears_then (λ rows here. without_record_rows behind here ≡ without_record_rows ns rows) result way
        (no_rows front ks behind (are ∙ ap (λ r. front ++ r) parted) done crash)
        (λ x y z p q. q ∙ ap (λ r. without_record_rows r y) (sym parted) ∙ p)

-- ---- a number of which lines are removed before all lines of it are
module _ {A E : Type 0} (ns : List ℕ) (d first at : ℕ) (le : first ≤ at) (low : at < length ns) (start old new : State)
    (result : Result A E)
    (way : IsOnTheWay ns (λ rows here. without_all_lines (drop first ns) here ≡ without_all_lines ns rows) start old)
    (thins : (ms : List ℕ) → list_any (λ m. m == get_or ns at d) ms ≡ true
    → Clears ms (IsThinned (get_or ns at d)) old new result) where
  pub thinned_on : Clears ns (λ rows here. without_all_lines (drop first ns) here ≡ without_all_lines ns rows) start new
      result
  thinned_on =
      clears_then (λ rows here. without_all_lines (drop first ns) here ≡ without_all_lines ns rows) result way
      (thins ns (there d at ns low)) (λ x y z p q. q (drop first ns) (there_from d first at ns le low) ∙ p)
