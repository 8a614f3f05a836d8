-- What a batch changes is no more than it has to be, after the looks over a view.
use Rattle.std.proofs.Common.{◌≡◌, ℕ, ◌+◌, List, [], length, Bool, true, false, refl, ap, ◌∙◌}
use Rattle.std.specs.Prelude.{None, Result, Ok, Err, nat_le, if◌then◌else◌}
use Rattle.record_text.specs.declared.refusal.RefusalKind.{RefusalKind}
use Rattle.record_text.specs.declared.refusal.RefusalKind.TheVariants.{Full}
use Rattle.archive_state.specs.Changes.{Changes}
use Rattle.archive_state.specs.Content.{Content}
use Rattle.archive_state.specs.declared.changes.Numbered.{Numbered}
use Rattle.archive_state.specs.Looks.{OnView}
use Rattle.commands.specs.Rows.{and_then}
use Rattle.commands.specs.declared.entry_row.EntryRow.{EntryRow}
use Rattle.command_checks.specs.Checks.{demanded_at}
use Rattle.command_checks.specs.declared.kinds.Demand.TheVariants as demand
use Rattle.command_checks.specs.Exact.{IsExact}
use Rattle.entry_batches.specs.Batches.{first_number, with_rows}
use Rattle.entry_batches.proofs.Commands.{made_is_exact}
use Rattle.entry_batches.proofs.Rows.{view_then}

-- what a batch changes that has made these
abbrev pub changes_of : List Numbered → ℕ → ℕ → Changes
changes_of made next n = record {
  puts = made;
  removals = [];
  next = next + length made;
  answer = record { first = n; count = length made };
  kept = None;
  slip = None;
}

next_is : {A : Type 0} (r : Result A RefusalKind) (m n : ℕ) → and_then r (λ _. Ok m) ≡ Ok n → m ≡ n
next_is (Ok a) m n e = cc
next_is (Err k) m n e = absurd cc

abbrev pub MakesChanges : List Numbered → ℕ → Changes → Type 0
MakesChanges made next changes = Ok changes ≡ and_then (first_number next) (λ n. Ok (changes_of made next n))

made_changes : (made : List Numbered) (next : ℕ) (changes : Changes) (b : Bool) (first : Result ℕ RefusalKind)
    → first ≡ (if b then Ok next else Err Full) → Ok changes ≡ and_then first (λ n. Ok (changes_of made next n))
    → changes ≡ changes_of made next next
made_changes made next changes true first is e = let both : ◌≡◌ {A = Result Changes RefusalKind} (Ok changes)
    (Ok (changes_of made next next)) = e ∙ ap (λ r. and_then r (λ n. Ok (changes_of made next n))) is in cc
made_changes made next changes false first is e = let both : ◌≡◌ {A = Result Changes RefusalKind} (Ok changes)
    (Err Full) = e ∙ ap (λ r. and_then r (λ n. Ok (changes_of made next n))) is in absurd cc

exact_after : (c : Content) (source : ℕ) (rows : List EntryRow) (made : List Numbered) (next : ℕ) (changes : Changes)
    → and_then (demanded_at c demand.Source source) (λ _. Ok c.next) ≡ Ok next
    → (c.next ≡ next → with_rows c source [] rows ≡ Ok made) → MakesChanges made next changes → IsExact c changes
exact_after c source rows made next changes at run is =
    made_is_exact c source rows made (next + length made) (record { first = next; count = length made }) changes
    (run (next_is (demanded_at c demand.Source source) c.next next at))
    (made_changes made next changes (nat_le next 4_294_967_295) (first_number next) refl is)

module _ {S Held : Type 0} (honest : S → Type 0) (shows : S → Held → Type 0) (content : Held → Content) where
  pub exact_over : (a b d : S) (source : ℕ) (rows : List EntryRow) (made : List Numbered) (next : ℕ) (changes : Changes)
      → OnView honest shows content a b (λ c. and_then (demanded_at c demand.Source source) (λ _. Ok c.next) ≡ Ok next)
      → OnView honest shows content b d (λ c. c.next ≡ next → with_rows c source [] rows ≡ Ok made)
      → MakesChanges made next changes
      → OnView honest shows content a d (λ c. IsExact c changes)
  exact_over a b d source rows made next changes f g is =
      view_then honest shows content a b d (λ c. and_then (demanded_at c demand.Source source) (λ _. Ok c.next)
      ≡ Ok next) (λ c. c.next ≡ next → with_rows c source [] rows ≡ Ok made) (λ c. IsExact c changes)
      (λ c at run. exact_after c source rows made next changes at run is) f g
