-- What one record changed leaves beside it.
use Rattle.std.proofs.Common.{◌≡◌, ℕ, ◌≤◌, ◌+◌, refl, sym, ap, ◌∙◌, inr, arith}
use Rattle.std.specs.Prelude.{◌≢◌, Some, None}
use Rattle.std.specs.FinMap.{get, insert}
use Rattle.record_kinds.specs.declared.record.Record.{Record}
use Rattle.archive_state.specs.Content.{Content}
use Rattle.archive_state.specs.Sound.{IsSound}
use Rattle.archive_state.proofs.Putting.{put_elsewhere, put_here}
use Rattle.command_checks.specs.Numbers.{Draws, UsesNoneAgain}
use Rattle.record_changes.specs.Laws.{ChangesOnly, LeavesAllElse}
use Rattle.record_changes.specs.Steps.{as_before, replaced}
use Rattle.record_changes.proofs.Keeping.{IsFit, put_keeps}

-- a record changes that is there
replaces_again : (c : Content) (n : ℕ) (old r : Record) → get c.records n ≡ Some old
    → UsesNoneAgain c (record c { records = insert c.records n r })
replaces_again c n old r at = (
  omega arith,
  (λ k less none. none),
  λ k used. (
    used.0,
    put_elsewhere c.records n r k (λ same. let both : Some old ≡ None = sym at
        ∙ (ap (get c.records) (sym same) ∙ used.1) in absurd cc) ∙ used.1,
    used.2,
  ),
)

replaces_draws : (c : Content) (n : ℕ) (r : Record) → Draws c (record { first = 0; count = 0 })
    (record c { records = insert c.records n r })
replaces_draws c n r = (omega arith, inr (refl, refl), λ k low high. absurd (omega arith))

still_there : (c : Content) (n : ℕ) (r : Record) → get (insert c.records n r) n ≢ None
still_there c n r none = let both : Some r ≡ None = sym (put_here c.records n r) ∙ none in absurd cc

pub leaves_all_else : LeavesAllElse
leaves_all_else c n old r at = record {
  others = λ k other. put_elsewhere c.records n r k other;
  there = still_there c n r;
  next = refl;
  receipts = refl;
  slips = refl;
  draws = replaces_draws c n r;
  again = replaces_again c n old r at;
}

there_before : (c : Content) (n : ℕ) (old : Record) → get c.records n ≡ Some old → get c.records n ≢ None
there_before c n old at none = let both : Some old ≡ None = sym at ∙ none in absurd cc

-- the same where nothing changes
pub as_before_stays : (c : Content) (n : ℕ) (old : Record) → get c.records n ≡ Some old → ChangesOnly c n (as_before c)
as_before_stays c n old at = record {
  others = λ k other. refl;
  there = there_before c n old at;
  next = refl;
  receipts = refl;
  slips = refl;
  draws = (omega arith, inr (refl, refl), λ k low high. absurd (omega arith));
  again = (omega arith, (λ k less none. none), λ k used. used);
}

-- a record that is fit, put in place of another, leaves a sound archive sound
pub replaced_sound : (c : Content) (n : ℕ) (old r : Record) → IsSound c → get c.records n ≡ Some old → IsFit c n r
    → IsSound (replaced c n r).0
replaced_sound c n old r sound at fit =
    put_keeps c n c.next r sound fit (omega arith) sound.bounded (sound.rules.numbered n old at)
