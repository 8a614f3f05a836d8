-- What the import of a forest makes of an archive, or its refusal. Rules of our own.
use Rattle.std.specs.Prelude.{ℕ, ◌≡◌, ◌-◌, List, [], None, Result, Ok}
use Rattle.std.specs.FinMap.{get}
use Rattle.record_text.specs.declared.refusal.RefusalKind.{RefusalKind}
use Rattle.receipts.specs.declared.answer.Answer.{Answer}
use Rattle.archive_state.specs.Changes.{Batch, Changes}
use Rattle.archive_state.specs.Content.{Content}
use Rattle.archive_state.specs.Sound.{IsSound}
use Rattle.archive_state.specs.declared.changes.Numbered.{Numbered}
use Rattle.command_checks.specs.Exact.{put_numbers}
use Rattle.commands.specs.Rows.{and_then}
use Rattle.gedcom_tree.specs.Forest.{Item}
use Rattle.entry_batches.specs.Batches.{first_number}
use Rattle.entry_batches.specs.Placed.{Step, onward, placed}
use Rattle.import_definitions.specs.Made.{made}
use Rattle.imports.specs.Imported.{CountUp, imported}
use Rattle.record_shapes.specs.Lists.{EachOf, IsOnce}

-- The next number of before, also where nothing is made, and how many numbers were drawn; 63 where that is no number of
-- 32 bits. In a sound archive the next number is from 1, so that the count is always one where the next number is.
abbrev pub answer_of : ℕ → Batch → Result Answer RefusalKind
answer_of next b =
    and_then (first_number next) (λ first.
    and_then (first_number (b.next - next)) (λ count.
    Ok (record { first = first; count = count })))

-- 60 and 63 of the forest come first, and then those of the answer; else the archive has got the batch
abbrev pub import_step : Content → List Item → Step
import_step c forest =
    onward (made c forest) (λ b.
    onward (placed None (answer_of c.next b)) (λ a.
    Ok (imported c b, a)))

-- what an import changes: it adds records at numbers that count up from the archive's next one, each there once, at
-- which a sound archive has none; and it takes no record out, and makes no slip
pub record OnlyAdds (c : Content) (changes : Changes) : Type 0 where
  pub numbers : CountUp c.next changes.next (put_numbers changes)
  pub once : IsOnce (put_numbers changes)
  pub free : IsSound c → EachOf (λ (p : Numbered). get c.records p.number ≡ None) changes.puts
  pub removals : changes.removals ≡ []
  pub slip : changes.slip ≡ None
