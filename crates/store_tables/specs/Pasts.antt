-- Values of before: each call but the one that writes such a value leaves all of them, and that one adds to them.
use Rattle.std.specs.Prelude.{◌≡◌, ◌<ℤ◌, ℕ, ℤ, Bool, List, Option}
use Rattle.std.specs.List.{AllByRecursion}
use Rattle.stored_lines.specs.Line.{Label}
use Rattle.receipts.specs.declared.answer.Receipt.{Receipt}
use Rattle.store_tables.specs.Rows.{
  PastRow,
  Rows,
  SlipSide,
  next_past,
  record_at,
  with_batch,
  with_closed,
  with_link,
  with_next,
  with_pack,
  with_receipt,
  with_record_row,
  with_slip_row,
  with_sought,
  with_span,
  with_undone,
  with_version,
  without_batch_row,
  without_lines,
  without_lines_from,
  without_link,
  without_record_row,
  without_sought,
  without_span,
}
use Rattle.store_tables.specs.Sides.{with_slip_sides}

-- all values of before are as they were
abbrev pub LeavesPasts : (Rows → Rows) → Type 0
LeavesPasts f = (rows : Rows) → (f rows).pasts ≡ rows.pasts

-- what each other call makes of the rows
pub record OthersLeavePasts : Type 0 where
  pub next : (n : ℕ) → LeavesPasts (with_next n)
  pub version : (version : ℕ) → LeavesPasts (with_version version)
  pub batch : (n : ℕ) (is_open : Bool) → LeavesPasts (with_batch n is_open)
  pub closed : (n : ℕ) → LeavesPasts (with_closed n)
  pub no_batch : (n : ℕ) → LeavesPasts (without_batch_row n)
  pub record_row : (n : ℕ) (kind : List ℕ) (batch : ℕ) → LeavesPasts (with_record_row n kind batch)
  pub changed : (n : ℕ) (kind : List ℕ) (batch : ℕ) → LeavesPasts (record_at n kind batch)
  pub no_record : (n : ℕ) → LeavesPasts (without_record_row n)
  pub pack : (n : ℕ) (lines : List (ℕ × Label)) → LeavesPasts (with_pack n lines)
  pub no_lines : (n : ℕ) → LeavesPasts (without_lines n)
  pub no_lines_from : (n at : ℕ) → LeavesPasts (without_lines_from n at)
  pub receipt : (token : List ℕ) (receipt : Receipt) → LeavesPasts (with_receipt token receipt)
  pub slip : (n keep gone : ℕ) (is_undone : Bool) → LeavesPasts (with_slip_row n keep gone is_undone)
  pub undone : (n : ℕ) → LeavesPasts (with_undone n)
  pub sides : (n : ℕ) (sides : List SlipSide) → LeavesPasts (with_slip_sides n sides)
  pub span : (n : ℕ) (lo hi : Option ℤ) → LeavesPasts (with_span n lo hi)
  pub no_span : (n : ℕ) → LeavesPasts (without_span n)
  pub link : (target n : ℕ) → LeavesPasts (with_link target n)
  pub no_link : (target n : ℕ) → LeavesPasts (without_link target n)
  pub sought : (n : ℕ) (text : List ℕ) (target : Option ℕ) → LeavesPasts (with_sought n text target)
  pub no_sought : (n : ℕ) → LeavesPasts (without_sought n)

-- the next key is above those of all that are there, so that a new one takes the place of none
abbrev pub IsAboveAll : List PastRow → Type 0
IsAboveAll pasts = AllByRecursion (λ (p : PastRow). p.id <ℤ next_past pasts) pasts
