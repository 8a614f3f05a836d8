-- The place that a cell names: by a number, by `@` and a token, or by a path that is made normal.
use Rattle.std.specs.Prelude.{
  ℕ,
  ◌==◌,
  ◌&&◌,
  Bool,
  not,
  nat_le,
  List,
  [],
  ◌∷◌,
  length,
  Option,
  Some,
  None,
  Result,
  Ok,
  Err,
  if◌then◌else◌,
}
use Rattle.std.specs.Char.{is_ascii_digit}
use Rattle.std.specs.List.{list_all}
use Rattle.receipts.specs.Tokens.{is_printable}
use Rattle.record_text.specs.declared.refusal.RefusalKind.{RefusalKind}
use Rattle.record_shapes.specs.Paths.{has_part, is_within_limits, normal}
use Rattle.commands.specs.Rows.{number_in}
use Rattle.table_pages.specs.declared.fault.FaultKind.{FaultKind}
use Rattle.table_pages.specs.declared.fault.FaultKind.TheVariants.{BadPath, BadPlace}
use Rattle.page_entries.specs.Digits.{whole}
use Rattle.page_entries.specs.declared.places.PagePlace.{PagePlace}
use Rattle.page_entries.specs.declared.places.PagePlace.TheVariants.{Number, Token, Path}

abbrev pub numbered : Result ℕ RefusalKind → Result (Option PagePlace) FaultKind
numbered (Ok n) = Ok (Some (Number n))
numbered (Err e) = Err BadPlace

-- 1 to 4,294,967,295
abbrev pub by_number : List ℕ → Result (Option PagePlace) FaultKind
by_number digits = numbered (number_in digits)

-- 1 to 64 characters from `!` to `~`
abbrev pub is_token : List ℕ → Bool
is_token bytes = nat_le 1 (length bytes) && nat_le (length bytes) 64 && list_all is_printable bytes

abbrev pub by_token : List ℕ → Result (Option PagePlace) FaultKind
by_token bytes = if is_token bytes then Ok (Some (Token bytes)) else Err BadPlace

abbrev pub by_path : List ℕ → Result (Option PagePlace) FaultKind
by_path path = if is_within_limits path && has_part path then Ok (Some (Path path)) else Err BadPath

-- digits, maybe with `.0` or `,0` after them, are a number; all else is a path
abbrev pub by_text : List ℕ → Result (Option PagePlace) FaultKind
by_text cell =
    if not (length (whole cell) == 0) && list_all is_ascii_digit (whole cell) then by_number (whole cell)
    else by_path (normal cell)

-- none, where the cell is empty
unfoldable pub place_in : List ℕ → Result (Option PagePlace) FaultKind
place_in [] = Ok None
place_in (b ∷ more) = if b == 64 then by_token more else by_text (b ∷ more)
