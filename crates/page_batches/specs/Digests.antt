-- The bytes of a page of which the digest is kept under the token: as those of a batch of register entries, with
-- `table` in place of `entries`, and each place as the page names it. So a page that comes again is known, whatever
-- numbers its places have by then. A rule of our own.
use Rattle.std.specs.Prelude.{ℕ, List, ◌∷◌, ◌++◌, map, codes, decimal}
use Rattle.std.specs.List.{flat_map}
use Rattle.csv.specs.Writing.{default_writer, row_text}
use Rattle.sha2.specs.Sha256.{sha256}
use Rattle.record_fields.specs.Words.{entry_kind_word}
use Rattle.commands.specs.Bytes.{mention_fields, or_empty, spelt}
use Rattle.page_entries.specs.declared.entries.PageEntry.{PageEntry}
use Rattle.page_entries.specs.declared.places.PagePlace.{PagePlace}
use Rattle.page_entries.specs.declared.places.PagePlace.TheVariants.{Number, Token, Path}

-- a number, `@` and a token, or a path
abbrev pub place_words : PagePlace → List ℕ
place_words (Number number) = decimal number
place_words (Token token) = 64 ∷ token
place_words (Path path) = path

abbrev pub entry_fields : PageEntry → List (List ℕ)
entry_fields e =
    entry_kind_word e.kind ∷ e.page ∷ decimal e.item.number ∷ or_empty spelt e.date.given ∷ or_empty place_words e.place
    ∷ e.text
    ∷ mention_fields e.mentions

-- `table,`, the number of the source, LF, and then each entry as a row of CSV
abbrev pub page_bytes : ℕ → List PageEntry → List ℕ
page_bytes source entries =
    codes "table," ++ (decimal source ++ 10 ∷ flat_map (row_text default_writer) (map entry_fields entries))

abbrev pub page_digest : ℕ → List PageEntry → List ℕ
page_digest source entries = sha256 (page_bytes source entries)
