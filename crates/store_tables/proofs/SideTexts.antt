-- What each text of SQL on the sides of slips means under the second schema.
use Rattle.std.proofs.Common.{◌≡◌, pos, List, ℕ, [], ◌∷◌, Bool, true, false, codes, refl}
use Rattle.sqlite.specs.declared.types.Value.TheVariants.{Null, Int}
use Rattle.sqlite.specs.Term.{Term, lit, col}
use Rattle.sqlite.specs.Source.TheVariants.{Values}
use Rattle.sqlite.specs.Command.TheVariants.{Insert, Select, Delete}
use Rattle.sqlite_tied.specs.Compute.{everything}
use Rattle.sqlite.specs.Listing.{understood, reads_listing}
use Rattle.sqlite.proofs.Callers.{IsPlain, command_of}
use Rattle.store_tables.proofs.Finding.{simple}
use Rattle.store_tables.proofs.LinkTexts.{between_both}
use Rattle.store_tables.proofs.Texts.{by_key}
use Rattle.store_tables.specs.Schema.{archive_schema}

abbrev pub insert_side : List ℕ
insert_side = codes "INSERT INTO slip_line VALUES (?1, ?2, ?3, ?4, 0, 0, ?5, ?6, ?7)"

abbrev pub side_terms : List Term
side_terms = col 0 0 ∷ lit Null ∷ col 0 1 ∷ col 0 2 ∷ col 0 3 ∷ lit (Int (pos 0)) ∷ lit (Int (pos 0)) ∷ col 0 4
    ∷ col 0 5 ∷ col 0 6 ∷ []

pub insert_side_is : command_of (understood (archive_schema true) insert_side) ≡ Insert 5 (Values side_terms 10)
unfolding understood everything
insert_side_is = refl

pub insert_side_plain : IsPlain (understood (archive_schema true) insert_side)
unfolding understood everything
insert_side_plain = (refl, refl)

abbrev pub delete_sides : List ℕ
delete_sides = codes "DELETE FROM slip_line WHERE id >= ?1 AND id <= ?2"

pub delete_sides_is : command_of (understood (archive_schema true) delete_sides) ≡ Delete 5
    (record { lets = []; body = simple 10 between_both (col 1 0 ∷ []) [] })
unfolding understood everything
delete_sides_is = refl

pub delete_sides_plain : IsPlain (understood (archive_schema true) delete_sides)
unfolding understood everything
delete_sides_plain = (refl, refl)

abbrev pub side_columns : List Term
side_columns = col 1 2 ∷ col 1 3 ∷ col 1 4 ∷ col 1 6 ∷ col 1 7 ∷ col 1 8 ∷ col 1 9 ∷ []

abbrev pub sides_between : List ℕ
sides_between = codes
    "SELECT slip, side, no, depth, tag, text, dst FROM slip_line WHERE id >= ?1 AND id <= ?2 ORDER BY id"

pub sides_between_is : command_of (understood (archive_schema true) sides_between) ≡ Select
    (record { lets = []; body = simple 10 between_both side_columns by_key })
    (codes "slip" ∷ codes "side" ∷ codes "no" ∷ codes "depth" ∷ codes "tag" ∷ codes "text" ∷ codes "dst" ∷ [])
unfolding understood everything
sides_between_is = refl

-- it is plain under the first schema too, where nobody asks it
pub sides_between_plain : (b : Bool) → IsPlain (understood (archive_schema b) sides_between)
unfolding understood everything
sides_between_plain false = (refl, refl)
sides_between_plain true = (refl, refl)

pub sides_between_unlisted : reads_listing (archive_schema true) sides_between ≡ false
unfolding understood everything
sides_between_unlisted = refl
