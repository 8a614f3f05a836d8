-- What each text of SQL on values of before means under the second schema.
use Rattle.std.proofs.Common.{◌≡◌, List, ℕ, [], ◌∷◌, true, false, codes, Err, refl}
use Rattle.sqlite.specs.declared.types.Value.TheVariants.{Null}
use Rattle.sqlite.specs.Term.{lit, col}
use Rattle.sqlite.specs.Source.TheVariants.{Values}
use Rattle.sqlite.specs.Command.TheVariants.{Insert, Select}
use Rattle.sqlite_resolve.specs.declared.error.CompileError.TheVariants.{NoSuchTable}
use Rattle.sqlite_tied.specs.Compute.{everything}
use Rattle.sqlite.specs.Listing.{understood, reads_listing, listing_schema}
use Rattle.sqlite.proofs.Callers.{IsPlain, command_of}
use Rattle.store_tables.proofs.Finding.{simple}
use Rattle.store_tables.proofs.Texts.{by_key, with_key}
use Rattle.store_tables.specs.Prepared.{IsOfSecond}
use Rattle.store_tables.specs.Schema.{archive_schema}

abbrev pub insert_past : List ℕ
insert_past = codes "INSERT INTO past (no, token, text) VALUES (?1, ?2, ?3)"

pub insert_past_is : command_of (understood (archive_schema true) insert_past) ≡ Insert 10
    (Values (lit Null ∷ lit Null ∷ col 0 0 ∷ col 0 1 ∷ col 0 2 ∷ []) 5)
unfolding understood everything
insert_past_is = refl

pub insert_past_plain : IsPlain (understood (archive_schema true) insert_past)
unfolding understood everything
insert_past_plain = (refl, refl)

abbrev pub pasts_at : List ℕ
pasts_at = codes "SELECT id, token, text FROM past WHERE no = ?1 ORDER BY id"

pub pasts_at_is : command_of (understood (archive_schema true) pasts_at) ≡ Select
    (record { lets = []; body = simple 15 (with_key 2) (col 1 0 ∷ col 1 3 ∷ col 1 4 ∷ []) by_key })
    (codes "id" ∷ codes "token" ∷ codes "text" ∷ [])
unfolding understood everything
pasts_at_is = refl

pub pasts_at_plain : IsPlain (understood (archive_schema true) pasts_at)
unfolding understood everything
pasts_at_plain = (refl, refl)

pub pasts_at_unlisted : reads_listing (archive_schema true) pasts_at ≡ false
unfolding understood everything
pasts_at_unlisted = refl

pasts_at_unknown : understood (archive_schema false) pasts_at ≡ Err NoSuchTable
unfolding understood everything listing_schema
pasts_at_unknown = refl

pub pasts_of_second : IsOfSecond pasts_at
pasts_of_second = (pasts_at_plain, pasts_at_unknown)
