-- What each text of SQL on links means under the second schema.
use Rattle.std.proofs.Common.{◌≡◌, List, ℕ, [], ◌∷◌, true, false, codes, Err, refl}
use Rattle.sqlite.specs.declared.types.Value.TheVariants.{Null}
use Rattle.sqlite.specs.Collation.TheVariants.{Binary}
use Rattle.sqlite.specs.Term.{Term, lit, col, op2}
use Rattle.sqlite_sql.specs.declared.ops.BinaryOp.TheVariants.{Compare}
use Rattle.sqlite_sql.specs.declared.ops.CompareOp.TheVariants.{Ge, Le}
use Rattle.sqlite.specs.Source.TheVariants.{Values}
use Rattle.sqlite.specs.Command.TheVariants.{Insert, Select, Delete}
use Rattle.sqlite_resolve.specs.declared.error.CompileError.TheVariants.{NoSuchTable}
use Rattle.sqlite_tied.specs.Compute.{everything}
use Rattle.sqlite.specs.Listing.{understood, reads_listing, listing_schema}
use Rattle.sqlite.proofs.Callers.{IsPlain, command_of}
use Rattle.store_tables.proofs.Finding.{simple}
use Rattle.store_tables.proofs.Texts.{by_key, with_key}
use Rattle.store_tables.specs.Prepared.{IsOfSecond}
use Rattle.store_tables.specs.Schema.{archive_schema}

abbrev pub insert_link : List ℕ
insert_link = codes "INSERT INTO link (id) VALUES (?1)"

pub insert_link_is : command_of (understood (archive_schema true) insert_link) ≡ Insert 8
    (Values (col 0 0 ∷ lit Null ∷ []) 2)
unfolding understood everything
insert_link_is = refl

pub insert_link_plain : IsPlain (understood (archive_schema true) insert_link)
unfolding understood everything
insert_link_plain = (refl, refl)

abbrev pub delete_link : List ℕ
delete_link = codes "DELETE FROM link WHERE id = ?1"

pub delete_link_is : command_of (understood (archive_schema true) delete_link) ≡ Delete 8
    (record { lets = []; body = simple 13 (with_key 0) (col 1 0 ∷ []) [] })
unfolding understood everything
delete_link_is = refl

pub delete_link_plain : IsPlain (understood (archive_schema true) delete_link)
unfolding understood everything
delete_link_plain = (refl, refl)

abbrev pub select_links : List ℕ
select_links = codes "SELECT id FROM link ORDER BY id"

pub select_links_is : command_of (understood (archive_schema true) select_links) ≡ Select
    (record { lets = []; body = simple 13 [] (col 1 0 ∷ []) by_key }) (codes "id" ∷ [])
unfolding understood everything
select_links_is = refl

pub select_links_plain : IsPlain (understood (archive_schema true) select_links)
unfolding understood everything
select_links_plain = (refl, refl)

pub select_links_unlisted : reads_listing (archive_schema true) select_links ≡ false
unfolding understood everything
select_links_unlisted = refl

select_links_unknown : understood (archive_schema false) select_links ≡ Err NoSuchTable
unfolding understood everything listing_schema
select_links_unknown = refl

pub links_of_second : IsOfSecond select_links
links_of_second = (select_links_plain, select_links_unknown)

abbrev pub links_between : List ℕ
links_between = codes "SELECT id FROM link WHERE id >= ?1 AND id <= ?2 ORDER BY id"

-- the tests of two bounds
abbrev pub between_both : List Term
between_both = op2 (Compare Ge Binary) (col 1 0) (col 0 0) ∷ op2 (Compare Le Binary) (col 1 0) (col 0 1) ∷ []

pub links_between_is : command_of (understood (archive_schema true) links_between) ≡ Select
    (record { lets = []; body = simple 13 between_both (col 1 0 ∷ []) by_key }) (codes "id" ∷ [])
unfolding understood everything
links_between_is = refl

pub links_between_plain : IsPlain (understood (archive_schema true) links_between)
unfolding understood everything
links_between_plain = (refl, refl)

pub links_between_unlisted : reads_listing (archive_schema true) links_between ≡ false
unfolding understood everything
links_between_unlisted = refl

links_between_unknown : understood (archive_schema false) links_between ≡ Err NoSuchTable
unfolding understood everything listing_schema
links_between_unknown = refl

pub between_of_second : IsOfSecond links_between
between_of_second = (links_between_plain, links_between_unknown)
