-- What each text of SQL on what is looked for means under the second schema.
use Rattle.std.proofs.Common.{◌≡◌, List, ℕ, [], ◌∷◌, true, false, codes, Err, refl}
use Rattle.sqlite.specs.declared.types.Value.TheVariants.{Null}
use Rattle.sqlite.specs.Collation.TheVariants.{Binary}
use Rattle.sqlite.specs.Term.{Term, lit, col, op2}
use Rattle.sqlite_sql.specs.declared.ops.BinaryOp.TheVariants.{Compare}
use Rattle.sqlite_sql.specs.declared.ops.CompareOp.TheVariants.{Eq}
use Rattle.sqlite.specs.Source.TheVariants.{Values}
use Rattle.sqlite.specs.Command.TheVariants.{Insert, Select, Delete}
use Rattle.sqlite_resolve.specs.declared.error.CompileError.TheVariants.{NoSuchTable}
use Rattle.sqlite_tied.specs.Compute.{everything}
use Rattle.sqlite.specs.Listing.{understood, reads_listing, listing_schema}
use Rattle.sqlite.proofs.Callers.{IsPlain, command_of}
use Rattle.store_tables.proofs.Finding.{simple}
use Rattle.store_tables.proofs.Texts.{by_key, with_key}
use Rattle.store_tables.specs.Prepared.{IsOfSecond}
use Rattle.store_tables.specs.Schema.{archive_schema}

abbrev pub insert_sought : List ℕ
insert_sought = codes "INSERT INTO sought (no, text, dst) VALUES (?1, ?2, ?3)"

pub insert_sought_is : command_of (understood (archive_schema true) insert_sought) ≡ Insert 9
    (Values (col 0 0 ∷ lit Null ∷ col 0 1 ∷ col 0 2 ∷ []) 4)
unfolding understood everything
insert_sought_is = refl

pub insert_sought_plain : IsPlain (understood (archive_schema true) insert_sought)
unfolding understood everything
insert_sought_plain = (refl, refl)

abbrev pub delete_sought : List ℕ
delete_sought = codes "DELETE FROM sought WHERE no = ?1"

pub delete_sought_is : command_of (understood (archive_schema true) delete_sought) ≡ Delete 9
    (record { lets = []; body = simple 14 (with_key 0) (col 1 0 ∷ []) [] })
unfolding understood everything
delete_sought_is = refl

pub delete_sought_plain : IsPlain (understood (archive_schema true) delete_sought)
unfolding understood everything
delete_sought_plain = (refl, refl)

abbrev pub select_soughts : List ℕ
select_soughts = codes "SELECT no, text, dst FROM sought ORDER BY no"

pub select_soughts_is : command_of (understood (archive_schema true) select_soughts) ≡ Select
    (record { lets = []; body = simple 14 [] (col 1 0 ∷ col 1 2 ∷ col 1 3 ∷ []) by_key })
    (codes "no" ∷ codes "text" ∷ codes "dst" ∷ [])
unfolding understood everything
select_soughts_is = refl

pub select_soughts_plain : IsPlain (understood (archive_schema true) select_soughts)
unfolding understood everything
select_soughts_plain = (refl, refl)

pub select_soughts_unlisted : reads_listing (archive_schema true) select_soughts ≡ false
unfolding understood everything
select_soughts_unlisted = refl

select_soughts_unknown : understood (archive_schema false) select_soughts ≡ Err NoSuchTable
unfolding understood everything listing_schema
select_soughts_unknown = refl

pub soughts_of_second : IsOfSecond select_soughts
soughts_of_second = (select_soughts_plain, select_soughts_unknown)

abbrev pub sought_by : List ℕ
sought_by = codes "SELECT no FROM sought WHERE text = ?1 ORDER BY no"

pub sought_by_is : command_of (understood (archive_schema true) sought_by) ≡ Select
    (record { lets = []; body = simple 14 (with_key 2) (col 1 0 ∷ []) by_key }) (codes "no" ∷ [])
unfolding understood everything
sought_by_is = refl

pub sought_by_plain : IsPlain (understood (archive_schema true) sought_by)
unfolding understood everything
sought_by_plain = (refl, refl)

pub sought_by_unlisted : reads_listing (archive_schema true) sought_by ≡ false
unfolding understood everything
sought_by_unlisted = refl

sought_by_unknown : understood (archive_schema false) sought_by ≡ Err NoSuchTable
unfolding understood everything listing_schema
sought_by_unknown = refl

pub by_of_second : IsOfSecond sought_by
by_of_second = (sought_by_plain, sought_by_unknown)

abbrev pub sought_by_of : List ℕ
sought_by_of = codes "SELECT no FROM sought WHERE text = ?1 AND dst = ?2 ORDER BY no"

-- the tests of a text and of a number
abbrev pub with_text_of : List Term
with_text_of = op2 (Compare Eq Binary) (col 1 2) (col 0 0) ∷ op2 (Compare Eq Binary) (col 1 3) (col 0 1) ∷ []

pub sought_by_of_is : command_of (understood (archive_schema true) sought_by_of) ≡ Select
    (record { lets = []; body = simple 14 with_text_of (col 1 0 ∷ []) by_key }) (codes "no" ∷ [])
unfolding understood everything
sought_by_of_is = refl

pub sought_by_of_plain : IsPlain (understood (archive_schema true) sought_by_of)
unfolding understood everything
sought_by_of_plain = (refl, refl)

pub sought_by_of_unlisted : reads_listing (archive_schema true) sought_by_of ≡ false
unfolding understood everything
sought_by_of_unlisted = refl

sought_by_of_unknown : understood (archive_schema false) sought_by_of ≡ Err NoSuchTable
unfolding understood everything listing_schema
sought_by_of_unknown = refl

pub by_of_of_second : IsOfSecond sought_by_of
by_of_of_second = (sought_by_of_plain, sought_by_of_unknown)
