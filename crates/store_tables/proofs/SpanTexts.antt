-- What each text of SQL on spans means under the second schema.
use Rattle.std.proofs.Common.{◌≡◌, pos, List, ℕ, [], ◌∷◌, Bool, true, false, codes, Err, refl}
use Rattle.sqlite.specs.declared.types.Value.TheVariants.{Null, Int}
use Rattle.sqlite.specs.Term.{lit, col}
use Rattle.sqlite.specs.Source.TheVariants.{Values}
use Rattle.sqlite.specs.Command.TheVariants.{Insert, Select, Delete, Update}
use Rattle.sqlite_resolve.specs.declared.error.CompileError.TheVariants.{NoSuchTable}
use Rattle.sqlite_tied.specs.Compute.{everything}
use Rattle.sqlite.specs.Listing.{understood, reads_listing, listing_schema}
use Rattle.sqlite.proofs.Callers.{IsPlain, command_of}
use Rattle.store_tables.proofs.Finding.{simple}
use Rattle.store_tables.proofs.Texts.{by_key, with_key}
use Rattle.store_tables.specs.Prepared.{IsOfSecond}
use Rattle.store_tables.specs.Schema.{archive_schema}

abbrev pub insert_span : List ℕ
insert_span = codes "INSERT INTO span (no, lo, hi) VALUES (?1, ?2, ?3)"

pub insert_span_is : command_of (understood (archive_schema true) insert_span) ≡ Insert 7
    (Values (col 0 0 ∷ lit Null ∷ col 0 1 ∷ col 0 2 ∷ []) 4)
unfolding understood everything
insert_span_is = refl

pub insert_span_plain : IsPlain (understood (archive_schema true) insert_span)
unfolding understood everything
insert_span_plain = (refl, refl)

abbrev pub delete_span : List ℕ
delete_span = codes "DELETE FROM span WHERE no = ?1"

pub delete_span_is : command_of (understood (archive_schema true) delete_span) ≡ Delete 7
    (record { lets = []; body = simple 12 (with_key 0) (col 1 0 ∷ []) [] })
unfolding understood everything
delete_span_is = refl

pub delete_span_plain : IsPlain (understood (archive_schema true) delete_span)
unfolding understood everything
delete_span_plain = (refl, refl)

abbrev pub set_version : List ℕ
set_version = codes "UPDATE meta SET version = 2"

pub set_version_is : (b : Bool) → command_of (understood (archive_schema b) set_version) ≡ Update 0
    (record {
      lets = [];
      body = simple 0 [] (col 1 0 ∷ col 1 0 ∷ lit Null ∷ lit (Int (pos 2)) ∷ col 1 3 ∷ col 1 4 ∷ [])
          [];
    })
unfolding understood everything
set_version_is b = refl

pub set_version_plain : (b : Bool) → IsPlain (understood (archive_schema b) set_version)
unfolding understood everything
set_version_plain b = (refl, refl)

abbrev pub select_spans : List ℕ
select_spans = codes "SELECT no, lo, hi FROM span ORDER BY no"

pub select_spans_is : command_of (understood (archive_schema true) select_spans) ≡ Select
    (record { lets = []; body = simple 12 [] (col 1 0 ∷ col 1 2 ∷ col 1 3 ∷ []) by_key })
    (codes "no" ∷ codes "lo" ∷ codes "hi" ∷ [])
unfolding understood everything
select_spans_is = refl

pub select_spans_plain : IsPlain (understood (archive_schema true) select_spans)
unfolding understood everything
select_spans_plain = (refl, refl)

pub select_spans_unlisted : reads_listing (archive_schema true) select_spans ≡ false
unfolding understood everything
select_spans_unlisted = refl

-- the first schema has no such table
select_spans_unknown : understood (archive_schema false) select_spans ≡ Err NoSuchTable
unfolding understood everything listing_schema
select_spans_unknown = refl

pub spans_of_second : IsOfSecond select_spans
spans_of_second = (select_spans_plain, select_spans_unknown)
