-- What each statement on a batch and its rows means under the schema of an archive, as computing finds it.
use Rattle.std.proofs.Common.{◌≡◌, pos, true, false, List, ℕ, [], ◌∷◌, codes, refl, Bool}
use Rattle.sqlite.specs.declared.types.Value.TheVariants.{Null, Int}
use Rattle.sqlite.specs.Term.{Term, lit, col, op2}
use Rattle.sqlite_sql.specs.declared.ops.BinaryOp.TheVariants.{Compare}
use Rattle.sqlite_sql.specs.declared.ops.CompareOp.TheVariants.{Eq, Ge}
use Rattle.sqlite.specs.Collation.TheVariants.{Binary}
use Rattle.sqlite.specs.Command.TheVariants.{Delete, Select, Update}
use Rattle.sqlite_tied.specs.Compute.{everything}
use Rattle.sqlite.specs.Listing.{understood, reads_listing}
use Rattle.sqlite.proofs.Callers.{IsPlain, command_of}
use Rattle.store_tables.proofs.Finding.{simple}
use Rattle.store_tables.proofs.Texts.{with_key, by_key, lines_place, lines_tree, number_column}
use Rattle.store_tables.specs.Schema.{archive_schema}

abbrev pub close_batch : List ℕ
close_batch = codes "UPDATE batch SET is_open = 0 WHERE no = ?1"

pub close_batch_is : (b : Bool) → command_of (understood (archive_schema b) close_batch) ≡ Update 1
    (record {
      lets = [];
      body = simple 1 (with_key 0) (col 1 0 ∷ col 1 0 ∷ lit Null ∷ lit (Int (pos 0)) ∷ []) [];
    })
unfolding understood everything
close_batch_is b = refl

pub close_batch_plain : (b : Bool) → IsPlain (understood (archive_schema b) close_batch)
unfolding understood everything
close_batch_plain b = (refl, refl)

abbrev pub delete_batch : List ℕ
delete_batch = codes "DELETE FROM batch WHERE no = ?1"

pub delete_batch_is : (b : Bool) → command_of (understood (archive_schema b) delete_batch) ≡ Delete 1
    (record { lets = []; body = simple 1 (with_key 0) (col 1 0 ∷ []) [] })
unfolding understood everything
delete_batch_is b = refl

pub delete_batch_plain : (b : Bool) → IsPlain (understood (archive_schema b) delete_batch)
unfolding understood everything
delete_batch_plain b = (refl, refl)

abbrev pub delete_lines_from : List ℕ
delete_lines_from = codes "DELETE FROM line WHERE no = ?1 AND pos >= ?2"

-- where a row has the place of its line
abbrev place_column : Bool → ℕ
place_column false = 3
place_column true = 2

-- the tests of a number and of a place
abbrev pub from_place : Bool → List Term
from_place b = op2 (Compare Eq Binary) (col 1 (number_column b)) (col 0 0)
    ∷ op2 (Compare Ge Binary) (col 1 (place_column b)) (col 0 1) ∷ []

pub delete_lines_from_is : (b : Bool) → command_of (understood (archive_schema b) delete_lines_from) ≡
    Delete (lines_place b)
    (record { lets = []; body = simple (lines_tree b) (from_place b) (col 1 0 ∷ []) [] })
unfolding understood everything
delete_lines_from_is false = refl
delete_lines_from_is true = refl

pub delete_lines_from_plain : (b : Bool) → IsPlain (understood (archive_schema b) delete_lines_from)
unfolding understood everything
delete_lines_from_plain false = (refl, refl)
delete_lines_from_plain true = (refl, refl)

abbrev pub numbers_in : List ℕ
numbers_in = codes "SELECT no FROM record WHERE batch = ?1 ORDER BY no"

pub numbers_in_is : (b : Bool) → command_of (understood (archive_schema b) numbers_in) ≡ Select
    (record { lets = []; body = simple 2 (with_key 3) (col 1 0 ∷ []) by_key }) (codes "no" ∷ [])
unfolding understood everything
numbers_in_is b = refl

pub numbers_in_plain : (b : Bool) → IsPlain (understood (archive_schema b) numbers_in)
unfolding understood everything
numbers_in_plain b = (refl, refl)

pub numbers_in_unlisted : (b : Bool) → reads_listing (archive_schema b) numbers_in ≡ false
unfolding understood everything
numbers_in_unlisted b = refl

abbrev pub own_lines : List ℕ
own_lines = codes "SELECT no FROM line WHERE no = ?1 ORDER BY rowid"

pub own_lines_is : (b : Bool) → command_of (understood (archive_schema b) own_lines) ≡ Select
    (record {
      lets = [];
      body = simple (lines_tree b) (with_key (number_column b)) (col 1 (number_column b) ∷ []) by_key;
    }) (codes "no" ∷ [])
unfolding understood everything
own_lines_is false = refl
own_lines_is true = refl

pub own_lines_plain : (b : Bool) → IsPlain (understood (archive_schema b) own_lines)
unfolding understood everything
own_lines_plain false = (refl, refl)
own_lines_plain true = (refl, refl)

pub own_lines_unlisted : (b : Bool) → reads_listing (archive_schema b) own_lines ≡ false
unfolding understood everything
own_lines_unlisted false = refl
own_lines_unlisted true = refl
