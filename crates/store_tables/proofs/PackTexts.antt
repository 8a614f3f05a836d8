-- What each text of SQL on lines means: of the second schema, which has all lines of a record in one row, and the query
-- of the lines in rows of their own.
use Rattle.std.proofs.Common.{◌≡◌, pos, List, ℕ, [], ◌∷◌, Bool, true, false, codes, Err, refl}
use Rattle.sqlite.specs.declared.types.Value.TheVariants.{Null, Int}
use Rattle.sqlite.specs.Collation.TheVariants.{Binary}
use Rattle.sqlite.specs.Query.{Join, inner, end}
use Rattle.sqlite.specs.Term.{Term, lit, col, op2}
use Rattle.sqlite_sql.specs.declared.ops.BinaryOp.TheVariants.{Compare, Or}
use Rattle.sqlite_sql.specs.declared.ops.CompareOp.TheVariants.{Eq}
use Rattle.sqlite.specs.Source.TheVariants.{Values}
use Rattle.sqlite.specs.Command.TheVariants.{Insert, Select}
use Rattle.sqlite_resolve.specs.declared.error.CompileError.{CompileError}
use Rattle.sqlite_tied.specs.Compute.{everything}
use Rattle.sqlite.specs.Listing.{understood, reads_listing}
use Rattle.sqlite.proofs.Callers.{IsPlain, command_of}
use Rattle.store_tables.proofs.Finding.{joined, simple}
use Rattle.store_tables.proofs.Texts.{by_key, with_key}
use Rattle.store_tables.specs.Schema.{archive_schema}

abbrev pub insert_pack : List ℕ
insert_pack = codes "INSERT INTO line VALUES (?1, 0, 0, ?2, ?3, ?4)"

pub insert_pack_is : command_of (understood (archive_schema true) insert_pack) ≡ Insert 6
    (Values
    (col 0 0 ∷ lit Null ∷ lit (Int (pos 0)) ∷ lit (Int (pos 0)) ∷ col 0 1 ∷ col 0 2 ∷ col 0 3 ∷ [])
    7)
unfolding understood everything
insert_pack_is = refl

pub insert_pack_plain : IsPlain (understood (archive_schema true) insert_pack)
unfolding understood everything
insert_pack_plain = (refl, refl)

-- the first schema has a column more
pub insert_pack_unknown : (e : CompileError) × (understood (archive_schema false) insert_pack ≡ Err e)
unfolding understood everything
insert_pack_unknown = (_, refl)

abbrev pub select_packs : List ℕ
select_packs = codes "SELECT no, tag, text, dst FROM line ORDER BY no"

pub select_packs_is : command_of (understood (archive_schema true) select_packs) ≡ Select
    (record { lets = []; body = simple 11 [] (col 1 0 ∷ col 1 4 ∷ col 1 5 ∷ col 1 6 ∷ []) by_key })
    (codes "no" ∷ codes "tag" ∷ codes "text" ∷ codes "dst" ∷ [])
unfolding understood everything
select_packs_is = refl

-- it is plain under the first schema too, where nobody asks it
pub select_packs_plain : (b : Bool) → IsPlain (understood (archive_schema b) select_packs)
unfolding understood everything
select_packs_plain false = (refl, refl)
select_packs_plain true = (refl, refl)

pub select_packs_unlisted : reads_listing (archive_schema true) select_packs ≡ false
unfolding understood everything
select_packs_unlisted = refl

abbrev pub pack_at : List ℕ
pack_at = codes "SELECT no, tag, text, dst FROM line WHERE no = ?1 ORDER BY no"

pub pack_at_is : command_of (understood (archive_schema true) pack_at) ≡ Select
    (record { lets = []; body = simple 11 (with_key 0) (col 1 0 ∷ col 1 4 ∷ col 1 5 ∷ col 1 6 ∷ []) by_key })
    (codes "no" ∷ codes "tag" ∷ codes "text" ∷ codes "dst" ∷ [])
unfolding understood everything
pack_at_is = refl

pub pack_at_plain : (b : Bool) → IsPlain (understood (archive_schema b) pack_at)
unfolding understood everything
pack_at_plain false = (refl, refl)
pack_at_plain true = (refl, refl)

pub pack_at_unlisted : reads_listing (archive_schema true) pack_at ≡ false
unfolding understood everything
pack_at_unlisted = refl

abbrev pub tagged_by : List ℕ
tagged_by = codes
    "SELECT no FROM line WHERE tag = ?1 OR tag = ?2 OR tag = ?3 OR tag = ?4 OR tag = ?5 ORDER BY no"

-- whether the tag is that of a parameter
abbrev pub is_tag : ℕ → Term
is_tag place = op2 (Compare Eq Binary) (col 1 4) (col 0 place)

-- or that of one of five
abbrev pub with_tags : List Term
with_tags = op2 Or (op2 Or (op2 Or (op2 Or (is_tag 0) (is_tag 1)) (is_tag 2)) (is_tag 3)) (is_tag 4) ∷ []

pub tagged_by_is : command_of (understood (archive_schema true) tagged_by) ≡ Select
    (record { lets = []; body = simple 11 with_tags (col 1 0 ∷ []) by_key }) (codes "no" ∷ [])
unfolding understood everything
tagged_by_is = refl

pub tagged_by_plain : (b : Bool) → IsPlain (understood (archive_schema b) tagged_by)
unfolding understood everything
tagged_by_plain false = (refl, refl)
tagged_by_plain true = (refl, refl)

pub tagged_by_unlisted : reads_listing (archive_schema true) tagged_by ≡ false
unfolding understood everything
tagged_by_unlisted = refl

-- the same if the number has a row of a closed batch
abbrev pub closed_pack_at : List ℕ
closed_pack_at = codes
    "SELECT l.no, tag, text, dst FROM record r, batch b, line l WHERE r.no=?1 AND b.no=batch AND is_open=0 AND l.no=?1"

-- what stands at each place of its FROM, and its tests
abbrev pub closed_from : Join
closed_from = inner 2 (inner 1 (inner 11 end))

abbrev pub closed_tests : List Term
closed_tests = op2 (Compare Eq Binary) (col 1 0) (col 0 0) ∷ op2 (Compare Eq Binary) (col 2 0) (col 1 3)
    ∷ op2 (Compare Eq Binary) (col 2 2) (lit (Int (pos 0))) ∷ op2 (Compare Eq Binary) (col 3 0) (col 0 0) ∷ []

abbrev pub closed_shown : List Term
closed_shown = col 3 0 ∷ col 3 4 ∷ col 3 5 ∷ col 3 6 ∷ []

pub closed_pack_at_is : command_of (understood (archive_schema true) closed_pack_at) ≡ Select
    (record { lets = []; body = joined closed_from closed_tests closed_shown })
    (codes "no" ∷ codes "tag" ∷ codes "text" ∷ codes "dst" ∷ [])
unfolding understood everything
closed_pack_at_is = refl

pub closed_pack_at_plain : (b : Bool) → IsPlain (understood (archive_schema b) closed_pack_at)
unfolding understood everything
closed_pack_at_plain false = (refl, refl)
closed_pack_at_plain true = (refl, refl)

pub closed_pack_at_unlisted : reads_listing (archive_schema true) closed_pack_at ≡ false
unfolding understood everything
closed_pack_at_unlisted = refl

-- ---- the lines of the first schema
abbrev pub select_lines : List ℕ
select_lines = codes "SELECT no, depth, tag, text, dst FROM line ORDER BY rowid"

pub select_lines_is : command_of (understood (archive_schema false) select_lines) ≡ Select
    (record { lets = []; body = simple 3 [] (col 1 2 ∷ col 1 4 ∷ col 1 5 ∷ col 1 6 ∷ col 1 7 ∷ []) by_key })
    (codes "no" ∷ codes "depth" ∷ codes "tag" ∷ codes "text" ∷ codes "dst" ∷ [])
unfolding understood everything
select_lines_is = refl

pub select_lines_plain : (b : Bool) → IsPlain (understood (archive_schema b) select_lines)
unfolding understood everything
select_lines_plain false = (refl, refl)
select_lines_plain true = (refl, refl)

pub select_lines_unlisted : reads_listing (archive_schema false) select_lines ≡ false
unfolding understood everything
select_lines_unlisted = refl
