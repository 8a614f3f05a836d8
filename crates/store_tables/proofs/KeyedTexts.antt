-- What each query of one number or one token means under the schema of an archive, as computing finds it.
use Rattle.std.proofs.Common.{◌≡◌, ℕ, List, [], ◌∷◌, codes, true, false, refl, Bool}
use Rattle.sqlite.specs.Term.{col}
use Rattle.sqlite.specs.Command.TheVariants.{Select}
use Rattle.sqlite_tied.specs.Compute.{everything}
use Rattle.sqlite.specs.Listing.{understood, reads_listing}
use Rattle.sqlite.proofs.Callers.{IsPlain, command_of}
use Rattle.store_tables.proofs.Finding.{simple}
use Rattle.store_tables.proofs.Texts.{with_key, by_key}
use Rattle.store_tables.specs.Schema.{archive_schema}

abbrev pub batch_at : List ℕ
batch_at = codes "SELECT no, is_open FROM batch WHERE no = ?1 ORDER BY no"

pub batch_at_is : (b : Bool) → command_of (understood (archive_schema b) batch_at) ≡ Select
    (record { lets = []; body = simple 1 (with_key 0) (col 1 0 ∷ col 1 2 ∷ []) by_key })
    (codes "no" ∷ codes "is_open" ∷ [])
unfolding understood everything
batch_at_is b = refl

pub batch_at_plain : (b : Bool) → IsPlain (understood (archive_schema b) batch_at)
unfolding understood everything
batch_at_plain b = (refl, refl)

pub batch_at_unlisted : (b : Bool) → reads_listing (archive_schema b) batch_at ≡ false
unfolding understood everything
batch_at_unlisted b = refl

abbrev pub record_at : List ℕ
record_at = codes "SELECT no, batch FROM record WHERE no = ?1 ORDER BY no"

pub record_at_is : (b : Bool) → command_of (understood (archive_schema b) record_at) ≡ Select
    (record { lets = []; body = simple 2 (with_key 0) (col 1 0 ∷ col 1 3 ∷ []) by_key })
    (codes "no" ∷ codes "batch" ∷ [])
unfolding understood everything
record_at_is b = refl

pub record_at_plain : (b : Bool) → IsPlain (understood (archive_schema b) record_at)
unfolding understood everything
record_at_plain b = (refl, refl)

pub record_at_unlisted : (b : Bool) → reads_listing (archive_schema b) record_at ≡ false
unfolding understood everything
record_at_unlisted b = refl

abbrev pub receipts_at : List ℕ
receipts_at = codes "SELECT token, digest, first, count FROM receipt WHERE token = ?1 ORDER BY id"

pub receipts_at_is : (b : Bool) → command_of (understood (archive_schema b) receipts_at) ≡ Select
    (record { lets = []; body = simple 4 (with_key 2) (col 1 2 ∷ col 1 3 ∷ col 1 4 ∷ col 1 5 ∷ []) by_key })
    (codes "token" ∷ codes "digest" ∷ codes "first" ∷ codes "count" ∷ [])
unfolding understood everything
receipts_at_is false = refl
receipts_at_is true = refl

pub receipts_at_plain : (b : Bool) → IsPlain (understood (archive_schema b) receipts_at)
unfolding understood everything
receipts_at_plain false = (refl, refl)
receipts_at_plain true = (refl, refl)

pub receipts_at_unlisted : (b : Bool) → reads_listing (archive_schema b) receipts_at ≡ false
unfolding understood everything
receipts_at_unlisted false = refl
receipts_at_unlisted true = refl

abbrev pub slip_at : List ℕ
slip_at = codes "SELECT no, keep, gone, undone FROM slip WHERE no = ?1 ORDER BY no"

pub slip_at_is : (b : Bool) → command_of (understood (archive_schema b) slip_at) ≡ Select
    (record { lets = []; body = simple 5 (with_key 0) (col 1 0 ∷ col 1 2 ∷ col 1 3 ∷ col 1 4 ∷ []) by_key })
    (codes "no" ∷ codes "keep" ∷ codes "gone" ∷ codes "undone" ∷ [])
unfolding understood everything
slip_at_is false = refl
slip_at_is true = refl

pub slip_at_plain : (b : Bool) → IsPlain (understood (archive_schema b) slip_at)
unfolding understood everything
slip_at_plain false = (refl, refl)
slip_at_plain true = (refl, refl)

pub slip_at_unlisted : (b : Bool) → reads_listing (archive_schema b) slip_at ≡ false
unfolding understood everything
slip_at_unlisted false = refl
slip_at_unlisted true = refl
