-- What makes the tables that the second schema has beside the first one, each by its text.
use Rattle.std.proofs.Common.{◌≡◌, List, ℕ, [], ◌∷◌, false, codes, Ok, refl}
use Rattle.sqlite.specs.Compile.{index_defined_by, table_defined_by}
use Rattle.sqlite_schema.specs.Names.{same_name}
use Rattle.sqlite_tied.specs.Compute.{everything}
use Rattle.sqlite.specs.Listing.{understood}
use Rattle.store_tables.specs.Creating.{IsCreate, IsCreateIndex, IsDrop}
use Rattle.store_tables.specs.Schema.{
  archive_schema,
  both_and,
  lines,
  links,
  packs,
  pasts,
  slip_lines,
  slip_packs,
  sought_by_text,
  soughts,
  spans,
  without_record_lines,
}
use Rattle.store_tables.proofs.Texts.{create_slip_line, slip_line_is}

abbrev pub drop_lines : List ℕ
drop_lines = codes "DROP TABLE line"

abbrev pub drop_slip_lines : List ℕ
drop_slip_lines = codes "DROP TABLE slip_line"

abbrev pub create_packs : List ℕ
create_packs = codes
    "CREATE TABLE line (no INTEGER PRIMARY KEY REFERENCES record (no) ON DELETE RESTRICT, pos INTEGER NOT NULL, depth INTEGER NOT NULL, tag TEXT NOT NULL, text TEXT, dst INTEGER) STRICT"

abbrev pub create_spans : List ℕ
create_spans = codes
    "CREATE TABLE span (no INTEGER PRIMARY KEY REFERENCES record (no) ON DELETE RESTRICT, lo INTEGER, hi INTEGER) STRICT"

abbrev pub create_links : List ℕ
create_links = codes "CREATE TABLE link (id INTEGER PRIMARY KEY) STRICT"

abbrev pub create_soughts : List ℕ
create_soughts = codes
    "CREATE TABLE sought (no INTEGER PRIMARY KEY REFERENCES record (no) ON DELETE RESTRICT, text TEXT NOT NULL, dst INTEGER) STRICT"

abbrev pub create_pasts : List ℕ
create_pasts = codes
    "CREATE TABLE past (id INTEGER PRIMARY KEY, no INTEGER NOT NULL, token TEXT NOT NULL, text TEXT NOT NULL) STRICT"

abbrev pub create_sought_by_text : List ℕ
create_sought_by_text = codes "CREATE INDEX sought_by_text ON sought (text, dst)"

packs_is : (table_defined_by create_packs ≡ Ok (record packs { tree = 0 }))
unfolding understood everything
packs_is = refl

spans_is : (table_defined_by create_spans ≡ Ok (record spans { tree = 0 }))
unfolding understood everything
spans_is = refl

links_is : (table_defined_by create_links ≡ Ok (record links { tree = 0 }))
unfolding understood everything
links_is = refl

soughts_is : (table_defined_by create_soughts ≡ Ok (record soughts { tree = 0 }))
unfolding understood everything
soughts_is = refl

pasts_is : (table_defined_by create_pasts ≡ Ok (record pasts { tree = 0 }))
unfolding understood everything
pasts_is = refl

sought_by_text_is : (index_defined_by soughts create_sought_by_text ≡ Ok (record sought_by_text { tree = 0 }))
unfolding understood everything
sought_by_text_is = refl

pub drops_lines : IsDrop (archive_schema false) drop_lines 3 lines
unfolding understood everything same_name
drops_lines = record {
  command = refl;
  whole = refl;
  plain = (refl, refl);
  listed = refl;
  stands_alone = refl;
  counts = refl;
}

pub drops_slip_lines : IsDrop without_record_lines drop_slip_lines 5 slip_lines
unfolding understood everything same_name
drops_slip_lines = record {
  command = refl;
  whole = refl;
  plain = (refl, refl);
  listed = refl;
  stands_alone = refl;
  counts = refl;
}

pub makes_slip_packs : IsCreate (both_and []) create_slip_line (record slip_packs { tree = 0 })
unfolding understood everything
makes_slip_packs = record { command = refl; whole = refl; plain = (refl, refl); defined = slip_line_is; counts = refl }

pub makes_packs : IsCreate (both_and (slip_packs ∷ [])) create_packs (record packs { tree = 0 })
unfolding understood everything
makes_packs = record { command = refl; whole = refl; plain = (refl, refl); defined = packs_is; counts = refl }

pub makes_spans : IsCreate (both_and (slip_packs ∷ packs ∷ [])) create_spans (record spans { tree = 0 })
unfolding understood everything
makes_spans = record { command = refl; whole = refl; plain = (refl, refl); defined = spans_is; counts = refl }

pub makes_links : IsCreate (both_and (slip_packs ∷ packs ∷ spans ∷ [])) create_links (record links { tree = 0 })
unfolding understood everything
makes_links = record { command = refl; whole = refl; plain = (refl, refl); defined = links_is; counts = refl }

pub makes_soughts : IsCreate (both_and (slip_packs ∷ packs ∷ spans ∷ links ∷ [])) create_soughts
    (record soughts { tree = 0 })
unfolding understood everything
makes_soughts = record { command = refl; whole = refl; plain = (refl, refl); defined = soughts_is; counts = refl }

pub makes_pasts : IsCreate (both_and (slip_packs ∷ packs ∷ spans ∷ links ∷ soughts ∷ [])) create_pasts
    (record pasts { tree = 0 })
unfolding understood everything
makes_pasts = record { command = refl; whole = refl; plain = (refl, refl); defined = pasts_is; counts = refl }

pub makes_sought_by_text : IsCreateIndex
    (both_and (slip_packs ∷ packs ∷ spans ∷ links ∷ soughts ∷ pasts ∷ [])) create_sought_by_text 9
    soughts (record sought_by_text { tree = 0 })
unfolding understood everything
makes_sought_by_text = record {
  command = refl;
  whole = refl;
  plain = (refl, refl);
  listed = refl;
  defined = sought_by_text_is;
}
