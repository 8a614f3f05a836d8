-- What an INSERT of eight links makes of the rows that the tables hold.
use Rattle.std.proofs.Common.{
  ◌≡◌,
  ℕ,
  ◌&&◌,
  Bool,
  List,
  [],
  ◌∷◌,
  map,
  drop,
  not,
  true,
  false,
  codes,
  Ok,
  refl,
  sym,
  ap,
  ap₂,
  subst,
  ◌∙◌,
  arith,
}
use Rattle.std.specs.List.{AllByRecursion}
use Rattle.sqlite.specs.declared.types.Value.{Value}
use Rattle.sqlite.specs.declared.types.Value.TheVariants.{Null, Int}
use Rattle.sqlite.specs.Order.{Row}
use Rattle.sqlite.specs.Term.{Term, col, lit}
use Rattle.sqlite.specs.Tree.{Trees, put_row}
use Rattle.sqlite.specs.Command.TheVariants.{Insert}
use Rattle.sqlite.specs.Source.TheVariants.{Values}
use Rattle.sqlite_catalog.specs.Listing.{IsSound}
use Rattle.sqlite_schema.specs.declared.schema.Keys.TheVariants.{Enforced}
use Rattle.sqlite_tied.specs.Compute.{everything}
use Rattle.sqlite.specs.Rowids.TheVariants.{Chosen}
use Rattle.sqlite_rules.specs.Cast.{cast_row}
use Rattle.sqlite_rules.specs.Edit.{Applies, Edit, are_fresh, edit_of, edited, is_taken, numbered, put_all}
use Rattle.sqlite.specs.State.{State, Executes}
use Rattle.sqlite.proofs.Callers.{IsPlain, command_of, runs_as, one_step, statement_of}
use Rattle.sqlite.specs.Listing.{understood}
use Rattle.store_tables.specs.Reading.{AreTyped, IsTypedLink}
use Rattle.store_tables.specs.Schema.{archive_schema, links}
use Rattle.store_tables.specs.Rows.{
  Holds,
  Rows,
  Keeps,
  LinkRow,
  integer_at,
  link_place,
  link_values,
  with_link,
}
use Rattle.store_tables.proofs.LaterStatements.{BecomesDated, beside, kept_of, late_same}
use Rattle.store_tables.proofs.LaterTyped.{typed_link}
use Rattle.store_tables.proofs.LinkStatements.{place_is_pair, taken_by_place}
use Rattle.store_tables.proofs.Pairing.{integer_order, put_at_place}
use Rattle.store_tables.proofs.Writing.{inserts, cast_int, cast_null}
use Rattle.store_tables.proofs.Coded.{keeps_on, keeps_put_at}
use Rattle.bulk_inserts.specs.Links.{AreNewLinks, eight, with_links}

-- ---- the statement
abbrev pub eight_links : List ℕ
eight_links = codes "INSERT INTO link (id) VALUES (?1), (?2), (?3), (?4), (?5), (?6), (?7), (?8)"

abbrev eight_terms : List Term
eight_terms =
    col 0 0 ∷ lit Null ∷ col 0 1 ∷ lit Null ∷ col 0 2 ∷ lit Null ∷ col 0 3 ∷ lit Null ∷ col 0 4 ∷ lit Null
    ∷ col 0 5 ∷ lit Null ∷ col 0 6 ∷ lit Null ∷ col 0 7 ∷ lit Null ∷ []

eight_links_is : command_of (understood (archive_schema true) eight_links) ≡ Insert 8 (Values eight_terms 2)
unfolding understood everything
eight_links_is = refl

eight_links_plain : IsPlain (understood (archive_schema true) eight_links)
unfolding understood everything
eight_links_plain = (refl, refl)

-- ---- what it does to the trees
-- a link as the statement gets it, and as the row that the statement makes of it
abbrev pub given : LinkRow → Value
given l = Int (integer_at (link_place l))

abbrev source_of : LinkRow → Row
source_of l = given l ∷ Null ∷ []

abbrev inserting : Trees → List LinkRow → Edit
inserting db ls = edit_of db links [] Chosen 0 (map source_of ls)

cast_rows : (ls : List LinkRow) → map (λ s. cast_row links (drop 0 s)) (map source_of ls) ≡ map link_values ls
cast_rows [] = refl
cast_rows (l ∷ ls) = ap₂ (λ r rs. r ∷ rs) (one l) (cast_rows ls)
  where
    one : (l : LinkRow) → cast_row links (source_of l) ≡ link_values l
    one l = rw (cast_int (integer_at (link_place l)), cast_null) refl

-- they have their rowids
stay : (rows : List Row) (ls : List LinkRow) → numbered Chosen rows (map link_values ls) ≡ map link_values ls
stay rows [] = refl
stay rows (l ∷ ls) = ap (λ rs. link_values l ∷ rs) (stay (put_row (link_values l) rows) ls)

news_are : (db : Trees) (ls : List LinkRow) → (inserting db ls).news ≡ map link_values ls
news_are db ls = ap (numbered Chosen (db 13)) (cast_rows ls) ∙ stay (db 13) ls

-- ---- what it makes of the rows
links_on : (ls : List LinkRow) (rows : Rows) → with_links ls rows ≡ record rows { links = (with_links ls rows).links }
links_on [] rows = refl
links_on (l ∷ ls) rows = links_on ls (with_link l.target l.no rows)

pub still_has : (ls : List LinkRow) (rows : Rows) → (with_links ls rows).has_spans ≡ rows.has_spans
still_has [] rows = refl
still_has (l ∷ ls) rows = still_has ls (with_link l.target l.no rows)

pub still_typed : (ls : List LinkRow) → AllByRecursion IsTypedLink ls → (rows : Rows) → AreTyped rows
    → AreTyped (with_links ls rows)
still_typed [] all rows typed = typed
still_typed (l ∷ ls) all rows typed =
    still_typed ls all.1 (with_link l.target l.no rows) (typed_link l.target l.no all.0.0 all.0.1 rows typed)

-- a link is put to those of the rows and of the tree
one_kept : (l : LinkRow) → IsTypedLink l → (rows : Rows) → AreTyped rows → (tree : List Row)
    → Keeps link_values link_place rows.links tree
    → Keeps link_values link_place (with_link l.target l.no rows).links (put_row (link_values l) tree)
one_kept l is rows typed tree kept =
    let item : LinkRow = record { target = l.target; no = l.no } in
    subst (λ xs. Keeps link_values link_place xs (put_row (link_values l) tree))
    (sym (put_at_place item is.1 rows.links typed.links))
    (keeps_put_at integer_at integer_order link_values link_place (λ _. refl) item rows.links tree kept)

all_kept : (ls : List LinkRow) → AllByRecursion IsTypedLink ls → (rows : Rows) → AreTyped rows → (tree : List Row)
    → Keeps link_values link_place rows.links tree
    → Keeps link_values link_place (with_links ls rows).links (put_all tree (map link_values ls))
all_kept [] all rows typed tree kept = kept
all_kept (l ∷ ls) all rows typed tree kept =
    all_kept ls all.1 (with_link l.target l.no rows) (typed_link l.target l.no all.0.0 all.0.1 rows typed)
    (put_row (link_values l) tree) (one_kept l all.0 rows typed tree kept)

becomes : (old new : State) (ls : List LinkRow) → AllByRecursion IsTypedLink ls
    → new.now.schema ≡ archive_schema true → IsSound (archive_schema true) new.now.trees
    → Applies (archive_schema true) Enforced old.now.trees (inserting old.now.trees ls) new.now.trees
    → BecomesDated old new (with_links ls)
becomes old new ls all schema sound applied =
    let db = old.now.trees in
    let now = new.now.trees in
    let edit = inserting db ls in
    let late = late_same db now edit applied in
    let put : edited db edit ≡ put_all (db 13) (map link_values ls) = ap (put_all (db 13)) (news_are db ls) in
    record {
      schema = schema;
      sound = sound;
      same = still_has ls;
      holds = λ rows dated typed was.
          let kept = kept_of rows db dated was in
          subst (λ rs. Holds rs now) (sym (links_on ls rows))
          (beside rows rows.packs rows.spans (with_links ls rows).links rows.soughts db now edit applied (omega arith)
          (omega arith) dated (record {
            packs_kept = keeps_on _ _ _ (late 11 (omega arith) (omega arith) (omega arith)) kept.packs_kept;
            spans_kept = keeps_on _ _ _ (late 12 (omega arith) (omega arith) (omega arith)) kept.spans_kept;
            links_kept = keeps_on _ _ (now 13) (applied.rows ∙ put)
                (all_kept ls all rows typed (db 13) kept.links_kept);
            soughts_kept = keeps_on _ _ _ (late 14 (omega arith) (omega arith) (omega arith)) kept.soughts_kept;
          }) was);
    }

-- ---- none of them was there
both_hold : (a b : Bool) → (not a && b) ≡ true → (a ≡ false) × (b ≡ true)
both_hold true b h = absurd cc
both_hold false b h = (refl, h)

fresh_links : (ls : List LinkRow) → AllByRecursion IsTypedLink ls → (rows : Rows) → AreTyped rows → (tree : List Row)
    → Keeps link_values link_place rows.links tree → are_fresh tree (map link_values ls) ≡ true → AreNewLinks ls rows
fresh_links [] all rows typed tree kept fresh = tt
fresh_links (l ∷ ls) all rows typed tree kept fresh =
    let both = both_hold (is_taken tree (link_values l)) _ fresh in (
      sym (place_is_pair l.target l.no all.0.1 rows.links typed.links) ∙ sym (taken_by_place l rows.links)
          ∙ ap (λ rs. is_taken rs (link_values l)) (sym kept.is) ∙ both.0,
      fresh_links ls all.1 (with_link l.target l.no rows) (typed_link l.target l.no all.0.0 all.0.1 rows typed)
          (put_row (link_values l) tree) (one_kept l all.0 rows typed tree kept) both.1,
    )

new_links : (old new : State) (ls : List LinkRow) → AllByRecursion IsTypedLink ls
    → Applies (archive_schema true) Enforced old.now.trees (inserting old.now.trees ls) new.now.trees
    → (rows : Rows) → rows.has_spans ≡ true → AreTyped rows → Holds rows old.now.trees → AreNewLinks ls rows
new_links old new ls all applied rows dated typed was =
    let db = old.now.trees in
    fresh_links ls all rows typed (db 13) (kept_of rows db dated was).links_kept
    (subst (λ news. are_fresh (db 13) news ≡ true) (news_are db ls) applied.fresh)

-- ---- eight links
module _ (old new : State) (a b c d e f g h : LinkRow) (count : ℕ) (has : old.now.schema ≡ archive_schema true)
    (ran : Executes eight_links (given a ∷ given b ∷ given c ∷ given d ∷ given e ∷ given f ∷ given g ∷ given h ∷ [])
    old new (Ok count)) where
  abbrev pub these : List LinkRow
  these = eight a b c d e f g h

  inserted : (new.now.schema ≡ archive_schema true) × IsSound (archive_schema true) new.now.trees
      × Applies (archive_schema true) Enforced old.now.trees (inserting old.now.trees these) new.now.trees
  inserted =
      let params = map given these in
      let w = runs_as eight_links params old new (archive_schema true) has (Insert 8 (Values eight_terms 2))
      eight_links_is eight_links_plain count ran in
      let did = inserts (archive_schema true) links 8 refl refl old new.now w.tally params
      (statement_of eight_links (understood (archive_schema true) eight_links)) eight_terms 2 has w.changed in (
        did.0,
        subst (λ s. IsSound s new.now.trees) did.0 w.sound,
        one_step (archive_schema true) Enforced old.now.trees new.now.trees (inserting old.now.trees these) refl did.1,
      )

  pub eight_inserted : AllByRecursion IsTypedLink these → BecomesDated old new (with_links these)
  eight_inserted all = becomes old new these all inserted.0 inserted.1 inserted.2

  pub eight_new : AllByRecursion IsTypedLink these → (rows : Rows) → rows.has_spans ≡ true → AreTyped rows
      → Holds rows old.now.trees → AreNewLinks these rows
  eight_new all = new_links old new these all inserted.2
