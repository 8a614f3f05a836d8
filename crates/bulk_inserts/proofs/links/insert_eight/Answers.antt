use Rattle.std.proofs.Common.{rules, ◌≡◌, ℕ, ℤ, List, ap, ◌∙◌}
use Rattle.std.specs.Prelude.{FitsSigned}
use Rattle.std.specs.Int.{w64, cast_signed, cast_unsigned}
use mir.Facts.{to_z-of_z}
use Rattle.sqlite.specs.declared.types.Value.TheVariants.{Int}
use Rattle.sqlite.specs.Held.{state}
use Rattle.std.specs.List.{AllByRecursion}
use Rattle.store_tables.specs.Reading.{IsTypedLink}
use Rattle.store_tables.specs.Rows.{LinkRow, integer_at, link_place}
use Rattle.store_tables.specs.Schema.{archive_schema}
use Rattle.store_tables.proofs.LaterStatements.{followed_dated}
use Rattle.bulk_inserts.specs.Links.{eight, with_links}
use Rattle.bulk_inserts.proofs.EightLinks.{eight_inserted, eight_links, eight_new, still_typed}
use Rattle.bulk_inserts.proofs.links.insert_eight.Goals as goal

-- a key as the statement gets it
as_given : (key : ℤ) (place : ℕ) → FitsSigned w64 key → key ≡ integer_at place
    → Int (cast_signed w64 (cast_unsigned w64 key)) ≡ Int (integer_at place)
as_given key place fits is = ap Int (to_z-of_z fits ∙ is)

pub returns-clause-ok : goal.returns-clause-ok
returns-clause-ok g c clean rows dated inside =
    let old = state g.S.Store c.args.tx.now.conn.now in
    let new = state g.S.Store c.execute.new.self.conn.now in
    let a = c.args.a.now in
    let fits-a : FitsSigned w64 c.key.result = search rules in
    let one = as_given c.key.result (link_place a) fits-a c.key.ensures.key in
    let two = as_given c.key-2.result (link_place c.args.b.now) (search rules) c.key-2.ensures.key in
    let three = as_given c.key-3.result (link_place c.args.c.now) (search rules) c.key-3.ensures.key in
    let four = as_given c.key-4.result (link_place c.args.d.now) (search rules) c.key-4.ensures.key in
    let five = as_given c.key-5.result (link_place c.args.e.now) (search rules) c.key-5.ensures.key in
    let six = as_given c.key-6.result (link_place c.args.f.now) (search rules) c.key-6.ensures.key in
    let seven = as_given c.key-7.result (link_place c.args.g.now) (search rules) c.key-7.ensures.key in
    let last = as_given c.key-8.result (link_place c.args.h.now) (search rules) c.key-8.ensures.key in
    let ran = rw (
      c.params-to_sql.ensures ∙ one,
      c.params-to_sql-2.ensures ∙ two,
      c.params-to_sql-3.ensures ∙ three,
      c.params-to_sql-4.ensures ∙ four,
      c.params-to_sql-5.ensures ∙ five,
      c.params-to_sql-6.ensures ∙ six,
      c.params-to_sql-7.ensures ∙ seven,
      c.params-to_sql-8.ensures ∙ last,
    ) at (c.in_ok-execute.ensures.runs clean inside.inside) in
    let these : List LinkRow = eight c.args.a.now c.args.b.now c.args.c.now c.args.d.now c.args.e.now c.args.f.now
    c.args.g.now c.args.h.now in
    let all : AllByRecursion IsTypedLink these = (
      c.key.ensures.typed,
      (
        c.key-2.ensures.typed,
        (
          c.key-3.ensures.typed,
          (
            c.key-4.ensures.typed,
            (
              c.key-5.ensures.typed,
              (c.key-6.ensures.typed, (c.key-7.ensures.typed, (c.key-8.ensures.typed, tt))),
            ),
          ),
        ),
      ),
    ) in
    followed_dated eight_links _ old new c.in_ok-execute.field-0 (with_links these)
    (λ has ran. eight_inserted old new c.args.a.now c.args.b.now c.args.c.now c.args.d.now c.args.e.now c.args.f.now
    c.args.g.now c.args.h.now c.in_ok-execute.field-0 has ran all)
    (λ rows _. still_typed these all rows) ran rows dated inside

pub returns-clause-fresh : goal.returns-clause-fresh
returns-clause-fresh g c clean rows dated inside =
    let old = state g.S.Store c.args.tx.now.conn.now in
    let new = state g.S.Store c.execute.new.self.conn.now in
    let a = c.args.a.now in
    let fits-a : FitsSigned w64 c.key.result = search rules in
    let one = as_given c.key.result (link_place a) fits-a c.key.ensures.key in
    let two = as_given c.key-2.result (link_place c.args.b.now) (search rules) c.key-2.ensures.key in
    let three = as_given c.key-3.result (link_place c.args.c.now) (search rules) c.key-3.ensures.key in
    let four = as_given c.key-4.result (link_place c.args.d.now) (search rules) c.key-4.ensures.key in
    let five = as_given c.key-5.result (link_place c.args.e.now) (search rules) c.key-5.ensures.key in
    let six = as_given c.key-6.result (link_place c.args.f.now) (search rules) c.key-6.ensures.key in
    let seven = as_given c.key-7.result (link_place c.args.g.now) (search rules) c.key-7.ensures.key in
    let last = as_given c.key-8.result (link_place c.args.h.now) (search rules) c.key-8.ensures.key in
    let ran = rw (
      c.params-to_sql.ensures ∙ one,
      c.params-to_sql-2.ensures ∙ two,
      c.params-to_sql-3.ensures ∙ three,
      c.params-to_sql-4.ensures ∙ four,
      c.params-to_sql-5.ensures ∙ five,
      c.params-to_sql-6.ensures ∙ six,
      c.params-to_sql-7.ensures ∙ seven,
      c.params-to_sql-8.ensures ∙ last,
    ) at (c.in_ok-execute.ensures.runs clean inside.inside) in
    let these : List LinkRow = eight c.args.a.now c.args.b.now c.args.c.now c.args.d.now c.args.e.now c.args.f.now
    c.args.g.now c.args.h.now in
    let all : AllByRecursion IsTypedLink these = (
      c.key.ensures.typed,
      (
        c.key-2.ensures.typed,
        (
          c.key-3.ensures.typed,
          (
            c.key-4.ensures.typed,
            (
              c.key-5.ensures.typed,
              (c.key-6.ensures.typed, (c.key-7.ensures.typed, (c.key-8.ensures.typed, tt))),
            ),
          ),
        ),
      ),
    ) in
    eight_new old new c.args.a.now c.args.b.now c.args.c.now c.args.d.now c.args.e.now c.args.f.now c.args.g.now
    c.args.h.now c.in_ok-execute.field-0 (inside.schema ∙ ap archive_schema dated) ran.0 all rows dated
    inside.good.typed inside.good.holds
