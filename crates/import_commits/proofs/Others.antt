-- What a published import leaves of the rows of before.
use Rattle.std.proofs.Common.{◌≡◌, ◌≢◌, ℕ, Bool, true, false, List, [], ◌∷◌, cond, filter, sym, ap, subst, ◌∙◌}
use Rattle.std.specs.Prelude.{◌==◌, Option, Some, None}
use Rattle.std.specs.FinMap.{get, insert}
use Rattle.record_kinds.specs.declared.record.Record.{Record}
use Rattle.record_shapes.specs.Lists.{EachOf}
use Rattle.archive_state.specs.Applied.{applied, with_puts, without}
use Rattle.archive_state.specs.Changes.{Changes}
use Rattle.archive_state.specs.Content.{Content, Records}
use Rattle.archive_state.specs.declared.changes.Numbered.{Numbered}
use Rattle.store_tables.specs.Rows.{LineRow, PackRow, RecordRow, Rows}
use Rattle.store_rows.specs.Spans.{Drawn}
use Rattle.store_rows.proofs.Got.{got_put}
use Rattle.staged_rows.specs.Staging.{with_published, with_whole_import}
use Rattle.staging.specs.Opened.{Import}
use Rattle.import_commits.specs.Commits.{IsAddition, IsBegun}
use Rattle.import_commits.proofs.Imports.{published_is}
use Rattle.list_laws.proofs.Numbers.{same_self}

-- the number has the same rows
abbrev pub HasSameRows : ℕ → Rows → Rows → Type 0
HasSameRows m before now =
    (filter (λ (l : LineRow). l.no == m) now.lines ≡ filter (λ (l : LineRow). l.no == m) before.lines)
    × (filter (λ (p : PackRow). p.no == m) now.packs ≡ filter (λ (p : PackRow). p.no == m) before.packs)
    × (filter (λ (r : RecordRow). r.no == m) now.records ≡ filter (λ (r : RecordRow). r.no == m) before.records)

-- ---- what is put is there

some_of : (b : Bool) (v : Record) (o : Option Record) → o ≢ None → cond b (Some v) o ≢ None
some_of true v o there e = absurd cc
some_of false v o there e = there e

there_still : (ps : List Numbered) (m : Records) (n : ℕ) → get m n ≢ None → get (with_puts m ps) n ≢ None
there_still [] m n there = there
there_still (p ∷ ps) m n there =
    there_still ps (insert m p.number p.«record») n (λ none. some_of (p.number == n) p.«record» (get m n) there
    (sym (got_put m p.number p.«record» n) ∙ none))

put_there : (m : Records) (k : ℕ) (v : Record) → get (insert m k v) k ≢ None
put_there m k v none =
    let is : get (insert m k v) k ≡ Some v = got_put m k v k ∙ ap (λ b. cond b (Some v) (get m k)) (same_self k) in
    absurd cc

all_there : (ps : List Numbered) (m : Records) → EachOf (λ (p : Numbered). get (with_puts m ps) p.number ≢ None) ps
all_there [] m = tt
all_there (p ∷ ps) m =
    let next = insert m p.number p.«record» in
    (there_still ps next p.number (put_there m p.number p.«record»), all_there ps next)

-- ---- a number at which nothing changes is none of those that are put
none_of_them : (m : ℕ) (old new : Records) (ps : List Numbered)
    → EachOf (λ (p : Numbered). get old p.number ≡ None) ps → EachOf (λ (p : Numbered). get new p.number ≢ None) ps
    → get old m ≡ get new m → EachOf (λ (p : Numbered). p.number ≢ m) ps
none_of_them m old new [] free there same = tt
none_of_them m old new (p ∷ ps) free there same = (
  λ is. there.0 (ap (get new) is ∙ sym same ∙ sym (ap (get old) is) ∙ free.0),
  none_of_them m old new ps free.1 there.1 same,
)

pub others_stay : ((batch : ℕ) (changes : Changes) (drawn : Drawn) (rows : Rows) (m : ℕ)
    → EachOf (λ (p : Numbered). p.number ≢ m) changes.puts
    → HasSameRows m rows (with_whole_import batch changes drawn rows))
    → (before rows : Rows) (i : Import) (c : Content) (m : ℕ) → IsBegun before i rows → IsAddition c i.changes
    → i.left ≡ [] → get c.records m ≡ get (applied c i.changes).records m
    → HasSameRows m before (with_published i.batch i.changes rows)
others_stay law before rows i c m begun adds none same =
    let puts = i.changes.puts in
    let now = with_puts c.records puts in
    let is : (applied c i.changes).records ≡ now = ap (without now) adds.removals in
    let others = none_of_them m c.records now puts adds.free (all_there puts c.records)
    (same ∙ ap (λ (x : Records). get x m) is) in
    subst (HasSameRows m before) (sym (published_is before rows i begun none))
    (law i.batch i.changes begun.drawn before m others)
