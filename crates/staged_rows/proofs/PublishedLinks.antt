-- The links of a published import: each of its records has all of them, and each other record those that it had.
use Rattle.std.proofs.Common.{
  ◌≡◌,
  ℕ,
  true,
  false,
  List,
  [],
  ◌∷◌,
  cond,
  refl,
  sym,
  ap,
  subst,
  ◌∙◌,
}
use Rattle.std.specs.Prelude.{◌==◌, ◌||◌, Option, Some, None}
use Rattle.std.specs.FinMap.{get, insert}
use Rattle.std.proofs.lemmas.Bool.{or_left, or_right}
use Rattle.record_kinds.specs.declared.record.Record.{Record}
use Rattle.archive_state.proofs.Stored.{lines_tell}
use Rattle.records.specs.Stored.{stored}
use Rattle.archive_state.specs.Applied.{applied, with_puts}
use Rattle.archive_state.specs.Content.{Content, Records}
use Rattle.archive_state.specs.declared.changes.Kept.{Kept}
use Rattle.archive_state.specs.declared.changes.Numbered.{Numbered}
use Rattle.receipts.specs.declared.answer.Answer.{Answer}
use Rattle.record_shapes.specs.Lists.{EachOf, IsOnce}
use Rattle.store_tables.specs.Rows.{LinkRow, Rows, is_pair, put_pair}
use Rattle.store_rows.specs.Links.{AreLinked, KeepsLinks, has_link}
use Rattle.store_rows.specs.Spans.{Drawn}
use Rattle.store_rows.proofs.Got.{got_put}
use Rattle.store_rows.proofs.LinksRead.{put_or_there}
use Rattle.staged_rows.specs.Staging.{
  IsFresh,
  import_changes,
  links_of,
  numbers_of,
  with_names,
  with_targets,
  with_whole_import,
}
use Rattle.staged_rows.proofs.Links.{names_stay, targets_there}
use Rattle.staged_rows.proofs.Published.{whole_is}
use Rattle.staged_rows.proofs.Whole.{links_put}
use Rattle.list_laws.proofs.Numbers.{it}

links_stay : (target n : ℕ) (ls ks : List LinkRow) → has_link target n ks ≡ true
    → has_link target n (links_put ls ks) ≡ true
links_stay target n [] ks h = h
links_stay target n (l ∷ ls) ks h =
    let row : LinkRow = record { target = l.target; no = l.no } in
    links_stay target n ls (put_pair row ks)
    (put_or_there (is_pair target n) row ks ∙ or_right (is_pair target n row) (has_link target n ks) h)

links_there : (target n : ℕ) (ls ks : List LinkRow) → has_link target n ls ≡ true
    → has_link target n (links_put ls ks) ≡ true
links_there target n [] ks h = absurd cc
links_there target n (l ∷ ls) ks h =
    let row : LinkRow = record { target = l.target; no = l.no } in
    elim (is_pair target n l) as (λ b. is_pair target n l ≡ b → (b || has_link target n ls) ≡ true
    → has_link target n (links_put ls (put_pair row ks)) ≡ true) [
      | true ↦ λ e _. links_stay target n ls (put_pair row ks)
          (put_or_there (is_pair target n) row ks ∙ or_left (is_pair target n row) (has_link target n ks) e)
      | false ↦ λ e more. links_there target n ls (put_pair row ks) more
    ] refl h

-- records are put, of each of which these have all links
abbrev AllLinked : List Numbered → List LinkRow → Type 0
AllLinked ps ks = EachOf (λ (p : Numbered). AreLinked p.number (Some p.«record») ks) ps

puts_linked : (n : ℕ) (ps : List Numbered) (m : Records) (ks : List LinkRow) → AllLinked ps ks
    → AreLinked n (get m n) ks → AreLinked n (get (with_puts m ps) n) ks
puts_linked n [] m ks all was = was
puts_linked n (p ∷ ps) m ks all was =
    puts_linked n ps (insert m p.number p.«record») ks all.1
    (subst (λ (o : Option Record). AreLinked n o ks) (sym (got_put m p.number p.«record» n))
    (elim (p.number == n) as (λ b. (p.number == n) ≡ b → AreLinked n (cond b (Some p.«record») (get m n)) ks) [
      | true ↦ λ e. subst (λ k. AreLinked k (Some p.«record») ks) (it p.number n e) all.0
      | false ↦ λ e. was
    ] refl))

-- those of an import have them
names_linked : (ps : List Numbered) (ls : List LinkRow) → AllLinked ps (with_names ps ls)
names_linked [] ls = tt
names_linked (p ∷ ps) ls =
    let more = with_targets p.number (stored p.«record») ls in (
      λ target named. names_stay target p.number ps more
          (targets_there target p.number (stored p.«record») ls (lines_tell p.«record» target ∙ named)),
      names_linked ps more,
    )

all_put : (ps : List Numbered) (ls ks : List LinkRow) → AllLinked ps ls → AllLinked ps (links_put ls ks)
all_put [] ls ks all = tt
all_put (p ∷ ps) ls ks all = (
  λ target named. links_there target p.number ls ks (all.0 target named),
  all_put ps ls ks all.1,
)

still_linked : (n : ℕ) (o : Option Record) (ls ks : List LinkRow) → AreLinked n o ks → AreLinked n o (links_put ls ks)
still_linked n None ls ks h = tt
still_linked n (Some r) ls ks h = λ target named. links_stay target n ls ks (h target named)

pub whole_links : (batch next : ℕ) (ps : List Numbered) (drawn : Drawn) (answer : Answer) (kept : Option Kept)
    (rows : Rows) (c : Content) → IsOnce (numbers_of ps) → IsFresh batch ps rows
    → KeepsLinks rows c → KeepsLinks (with_whole_import batch (import_changes ps next answer kept) drawn rows)
    (applied c (import_changes ps next answer kept))
whole_links batch next ps drawn answer kept rows c once fresh was = λ n.
    subst (λ (ks : List LinkRow). AreLinked n (get (with_puts c.records ps) n) ks)
    (sym (ap (λ (r : Rows). r.links) (whole_is batch next ps drawn answer kept rows once fresh)))
    (puts_linked n ps c.records (links_put (links_of ps) rows.links)
    (all_put ps (links_of ps) rows.links (names_linked ps []))
    (still_linked n (get c.records n) (links_of ps) rows.links (was n)))
