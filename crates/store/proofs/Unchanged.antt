-- What exact changes leave: the rows of every number at which the same is found before and after, and the society.
use Rattle.std.proofs.Common.{
  ◌≡◌,
  ◌≢◌,
  ℕ,
  true,
  false,
  List,
  [],
  ◌∷◌,
  map,
  filter,
  cond,
  Option,
  None,
  Some,
  refl,
  sym,
  ap,
  ◌∙◌,
  ◌<◌,
  arith,
}
use Rattle.std.specs.Prelude.{◌==◌}
use Rattle.std.specs.List.{list_any}
use Rattle.std.specs.FinMap.{get, insert, remove}
use Rattle.std.proofs.lemmas.Bool.{or_parts, ne_eqb}
use Rattle.archive_state.specs.Applied.{applied, with_puts, without}
use Rattle.archive_state.specs.Changes.{Changes}
use Rattle.archive_state.specs.Content.{Content, Records}
use Rattle.record_shapes.specs.Lists.{Ascends, EachOf}
use Rattle.archive_state.specs.Sound.{IsSound}
use Rattle.archive_state.specs.declared.changes.Kept.{Kept}
use Rattle.archive_state.specs.declared.changes.Numbered.{Numbered}
use Rattle.command_checks.specs.Exact.{ChangesNothing, IsExact}
use Rattle.earlier_values.specs.Earlier.{past}
use Rattle.store_tables.specs.Rows.{LineRow, PackRow, RecordRow, Rows, with_past}
use Rattle.store_rows.specs.Pasts.{with_all_changes, with_all_pasts, with_pasts_written}
use Rattle.store_rows.specs.Spans.{Drawn, with_dated_changes}
use Rattle.store_rows.specs.Writing.{with_changes}
use Rattle.store_rows.proofs.Got.{got_put, got_removed}
use Rattle.store_rows.proofs.SpansAside.{dated_lines, dated_only, dated_records}
use Rattle.store_rows.proofs.Staying.{others_stay}
use Rattle.store.specs.Calls.{KeepsRows}
use Rattle.record_shapes.proofs.Each.{each_all, each_zip}
use Rattle.list_laws.proofs.Numbers.{is_same, not_it}

-- ---- values of before change nothing else
all_pasts_only : (token : List ℕ) (ps : List Numbered) (rows : Rows) → with_all_pasts token ps rows
    ≡ record rows { pasts = (with_all_pasts token ps rows).pasts }
all_pasts_only token [] rows = refl
all_pasts_only token (p ∷ ps) rows = all_pasts_only token ps (with_past p.number token (past p.«record») rows)

pub pasts_only : (kept : Option Kept) (ps : List Numbered) (rows : Rows) → with_pasts_written kept ps rows
    ≡ record rows { pasts = (with_pasts_written kept ps rows).pasts }
pasts_only None ps rows = refl
pasts_only (Some kept) ps rows = all_pasts_only kept.token ps rows

-- ---- what a map has after removals
pub left_at : (ns : List ℕ) (m : Records) (n : ℕ) → EachOf (λ k. k ≢ n) ns → get (without m ns) n ≡ get m n
left_at [] m n others = refl
left_at (k ∷ ns) m n others =
    left_at ns (remove m k) n others.1 ∙ got_removed m k n ∙ ap (λ b. cond b None (get m n))
    (ne_eqb k n others.0)

none_stays : (ns : List ℕ) (m : Records) (n : ℕ) → get m n ≡ None → get (without m ns) n ≡ None
none_stays [] m n none = none
none_stays (k ∷ ns) m n none =
    none_stays ns (remove m k) n
    (got_removed m k n ∙ (elim (k == n) as (λ b. cond b None (get m n) ≡ None) [ true ↦ refl | false ↦ none ]))

pub gone : (ns : List ℕ) (m : Records) → EachOf (λ n. get (without m ns) n ≡ None) ns
gone [] m = tt
gone (n ∷ ns) m = (
  none_stays ns (remove m n) n
      (got_removed m n n ∙ ap (λ b. cond b None (get m n)) (is_same n n refl)),
  gone ns (remove m n),
)

-- ---- what a map has after puts of ascending numbers
put_elsewhere : (ps : List Numbered) (m : Records) (n : ℕ) → EachOf (λ k. n < k) (map (λ (p : Numbered). p.number) ps)
    → get (with_puts m ps) n ≡ get m n
put_elsewhere [] m n above = refl
put_elsewhere (p ∷ ps) m n above =
    let differs : p.number ≢ n = λ e. omega (arith, above.0, e) in
    put_elsewhere ps (insert m p.number p.«record») n above.1
    ∙ got_put m p.number p.«record» n ∙ ap (λ b. cond b (Some p.«record») (get m n)) (ne_eqb p.number n differs)

each_put : (ps : List Numbered) (m : Records) → Ascends (map (λ (p : Numbered). p.number) ps)
    → EachOf (λ (p : Numbered). get (with_puts m ps) p.number ≡ Some p.«record») ps
each_put [] m ascends = tt
each_put (p ∷ ps) m ascends = (
  put_elsewhere ps (insert m p.number p.«record») p.number ascends.0 ∙ got_put m p.number p.«record» p.number
      ∙ ap (λ b. cond b (Some p.«record») (get m p.number)) (is_same p.number p.number refl),
  each_put ps (insert m p.number p.«record») ascends.1,
)

-- ---- numbers that are put and numbers that are removed
apart_one : (k : ℕ) (ps : List Numbered) → list_any (λ m. m == k) (map (λ (p : Numbered). p.number) ps) ≡ false
    → EachOf (λ (p : Numbered). k ≢ p.number) ps
apart_one k [] e = tt
apart_one k (p ∷ ps) e =
    let parts = or_parts (p.number == k) (list_any (λ m. m == k) (map (λ (q : Numbered). q.number) ps)) e in
    ((λ same. not_it p.number k parts.0 (sym same)), apart_one k ps parts.1)

apart_all : (ks : List ℕ) (ps : List Numbered)
    → EachOf (λ k. list_any (λ m. m == k) (map (λ (p : Numbered). p.number) ps) ≡ false) ks
    → EachOf (λ (p : Numbered). EachOf (λ k. k ≢ p.number) ks) ps
apart_all [] ps apart = each_all (λ (p : Numbered). EachOf (λ k. k ≢ p.number) []) (λ p. tt) ps
apart_all (k ∷ ks) ps apart =
    each_zip (λ (p : Numbered). k ≢ p.number) (λ (p : Numbered). EachOf (λ j. j ≢ p.number) ks)
    (λ (p : Numbered). EachOf (λ j. j ≢ p.number) (k ∷ ks))
    (λ p here there. (here, there)) ps (apart_one k ps apart.0) (apart_all ks ps apart.1)

-- ---- the rows of numbers at which nothing changes
module _ (c : Content) (changes : Changes) (exact : IsExact c changes) where
  pub put_there : IsSound c → EachOf (λ (p : Numbered). get (applied c changes).records p.number ≡ Some p.«record»)
      changes.puts
  put_there sound =
      each_zip (λ (p : Numbered). get (with_puts c.records changes.puts) p.number ≡ Some p.«record»)
      (λ (p : Numbered). EachOf (λ k. k ≢ p.number) changes.removals)
      (λ (p : Numbered). get (applied c changes).records p.number ≡ Some p.«record»)
      (λ p here others. left_at changes.removals (with_puts c.records changes.puts) p.number others ∙ here)
      changes.puts (each_put changes.puts c.records (exact.puts sound))
      (apart_all changes.removals changes.puts exact.apart)

  with_changes_stay : (rows : Rows) → IsSound c → KeepsRows c (applied c changes) rows (with_changes changes rows)
  with_changes_stay rows sound m same =
      others_stay changes rows m
      (each_zip (λ (p : Numbered). get c.records p.number ≢ Some p.«record»)
      (λ (p : Numbered). get (applied c changes).records p.number ≡ Some p.«record»)
      (λ (p : Numbered). p.number ≢ m)
      (λ p new there e. new (ap (get c.records) e ∙ same ∙ ap (get (applied c changes).records) (sym e) ∙ there))
      changes.puts (exact.new sound) (put_there sound))
      (each_zip (λ n. get c.records n ≢ None) (λ n. get (applied c changes).records n ≡ None) (λ n. n ≢ m)
      (λ n there none e. there (ap (get c.records) e ∙ same ∙ ap (get (applied c changes).records) (sym e) ∙ none))
      changes.removals exact.there
      (gone changes.removals (with_puts c.records changes.puts)))

  -- spans, links, what is looked for and values of before are no rows of records
  pub rows_stay : (drawn : Drawn) (values : List Numbered) (rows : Rows) → IsSound c
      → KeepsRows c (applied c changes) rows (with_all_changes changes drawn values rows)
  rows_stay drawn values rows sound m same =
      let stay = with_changes_stay rows sound m same in
      let only = pasts_only changes.kept values (with_dated_changes changes drawn rows) in (
        ap (λ (r : Rows). filter (λ (l : LineRow). l.no == m) r.lines) only
            ∙ ap (filter (λ (l : LineRow). l.no == m)) (dated_lines changes drawn rows) ∙ stay.0,
        ap (λ (r : Rows). filter (λ (p : PackRow). p.no == m) r.packs) only
            ∙ ap (λ (r : Rows). filter (λ (p : PackRow). p.no == m) r.packs) (dated_only changes drawn rows) ∙ stay.1,
        ap (λ (r : Rows). filter (λ (x : RecordRow). x.no == m) r.records) only
            ∙ ap (filter (λ (r : RecordRow). r.no == m)) (dated_records changes drawn rows) ∙ stay.2,
      )

-- nothing changes
pub applies_nothing : (c : Content) (changes : Changes) → ChangesNothing c changes → applied c changes ≡ c
applies_nothing c changes h = rw (h.puts, h.removals, h.next, h.kept, h.slip) refl
