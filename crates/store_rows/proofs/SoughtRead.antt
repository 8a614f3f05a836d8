-- What the rows say that each number is looked for by, after that of records is put and removed.
use Rattle.std.proofs.Common.{◌≡◌, ℕ, true, false, List, [], ◌∷◌, cond, refl, sym, ap, ◌∙◌}
use Rattle.std.specs.Prelude.{◌==◌, Option, Some, None}
use Rattle.record_kinds.specs.declared.record.Record.{Record}
use Rattle.archive_state.specs.declared.changes.Numbered.{Numbered}
use Rattle.store_tables.specs.Rows.{Rows, SoughtRow, put_by, with_sought, without_sought}
use Rattle.store_rows.specs.Sought.{
  IsSought,
  Sought,
  sought_at,
  sought_of,
  with_all_sought,
  with_sought_if,
  without_all_sought,
}
use Rattle.store_rows.proofs.Own.{own, put_here, put_elsewhere, none_left, others_left}
use Rattle.store_rows.proofs.Puts.{last_of}
use Rattle.list_laws.proofs.Numbers.{it, not_it}

-- ---- one row
abbrev sought_in : SoughtRow → Sought
sought_in s = (s.text, s.target)

abbrev first : List SoughtRow → Option Sought
first [] = None
first (s ∷ ss) = Some (sought_in s)

first_own : (n : ℕ) (ss : List SoughtRow) → sought_at n ss ≡ first (own (λ (s : SoughtRow). s.no) n ss)
first_own n [] = refl
first_own n (s ∷ ss) =
    elim (s.no == n) as (λ b. cond b (Some (sought_in s)) (sought_at n ss) ≡ first
    (cond b (s ∷ own (λ (k : SoughtRow). k.no) n ss) (own (λ (k : SoughtRow). k.no) n ss))) [
      | true ↦ refl
      | false ↦ first_own n ss
    ]

pub put_sought : (n k : ℕ) (s : Sought) (ss : List SoughtRow)
    → sought_at n (put_by (λ (q : SoughtRow). q.no) (record { no = k; text = s.0; target = s.1 }) ss)
    ≡ cond (k == n) (Some s) (sought_at n ss)
put_sought n k s ss =
    let key = λ (s : SoughtRow). s.no in
    let row : SoughtRow = record { no = k; text = s.0; target = s.1 } in
    first_own n (put_by key row ss) ∙
    (elim (k == n) as (λ b. (k == n) ≡ b → first (own key n (put_by key row ss)) ≡ cond b (Some s)
    (sought_at n ss)) [
      | true ↦ λ e. let (more, is) = put_here key n row ss (it k n e) in ap first is
      | false ↦ λ e. ap first (put_elsewhere key n row ss (not_it k n e)) ∙ sym (first_own n ss)
    ] refl)

pub sought_put : (n k : ℕ) (s : Sought) (rows : Rows) → sought_at n (with_sought k s.0 s.1 rows).soughts
    ≡ cond (k == n) (Some s) (sought_at n rows.soughts)
sought_put n k s rows = put_sought n k s rows.soughts

pub sought_removed : (n k : ℕ) (rows : Rows) → sought_at n (without_sought k rows).soughts ≡ cond (k == n) None
    (sought_at n rows.soughts)
sought_removed n k rows =
    let key = λ (s : SoughtRow). s.no in
    first_own n (without_sought k rows).soughts ∙
    (elim (k == n) as (λ b. (k == n) ≡ b → first (own key n (without_sought k rows).soughts) ≡ cond b None
    (sought_at n rows.soughts)) [
      | true ↦ λ e. ap (λ j. first (own key n (without_sought j rows).soughts)) (it k n e)
          ∙ ap first (none_left key n rows.soughts)
      | false ↦ λ e. ap first (others_left key n k rows.soughts (not_it k n e)) ∙ sym (first_own n rows.soughts)
    ] refl)

-- what is there or not, in place of what was there before
sought_anew : (n k : ℕ) (found : Option Sought) (rows : Rows)
    → sought_at n (with_sought_if k found (without_sought k rows)).soughts
    ≡ cond (k == n) found (sought_at n rows.soughts)
sought_anew n k None rows = sought_removed n k rows
sought_anew n k (Some s) rows =
    sought_put n k s (without_sought k rows) ∙ ap (cond (k == n) (Some s)) (sought_removed n k rows) ∙
    (elim (k == n) as (λ b. cond b (Some s) (cond b None (sought_at n rows.soughts)) ≡ cond b (Some s)
    (sought_at n rows.soughts)) [ true ↦ refl | false ↦ refl ])

-- ---- all of them
pub sought_puts : (n : ℕ) (ps : List Numbered) (o : Option Record) (rows : Rows) → IsSought o (sought_at n rows.soughts)
    → IsSought (last_of (λ (p : Numbered). p.number) (λ (p : Numbered). Some p.«record») n ps o)
    (sought_at n (with_all_sought ps rows).soughts)
sought_puts n [] o rows h = h
sought_puts n (p ∷ ps) o rows h =
    let after : Rows = with_sought_if p.number (sought_of p.«record») (without_sought p.number rows) in
    sought_puts n ps (cond (p.number == n) (Some p.«record») o) after
    (rw (sought_anew n p.number (sought_of p.«record») rows)
    (elim (p.number == n) as (λ b. IsSought (cond b (Some p.«record») o)
    (cond b (sought_of p.«record») (sought_at n rows.soughts))) [ true ↦ refl | false ↦ h ]))

pub sought_left : (n : ℕ) (ns : List ℕ) (rows : Rows) → sought_at n (without_all_sought ns rows).soughts
    ≡ last_of (λ k. k) (λ _. None) n ns (sought_at n rows.soughts)
sought_left n [] rows = refl
sought_left n (k ∷ ns) rows = sought_left n ns (without_sought k rows) ∙ ap (last_of (λ j. j) (λ _. None) n ns)
    (sought_removed n k rows)
