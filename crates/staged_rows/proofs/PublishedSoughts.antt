-- What the records of a published import are looked for by: each has its row, and each other record the one that it
-- had.
use Rattle.std.proofs.Common.{◌≡◌, ℕ, true, false, List, [], ◌∷◌, cond, refl, sym, ap, subst, ◌∙◌}
use Rattle.std.specs.Prelude.{◌==◌, Option, Some, None}
use Rattle.std.specs.List.{list_any}
use Rattle.std.specs.FinMap.{get, insert}
use Rattle.archive_state.specs.Applied.{applied, with_puts}
use Rattle.archive_state.specs.Content.{Content, Records}
use Rattle.archive_state.specs.declared.changes.Kept.{Kept}
use Rattle.archive_state.specs.declared.changes.Numbered.{Numbered}
use Rattle.receipts.specs.declared.answer.Answer.{Answer}
use Rattle.record_shapes.specs.Lists.{EachOf, IsOnce}
use Rattle.store_tables.specs.Rows.{Rows, SoughtRow}
use Rattle.store_rows.specs.Sought.{IsSought, KeepsSought, Sought, sought_at, sought_of}
use Rattle.store_rows.specs.Spans.{Drawn}
use Rattle.store_rows.proofs.Got.{got_put}
use Rattle.store_rows.proofs.SoughtRead.{put_sought}
use Rattle.staged_rows.specs.Staging.{IsFresh, import_changes, numbers_of, with_whole_import}
use Rattle.staged_rows.proofs.Lists.{none_put}
use Rattle.staged_rows.proofs.Published.{whole_is}
use Rattle.staged_rows.proofs.Whole.{one_sought, soughts_put}
use Rattle.list_laws.proofs.Booleans.{or_first, or_second}
use Rattle.list_laws.proofs.Numbers.{it, other_way}

none_sought : (n : ℕ) (qs : List SoughtRow) → list_any (λ (q : SoughtRow). q.no == n) qs ≡ false
    → sought_at n qs ≡ None
none_sought n [] none = refl
none_sought n (q ∷ qs) none =
    ap (λ b. cond b (Some (q.text, q.target)) (sought_at n qs))
    (or_first (q.no == n) (list_any (λ (q : SoughtRow). q.no == n) qs) none)
    ∙ none_sought n qs (or_second (q.no == n) (list_any (λ (q : SoughtRow). q.no == n) qs) none)

-- what a number without a row is looked for by, put where there is something
one_found : (n k : ℕ) (o : Option Sought) (qs : List SoughtRow)
    → list_any (λ (q : SoughtRow). q.no == k) qs ≡ false
    → sought_at n (one_sought k o qs) ≡ cond (k == n) o (sought_at n qs)
one_found n k None qs none =
    elim (k == n) as (λ b. (k == n) ≡ b → sought_at n qs ≡ cond b None (sought_at n qs)) [
      | true ↦ λ e. ap (λ j. sought_at j qs) (sym (it k n e)) ∙ none_sought k qs none
      | false ↦ λ e. refl
    ] refl
one_found n k (Some s) qs none = put_sought n k s qs

still_unsought : (k : ℕ) (o : Option Sought) (qs : List SoughtRow) (ps : List Numbered)
    → list_any (λ m. m == k) (numbers_of ps) ≡ false
    → EachOf (λ (p : Numbered). list_any (λ (q : SoughtRow). q.no == p.number) qs ≡ false) ps
    → EachOf (λ (p : Numbered). list_any (λ (q : SoughtRow). q.no == p.number) (one_sought k o qs) ≡ false) ps
still_unsought k None qs ps off none = none
still_unsought k (Some s) qs [] off none = tt
still_unsought k (Some s) qs (p ∷ ps) off none =
    let row : SoughtRow = record { no = k; text = s.0; target = s.1 } in (
      none_put (λ (q : SoughtRow). q.no) (λ (q : SoughtRow). q.no == p.number) row qs
          (other_way p.number k false (or_first (p.number == k) (list_any (λ m. m == k) (numbers_of ps)) off)) none.0,
      still_unsought k (Some s) qs ps (or_second (p.number == k) (list_any (λ m. m == k) (numbers_of ps)) off) none.1,
    )

one_sought_keeps : (n : ℕ) (p : Numbered) (m : Records) (qs : List SoughtRow)
    → list_any (λ (q : SoughtRow). q.no == p.number) qs ≡ false → IsSought (get m n) (sought_at n qs)
    → IsSought (get (insert m p.number p.«record») n)
    (sought_at n (one_sought p.number (sought_of p.«record») qs))
one_sought_keeps n p m qs none was =
    rw (got_put m p.number p.«record» n, one_found n p.number (sought_of p.«record») qs none)
    (elim (p.number == n) as (λ b. IsSought (cond b (Some p.«record») (get m n))
    (cond b (sought_of p.«record») (sought_at n qs))) [ true ↦ refl | false ↦ was ])

puts_sought : (n : ℕ) (ps : List Numbered) (m : Records) (qs : List SoughtRow) → IsOnce (numbers_of ps)
    → EachOf (λ (p : Numbered). list_any (λ (q : SoughtRow). q.no == p.number) qs ≡ false) ps
    → IsSought (get m n) (sought_at n qs) → IsSought (get (with_puts m ps) n) (sought_at n (soughts_put ps qs))
puts_sought n [] m qs once none was = was
puts_sought n (p ∷ ps) m qs once none was =
    puts_sought n ps (insert m p.number p.«record») (one_sought p.number (sought_of p.«record») qs) once.1
    (still_unsought p.number (sought_of p.«record») qs ps once.0 none.1) (one_sought_keeps n p m qs none.0 was)

pub whole_soughts : (batch next : ℕ) (ps : List Numbered) (drawn : Drawn) (answer : Answer) (kept : Option Kept)
    (rows : Rows) (c : Content) → IsOnce (numbers_of ps) → IsFresh batch ps rows
    → KeepsSought rows c → KeepsSought (with_whole_import batch (import_changes ps next answer kept) drawn rows)
    (applied c (import_changes ps next answer kept))
whole_soughts batch next ps drawn answer kept rows c once fresh was = λ n.
    subst (λ (qs : List SoughtRow). IsSought (get (with_puts c.records ps) n) (sought_at n qs))
    (sym (ap (λ (r : Rows). r.soughts) (whole_is batch next ps drawn answer kept rows once fresh)))
    (puts_sought n ps c.records rows.soughts once fresh.soughts (was n))
