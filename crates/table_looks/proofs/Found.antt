-- What is looked for by the numbers, and of which records each has its own.
use Rattle.std.proofs.Common.{◌≡◌, ◌↔◌, ℕ, List, [], ◌∷◌, ◌++◌, Bool, true, false, cond, refl, sym, subst, ◌∙◌}
use Rattle.std.specs.Prelude.{◌==◌, IsTrue, Option, Some, None, MatchOption, Result, Ok, Err, IfOk}
use Rattle.std.specs.FinMap.{get, keys}
use Rattle.record_kinds.specs.declared.record.Record.{Record}
use Rattle.record_shapes.specs.Lists.{EachOf}
use Rattle.archive_state.specs.Content.{Content}
use Rattle.archive_state.proofs.MapKeys.{among_keys, each_among}
use Rattle.store_tables.specs.Rows.{SoughtRow}
use Rattle.store_rows.specs.Sought.{IsSought, Sought, sought_at, sought_of}
use Rattle.table_looks.specs.Seeking.{HasSought, HaveSoughts, soughts_in}
use Rattle.table_looks.specs.Spanning.{first_there}

-- ---- rows that are gathered one by one
pub more_rows : (n : ℕ) (ss : List SoughtRow) (s : SoughtRow) → soughts_in (ss ++ s ∷ []) n
    ≡ first_there (soughts_in ss n) (soughts_in (s ∷ []) n)
more_rows n [] s = refl
more_rows n (x ∷ xs) s = elim (x.no == n) as (λ b. cond b (Some (x.text, x.target)) (sought_at n (xs ++ s ∷ []))
    ≡ first_there (cond b (Some (x.text, x.target)) (sought_at n xs)) (sought_at n (s ∷ []))) [
      | true ↦ refl
      | false ↦ more_rows n xs s
    ]

-- ---- whether a record has its own
pub tested : (r : Record) (own kept : Option Sought) (b : Bool) → own ≡ sought_of r → IsTrue b ↔ (own ≡ kept)
    → IsTrue b ↔ IsSought (Some r) kept
tested r own kept b is test = (λ t. sym (test.0 t) ∙ is, λ other. test.1 (is ∙ sym other))

-- ---- that each has
own_at : (look : ℕ → Option Sought) (n : ℕ) (found : Option Record) → ((r : Record) → found ≡ Some r
    → IsSought found (look n)) → IsSought found (look n)
own_at look n None h = tt
own_at look n (Some r) h = h r refl

all_own : (c : Content) (look : ℕ → Option Sought) → EachOf (HasSought c look) (keys c.records) → (n : ℕ)
    → HasSought c look n
all_own c look each n = own_at look n (get c.records n)
    (λ r at. each_among (HasSought c look) (keys c.records) n each (among_keys c.records n r at))

-- what was found of the keys, where it is that of the rows
pub first_found : {E : Type 0} (c : Content) (look : ℕ → Option Sought) (rows : List SoughtRow) (ns : List ℕ)
    (result : Result (Option ℕ) E) → ((n : ℕ) → look n ≡ soughts_in rows n) → ns ≡ keys c.records
    → IfOk result (λ o. MatchOption o (EachOf (HasSought c look) ns) (λ n. ¬ (HasSought c look n)))
    → IfOk result (λ o. MatchOption o (HaveSoughts rows c) (λ n. ¬ (HasSought c (soughts_in rows) n)))
first_found c look rows ns (Ok None) is are each = λ n.
    subst (λ (o : Option Sought). IsSought (get c.records n) o) (is n)
    (all_own c look (subst (λ (ks : List ℕ). EachOf (HasSought c look) ks) are each) n)
first_found c look rows ns (Ok (Some k)) is are lacks = λ own.
    lacks (subst (λ (o : Option Sought). IsSought (get c.records k) o) (sym (is k)) own)
first_found c look rows ns (Err e) is are h = tt
