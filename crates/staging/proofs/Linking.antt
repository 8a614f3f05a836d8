-- The links of an import, gathered as pairs.
use Rattle.std.proofs.Common.{
  ◌≡◌,
  ◌<◌,
  ℕ,
  List,
  [],
  ◌∷◌,
  ◌++◌,
  Ordering,
  Less,
  Equal,
  Greater,
  arith,
  refl,
  sym,
  ap,
  ap₂,
  ◌∙◌,
}
use Rattle.std.specs.BTreeSet.{insert_key}
use Rattle.std.specs.Ordering.{match_ordering, nat_cmp, ordering_then}
use Rattle.std.proofs.lemmas.Bool.Decides.{nat_tests}
use Rattle.records.specs.Stored.{stored}
use Rattle.archive_state.specs.declared.changes.Numbered.{Numbered}
use Rattle.store_tables.specs.Rows.{LinkRow, pair_cmp, put_pair}
use Rattle.staged_rows.specs.Staging.{with_names, with_targets}
use Rattle.staging.specs.Opened.{link_of, pairs_as_links}

-- the order of pairs in a set
abbrev pub pair_order : ℕ × ℕ → ℕ × ℕ → Ordering
pair_order a b = ordering_then (nat_cmp a.0 b.0) (nat_cmp a.1 b.1)

abbrev turned : Ordering → Ordering
turned Less = Greater
turned Equal = Equal
turned Greater = Less

turn : (a b : ℕ) (o : Ordering) → nat_cmp a b ≡ o → nat_cmp b a ≡ turned o
turn a b Less e =
    let low : a < b = grind (arith, nat_tests, e) in
    let high : nat_cmp b a ≡ Greater = grind (arith, nat_tests, low) in high
turn a b Equal e =
    let same : a ≡ b = grind (arith, nat_tests, e) in
    let both : nat_cmp b a ≡ Equal = grind (arith, nat_tests, same) in both
turn a b Greater e =
    let high : b < a = grind (arith, nat_tests, e) in
    let low : nat_cmp b a ≡ Less = grind (arith, nat_tests, high) in low

turn_both : (o p : Ordering) → ordering_then (turned o) (turned p) ≡ turned (ordering_then o p)
turn_both Less p = refl
turn_both Equal p = refl
turn_both Greater p = refl

pair_turned : (k x : ℕ × ℕ) → pair_cmp (link_of x) (link_of k) ≡ turned (pair_order k x)
pair_turned k x =
    ap₂ ordering_then (turn k.0 x.0 (nat_cmp k.0 x.0) refl) (turn k.1 x.1 (nat_cmp k.1 x.1) refl)
    ∙ turn_both (nat_cmp k.0 x.0) (nat_cmp k.1 x.1)

same_pair : (k x : ℕ × ℕ) (o : Ordering) → nat_cmp k.0 x.0 ≡ o → ordering_then o (nat_cmp k.1 x.1) ≡ Equal
    → link_of x ≡ link_of k
same_pair k x Less e is = absurd cc
same_pair k x Equal e is =
    let first : x.0 ≡ k.0 = grind (arith, nat_tests, e) in
    let last : x.1 ≡ k.1 = grind (arith, nat_tests, is) in
    ap₂ (λ t n. record { target = t; no = n }) first last
same_pair k x Greater e is = absurd cc

-- a pair that is put into a set is a link that is put to others
pub put_as : (k : ℕ × ℕ) (ks : List (ℕ × ℕ)) → pairs_as_links (insert_key pair_order ks k)
    ≡ put_pair (link_of k) (pairs_as_links ks)
put_as k [] = refl
put_as k (x ∷ xs) = go (pair_order k x) refl (put_as k xs)
  where
    rest : List LinkRow
    rest = pairs_as_links xs

    go : (o : Ordering) → pair_order k x ≡ o → pairs_as_links (insert_key pair_order xs k) ≡ put_pair (link_of k) rest
        → pairs_as_links (match_ordering o (k ∷ x ∷ xs) (x ∷ xs) (x ∷ insert_key pair_order xs k))
        ≡ match_ordering (pair_cmp (link_of x) (link_of k)) (link_of x ∷ put_pair (link_of k) rest) (link_of k ∷ rest)
        (link_of k ∷ link_of x ∷ rest)
    go Less e more = sym (ap (λ o. match_ordering o (link_of x ∷ put_pair (link_of k) rest) (link_of k ∷ rest)
        (link_of k ∷ link_of x ∷ rest)) (pair_turned k x ∙ ap turned e))
    go Equal e more =
        ap (λ l. l ∷ rest) (same_pair k x (nat_cmp k.0 x.0) refl e)
        ∙ sym (ap (λ o. match_ordering o (link_of x ∷ put_pair (link_of k) rest) (link_of k ∷ rest)
        (link_of k ∷ link_of x ∷ rest)) (pair_turned k x ∙ ap turned e))
    go Greater e more =
        ap (λ ls. link_of x ∷ ls) more
        ∙ sym (ap (λ o. match_ordering o (link_of x ∷ put_pair (link_of k) rest) (link_of k ∷ rest)
        (link_of k ∷ link_of x ∷ rest)) (pair_turned k x ∙ ap turned e))

-- ---- record by record
pub names_more : (ps : List Numbered) (p : Numbered) (ls : List LinkRow) → with_names (ps ++ p ∷ []) ls
    ≡ with_targets p.number (stored p.«record») (with_names ps ls)
names_more [] p ls = refl
names_more (q ∷ ps) p ls = names_more ps p (with_targets q.number (stored q.«record») ls)

-- ---- pair by pair
pub links_more : (ps : List (ℕ × ℕ)) (p : ℕ × ℕ) → pairs_as_links (ps ++ p ∷ []) ≡ pairs_as_links ps ++ link_of p ∷ []
links_more [] p = refl
links_more (q ∷ ps) p = ap (λ ls. link_of q ∷ ls) (links_more ps p)
