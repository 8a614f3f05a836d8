-- What is read at all numbers of a map is the map.
use Rattle.std.proofs.Common.{
  ◌≡◌,
  ◌<◌,
  ◌≤◌,
  ◌+◌,
  ◌++◌,
  ℕ,
  List,
  length,
  take,
  get_or,
  [],
  ◌∷◌,
  true,
  false,
  cond,
  refl,
  sym,
  ap,
  ◌∙◌,
}
use Rattle.std.proofs.lemmas.List.{take_all, take_more}
use Rattle.std.proofs.lemmas.List.Sums.{fold-append}
use Rattle.std.specs.Prelude.{Option, Some, None, Result, Ok, Err, fold}
use Rattle.std.specs.Ordering.{is_eq, nat_cmp}
use Rattle.std.specs.Cmp.{nat_cmp_total, ranked}
use Rattle.std.specs.declared.cmp.Ordering.TheVariants.{Less, Equal, Greater}
use Rattle.std.specs.FinMap.{
  empty,
  entries,
  find,
  get,
  get-empty,
  get-entries,
  get-insert,
  insert,
  keys,
  nat_cmp-IsAntisymmetric,
  same_map,
}
use Rattle.record_kinds.specs.declared.record.Record.{Record}
use Rattle.record_text.specs.declared.refusal.RefusalKind.{RefusalKind}
use Rattle.archive_state.specs.Content.{Records}
use Rattle.archive_state.specs.Looks.{Looked}
use Rattle.gedcom_export.specs.Order.{Numbered}
use Rattle.gedcom_export.specs.Index.{numbers}
use Rattle.gedcom_export.specs.Kept.{kept_of, with_found}
use Rattle.gedcom_export.proofs.Found.{AreAt, all_got}
use Rattle.list_laws.proofs.Numbers.{itself}

-- one number more
pub one_more : (at : ℕ → Option Record) (ns : List ℕ) (i : ℕ) → i < length ns
    → kept_of at (take (i + 1) ns) ≡ with_found (get_or ns i 0) (at (get_or ns i 0)) (kept_of at (take i ns))
one_more at ns i less =
    ap (kept_of at) (take_more ns i 0 less)
    ∙ fold-append (λ (m : Records) n. with_found n (at n) m) (kept_of at []) (take i ns) (get_or ns i 0 ∷ [])

pub all_kept : (at : ℕ → Option Record) (ns : List ℕ) (i : ℕ) → length ns ≤ i
    → kept_of at (take i ns) ≡ kept_of at ns
all_kept at ns i all = ap (kept_of at) (take_all i ns all)

module _ (at : ℕ → Option Record) where
  abbrev going : Records → List ℕ → Records
  going = fold (λ (m : Records) n. with_found n (at n) m)

  -- what is right at a number stays so
  stays_put : (m : Records) (n q : ℕ) → get m q ≡ at q → get (with_found n (at n) m) q ≡ at q
  stays_put m n q right = elim (at n) as (λ o. at n ≡ o → get (with_found n o m) q ≡ at q) [
    | None ↦ λ is. right
    | Some r ↦ λ is. get-insert nat_cmp_total m n r q
        ∙ (elim (nat_cmp q n) as (λ o. nat_cmp q n ≡ o → cond (is_eq o) (Some r) (get m q) ≡ at q) [
          | Less ↦ λ less. right
          | Equal ↦ λ equal. sym is ∙ ap at (sym (ranked q n Equal (sym equal)))
          | Greater ↦ λ more. right
        ]) refl
  ] refl

  stays : (ns : List ℕ) (m : Records) (q : ℕ) → get m q ≡ at q → get (going m ns) q ≡ at q
  stays [] m q right = right
  stays (n ∷ ns) m q right = stays ns (with_found n (at n) m) q (stays_put m n q right)

  -- what is put is right
  is_put : (e : Numbered) (m : Records) (q : ℕ) → at e.0 ≡ Some e.1 → q ≡ e.0
      → get (with_found e.0 (at e.0) m) q ≡ at q
  is_put e m q is same =
      ap (λ o. get (with_found e.0 o m) q) is
      ∙ ap (λ k. get (insert m e.0 e.1) k) same
      ∙ get-insert nat_cmp_total m e.0 e.1 e.0
      ∙ ap (λ b. cond b (Some e.1) (get m e.0)) (itself e.0)
      ∙ sym is ∙ ap at (sym same)

  all_put : (es : List Numbered) (m : Records) (q : ℕ) (r : Record) → AreAt at es → find nat_cmp q es ≡ Some r
      → get (going m (numbers es)) q ≡ at q
  all_put [] m q r h is = absurd cc
  all_put (e ∷ es) m q r h is =
      (elim (nat_cmp q e.0) as (λ o. nat_cmp q e.0 ≡ o → cond (is_eq o) (Some e.1) (find nat_cmp q es) ≡ Some r
      → get (going (with_found e.0 (at e.0) m) (numbers es)) q ≡ at q) [
        | Less ↦ λ less found. all_put es (with_found e.0 (at e.0) m) q r h.1 found
        | Equal ↦ λ equal found. stays (numbers es) (with_found e.0 (at e.0) m) q
            (is_put e m q h.0 (ranked q e.0 Equal (sym equal)))
        | Greater ↦ λ more found. all_put es (with_found e.0 (at e.0) m) q r h.1 found
      ]) refl is

pub all_read : (m : Records) → kept_of (get m) (keys m) ≡ m
all_read m = same_map nat_cmp_total nat_cmp-IsAntisymmetric _ _ (λ q.
    (elim (get m q) as (λ o. get m q ≡ o → get (kept_of (get m) (keys m)) q ≡ get m q) [
      | None ↦ λ none. stays (get m) (keys m) empty q (get-empty nat_cmp q ∙ sym none)
      | Some r ↦ λ is. all_put (get m) (entries m) empty q r (all_got m) (sym (get-entries m q) ∙ is)
    ]) refl)

pub looked_then : {A : Type 0} {P Q : A → Type 0} (r : Result A RefusalKind) → ((a : A) → P a → Q a) → Looked r P
    → Looked r Q
looked_then (Ok a) f h = f a h
looked_then (Err e) f h = h
