-- What is known with several facts more.
use Rattle.std.proofs.Common.{
  ◌≡◌,
  ℕ,
  List,
  [],
  ◌∷◌,
  Bool,
  true,
  false,
  ◌||◌,
  ◌==◌,
  refl,
  sym,
  ap,
  ◌∙◌,
  bytes_eq,
  cond,
  eqb-true,
}
use Rattle.std.specs.Prelude.{Option, Some, None, if◌then◌else◌}
use Rattle.std.specs.BTreeMap.{is_at}
use Rattle.std.specs.Cmp.{unsigned_tied}
use Rattle.std.specs.List.{flat_map, list_any}
use Rattle.std.specs.Ordering.{nat_cmp}
use Rattle.gedcom_date.specs.declared.value.Span.{Span}
use Rattle.list_laws.proofs.Booleans.{or_assoc, or_nothing}
use Rattle.doubts.specs.Facts.{Known, birth, burial, first_of, known_by, links}
use Rattle.doubts.specs.Gathered.{nothing, or_else, with_fact, with_facts, with_span}
use Rattle.doubts.specs.declared.fact.Fact.{Fact}
use Rattle.doubts.specs.declared.fact.Fact.TheVariants.{Linked, Born, Buried}

or_none : (a : Option Span) → a ≡ or_else a None
or_none None = refl
or_none (Some s) = refl

or_some : (a b : Option Span) (s : Span) → a ≡ Some s → a ≡ or_else a b
or_some None b s is = absurd cc
or_some (Some t) b s is = refl

or_step : (a : Option Span) (b : Bool) (s : Span) (rest : Option Span)
    → or_else (or_else a (if b then Some s else None)) rest ≡ or_else a (if b then Some s else rest)
or_step None true s rest = refl
or_step None false s rest = refl
or_step (Some t) b s rest = refl

-- ---- all facts, one after the other, from nothing
linked_more : (fs : List Fact) (k : Known) (key : List ℕ)
    → (with_facts k fs).is_linked key ≡ (k.is_linked key || list_any (links key) fs)
linked_more [] k key = sym (or_nothing (k.is_linked key))
linked_more (Linked x ∷ fs) k key =
    linked_more fs (with_fact k (Linked x)) key
    ∙ sym (or_assoc (k.is_linked key) (bytes_eq key x) (list_any (links key) fs))
linked_more (Born n s ∷ fs) k key = linked_more fs (with_fact k (Born n s)) key
linked_more (Buried n s ∷ fs) k key = linked_more fs (with_fact k (Buried n s)) key

born_more : (fs : List Fact) (k : Known) (n : ℕ)
    → (with_facts k fs).born n ≡ or_else (k.born n) (first_of (flat_map birth fs) n)
born_more [] k n = or_none (k.born n)
born_more (Linked x ∷ fs) k n = born_more fs (with_fact k (Linked x)) n
born_more (Born m s ∷ fs) k n =
    born_more fs (with_fact k (Born m s)) n ∙ or_step (k.born n) (m == n) s (first_of (flat_map birth fs) n)
born_more (Buried m s ∷ fs) k n = born_more fs (with_fact k (Buried m s)) n

buried_more : (fs : List Fact) (k : Known) (n : ℕ)
    → (with_facts k fs).buried n ≡ or_else (k.buried n) (first_of (flat_map burial fs) n)
buried_more [] k n = or_none (k.buried n)
buried_more (Linked x ∷ fs) k n = buried_more fs (with_fact k (Linked x)) n
buried_more (Born m s ∷ fs) k n = buried_more fs (with_fact k (Born m s)) n
buried_more (Buried m s ∷ fs) k n =
    buried_more fs (with_fact k (Buried m s)) n ∙ or_step (k.buried n) (m == n) s (first_of (flat_map burial fs) n)

pub all_known : (fs : List Fact) → with_facts nothing fs ≡ known_by fs
all_known fs = λ j. record {
  is_linked = λ key. linked_more fs nothing key j;
  born = λ n. born_more fs nothing n j;
  buried = λ n. buried_more fs nothing n j;
}

-- ---- one span more
-- who has a span keeps it
pub one_there : (f : ℕ → Option Span) (k : ℕ) (s t : Span) → f k ≡ Some t → f ≡ with_span f k s
one_there f k s t is = λ j n. (elim (k == n) as (λ b. (k == n) ≡ b → f n ≡ or_else (f n) (if b then Some s else None)) [
  | true ↦ λ same. or_some (f n) (Some s) t (ap f (sym (eqb-true k n same)) ∙ is)
  | false ↦ λ other. or_none (f n)
] refl) j

-- who has none gets it
pub one_put : (f g : ℕ → Option Span) (k : ℕ) (s : Span) → f k ≡ None
    → ((q : ℕ) → g q ≡ cond (is_at (nat_cmp k) q) (Some s) (f q)) → g ≡ with_span f k s
one_put f g k s none put = λ j n.
    (put n ∙ ap (λ b. cond b (Some s) (f n)) (unsigned_tied k n)
    ∙ (elim (k == n) as (λ b. (k == n) ≡ b → cond b (Some s) (f n) ≡ or_else (f n) (if b then Some s else None)) [
      | true ↦ λ same. sym (ap (λ o. or_else o (Some s)) (ap f (sym (eqb-true k n same)) ∙ none))
      | false ↦ λ other. or_none (f n)
    ] refl)) j
