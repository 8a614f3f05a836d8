-- The path of a place asks for what stands only below its number.
use Rattle.std.proofs.Common.{refl, List, ap, ◌≡◌, ℕ, true, ◌<◌, nat_lt, false, zero, arith, suc, ◌∙◌, ◌+◌}
use Rattle.std.specs.Prelude.{None, if◌then◌else◌, Some, Option, option_map}
use Rattle.std.proofs.lemmas.Bool.{ltb-true}
use Rattle.std.specs.FinMap.{get}
use Rattle.archive_state.specs.Known.{path_under, path_with, path_by, path_of}
use Rattle.record_shapes.specs.Fields.{path_below}
use Rattle.record_kinds.specs.declared.record.Record.{Record}
use Rattle.record_kinds.specs.declared.record.Record.TheVariants as kind
use Rattle.archive_state.specs.Content.{Records}
use Rattle.list_laws.proofs.Numbers.{one_more}

-- as many steps as the number says are enough
pub under_alike : (n : ℕ) (f g : ℕ → Option (List ℕ)) (name : List ℕ) (parent : Option ℕ)
    → ((q : ℕ) → q < n → f q ≡ g q)
    → path_under n f name parent ≡ path_under n g name parent
under_alike n f g name None h = refl
under_alike n f g name (Some q) h =
    elim (nat_lt q n) as (λ b. nat_lt q n ≡ b → (if b then option_map (path_below name) (f q) else None)
    ≡ (if b then option_map (path_below name) (g q) else None)) [
      | true ↦ λ e. ap (option_map (path_below name)) (h q (ltb-true q n e))
      | false ↦ λ e. refl
    ] refl

pub with_alike : (n : ℕ) (f g : ℕ → Option (List ℕ)) (o : Option Record) → ((q : ℕ) → q < n → f q ≡ g q)
    → path_with n f o ≡ path_with n g o
with_alike n f g None h = refl
with_alike n f g (Some (kind.Place p)) h = under_alike n f g p.name p.parent h
with_alike n f g (Some (kind.Repo p)) h = refl
with_alike n f g (Some (kind.Source p)) h = refl
with_alike n f g (Some (kind.Person p)) h = refl
with_alike n f g (Some (kind.Family p)) h = refl
with_alike n f g (Some (kind.Citation p)) h = refl
with_alike n f g (Some (kind.Event p)) h = refl
with_alike n f g (Some (kind.Entry p)) h = refl
with_alike n f g (Some (kind.Other p)) h = refl

pub enough : (k j : ℕ) (m : Records) (n : ℕ) → n < k → n < j → path_by k m n ≡ path_by j m n
enough zero j m n h i = absurd (omega arith)
enough (suc k) zero m n h i = absurd (omega arith)
enough (suc k) (suc j) m n h i = with_alike n (path_by k m) (path_by j m) (get m n)
    (λ q less. enough k j m q (omega arith) (omega arith))

pub path_there : (m : Records) (n : ℕ) → path_of m n ≡ path_with n (path_of m) (get m n)
unfolding path_of
path_there m n = ap (λ s. path_by s m n) (one_more n) ∙ with_alike n (path_by n m) (λ q. path_by (q + 1) m q) (get m n)
    (λ q less. enough n (q + 1) m q less (omega arith))
