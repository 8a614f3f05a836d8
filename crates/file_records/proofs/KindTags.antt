-- What a node is by its tag: a record of a kind exactly where it has the tag of that kind.
use Rattle.std.proofs.Common.{◌≡◌, ℕ, true, false, List, refl, sym, ap, ◌∙◌, cond}
use Rattle.std.specs.Prelude.{codes, bytes_eq}
use Rattle.std.proofs.lemmas.Slice.Eq.{bytes_eq-Decides}
use Rattle.import_definitions.specs.Kinds.{kind_named}
use Rattle.import_definitions.specs.declared.kinds.RootKind.{RootKind}
use Rattle.import_definitions.specs.declared.kinds.RootKind.TheVariants as kind
use Rattle.field_rows.specs.Named.{named_tag}
use Rattle.field_rows.specs.declared.known.Named.{Named}
use Rattle.field_rows.specs.declared.known.Named.TheVariants as named
use Rattle.file_records.specs.KnownViews.{is_kind}

-- a tag that is t, and any other
module _ (n : Named) (tag : List ℕ) where
  if_tag : (t : List ℕ) (k other : RootKind) → is_kind n k ≡ bytes_eq t (named_tag n)
      → (bytes_eq tag t ≡ false → is_kind n other ≡ bytes_eq tag (named_tag n))
      → is_kind n (cond (bytes_eq tag t) k other) ≡ bytes_eq tag (named_tag n)
  if_tag t k other here there = elim (bytes_eq tag t) as (λ b. bytes_eq tag t ≡ b
      → is_kind n (cond b k other) ≡ bytes_eq tag (named_tag n)) [
        | true ↦ λ e. here ∙ ap (λ u. bytes_eq u (named_tag n)) (sym ((bytes_eq-Decides tag t).0 e))
        | false ↦ there
      ] refl

pub kind_is : (n : Named) (tag : List ℕ) → is_kind n (kind_named tag) ≡ bytes_eq tag (named_tag n)
kind_is named.Repo tag =
    if_tag named.Repo tag (codes "_LOC") kind.Place _ refl (λ l. if_tag named.Repo tag (codes "REPO") kind.Repo _ refl
    (λ r. if_tag named.Repo tag (codes "SOUR") kind.Source _ refl
    (λ s. if_tag named.Repo tag (codes "INDI") kind.Person _
    refl (λ i. if_tag named.Repo tag (codes "FAM") kind.Family kind.Other refl (λ f. sym r)))))
kind_is named.Source tag =
    if_tag named.Source tag (codes "_LOC") kind.Place _ refl
    (λ l. if_tag named.Source tag (codes "REPO") kind.Repo _ refl
    (λ r. if_tag named.Source tag (codes "SOUR") kind.Source _ refl
    (λ s. if_tag named.Source tag (codes "INDI") kind.Person
    _ refl (λ i. if_tag named.Source tag (codes "FAM") kind.Family kind.Other refl (λ f. sym s)))))
kind_is named.Person tag =
    if_tag named.Person tag (codes "_LOC") kind.Place _ refl
    (λ l. if_tag named.Person tag (codes "REPO") kind.Repo _ refl
    (λ r. if_tag named.Person tag (codes "SOUR") kind.Source _ refl
    (λ s. if_tag named.Person tag (codes "INDI") kind.Person
    _ refl (λ i. if_tag named.Person tag (codes "FAM") kind.Family kind.Other refl (λ f. sym i)))))
kind_is named.Family tag =
    if_tag named.Family tag (codes "_LOC") kind.Place _ refl
    (λ l. if_tag named.Family tag (codes "REPO") kind.Repo _ refl
    (λ r. if_tag named.Family tag (codes "SOUR") kind.Source _ refl
    (λ s. if_tag named.Family tag (codes "INDI") kind.Person
    _ refl (λ i. if_tag named.Family tag (codes "FAM") kind.Family kind.Other refl (λ f. sym f)))))
