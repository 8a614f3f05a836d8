-- What belongs to a record of an archive, by the index of its records.
use Rattle.std.proofs.Common.{◌≡◌, ℕ, List, map, ap, sym, ◌∙◌}
use Rattle.std.specs.Prelude.{◌==◌}
use Rattle.std.specs.FinMap.{entries}
use Rattle.std.specs.List.{filter}
use Rattle.record_shapes.specs.Shapes.{Side}
use Rattle.archive_state.specs.Content.{Content}
use Rattle.list_laws.proofs.Lists.{map_map}
use Rattle.gedcom_export.specs.Index.{Index, IsIndexOf}
use Rattle.gedcom_export.specs.Owned.{numbers_by, sides_by}
use Rattle.gedcom_export.specs.declared.membership.Membership.{Membership}
use Rattle.gedcom_export.specs.declared.index_owned.Owned.{Owned}
use Rattle.sheets.specs.Gathered.{Gathered, families_of, gathered}
use Rattle.sheets.specs.Indexed.{indexed}
use Rattle.sheets.proofs.Same.{indexed_is}

-- what the index of a content answers is what the content has
pub answered : {A : Type 0} (of : Gathered → A) (c s : Content) (i : Index) (found : A) → s ≡ c
    → IsIndexOf (entries s.records) i → found ≡ of (indexed s.records i) → found ≡ of (gathered c.records)
answered of c s i found same is e =
    e ∙ ap of (indexed_is s.records i is) ∙ ap (λ (x : Content). of (gathered x.records)) same

-- the numbers of what a record owns
pub owned_by : (n : ℕ) (os all : List Owned) (ns : List ℕ) → os ≡ filter (λ (o : Owned). o.owner == n) all
    → ns ≡ map (λ (o : Owned). o.number) os → ns ≡ numbers_by n all
owned_by n os all ns e made = made ∙ ap (map (λ (o : Owned). o.number)) e

-- the families of a person
pub families_by : (n : ℕ) (xs all : List Membership) (ns : List ℕ)
    → xs ≡ filter (λ (x : Membership). x.person == n) all → ns ≡ map (λ (x : Membership). x.side.family) xs
    → ns ≡ families_of (sides_by n all)
families_by n xs all ns e made =
    let own : List Membership = filter (λ (x : Membership). x.person == n) all in
    made ∙ ap (map (λ (x : Membership). x.side.family)) e
    ∙ sym (map_map (λ (s : Side). s.family) (λ (x : Membership). x.side) own)
