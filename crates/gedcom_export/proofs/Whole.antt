-- What is gathered of a whole archive is its index.
use Rattle.std.proofs.Common.{◌≡◌, ℕ, List, map, sym, ap, subst, ◌∙◌}
use Rattle.std.specs.FinMap.{get, keys, entries, get-entries}
use Rattle.archive_state.specs.Content.{Records}
use Rattle.gedcom_export.specs.Names.{letter_at, name_of, name_with}
use Rattle.gedcom_export.specs.Order.{Numbered, of_rank}
use Rattle.gedcom_export.specs.Adding.{gathered_of}
use Rattle.gedcom_export.specs.Arranging.{IsArrangement}
use Rattle.gedcom_export.specs.Index.{Index, IsGathered, IsIndexOf, letter_in, numbers, numbers_in, place_in_export}
use Rattle.gedcom_export.specs.Shown.{names_in}
use Rattle.gedcom_export.specs.declared.membership.Membership.{Membership}
use Rattle.gedcom_export.specs.declared.index_owned.Owned.{Owned}
use Rattle.gedcom_export.specs.declared.rank.Rank.{Rank}
use Rattle.gedcom_export.specs.declared.rank.Rank.TheVariants as rank
use Rattle.gedcom_export.proofs.Growing.{gathered_is}

-- the order of the owners does not matter
arranged_is : (es : List Numbered) (i j : Index) → IsGathered es i → IsArrangement i j → IsIndexOf es j
arranged_is es i j h a =
    let same = a.same in
    record {
      gathered = record {
        letters = λ n. ap (λ (x : Index). letter_in x n) same ∙ h.letters n;
        names = λ n. ap (λ (x : Index). get x.names n) same ∙ h.names n;
        events = λ n. ap (map (λ (o : Owned). o.number)) (a.events.same n) ∙ h.events n;
        citations = λ n. ap (map (λ (o : Owned). o.number)) (a.citations.same n) ∙ h.citations n;
        child_in = λ n. ap (map (λ (x : Membership). x.side)) (a.child_in.same n) ∙ h.child_in n;
        partner_in = λ n. ap (map (λ (x : Membership). x.side)) (a.partner_in.same n) ∙ h.partner_in n;
        places = ap (λ (x : Index). x.places) same ∙ h.places;
        repos = ap (λ (x : Index). x.repos) same ∙ h.repos;
        sources = ap (λ (x : Index). x.sources) same ∙ h.sources;
        persons = ap (λ (x : Index). x.persons) same ∙ h.persons;
        families = ap (λ (x : Index). x.families) same ∙ h.families;
        entries = ap (λ (x : Index). x.entries) same ∙ h.entries;
        others = ap (λ (x : Index). x.others) same ∙ h.others;
      };
      arranged = record {
        events = a.events.ascends;
        citations = a.citations.ascends;
        child_in = a.child_in.ascends;
        partner_in = a.partner_in.ascends;
      };
    }

pub index_is : (m : Records) (i j : Index) → i ≡ gathered_of (get m) (keys m) → IsArrangement i j
    → IsIndexOf (entries m) j
index_is m i j same a = arranged_is (entries m) i j
    (subst (λ (x : Index). IsGathered (entries m) x) (sym same) (gathered_is m)) a

-- the names of an index are those of the archive
pub names_are : (m : Records) (i : Index) → IsGathered (entries m) i → (n : ℕ) → names_in i n ≡ name_of m n
names_are m i h n = ap (λ l. name_with l n) (h.letters n ∙ ap letter_at (sym (get-entries m n)))

-- the numbers of a kind are those of the archive
pub numbers_are : (es : List Numbered) (i : Index) → IsGathered es i → (k : Rank)
    → numbers_in i k ≡ numbers (of_rank es (place_in_export k))
numbers_are es i h rank.Places = h.places
numbers_are es i h rank.Repos = h.repos
numbers_are es i h rank.Sources = h.sources
numbers_are es i h rank.Persons = h.persons
numbers_are es i h rank.Families = h.families
numbers_are es i h rank.Entries = h.entries
numbers_are es i h rank.Others = h.others
