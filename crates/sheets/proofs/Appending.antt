-- Texts that are appended in steps, and what belongs to a record as lists have it.
use Rattle.std.proofs.Common.{◌≡◌, ℕ, ◌+◌, ◌<◌, ◌++◌, ◌∷◌, [], List, length, get_or, take, ap, sym, ◌∙◌, add-one}
use Rattle.std.specs.Prelude.{◌==◌}
use Rattle.std.specs.FinMap.{entries}
use Rattle.std.specs.List.{filter, flat_map}
use Rattle.std.proofs.Math.Seq.{take-suc}
use Rattle.std.proofs.lemmas.List.{flat_map_more}
use Rattle.std.proofs.lemmas.List.Folds.{flat_map-map}
use Rattle.record_shapes.specs.Shapes.{Side}
use Rattle.archive_state.specs.Content.{Records}
use Rattle.gedcom_export.specs.Index.{Index, IsIndexOf}
use Rattle.gedcom_export.specs.Owned.{numbers_by, sides_by}
use Rattle.gedcom_export.specs.declared.membership.Membership.{Membership}
use Rattle.gedcom_export.specs.declared.index_owned.Owned.{Owned}
use Rattle.sheets.specs.Gathered.{Gathered, families_of, gathered}
use Rattle.sheets.specs.Indexed.{indexed}
use Rattle.sheets.proofs.Same.{indexed_is}

-- the text of one more of a list is appended
pub then_next : {X : Type 0} (f : X → List ℕ) (xs : List X) (i : ℕ) (x : X) (old out new : List ℕ) → i < length xs
    → x ≡ get_or xs i x → new ≡ out ++ f x → out ≡ old ++ flat_map f (take i xs)
    → new ≡ old ++ flat_map f (take (i + 1) xs)
then_next {X} f xs i x old out new less at e before =
    let more : take (i + 1) xs ≡ take i xs ++ x ∷ [] = ap (λ (k : ℕ). take k xs) (add-one i) ∙ take-suc xs i x less
    ∙ ap (λ (y : X). take i xs ++ y ∷ []) (sym at) in
    e ∙ ap (λ (t : List ℕ). t ++ f x) before ∙ flat_map_more f old (take i xs) x
    ∙ ap (λ (ys : List X). old ++ flat_map f ys) (sym more)

-- the texts of what a record owns
pub owned_text : (f : ℕ → List ℕ) (n : ℕ) (os all : List Owned) → os ≡ filter (λ (o : Owned). o.owner == n) all
    → flat_map (λ (o : Owned). f o.number) os ≡ flat_map f (numbers_by n all)
owned_text f n os all e = ap (flat_map (λ (o : Owned). f o.number)) e
    ∙ sym (flat_map-map f (λ (o : Owned). o.number) (filter (λ (o : Owned). o.owner == n) all))

-- the texts of the families of a person
pub side_text : (f : ℕ → List ℕ) (n : ℕ) (xs all : List Membership)
    → xs ≡ filter (λ (x : Membership). x.person == n) all
    → flat_map (λ (x : Membership). f x.side.family) xs ≡ flat_map f (families_of (sides_by n all))
side_text f n xs all e =
    let own : List Membership = filter (λ (x : Membership). x.person == n) all in
    ap (flat_map (λ (x : Membership). f x.side.family)) e
    ∙ sym (flat_map-map (λ (s : Side). f s.family) (λ (x : Membership). x.side) own)
    ∙ sym (flat_map-map f (λ (s : Side). s.family) (sides_by n all))

-- a text that was made by the index of an archive is that of the archive
pub made : (text : Gathered → List ℕ) (m s : Records) (i : Index) (out new : List ℕ) → out ≡ [] → s ≡ m
    → IsIndexOf (entries m) i → new ≡ out ++ text (indexed s i) → new ≡ text (gathered m)
made text m s i out new none same is e = e ∙ ap (λ (t : List ℕ). t ++ text (indexed s i)) none
    ∙ ap (λ (r : Records). text (indexed r i)) same ∙ ap text (indexed_is m i is)
