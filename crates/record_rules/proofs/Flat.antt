-- A test of each of lists that were put together.
use Rattle.std.proofs.Common.{◌≡◌, List, [], ◌∷◌, ◌++◌, Bool, ◌&&◌, refl, ap, ◌∙◌}
use Rattle.std.specs.List.{list_all, flat_map}
use Rattle.std.proofs.lemmas.List.Folds.{list_all-append}
use Rattle.stored_lines.specs.Tree.{Tree, forest_of}
use Rattle.stored_lines.specs.Line.{Line}
use Rattle.record_kinds.specs.Model as model
use Rattle.archive_state.specs.Carried.{family_carried}
use Rattle.record_rules.specs.Lines.{line_all, forest_all}

pub all_both : {A : Type 0} (p : A → Bool) (xs ys : List A) → list_all p (xs ++ ys) ≡ (list_all p xs && list_all p ys)
all_both p xs ys = list_all-append p xs ys

pub all_flat : {A B : Type 0} (p : B → Bool) (f : A → List B) (xs : List A)
    → list_all p (flat_map f xs) ≡ list_all (λ x. list_all p (f x)) xs
all_flat p f [] = refl
all_flat p f (x ∷ xs) = list_all-append p (f x) (flat_map f xs) ∙ ap (λ b. list_all p (f x) && b) (all_flat p f xs)

pub forest_is : (fits : Line → Bool) (ts : List (Tree Line)) → forest_all fits (forest_of ts) ≡ list_all
    (line_all fits) ts
forest_is fits [] = refl
forest_is fits (t ∷ ts) = ap (λ b. line_all fits t && b) (forest_is fits ts)

-- the carried lines of a family, part by part
pub family_flat : (p : Tree Line → Bool) (f : model.Family) → list_all p (family_carried f)
    ≡ (list_all (λ (x : model.Partner). list_all p (x.carried ++ x.carried_by_person)) f.partners
    && (list_all (λ (x : model.Child). list_all p (x.carried ++ x.carried_by_person)) f.children && list_all p
    f.carried))
family_flat p f =
    let partners = λ (x : model.Partner). x.carried ++ x.carried_by_person in
    let children = λ (x : model.Child). x.carried ++ x.carried_by_person in
    list_all-append p (flat_map partners f.partners) (flat_map children f.children ++ f.carried)
    ∙ ap (λ b. b && list_all p (flat_map children f.children ++ f.carried)) (all_flat p partners f.partners)
    ∙ ap (λ b. list_all (λ x. list_all p (partners x)) f.partners && b)
    (list_all-append p (flat_map children f.children) f.carried
    ∙ ap (λ b. b && list_all p f.carried) (all_flat p children f.children))
