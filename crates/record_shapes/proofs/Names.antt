-- The names in a path, each without a comma and without spaces around it.
use Rattle.std.proofs.Common.{◌==◌, List, ◌≡◌, ℕ, false, ◌∷◌, [], refl, true, cond, ◌∙◌, ap, map, ◌++◌, subst, sym}
use Rattle.std.specs.List.{list_any, onto_first}
use Rattle.std.specs.Prelude.{◌||◌}
use Rattle.std.proofs.lemmas.Bool.{or_parts}
use Rattle.std.proofs.lemmas.List.Folds.{list_any-append}
use Rattle.std.proofs.lemmas.List.{map-append}
use Rattle.record_shapes.specs.Lists.{EachOf}
use Rattle.record_shapes.specs.Paths.{parts, from_word, backwards, trimmed, joined, normal}
use Rattle.record_shapes.proofs.Each.{each_more, each_mapped}
use Rattle.record_shapes.proofs.Trimmed.{trimmed_twice}
use Rattle.record_shapes.proofs.PathTexts.{parts_both, parts_behind_space, parts_some}

abbrev pub HasNoComma : List ℕ → Type 0
HasNoComma t = list_any (λ b. b == 44) t ≡ false

onto_plain : (x : ℕ) (xs : List (List ℕ)) → (x == 44) ≡ false → EachOf HasNoComma xs
    → EachOf HasNoComma (onto_first x xs)
onto_plain x [] e h = ((λ i. e i || false), tt)
onto_plain x (y ∷ ys) e h = ((λ i. e i || h.0 i), h.1)

parts_plain : (t : List ℕ) → EachOf HasNoComma (parts t)
parts_plain [] = (refl, tt)
parts_plain (x ∷ xs) =
    elim (x == 44) as (λ b. (x == 44) ≡ b → EachOf HasNoComma (cond b ([] ∷ parts xs) (onto_first x (parts xs)))) [
      | true ↦ λ e. (refl, parts_plain xs)
      | false ↦ λ e. onto_plain x (parts xs) e (parts_plain xs)
    ] refl

word_plain : (t : List ℕ) → HasNoComma t → HasNoComma (from_word t)
word_plain [] h = refl
word_plain (b ∷ bs) h =
    let p = or_parts (b == 44) (list_any (λ x. x == 44) bs) h in
    elim (b == 32) as (λ x. HasNoComma (cond x (from_word bs) (b ∷ bs))) [
      | true ↦ word_plain bs p.1
      | false ↦ h
    ]

back_plain : (t : List ℕ) → HasNoComma t → HasNoComma (backwards t)
back_plain [] h = refl
back_plain (b ∷ bs) h =
    let p = or_parts (b == 44) (list_any (λ x. x == 44) bs) h in
    list_any-append (λ x. x == 44) (backwards bs) (b ∷ []) ∙ (λ i. back_plain bs p.1 i || (p.0 i || false))

trimmed_plain : (t : List ℕ) → HasNoComma t → HasNoComma (trimmed t)
trimmed_plain t h = back_plain (from_word (backwards (from_word t)))
    (word_plain (backwards (from_word t)) (back_plain (from_word t) (word_plain t h)))

parts_alone : (t : List ℕ) → HasNoComma t → parts t ≡ t ∷ []
parts_alone [] h = refl
parts_alone (b ∷ bs) h =
    let p = or_parts (b == 44) (list_any (λ x. x == 44) bs) h in
    ap (λ x. cond x ([] ∷ parts bs) (onto_first b (parts bs))) p.0 ∙ ap (onto_first b) (parts_alone bs p.1)

-- a name as it stands in a path: without comma, and without spaces at its ends
pub record IsName (t : List ℕ) : Type 0 where
  pub plain : HasNoComma t
  pub trim : trimmed t ≡ t

pub are_names : (t : List ℕ) → EachOf IsName (map trimmed (parts t))
are_names t = each_mapped IsName trimmed (parts t) (each_more HasNoComma (λ p. IsName (trimmed p))
    (λ p h. record { plain = trimmed_plain p h; trim = trimmed_twice p }) (parts t) (parts_plain t))

name_back : (t : List ℕ) → IsName t → map trimmed (parts t) ≡ t ∷ []
name_back t h = ap (map trimmed) (parts_alone t h.plain) ∙ ap (λ x. x ∷ []) h.trim

-- the names of a path are those that were joined
pub names_back : (n : List ℕ) (ns : List (List ℕ)) → EachOf IsName (n ∷ ns)
    → map trimmed (parts (joined (n ∷ ns))) ≡ n ∷ ns
names_back n [] h = name_back n h.0
names_back n (m ∷ ns) h =
    ap (map trimmed) (parts_both n (32 ∷ joined (m ∷ ns)))
    ∙ map-append trimmed (parts n) (parts (32 ∷ joined (m ∷ ns)))
    ∙ (λ i. name_back n h.0 i ++ (parts_behind_space (joined (m ∷ ns)) ∙ names_back m ns h.1) i)

pub normal_twice : (t : List ℕ) → normal (normal t) ≡ normal t
unfolding normal
normal_twice t =
    let s = parts_some t in
    let same : map trimmed (parts t) ≡ trimmed s.0 ∷ map trimmed s.1 = ap (map trimmed) s.2 in
    let names : EachOf IsName (trimmed s.0 ∷ map trimmed s.1) = subst (EachOf IsName) same (are_names t) in
    ap (λ ns. joined (map trimmed (parts (joined ns)))) same
    ∙ ap joined (names_back (trimmed s.0) (map trimmed s.1) names)
    ∙ sym (ap joined same)
