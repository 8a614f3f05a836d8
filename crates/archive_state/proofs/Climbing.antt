-- The path of a place, one name after the other.
use Rattle.std.proofs.Common.{
  ◌≡◌,
  ◌≢◌,
  ℕ,
  ◌<◌,
  ◌≤◌,
  List,
  [],
  ◌∷◌,
  ◌++◌,
  length,
  refl,
  sym,
  ap,
  subst,
  ◌∙◌,
  ◌↔◌,
  arith,
  Bool,
  false,
  append-nil,
}
use Rattle.std.specs.Prelude.{Option, Some, None, codes, IsTrue}
use Rattle.std.proofs.lemmas.List.{append_cancel_left}
use Rattle.std.specs.FinMap.{get}
use Rattle.record_kinds.specs.Model as model
use Rattle.record_kinds.specs.declared.record.Record.TheVariants as kind
use Rattle.archive_state.specs.Content.{Records}
use Rattle.record_shapes.specs.Paths.{joined}
use Rattle.archive_state.specs.Paths.{IsPlaceAt, Climbs, HasPath}
use Rattle.list_laws.proofs.Booleans.{never}

no_length : (xs : List ℕ) → length xs ≡ 0 → xs ≡ []
no_length [] e = refl
no_length (x ∷ xs) e = absurd (omega arith)

-- one place has one record
one_place : (m : Records) (n : ℕ) (p q : model.Place) → IsPlaceAt m n p → IsPlaceAt m n q → p ≡ q
one_place m n p q a b = let e : Some (kind.Place p) ≡ Some (kind.Place q) = sym a ∙ b in cc

-- what a path is below a place's name
abbrev pub Goes : Records → ℕ → List ℕ → Option ℕ → List ℕ → Type 0
Goes m n name None path = path ≡ name
Goes m n name (Some q) path = (q < n) × ((rest : List ℕ) × (path ≡ name ++ (codes ", " ++ rest)) × HasPath m q rest)

-- a path that is known goes on from the place's name
pub path_goes : (m : Records) (n : ℕ) (p : model.Place) (path : List ℕ) → IsPlaceAt m n p → HasPath m n path
    → Goes m n p.name p.parent path
path_goes m n p path at ([], h, e) = absurd h
path_goes m n p path at ((name ∷ []), (q, found, named, none), e) =
    let same : p ≡ q = one_place m n p q at found in
    let parent : p.parent ≡ None = ap (λ (x : model.Place). x.parent) same ∙ none in
    let called : p.name ≡ name = ap (λ (x : model.Place). x.name) same ∙ named in
    rw parent (sym e ∙ sym called)
path_goes m n p path at ((name ∷ (above ∷ names)), (q, found, named, (up, is_up, less, climbs)), e) =
    let same : p ≡ q = one_place m n p q at found in
    let parent : p.parent ≡ Some up = ap (λ (x : model.Place). x.parent) same ∙ is_up in
    let called : p.name ≡ name = ap (λ (x : model.Place). x.name) same ∙ named in
    rw parent (
      less,
      (
        joined (above ∷ names),
        sym e ∙ ap (λ t. t ++ (codes ", " ++ joined (above ∷ names)))
            (sym called),
        ((above ∷ names), climbs, refl),
      ),
    )

-- what goes on so is a path
pub goes_path : (m : Records) (n : ℕ) (p : model.Place) (path : List ℕ) (parent : Option ℕ) → IsPlaceAt m n p
    → p.parent ≡ parent → Goes m n p.name parent path → HasPath m n path
goes_path m n p path None at is e = (p.name ∷ [], (p, at, refl, is), sym e)
goes_path m n p path (Some q) at is (less, (rest, e, ([], h, t))) = absurd h
goes_path m n p path (Some q) at is (less, (rest, e, ((above ∷ names), climbs, t))) =
    (p.name ∷ (above ∷ names), (p, at, refl, (q, is, less, climbs)), ap (λ r. p.name ++ (codes ", " ++ r)) t ∙ sym e)

-- where no place stands there is no path
pub no_place : (m : Records) (n : ℕ) (path : List ℕ) → ((p : model.Place) → get m n ≢ Some (kind.Place p))
    → ¬ (HasPath m n path)
no_place m n path none_at ([], h, e) = h
no_place m n path none_at ((name ∷ []), (q, found, named, none), e) = none_at q found
no_place m n path none_at ((name ∷ (above ∷ names)), (q, found, named, up), e) = none_at q found

-- ---- whether it has the path, case by case
pub none_iff : (m : Records) (n : ℕ) (path : List ℕ) → ((p : model.Place) → ¬ (IsPlaceAt m n p))
    → IsTrue false ↔ HasPath m n path
none_iff m n path none_at = (λ t. absurd (never t), λ h. absurd (no_place m n path none_at h))

-- a path begins with the place's name
front : (m : Records) (n : ℕ) (name : List ℕ) (parent : Option ℕ) (path : List ℕ) → Goes m n name parent path
    → (rest : List ℕ) × (path ≡ name ++ rest)
front m n name None path e = ([], e ∙ sym (append-nil name))
front m n name (Some q) path (less, (rest, e, h)) = (codes ", " ++ rest, e)

pub other_name_iff : (m : Records) (n : ℕ) (p : model.Place) (path : List ℕ) → IsPlaceAt m n p
    → ((rest : List ℕ) → path ≢ p.name ++ rest) → IsTrue false ↔ HasPath m n path
other_name_iff m n p path at apart = (
  λ t. absurd (never t),
  λ h. let f = front m n p.name p.parent path (path_goes m n p path at h) in
      absurd (apart f.0 f.1),
)

pub alone_iff : (m : Records) (n : ℕ) (p : model.Place) (path rest : List ℕ) (b : Bool) → IsPlaceAt m n p
    → path ≡ p.name ++ rest → p.parent ≡ None → IsTrue b ↔ (length rest ≡ 0) → IsTrue b ↔ HasPath m n path
alone_iff m n p path rest b at e none empty = (
  λ t. goes_path m n p path None at none (e ∙ ap (λ r. p.name ++ r) (no_length rest (empty.0 t)) ∙ append-nil p.name),
  λ h. let same : path ≡ p.name = rw none at (path_goes m n p path at h) in
      empty.1 (ap length (append_cancel_left p.name rest [] (sym e ∙ same ∙ sym (append-nil p.name)))),
)

pub above_iff : (m : Records) (n q : ℕ) (p : model.Place) (path : List ℕ) → IsPlaceAt m n p → p.parent ≡ Some q → n ≤ q
    → IsTrue false ↔ HasPath m n path
above_iff m n q p path at is above = (
  λ t. absurd (never t),
  λ h. let g : Goes m n p.name (Some q) path = rw is at (path_goes m n p path at h) in
      let less : q < n = g.0 in
      absurd (omega arith),
)

pub other_end_iff : (m : Records) (n q : ℕ) (p : model.Place) (path rest : List ℕ) → IsPlaceAt m n p
    → path ≡ p.name ++ rest → p.parent ≡ Some q → ((above : List ℕ) → rest ≢ codes ", " ++ above)
    → IsTrue false ↔ HasPath m n path
other_end_iff m n q p path rest at e is apart = (
  λ t. absurd (never t),
  λ h. let g : Goes m n p.name (Some q) path = rw is at (path_goes m n p path at h) in
      absurd (apart g.1.0 (append_cancel_left p.name rest (codes ", " ++ g.1.0) (sym e ∙ g.1.1))),
)

pub within_iff : (m : Records) (n q : ℕ) (p : model.Place) (path rest above : List ℕ) (b : Bool) → IsPlaceAt m n p
    → path ≡ p.name ++ rest → p.parent ≡ Some q → q < n → rest ≡ codes ", " ++ above → IsTrue b ↔ HasPath m q above
    → IsTrue b ↔ HasPath m n path
within_iff m n q p path rest above b at e is less f up = (
  λ t. goes_path m n p path (Some q) at is (less, (above, e ∙ ap (λ r. p.name ++ r) f, up.0 t)),
  λ h. let g : Goes m n p.name (Some q) path = rw is at (path_goes m n p path at h) in
      let same : codes ", " ++ above ≡ codes ", " ++ g.1.0 = sym f ∙ append_cancel_left p.name rest
      (codes ", " ++ g.1.0) (sym e ∙ g.1.1) in
      up.1 (subst (HasPath m q) (sym (append_cancel_left (codes ", ") above g.1.0 same)) g.1.2),
)

-- where there is a path, something stands
pub stands_there : (m : Records) (n : ℕ) (path : List ℕ) → HasPath m n path → get m n ≡ None → ⊥
stands_there m n path h e = no_place m n path (λ p at. let both : None ≡ Some (kind.Place p) = sym e ∙ at in cc) h

-- ---- a place has one path
climbs_once : (m : Records) (n : ℕ) (xs ys : List (List ℕ)) → Climbs m n xs → Climbs m n ys → xs ≡ ys
climbs_once m n [] ys h g = absurd h
climbs_once m n (x ∷ []) [] h g = absurd g
climbs_once m n (x ∷ (u ∷ xs)) [] h g = absurd g
climbs_once m n (x ∷ []) (y ∷ []) (p, at, named, none) (q, found, called, nothing) =
    let same : p ≡ q = one_place m n p q at found in
    ap (λ t. t ∷ []) (sym named ∙ ap (λ (r : model.Place). r.name) same ∙ called)
climbs_once m n (x ∷ []) (y ∷ (v ∷ ys)) (p, at, named, none) (q, found, called, (up, is_up, less, climbs)) =
    let same : p ≡ q = one_place m n p q at found in
    let both : None ≡ Some up = sym none ∙ ap (λ (r : model.Place). r.parent) same ∙ is_up in cc
climbs_once m n (x ∷ (u ∷ xs)) (y ∷ []) (p, at, named, (up, is_up, less, climbs)) (q, found, called, none) =
    let same : q ≡ p = one_place m n q p found at in
    let both : None ≡ Some up = sym none ∙ ap (λ (r : model.Place). r.parent) same ∙ is_up in cc
climbs_once m n (x ∷ (u ∷ xs)) (y ∷ (v ∷ ys)) (p, at, named, (up, is_up, less, climbs))
    (q, found, called, (high, is_high, under, goes)) =
    let same : p ≡ q = one_place m n p q at found in
    let parents : Some up ≡ Some high = sym is_up ∙ ap (λ (r : model.Place). r.parent) same ∙ is_high in
    let parent : high ≡ up = cc in
    let rest : u ∷ xs ≡ v ∷ ys = climbs_once m up (u ∷ xs) (v ∷ ys) climbs
    (subst (λ k. Climbs m k (v ∷ ys)) parent goes) in
    let first : x ≡ y = sym named ∙ ap (λ (r : model.Place). r.name) same ∙ called in
    λ i. first i ∷ rest i

pub path_once : (m : Records) (n : ℕ) (a b : List ℕ) → HasPath m n a → HasPath m n b → a ≡ b
path_once m n a b (xs, h, e) (ys, g, f) = sym e ∙ ap joined (climbs_once m n xs ys h g) ∙ f
