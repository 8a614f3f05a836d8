-- Each place that a path names is there, or it is to be made.
use Rattle.std.proofs.Common.{
  ◌≡◌,
  ◌∙◌,
  ◌++◌,
  ◌||◌,
  [],
  ◌∷◌,
  Bool,
  List,
  ap,
  cond,
  false,
  refl,
  subst,
  sym,
  true,
  ℕ,
}
use Rattle.std.specs.Prelude.{bytes_eq}
use Rattle.std.specs.List.{AllByRecursion, list_any}
use Rattle.std.proofs.lemmas.Bool.{false≢true}
use Rattle.std.proofs.lemmas.List.Folds.{list_any-append}
use Rattle.std.proofs.lemmas.Slice.Eq.{bytes_eq-Decides}
use Rattle.archive_state.specs.Content.{Records}
use Rattle.page_places.specs.News.{below, is_there, news_of, nothing, own}
use Rattle.page_places.specs.Ways.{is_unnamed}
use Rattle.page_places.specs.declared.news.News.{News}

abbrev is_among : List (List ℕ) → List ℕ → Bool
is_among paths p = list_any (λ other. bytes_eq p other) paths

module _ (m : Records) (made : List ℕ → Bool) where
  abbrev IsMet : List (List ℕ) → List ℕ → Type 0
  IsMet paths p = (is_there m made p || is_among paths p) ≡ true

  or_more : (a b c : Bool) → (a || b) ≡ true → (a || (b || c)) ≡ true
  or_more true b c h = refl
  or_more false true c h = refl
  or_more false false c h = absurd (false≢true h)

  met_more : (paths more : List (List ℕ)) (p : List ℕ) → IsMet paths p → IsMet (paths ++ more) p
  met_more paths more p h =
      ap (λ (b : Bool). is_there m made p || b) (list_any-append (λ other. bytes_eq p other) paths more)
      ∙ or_more (is_there m made p) (is_among paths p) (is_among more p) h

  all_more : (paths more ps : List (List ℕ)) → AllByRecursion (IsMet paths) ps
      → AllByRecursion (IsMet (paths ++ more)) ps
  all_more paths more [] h = h
  all_more paths more (p ∷ ps) h = (met_more paths more p h.0, all_more paths more ps h.1)

  -- ---- a path itself
  or_front : (a b c : Bool) → (a || c) ≡ true → (a || (b || c)) ≡ true
  or_front true b c h = refl
  or_front false true c h = refl
  or_front false false c h = h

  abbrev nameless : News
  nameless = record { paths = []; is_unnamed = true }

  abbrev alone : List ℕ → News
  alone path = record { paths = path ∷ []; is_unnamed = false }

  abbrev own_by : Bool → Bool → List ℕ → News
  own_by there unnamed path = cond there nothing (cond unnamed nameless (alone path))

  own_met : (there unnamed : Bool) (path : List ℕ) → (own_by there unnamed path).is_unnamed ≡ false
      → (there || is_among (own_by there unnamed path).paths path) ≡ true
  own_met true unnamed path h = refl
  own_met false true path h = absurd (false≢true (sym h))
  own_met false false path h = ap (λ (b : Bool). b || false) ((bytes_eq-Decides path path).1 refl)

  -- ---- a path, and those above it
  abbrev joined : News → News → News
  joined others n = record { paths = others.paths ++ n.paths; is_unnamed = n.is_unnamed }

  abbrev IsNeeded : List (List ℕ) → List (List ℕ) → Type 0
  IsNeeded paths ps = AllByRecursion (IsMet paths) ps

  needed_by : (others : News) (p : List ℕ) (ps : List (List ℕ)) (cut : Bool) → others.is_unnamed ≡ cut
      → (others.is_unnamed ≡ false → IsNeeded others.paths ps)
      → (below others (own (is_there m made p) p)).is_unnamed ≡ false
      → IsNeeded (below others (own (is_there m made p) p)).paths (p ∷ ps)
  needed_by others p ps true e above h =
      let n : News = own (is_there m made p) p in
      let same : below others n ≡ others = ap (λ (b : Bool). cond b others (joined others n)) e in
      absurd (false≢true (sym h ∙ (ap (λ (o : News). o.is_unnamed) same ∙ e)))
  needed_by others p ps false e above h =
      let n : News = own (is_there m made p) p in
      let same : below others n ≡ joined others n = ap (λ (b : Bool). cond b others (joined others n)) e in
      let named : n.is_unnamed ≡ false = sym (ap (λ (o : News). o.is_unnamed) same) ∙ h in
      subst (λ (o : News). IsNeeded o.paths (p ∷ ps)) (sym same) (
        ap (λ (b : Bool). is_there m made p || b)
            (list_any-append (λ other. bytes_eq p other) others.paths n.paths)
            ∙ or_front (is_there m made p) (is_among others.paths p) (is_among n.paths p)
            (own_met (is_there m made p) (is_unnamed p) p named),
        all_more others.paths n.paths ps (above e),
      )

  pub all_needed : (ps : List (List ℕ)) → (news_of m made ps).is_unnamed ≡ false
      → AllByRecursion (λ (p : List ℕ). (is_there m made p
      || list_any (λ other. bytes_eq p other) (news_of m made ps).paths) ≡ true) ps
  all_needed [] h = tt
  all_needed (p ∷ ps) h =
      needed_by (news_of m made ps) p ps (news_of m made ps).is_unnamed refl (all_needed ps) h
