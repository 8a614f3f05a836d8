-- What settling a path comes to, by what is found of it.
use Rattle.std.proofs.Common.{◌≡◌, ℕ, ◌+◌, ◌≤◌, ◌<◌, true, false, List, [], ◌∷◌, ◌++◌, sym, ap, ◌∙◌, subst, arith}
use Rattle.std.specs.Prelude.{Option, Some, None, Result, Ok, Err, IfErr, IfOk, MatchResult, OnOk}
use Rattle.archive_state.specs.Looks.{is_failure, is_stop}
use Rattle.record_text.specs.declared.refusal.RefusalKind.{RefusalKind}
use Rattle.record_text.specs.declared.refusal.RefusalKind.TheVariants.{Full}
use Rattle.record_shapes.specs.Paths.{joined, normal, trimmed}
use Rattle.field_rows.specs.Cuts.{Without}
use Rattle.import_definitions.specs.Numbers as numbers
use Rattle.import_definitions.specs.Numbers.{find, made_within, names_of, settle, unless_found, with_made}
use Rattle.import_numbers.specs.Settling.{Settles}
use Rattle.import_numbers.specs.Views.{drawing_said, found_said}
use Rattle.import_numbers.specs.declared.drawing.Drawing.{Drawing}
use Rattle.import_numbers.specs.declared.found.Found.{Found}
use Rattle.import_numbers.proofs.Cutting.{names_alone, names_cut, names_some}
use Rattle.field_rows.proofs.Parted.{normal_alone}

module _ (w : numbers.Places) (before : Option ℕ) (k : ℕ) (t : List ℕ) (d : numbers.Drawing) where
  abbrev pub right : numbers.Drawing × Option numbers.Found
  right = settle w before k (names_of t) d

  by_names : (y : List ℕ) (ys : List (List ℕ)) → names_of t ≡ y ∷ ys
      → right ≡ unless_found (find w before d.made (normal t)) d
      (made_within (normal t) y (settle w (Some k) k ys d))
  unfolding normal
  by_names y ys e = ap (λ ns. settle w before k ns d) e
      ∙ ap (λ p. unless_found (find w before d.made p) d (made_within p y (settle w (Some k) k ys d)))
      (sym (ap joined e))

  -- it is there
  pub is_found : (f : numbers.Found) → find w before d.made (normal t) ≡ Some f → (right.0 ≡ d) × (right.1 ≡ Some f)
  is_found f e =
      let s = names_some t in
      let all = by_names s.0 s.1 s.2
      ∙ ap (λ o. unless_found o d (made_within (normal t) s.0 (settle w (Some k) k s.1 d))) e in
      (ap (λ r. r.0) all, ap (λ r. r.1) all)

  module _ (none : find w before d.made (normal t) ≡ None) where
    made_by : (y : List ℕ) (ys : List (List ℕ)) → names_of t ≡ y ∷ ys
        → right ≡ made_within (normal t) y (settle w (Some k) k ys d)
    made_by y ys e = by_names y ys e
        ∙ ap (λ o. unless_found o d (made_within (normal t) y (settle w (Some k) k ys d))) none

    pub alone : Without 44 t → right ≡ made_within (normal t) (normal t) (d, None)
    alone h = made_by (trimmed t) [] (names_alone t h)
        ∙ ap (λ y. made_within (normal t) y (d, None)) (sym (normal_alone t h))

    pub below : (part after : List ℕ) → t ≡ part ++ (44 ∷ after) → Without 44 part
        → right ≡ made_within (normal t) (normal part) (settle w (Some k) k (names_of after) d)
    below part after e h = made_by (trimmed part) (names_of after) (names_cut t part after e h)
        ∙ ap (λ y. made_within (normal t) y (settle w (Some k) k (names_of after) d)) (sym (normal_alone part h))

-- by the place made only of the path it is found as by those of all paths
pub find_same : (w : numbers.Places) (before : Option ℕ) (f : List ℕ → Option ℕ) (made : Option ℕ) (p q : List ℕ)
    → p ≡ q → made ≡ f q → find w before (λ x. made) p ≡ find w before f q
find_same w before f made p q e h = ap (find w before (λ x. made)) e ∙ ap (λ v. find w before (λ x. v) q) h

-- ---- what a call answers is right
-- what holds besides
pub ok_all : {A E : Type 0} {P : Type 0} → P → (r : Result A E) → IfOk r (λ a. P)
ok_all p (Ok a) = p
ok_all p (Err e) = tt

pub refused : (right : numbers.Drawing × Option numbers.Found) (new : Drawing) (P : Type 0) (x : RefusalKind)
    (r : Result Found RefusalKind) → r ≡ Err x → Settles right new (Err x) → Settles right new r × IfOk r (λ f. P)
refused right new P x r e s = subst (λ r. Settles right new r × IfOk r (λ f. P)) (sym e) (s, tt)

-- a refusal of the call's own is no failure of a view
pub no_failure : (a b : ℕ) (Rose : Type 0) (r : Result Found RefusalKind) → a ≤ b → IfErr r (λ x. is_failure x ≡ false)
    → (a ≤ b) × IfErr r (λ x. is_failure x ≡ true → Rose)
no_failure a b Rose (Ok f) less own = (less, tt)
no_failure a b Rose (Err x) less own = (less, λ h. absurd (let both : false ≡ true = sym own ∙ h in cc))

-- a place is made within what was settled before
module _ (right : numbers.Drawing × Option numbers.Found) (path name : List ℕ)
    (above : numbers.Drawing × Option numbers.Found) (e : right ≡ made_within path name above) (new : Drawing) where
  next_is : right.0.next ≡ above.0.next + 1
  next_is = ap (λ r. r.0.next) e

  pub makes : (result : Result Found RefusalKind)
      → OnOk result (drawing_said new ≡ with_made path name above.1 above.0)
      → MatchResult result (λ f. found_said f ≡ numbers.at_number above.0.next)
      (λ x. is_stop x ≡ false → (x ≡ Full) × (4294967295 < above.0.next)) → Settles right new result
  makes (Ok f) made number = (ap (λ r. r.0) e ∙ sym made, ap (λ r. r.1) e ∙ ap Some (sym number))
  makes (Err x) made number = λ h. let s = number h in let n = next_is in (s.0, omega arith)

  -- where that was refused, so is this
  pub refuses : (mid : Drawing) (x : RefusalKind) → Settles above mid (Err x) → Settles right new (Err x)
  refuses mid x s = λ h. let t = s h in let n = next_is in (t.0, omega arith)
