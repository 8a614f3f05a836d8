-- Lists of so many items or more, by these items and the rest.
use Rattle.std.proofs.Common.{◌≡◌, ◌≤◌, ◌-◌, List, [], ◌∷◌, length, get_or, take, drop, sym, ap, ◌∙◌, arith}
use Rattle.std.proofs.lemmas.List.{take_all}

module _ {X : Type 0} where
  pub one_and_rest : (xs : List X) (a : X) → 1 ≤ length xs → a ≡ get_or xs 0 a
      → xs ≡ a ∷ take (length xs - 1) (drop 1 xs)
  one_and_rest [] a low ea = absurd (omega (arith, low))
  one_and_rest (p ∷ more) a low ea =
      let all : take (length (p ∷ more) - 1) more ≡ more = take_all _ more (omega arith) in
      ap (λ x. x ∷ more) (sym ea) ∙ ap (λ m. a ∷ m) (sym all)

  pub four_and_rest : (xs : List X) (a b c d : X) → 4 ≤ length xs → a ≡ get_or xs 0 a → b ≡ get_or xs 1 b
      → c ≡ get_or xs 2 c → d ≡ get_or xs 3 d → xs ≡ a ∷ b ∷ c ∷ d ∷ take (length xs - 4) (drop 4 xs)
  four_and_rest [] a b c d low ea eb ec ed = absurd (omega (arith, low))
  four_and_rest (p ∷ []) a b c d low ea eb ec ed = absurd (omega (arith, low))
  four_and_rest (p ∷ q ∷ []) a b c d low ea eb ec ed = absurd (omega (arith, low))
  four_and_rest (p ∷ q ∷ r ∷ []) a b c d low ea eb ec ed = absurd (omega (arith, low))
  four_and_rest (p ∷ q ∷ r ∷ s ∷ more) a b c d low ea eb ec ed =
      let all : take (length (p ∷ q ∷ r ∷ s ∷ more) - 4) more ≡ more = take_all _ more (omega arith) in
      ap (λ x. x ∷ q ∷ r ∷ s ∷ more) (sym ea) ∙ ap (λ x. a ∷ x ∷ r ∷ s ∷ more) (sym eb)
      ∙ ap (λ x. a ∷ b ∷ x ∷ s ∷ more) (sym ec) ∙ ap (λ x. a ∷ b ∷ c ∷ x ∷ more) (sym ed)
      ∙ ap (λ m. a ∷ b ∷ c ∷ d ∷ m) (sym all)

  pub eight_and_rest : (xs : List X) (a b c d e f g h : X) → 8 ≤ length xs → a ≡ get_or xs 0 a → b ≡ get_or xs 1 b
      → c ≡ get_or xs 2 c → d ≡ get_or xs 3 d → e ≡ get_or xs 4 e → f ≡ get_or xs 5 f → g ≡ get_or xs 6 g
      → h ≡ get_or xs 7 h → xs ≡ a ∷ b ∷ c ∷ d ∷ e ∷ f ∷ g ∷ h ∷ take (length xs - 8) (drop 8 xs)
  eight_and_rest [] a b c d e f g h low ea eb ec ed ee ef eg eh = absurd (omega (arith, low))
  eight_and_rest (p ∷ []) a b c d e f g h low ea eb ec ed ee ef eg eh = absurd (omega (arith, low))
  eight_and_rest (p ∷ q ∷ []) a b c d e f g h low ea eb ec ed ee ef eg eh = absurd (omega (arith, low))
  eight_and_rest (p ∷ q ∷ r ∷ []) a b c d e f g h low ea eb ec ed ee ef eg eh = absurd (omega (arith, low))
  eight_and_rest (p ∷ q ∷ r ∷ s ∷ []) a b c d e f g h low ea eb ec ed ee ef eg eh = absurd (omega (arith, low))
  eight_and_rest (p ∷ q ∷ r ∷ s ∷ t ∷ []) a b c d e f g h low ea eb ec ed ee ef eg eh = absurd (omega (arith, low))
  eight_and_rest (p ∷ q ∷ r ∷ s ∷ t ∷ u ∷ []) a b c d e f g h low ea eb ec ed ee ef eg eh = absurd (omega (arith, low))
  eight_and_rest (p ∷ q ∷ r ∷ s ∷ t ∷ u ∷ v ∷ []) a b c d e f g h low ea eb ec ed ee ef eg eh =
      absurd (omega (arith, low))
  eight_and_rest (p ∷ q ∷ r ∷ s ∷ t ∷ u ∷ v ∷ w ∷ more) a b c d e f g h low ea eb ec ed ee ef eg eh =
      let all : take (length (p ∷ q ∷ r ∷ s ∷ t ∷ u ∷ v ∷ w ∷ more) - 8) more ≡ more = take_all _ more (omega arith) in
      ap (λ x. x ∷ q ∷ r ∷ s ∷ t ∷ u ∷ v ∷ w ∷ more) (sym ea)
      ∙ ap (λ x. a ∷ x ∷ r ∷ s ∷ t ∷ u ∷ v ∷ w ∷ more) (sym eb)
      ∙ ap (λ x. a ∷ b ∷ x ∷ s ∷ t ∷ u ∷ v ∷ w ∷ more) (sym ec)
      ∙ ap (λ x. a ∷ b ∷ c ∷ x ∷ t ∷ u ∷ v ∷ w ∷ more) (sym ed)
      ∙ ap (λ x. a ∷ b ∷ c ∷ d ∷ x ∷ u ∷ v ∷ w ∷ more) (sym ee)
      ∙ ap (λ x. a ∷ b ∷ c ∷ d ∷ e ∷ x ∷ v ∷ w ∷ more) (sym ef)
      ∙ ap (λ x. a ∷ b ∷ c ∷ d ∷ e ∷ f ∷ x ∷ w ∷ more) (sym eg)
      ∙ ap (λ x. a ∷ b ∷ c ∷ d ∷ e ∷ f ∷ g ∷ x ∷ more) (sym eh)
      ∙ ap (λ m. a ∷ b ∷ c ∷ d ∷ e ∷ f ∷ g ∷ h ∷ m) (sym all)
