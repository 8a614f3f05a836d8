use Rattle.std.specs.Prelude.{Option}
use Rattle.std.proofs.Common.{[], Bor, IfOk, List, arith, length, map, refl, subst, ◌<◌, ◌≡◌, ◌≤◌, ◌∷◌, ℕ}
use Rattle.std.proofs.lemmas.List.{length-map}
use Rattle.page_entries.specs.Dates.{by_parts, by_words}
use Rattle.page_entries.specs.declared.dates.DateOrder.{DateOrder}
use Rattle.page_entries.specs.declared.dates.PageDate.{PageDate}
use Rattle.page_entries.proofs.dates.by_parts.Goals as goal

module _ (order : Option DateOrder) (cell : List ℕ) where
  few : (ps : List (List ℕ)) (ms : List ℕ) → length ps < 2 → by_words cell ≡ by_parts order cell ps ms
  few [] ms h = refl
  few (a ∷ []) ms h = refl
  few (a ∷ b ∷ ps) ms h = absurd (omega arith)

  many : (ps : List (List ℕ)) (ms : List ℕ) → 5 ≤ length ps → by_words cell ≡ by_parts order cell ps ms
  many [] ms h = absurd (omega arith)
  many (a ∷ []) ms h = absurd (omega arith)
  many (a ∷ b ∷ []) ms h = absurd (omega arith)
  many (a ∷ b ∷ c ∷ []) ms h = absurd (omega arith)
  many (a ∷ b ∷ c ∷ d ∷ []) ms h = absurd (omega arith)
  many (a ∷ b ∷ c ∷ d ∷ e ∷ ps) ms h = refl

pub returns-in-empty : goal.returns-in-empty
returns-in-empty c =
    let ps = map (λ (p : Bor (List ℕ)). p.now) c.args.parts.now in
    let short : length ps < 2 = simp length-map (omega arith) in
    subst (λ (x : Option PageDate). IfOk c.by_words.result (λ date. date ≡ x))
    (few c.args.order c.args.cell.now ps c.args.marks.now short) c.by_words.ensures

pub returns-in-len5-up : goal.returns-in-len5-up
returns-in-len5-up c =
    let ps = map (λ (p : Bor (List ℕ)). p.now) c.args.parts.now in
    let long : 5 ≤ length ps = simp length-map (omega arith) in
    subst (λ (x : Option PageDate). IfOk c.by_words-in-len5-up.result (λ date. date ≡ x))
    (many c.args.order c.args.cell.now ps c.args.marks.now long) c.by_words-in-len5-up.ensures
