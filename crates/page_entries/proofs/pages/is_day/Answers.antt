use Rattle.std.proofs.Common.{[], Bor, List, arith, false, length, map, refl, ◌<◌, ◌≡◌, ◌≤◌, ◌∷◌, ℕ}
use Rattle.std.proofs.lemmas.List.{length-map}
use Rattle.page_entries.specs.Pages.{is_day}
use Rattle.page_entries.proofs.pages.is_day.Goals as goal

few : (ps : List (List ℕ)) (ms : List ℕ) → length ps < 2 → false ≡ is_day ps ms
few [] ms h = refl
few (a ∷ []) ms h = refl
few (a ∷ b ∷ ps) ms h = absurd (omega arith)

many : (ps : List (List ℕ)) (ms : List ℕ) → 4 ≤ length ps → false ≡ is_day ps ms
many [] ms h = absurd (omega arith)
many (a ∷ []) ms h = absurd (omega arith)
many (a ∷ b ∷ []) ms h = absurd (omega arith)
many (a ∷ b ∷ c ∷ []) ms h = absurd (omega arith)
many (a ∷ b ∷ c ∷ d ∷ ps) ms h = refl

pub returns-in-empty : goal.returns-in-empty
returns-in-empty c =
    let ps = map (λ (p : Bor (List ℕ)). p.now) c.args.parts.now in
    let short : length ps < 2 = simp length-map (omega arith) in few ps c.args.marks.now short

pub returns-in-len4-up : goal.returns-in-len4-up
returns-in-len4-up c =
    let ps = map (λ (p : Bor (List ℕ)). p.now) c.args.parts.now in
    let long : 4 ≤ length ps = simp length-map (omega arith) in many ps c.args.marks.now long
