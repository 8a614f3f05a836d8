-- Where records stand that are put at numbers that count up.
use Rattle.std.proofs.Common.{◌≡◌, ℕ, ◌+◌, ◌<◌, ◌≤◌, List, [], ◌∷◌, refl, sym, ap, ◌∙◌, inl, inr, subst, arith}
use Rattle.std.specs.Prelude.{Some, None, map}
use Rattle.std.specs.FinMap.{get, insert}
use Rattle.record_kinds.specs.declared.record.Record.{Record}
use Rattle.record_shapes.specs.Lists.{EachOf}
use Rattle.archive_state.specs.Applied.{with_puts}
use Rattle.archive_state.specs.Content.{Records}
use Rattle.archive_state.specs.declared.changes.Numbered.{Numbered}
use Rattle.archive_state.proofs.Putting.{put_cases, put_elsewhere, put_here}
use Rattle.imports.specs.Imported.{CountUp, RecordsStand}
use Rattle.imports.proofs.Drawn.{numbers_are_new}
use Rattle.record_shapes.proofs.Each.{each_more}

abbrev pub numbers_of : List Numbered → List ℕ
numbers_of ps = map (λ (p : Numbered). p.number) ps

-- below the first nothing changes
pub below_stays : (ps : List Numbered) (m : Records) (first end n : ℕ) → CountUp first end (numbers_of ps) → n < first
    → get (with_puts m ps) n ≡ get m n
below_stays [] m first end n h less = refl
below_stays (p ∷ ps) m first end n h less =
    let here : p.number ≡ first = h.0 in
    below_stays ps (insert m p.number p.«record») (first + 1) end n h.1 (omega arith)
    ∙ put_elsewhere m p.number p.«record» n (λ e. omega (arith, e))

-- the end is not below the first
pub ends : (ns : List ℕ) (first end : ℕ) → CountUp first end ns → first ≤ end
ends [] first end h = omega arith
ends (n ∷ ns) first end h = let rest : first + 1 ≤ end = ends ns (first + 1) end h.1 in omega arith

-- each stands at its number
all_stand : (ps : List Numbered) (m : Records) (first end : ℕ) → CountUp first end (numbers_of ps)
    → EachOf (λ (p : Numbered). get (with_puts m ps) p.number ≡ Some p.«record») ps
all_stand [] m first end h = tt
all_stand (p ∷ ps) m first end h =
    let here : p.number ≡ first = h.0 in (
      below_stays ps (insert m p.number p.«record») (first + 1) end p.number h.1 (omega arith)
          ∙ put_here m p.number p.«record»,
      all_stand ps (insert m p.number p.«record») (first + 1) end h.1,
    )

-- what is new has a number from the first on
new_from : (ps : List Numbered) (m : Records) (first end n : ℕ) (r : Record) → CountUp first end (numbers_of ps)
    → get m n ≡ None → get (with_puts m ps) n ≡ Some r → (first ≤ n) × (n < end)
new_from [] m first end n r h gone at = absurd cc
new_from (p ∷ ps) m first end n r h gone at =
    let here : p.number ≡ first = h.0 in
    let up : first + 1 ≤ end = ends (numbers_of ps) (first + 1) end h.1 in
    elim (put_cases m p.number p.«record» n (get (insert m p.number p.«record») n) refl)
    as (λ _. (first ≤ n) × (n < end)) [
      | inl is ↦ let same : n ≡ p.number = is.0 in (omega arith, omega arith)
      | inr is ↦
          let rest = new_from ps (insert m p.number p.«record») (first + 1) end n r h.1 (sym is.1 ∙ gone) at in
          (let low : first + 1 ≤ n = rest.0 in omega arith, rest.1)
    ]

pub records_stand : RecordsStand
records_stand c f b sound e =
    let up = (numbers_are_new c f b e).0 in
    record {
      still = λ n r at. below_stays b.records c.records c.next b.next n up (sound.rules.numbered n r at).1 ∙ at;
      batch = all_stand b.records c.records c.next b.next up;
      new = λ n r gone at. new_from b.records c.records c.next b.next n r up gone at;
    }

-- what holds of each record that is put holds of what is new
pub new_holds : (P : Numbered → Type 0) (ps : List Numbered) (m : Records) (first end n : ℕ) (r : Record)
    → CountUp first end (numbers_of ps) → EachOf P ps → get m n ≡ None → get (with_puts m ps) n ≡ Some r
    → P (record { number = n; «record» = r })
new_holds P [] m first end n r h each gone at = absurd cc
new_holds P (p ∷ ps) m first end n r h each gone at =
    let here : p.number ≡ first = h.0 in
    elim (put_cases m p.number p.«record» n (get (insert m p.number p.«record») n) refl)
    as (λ _. P (record { number = n; «record» = r })) [
      | inl is ↦
          let same : n ≡ p.number = is.0 in
          let stays : get (with_puts (insert m p.number p.«record») ps) p.number ≡ Some p.«record» =
          below_stays ps (insert m p.number p.«record») (first + 1) end p.number h.1 (omega arith)
          ∙ put_here m p.number p.«record» in
          let both : Some p.«record» ≡ Some r = sym stays ∙ ap (get (with_puts (insert m p.number p.«record») ps))
          (sym same)
          ∙ at in
          let record_is : p.«record» ≡ r = cc in
          subst P (λ i. record { number = sym same i; «record» = record_is i }) each.0
      | inr is ↦ new_holds P ps (insert m p.number p.«record») (first + 1) end n r h.1 each.1 (sym is.1 ∙ gone) at
    ]

-- each number is from the first on, and below the end
pub count_range : (ns : List ℕ) (first end : ℕ) → CountUp first end ns → EachOf (λ n. (first ≤ n) × (n < end)) ns
count_range [] first end h = tt
count_range (n ∷ ns) first end h =
    let here : n ≡ first = h.0 in
    let up : first + 1 ≤ end = ends ns (first + 1) end h.1 in (
      (omega arith, omega arith),
      each_more (λ m. (first + 1 ≤ m) × (m < end)) (λ m. (first ≤ m) × (m < end))
          (λ m k. (let low : first + 1 ≤ m = k.0 in omega arith, k.1)) ns (count_range ns (first + 1) end h.1),
    )
