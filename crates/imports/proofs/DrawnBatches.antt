-- The batch of what numbers were drawn for, over a view.
use Rattle.std.proofs.Common.{
  ◌≡◌,
  ◌≤◌,
  ◌<◌,
  Bool,
  true,
  false,
  cond,
  List,
  [],
  ◌∷◌,
  ◌++◌,
  map,
  refl,
  sym,
  ap,
  ◌∙◌,
  subst,
  append_assoc,
  arith,
}
use Rattle.std.specs.Prelude.{Result, Ok, Err, nat_lt}
use Rattle.std.proofs.lemmas.Bool.Decides.{nat_tests}
use Rattle.archive_state.specs.Changes.{Batch}
use Rattle.archive_state.specs.Content.{Content}
use Rattle.archive_state.specs.declared.changes.Numbered.{Numbered}
use Rattle.archive_state.specs.Looks.{Agrees, Looked, OnView, is_stop}
use Rattle.record_text.specs.declared.refusal.RefusalKind.{RefusalKind}
use Rattle.record_text.specs.declared.refusal.RefusalKind.TheVariants.{Full}
use Rattle.import_definitions.specs.Made.{batch}
use Rattle.import_definitions.specs.Numbers as numbers
use Rattle.import_numbers.specs.Settling.{Knows}
use Rattle.import_numbers.specs.Views.{drawing_said, drawn_said}
use Rattle.import_numbers.specs.declared.drawing.Drawing.{Drawing}
use Rattle.import_numbers.specs.declared.drawing.Drawn.{Drawn}
use Rattle.imports.specs.Drawing.{batch_or_full}
use Rattle.imports.proofs.Ways.{Kept, Right}

full : (w : numbers.Places) (d : numbers.Drawing) → 4294967296 < d.next → batch_or_full w d ≡ Err Full
full w d less = by (nat_lt 4294967296 d.next) refl
  where
    by : (b : Bool) → nat_lt 4294967296 d.next ≡ b
        → cond {A = Result Batch RefusalKind} b (Err Full) (Ok (batch w d)) ≡ Err Full
    by true e = refl
    by false e = absurd (let k : d.next ≤ 4294967296 = grind (arith, nat_tests) in omega arith)

not_full : (w : numbers.Places) (d : numbers.Drawing) → d.next ≤ 4294967296 → batch_or_full w d ≡ Ok (batch w d)
not_full w d less = by (nat_lt 4294967296 d.next) refl
  where
    by : (b : Bool) → nat_lt 4294967296 d.next ≡ b
        → cond {A = Result Batch RefusalKind} b (Err Full) (Ok (batch w d)) ≡ Ok (batch w d)
    by true e = absurd (let k : 4294967296 < d.next = grind (arith, nat_tests) in omega arith)
    by false e = refl

looked_agrees : (r right : Result Batch RefusalKind) (made : Batch) → right ≡ Ok made → Looked r (λ b. b ≡ made)
    → Agrees is_stop r right
looked_agrees (Ok b) right made e is = e ∙ ap Ok (sym is)
looked_agrees (Err x) right made e stop = λ h. absurd (let both : false ≡ true = sym h ∙ stop in cc)

module _ {S Held : Type 0} (honest : S → Type 0) (shows : S → Held → Type 0) (content : Held → Content)
    (w : Content → numbers.Places) where
  -- drawing was refused
  pub drawing_refused : (v u : S) (k : Kept) (right other : Right) (x : RefusalKind) (r : Result Batch RefusalKind)
      → r ≡ Err x → ((c : Content) → Knows k c) → ((c : Content) → right c ≡ other c)
      → OnView honest shows content v u (λ c. Knows k c
      → (is_stop x ≡ false → (x ≡ Full) × (4294967296 < (right c).next)) × Unit {0})
      → OnView honest shows content v u (λ c. Agrees is_stop r (batch_or_full (w c) (other c)))
  drawing_refused v u k right other x r was knows same call = subst
      (λ s. OnView honest shows content v u (λ c. Agrees is_stop s (batch_or_full (w c) (other c)))) (sym was) (λ h.
      let a = call h in (
        a.0,
        λ held sh.
            let c = content held in
            let y = a.1 held sh in (
              y.0,
              λ f.
                  let p = (y.1 (knows c)).0 f in
                  ap (batch_or_full (w c)) (sym (same c)) ∙ full (w c) (right c) p.1 ∙ ap Err (sym p.0),
            ),
      ))

  -- too many were drawn
  pub drawing_full : (v u : S) (k m : Kept) (right other : Right) (d : Drawing) → ((c : Content) → Knows k c)
      → ((c : Content) → right c ≡ other c) → 4294967296 < d.next
      → OnView honest shows content v u (λ c. Knows k c → (drawing_said d ≡ right c) × Knows m c)
      → OnView honest shows content v u (λ c. Agrees {A = Batch} is_stop (Err Full) (batch_or_full (w c) (other c)))
  drawing_full v u k m right other d knows same less call h =
      let a = call h in (
        a.0,
        λ held sh.
            let c = content held in
            let y = a.1 held sh in (
              y.0,
              λ f.
                  let p = y.1 (knows c) in
                  ap (batch_or_full (w c)) (sym (p.0 ∙ same c)) ∙ full (w c) (drawing_said d) less,
            ),
      )

  -- all were drawn
  pub drawing_over : (v u t : S) (k m : Kept) (right other : Right) (d : Drawing) (r : Result Batch RefusalKind)
      → ((c : Content) → Knows k c) → ((c : Content) → right c ≡ other c) → d.next ≤ 4294967296
      → OnView honest shows content v u (λ c. Knows k c → (drawing_said d ≡ right c) × Knows m c)
      → OnView honest shows content u t (λ c. Knows m c → Looked r (λ made. made ≡ batch (w c) (drawing_said d)))
      → OnView honest shows content v t (λ c. Agrees is_stop r (batch_or_full (w c) (other c)))
  drawing_over v u t k m right other d r knows same less call made h =
      let b = made h in
      let a = call b.0 in (
        a.0,
        λ held sh.
            let c = content held in
            let y = a.1 held sh in
            let z = b.1 held y.0 in (
              z.0,
              let p = y.1 (knows c) in
                  looked_agrees r (batch_or_full (w c) (other c)) (batch (w c) (drawing_said d))
                  (ap (batch_or_full (w c)) (sym (p.0 ∙ same c)) ∙ not_full (w c) (drawing_said d) less) (z.1 p.1),
            ),
      )

  -- the record of one more
  pub records_on : (finish : Content → numbers.Drawn → Numbered) (v u t : S) (k m n : Kept) (old new : List Numbered)
      (x : Drawn) (behind left : List Drawn) (all : Content → List Numbered) → left ≡ x ∷ behind
      → OnView honest shows content v u
      (λ c. Knows k c → Knows m c × (old ++ map (finish c) (map drawn_said left) ≡ all c))
      → OnView honest shows content u t (λ c. Knows m c → Knows n c × (new ≡ old ++ finish c (drawn_said x) ∷ []))
      → OnView honest shows content v t
      (λ c. Knows k c → Knows n c × (new ++ map (finish c) (map drawn_said behind) ≡ all c))
  records_on finish v u t k m n old new x behind left all items way call h =
      let b = call h in
      let a = way b.0 in (
        a.0,
        λ held sh.
            let c = content held in
            let y = a.1 held sh in
            let z = b.1 held y.0 in (
              z.0,
              λ knows.
                  let p = y.1 knows in
                  let q = z.1 p.0 in (
                    q.0,
                    ap (λ xs. xs ++ map (finish c) (map drawn_said behind)) q.1
                        ∙ append_assoc old (finish c (drawn_said x) ∷ []) (map (finish c) (map drawn_said behind))
                        ∙ ap (λ xs. old ++ map (finish c) (map drawn_said xs)) (sym items) ∙ p.1,
                  ),
            ),
      )
