-- Numbers drawn over a view, call after call.
use Rattle.std.proofs.Common.{◌≡◌, ℕ, ◌+◌, ◌≤◌, ◌<◌, false, sym, ap, ◌∙◌, subst, arith}
use Rattle.std.specs.Prelude.{Option, Result, Ok, Err, IfOk}
use Rattle.std.specs.BTreeMap.{BTreeMap}
use Rattle.std.specs.declared.string.String.{String}
use Rattle.std.specs.Global.{Global}
use Rattle.archive_state.specs.Content.{Content}
use Rattle.archive_state.specs.Looks.{OnView, is_stop}
use Rattle.record_text.specs.declared.refusal.RefusalKind.{RefusalKind}
use Rattle.record_text.specs.declared.refusal.RefusalKind.TheVariants.{Full}
use Rattle.import_definitions.specs.Numbers as numbers
use Rattle.import_numbers.specs.Settling.{Knows}
use Rattle.import_numbers.specs.Views.{drawing_said}
use Rattle.import_numbers.specs.declared.drawing.Drawing.{Drawing}
use Rattle.imports.specs.Drawing.{Draws}

-- what is kept of looks
abbrev pub Kept : Type 0
Kept = BTreeMap (String Global) (Option ℕ)

-- numbers, by what the view shows
abbrev pub Right : Type 0
Right = Content → numbers.Drawing

module _ {S Held : Type 0} (honest : S → Type 0) (shows : S → Held → Type 0) (content : Held → Content) where
  -- what a call owes that draws numbers
  abbrev pub Owes : {A : Type 0} → S → S → Kept → Kept → Right → Drawing → Result A RefusalKind → Type 0
  Owes before after was is right d r = OnView honest shows content before after
      (λ c. Knows was c → Draws (right c) d r × IfOk r (λ _. Knows is c))

  -- on the way: what is left leads to where all leads
  abbrev pub Way : S → S → Kept → Kept → Right → (Content → numbers.Drawing → numbers.Drawing) → Drawing → Type 0
  Way before after was is right leads d = OnView honest shows content before after
      (λ c. Knows was c → Knows is c × (leads c (drawing_said d) ≡ right c))

  pub way_begun : (v : S) (k : Kept) (d : Drawing) (right : Right) (leads : Content → numbers.Drawing → numbers.Drawing)
      → ((c : Content) → leads c (drawing_said d) ≡ right c) → Way v v k k right leads d
  way_begun v k d right leads same h = (h, λ held sh. (sh, λ knows. (knows, same (content held))))

  pub way_on : (v u t : S) (k m n : Kept) (d e : Drawing) (right step : Right)
      (leads next : Content → numbers.Drawing → numbers.Drawing)
      → Way v u k m right leads d
      → OnView honest shows content u t (λ c. Knows m c → (drawing_said e ≡ step c) × Knows n c)
      → ((c : Content) → next c (step c) ≡ leads c (drawing_said d)) → Way v t k n right next e
  way_on v u t k m n d e right step leads next way call same h =
      let b = call h in
      let a = way b.0 in (
        a.0,
        λ held sh.
            let x = a.1 held sh in
            let y = b.1 held x.0 in (
              y.0,
              λ knows.
                  let p = x.1 knows in
                  let q = y.1 p.0 in
                  (q.1, ap (next (content held)) q.0 ∙ same (content held) ∙ p.1),
            ),
      )

  -- a refusal on the way
  pub way_stopped : {A : Type 0} (v u t : S) (k m n : Kept) (d e : Drawing) (right step : Right)
      (leads : Content → numbers.Drawing → numbers.Drawing) (x : RefusalKind) (r : Result A RefusalKind) → r ≡ Err x
      → Way v u k m right leads d
      → OnView honest shows content u t (λ c. Knows m c
      → (is_stop x ≡ false → (x ≡ Full) × (4294967296 < (step c).next)) × Unit {0})
      → ((c : Content) → (step c).next ≤ (leads c (drawing_said d)).next) → Owes v t k n right e r
  way_stopped {A} v u t k m n d e right step leads x r was way call less = subst
      (λ (s : Result A RefusalKind). Owes v t k n right e s) (sym was) (λ h.
      let b = call h in
      let a = way b.0 in (
        a.0,
        λ held sh.
            let y = a.1 held sh in
            let z = b.1 held y.0 in (
              z.0,
              λ knows.
                  let p = y.1 knows in
                  let q = z.1 p.0 in (
                    λ f.
                        let g = q.0 f in
                        let l = less (content held) in
                        let same = ap (λ (w : numbers.Drawing). w.next) p.1 in
                        let more : 4294967296 < (right (content held)).next = omega arith in
                        (g.0, more),
                    tt,
                  ),
            ),
      ))

  pub way_over : (v u : S) (k m : Kept) (d : Drawing) (right : Right)
      (leads : Content → numbers.Drawing → numbers.Drawing) → Way v u k m right leads d
      → ((c : Content) → leads c (drawing_said d) ≡ drawing_said d)
      → OnView honest shows content v u (λ c. Knows k c → (drawing_said d ≡ right c) × Knows m c)
  way_over v u k m d right leads way same h =
      let a = way h in (
        a.0,
        λ held sh.
            let x = a.1 held sh in
            (x.0, λ knows. let p = x.1 knows in (sym (same (content held)) ∙ p.1, p.0)),
      )

  -- ---- calls that end a function
  -- the same numbers, said in another way
  pub owes_same : {A : Type 0} (v u : S) (k m : Kept) (right other : Right) (d : Drawing) (r : Result A RefusalKind)
      → ((c : Content) → right c ≡ other c) → Owes v u k m right d r → Owes v u k m other d r
  owes_same v u k m right other d r same call h =
      let a = call h in (
        a.0,
        λ held sh.
            let x = a.1 held sh in (
              x.0,
              λ knows. let p = x.1 knows in (subst (λ w. Draws w d r) (same (content held)) p.0, p.1),
            ),
      )

  -- where the view was not looked at
  pub owes_still : {A : Type 0} (v : S) (k : Kept) (right : Right) (d : Drawing) (r : Result A RefusalKind)
      → ((c : Content) → Draws (right c) d r) → Owes v v k k right d r
  owes_still v k right d r draws h = (h, λ held sh. (sh, λ knows. (draws (content held), ok_all knows r)))
    where
      ok_all : {A E P : Type 0} → P → (s : Result A E) → IfOk s (λ a. P)
      ok_all p (Ok a) = p
      ok_all p (Err e) = tt

-- a number that cannot be drawn
pub full_is : {A : Type 0} (next : ℕ) (d : Drawing) (right : numbers.Drawing) (x : RefusalKind)
    (r : Result A RefusalKind) → r ≡ Err x → next + 1 ≤ right.next
    → (is_stop x ≡ false → (x ≡ Full) × (4294967295 < next)) → Draws right d r
full_is {A} next d right x r was less own = subst (λ (s : Result A RefusalKind). Draws right d s) (sym was)
    (λ f. let g = own f in let more : 4294967296 < right.next = omega arith in (g.0, more))
