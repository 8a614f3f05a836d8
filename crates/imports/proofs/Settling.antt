-- Places that are made: they stand within the place of their path's other names, and have that path.
use Rattle.std.proofs.Common.{
  ◌≡◌,
  ℕ,
  ◌+◌,
  ◌<◌,
  ◌≤◌,
  true,
  false,
  List,
  [],
  ◌∷◌,
  ◌++◌,
  length,
  refl,
  sym,
  ap,
  ◌∙◌,
  subst,
  inl,
  inr,
  arith,
  length-append,
}
use Rattle.std.specs.Prelude.{Option, Some, None, IfSome, option_map, bytes_eq, if◌then◌else◌}
use Rattle.std.specs.FinMap.{get}
use Rattle.record_kinds.specs.declared.record.Record.{Record}
use Rattle.record_kinds.specs.declared.record.Record.TheVariants as kind
use Rattle.record_shapes.specs.Forms.{is_some}
use Rattle.record_shapes.specs.Lists.{EachOf}
use Rattle.record_shapes.specs.Paths.{IsWithinLimits, joined, parts}
use Rattle.archive_state.specs.Content.{Records}
use Rattle.archive_state.specs.Known.{path_of}
use Rattle.archive_state.proofs.Climbing.{goes_path}
use Rattle.archive_state.proofs.Known.{path_known}
use Rattle.import_definitions.specs.Numbers.{
  Drawing,
  Drawn,
  Found,
  Places,
  at_number,
  find,
  made_within,
  number_found,
  of_file,
  of_path,
  place_made,
  settle,
  unless_found,
  with_made,
}
use Rattle.record_fields.specs.Bytes.{bytes_are}
use Rattle.imports.proofs.Clean.{IsClean}
use Rattle.imports.proofs.Finding.{found_by, found_made}
use Rattle.imports.proofs.Going.{GoesOn, goes_made, goes_then}
use Rattle.imports.proofs.Rooted.{F, There, last_there}
use Rattle.list_laws.proofs.Bytes.{onto_length}
use Rattle.record_shapes.proofs.Each.{each_both}
use Rattle.record_shapes.proofs.PathTexts.{parts_both, parts_some}
use Rattle.record_shapes.proofs.Names.{IsName}

-- ---- the limits of a part of a path

above_limits : (n m : List ℕ) (ns : List (List ℕ)) → IsWithinLimits (joined (n ∷ (m ∷ ns)))
    → IsWithinLimits (joined (m ∷ ns)) × (length n ≤ 4096)
above_limits n m ns h =
    let rest : List ℕ = joined (m ∷ ns) in
    let s = parts_some rest in
    let a : length (parts (n ++ (44 ∷ (32 ∷ rest)))) ≡ length (parts n) + length (parts (32 ∷ rest)) =
    ap length (parts_both n (32 ∷ rest)) ∙ length-append (parts n) (parts (32 ∷ rest)) in
    let b : length (parts (32 ∷ rest)) ≡ length (parts rest) = onto_length 32 (parts rest) s.0 s.1 s.2 in
    let c : length (n ++ (44 ∷ (32 ∷ rest))) ≡ length n + length (44 ∷ (32 ∷ rest)) =
    length-append n (44 ∷ (32 ∷ rest)) in
    let few : length (parts (n ++ (44 ∷ (32 ∷ rest)))) ≤ 32 = h.0 in
    let short : length (n ++ (44 ∷ (32 ∷ rest))) ≤ 4096 = h.1 in
    ((omega arith, omega arith), omega arith)

-- names that may be joined
pub record AreNames (names : List (List ℕ)) : Type 0 where
  pub each : EachOf IsName names
  pub clean : EachOf IsClean names
  pub within : IsWithinLimits (joined names)

pub fewer_names : (n : List ℕ) (ns : List (List ℕ)) → AreNames (n ∷ ns) → AreNames ns × (length n ≤ 4096)
fewer_names n [] h = (record { each = tt; clean = tt; within = (omega arith, omega arith) }, h.within.1)
fewer_names n (m ∷ ns) h =
    let low = above_limits n m ns h.within in
    (record { each = h.each.1; clean = h.clean.1; within = low.0 }, low.1)

module _ (A : Records) (w : Places) (D : Drawing) (all : EachOf (There A w D) D.drawn) (first : ℕ)
    (arch : (q : List ℕ) (n : ℕ) → w.archive q ≡ Some n → (path_of A n ≡ Some q) × (n < first))
    (filed : (k : ℕ) (q : List ℕ) → w.file q ≡ Some k → path_of A (F A w D k) ≡ Some q) where
  abbrev pub num : Found → ℕ
  num f = number_found D.roots (Some f)

  -- places that were made have their paths, and numbers below the next one
  abbrev pub AreMadeAt : ℕ → (List ℕ → Option ℕ) → Type 0
  AreMadeAt next made = (q : List ℕ) (n : ℕ) → made q ≡ Some n → (path_of A n ≡ Some q) × (n < next)

  -- a place that is drawn
  pub record IsPlaceDrawn (n : ℕ) (name : List ℕ) (parent : Option Found) : Type 0 where
    pub name_is : IsName name
    pub clean : IsClean name
    pub short : length name ≤ 4096
    pub path : (q : List ℕ) × (path_of A n ≡ Some q) × IsWithinLimits q
    pub above : IfSome parent (λ f. (num f < n) × ((q : List ℕ) × (path_of A (num f) ≡ Some q)))

  -- positions before one are drawn
  pub record IsBehind (k : ℕ) (next : ℕ) : Type 0 where
    pub low : (j : ℕ) → j < k → F A w D j < next
    pub from : first ≤ next

  pub behind_later : (k a b : ℕ) → a ≤ b → IsBehind k a → IsBehind k b
  behind_later k a b less h =
      let from : first ≤ a = h.from in
      record { low = λ j l. (let low : F A w D j < a = h.low j l in omega arith); from = omega arith }

  pub made_later : (a b : ℕ) → a ≤ b → (made : List ℕ → Option ℕ) → AreMadeAt a made → AreMadeAt b made
  made_later a b less made h q n e = let r = h q n e in (r.0, (let low : n < a = r.1 in omega arith))

  -- ---- what is found
  pub found_path : (before : Option ℕ) (made : List ℕ → Option ℕ) (next : ℕ) (q : List ℕ) (f : Found)
      → AreMadeAt next made → find w before made q ≡ Some f → path_of A (num f) ≡ Some q
  found_path before made next q f h e =
      elim (found_by w before made q f e) as (λ _. path_of A (num f) ≡ Some q) [
        | inl (n, is, at) ↦ ap (λ x. path_of A (num x)) is ∙ (arch q n at).0
        | inr r ↦ elim r as (λ _. path_of A (num f) ≡ Some q) [
          | inl (j, is, at, low) ↦ ap (λ x. path_of A (num x)) is ∙ filed j q at
          | inr (n, is, at) ↦ ap (λ x. path_of A (num x)) is ∙ (h q n at).0
        ]
      ]

  found_low : (k : ℕ) (made : List ℕ → Option ℕ) (next : ℕ) (q : List ℕ) (f : Found) → AreMadeAt next made
      → IsBehind k next → find w (Some k) made q ≡ Some f → num f < next
  found_low k made next q f h behind e =
      let from : first ≤ next = behind.from in
      elim (found_by w (Some k) made q f e) as (λ _. num f < next) [
        | inl (n, is, at) ↦
            let low : n < first = (arch q n at).1 in
            let same : num f ≡ n = ap num is in omega arith
        | inr r ↦ elim r as (λ _. num f < next) [
          | inl (j, is, at, less) ↦
              let low : F A w D j < next = behind.low j less in
              let same : num f ≡ F A w D j = ap num is in omega arith
          | inr (n, is, at) ↦
              let low : n < next = (h q n at).1 in
              let same : num f ≡ n = ap num is in omega arith
        ]
      ]

  module _ (OfFile : ℕ → ℕ → Record → Option (List ℕ) → Type 0) where
    abbrev pub IsDrawnWell : Drawn → Type 0
    IsDrawnWell (of_file n owner r path) = OfFile n owner r path
    IsDrawnWell (of_path n name parent) = IsPlaceDrawn n name parent

    pub record IsGood (d : Drawing) : Type 0 where
      pub drawn : EachOf IsDrawnWell d.drawn
      pub made : AreMadeAt d.next d.made

    -- what the names above a place are settled as
    abbrev IsAbove : List (List ℕ) → Option Found → ℕ → Type 0
    IsAbove [] o next = o ≡ None
    IsAbove (n ∷ ns) o next = (f : Found) × (o ≡ Some f) × (path_of A (num f) ≡ Some (joined (n ∷ ns))) × (num f < next)

    -- a place that is made within another has its path
    made_path : (name : List ℕ) (names : List (List ℕ)) (parent : Option Found) (n : ℕ)
        → get A n ≡ Some (kind.Place (place_made D.roots name parent)) → IsAbove names parent n
        → path_of A n ≡ Some (joined (name ∷ names))
    made_path name [] parent n at is =
        (path_known A n name).0
        (goes_path A n (place_made D.roots name parent) name None at (ap (option_map num) is) refl)
    made_path name (m ∷ ns) parent n at (f, is, path, low) =
        (path_known A n (joined (name ∷ (m ∷ ns)))).0
        (goes_path A n (place_made D.roots name parent) (joined (name ∷ (m ∷ ns))) (Some (num f)) at
        (ap (option_map num) is) (low, (joined (m ∷ ns), refl, (path_known A (num f) (joined (m ∷ ns))).1 path)))

    parent_is : (names : List (List ℕ)) (parent : Option Found) (n : ℕ) → IsAbove names parent n
        → IfSome parent (λ f. (num f < n) × ((q : List ℕ) × (path_of A (num f) ≡ Some q)))
    parent_is [] parent n is = subst (λ o. IfSome o (λ f. (num f < n) × ((q : List ℕ) × (path_of A (num f) ≡ Some q))))
        (sym is) tt
    parent_is (m ∷ ns) parent n (f, is, path, low) =
        subst (λ o. IfSome o (λ f. (num f < n) × ((q : List ℕ) × (path_of A (num f) ≡ Some q)))) (sym is)
        (low, (joined (m ∷ ns), path))

    -- one more place
    one_more : {next : ℕ} (path : List ℕ) (k : ℕ) (made : List ℕ → Option ℕ) → AreMadeAt next made
        → path_of A k ≡ Some path → k < next → (q : List ℕ) (n : ℕ)
        → (if bytes_eq path q then Some k else made q) ≡ Some n → (path_of A n ≡ Some q) × (n < next)
    one_more {next} path k made h is low q n e =
        elim (bytes_eq path q) as (λ b. bytes_eq path q ≡ b → (if b then Some k else made q) ≡ Some n
        → (path_of A n ≡ Some q) × (n < next)) [
          | true ↦ λ same f.
              let number : k ≡ n = cc in
              (ap (path_of A) (sym number) ∙ is ∙ ap Some (bytes_are path q same), omega arith)
          | false ↦ λ same f. h q n f
        ] refl e

    made_good : (name : List ℕ) (names : List (List ℕ)) (parent : Option Found) (d : Drawing) → AreNames (name ∷ names)
        → GoesOn (with_made (joined (name ∷ names)) name parent d) D → IsGood d → IsAbove names parent d.next
        → IsGood (with_made (joined (name ∷ names)) name parent d)
        × (path_of A d.next ≡ Some (joined (name ∷ names)))
    made_good name names parent d fit goes good above =
        let x : Drawn = of_path d.next name parent in
        let here : There A w D x = last_there A w D all d.drawn x goes.drawn in
        let path : path_of A d.next ≡ Some (joined (name ∷ names)) = made_path name names parent d.next here above in
        let less : d.next < d.next + 1 = omega arith in (
          record {
            drawn = each_both IsDrawnWell d.drawn (x ∷ []) good.drawn (
              record {
                name_is = fit.each.0;
                clean = fit.clean.0;
                short = (fewer_names name names fit).1;
                path = (joined (name ∷ names), path, fit.within);
                above = parent_is names parent d.next above;
              },
              tt,
            );
            made = λ q n e. one_more (joined (name ∷ names)) d.next d.made
                (made_later d.next (d.next + 1) (omega arith) d.made good.made) path less q n e;
          },
          path,
        )

    -- the places above one, of the file those before a position
    settled_above : (k : ℕ) (names : List (List ℕ)) (d : Drawing) → AreNames names
        → GoesOn (settle w (Some k) k names d).0 D → IsBehind k d.next → IsGood d
        → IsGood (settle w (Some k) k names d).0
        × IsAbove names (settle w (Some k) k names d).1 (settle w (Some k) k names d).0.next
    settled_above k [] d fit goes behind good = (good, refl)
    settled_above k (name ∷ names) d fit goes behind good =
        by (λ on. settled_above k names d (fewer_names name names fit).0 on behind good)
        (find w (Some k) d.made (joined (name ∷ names))) refl goes
      where
        by : (GoesOn (settle w (Some k) k names d).0 D → IsGood (settle w (Some k) k names d).0
            × IsAbove names (settle w (Some k) k names d).1 (settle w (Some k) k names d).0.next)
            → (o : Option Found) → find w (Some k) d.made (joined (name ∷ names)) ≡ o
            → GoesOn (unless_found o d (made_within (joined (name ∷ names)) name (settle w (Some k) k names d))).0 D
            → IsGood (unless_found o d (made_within (joined (name ∷ names)) name (settle w (Some k) k names d))).0
            × IsAbove (name ∷ names)
            (unless_found o d (made_within (joined (name ∷ names)) name (settle w (Some k) k names d))).1
            (unless_found o d (made_within (joined (name ∷ names)) name (settle w (Some k) k names d))).0.next
        by again (Some f) e on = (
          good,
          (
            f,
            refl,
            found_path (Some k) d.made d.next (joined (name ∷ names)) f good.made e,
            found_low k d.made d.next (joined (name ∷ names)) f good.made behind e,
          ),
        )
        by again None e on =
            let d1 : Drawing = (settle w (Some k) k names d).0 in
            let o1 : Option Found = (settle w (Some k) k names d).1 in
            let whole : GoesOn d1 D = goes_then d1 (with_made (joined (name ∷ names)) name o1 d1) D
            (goes_made d1 (joined (name ∷ names)) name o1) on in
            let above = again whole in
            let made = made_good name names o1 d1 fit on above.0 above.1 in
            let less : d1.next < d1.next + 1 = omega arith in
            (made.0, (at_number d1.next, refl, made.1, less))

    -- a place that is sought: it is found after
    pub settled : (k : ℕ) (name : List ℕ) (names : List (List ℕ)) (d : Drawing) → AreNames (name ∷ names)
        → GoesOn (settle w None k (name ∷ names) d).0 D → IsBehind k d.next → IsGood d
        → IsGood (settle w None k (name ∷ names) d).0
        × (is_some (find w None (settle w None k (name ∷ names) d).0.made (joined (name ∷ names))) ≡ true)
    settled k name names d fit goes behind good = by (find w None d.made (joined (name ∷ names))) refl goes
      where
        by : (o : Option Found) → find w None d.made (joined (name ∷ names)) ≡ o
            → GoesOn (unless_found o d (made_within (joined (name ∷ names)) name (settle w (Some k) k names d))).0 D
            → IsGood (unless_found o d (made_within (joined (name ∷ names)) name (settle w (Some k) k names d))).0
            × (is_some (find w None
            (unless_found o d (made_within (joined (name ∷ names)) name (settle w (Some k) k names d))).0.made
            (joined (name ∷ names))) ≡ true)
        by (Some f) e on = (good, ap is_some e)
        by None e on =
            let d1 : Drawing = (settle w (Some k) k names d).0 in
            let o1 : Option Found = (settle w (Some k) k names d).1 in
            let whole : GoesOn d1 D = goes_then d1 (with_made (joined (name ∷ names)) name o1 d1) D
            (goes_made d1 (joined (name ∷ names)) name o1) on in
            let above = settled_above k names d (fewer_names name names fit).0 whole behind good in (
              (made_good name names o1 d1 fit on above.0 above.1).0,
              found_made w None (joined (name ∷ names)) d1.made d1.next,
            )
