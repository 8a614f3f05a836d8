-- The records of level 0 that are drawn: where they stand, in the order of their positions.
use Rattle.std.proofs.Common.{
  ◌≡◌,
  ℕ,
  ◌+◌,
  zero,
  suc,
  ◌<◌,
  ◌≤◌,
  List,
  [],
  ◌∷◌,
  ◌++◌,
  length,
  refl,
  sym,
  ap,
  ◌∙◌,
  subst,
  arith,
  append_assoc,
  length-append,
}
use Rattle.std.specs.Prelude.{Some, None}
use Rattle.std.specs.FinMap.{get}
use Rattle.std.specs.List.{slice_get}
use Rattle.std.proofs.Math.Seq.{get_or-append_seam}
use Rattle.stored_lines.specs.Line.{Line, Lines}
use Rattle.stored_lines.specs.Tree.{Tree}
use Rattle.record_shapes.specs.Forms.{below, tag_of}
use Rattle.record_shapes.specs.Lists.{EachOf}
use Rattle.record_shapes.specs.Reading.{Draft}
use Rattle.archive_state.specs.Content.{Records}
use Rattle.archive_state.specs.Merging.{record_with}
use Rattle.import_definitions.specs.Made.{drawing}
use Rattle.import_definitions.specs.Numbers.{
  Drawing,
  Drawn,
  Places,
  begun,
  draw,
  draw_all,
  draw_roots,
  drawn_more,
  finished,
  number_at,
  of_file,
  owned_by,
  root_drawn,
}
use Rattle.import_definitions.specs.Sides.{draft_at}
use Rattle.imports.proofs.Drawn.{draw_keeps}
use Rattle.imports.proofs.Going.{GoesOn, IsFront, draw_all_goes, draw_goes, goes_itself, goes_then, roots_go}
use Rattle.imports.proofs.RootRecords.{IsRootOf, root_is_read}
use Rattle.record_shapes.proofs.Each.{each_back, each_both, each_front, each_more}

-- ---- numbers of positions
pub number_seam : (xs : List ℕ) (a : ℕ) (ys : List ℕ) → number_at (xs ++ (a ∷ ys)) (length xs) ≡ a
number_seam xs a ys = get_or-append_seam xs a ys 0

pub number_front : (xs ys : List ℕ) (j m : ℕ) → EachOf (λ n. n < m) xs → j < length xs
    → number_at (xs ++ ys) j < m
number_front [] ys j m h less = absurd (omega arith)
number_front (x ∷ xs) ys zero m h less = h.0
number_front (x ∷ xs) ys (suc j) m h less = number_front xs ys j m h.1 (omega arith)

pub number_past : (xs : List ℕ) (j : ℕ) → length xs ≤ j → number_at xs j ≡ 0
number_past [] j less = refl
number_past (x ∷ xs) zero less = absurd (omega arith)
number_past (x ∷ xs) (suc j) less = number_past xs j (omega arith)

-- what is drawn at a node has no position of its own
abbrev SameRoots : List ℕ → Drawing → Type 0
SameRoots roots d = d.roots ≡ roots

pub draw_roots_same : (w : Places) (k owner : ℕ) (d : Drawing) (t : Tree Draft) → (draw w k owner d t).roots ≡ d.roots
draw_roots_same w k owner d t = draw_keeps (SameRoots d.roots) (λ e o r p h. h)
    (λ e path name parent h. h) w k owner d t
    refl

roots_count : (rs : Lines) (w : Places) (k : ℕ) (d : Drawing) (behind : Lines)
    → length (draw_roots rs w k d behind).roots ≡ length d.roots + length behind
roots_count rs w k d [] = omega arith
roots_count rs w k d (r ∷ behind) =
    let e : Drawing = draw w k 0 (root_drawn d) (draft_at rs k r) in
    let same : length e.roots ≡ length (d.roots ++ d.next ∷ []) =
    ap length (draw_roots_same w k 0 (root_drawn d) (draft_at rs k r)) in
    let size : length (d.roots ++ d.next ∷ []) ≡ length d.roots + 1 = length-append d.roots (d.next ∷ []) in
    let rest : length (draw_roots rs w (k + 1) e behind).roots ≡ length e.roots + length behind =
    roots_count rs w (k + 1) e behind in
    omega arith

-- ---- what stands
module _ (A : Records) (w : Places) (D : Drawing) where
  abbrev pub There : Drawn → Type 0
  There x = get A (finished w D x).number ≡ Some (finished w D x).«record»

  abbrev pub F : ℕ → ℕ
  F k = number_at D.roots k

  -- what was drawn before the end stands
  pub last_there : EachOf There D.drawn → (xs : List Drawn) (x : Drawn) → IsFront (xs ++ x ∷ []) D.drawn → There x
  last_there all xs x front =
      (each_front There (x ∷ []) front.rest (each_back There xs ((x ∷ []) ++ front.rest)
      (subst (EachOf There) (front.whole ∙ append_assoc xs (x ∷ []) front.rest) all))).0

  -- the record of level 0 at a position
  pub record IsRootAt (rs : Lines) (first k : ℕ) (r : Tree Line) : Type 0 where
    pub root : IsRootOf rs k (below r) (tag_of r) (draft_at rs k r)
    pub stands : get A (F k) ≡ Some (owned_by 0 (record_with F root.own))
    pub later : (j : ℕ) → j < k → F j < F k
    pub from : first ≤ F k
    pub below_next : F k < D.next

  module _ (all : EachOf There D.drawn) (rs : Lines) (first : ℕ) where
    root_at : (k : ℕ) (d : Drawing) (r : Tree Line) → length d.roots ≡ k → EachOf (λ n. n < d.next) d.roots
        → first ≤ d.next → GoesOn (draw w k 0 (root_drawn d) (draft_at rs k r)) D → IsRootAt rs first k r
    root_at k d r size low from goes =
        let root = root_is_read rs k r in
        let x : Drawn = of_file d.next 0 root.own None in
        let e : Drawing = drawn_more (root_drawn d) x in
        let after : GoesOn e (draw_all w k d.next e root.under) = draw_all_goes e w k d.next root.under in
        let at : GoesOn e (draw w k 0 (root_drawn d) (draft_at rs k r)) =
        subst (λ t. GoesOn e (draw w k 0 (root_drawn d) t)) (sym root.whole) after in
        let whole : GoesOn e D = goes_then e (draw w k 0 (root_drawn d) (draft_at rs k r)) D at goes in
        let here : There x = last_there all d.drawn x whole.drawn in
        let parts : D.roots ≡ d.roots ++ (d.next ∷ whole.roots.rest) =
        whole.roots.whole ∙ append_assoc d.roots (d.next ∷ []) whole.roots.rest in
        let is : F k ≡ d.next = (λ i. number_at (parts i) (sym size i))
        ∙ number_seam d.roots d.next whole.roots.rest in
        let up : d.next + 1 ≤ D.next = whole.next in
        record {
          root = root;
          stands = ap (get A) is ∙ here;
          later = λ j less.
              let lower : number_at (d.roots ++ (d.next ∷ whole.roots.rest)) j < d.next =
              number_front d.roots (d.next ∷ whole.roots.rest) j d.next low (omega arith) in
              let same : F j ≡ number_at (d.roots ++ (d.next ∷ whole.roots.rest)) j = ap (λ l. number_at l j) parts in
              omega arith;
          from = omega arith;
          below_next = omega arith;
        }

    roots_at : (k : ℕ) (d : Drawing) (behind : Lines) → length d.roots ≡ k → EachOf (λ n. n < d.next) d.roots
        → first ≤ d.next → GoesOn (draw_roots rs w k d behind) D → (i : ℕ) (r : Tree Line)
        → slice_get behind i ≡ Some r → IsRootAt rs first (k + i) r
    roots_at k d [] size low from goes i r at = absurd cc
    roots_at k d (q ∷ behind) size low from goes zero r at =
        let same : q ≡ r = cc in
        let e : Drawing = draw w k 0 (root_drawn d) (draft_at rs k q) in
        let here : IsRootAt rs first k q = root_at k d q size low from
        (goes_then e (draw_roots rs w (k + 1) e behind) D (roots_go e rs w (k + 1) behind) goes) in
        let number : k ≡ k + zero = omega arith in
        subst (λ n. IsRootAt rs first n r) number (subst (IsRootAt rs first k) same here)
    roots_at k d (q ∷ behind) size low from goes (suc i) r at =
        let e : Drawing = draw w k 0 (root_drawn d) (draft_at rs k q) in
        let on : GoesOn (root_drawn d) e = draw_goes (root_drawn d) w k 0 (draft_at rs k q) in
        let up : d.next ≤ e.next = on.next in
        let roots : e.roots ≡ d.roots ++ d.next ∷ [] = draw_roots_same w k 0 (root_drawn d) (draft_at rs k q) in
        let count : length e.roots ≡ length (d.roots ++ d.next ∷ []) = ap length roots in
        let one : length (d.roots ++ d.next ∷ []) ≡ length d.roots + 1 = length-append d.roots (d.next ∷ []) in
        let drawn_once : d.next < e.next = more k d q in
        let lower : EachOf (λ n. n < e.next) e.roots = subst (EachOf (λ n. n < e.next)) (sym roots)
        (each_both (λ n. n < e.next) d.roots (d.next ∷ [])
        (each_more (λ n. n < d.next) (λ n. n < e.next) (λ n h. let l : n < d.next = h in omega arith) d.roots low)
        (drawn_once, tt)) in
        let rest : IsRootAt rs first ((k + 1) + i) r = roots_at (k + 1) e behind (omega arith) lower
        (omega arith) goes i r
        at in
        let number : (k + 1) + i ≡ k + suc i = omega arith in
        subst (λ n. IsRootAt rs first n r) number rest
      where
        more : (k : ℕ) (d : Drawing) (q : Tree Line) → d.next < (draw w k 0 (root_drawn d) (draft_at rs k q)).next
        more k d q =
            let root = root_is_read rs k q in
            let x : Drawn = of_file d.next 0 root.own None in
            let e : Drawing = drawn_more (root_drawn d) x in
            let up : d.next + 1 ≤ (draw_all w k d.next e root.under).next =
            (draw_all_goes e w k d.next root.under).next in
            subst (λ t. d.next < (draw w k 0 (root_drawn d) t).next) (sym root.whole) (omega arith)

-- each node of a file stands, as what it is read as
pub all_rooted : (A : Records) (w : Places) (next : ℕ) (rs : Lines)
    → EachOf (There A w (drawing next w rs)) (drawing next w rs).drawn → (k : ℕ) (r : Tree Line)
    → slice_get rs k ≡ Some r → IsRootAt A w (drawing next w rs) rs next k r
all_rooted A w next rs all k r at =
    let D : Drawing = drawing next w rs in
    let here : IsRootAt A w D rs next (0 + k) r = roots_at A w D all rs next 0 (begun next) rs refl tt (omega arith)
    (goes_itself D) k r at in
    let number : 0 + k ≡ k = omega arith in
    subst (λ n. IsRootAt A w D rs next n r) number here

pub rooted_count : (w : Places) (next : ℕ) (rs : Lines) → length (drawing next w rs).roots ≡ length rs
rooted_count w next rs = let size = roots_count rs w 0 (begun next) rs in omega arith
