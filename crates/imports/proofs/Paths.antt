-- The paths of the places of a file, position by position.
use Rattle.std.proofs.Common.{
  ◌≡◌,
  ℕ,
  ◌+◌,
  zero,
  suc,
  ◌<◌,
  ◌≤◌,
  Bool,
  true,
  false,
  cond,
  List,
  [],
  ◌∷◌,
  ◌++◌,
  length,
  take,
  refl,
  sym,
  ap,
  ◌∙◌,
  arith,
  append_assoc,
  append-nil,
  length-append,
}
use Rattle.std.specs.Prelude.{Option, Some, None, option_map, bytes_eq, codes}
use Rattle.std.specs.List.{slice_get}
use Rattle.std.specs.Option.{unwrap_or}
use Rattle.std.proofs.Math.Seq.{take-append_seam}
use Rattle.stored_lines.specs.Line.{Line, Lines}
use Rattle.stored_lines.specs.Tree.{Tree}
use Rattle.record_shapes.specs.Forms.{below, tag_of, tagged}
use Rattle.record_shapes.specs.Reading.{path_from}
use Rattle.import_definitions.specs.Positions.{known_before, path_at, path_behind, paths, paths_behind, tag_at}
use Rattle.list_laws.proofs.Lists.{at_end}

abbrev Path : Type 0
Path = Option (List ℕ)

-- ---- what stands at a position

-- what is among the first is there, below their count
pub get_taken : {A : Type 0} (k : ℕ) (xs : List A) (j : ℕ) (a : A) → slice_get (take k xs) j ≡ Some a
    → (j < k) × (slice_get xs j ≡ Some a)
get_taken zero xs j a e = absurd cc
get_taken (suc k) [] j a e = absurd cc
get_taken (suc k) (x ∷ xs) zero a e = (omega arith, e)
get_taken (suc k) (x ∷ xs) (suc j) a e = let r = get_taken k xs j a e in (let low : j < k = r.0 in omega arith, r.1)

-- and the other way round
pub get_take : {A : Type 0} (k : ℕ) (xs : List A) (j : ℕ) → j < k → slice_get (take k xs) j ≡ slice_get xs j
get_take zero xs j less = absurd (omega arith)
get_take (suc k) [] j less = refl
get_take (suc k) (x ∷ xs) zero less = refl
get_take (suc k) (x ∷ xs) (suc j) less = get_take k xs j (omega arith)

pub get_past_take : {A : Type 0} (k : ℕ) (xs : List A) (j : ℕ) → k ≤ j → slice_get (take k xs) j ≡ None
get_past_take zero xs j less = refl
get_past_take (suc k) [] j less = refl
get_past_take (suc k) (x ∷ xs) zero less = absurd (omega arith)
get_past_take (suc k) (x ∷ xs) (suc j) less = get_past_take k xs j (omega arith)

-- ---- one path after the other
record GoesOn (ps all : List Path) : Type 0 where
  rest : List Path
  whole : all ≡ ps ++ rest

goes_on : (rs : Lines) (ps : List Path) (behind : Lines) → GoesOn ps (paths_behind rs ps behind)
goes_on rs ps [] = record { rest = []; whole = sym (append-nil ps) }
goes_on rs ps (r ∷ behind) =
    let x : Path = path_behind rs ps r in
    let more = goes_on rs (ps ++ x ∷ []) behind in
    record { rest = x ∷ more.rest; whole = more.whole ∙ append_assoc ps (x ∷ []) more.rest }

paths_at : (rs : Lines) (ps : List Path) (behind : Lines) (j k : ℕ) → k ≡ length ps + j
    → slice_get (paths_behind rs ps behind) k
    ≡ option_map (path_behind rs (take k (paths_behind rs ps behind))) (slice_get behind j)
paths_at rs ps [] j k e = past ps k (omega arith)
  where
    past : {A : Type 0} (xs : List A) (k : ℕ) → length xs ≤ k → slice_get xs k ≡ None
    past [] k h = refl
    past (x ∷ xs) zero h = absurd (omega arith)
    past (x ∷ xs) (suc k) h = past xs k (omega arith)
paths_at rs ps (r ∷ behind) zero k e =
    let x : Path = path_behind rs ps r in
    let all : List Path = paths_behind rs (ps ++ x ∷ []) behind in
    let more = goes_on rs (ps ++ x ∷ []) behind in
    let whole : all ≡ ps ++ (x ∷ more.rest) = more.whole ∙ append_assoc ps (x ∷ []) more.rest in
    let here : k ≡ length ps = omega arith in
    let at : slice_get all k ≡ Some x = (λ i. slice_get (whole i) (here i)) ∙ at_end ps x more.rest in
    let front : take k all ≡ ps = (λ i. take (here i) (whole i)) ∙ take-append_seam ps (x ∷ more.rest) in
    at ∙ ap (λ (qs : List Path). Some (path_behind rs qs r)) (sym front)
paths_at rs ps (r ∷ behind) (suc j) k e =
    let x : Path = path_behind rs ps r in
    let size : length (ps ++ x ∷ []) ≡ length ps + 1 = length-append ps (x ∷ []) in
    paths_at rs (ps ++ x ∷ []) behind j k (omega arith)

-- the path at a position is that of its node, by those before it
pub path_of_node : (rs : Lines) (k : ℕ) → slice_get (paths rs) k
    ≡ option_map (path_behind rs (take k (paths rs))) (slice_get rs k)
unfolding paths
path_of_node rs k = paths_at rs [] rs k k (omega arith)

-- ---- places
pub path_of_place : (rs : Lines) (k : ℕ) (r : Tree Line) → slice_get rs k ≡ Some r → tagged (codes "_LOC") r ≡ true
    → path_at (paths rs) k ≡ Some (path_from (known_before rs k) (below r))
path_of_place rs k r at is =
    ap (λ (o : Option Path). unwrap_or o None) (path_of_node rs k
    ∙ ap (option_map (path_behind rs (take k (paths rs)))) at
    ∙ ap (λ (b : Bool). Some (cond b (Some (path_from (known_before rs k) (below r))) None)) is)

pub path_of_other : (rs : Lines) (k : ℕ) (r : Tree Line) → slice_get rs k ≡ Some r → tagged (codes "_LOC") r ≡ false
    → path_at (paths rs) k ≡ None
path_of_other rs k r at is =
    ap (λ (o : Option Path). unwrap_or o None) (path_of_node rs k
    ∙ ap (option_map (path_behind rs (take k (paths rs)))) at
    ∙ ap (λ (b : Bool). Some (cond b (Some (path_from (known_before rs k) (below r))) None)) is)

pub path_of_none : (rs : Lines) (k : ℕ) → slice_get rs k ≡ None → path_at (paths rs) k ≡ None
path_of_none rs k at =
    ap (λ (o : Option Path). unwrap_or o None) (path_of_node rs k
    ∙ ap (option_map (path_behind rs (take k (paths rs)))) at)

-- what has a path is a place
pub placed_loc : (rs : Lines) (k : ℕ) (q : List ℕ) → path_at (paths rs) k ≡ Some q
    → bytes_eq (tag_at rs k) (codes "_LOC") ≡ true
placed_loc rs k q e = by (slice_get rs k) refl
  where
    by : (o : Option (Tree Line)) → slice_get rs k ≡ o → bytes_eq (tag_at rs k) (codes "_LOC") ≡ true
    by None at = let no : None ≡ Some q = sym (path_of_none rs k at) ∙ e in absurd cc
    by (Some r) at =
        elim (tagged (codes "_LOC") r) as (λ b. tagged (codes "_LOC") r ≡ b
        → bytes_eq (tag_at rs k) (codes "_LOC") ≡ true) [
          | true ↦ λ is. ap (λ o. bytes_eq (unwrap_or (option_map tag_of o) []) (codes "_LOC")) at ∙ is
          | false ↦ λ is. let no : None ≡ Some q = sym (path_of_other rs k r at is) ∙ e in absurd cc
        ] refl

-- a path that is known before a position is known, of a position before it
pub known_earlier : (rs : Lines) (k j : ℕ) (q : List ℕ) → (known_before rs k).path j ≡ Some q
    → (j < k) × (path_at (paths rs) j ≡ Some q)
known_earlier rs k j q e = by (slice_get (take k (paths rs)) j) refl e
  where
    by : (o : Option Path) → slice_get (take k (paths rs)) j ≡ o → unwrap_or o None ≡ Some q
        → (j < k) × (path_at (paths rs) j ≡ Some q)
    by None at f = absurd cc
    by (Some p) at f = let r = get_taken k (paths rs) j p at in
        (r.0, ap (λ (o : Option Path). unwrap_or o None) r.1 ∙ f)
