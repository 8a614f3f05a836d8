-- What is known of positions in a file, and of the numbers that they become in the archive, is the same.
use Rattle.std.proofs.Common.{
  ◌≡◌,
  ◌⊎◌,
  ℕ,
  ◌+◌,
  zero,
  suc,
  ◌<◌,
  ◌≤◌,
  Bool,
  true,
  false,
  nat_lt,
  List,
  [],
  ◌∷◌,
  length,
  take,
  refl,
  sym,
  ap,
  ◌∙◌,
  inl,
  inr,
  arith,
  add-one,
}
use Rattle.std.specs.Prelude.{Option, Some, None, IfSome, option_map, codes, if◌then◌else◌}
use Rattle.std.specs.FinMap.{get}
use Rattle.std.specs.List.{slice_get}
use Rattle.std.specs.Option.{unwrap_or}
use Rattle.stored_lines.specs.Line.{Line, Lines}
use Rattle.stored_lines.specs.Tree.{Tree}
use Rattle.record_kinds.specs.Model as model
use Rattle.record_kinds.specs.declared.record.Record.{Record}
use Rattle.record_kinds.specs.declared.record.Record.TheVariants as kind
use Rattle.record_shapes.specs.Fields.{a_parent, is_above, is_same, parent_field, path_below}
use Rattle.record_shapes.specs.Forms.{Known, below, number_of, tag_of, tagged}
use Rattle.record_shapes.specs.Lists.{EachOf}
use Rattle.record_shapes.specs.Reading.{parent_line, path_on, place_from, place_name}
use Rattle.archive_state.specs.Content.{Records}
use Rattle.archive_state.specs.Known.{
  known_before as archive_before,
  known_of,
  path_by,
  path_of,
  path_with,
  written_tag,
  tag_at as archive_tag,
}
use Rattle.archive_state.specs.Merging.{place_with, record_with}
use Rattle.archive_state.specs.Paths.{HasPath}
use Rattle.archive_state.proofs.Climbing.{goes_path}
use Rattle.archive_state.proofs.Known.{path_known}
use Rattle.import_definitions.specs.Made.{drawing}
use Rattle.import_definitions.specs.Numbers.{Places, owned_by}
use Rattle.import_definitions.specs.Positions.{known, known_before, path_at, paths, tag_at}
use Rattle.imports.proofs.Left.{first_is}
use Rattle.imports.proofs.LinksMet.{parent_met}
use Rattle.imports.proofs.Paths.{
  get_past_take,
  get_take,
  known_earlier,
  path_of_none,
  path_of_other,
  path_of_place,
}
use Rattle.archive_state.proofs.Untaken.{through}
use Rattle.imports.proofs.Rooted.{F, IsRootAt, There, all_rooted, number_past, rooted_count}
use Rattle.list_laws.proofs.Numbers.{not_less, is_less}

-- ---- records with other numbers
written_owned : (n : ℕ) (r : Record) → written_tag (owned_by n r) ≡ written_tag r
written_owned n (kind.Place r) = refl
written_owned n (kind.Repo r) = refl
written_owned n (kind.Source r) = refl
written_owned n (kind.Person r) = refl
written_owned n (kind.Family r) = refl
written_owned n (kind.Citation r) = refl
written_owned n (kind.Event r) = refl
written_owned n (kind.Entry r) = refl
written_owned n (kind.Other r) = refl

written_with : (f : ℕ → ℕ) (r : Record) → written_tag (record_with f r) ≡ written_tag r
written_with f (kind.Place r) = refl
written_with f (kind.Repo r) = refl
written_with f (kind.Source r) = refl
written_with f (kind.Person r) = refl
written_with f (kind.Family r) = refl
written_with f (kind.Citation r) = refl
written_with f (kind.Event r) = refl
written_with f (kind.Entry r) = refl
written_with f (kind.Other r) = refl

-- a record that is no place has no path
no_path : (f : ℕ → ℕ) (n owner : ℕ) (above : ℕ → Option (List ℕ)) (r : Record)
    → ((p : model.Place) → r ≡ kind.Place p → ⊥) → path_with n above (Some (owned_by owner (record_with f r))) ≡ None
no_path f n owner above (kind.Place r) h = absurd (h r refl)
no_path f n owner above (kind.Repo r) h = refl
no_path f n owner above (kind.Source r) h = refl
no_path f n owner above (kind.Person r) h = refl
no_path f n owner above (kind.Family r) h = refl
no_path f n owner above (kind.Citation r) h = refl
no_path f n owner above (kind.Event r) h = refl
no_path f n owner above (kind.Entry r) h = refl
no_path f n owner above (kind.Other r) h = refl

get_past : {A : Type 0} (xs : List A) (k : ℕ) → slice_get xs k ≡ None → length xs ≤ k
get_past [] k e = omega arith
get_past (x ∷ xs) zero e = absurd cc
get_past (x ∷ xs) (suc k) e = let less : length xs ≤ k = get_past xs k e in omega arith

module _ (A : Records) (w : Places) (next : ℕ) (rs : Lines)
    (all : EachOf (There A w (drawing next w rs)) (drawing next w rs).drawn) (zero_none : get A 0 ≡ None) where
  abbrev pub f : ℕ → ℕ
  f k = F A w (drawing next w rs) k

  abbrev pub At : ℕ → Tree Line → Type 0
  At k r = IsRootAt A w (drawing next w rs) rs next k r

  pub at_node : (k : ℕ) (r : Tree Line) → slice_get rs k ≡ Some r → At k r
  at_node k r at = all_rooted A w next rs all k r at

  -- a position after the last becomes 0, where nothing stands
  pub past_zero : (k : ℕ) → slice_get rs k ≡ None → f k ≡ 0
  past_zero k at =
      let size : length (drawing next w rs).roots ≡ length rs = rooted_count w next rs in
      let past : length rs ≤ k = get_past rs k at in
      number_past (drawing next w rs).roots k (omega arith)

  node_cases : (k : ℕ) → ((r : Tree Line) × (slice_get rs k ≡ Some r)) ⊎ (slice_get rs k ≡ None)
  node_cases k = by (slice_get rs k) refl
    where
      by : (o : Option (Tree Line)) → slice_get rs k ≡ o
          → ((r : Tree Line) × (slice_get rs k ≡ Some r)) ⊎ (slice_get rs k ≡ None)
      by None e = inr e
      by (Some r) e = inl (r, e)

  -- ---- tags
  pub tag_known : (k : ℕ) → (known rs).tag k ≡ (known_of A).tag (f k)
  tag_known k = elim (node_cases k) as (λ _. tag_at rs k ≡ archive_tag (get A (f k))) [
    | inl (r, at) ↦
        let root = at_node k r at in
        ap (λ (o : Option (Tree Line)). unwrap_or (option_map tag_of o) []) at ∙ sym root.root.fits.written
        ∙ sym (written_with f root.root.own) ∙ sym (written_owned 0 (record_with f root.root.own))
        ∙ sym (ap archive_tag root.stands)
    | inr at ↦ ap (λ (o : Option (Tree Line)). unwrap_or (option_map tag_of o) []) at
        ∙ sym (ap (λ n. archive_tag (get A n)) (past_zero k at) ∙ ap archive_tag zero_none)
  ]

  -- ---- paths
  path_is : (n : ℕ) → path_of A n ≡ path_with n (path_by n A) (get A n)
  unfolding path_of
  path_is n = ap (λ s. path_by s A n) (add-one n)

  nothing_there : (n : ℕ) → get A n ≡ None → path_of A n ≡ None
  nothing_there n e = path_is n ∙ ap (path_with n (path_by n A)) e

  no_place_there : (k : ℕ) (r : Tree Line) → slice_get rs k ≡ Some r → tagged (codes "_LOC") r ≡ false
      → path_of A (f k) ≡ None
  no_place_there k r at is =
      let root = at_node k r at in
      path_is (f k) ∙ ap (path_with (f k) (path_by (f k) A)) root.stands
      ∙ no_path f (f k) 0 (path_by (f k) A) root.root.own (root.root.fits.no_loc is)

  -- the path of a place by that of the one above it
  loc_path : (k : ℕ) (p : model.Place) (o : Option (Tree Line)) → get A (f k) ≡ Some (kind.Place (place_with f p))
      → p.parent ≡ option_map number_of o
      → IfSome o (λ t. is_above p.name ((known_before rs k).path (number_of t)) ≡ true)
      → ((j : ℕ) → j < k → f j < f k)
      → ((j : ℕ) (q : List ℕ) → j < k → path_at (paths rs) j ≡ Some q → path_of A (f j) ≡ Some q)
      → path_of A (f k) ≡ Some (path_on (known_before rs k) p.name o)
  loc_path k p None stands parent above later up =
      (path_known A (f k) p.name).0
      (goes_path A (f k) (place_with f p) p.name None stands (ap (option_map f) parent) refl)
  loc_path k p (Some t) stands parent above later up = by ((known_before rs k).path (number_of t)) refl above
    where
      by : (o : Option (List ℕ)) → (known_before rs k).path (number_of t) ≡ o → is_above p.name o ≡ true
          → path_of A (f k) ≡ Some (path_below p.name (unwrap_or ((known_before rs k).path (number_of t)) []))
      by None e is = absurd cc
      by (Some q) e is =
          let earlier = known_earlier rs k (number_of t) q e in
          let path : path_of A (f (number_of t)) ≡ Some q = up (number_of t) q earlier.0 earlier.1 in
          let has : HasPath A (f (number_of t)) q = (path_known A (f (number_of t)) q).1 path in
          (path_known A (f k) (path_below p.name q)).0
          (goes_path A (f k) (place_with f p) (path_below p.name q) (Some (f (number_of t))) stands
          (ap (option_map f) parent) (later (number_of t) earlier.0, (q, refl, has)))
          ∙ sym (ap (λ x. Some (path_below p.name (unwrap_or x []))) e)

  filed_by : (steps k : ℕ) (q : List ℕ) → k < steps → path_at (paths rs) k ≡ Some q → path_of A (f k) ≡ Some q
  filed_by zero k q less e = absurd (omega arith)
  filed_by (suc steps) k q less e = elim (node_cases k) as (λ _. path_of A (f k) ≡ Some q) [
    | inr at ↦ let no : None ≡ Some q = sym (path_of_none rs k at) ∙ e in absurd cc
    | inl (r, at) ↦
        elim (tagged (codes "_LOC") r) as (λ b. tagged (codes "_LOC") r ≡ b → path_of A (f k) ≡ Some q) [
          | false ↦ λ is. let no : None ≡ Some q = sym (path_of_other rs k r at is) ∙ e in absurd cc
          | true ↦ λ is.
              let root = at_node k r at in
              let ts : Lines = below r in
              let before : Known = known_before rs k in
              let p : model.Place = place_from before ts in
              let stands : get A (f k) ≡ Some (kind.Place (place_with f p)) = root.stands
              ∙ ap (λ x. Some (owned_by 0 (record_with f x))) (root.root.fits.loc is) in
              let above : IfSome (parent_line before ts) (λ t. is_above p.name (before.path (number_of t)) ≡ true) =
              met k (place_name ts) (parent_line before ts) (first_is (parent_field before
              (place_name ts)) a_parent ts) in
              loc_path k p (parent_line before ts) stands refl above root.later
              (λ j path low is_path. filed_by steps j path (omega arith) is_path)
              ∙ sym (path_of_place rs k r at is) ∙ e
        ] refl
  ]
    where
      met : (k : ℕ) (called : List ℕ) (o : Option (Tree Line))
          → IfSome o (λ t. is_same (parent_field (known_before rs k) called t) a_parent ≡ true)
          → IfSome o (λ t. is_above called ((known_before rs k).path (number_of t)) ≡ true)
      met k called None h = tt
      met k called (Some t) h = parent_met rs k called t h

  -- a path in the file is that in the archive
  pub filed : (k : ℕ) (q : List ℕ) → path_at (paths rs) k ≡ Some q → path_of A (f k) ≡ Some q
  filed k q e = filed_by (k + 1) k q (omega arith) e

  pub path_known_too : (k : ℕ) → (known rs).path k ≡ (known_of A).path (f k)
  path_known_too k = by (path_at (paths rs) k) refl
    where
      by : (o : Option (List ℕ)) → path_at (paths rs) k ≡ o → path_at (paths rs) k ≡ path_of A (f k)
      by (Some q) e = e ∙ sym (filed k q e)
      by None e = e ∙ sym (elim (node_cases k) as (λ _. path_of A (f k) ≡ None) [
        | inr at ↦ nothing_there (f k) (ap (get A) (past_zero k at) ∙ zero_none)
        | inl (r, at) ↦
            elim (tagged (codes "_LOC") r) as (λ b. tagged (codes "_LOC") r ≡ b → path_of A (f k) ≡ None) [
              | true ↦ λ is. let no : None ≡ Some _ = sym e ∙ path_of_place rs k r at is in absurd cc
              | false ↦ λ is. no_place_there k r at is
            ] refl
      ])

  -- ---- all that is known
  pub all_known : through f (known_of A) ≡ known rs
  all_known = λ i. record { tag = λ k. sym (tag_known k) i; path = λ k. sym (path_known_too k) i }

  before_path : (k j : ℕ) (r : Tree Line) → slice_get rs k ≡ Some r
      → (known_before rs k).path j ≡ (if nat_lt (f j) (f k) then path_of A (f j) else None)
  before_path k j r at =
      let root = at_node k r at in
      elim (order j k) as (λ _. unwrap_or (slice_get (take k (paths rs)) j) None
      ≡ (if nat_lt (f j) (f k) then path_of A (f j) else None)) [
        | inl less ↦
            ap (λ (o : Option (Option (List ℕ))). unwrap_or o None) (get_take k (paths rs) j less)
            ∙ path_known_too j
            ∙ sym (ap (λ b. if b then path_of A (f j) else None) (is_less (f j) (f k) (root.later j less)))
        | inr less ↦
            ap (λ (o : Option (Option (List ℕ))). unwrap_or o None) (get_past_take k (paths rs) j less)
            ∙ sym (behind j less)
      ]
    where
      order : (j k : ℕ) → (j < k) ⊎ (k ≤ j)
      order j k = grind arith

      nothing : (b : Bool) (o : Option (List ℕ)) → o ≡ None → (if b then o else None) ≡ None
      nothing true o e = e
      nothing false o e = refl

      behind : (j : ℕ) → k ≤ j → (if nat_lt (f j) (f k) then path_of A (f j) else None) ≡ None
      behind j less = elim (node_cases j) as (λ _. (if nat_lt (f j) (f k) then path_of A (f j) else None) ≡ None) [
        | inr none_at ↦ nothing (nat_lt (f j) (f k)) (path_of A (f j))
            (nothing_there (f j) (ap (get A) (past_zero j none_at) ∙ zero_none))
        | inl (q, there) ↦ ap (λ b. if b then path_of A (f j) else None)
            (not_less (f j) (f k) (not_below j less q there))
      ]
        where
          not_below : (j : ℕ) → k ≤ j → (q : Tree Line) → slice_get rs j ≡ Some q → f k ≤ f j
          not_below j less q there = elim (same_or j k less) as (λ _. f k ≤ f j) [
            | inl same ↦ let e : f k ≡ f j = ap f same in omega arith
            | inr more ↦ let up : f k < f j = (at_node j q there).later k more in omega arith
          ]
            where
              same_or : (j k : ℕ) → k ≤ j → (k ≡ j) ⊎ (k < j)
              same_or j k less = grind arith

  pub before_known : (k : ℕ) (r : Tree Line) → slice_get rs k ≡ Some r
      → through f (archive_before A (f k)) ≡ known_before rs k
  before_known k r at = λ i. record { tag = λ j. sym (tag_known j) i; path = λ j. sym (before_path k j r at) i }
