-- What is counted, and what is not.
use Rattle.std.proofs.Common.{
  ◌≡◌,
  ◌⊎◌,
  ◌++◌,
  ℕ,
  List,
  [],
  ◌∷◌,
  Bool,
  true,
  false,
  cond,
  refl,
  sym,
  ap,
  inl,
  inr,
  ◌∙◌,
}
use Rattle.std.specs.Prelude.{◌&&◌, ◌||◌, not, if◌then◌else◌, Option, Some, None}
use Rattle.std.specs.FinMap.{get, keys}
use Rattle.std.specs.List.{filter, list_all, list_any}
use Rattle.std.proofs.lemmas.Bool.{or_parts}
use Rattle.std.proofs.lemmas.List.Folds.{list_all-append}
use Rattle.stored_lines.specs.Tree.{node, forest_of, list_of, more}
use Rattle.stored_lines.specs.Line.{Lines}
use Rattle.record_fields.specs.declared.words.Sex.{Sex}
use Rattle.record_kinds.specs.Model as model
use Rattle.record_kinds.specs.declared.record.Record.{Record}
use Rattle.record_kinds.specs.declared.record.Record.TheVariants as kind
use Rattle.record_shapes.specs.Shapes.{Around}
use Rattle.archive_state.specs.Content.{Records}
use Rattle.archive_state.proofs.MapKeys.{among_keys}
use Rattle.gedcom_export.specs.Around.{around}
use Rattle.plain_export.specs.Allowed.{has_lines}
use Rattle.plain_export.specs.Kept.{is_dropped, is_ours, kept, kept_below}
use Rattle.plain_export.specs.LeftOut.{
  carries_lines,
  carries_sex,
  has_second_sex,
  is_named,
  is_our_own,
  is_place,
  is_unnamed,
  names_place,
  those,
}
use Rattle.plain_export.specs.Plain.{
  IsAmong,
  IsPlain,
  added_to,
  is_sex,
  plain_at,
  plain_of,
  plain_person,
  without_second,
  without_sex,
}
use Rattle.plain_export.proofs.Standing.{filtered, split_any}

-- ---- lists
-- what is among those that pass a test passes it
all_pass : {A : Type 0} (p : A → Bool) (xs : List A) → list_all p (filter p xs) ≡ true
all_pass p [] = refl
all_pass p (x ∷ xs) = elim (p x) as (λ b. p x ≡ b → list_all p (cond b (x ∷ filter p xs) (filter p xs)) ≡ true) [
  | true ↦ λ is. rw is (all_pass p xs)
  | false ↦ λ is. all_pass p xs
] refl

both_left : (a b : Bool) → (a && b) ≡ true → a ≡ true
both_left true b e = refl
both_left false b e = absurd cc

both_right : (a b : Bool) → (a && b) ≡ true → b ≡ true
both_right true b e = e
both_right false b e = absurd cc

passes : {A : Type 0} (p : A → Bool) (x : A) (xs : List A) → IsAmong x (filter p xs) → p x ≡ true
passes p x xs h =
    let all : list_all p (h.0 ++ x ∷ h.1) ≡ true = ap (list_all p) (sym h.2) ∙ all_pass p xs in
    let here : list_all p (x ∷ h.1) ≡ true = both_right (list_all p h.0) (list_all p (x ∷ h.1))
    (sym (list_all-append p h.0 (x ∷ h.1)) ∙ all) in
    both_left (p x) (list_all p h.1) here

-- a number of which a test holds is among those that pass it
pub counted : (m : Records) (test : ℕ → Bool) (n : ℕ) (r : Record) → get m n ≡ Some r → test n ≡ true
    → IsAmong n (filter test (keys m))
counted m test n r at is = filtered test n (keys m) is (split_any n (keys m) (among_keys m n r at))

-- ---- what is counted
lines_of_none : (m : Records) (a : Around) (tail : Lines) (o : Option Record) → carries_lines o ≡ true
    → plain_at m a tail o ≡ None
lines_of_none m a tail None e = absurd cc
lines_of_none m a tail (Some (kind.Place x)) e = refl
lines_of_none m a tail (Some (kind.Repo x)) e = absurd cc
lines_of_none m a tail (Some (kind.Source x)) e = absurd cc
lines_of_none m a tail (Some (kind.Person x)) e = absurd cc
lines_of_none m a tail (Some (kind.Family x)) e = absurd cc
lines_of_none m a tail (Some (kind.Citation x)) e = absurd cc
lines_of_none m a tail (Some (kind.Event x)) e = absurd cc
lines_of_none m a tail (Some (kind.Entry x)) e = absurd cc
lines_of_none m a tail (Some (kind.Other x)) e = absurd cc

place_is_none : (m : Records) (a : Around) (tail : Lines) (o : Option Record) → is_place o ≡ true
    → plain_at m a tail o ≡ None
place_is_none m a tail None e = absurd cc
place_is_none m a tail (Some (kind.Place x)) e = refl
place_is_none m a tail (Some (kind.Repo x)) e = absurd cc
place_is_none m a tail (Some (kind.Source x)) e = absurd cc
place_is_none m a tail (Some (kind.Person x)) e = absurd cc
place_is_none m a tail (Some (kind.Family x)) e = absurd cc
place_is_none m a tail (Some (kind.Citation x)) e = absurd cc
place_is_none m a tail (Some (kind.Event x)) e = absurd cc
place_is_none m a tail (Some (kind.Entry x)) e = absurd cc
place_is_none m a tail (Some (kind.Other x)) e = absurd cc

own_is_none : (m : Records) (a : Around) (tail : Lines) (o : Option Record) → is_our_own o ≡ true
    → plain_at m a tail o ≡ None
own_is_none m a tail None e = absurd cc
own_is_none m a tail (Some (kind.Place x)) e = absurd cc
own_is_none m a tail (Some (kind.Repo x)) e = absurd cc
own_is_none m a tail (Some (kind.Source x)) e = absurd cc
own_is_none m a tail (Some (kind.Person x)) e = absurd cc
own_is_none m a tail (Some (kind.Family x)) e = absurd cc
own_is_none m a tail (Some (kind.Citation x)) e = absurd cc
own_is_none m a tail (Some (kind.Event x)) e = absurd cc
own_is_none m a tail (Some (kind.Entry x)) e = absurd cc
own_is_none m a tail (Some (kind.Other x)) e =
    ap (λ b. if b then None else Some (plain_of m a tail (kind.Other x))) e

module _ (m p : Records) (n : ℕ) (h : IsPlain m p) where
  pub no_lines : IsAmong n (those carries_lines m) → get p n ≡ None
  no_lines among = h.records n
      ∙ lines_of_none m (around m) (added_to m n) (get m n) (passes (λ k. carries_lines (get m k)) n (keys m) among)

  pub not_unnamed : IsAmong n (filter (is_unnamed m) (keys m)) → get p n ≡ None
  not_unnamed among = h.records n ∙ place_is_none m (around m) (added_to m n) (get m n)
      (both_left (is_place (get m n)) (not (is_named m n)) (passes (is_unnamed m) n (keys m) among))

  pub not_own : IsAmong n (those is_our_own m) → get p n ≡ None
  not_own among = h.records n
      ∙ own_is_none m (around m) (added_to m n) (get m n) (passes (λ k. is_our_own (get m k)) n (keys m) among)

none_second : (ts : Lines) → list_any is_sex (without_second ts) ≡ false
none_second [] = refl
none_second (t ∷ ts) = elim (is_sex t) as (λ b. is_sex t ≡ b
    → list_any is_sex (cond (not b) (t ∷ without_second ts) (without_second ts)) ≡ false) [
      | true ↦ λ is. none_second ts
      | false ↦ λ is. rw is (none_second ts)
    ] refl

ends_plain : (ts : Lines) → list_any is_sex ts ≡ false → list_any is_sex (ts ++ []) ≡ false
ends_plain [] e = refl
ends_plain (t ∷ ts) e =
    let parts = or_parts (is_sex t) (list_any is_sex ts) e in
    rw parts.0 (ends_plain ts parts.1)

one_sex : (m : Records) (x : model.Person) (s : Option Sex) → carries_sex s x.carried ≡ true
    → list_any is_sex (without_sex s (kept m x.carried) ++ []) ≡ false
one_sex m x None e = absurd cc
one_sex m x (Some s) e = ends_plain (without_second (kept m x.carried)) (none_second (kept m x.carried))

pub sex_left_out : (m : Records) (n : ℕ) (x : model.Person) → IsAmong n (those has_second_sex m)
    → get m n ≡ Some (kind.Person x) → list_any is_sex (plain_person m [] x).carried ≡ false
sex_left_out m n x among at = one_sex m x x.sex
    (sym (ap has_second_sex at) ∙ passes (λ k. has_second_sex (get m k)) n (keys m) among)

-- ---- what is not counted
abbrev IsThere : Records → Records → ℕ → Record → Type 0
IsThere m p n r = ((s : Record) × (get p n ≡ Some s))
    ⊎ (((x : model.Place) × (r ≡ kind.Place x))
    ⊎ (((x : model.Entry) × (r ≡ kind.Entry x)) ⊎ IsAmong n (those is_our_own m)))

other_there : (m p : Records) (n : ℕ) (x : model.Other) (b : Bool) → is_ours x.tag ≡ b
    → get m n ≡ Some (kind.Other x)
    → get p n ≡ (if b then None else Some (plain_of m (around m) (added_to m n) (kind.Other x)))
    → IsThere m p n (kind.Other x)
other_there m p n x true is at stands =
    inr (inr (inr (counted m (λ k. is_our_own (get m k)) n (kind.Other x) at (ap is_our_own at ∙ is))))
other_there m p n x false is at stands = inl (_, stands)

pub is_there : (m p : Records) (n : ℕ) (r : Record) → IsPlain m p → get m n ≡ Some r → IsThere m p n r
is_there m p n (kind.Place x) h at = inr (inl (x, refl))
is_there m p n (kind.Repo x) h at = inl (_, h.records n ∙ ap (plain_at m (around m) (added_to m n)) at)
is_there m p n (kind.Source x) h at = inl (_, h.records n ∙ ap (plain_at m (around m) (added_to m n)) at)
is_there m p n (kind.Person x) h at = inl (_, h.records n ∙ ap (plain_at m (around m) (added_to m n)) at)
is_there m p n (kind.Family x) h at = inl (_, h.records n ∙ ap (plain_at m (around m) (added_to m n)) at)
is_there m p n (kind.Citation x) h at = inl (_, h.records n ∙ ap (plain_at m (around m) (added_to m n)) at)
is_there m p n (kind.Event x) h at = inl (_, h.records n ∙ ap (plain_at m (around m) (added_to m n)) at)
is_there m p n (kind.Entry x) h at = inr (inr (inl (x, refl)))
is_there m p n (kind.Other x) h at = other_there m p n x (is_ours x.tag) refl at
    (h.records n ∙ ap (plain_at m (around m) (added_to m n)) at)

lines_or : (m : Records) (n : ℕ) (x : model.Place) (ts : Lines) → x.carried ≡ ts → get m n ≡ Some (kind.Place x)
    → (ts ≡ []) ⊎ IsAmong n (those carries_lines m)
lines_or m n x [] is at = inl refl
lines_or m n x (t ∷ ts) is at =
    inr (counted m (λ k. carries_lines (get m k)) n (kind.Place x) at (ap carries_lines at ∙ ap has_lines is))

pub lines_counted : (m : Records) (n : ℕ) (x : model.Place) → get m n ≡ Some (kind.Place x)
    → (x.carried ≡ []) ⊎ IsAmong n (those carries_lines m)
lines_counted m n x at = lines_or m n x x.carried refl at

some_names : (m : Records) (n : ℕ) (ks : List ℕ) → list_any (λ k. names_place n (get m k)) ks ≡ true
    → (k : ℕ) × (names_place n (get m k) ≡ true)
some_names m n [] e = absurd cc
some_names m n (k ∷ ks) e = (elim (names_place n (get m k)) as (λ b. names_place n (get m k) ≡ b
    → (b || list_any (λ j. names_place n (get m j)) ks) ≡ true → (j : ℕ) × (names_place n (get m j) ≡ true)) [
      | true ↦ λ is t. (k, is)
      | false ↦ λ is t. some_names m n ks t
    ]) refl e

pub name_counted : (m : Records) (n : ℕ) (x : model.Place) → get m n ≡ Some (kind.Place x)
    → ((k : ℕ) × (names_place n (get m k) ≡ true)) ⊎ IsAmong n (filter (is_unnamed m) (keys m))
name_counted m n x at = elim (is_named m n) as (λ b. is_named m n ≡ b
    → ((k : ℕ) × (names_place n (get m k) ≡ true)) ⊎ IsAmong n (filter (is_unnamed m) (keys m))) [
      | true ↦ λ is. inl (some_names m n (keys m) is)
      | false ↦ λ is. inr (counted m (is_unnamed m) n (kind.Place x) at
          (ap (λ o. is_place o && not (is_named m n)) at ∙ ap not is))
    ] refl

-- where no line is a sex none of them is left out
all_stay : (m : Records) (ts : Lines) → list_any is_sex ts ≡ false
    → without_second (list_of (kept_below m (forest_of ts))) ≡ list_of (kept_below m (forest_of ts))
all_stay m [] e = refl
all_stay m (node l f ∷ ts) e =
    let parts = or_parts (is_sex (node l f)) (list_any is_sex ts) e in
    elim (is_dropped m l) as (λ b. without_second (list_of (if b then kept_below m (forest_of ts)
    else more (node l (kept_below m f)) (kept_below m (forest_of ts))))
    ≡ list_of (if b then kept_below m (forest_of ts)
    else more (node l (kept_below m f)) (kept_below m (forest_of ts)))) [
      | true ↦ all_stay m ts parts.1
      | false ↦ rw parts.0 (ap (λ us. node l (kept_below m f) ∷ us) (all_stay m ts parts.1))
    ]

sex_or : (m : Records) (n : ℕ) (tail : Lines) (x : model.Person) (s : Option Sex) → x.sex ≡ s
    → get m n ≡ Some (kind.Person x)
    → ((without_sex s (kept m x.carried) ++ tail) ≡ (kept m x.carried ++ tail)) ⊎ IsAmong n (those has_second_sex m)
sex_or m n tail x None is at = inl refl
sex_or m n tail x (Some s) is at = elim (list_any is_sex x.carried) as (λ b. list_any is_sex x.carried ≡ b
    → ((without_second (kept m x.carried) ++ tail) ≡ (kept m x.carried ++ tail)) ⊎ IsAmong n (those has_second_sex m)) [
      | true ↦ λ found. inr (counted m (λ k. has_second_sex (get m k)) n (kind.Person x) at
          (ap has_second_sex at ∙ ap (λ o. carries_sex o x.carried) is ∙ found))
      | false ↦ λ apart. inl (ap (λ ts. ts ++ tail) (all_stay m x.carried apart))
    ] refl

pub sex_counted : (m : Records) (n : ℕ) (tail : Lines) (x : model.Person) → get m n ≡ Some (kind.Person x)
    → ((plain_person m tail x).carried ≡ kept m x.carried ++ tail) ⊎ IsAmong n (those has_second_sex m)
sex_counted m n tail x at = sex_or m n tail x x.sex refl at
