-- A place is said by its names, looked at one above the other, exactly where its path has a part that is not empty.
use Rattle.std.proofs.Common.{
  ◌≡◌,
  ℕ,
  suc,
  ◌<◌,
  refl,
  sym,
  ap,
  ◌∙◌,
  arith,
  Bool,
  true,
  false,
  not,
  ◌||◌,
  ◌==◌,
  nat_lt,
  List,
  [],
  ◌∷◌,
  ◌++◌,
  length,
}
use Rattle.std.specs.Prelude.{Ok, codes, if◌then◌else◌}
use Rattle.std.specs.List.{list_any, onto_first}
use Rattle.std.proofs.lemmas.List.Folds.{list_any-append}
use Rattle.std.proofs.lemmas.List.Splits.{slice_split-cons_yes, slice_split-cons_no, length-slice_split}
use Rattle.std.specs.FinMap.{get}
use Rattle.std.proofs.Math.Bool.{or_comm, or_assoc}
use Rattle.record_text.specs.declared.refusal.RefusalKind.TheVariants.{BadText}
use Rattle.record_kinds.specs.Model as model
use Rattle.archive_state.specs.Content.{Content, Records}
use Rattle.record_shapes.specs.Paths.{joined, from_word, backwards, trimmed, parts, has_part}
use Rattle.archive_state.specs.Paths.{IsPlaceAt, Climbs, HasPath}
use Rattle.commands.specs.Rows.{and_then}
use Rattle.command_checks.specs.Checks.{says_something, is_said, place_in, need, said_place_at}
use Rattle.command_checks.proofs.Said.{said_here, said_alone, said_above}
use Rattle.list_laws.proofs.Numbers.{is_less}

-- a byte that is no space
abbrev is_dark : ℕ → Bool
is_dark b = not (b == 32)

-- a byte that is neither comma nor space
abbrev is_told : ℕ → Bool
is_told b = not (b == 44 || b == 32)

-- ---- one part
dark_backwards : (t : List ℕ) → list_any is_dark (backwards t) ≡ list_any is_dark t
dark_backwards [] = refl
dark_backwards (b ∷ bs) =
    list_any-append is_dark (backwards bs) (b ∷ []) ∙ ap (λ x. x || list_any is_dark (b ∷ [])) (dark_backwards bs)
    ∙ or_comm (list_any is_dark bs) (list_any is_dark (b ∷ [])) ∙ or_assoc (is_dark b) false
    (list_any is_dark bs)

dark_from_word : (t : List ℕ) → list_any is_dark (from_word t) ≡ list_any is_dark t
dark_from_word [] = refl
dark_from_word (b ∷ bs) =
    elim (b == 32) as (λ x. (b == 32) ≡ x → list_any is_dark (if x then from_word bs else b ∷ bs)
    ≡ (not x || list_any is_dark bs)) [
      | true ↦ λ e. dark_from_word bs
      | false ↦ λ e. ap (λ x. not x || list_any is_dark bs) e
    ] refl

some_suc : (k : ℕ) → nat_lt 0 (suc k) ≡ true
some_suc k = is_less 0 (suc k) (omega arith)

some_append : (s t : List ℕ) → nat_lt 0 (length (s ++ t)) ≡ (nat_lt 0 (length s) || nat_lt 0 (length t))
some_append [] t = refl
some_append (x ∷ s) t = some_suc (length (s ++ t)) ∙ sym (ap (λ b. b || nat_lt 0 (length t)) (some_suc (length s)))

some_backwards : (t : List ℕ) → nat_lt 0 (length (backwards t)) ≡ nat_lt 0 (length t)
some_backwards [] = refl
some_backwards (b ∷ bs) = some_append (backwards bs) (b ∷ []) ∙ or_comm (nat_lt 0 (length (backwards bs)))
    (nat_lt 0 1) ∙ ap (λ x. x || nat_lt 0 (length (backwards bs))) (some_suc 0) ∙ sym (some_suc (length bs))

some_from_word : (t : List ℕ) → nat_lt 0 (length (from_word t)) ≡ list_any is_dark t
some_from_word [] = refl
some_from_word (b ∷ bs) =
    elim (b == 32) as (λ x. nat_lt 0 (length (if x then from_word bs else b ∷ bs)) ≡ (not x || list_any is_dark bs)) [
      | true ↦ some_from_word bs
      | false ↦ some_suc (length bs)
    ]

-- a part is more than spaces where something of it stands between the spaces at its ends
some_trimmed : (t : List ℕ) → nat_lt 0 (length (trimmed t)) ≡ list_any is_dark t
some_trimmed t =
    some_backwards (from_word (backwards (from_word t))) ∙ some_from_word (backwards (from_word t))
    ∙ dark_backwards (from_word t) ∙ dark_from_word t

-- ---- all parts
some_part : (ts : List (List ℕ)) → list_any (λ t. nat_lt 0 (length (trimmed t))) ts ≡ list_any (list_any is_dark) ts
some_part [] = refl
some_part (t ∷ ts) = ap (λ x. x || list_any (λ u. nat_lt 0 (length (trimmed u))) ts) (some_trimmed t)
    ∙ ap (λ x. list_any is_dark t || x) (some_part ts)

dark_first : (b : ℕ) (ts : List (List ℕ)) → 0 < length ts → list_any (list_any is_dark) (onto_first b ts)
    ≡ (is_dark b || list_any (list_any is_dark) ts)
dark_first b [] l = absurd (omega arith)
dark_first b (t ∷ ts) l = or_assoc (is_dark b) (list_any is_dark t) (list_any (list_any is_dark) ts)

-- what is neither comma nor space stands in a part
dark_parts : (t : List ℕ) → list_any (list_any is_dark) (parts t) ≡ says_something t
dark_parts [] = refl
dark_parts (b ∷ bs) =
    elim (b == 44) as (λ x. (b == 44) ≡ x → list_any (list_any is_dark) (parts (b ∷ bs))
    ≡ (not (x || b == 32) || says_something bs)) [
      | true ↦ λ e. ap (list_any (list_any is_dark)) (slice_split-cons_yes (λ c. c == 44) b bs e) ∙ dark_parts bs
      | false ↦ λ e.
          ap (list_any (list_any is_dark)) (slice_split-cons_no (λ c. c == 44) b bs e) ∙ dark_first b (parts bs)
          (omega (arith, length-slice_split (λ c. c == 44) bs)) ∙ ap (λ x. is_dark b || x) (dark_parts bs)
    ] refl

-- a text has a part that is not empty where it has a character that is neither comma nor space
pub part_is_said : (t : List ℕ) → has_part t ≡ says_something t
unfolding has_part
part_is_said t = some_part (parts t) ∙ dark_parts t

-- ---- the names of a path
-- what is put between two names says nothing
said_joined : (names : List (List ℕ)) → says_something (joined names) ≡ list_any says_something names
said_joined [] = refl
said_joined (name ∷ []) = sym (or_comm (says_something name) false)
said_joined (name ∷ (above ∷ names)) =
    list_any-append is_told name (codes ", " ++ joined (above ∷ names)) ∙ ap (λ x. says_something name || x)
    (said_joined (above ∷ names))

found_place : (m : Records) (n : ℕ) (p : model.Place) → IsPlaceAt m n p → place_in (get m n) ≡ Ok p
found_place m n p at = ap place_in at

-- where the first name does not settle it, those above do
said_first : (m : Records) (n : ℕ) (p : model.Place) (rest : Bool)
    → (says_something p.name ≡ false → is_said n m n p ≡ rest) → is_said n m n p ≡ (says_something p.name || rest)
said_first m n p rest h =
    elim (says_something p.name) as (λ x. says_something p.name ≡ x → is_said n m n p ≡ (x || rest)) [
      | true ↦ λ e. said_here n m n p e
      | false ↦ λ e. h e
    ] refl

-- climbing finds a name that says something where one stands among the names
climbs_said : (m : Records) (n : ℕ) (names : List (List ℕ)) (h : Climbs m n names) → (p : model.Place) × IsPlaceAt m n p
    × (is_said n m n p ≡ list_any says_something names)
climbs_said m n [] h = absurd h
climbs_said m n (name ∷ []) (p, at, named, none) =
    (p, at, said_first m n p false (λ e. said_alone m n p e none) ∙ ap (λ t. says_something t || false) named)
climbs_said m n (name ∷ (above ∷ names)) (p, at, named, (q, is, less, climbs)) =
    let up = climbs_said m q (above ∷ names) climbs in (
      p,
      at,
      said_first m n p (list_any says_something (above ∷ names))
          (λ e. said_above m n q p up.0 e is less (found_place m q up.0 up.1) ∙ up.2)
          ∙ ap (λ t. says_something t || list_any says_something (above ∷ names)) named,
    )

-- ---- the check
path_said : (m : Records) (n : ℕ) (path : List ℕ) → HasPath m n path → (p : model.Place) × IsPlaceAt m n p
    × (is_said n m n p ≡ has_part path)
path_said m n path (names, climbs, e) =
    let c = climbs_said m n names climbs in
    (c.0, c.1, c.2 ∙ sym (said_joined names) ∙ sym (part_is_said (joined names)) ∙ ap has_part e)

-- the check of a place that has a path is that of the path
pub said_by_path : (c : Content) (n : ℕ) (path : List ℕ) → HasPath c.records n path
    → said_place_at c n ≡ need (has_part path) BadText
said_by_path c n path h =
    let s = path_said c.records n path h in
    ap (λ found. and_then found (λ p. need (is_said n c.records n p) BadText)) (found_place c.records n s.0 s.1)
    ∙ ap (λ b. need b BadText) s.2

needed : (b : Bool) → need b BadText ≡ Ok tt → b ≡ true
needed true e = refl
needed false e = absurd cc

-- a place that is said has a path with a part that is not empty
pub said_has_part : (c : Content) (n : ℕ) → said_place_at c n ≡ Ok tt → (path : List ℕ) → HasPath c.records n path
    → has_part path ≡ true
said_has_part c n e path h = needed (has_part path) (sym (said_by_path c n path h) ∙ e)
