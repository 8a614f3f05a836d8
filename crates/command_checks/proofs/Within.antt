-- What the limits leave for the places above a place, and what its path measures.
use Rattle.std.proofs.Common.{
  ◌≡◌,
  ℕ,
  ◌+◌,
  ◌-◌,
  ◌≤◌,
  ◌<◌,
  List,
  length,
  true,
  false,
  nat_le,
  nat_lt,
  refl,
  sym,
  ap,
  ◌∙◌,
  arith,
}
use Rattle.std.specs.Prelude.{Option, Some, None, option_map, if◌then◌else◌, ◌&&◌}
use Rattle.std.proofs.lemmas.Bool.Decides.{nat_tests}
use Rattle.std.specs.FinMap.{get}
use Rattle.std.proofs.lemmas.Bool.{lt-ltb}
use Rattle.record_kinds.specs.Model as model
use Rattle.record_kinds.specs.declared.record.Record.{Record}
use Rattle.record_kinds.specs.declared.record.Record.TheVariants as kind
use Rattle.record_shapes.specs.Paths.{parts, is_within_limits}
use Rattle.record_shapes.specs.Fields.{path_below}
use Rattle.archive_state.specs.Content.{Records}
use Rattle.archive_state.specs.Known.{path_under, path_with, path_of}
use Rattle.command_checks.specs.Fits.{new_path, is_fit, is_within, measured}
use Rattle.command_checks.specs.declared.paths.Measure.{Measure}
use Rattle.archive_state.proofs.PathsAlike.{path_there}
use Rattle.list_laws.proofs.Numbers.{not_less}
use Rattle.record_shapes.proofs.PathTexts.{bytes_below, parts_below}

-- ---- a path below another

left_for : (p q n m k b : ℕ) → p ≤ k → n + 2 ≤ b → (nat_le (p + q) k && nat_le (n + (2 + m)) b)
    ≡ (nat_le q (k - p) && nat_le m (b - n - 2))
left_for p q n m k b h i = grind (arith, nat_tests)

over_one : (p q n m k b : ℕ) → k < p → (nat_le (p + q) k && nat_le (n + (2 + m)) b) ≡ false
over_one p q n m k b h = grind (arith, nat_tests)

over_two : (p q n m k b : ℕ) → b < n + 2 → (nat_le (p + q) k && nat_le (n + (2 + m)) b) ≡ false
over_two p q n m k b h = grind (arith, nat_tests)

within_measure : (k b : ℕ) (name above : List ℕ) → is_within k b (Some (path_below name above))
    ≡ (nat_le (length (parts name) + length (parts above)) k && nat_le (length name + (2 + length above)) b)
within_measure k b name above = λ i. nat_le (parts_below name above i) k && nat_le (bytes_below name above i) b

pub below_within : (k b : ℕ) (name : List ℕ) (o : Option (List ℕ)) → length (parts name) ≤ k → length name + 2 ≤ b
    → is_within k b (option_map (path_below name) o) ≡ is_within (k - length (parts name)) (b - length name - 2) o
below_within k b name None h i = refl
below_within k b name (Some above) h i =
    within_measure k b name above ∙ left_for (length (parts name)) (length (parts above)) (length name)
    (length above) k b h i

pub too_many : (k b : ℕ) (name : List ℕ) (o : Option (List ℕ)) → k < length (parts name)
    → is_within k b (option_map (path_below name) o) ≡ false
too_many k b name None h = refl
too_many k b name (Some above) h = within_measure k b name above ∙ over_one (length (parts name)) (length (parts above))
    (length name) (length above) k b h

pub too_long : (k b : ℕ) (name : List ℕ) (o : Option (List ℕ)) → b < length name + 2
    → is_within k b (option_map (path_below name) o) ≡ false
too_long k b name None h = refl
too_long k b name (Some above) h = within_measure k b name above ∙ over_two (length (parts name)) (length (parts above))
    (length name) (length above) k b h

-- ---- what is measured
found_place : (o : Option Record) (me : Measure) → measured o ≡ Some me
    → (p : model.Place) × (o ≡ Some (kind.Place p))
    × (me ≡ record { parts = length (parts p.name); bytes = length p.name; parent = p.parent })
found_place None me e = absurd cc
found_place (Some (kind.Place p)) me e = (p, refl, cc)
found_place (Some (kind.Repo p)) me e = absurd cc
found_place (Some (kind.Source p)) me e = absurd cc
found_place (Some (kind.Person p)) me e = absurd cc
found_place (Some (kind.Family p)) me e = absurd cc
found_place (Some (kind.Citation p)) me e = absurd cc
found_place (Some (kind.Event p)) me e = absurd cc
found_place (Some (kind.Entry p)) me e = absurd cc
found_place (Some (kind.Other p)) me e = absurd cc

no_path : (n : ℕ) (above : ℕ → Option (List ℕ)) (o : Option Record) → measured o ≡ None → path_with n above o ≡ None
no_path n above None e = refl
no_path n above (Some (kind.Place p)) e = absurd cc
no_path n above (Some (kind.Repo p)) e = refl
no_path n above (Some (kind.Source p)) e = refl
no_path n above (Some (kind.Person p)) e = refl
no_path n above (Some (kind.Family p)) e = refl
no_path n above (Some (kind.Citation p)) e = refl
no_path n above (Some (kind.Event p)) e = refl
no_path n above (Some (kind.Entry p)) e = refl
no_path n above (Some (kind.Other p)) e = refl

-- the name of a place that measures so, and its path
path_of_measured : (m : Records) (n : ℕ) (me : Measure) → measured (get m n) ≡ Some me
    → (name : List ℕ) × (length (parts name) ≡ me.parts) × (length name ≡ me.bytes)
    × (path_of m n ≡ path_under n (path_of m) name me.parent)
path_of_measured m n me e =
    let f = found_place (get m n) me e in
    let p : model.Place = f.0 in (
      p.name,
      sym (ap (λ (x : Measure). x.parts) f.2),
      sym (ap (λ (x : Measure). x.bytes) f.2),
      path_there m n ∙ ap (path_with n (path_of m)) f.1 ∙ ap (path_under n (path_of m) p.name)
          (sym (ap (λ (x : Measure). x.parent) f.2)),
    )

-- ---- case by case
pub within_no_place : (k b : ℕ) (m : Records) (n : ℕ) → measured (get m n) ≡ None → is_within k b (path_of m n) ≡ false
within_no_place k b m n e = ap (is_within k b) (path_there m n ∙ no_path n (path_of m) (get m n) e)

one_over : (p n k b : ℕ) → k < p → (nat_le p k && nat_le n b) ≡ false
one_over p n k b h = grind (arith, nat_tests)

other_over : (p n k b : ℕ) → b < n → (nat_le p k && nat_le n b) ≡ false
other_over p n k b h = grind (arith, nat_tests)

both_within : (p n k b : ℕ) → p ≤ k → n ≤ b → (nat_le p k && nat_le n b) ≡ true
both_within p n k b h i = grind (arith, nat_tests)

below_false : (k b n : ℕ) (above : ℕ → Option (List ℕ)) (name : List ℕ) (q : ℕ)
    → ((o : Option (List ℕ)) → is_within k b (option_map (path_below name) o) ≡ false)
    → is_within k b (path_under n above name (Some q)) ≡ false
below_false k b n above name q h =
    elim (nat_lt q n) as (λ x. is_within k b (if x then option_map (path_below name) (above q) else None) ≡ false) [
      | true ↦ h (above q)
      | false ↦ refl
    ]

many : (k b n : ℕ) (above : ℕ → Option (List ℕ)) (name : List ℕ) (parent : Option ℕ) → k < length (parts name)
    → is_within k b (path_under n above name parent) ≡ false
many k b n above name None h = one_over (length (parts name)) (length name) k b h
many k b n above name (Some q) h = below_false k b n above name q (λ o. too_many k b name o h)

long : (k b n : ℕ) (above : ℕ → Option (List ℕ)) (name : List ℕ) (parent : Option ℕ) → b < length name
    → is_within k b (path_under n above name parent) ≡ false
long k b n above name None h = other_over (length (parts name)) (length name) k b h
long k b n above name (Some q) h = below_false k b n above name q (λ o. too_long k b name o (omega arith))

pub within_many : (k b : ℕ) (m : Records) (n : ℕ) (me : Measure) → measured (get m n) ≡ Some me → k < me.parts
    → is_within k b (path_of m n) ≡ false
within_many k b m n me e h =
    let f = path_of_measured m n me e in
    let own : length (parts f.0) ≡ me.parts = f.1 in
    ap (is_within k b) f.3 ∙ many k b n (path_of m) f.0 me.parent (omega arith)

pub within_long : (k b : ℕ) (m : Records) (n : ℕ) (me : Measure) → measured (get m n) ≡ Some me → b < me.bytes
    → is_within k b (path_of m n) ≡ false
within_long k b m n me e h =
    let f = path_of_measured m n me e in
    let own : length f.0 ≡ me.bytes = f.2 in
    ap (is_within k b) f.3 ∙ long k b n (path_of m) f.0 me.parent (omega arith)

pub within_alone : (k b : ℕ) (m : Records) (n : ℕ) (me : Measure) → measured (get m n) ≡ Some me → me.parts ≤ k
    → me.bytes ≤ b → me.parent ≡ None → is_within k b (path_of m n) ≡ true
within_alone k b m n me e h i none =
    let f = path_of_measured m n me e in
    let own : length (parts f.0) ≡ me.parts = f.1 in
    let bytes : length f.0 ≡ me.bytes = f.2 in
    ap (is_within k b) (f.3 ∙ ap (path_under n (path_of m) f.0) none) ∙ both_within (length (parts f.0))
    (length f.0) k b (omega arith) (omega arith)

pub within_not_below : (k b : ℕ) (m : Records) (n q : ℕ) (me : Measure) → measured (get m n) ≡ Some me
    → me.parent ≡ Some q → n ≤ q → is_within k b (path_of m n) ≡ false
within_not_below k b m n q me e is h =
    let f = path_of_measured m n me e in
    ap (is_within k b) (f.3 ∙ ap (path_under n (path_of m) f.0) is
    ∙ ap (λ x. if x then option_map (path_below f.0) (path_of m q) else None) (not_less q n h))

-- the path below another is as long as the two
under_less : (m : Records) (n q : ℕ) (name : List ℕ) → q < n → path_under n (path_of m) name (Some q)
    ≡ option_map (path_below name) (path_of m q)
under_less m n q name h = ap (λ x. if x then option_map (path_below name) (path_of m q) else None) (lt-ltb q n h)

pub within_no_room : (k b : ℕ) (m : Records) (n q : ℕ) (me : Measure) → measured (get m n) ≡ Some me
    → me.parent ≡ Some q → q < n → b < me.bytes + 2 → is_within k b (path_of m n) ≡ false
within_no_room k b m n q me e is less h =
    let f = path_of_measured m n me e in
    let bytes : length f.0 ≡ me.bytes = f.2 in
    ap (is_within k b) (f.3 ∙ ap (path_under n (path_of m) f.0) is ∙ under_less m n q f.0 less)
    ∙ too_long k b f.0 (path_of m q) (omega arith)

pub within_above : (k b : ℕ) (m : Records) (n q : ℕ) (me : Measure) → measured (get m n) ≡ Some me → me.parent ≡ Some q
    → q < n → me.parts ≤ k → me.bytes + 2 ≤ b
    → is_within k b (path_of m n) ≡ is_within (k - me.parts) (b - me.bytes - 2) (path_of m q)
within_above k b m n q me e is less h i =
    let f = path_of_measured m n me e in
    let own : length (parts f.0) ≡ me.parts = f.1 in
    let bytes : length f.0 ≡ me.bytes = f.2 in
    ap (is_within k b) (f.3 ∙ ap (path_under n (path_of m) f.0) is ∙ under_less m n q f.0 less)
    ∙ below_within k b f.0 (path_of m q) (omega arith) (omega arith)
    ∙ (λ j. is_within (k - own j) (b - bytes j - 2) (path_of m q))

-- ---- a new place
fit_is : (o : Option (List ℕ)) → is_fit o ≡ is_within 32 4096 o
unfolding is_within_limits
fit_is None = refl
fit_is (Some path) = refl

pub fit_many : (m : Records) (name : List ℕ) (parent : Option ℕ) → 32 < length (parts name)
    → is_fit (new_path m name parent) ≡ false
fit_many m name None h = fit_is (Some name) ∙ one_over (length (parts name)) (length name) 32 4096 h
fit_many m name (Some q) h = fit_is (new_path m name (Some q)) ∙ too_many 32 4096 name (path_of m q) h

pub fit_long : (m : Records) (name : List ℕ) (parent : Option ℕ) → 4096 < length name
    → is_fit (new_path m name parent) ≡ false
fit_long m name None h = fit_is (Some name) ∙ other_over (length (parts name)) (length name) 32 4096 h
fit_long m name (Some q) h = fit_is (new_path m name (Some q)) ∙ too_long 32 4096 name (path_of m q) (omega arith)

pub fit_alone : (m : Records) (name : List ℕ) (parent : Option ℕ) → length (parts name) ≤ 32 → length name ≤ 4096
    → parent ≡ None → is_fit (new_path m name parent) ≡ true
fit_alone m name parent h i none = ap (λ p. is_fit (new_path m name p)) none ∙ fit_is (Some name)
    ∙ both_within (length (parts name)) (length name) 32 4096 h i

pub fit_no_room : (m : Records) (name : List ℕ) (parent : Option ℕ) (q : ℕ) → parent ≡ Some q → 4096 < length name + 2
    → is_fit (new_path m name parent) ≡ false
fit_no_room m name parent q is h = ap (λ p. is_fit (new_path m name p)) is ∙ fit_is (new_path m name (Some q))
    ∙ too_long 32 4096 name (path_of m q) h

pub fit_above : (m : Records) (name : List ℕ) (parent : Option ℕ) (q : ℕ) → parent ≡ Some q → length (parts name) ≤ 32
    → length name + 2 ≤ 4096
    → is_fit (new_path m name parent) ≡ is_within (32 - length (parts name)) (4096 - length name - 2) (path_of m q)
fit_above m name parent q is h i = ap (λ p. is_fit (new_path m name p)) is ∙ fit_is (new_path m name (Some q))
    ∙ below_within 32 4096 name (path_of m q) h i
