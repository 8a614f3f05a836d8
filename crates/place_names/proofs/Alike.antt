-- A record of no other kind is a register entry with all tags and one path, exactly if it is one where the number of
-- its source counts as a source and each other as a person, and they are a source and persons.
use Rattle.std.proofs.Common.{
  ◌≡◌,
  ℕ,
  List,
  [],
  ◌∷◌,
  Bool,
  true,
  false,
  ◌&&◌,
  length,
  nat_le,
  refl,
  sym,
  ap,
  ◌∙◌,
  arith,
}
use Rattle.std.specs.Prelude.{◌==◌, Option, Some, None, bytes_eq, codes, if◌then◌else◌}
use Rattle.std.specs.FinMap.{get}
use Rattle.std.specs.List.{list_all}
use Rattle.std.proofs.lemmas.Bool.Decides.{nat_tests}
use Rattle.stored_lines.specs.Line.{Lines}
use Rattle.stored_lines.specs.Tree.{forest_of}
use Rattle.stored_lines.specs.declared.carried.Value.{Value}
use Rattle.list_laws.proofs.Booleans.{true_not_false}
use Rattle.record_fields.specs.Bytes.{bytes_are}
use Rattle.record_fields.specs.Words.{entry_kind_of}
use Rattle.record_kinds.specs.Model as model
use Rattle.record_shapes.specs.Entries.{
  around,
  entry_if,
  entry_of,
  entry_on,
  has_its_lines,
  is_entry,
  is_said,
  names_person,
  same_forest,
}
use Rattle.record_shapes.specs.Forms.{is_some, is_text_value, text_in}
use Rattle.record_shapes.specs.Roles.{is_role_of}
use Rattle.record_shapes.specs.Shapes.{entry_lines}
use Rattle.archive_state.specs.Content.{Content}
use Rattle.archive_state.specs.Known.{known_of, tag_at}
use Rattle.place_names.specs.Known.{names_right, one_path}
use Rattle.place_names.specs.Naming.{known_as}

never : (a : Bool) → (a && false) ≡ false
never true = refl
never false = refl

-- ---- tests on each
module _ {A : Type 0} (p q r : A → Bool) (then_r : (a : A) → q a ≡ true → r a ≡ true) where
  one : (a b c l m n : Bool) → (b ≡ true → c ≡ true) → l ≡ (m && n) → ((a && b) && l) ≡ (((a && c) && m) && (b && n))
  one false b c l m n h e = refl
  one true false c l m n h e = sym (never (c && m))
  one true true c l m n h e = e ∙ ap (λ x. (x && m) && n) (sym (h refl))

  each_both : (xs : List A) → list_all (λ a. p a && q a) xs ≡ (list_all (λ a. p a && r a) xs && list_all q xs)
  each_both [] = refl
  each_both (x ∷ xs) =
      one (p x) (q x) (r x) (list_all (λ a. p a && q a) xs) (list_all (λ a. p a && r a) xs) (list_all q xs) (then_r x)
      (each_both xs)

-- ---- one entry
module _ (c : Content) (n : ℕ) (path : List ℕ) where
  two_tags : (t : List ℕ) → bytes_eq t (codes "SOUR") ≡ true → bytes_eq t (codes "INDI") ≡ true → ⊥
  two_tags t e f =
      let both : codes "SOUR" ≡ codes "INDI" = sym (bytes_are t (codes "SOUR") e) ∙ bytes_are t (codes "INDI") f in
      true_not_false (ap (λ x. bytes_eq x (codes "SOUR")) both)

  person_counts : (source k : ℕ) → bytes_eq (tag_at (get c.records source)) (codes "SOUR") ≡ true
      → bytes_eq (tag_at (get c.records k)) (codes "INDI") ≡ true
      → bytes_eq (if k == source then codes "SOUR" else codes "INDI") (codes "INDI") ≡ true
  person_counts source k e f = elim (k == source) as (λ b. (k == source) ≡ b
      → bytes_eq (if b then codes "SOUR" else codes "INDI") (codes "INDI") ≡ true) [
        | true ↦ λ t.
            let same : k ≡ source = grind (arith, nat_tests) in
            absurd (two_tags (tag_at (get c.records source)) e
            (ap (λ x. bytes_eq (tag_at (get c.records x)) (codes "INDI")) (sym same) ∙ f))
        | false ↦ λ t. refl
      ] refl

  link_counts : (source : ℕ) → bytes_eq (tag_at (get c.records source)) (codes "SOUR") ≡ true
      → (l : Option model.Link) → names_person (known_of c.records) l ≡ true → names_person (one_path n path source) l
      ≡ true
  link_counts source e None f = refl
  link_counts source e (Some l) f = person_counts source l.person e f

  shuffled : (said lo hi t o p : Bool) → t ≡ (o && p) → (said && (lo && (hi && t))) ≡ ((said && (lo && (hi && o))) && p)
  shuffled false lo hi t o p e = refl
  shuffled true false hi t o p e = refl
  shuffled true true false t o p e = refl
  shuffled true true true t o p e = e

  itself : (k : ℕ) → (k == k) ≡ true
  itself k = grind (arith, nat_tests)

  counts_itself : (k : ℕ) → bytes_eq (if k == k then codes "SOUR" else codes "INDI") (codes "SOUR") ≡ true
  counts_itself k = ap (λ b. bytes_eq (if b then codes "SOUR" else codes "INDI") (codes "SOUR")) (itself k)

  entry_alike : (e : model.Entry) → is_entry (known_as c n path) e
      ≡ (is_entry (one_path n path e.source) e && names_right c e)
  entry_alike e = elim source as (λ b. source ≡ b → (b && rest) ≡ ((own && ones) && (b && all))) [
    | true ↦ λ t.
        shuffled (is_said (known_as c n path) e.place) (nat_le 1 (length e.mentions)) (nat_le (length e.mentions) 100)
        (list_all (λ (m : model.Mention). is_role_of e.kind m.role && names_person (known_of c.records) m.link)
        e.mentions)
        (list_all (λ (m : model.Mention). is_role_of e.kind m.role && names_person (one_path n path e.source) m.link)
        e.mentions)
        all
        (each_both (λ (m : model.Mention). is_role_of e.kind m.role)
        (λ (m : model.Mention). names_person (known_of c.records) m.link)
        (λ (m : model.Mention). names_person (one_path n path e.source) m.link)
        (λ m h. link_counts e.source t m.link h) e.mentions)
        ∙ ap (λ b. (b && ones) && all) (sym (counts_itself e.source))
    | false ↦ λ t. sym (never (own && ones))
  ] refl
    where
      source : Bool
      source = bytes_eq (tag_at (get c.records e.source)) (codes "SOUR")

      own : Bool
      own = bytes_eq (if e.source == e.source then codes "SOUR" else codes "INDI") (codes "SOUR")

      all : Bool
      all = list_all (λ (m : model.Mention). names_person (known_of c.records) m.link) e.mentions

      ones : Bool
      ones = is_said (one_path n path e.source) e.place && (nat_le 1 (length e.mentions)
          && (nat_le (length e.mentions) 100 && list_all (λ (m : model.Mention). is_role_of e.kind m.role
          && names_person (one_path n path e.source) m.link) e.mentions))

      rest : Bool
      rest = is_said (known_as c n path) e.place && (nat_le 1 (length e.mentions) && (nat_le (length e.mentions) 100
          && list_all (λ (m : model.Mention). is_role_of e.kind m.role && names_person (known_as c n path) m.link)
          e.mentions))

  inner : (k t f a b o : Bool) → a ≡ (b && o) → (k && (t && (f && a))) ≡ ((k && (t && (f && b))) && o)
  inner false t f a b o e = refl
  inner true false f a b o e = refl
  inner true true false a b o e = refl
  inner true true true a b o e = e

  lines_alike : (v : Value) (ts : Lines) (e : model.Entry) → has_its_lines (known_as c n path) v ts e
      ≡ (has_its_lines (one_path n path e.source) v ts e && names_right c e)
  lines_alike v ts e =
      inner (is_some (entry_kind_of (text_in v))) (is_text_value v)
      (same_forest (forest_of ts) (forest_of (entry_lines (around (known_as c n path)) e)))
      (is_entry (known_as c n path) e) (is_entry (one_path n path e.source) e) (names_right c e) (entry_alike e)

  some_if : (b : Bool) (e : model.Entry) → is_some (entry_if b e) ≡ b
  some_if true e = refl
  some_if false e = refl

  its_entry : (b : Bool) (e x : model.Entry) → Some x ≡ entry_if b e → (x ≡ e) × (b ≡ true)
  its_entry true e x h = let same : x ≡ e = cc in (same, refl)
  its_entry false e x h = absurd cc

  none_if : (b : Bool) (e : model.Entry) → None ≡ entry_if b e → b ≡ false
  none_if true e h = absurd cc
  none_if false e h = refl

  -- no entry with one path is none with all that is known
  pub no_entry : (v : Value) (ts : Lines) → None ≡ entry_of (one_path n path (entry_on (text_in v) ts).source) v ts
      → false ≡ is_some (entry_of (known_as c n path) v ts)
  unfolding entry_of
  no_entry v ts h =
      let e : model.Entry = entry_on (text_in v) ts in
      sym (some_if (has_its_lines (known_as c n path) v ts e) e ∙ lines_alike v ts e
      ∙ ap (λ b. b && names_right c e) (none_if (has_its_lines (one_path n path e.source) v ts e) e h))

  -- and one with it is one if it names a source and persons
  pub an_entry : (v : Value) (ts : Lines) (x : model.Entry)
      → Some x ≡ entry_of (one_path n path (entry_on (text_in v) ts).source) v ts
      → names_right c x ≡ is_some (entry_of (known_as c n path) v ts)
  unfolding entry_of
  an_entry v ts x h =
      let e : model.Entry = entry_on (text_in v) ts in
      let it = its_entry (has_its_lines (one_path n path e.source) v ts e) e x h in
      ap (names_right c) it.0
      ∙ sym (some_if (has_its_lines (known_as c n path) v ts e) e ∙ lines_alike v ts e
      ∙ ap (λ b. b && names_right c e) it.1)
