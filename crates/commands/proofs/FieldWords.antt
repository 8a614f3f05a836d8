-- The field of a word, by the words that fields have.
use Rattle.std.specs.Prelude.{
  ◌≡◌,
  ◌≢◌,
  ◌≤◌,
  ◌<◌,
  ◌^◌,
  ◌&&◌,
  ◌==◌,
  ◌++◌,
  nat_le,
  ℕ,
  List,
  [],
  ◌∷◌,
  Bool,
  true,
  false,
  cond,
  Option,
  Some,
  None,
  option_map,
  MatchOption,
  bytes_eq,
  codes,
  decimal,
  refl,
}
use Rattle.std.specs.Str.Parse.{digits_value}
use Rattle.std.proofs.Common.{ap, sym, ◌∙◌, arith, subst, eqb}
use Rattle.std.proofs.Props.{props}
use Rattle.std.proofs.lemmas.Bool.{eqb-true}
use Rattle.std.proofs.lemmas.Bool.Decides.{nat_tests}
use Rattle.std.proofs.lemmas.Fmt.{decimal_is_IsNumeral}
use Rattle.record_fields.specs.Bytes.{bytes_are, bytes_same}
use Rattle.record_fields.specs.Words.{found}
use Rattle.corrections.specs.Fields.{field_word, plain_field_of, plain_fields}
use Rattle.corrections.specs.declared.field.Field.{Field}
use Rattle.corrections.specs.declared.field.Field.TheVariants as field
use Rattle.corrections.specs.declared.field.TextField.{TextField}
use Rattle.corrections.specs.declared.field.TextField.TheVariants as text_field
use Rattle.corrections.specs.declared.position.Position.{Position}
use Rattle.commands.specs.FieldWords.{
  after_front,
  field_of,
  is_position,
  or_else,
  placed,
  position_if,
  position_of,
  position_range,
}

-- ---- places in a list
range-prop : (n : ℕ) → IsProp ((1 ≤ n) × (n ≤ 4294967295))
range-prop n = hlevel props

same-position : (a b : Position) → a.number ≡ b.number → a ≡ b
same-position a b e =
    let position : (n : ℕ) → (1 ≤ n) × (n ≤ 4294967295) → Position = λ n h. record { number = n; in_range = h } in
    subst (λ (n : ℕ). (h : (1 ≤ n) × (n ≤ 4294967295)) → a ≡ position n h) e
    (λ h. ap (position a.number) (range-prop a.number a.in_range h)) b.in_range

small : (n : ℕ) → n ≤ 4294967295 → n < 2 ^ 64
small n h = omega arith

value : (p : Position) → digits_value 10 (decimal p.number) ≡ p.number
value p = (decimal_is_IsNumeral p.number (small p.number p.in_range.1)).1

in-range : (n : ℕ) (b : Bool) → 1 ≤ n → n ≤ 4294967295 → b ≡ true → (nat_le 1 n && (nat_le n 4294967295 && b)) ≡ true
in-range n b l h e = grind (arith, nat_tests)

last-true : (n : ℕ) (b : Bool) → (nat_le 1 n && (nat_le n 4294967295 && b)) ≡ true → b ≡ true
last-true n b e = grind (arith, nat_tests)

is-position : (p : Position) → is_position p.number (decimal p.number) ≡ true
is-position p = in-range p.number (bytes_eq (decimal p.number) (decimal p.number)) p.in_range.0 p.in_range.1
    (bytes_same (decimal p.number) (decimal p.number) refl)

position-if : (p : Position) (n : ℕ) (b : Bool) (e : is_position n (decimal p.number) ≡ b) → n ≡ p.number
    → position_if n (decimal p.number) b e ≡ Some p
position-if p n true e h =
    ap Some (same-position (record {
      number = n;
      in_range = position_range n (bytes_eq (decimal n) (decimal p.number)) e;
    }) p h)
position-if p n false e h = let good : is_position n (decimal p.number) ≡ true = subst
    (λ (m : ℕ). is_position m (decimal p.number) ≡ true) (sym h) (is-position p) in absurd cc

position-back : (p : Position) → position_of (decimal p.number) ≡ Some p
unfolding position_of
position-back p = position-if p (digits_value 10 (decimal p.number))
    (is_position (digits_value 10 (decimal p.number)) (decimal p.number)) refl (value p)

position-spelt : (n : ℕ) (words : List ℕ) (b : Bool) (e : is_position n words ≡ b) (p : Position)
    → position_if n words b e ≡ Some p → words ≡ decimal p.number
position-spelt n words true e p h =
    let spelt : words ≡ decimal n = sym (bytes_are (decimal n) words (last-true n (bytes_eq (decimal n) words) e)) in
    let same : record { number = n; in_range = position_range n (bytes_eq (decimal n) words) e } ≡ p = cc in
    spelt ∙ ap (λ (q : Position). decimal q.number) same
position-spelt n words false e p h = absurd cc

position-is : (words : List ℕ) (p : Position) → position_of words ≡ Some p → words ≡ decimal p.number
unfolding position_of
position-is words p h =
    position-spelt (digits_value 10 words) words (is_position (digits_value 10 words) words) refl p h

-- ---- what stands after a front
after-is : (front word words : List ℕ) → after_front front word ≡ Some words → word ≡ front ++ words
after-is [] word words e = cc
after-is (a ∷ front) [] words e = absurd cc
after-is (a ∷ front) (b ∷ word) words e =
    elim (eqb a b) as (λ v. eqb a b ≡ v → cond v (after_front front word) None ≡ Some words
    → b ∷ word ≡ a ∷ (front ++ words)) [
      | true ↦ λ t h. ap (λ (x : ℕ). x ∷ word) (sym (eqb-true a b t))
          ∙ ap (λ (xs : List ℕ). a ∷ xs) (after-is front word words h)
      | false ↦ λ t h. absurd cc
    ] refl e

-- a field with a place in a list has its word
placed-is : (make : Position → TextField) (o : Option (List ℕ)) (f : Field) → placed make o ≡ Some f
    → (words : List ℕ) × (p : Position) × (o ≡ Some words) × (words ≡ decimal p.number) × (field.Text (make p) ≡ f)
placed-is make None f e = absurd cc
placed-is make (Some words) f e = by-position (position_of words) refl e
  where
    by-position : (o : Option Position) → position_of words ≡ o → option_map (λ p. field.Text (make p)) o ≡ Some f
        → (rest : List ℕ) × (p : Position) × (Some words ≡ Some rest) × (rest ≡ decimal p.number)
        × (field.Text (make p) ≡ f)
    by-position None is h = absurd cc
    by-position (Some p) is h = (words, p, refl, position-is words p is, cc)

-- ---- the words of fields
found-is : (more : List Field) (word : List ℕ) (f : Field) → found field_word more word ≡ Some f → word ≡ field_word f
found-is [] word f e = absurd cc
found-is (g ∷ more) word f e =
    elim (bytes_eq word (field_word g)) as (λ v. bytes_eq word (field_word g) ≡ v
    → cond v (Some g) (found field_word more word) ≡ Some f → word ≡ field_word f) [
      | true ↦ λ z h. bytes_are word (field_word g) z ∙ (let same : g ≡ f = cc in ap field_word same)
      | false ↦ λ z h. found-is more word f h
    ] refl e

-- each field is found by its word
placed-back : (make : Position → TextField) (p : Position)
    → placed make (Some (decimal p.number)) ≡ Some (field.Text (make p))
placed-back make p = ap (option_map (λ q. field.Text (make q))) (position-back p)

pub field_back : (f : Field) → field_of (field_word f) ≡ Some f
unfolding field_of
field_back field.Sex = refl
field_back field.Tag = refl
field_back field.Date = refl
field_back field.Place = refl
field_back field.Repository = refl
field_back field.Quality = refl
field_back field.Item = refl
field_back (field.Text text_field.Value) = refl
field_back (field.Text text_field.Name) = refl
field_back (field.Text text_field.Title) = refl
field_back (field.Text text_field.Author) = refl
field_back (field.Text text_field.Publisher) = refl
field_back (field.Text text_field.CallNumber) = refl
field_back (field.Text text_field.Page) = refl
field_back (field.Text text_field.Text) = refl
field_back (field.Text (text_field.NameAt p)) =
    ap (λ (o : Option Field). or_else o None) (placed-back (λ q. text_field.NameAt q) p)
field_back (field.Text (text_field.RoleAt p)) = placed-back (λ q. text_field.RoleAt q) p

-- a word for which a field is found is the word of that field
by-front : (front word : List ℕ) (make : Position → TextField) (f : Field)
    → ((p : Position) → field_word (field.Text (make p)) ≡ front ++ decimal p.number)
    → placed make (after_front front word) ≡ Some f → word ≡ field_word f
by-front front word make f spelt e =
    let is = placed-is make (after_front front word) f e in
    after-is front word is.0 is.2 ∙ ap (λ (w : List ℕ). front ++ w) is.3 ∙ sym (spelt is.1) ∙ ap field_word is.4

either : (word : List ℕ) (f : Field) (a b : Option Field) → (a ≡ Some f → word ≡ field_word f)
    → (b ≡ Some f → word ≡ field_word f) → or_else a b ≡ Some f → word ≡ field_word f
either word f None b h k e = k e
either word f (Some g) b h k e = h e

field-is : (word : List ℕ) (f : Field) → field_of word ≡ Some f → word ≡ field_word f
unfolding field_of
field-is word f e =
    either word f (plain_field_of word)
    (or_else (placed (λ p. text_field.NameAt p) (after_front (codes "name ") word))
    (placed (λ p. text_field.RoleAt p) (after_front (codes "role ") word))) (found-is plain_fields word f)
    (either word f (placed (λ p. text_field.NameAt p) (after_front (codes "name ") word))
    (placed (λ p. text_field.RoleAt p) (after_front (codes "role ") word))
    (by-front (codes "name ") word (λ p. text_field.NameAt p) f (λ p. refl))
    (by-front (codes "role ") word (λ p. text_field.RoleAt p) f (λ p. refl))) e

-- what the code finds is that
pub field_read : (word : List ℕ) (r : Option Field) → MatchOption r ((f : Field) → word ≢ field_word f)
    (λ f. word ≡ field_word f) → r ≡ field_of word
field_read word (Some f) is = sym (field_back f) ∙ ap field_of (sym is)
field_read word None lacks = none (field_of word) refl
  where
    none : (o : Option Field) → field_of word ≡ o → None ≡ o
    none None e = refl
    none (Some f) e = absurd (lacks f (field-is word f e))
