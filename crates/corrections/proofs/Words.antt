-- A word is that of one field at the most, and each field without a place in a list is found by its word.
use Rattle.std.specs.Prelude.{
  ◌≡◌,
  ◌≢◌,
  ℕ,
  List,
  [],
  ◌∷◌,
  ◌++◌,
  true,
  false,
  cond,
  codes,
  decimal,
  Some,
  None,
  bytes_eq,
  refl,
}
use Rattle.std.proofs.Common.{ap, sym, ◌∙◌}
use Rattle.record_fields.specs.Bytes.{bytes_are}
use Rattle.record_fields.specs.Words.{found}
use Rattle.corrections.specs.Fields.{field_word, plain_field_of, plain_fields}
use Rattle.corrections.specs.declared.field.Field.{Field}
use Rattle.corrections.specs.declared.field.Field.TheVariants as field
use Rattle.corrections.specs.declared.field.TextField.TheVariants as text_field
use Rattle.corrections.specs.declared.position.Position.{Position}

found_is : (more : List Field) (text : List ℕ) (f : Field) → found field_word more text ≡ Some f → text ≡ field_word f
found_is [] text f e = absurd cc
found_is (g ∷ more) text f e =
    elim (bytes_eq text (field_word g)) as (λ v. bytes_eq text (field_word g) ≡ v
    → cond v (Some g) (found field_word more text) ≡ Some f → text ≡ field_word f) [
      | true ↦ λ z h. bytes_are text (field_word g) z ∙ (let same : g ≡ f = cc in ap field_word same)
      | false ↦ λ z h. found_is more text f h
    ] refl e

-- the word of the field that was found
pub plain_word : (text : List ℕ) (f : Field) → Some f ≡ plain_field_of text → text ≡ field_word f
plain_word text f e = found_is plain_fields text f (sym e)

-- none of the fields has a word that is no plain one, and none with a place in a list
pub no_word : (text : List ℕ) → None ≡ plain_field_of text → ((p : Position)
    → text ≢ codes "name " ++ decimal p.number)
    → ((p : Position) → text ≢ codes "role " ++ decimal p.number) → (f : Field) → text ≢ field_word f
no_word text e a b field.Sex h = let some : plain_field_of text ≡ Some field.Sex = ap plain_field_of h in absurd cc
no_word text e a b field.Tag h = let some : plain_field_of text ≡ Some field.Tag = ap plain_field_of h in absurd cc
no_word text e a b field.Date h = let some : plain_field_of text ≡ Some field.Date = ap plain_field_of h in absurd cc
no_word text e a b field.Place h = let some : plain_field_of text
    ≡ Some field.Place = ap plain_field_of h in absurd cc
no_word text e a b field.Repository h = let some : plain_field_of text
    ≡ Some field.Repository = ap plain_field_of h in absurd cc
no_word text e a b field.Quality h = let some : plain_field_of text
    ≡ Some field.Quality = ap plain_field_of h in absurd cc
no_word text e a b field.Item h = let some : plain_field_of text ≡ Some field.Item = ap plain_field_of h in absurd cc
no_word text e a b (field.Text text_field.Value) h =
    let some : plain_field_of text ≡ Some (field.Text text_field.Value) = ap plain_field_of h in absurd cc
no_word text e a b (field.Text text_field.Name) h =
    let some : plain_field_of text ≡ Some (field.Text text_field.Name) = ap plain_field_of h in absurd cc
no_word text e a b (field.Text text_field.Title) h =
    let some : plain_field_of text ≡ Some (field.Text text_field.Title) = ap plain_field_of h in absurd cc
no_word text e a b (field.Text text_field.Author) h =
    let some : plain_field_of text ≡ Some (field.Text text_field.Author) = ap plain_field_of h in absurd cc
no_word text e a b (field.Text text_field.Publisher) h =
    let some : plain_field_of text ≡ Some (field.Text text_field.Publisher) = ap plain_field_of h in absurd cc
no_word text e a b (field.Text text_field.CallNumber) h =
    let some : plain_field_of text ≡ Some (field.Text text_field.CallNumber) = ap plain_field_of h in absurd cc
no_word text e a b (field.Text text_field.Page) h =
    let some : plain_field_of text ≡ Some (field.Text text_field.Page) = ap plain_field_of h in absurd cc
no_word text e a b (field.Text text_field.Text) h =
    let some : plain_field_of text ≡ Some (field.Text text_field.Text) = ap plain_field_of h in absurd cc
no_word text e a b (field.Text (text_field.NameAt k)) h = a k h
no_word text e a b (field.Text (text_field.RoleAt k)) h = b k h
