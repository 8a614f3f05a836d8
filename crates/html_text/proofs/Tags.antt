-- What stands in the tags of a page, and what is left without them.
use Rattle.std.proofs.Common.{
  ◌≡◌,
  refl,
  ℕ,
  Bool,
  true,
  false,
  true≢false,
  cond,
  not,
  nat_eq,
  ◌||◌,
  ◌&&◌,
  List,
  [],
  ◌∷◌,
  ◌++◌,
  codes,
  flat_map,
  ap,
  sym,
  ◌∙◌,
}
use Rattle.std.specs.List.{list_all}
use Rattle.std.specs.Str.{chars}
use Rattle.std.proofs.lemmas.List.{append_assoc}
use Rattle.std.proofs.lemmas.List.Folds.{list_all-append}
use Rattle.std.proofs.lemmas.List.Concat.{flat_map-cons}
use Rattle.html_text.specs.declared.names.Element.{Element}
use Rattle.html_text.specs.declared.names.Element.TheVariants as element
use Rattle.html_text.specs.declared.names.VoidElement.{VoidElement}
use Rattle.html_text.specs.declared.names.VoidElement.TheVariants as void
use Rattle.html_text.specs.declared.names.Name.{Name}
use Rattle.html_text.specs.declared.names.Name.TheVariants as name
use Rattle.html_text.specs.Model.{Attribute}
use Rattle.html_text.specs.Names.{element_word, name_word, void_word}
use Rattle.html_text.specs.Escapes.{escaped}
use Rattle.html_text.specs.Marks.{is_no_mark}
use Rattle.html_text.specs.Outside.{left, words_of}
use Rattle.html_text.specs.Pages.{Piece, Start, Void, End, Words, attribute_text, piece_text, tag}
use Rattle.html_text.proofs.NoMarks.{both, whole}

-- ---- no `>` in a tag

abbrev stays : ℕ → Bool
stays c = not (nat_eq c 62)

element_stays : (e : Element) → list_all stays (element_word e) ≡ true
element_stays element.A = refl
element_stays element.Body = refl
element_stays element.Button = refl
element_stays element.Dd = refl
element_stays element.Dl = refl
element_stays element.Dt = refl
element_stays element.Footer = refl
element_stays element.Form = refl
element_stays element.H1 = refl
element_stays element.H2 = refl
element_stays element.Head = refl
element_stays element.Header = refl
element_stays element.Html = refl
element_stays element.Label = refl
element_stays element.Li = refl
element_stays element.Main = refl
element_stays element.Nav = refl
element_stays element.Ol = refl
element_stays element.P = refl
element_stays element.Section = refl
element_stays element.Span = refl
element_stays element.Table = refl
element_stays element.Tbody = refl
element_stays element.Td = refl
element_stays element.Th = refl
element_stays element.Thead = refl
element_stays element.Title = refl
element_stays element.Tr = refl
element_stays element.Ul = refl

void_stays : (e : VoidElement) → list_all stays (void_word e) ≡ true
void_stays void.Br = refl
void_stays void.Input = refl
void_stays void.Link = refl
void_stays void.Meta = refl

name_stays : (n : Name) → list_all stays (name_word n) ≡ true
name_stays name.Action = refl
name_stays name.AriaCurrent = refl
name_stays name.AriaLabel = refl
name_stays name.Charset = refl
name_stays name.Class = refl
name_stays name.Content = refl
name_stays name.For = refl
name_stays name.Href = refl
name_stays name.Id = refl
name_stays name.Lang = refl
name_stays name.Method = refl
name_stays name.Name = refl
name_stays name.Rel = refl
name_stays name.Role = refl
name_stays name.Scope = refl
name_stays name.Type = refl
name_stays name.Value = refl

first_of_both : (a b : Bool) → (a && b) ≡ true → a ≡ true
first_of_both true b e = refl
first_of_both false b e = e

second_of_both : (a b : Bool) → (a && b) ≡ true → b ≡ true
second_of_both true b e = e
second_of_both false b e = absurd (true≢false (sym e))

no_second : (a b c d : Bool) → not (a || b || c || d) ≡ true → not b ≡ true
no_second true b c d e = absurd (true≢false (sym e))
no_second false true c d e = e
no_second false false c d e = refl

no_first : (a b c d : Bool) → not (a || b || c || d) ≡ true → a ≡ false
no_first true b c d e = absurd (true≢false (sym e))
no_first false b c d e = refl

unmarked : (xs : List ℕ) → list_all is_no_mark xs ≡ true → list_all stays xs ≡ true
unmarked [] h = refl
unmarked (c ∷ cs) h = both (stays c) (list_all stays cs)
    (no_second (nat_eq c 60) (nat_eq c 62) (nat_eq c 34) (nat_eq c 39)
    (first_of_both (is_no_mark c) (list_all is_no_mark cs) h))
    (unmarked cs (second_of_both (is_no_mark c) (list_all is_no_mark cs) h))

joined : (xs ys : List ℕ) → list_all stays xs ≡ true → list_all stays ys ≡ true → list_all stays (xs ++ ys) ≡ true
joined xs ys h k = list_all-append stays xs ys ∙ both (list_all stays xs) (list_all stays ys) h k

attribute_stays : (a : Attribute) → list_all stays (attribute_text a) ≡ true
attribute_stays a = joined (codes " " ++ name_word a.name ++ codes "=\"" ++ escaped a.value) (codes "\"")
    (joined (codes " " ++ name_word a.name ++ codes "=\"") (escaped a.value)
    (joined (codes " " ++ name_word a.name) (codes "=\"")
    (joined (codes " ") (name_word a.name) refl (name_stays a.name)) refl)
    (unmarked (escaped a.value) (whole (chars a.value)))) refl

attributes_stay : (given : List Attribute) → list_all stays (flat_map attribute_text given) ≡ true
attributes_stay [] = refl
attributes_stay (a ∷ more) = ap (list_all stays) (flat_map-cons attribute_text a more)
    ∙ joined (attribute_text a) (flat_map attribute_text more) (attribute_stays a) (attributes_stay more)

-- ---- what is left

past_tag : (xs rest : List ℕ) → list_all stays xs ≡ true → left true (xs ++ 62 ∷ rest) ≡ left false rest
past_tag [] rest h = refl
past_tag (c ∷ cs) rest h = ap (λ b. left b (cs ++ 62 ∷ rest)) (first_of_both (stays c) (list_all stays cs) h)
    ∙ past_tag cs rest (second_of_both (stays c) (list_all stays cs) h)

closed : (xs rest : List ℕ) → list_all stays xs ≡ true → left true (xs ++ 62 ∷ [] ++ rest) ≡ left false rest
closed xs rest h = ap (left true) (append_assoc xs (62 ∷ []) rest) ∙ past_tag xs rest h

tag_left : (word : List ℕ) (given : List Attribute) (rest : List ℕ) → list_all stays word ≡ true
    → left false (tag word given ++ rest) ≡ left false rest
tag_left word given rest h = closed (word ++ flat_map attribute_text given) rest
    (joined word (flat_map attribute_text given) h (attributes_stay given))

end_left : (word rest : List ℕ) → list_all stays word ≡ true
    → left false (codes "</" ++ word ++ codes ">" ++ rest) ≡ left false rest
end_left word rest h = closed word rest h

text_left : (xs rest : List ℕ) → list_all is_no_mark xs ≡ true → left false (xs ++ rest) ≡ xs ++ left false rest
text_left [] rest h = refl
text_left (c ∷ cs) rest h = ap (λ b. cond b (left true (cs ++ rest)) (c ∷ left false (cs ++ rest)))
    (no_first (nat_eq c 60) (nat_eq c 62) (nat_eq c 34) (nat_eq c 39)
    (first_of_both (is_no_mark c) (list_all is_no_mark cs) h))
    ∙ ap (λ l. c ∷ l) (text_left cs rest (second_of_both (is_no_mark c) (list_all is_no_mark cs) h))

piece_left : (p : Piece) (rest : List ℕ) → left false (piece_text p ++ rest) ≡ words_of p ++ left false rest
piece_left (Start e given) rest = tag_left (element_word e) given rest (element_stays e)
piece_left (Void e given) rest = tag_left (void_word e) given rest (void_stays e)
piece_left (End e) rest = end_left (element_word e) rest (element_stays e)
piece_left (Words text) rest = text_left (escaped text) rest (whole (chars text))

pub all_left : (pieces : List Piece) → left false (flat_map piece_text pieces) ≡ flat_map words_of pieces
all_left [] = refl
all_left (p ∷ more) = ap (left false) (flat_map-cons piece_text p more)
    ∙ piece_left p (flat_map piece_text more) ∙ ap (λ l. words_of p ++ l) (all_left more)
    ∙ sym (flat_map-cons words_of p more)
