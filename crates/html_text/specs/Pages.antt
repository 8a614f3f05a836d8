-- The tags of a page (HTML Living Standard, section 13.1.2 "Elements").
use Rattle.std.specs.Prelude.{ℕ, List, ◌++◌, codes, flat_map}
use Rattle.html_text.specs.declared.names.Element.{Element}
use Rattle.html_text.specs.declared.names.VoidElement.{VoidElement}
use Rattle.html_text.specs.Model.{Attribute}
use Rattle.html_text.specs.Names.{element_word, name_word, void_word}
use Rattle.html_text.specs.Escapes.{escaped}

abbrev pub doctype : List ℕ
doctype = codes "<!DOCTYPE html>\n"

-- a name and a value in quotes
abbrev pub attribute_text : Attribute → List ℕ
attribute_text a = codes " " ++ name_word a.name ++ codes "=\"" ++ escaped a.value ++ codes "\""

abbrev pub tag : List ℕ → List Attribute → List ℕ
tag word attributes = codes "<" ++ word ++ flat_map attribute_text attributes ++ codes ">"

abbrev pub start_tag : Element → List Attribute → List ℕ
start_tag element attributes = tag (element_word element) attributes

abbrev pub void_tag : VoidElement → List Attribute → List ℕ
void_tag element attributes = tag (void_word element) attributes

abbrev pub end_tag : Element → List ℕ
end_tag element = codes "</" ++ element_word element ++ codes ">"

-- what a page is made of
pub data Piece : Type 0 where
  Start : Element → List Attribute → Piece
  Void : VoidElement → List Attribute → Piece
  End : Element → Piece
  Words : List ℕ → Piece

abbrev pub piece_text : Piece → List ℕ
piece_text (Start element attributes) = start_tag element attributes
piece_text (Void element attributes) = void_tag element attributes
piece_text (End element) = end_tag element
piece_text (Words text) = escaped text

abbrev pub page_text : List Piece → List ℕ
page_text pieces = doctype ++ flat_map piece_text pieces
