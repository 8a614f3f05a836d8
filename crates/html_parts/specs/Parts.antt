-- The bytes of the parts of a page (HTML Living Standard, section 13.1).
use Rattle.std.specs.Prelude.{ℕ, List, [], ◌∷◌, ◌++◌, codes, flat_map}
use Rattle.html_text.specs.Model.{Attribute}
use Rattle.html_text.specs.Pages.{Piece, Start, Void, End, Words, doctype, piece_text}
use Rattle.html_text.specs.Outside.{words_of}
use Rattle.html_text.specs.declared.names.Element.TheVariants as element
use Rattle.html_text.specs.declared.names.VoidElement.TheVariants as void
use Rattle.html_text.specs.declared.names.Name.{Name}
use Rattle.html_text.specs.declared.names.Name.TheVariants as name
use Rattle.html_parts.specs.declared.class.Class.{Class}
use Rattle.html_parts.specs.declared.class.Class.TheVariants as class
use Rattle.html_parts.specs.declared.part.Part.{Part}
use Rattle.html_parts.specs.declared.part.Part.TheVariants as part
use Rattle.html_parts.specs.Addresses.{address_of}

abbrev pub class_word : Class → List ℕ
class_word class.Note = codes "note"
class_word class.Pages = codes "pages"
class_word class.Text = codes "text"
class_word class.Tree = codes "tree"

abbrev pub given : Name → List ℕ → Attribute
given name value = record { name = name; value = value }

-- the words of the tags that never change
unfoldable pub viewport_word : List ℕ
viewport_word = codes "viewport"

unfoldable pub viewport_rule : List ℕ
viewport_rule = codes "width=device-width, initial-scale=1"

unfoldable pub search_word : List ℕ
search_word = codes "search"

unfoldable pub search_path : List ℕ
search_path = codes "/search"

unfoldable pub field_label : List ℕ
field_label = codes "Words of names"

unfoldable pub style_word : List ℕ
style_word = codes "stylesheet"

unfoldable pub style_address : List ℕ
style_address = codes "/style.css"

-- the field of a search, with what is searched for
abbrev pub field_attributes : List ℕ → List Attribute
field_attributes text = given name.Type search_word ∷ given name.Name (codes "q") ∷ given name.AriaLabel field_label
    ∷ given name.Value text ∷ []

-- a part as a piece of a page
abbrev pub piece_of : Part → Piece
piece_of part.Language = Start element.Html (given name.Lang (codes "en") ∷ [])
piece_of part.Charset = Void void.Meta (given name.Charset (codes "utf-8") ∷ [])
piece_of part.Viewport = Void void.Meta (given name.Name viewport_word ∷ given name.Content viewport_rule ∷ [])
piece_of part.Stylesheet = Void void.Link (given name.Rel style_word ∷ given name.Href style_address ∷ [])
piece_of (part.Start e) = Start e []
piece_of (part.Styled e look) = Start e (given name.Class (class_word look) ∷ [])
piece_of (part.Link route) = Start element.A (given name.Href (address_of route) ∷ [])
piece_of part.Form = Start element.Form (given name.Action search_path ∷ given name.Role search_word ∷ [])
piece_of (part.Field text) = Void void.Input (field_attributes text)
piece_of (part.End e) = End e
piece_of (part.Words text) = Words text

abbrev pub part_text : Part → List ℕ
part_text p = piece_text (piece_of p)

-- the bytes of a page
abbrev pub page_bytes : List Part → List ℕ
page_bytes parts = doctype ++ flat_map part_text parts

-- what a part has outside of tags: a text, escaped
abbrev pub words_of_part : Part → List ℕ
words_of_part p = words_of (piece_of p)
