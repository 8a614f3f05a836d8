-- What a forest is, and its one text.
use Rattle.std.specs.Prelude.{
  ◌≡◌,
  ℕ,
  ◌+◌,
  ◌≤◌,
  Bool,
  true,
  false,
  not,
  ◌&&◌,
  ◌==◌,
  nat_lt,
  nat_le,
  if◌then◌else◌,
  List,
  [],
  ◌∷◌,
  ◌++◌,
  length,
  map,
  codes,
  Some,
  None,
}
use Rattle.std.specs.Option.{option_map_or}
use Rattle.std.specs.List.{flat_map, list_all, list_any, count_by}
use Rattle.std.specs.Str.{bytes_eq, IsUtf8}
use Rattle.gedcom_line.specs.Words.{is_word}
use Rattle.gedcom_line.specs.Reading.{Parts, is_continuation}
use Rattle.gedcom_line.specs.Spelling.{spelling, IsXref, is_textual}
use Rattle.gedcom_line.specs.Value.{Meaning, Text, Pointer}
use Rattle.gedcom_line.specs.Split.{char_count}
use Rattle.gedcom_rules.specs.Pieces.{all_pieces}
use Rattle.gedcom_tree.specs.Forest.{Item, node_lines}
use Rattle.gedcom_rules.specs.Rules.{max_text, is_charset, is_version}

-- a line as it is written, with its LF
abbrev pub line_text : Parts → List ℕ
line_text l = spelling l ++ 10 ∷ []

abbrev pub trailer : Parts
trailer = record { level = 0; xref = None; tag = codes "TRLR"; raw = [] }

-- a node's line, and its continuations
abbrev pub node_text : Item → List ℕ
node_text i = flat_map line_text (node_lines i)

-- the one text of a forest: the lines of its nodes in order, and the trailer
unfoldable pub text : List Item → List ℕ
text f = flat_map node_text f ++ line_text trailer

-- 1 to 31 letters, digits and underscores
abbrev pub is_tag : List ℕ → Bool
is_tag tag = list_all is_word tag && nat_lt 0 (length tag) && nat_le (length tag) 31

-- a text of a node: UTF-8 without U+0000 and CR, and not too long; or a cross reference
abbrev pub IsNodeValue : Meaning → Type 0
IsNodeValue (Text t) = IsUtf8 t × ((list_all is_textual t ≡ true) × (length t ≤ max_text))
IsNodeValue (Pointer p) = IsXref (Some p)

-- a node: of level 0 to 98, with a tag that is no continuation's, and at level 0 not the trailer's
pub record IsNodeOf (i : Item) : Type 0 where
  pub low : i.level ≤ 98
  pub tag : is_tag i.tag ≡ true
  pub own : is_continuation i.tag ≡ false
  pub other : (i.level == 0 && bytes_eq i.tag (codes "TRLR")) ≡ false
  pub xref : IsXref i.xref
  pub value : IsNodeValue i.value

abbrev pub EachNode : List Item → Type 0
EachNode [] = Unit {0}
EachNode (i ∷ is) = IsNodeOf i × EachNode is

-- level 0 HEAD stands first
abbrev pub begins : List Item → Bool
begins [] = false
begins (i ∷ is) = i.level == 0 && bytes_eq i.tag (codes "HEAD")

-- after a node of the level, no level is more than one above that of the node before
abbrev pub rises : ℕ → List Item → Bool
rises level [] = true
rises level (i ∷ is) = nat_le i.level (level + 1) && rises i.level is

-- the values of the two lines of the header
abbrev pub is_charset_node : Meaning → Bool
is_charset_node (Text t) = is_charset t
is_charset_node (Pointer p) = false

abbrev pub is_version_node : Meaning → Bool
is_version_node (Text t) = is_version t && not (list_any (λ b. b == 10) t)
is_version_node (Pointer p) = true

-- Nodes of the header, up to the next level 0, name a character set and a version that are read: CHAR at level 1, and
-- VERS at level 2 below GEDC; under_gedc says that the last node of level 1 is GEDC.
abbrev pub keeps_header : Bool → Bool → List Item → Bool
keeps_header in_head under_gedc [] = true
keeps_header in_head under_gedc (i ∷ is) =
    not (in_head && i.level == 1 && bytes_eq i.tag (codes "CHAR") && not (is_charset_node i.value))
    && not (in_head && i.level == 2 && bytes_eq i.tag (codes "VERS") && under_gedc && not (is_version_node i.value))
    && keeps_header (in_head && not (i.level == 0))
    (if i.level == 1 then bytes_eq i.tag (codes "GEDC") else under_gedc) is

-- the node has the cross reference
abbrev pub is_called : List ℕ → Item → Bool
is_called x i = option_map_or (bytes_eq x) i.xref false

-- no cross reference stands on two nodes
abbrev pub are_distinct : List Item → Bool
are_distinct [] = true
are_distinct (i ∷ is) = not (option_map_or (λ x. list_any (is_called x) is) i.xref false) && are_distinct is

abbrev pub behind_first : List Item → List Item
behind_first [] = []
behind_first (i ∷ is) = is

-- the nodes in order are a forest
pub record IsForest (f : List Item) : Type 0 where
  pub head : begins f ≡ true
  pub nodes : EachNode f
  pub levels : rises 0 (behind_first f) ≡ true
  pub names : are_distinct f ≡ true
  pub header : keeps_header true false (behind_first f) ≡ true

-- how many nodes of level 0 a forest has after the header
abbrev pub record_count : List Item → ℕ
record_count f = count_by (λ i. i.level == 0) (behind_first f)

-- no line has more than 300 characters, its line end not counted
abbrev pub HasShortLines : List ℕ → Type 0
HasShortLines b = list_all (λ p. nat_le (char_count p) 300) (all_pieces b) ≡ true

-- Two forests that differ only in the numbers of their lines.

abbrev pub unnumbered : Item → Item
unnumbered i = record { line = 0; level = i.level; xref = i.xref; tag = i.tag; value = i.value }

abbrev pub IsSame : List Item → List Item → Type 0
IsSame f g = map unnumbered f ≡ map unnumbered g

-- The same by computing.

-- no level is above 98
abbrev pub IsLow : List Item → Type 0
IsLow f = list_all (λ i. nat_le i.level 98) f ≡ true
