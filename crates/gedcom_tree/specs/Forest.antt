-- The forest that the lines of a file are, and the lines of a forest (The GEDCOM Standard Release 5.5.1, chapter 1:
-- levels, CONC and CONT).
use Rattle.std.specs.Prelude.{
  ◌≡◌,
  ◌⊎◌,
  ℕ,
  ◌+◌,
  true,
  false,
  ◌&&◌,
  ◌==◌,
  nat_lt,
  if◌then◌else◌,
  List,
  [],
  ◌∷◌,
  ◌++◌,
  map,
  Option,
  None,
  codes,
}
use Rattle.std.specs.List.{flat_map, list_all}
use Rattle.gedcom_line.specs.Reading.{Parts, is_continuation}
use Rattle.gedcom_line.specs.Escape.{escaped, unescaped}
use Rattle.gedcom_line.specs.Value.{Meaning, Text, Pointer, meaning, IsPointer}
use Rattle.gedcom_line.specs.Split.{Part, canonical}
use Rattle.gedcom_line.specs.declared.splitting.Mark.{Mark}
use Rattle.gedcom_line.specs.declared.splitting.Mark.TheVariants.{Conc, Cont}
use Rattle.gedcom_rules.specs.Continuing.{belongs, adds}

-- a node of a forest, with the number of its line and its depth; a forest is the list of its nodes in order
pub record Item : Type 0 where
  pub line : ℕ
  pub level : ℕ
  pub xref : Option (List ℕ)
  pub tag : List ℕ
  pub value : Meaning

-- a text is that of its line and of the lines that continue it, each unescaped by itself; a pointer is not continued
abbrev pub IsValue : List ℕ → List Parts → Meaning → Type 0
IsValue raw more (Text t) = ((name : List ℕ) → ¬ (IsPointer raw name)) × (t ≡ unescaped raw ++ flat_map adds more)
IsValue raw more (Pointer p) = IsPointer raw p × (more ≡ [])

-- the line l with that number, continued by more, is the node i
pub record IsNode (number : ℕ) (l : Parts) (more : List Parts) (i : Item) : Type 0 where
  pub line : i.line ≡ number
  pub level : i.level ≡ l.level
  pub xref : i.xref ≡ l.xref
  pub tag : i.tag ≡ l.tag
  pub value : IsValue l.raw more i.value

-- the lines, numbered from n on, are the nodes of the forest in order, with continuation lines among their children
abbrev pub Reads : ℕ → List Parts → List Item → Type 0
Reads n [] f = f ≡ []
Reads n (l ∷ ls) f =
    ((is_continuation l.tag ≡ true) × Reads (n + 1) ls f)
    ⊎ ((is_continuation l.tag ≡ false)
    × ((i : Item) × ((rest : List Item)
    × ((f ≡ i ∷ rest) × (IsNode n l (belongs l.level ls) i × Reads (n + 1) ls rest)))))

-- The same by computing.

abbrev pub continued : Meaning → List Parts → Meaning
continued (Text raw) more = Text (unescaped raw ++ flat_map adds more)
continued (Pointer p) more = Pointer p

abbrev pub node_of : ℕ → Parts → List Parts → Item
node_of n l more = record {
  line = n;
  level = l.level;
  xref = l.xref;
  tag = l.tag;
  value = continued (meaning l.raw) more;
}

unfoldable pub forest_of : ℕ → List Parts → List Item
forest_of n [] = []
forest_of n (l ∷ ls) = if is_continuation l.tag then forest_of (n + 1) ls else node_of n l (belongs l.level ls)
    ∷ forest_of (n + 1) ls

-- One line more.

-- the bytes after a text; a pointer stays as it is
abbrev pub longer : List ℕ → Meaning → Meaning
longer t (Text s) = Text (s ++ t)
longer t (Pointer p) = Pointer p

-- the node with a longer text
abbrev pub longer_node : List ℕ → Item → Item
longer_node t i = record { line = i.line; level = i.level; xref = i.xref; tag = i.tag; value = longer t i.value }

-- the text of the last node of the level gets longer, where only deeper ones stand after it
abbrev pub extended : ℕ → List ℕ → List Item → List Item
extended n t [] = []
extended n t (i ∷ is) = (if i.level == n && list_all (λ j. nat_lt n j.level) is then longer_node t i else i)
    ∷ extended n t is

-- The lines of a forest.

-- the tag of a continuation
abbrev pub mark_tag : Mark → List ℕ
mark_tag Conc = codes "CONC"
mark_tag Cont = codes "CONT"

-- the line of a continuation: its text is escaped by itself
abbrev pub part_line : ℕ → Part → Parts
part_line level p = record { level = level; xref = None; tag = mark_tag p.mark; raw = escaped p.text }

abbrev pub first_text : List Part → List ℕ
first_text [] = []
first_text (p ∷ ps) = p.text

abbrev pub rest_parts : List Part → List Part
rest_parts [] = []
rest_parts (p ∷ ps) = ps

-- the value of the node's own line, and the parts that its continuations have, by the canonical split
abbrev pub own_raw : Meaning → List ℕ
own_raw (Text t) = escaped (first_text (canonical t))
own_raw (Pointer p) = p

abbrev pub more_parts : Meaning → List Part
more_parts (Text t) = rest_parts (canonical t)
more_parts (Pointer p) = []

-- the line that a node begins with
abbrev pub own_line : Item → Parts
own_line i = record { level = i.level; xref = i.xref; tag = i.tag; raw = own_raw i.value }

-- a node's line, and its continuations before all other children
abbrev pub node_lines : Item → List Parts
node_lines i = own_line i ∷ map (part_line (i.level + 1)) (more_parts i.value)

-- the lines of a forest, one node after another
unfoldable pub lines_of : List Item → List Parts
lines_of f = flat_map node_lines f
