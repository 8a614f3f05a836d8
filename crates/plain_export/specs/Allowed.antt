-- What the standard allows in names, families, events and citations (The GEDCOM Standard Release 5.5.1, chapter 2,
-- PERSONAL_NAME_STRUCTURE, FAM_RECORD, INDIVIDUAL_EVENT_STRUCTURE, INDIVIDUAL_ATTRIBUTE_STRUCTURE,
-- FAMILY_EVENT_STRUCTURE and SOURCE_CITATION), and what a plain export has in place of the rest. Rules of our own.
use Rattle.std.specs.Prelude.{
  ℕ,
  ◌||◌,
  ◌==◌,
  Bool,
  true,
  false,
  not,
  if◌then◌else◌,
  List,
  [],
  ◌∷◌,
  codes,
  length,
  nat_lt,
  Option,
  Some,
  None,
}
use Rattle.std.specs.List.{list_all, list_any}
use Rattle.std.specs.Str.{bytes_eq}
use Rattle.stored_lines.specs.Tree.{Tree}
use Rattle.stored_lines.specs.Line.{Line, Lines}
use Rattle.record_text.specs.Words.{replaced}
use Rattle.record_fields.specs.declared.words.Partnership.{Partnership}
use Rattle.record_fields.specs.declared.words.Partnership.TheVariants as partnership
use Rattle.record_kinds.specs.Model as model
use Rattle.record_shapes.specs.Shapes.{text_line}

-- ---- texts of one line, which have no CONT
-- a blank in place of each line end
unfoldable pub one_line : List ℕ → List ℕ
one_line text = replaced 10 (codes " ") text

-- the line of a text, unless it is empty
abbrev pub said_lines : List ℕ → List ℕ → Lines
said_lines tag [] = []
said_lines tag (b ∷ bs) = text_line tag (b ∷ bs) ∷ []

-- ---- names
-- only blanks and line ends
abbrev pub is_blank : List ℕ → Bool
is_blank text = list_all (λ b. b == 32 || b == 10) text

abbrev pub has_lines : Lines → Bool
has_lines [] = false
has_lines (t ∷ ts) = true

-- a name without a text is only there for the lines that it carries
abbrev pub is_said : model.Name → Bool
is_said x = not (is_blank x.text) || has_lines x.carried

-- it stands as an empty surname
abbrev pub name_text : List ℕ → List ℕ
name_text text = if is_blank text then codes "//" else one_line text

-- ---- partners of a family
abbrev pub other_role : Partnership → Partnership
other_role partnership.Husband = partnership.Wife
other_role partnership.Wife = partnership.Husband

abbrev pub is_same : Partnership → Partnership → Bool
is_same partnership.Husband partnership.Husband = true
is_same partnership.Wife partnership.Wife = true
is_same _ _ = false

-- all have the role of the first
abbrev pub have_one_role : List model.Partner → Bool
have_one_role [] = true
have_one_role (p ∷ ps) = list_all (λ (q : model.Partner). is_same p.partnership q.partnership) ps

abbrev pub in_other_role : model.Partner → model.Partner
in_other_role p = record p { partnership = other_role p.partnership }

-- the second in the other role
abbrev pub second_in_other : List model.Partner → List model.Partner
second_in_other [] = []
second_in_other (p ∷ []) = p ∷ []
second_in_other (p ∷ q ∷ ps) = p ∷ in_other_role q ∷ ps

-- a family has one husband and one wife at most: of partners of one role the second has the other one
abbrev pub paired : List model.Partner → List model.Partner
paired ps = if have_one_role ps then second_in_other ps else ps

-- ---- values of events
-- the tags that have one: of attributes but RESI, and EVEN
abbrev pub valued_tags : List (List ℕ)
valued_tags =
    codes "CAST" ∷ codes "DSCR" ∷ codes "EDUC" ∷ codes "IDNO" ∷ codes "NATI" ∷ codes "NCHI" ∷ codes "NMR"
    ∷ codes "OCCU" ∷ codes "PROP" ∷ codes "RELI" ∷ codes "SSN" ∷ codes "TITL" ∷ codes "FACT" ∷ codes "EVEN" ∷ []

-- a value after its tag: any of these, and `Y`, that the event took place
abbrev pub may_have : List ℕ → List ℕ → Bool
may_have tag text = list_any (bytes_eq tag) valued_tags || bytes_eq text (codes "Y")

-- it has one line, but for the description of a person
abbrev pub lined_value : List ℕ → List ℕ → List ℕ
lined_value tag text = if bytes_eq tag (codes "DSCR") then text else one_line text

abbrev pub value_after : List ℕ → List ℕ → List ℕ
value_after tag text = if may_have tag text then lined_value tag text else []

-- the value that may not stand after its tag
abbrev pub value_note : List ℕ → List ℕ → Lines
value_note tag text = if may_have tag text then [] else said_lines (codes "NOTE") text

-- ---- pages of citations
-- too long for one line
abbrev pub is_long : List ℕ → Bool
is_long text = nat_lt 200 (length text)

-- such a page is a note
abbrev pub page_line : List ℕ → Tree Line
page_line text = if is_long text then text_line (codes "NOTE") text else text_line (codes "PAGE") (one_line text)

abbrev pub short_page : Option (List ℕ) → Option (List ℕ)
short_page None = None
short_page (Some text) = if is_long text then None else Some (one_line text)

abbrev pub page_note : Option (List ℕ) → Lines
page_note None = []
page_note (Some text) = if is_long text then text_line (codes "NOTE") text ∷ [] else []
