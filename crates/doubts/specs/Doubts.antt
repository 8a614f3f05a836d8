-- What is doubtful in an archive: rules of our own. They say what is worth a look, and do not find all that is wrong.
use Rattle.std.specs.Prelude.{
  ℕ,
  ℤ,
  Bool,
  true,
  false,
  not,
  ◌==◌,
  ◌&&◌,
  if◌then◌else◌,
  int_lt,
  List,
  [],
  ◌∷◌,
  ◌++◌,
  codes,
  decimal,
  fold,
  length,
  Option,
  Some,
  None,
}
use Rattle.std.specs.List.{flat_map, list_any}
use Rattle.std.specs.FinMap.{get, keys}
use Rattle.gedcom_date.specs.Form.{Form, PhraseAlone, VerbatimText}
use Rattle.gedcom_date.specs.declared.value.Span.{Span}
use Rattle.gedcom_date.proofs.Deciding.{some_value}
use Rattle.record_fields.specs.declared.date.Date.{Date}
use Rattle.record_kinds.specs.Model as model
use Rattle.record_kinds.specs.declared.record.Record.{Record}
use Rattle.record_kinds.specs.declared.record.Record.TheVariants as kind
use Rattle.record_text.specs.Naming.{surname_of}
use Rattle.archive_state.specs.Content.{Content, Records}
use Rattle.searching.specs.Printing.{shown}
use Rattle.sheet_lines.specs.Words.{display_of}
use Rattle.doubts.specs.Facts.{Known, dated, facts_in, known_by, name_key}
use Rattle.doubts.specs.declared.doubt.Kind.{Kind}
use Rattle.doubts.specs.declared.doubt.Kind.TheVariants as of

-- the kind, the number of the record, and what is said of it
abbrev pub Doubt : Type 0
Doubt = Kind × (ℕ × List ℕ)

abbrev pub doubt : Kind → ℕ → List ℕ → List Doubt
doubt k n words = (k, (n, words)) ∷ []

-- ---- dates of words only
-- what a text says of a time; it says one thing
unfoldable pub said_by : List ℕ → Form
said_by text = (some_value text).0

-- a phrase, or a text that fits no form
abbrev pub is_words : Form → Bool
is_words (PhraseAlone text) = true
is_words (VerbatimText text) = true
is_words _ = false

abbrev pub date_words : List ℕ → List ℕ
date_words text = codes "words: " ++ text

abbrev pub text_doubts : ℕ → List ℕ → List Doubt
text_doubts n text = if is_words (said_by text) then doubt of.Words n (date_words text) else []

abbrev pub date_doubts : ℕ → Option Date → List Doubt
date_doubts n None = []
date_doubts n (Some d) = text_doubts n d.text

-- ---- persons without a name, or of whose names none has a surname
abbrev pub is_with_surname : model.Name → Bool
is_with_surname x = not (length (surname_of x.text) == 0)

abbrev pub name_words : model.Person → List ℕ
name_words p = if length p.names == 0 then codes "no name" else codes "no surname: " ++ display_of p.names

abbrev pub name_doubts : ℕ → model.Person → List Doubt
name_doubts n p = if list_any is_with_surname p.names then [] else doubt of.Nameless n (name_words p)

-- ---- families of nobody
abbrev pub family_doubts : ℕ → model.Family → List Doubt
family_doubts n f =
    if (length f.partners == 0) && (length f.children == 0) then doubt of.Empty n (codes "nobody") else []

-- ---- mentions that are linked to nobody, although one of that name on that page is linked
abbrev pub is_free : Option model.Link → Bool
is_free None = true
is_free (Some l) = false

abbrev pub is_open : model.Mention → Bool
is_open x = is_free x.link && not (length x.name == 0)

abbrev pub is_missed : Known → model.Entry → model.Mention → Bool
is_missed k e x = is_open x && k.is_linked (name_key e x)

abbrev pub mention_doubts : Known → ℕ → model.Entry → model.Mention → List Doubt
mention_doubts k n e x = if is_missed k e x then doubt of.Missed n (codes "not linked: " ++ x.name) else []

abbrev pub missed_doubts : Known → ℕ → model.Entry → List Doubt
missed_doubts k n e = flat_map (mention_doubts k n e) e.mentions

-- ---- children who are older than a parent
abbrev pub first_day : Option Span → Option ℤ
first_day None = None
first_day (Some s) = s.lo

abbrev pub last_day : Option Span → Option ℤ
last_day None = None
last_day (Some s) = s.hi

-- the one is before the other, where both are there
abbrev pub is_before : Option ℤ → Option ℤ → Bool
is_before (Some a) (Some b) = int_lt a b
is_before _ _ = false

abbrev pub later : Option ℤ → Option ℤ → Option ℤ
later a None = a
later None b = b
later (Some a) (Some b) = if int_lt a b then Some b else Some a

-- the last of the days before which one of them was not born
abbrev pub latest_birth : Known → List model.Partner → Option ℤ
latest_birth k ps = fold (λ day (p : model.Partner). later day (first_day (k.born p.person))) None ps

abbrev pub older_words : ℕ → List ℕ
older_words person = codes "older than a parent: " ++ decimal person

abbrev pub child_doubts : Known → ℕ → Option ℤ → model.Child → List Doubt
child_doubts k n day x =
    if is_before (last_day (k.born x.person)) day then doubt of.Older n (older_words x.person) else []

abbrev pub older_doubts : Known → ℕ → model.Family → List Doubt
older_doubts k n f = flat_map (child_doubts k n (latest_birth k f.partners)) f.children

-- ---- events before the birth or after the burial of their owner
abbrev pub outside_if : ℕ → Bool → List ℕ → List Doubt
outside_if n test words = if test then doubt of.Outside n words else []

abbrev pub before_doubts : ℕ → Option Span → Option Span → List Doubt
before_doubts n event birth = outside_if n (is_before (last_day event) (first_day birth)) (codes "before birth")

abbrev pub after_doubts : ℕ → Option Span → Option Span → List Doubt
after_doubts n event burial = outside_if n (is_before (last_day burial) (first_day event)) (codes "after burial")

abbrev pub outside_doubts : Known → ℕ → ℕ → Option Span → List Doubt
outside_doubts k n owner event = before_doubts n event (k.born owner) ++ after_doubts n event (k.buried owner)

-- ---- register entries with several mentions of one person
abbrev pub linked : Option model.Link → List ℕ
linked None = []
linked (Some l) = l.person ∷ []

abbrev pub person_doubts : ℕ → List ℕ → ℕ → List Doubt
person_doubts n before person =
    if list_any (λ k. k == person) before then doubt of.Twice n (codes "twice: " ++ decimal person) else []

abbrev pub link_doubts : ℕ → List ℕ → Option model.Link → List Doubt
link_doubts n before None = []
link_doubts n before (Some l) = person_doubts n before l.person

-- each mention that is linked to somebody to whom one before it is
abbrev pub twice_doubts : ℕ → List ℕ → List model.Mention → List Doubt
twice_doubts n before [] = []
twice_doubts n before (x ∷ xs) = link_doubts n before x.link ++ twice_doubts n (before ++ linked x.link) xs

-- ---- the whole archive
abbrev pub doubts_of : Known → ℕ → Record → List Doubt
doubts_of k n (kind.Person p) = name_doubts n p
doubts_of k n (kind.Family f) = family_doubts n f ++ older_doubts k n f
doubts_of k n (kind.Event e) = date_doubts n e.date ++ outside_doubts k n e.owner (dated e.date)
doubts_of k n (kind.Entry e) = date_doubts n e.date ++ (missed_doubts k n e ++ twice_doubts n [] e.mentions)
doubts_of k n _ = []

abbrev pub doubts_at : Known → ℕ → Option Record → List Doubt
doubts_at k n None = []
doubts_at k n (Some r) = doubts_of k n r

-- the place of a kind in the order of the kinds
abbrev pub rank : Kind → ℕ
rank of.Words = 0
rank of.Nameless = 1
rank of.Empty = 2
rank of.Missed = 3
rank of.Older = 4
rank of.Outside = 5
rank of.Twice = 6

abbrev pub is_same : Kind → Kind → Bool
is_same a b = rank a == rank b

-- the number, two spaces, and what is said
abbrev pub line : ℕ → List ℕ → List ℕ
line n words = shown (decimal n ++ (codes "  " ++ words))

abbrev pub line_if : Kind → Doubt → List (ℕ × List ℕ)
line_if k d = if is_same d.0 k then (d.1.0, line d.1.0 d.1.1) ∷ [] else []

abbrev pub of_kind : Kind → List Doubt → List (ℕ × List ℕ)
of_kind k ds = flat_map (line_if k) ds

abbrev pub kinds : List Kind
kinds = of.Words ∷ of.Nameless ∷ of.Empty ∷ of.Missed ∷ of.Older ∷ of.Outside ∷ of.Twice ∷ []

abbrev pub by_kind : List Doubt → List (ℕ × List ℕ)
by_kind ds = flat_map (λ k. of_kind k ds) kinds

-- what is doubtful of the records of some numbers, beside what all of these say
abbrev pub found_in : Records → List ℕ → List Doubt
found_in m ns = flat_map (λ n. doubts_at (known_by (facts_in m ns)) n (get m n)) ns

-- the lines of all doubts, by kind and number
abbrev pub review : Content → List (ℕ × List ℕ)
review c = by_kind (found_in c.records (keys c.records))
