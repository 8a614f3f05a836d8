-- What records say that others are compared with.
use Rattle.std.specs.Prelude.{
  ℕ,
  ◌==◌,
  Bool,
  false,
  if◌then◌else◌,
  List,
  [],
  ◌∷◌,
  ◌++◌,
  bytes_eq,
  codes,
  decimal,
  Option,
  Some,
  None,
  option_map,
}
use Rattle.std.specs.List.{flat_map, list_any}
use Rattle.std.specs.FinMap.{get}
use Rattle.gedcom_date.specs.declared.value.Span.{Span}
use Rattle.record_fields.specs.declared.date.Date.{Date}
use Rattle.record_kinds.specs.Model as model
use Rattle.record_kinds.specs.declared.record.Record.{Record}
use Rattle.record_kinds.specs.declared.record.Record.TheVariants as kind
use Rattle.archive_state.specs.Content.{Records}
use Rattle.doubts.specs.declared.fact.Fact.{Fact}
use Rattle.doubts.specs.declared.fact.Fact.TheVariants.{Linked, Born, Buried}
use Rattle.doubts.specs.Spanned.{some_span}

-- ---- mentions that are linked
-- the source, the page and the name of a mention, parted by U+0000, which no text has
abbrev pub name_key : model.Entry → model.Mention → List ℕ
name_key e x = decimal e.source ++ (0 ∷ (e.page ++ (0 ∷ x.name)))

abbrev pub link_facts : List ℕ → Option model.Link → List Fact
link_facts key None = []
link_facts key (Some l) = Linked key ∷ []

abbrev pub mention_facts : model.Entry → model.Mention → List Fact
mention_facts e x = link_facts (name_key e x) x.link

-- ---- births and burials
-- the first and the last day that a date may mean: each date has one span
unfoldable pub span_of : Date → Span
span_of d = (some_span d).0

abbrev pub dated : Option Date → Option Span
dated date = option_map span_of date

abbrev pub born_facts : ℕ → Option Span → List Fact
born_facts n None = []
born_facts n (Some s) = Born n s ∷ []

abbrev pub buried_facts : ℕ → Option Span → List Fact
buried_facts n None = []
buried_facts n (Some s) = Buried n s ∷ []

-- of an event with that tag, that owner and that span
abbrev pub life_facts : List ℕ → ℕ → Option Span → List Fact
life_facts tag n span =
    if bytes_eq tag (codes "BIRT") then born_facts n span
    else if bytes_eq tag (codes "BURI") then buried_facts n span else []

-- ---- the whole archive
abbrev pub facts_of : Record → List Fact
facts_of (kind.Event e) = life_facts e.tag e.owner (dated e.date)
facts_of (kind.Entry e) = flat_map (mention_facts e) e.mentions
facts_of _ = []

abbrev pub facts_at : Option Record → List Fact
facts_at None = []
facts_at (Some r) = facts_of r

-- of the records of some numbers
abbrev pub facts_in : Records → List ℕ → List Fact
facts_in m ns = flat_map (λ n. facts_at (get m n)) ns

-- ---- what they show
pub record Known : Type 0 where
  -- whether a mention with this key is linked
  pub is_linked : List ℕ → Bool
  -- when a person was born, and was buried: the span of the first such event that has a date
  pub born : ℕ → Option Span
  pub buried : ℕ → Option Span

abbrev pub links : List ℕ → Fact → Bool
links key (Linked k) = bytes_eq key k
links key _ = false

abbrev pub birth : Fact → List (ℕ × Span)
birth (Born n s) = (n, s) ∷ []
birth _ = []

abbrev pub burial : Fact → List (ℕ × Span)
burial (Buried n s) = (n, s) ∷ []
burial _ = []

abbrev pub first_of : List (ℕ × Span) → ℕ → Option Span
first_of [] n = None
first_of (x ∷ xs) n = if x.0 == n then Some x.1 else first_of xs n

abbrev pub known_by : List Fact → Known
known_by fs = record {
  is_linked = λ key. list_any (links key) fs;
  born = first_of (flat_map birth fs);
  buried = first_of (flat_map burial fs);
}
