-- What is known by maps, with one fact more, and with several. No clause that callers see names these definitions.
use Rattle.std.specs.Prelude.{
  ℕ,
  ◌==◌,
  Bool,
  false,
  ◌||◌,
  if◌then◌else◌,
  bytes_eq,
  List,
  [],
  ◌∷◌,
  Option,
  Some,
  None,
}
use Rattle.std.specs.BTreeMap as tree
use Rattle.std.specs.BTreeSet.{contains_text}
use Rattle.std.specs.Ordering.{nat_cmp}
use Rattle.gedcom_date.specs.declared.value.Span.{Span}
use Rattle.doubts.specs.Facts.{Known}
use Rattle.doubts.specs.declared.known.Known as held
use Rattle.doubts.specs.declared.fact.Fact.{Fact}
use Rattle.doubts.specs.declared.fact.Fact.TheVariants.{Linked, Born, Buried}

-- what the maps of the program show
abbrev pub seen : held.Known → Known
seen k = record {
  is_linked = contains_text k.linked;
  born = tree.get nat_cmp k.born;
  buried = tree.get nat_cmp k.buried;
}

abbrev pub nothing : Known
nothing = record { is_linked = λ key. false; born = λ n. None; buried = λ n. None }

abbrev pub with_key : (List ℕ → Bool) → List ℕ → List ℕ → Bool
with_key f key x = f x || bytes_eq x key

-- the first, or where there is none the other
abbrev pub or_else : Option Span → Option Span → Option Span
or_else None b = b
or_else (Some s) b = Some s

abbrev pub with_span : (ℕ → Option Span) → ℕ → Span → ℕ → Option Span
with_span f n s x = or_else (f x) (if n == x then Some s else None)

abbrev pub with_fact : Known → Fact → Known
with_fact k (Linked key) = record k { is_linked = with_key k.is_linked key }
with_fact k (Born n s) = record k { born = with_span k.born n s }
with_fact k (Buried n s) = record k { buried = with_span k.buried n s }

abbrev pub with_facts : Known → List Fact → Known
with_facts k [] = k
with_facts k (f ∷ fs) = with_facts (with_fact k f) fs
