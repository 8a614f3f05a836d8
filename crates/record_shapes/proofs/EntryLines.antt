-- An entry is known from its lines: what is read of them, and which lines an entry has.
use Rattle.std.proofs.lemmas.Bool.{eqb-true, and_parts}
use Rattle.std.proofs.Common.{ap, ◌≡◌, true, refl, [], ◌∙◌, sym, List, ℕ, Bool, false, subst}
use Rattle.std.specs.Prelude.{◌&&◌, bytes_eq, None, Some, Option, codes}
use Rattle.std.specs.Option.{unwrap_or}
use Rattle.record_shapes.specs.Entries.{
  same_value,
  same_forest,
  same_tree,
  is_said_path,
  is_entry,
  is_said,
  entry_if,
  around,
  entry_on,
  entry_of,
  has_its_lines,
}
use Rattle.record_fields.specs.Bytes.{bytes_are}
use Rattle.stored_lines.specs.declared.carried.Value.TheVariants as value
use Rattle.stored_lines.specs.declared.carried.Value.{Value}
use Rattle.stored_lines.specs.Tree.{list_of, forest_of, node, more, Forest, none, Tree}
use Rattle.stored_lines.specs.Line.{Lines, Line}
use Rattle.record_kinds.specs.Model as model
use Rattle.record_shapes.specs.Forms.{Known, is_some}
use Rattle.record_fields.specs.declared.entry_words.EntryKind.TheVariants as entry_kind
use Rattle.record_fields.specs.Words.{entry_kind_word, entry_kind_of}
use Rattle.record_fields.specs.declared.entry_words.EntryKind.{EntryKind}
use Rattle.record_fields.proofs.Worded.{entry_kind_exact}
use Rattle.record_shapes.specs.Shapes.{entry_lines}
use Rattle.record_shapes.proofs.Entries.{entry_back}
use Rattle.stored_lines.proofs.Listed.{list_back}

pub value_is : (v w : Value) → same_value v w ≡ true → v ≡ w
value_is (value.Text t) (value.Text u) e = ap value.Text (bytes_are t u e)
value_is (value.Ref n) (value.Ref k) e = ap value.Ref (eqb-true n k e)
value_is (value.Text t) (value.Ref k) e = absurd cc
value_is (value.Ref n) (value.Text u) e = absurd cc

mutual
  tree_is : (t u : Tree Line) → same_tree t u ≡ true → t ≡ u
  tree_is (node l g) (node k h) e =
      let x = and_parts (bytes_eq l.tag k.tag) (same_value l.value k.value && same_forest g h) e in
      let y = and_parts (same_value l.value k.value) (same_forest g h) x.1 in
      λ i. node (record { tag = bytes_are l.tag k.tag x.0 i; value = value_is l.value k.value y.0 i })
      (forest_is g h y.1 i)

  forest_is : (g h : Forest Line) → same_forest g h ≡ true → g ≡ h
  forest_is none none e = refl
  forest_is (more t g) (more u h) e =
      let x = and_parts (same_tree t u) (same_forest g h) e in
      λ i. more (tree_is t u x.0 i) (forest_is g h x.1 i)
  forest_is none (more u h) e = absurd cc
  forest_is (more t g) none e = absurd cc

lines_are : (ts us : Lines) → same_forest (forest_of ts) (forest_of us) ≡ true → ts ≡ us
lines_are ts us e = sym (list_back ts) ∙ ap list_of (forest_is (forest_of ts) (forest_of us) e) ∙ list_back us

said_path : (o : Option (List ℕ)) → is_said_path o ≡ true → o ≡ Some (unwrap_or o [])
said_path None e = absurd cc
said_path (Some path) e = refl

-- the path of the place of an entry is known
place_known : (known : Known) (e : model.Entry) → is_entry known e ≡ true → (n : ℕ) → e.place ≡ Some n
    → known.path n ≡ Some (unwrap_or (known.path n) [])
place_known known e h n at =
    let x = and_parts (bytes_eq (known.tag e.source) (codes "SOUR")) _ h in
    let y = and_parts (is_said known e.place) _ x.1 in
    said_path (known.path n) (ap (is_said known) (sym at) ∙ y.0)

pub if_entry : (b : Bool) (g e : model.Entry) → entry_if b g ≡ Some e → (b ≡ true) × (g ≡ e)
if_entry true g e h = let same : g ≡ e = cc in (refl, same)
if_entry false g e h = absurd cc

kind_is : (word : List ℕ) (o : Option EntryKind) → entry_kind_of word ≡ o → is_some o ≡ true
    → word ≡ entry_kind_word (unwrap_or o entry_kind.Baptism)
kind_is word None at e = absurd cc
kind_is word (Some k) at e = entry_kind_exact word (Some k) (sym at)

-- what is guessed from the lines of an entry has its lines, its word and keeps the rules
pub record IsOf (known : Known) (word : List ℕ) (ts : Lines) : Type 0 where
  pub e : model.Entry
  pub lines : ts ≡ entry_lines (around known) e
  pub rules : is_entry known e ≡ true
  pub called : entry_kind_word e.kind ≡ word

pub is_of : (known : Known) (word : List ℕ) (ts : Lines) (e : model.Entry) → entry_of known (value.Text word) ts
    ≡ Some e
    → IsOf known word ts
unfolding entry_of
is_of known word ts e is =
    let g : model.Entry = entry_on word ts in
    let a = if_entry (has_its_lines known (value.Text word) ts g) g e is in
    let b = and_parts (is_some (entry_kind_of word))
    (same_forest (forest_of ts) (forest_of (entry_lines (around known) g)) && is_entry known g) a.0 in
    let c = and_parts (same_forest (forest_of ts) (forest_of (entry_lines (around known) g))) (is_entry known g) b.1 in
    record {
      e = g;
      lines = lines_are ts (entry_lines (around known) g) c.0;
      rules = c.1;
      called = sym (kind_is word (entry_kind_of word) refl b.0);
    }

-- lines of an entry that keeps the rules are one
pub of_lines : (known : Known) (e : model.Entry) (word : List ℕ) (ts : Lines) → is_entry known e ≡ true
    → entry_kind_word e.kind ≡ word → entry_lines (around known) e ≡ ts → entry_of known (value.Text word) ts ≡ Some e
of_lines known e word ts keeps called whole =
    subst (λ us. entry_of known (value.Text word) us ≡ Some e) whole
    (subst (λ w. entry_of known (value.Text w) (entry_lines (around known) e) ≡ Some e) called
    (entry_back known (around known) e keeps (place_known known e keeps)))

pub none_of_number : (known : Known) (n : ℕ) (ts : Lines) → entry_of known (value.Ref n) ts ≡ None
unfolding entry_of
none_of_number known n ts = refl
