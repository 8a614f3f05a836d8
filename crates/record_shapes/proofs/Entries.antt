-- What is read from the lines of a register entry is that entry.
use Rattle.std.specs.Prelude.{
  ℕ,
  ◌≡◌,
  List,
  [],
  ◌∷◌,
  ◌++◌,
  map,
  true,
  Option,
  Some,
  None,
  option_map,
  codes,
  refl,
  ◌&&◌,
  decimal,
}
use Rattle.std.specs.List.{filter}
use Rattle.std.specs.Option.{unwrap_or}
use Rattle.std.proofs.Common.{ap, ◌∙◌, arith}
use Rattle.std.proofs.lemmas.Bool.Decides.{nat_tests}
use Rattle.stored_lines.specs.Tree.{Tree, Forest, node, none, more, forest_of}
use Rattle.stored_lines.specs.Line.{Line, Lines}
use Rattle.stored_lines.specs.declared.carried.Value.{Value}
use Rattle.stored_lines.specs.declared.carried.Value.TheVariants as value
use Rattle.record_kinds.specs.Model as model
use Rattle.record_fields.specs.Bytes.{bytes_same}
use Rattle.record_fields.specs.Words.{entry_kind_word}
use Rattle.record_fields.specs.Dated.{date_text, date_from}
use Rattle.record_fields.specs.Items.{first_item}
use Rattle.record_fields.proofs.Worded.{role_back, entry_kind_back}
use Rattle.record_fields.proofs.Items.{item_back}
use Rattle.record_fields.proofs.Dated.{date_back}
use Rattle.record_fields.specs.declared.date.Date.{Date}
use Rattle.record_fields.specs.declared.entry_words.Role.TheVariants as role
use Rattle.record_fields.specs.declared.entry_words.EntryKind.TheVariants as entry_kind
use Rattle.record_shapes.specs.Forms.{Known, is_some, number_of, tagged, text_of}
use Rattle.record_shapes.specs.Picking.{first}
use Rattle.record_shapes.specs.Shapes.{
  Around,
  entry_lines,
  entry_place_lines,
  line,
  loc_line,
  mention_line,
  pointer_line,
  text_line,
  text_lines,
}
use Rattle.record_shapes.specs.Entries.{
  around,
  below_on,
  entry_if,
  entry_of,
  entry_on,
  has_its_lines,
  is_entry,
  line_at,
  mention_on,
  same_forest,
  same_tree,
  same_value,
}

-- a line is the same as itself
same-self : (v : Value) → same_value v v ≡ true
same-self (value.Text t) = bytes_same t t refl
same-self (value.Ref n) = grind (arith, nat_tests)

mutual
  tree-self : (t : Tree Line) → same_tree t t ≡ true
  tree-self (node l f) = λ i. bytes_same l.tag l.tag refl i && (same-self l.value i && forest-self f i)

  forest-self : (f : Forest Line) → same_forest f f ≡ true
  forest-self none = refl
  forest-self (more t ts) = λ i. tree-self t i && forest-self ts i

-- mentions
mention-back : (m : model.Mention) → mention_on (mention_line m) ≡ m
mention-back m = by m.link
  where
    by : (o : Option model.Link) → mention_on (mention_line (record { role = m.role; name = m.name; link = o }))
        ≡ record { role = m.role; name = m.name; link = o }
    by None = λ i. record { role = ap (λ r. unwrap_or r role.Child) (role_back m.role) i; name = m.name; link = None }
    by (Some l) = λ i. record {
      role = ap (λ r. unwrap_or r role.Child) (role_back m.role) i;
      name = m.name;
      link = Some l;
    }

mentions-back : (ms : List model.Mention) → map mention_on (filter (tagged (codes "_MENT")) (map mention_line ms)) ≡ ms
mentions-back [] = refl
mentions-back (m ∷ ms) = λ i. mention-back m i ∷ mentions-back ms i

no-mention-date : (ms : List model.Mention) → filter (tagged (codes "DATE")) (map mention_line ms) ≡ []
no-mention-date [] = refl
no-mention-date (m ∷ ms) = no-mention-date ms

no-mention-plac : (ms : List model.Mention) → filter (tagged (codes "PLAC")) (map mention_line ms) ≡ []
no-mention-plac [] = refl
no-mention-plac (m ∷ ms) = no-mention-plac ms

-- the entry, by whether it has a date and a place
abbrev lines_with_date : Around → model.Entry → Option Date → Option ℕ → Lines
lines_with_date a e d p = pointer_line (codes "SOUR") e.source [] ∷ (text_line (codes "PAGE") e.page
    ∷ (text_line (codes "_ITEM") (decimal e.item.number) ∷ (text_lines (codes "DATE") (option_map date_text d)
    ++ (entry_place_lines a p ++ (text_line (codes "TEXT") e.text ∷ map mention_line e.mentions)))))

abbrev with_date : model.Entry → Option Date → Option ℕ → model.Entry
with_date e d p = record {
  source = e.source;
  kind = e.kind;
  page = e.page;
  item = e.item;
  date = d;
  place = p;
  text = e.text;
  mentions = e.mentions;
}

abbrev place_found : List (Tree Line) → Option ℕ
place_found ts = option_map number_of (line_at (codes "_LOC") (below_on (first ts)))

entry-by : (a : Around) (e : model.Entry) (d : Option Date) (p : Option ℕ) → entry_on (entry_kind_word e.kind)
    (lines_with_date a e d p) ≡ with_date e d p
entry-by a e None None = λ i. record {
  source = e.source;
  kind = ap (λ k. unwrap_or k entry_kind.Baptism) (entry_kind_back e.kind) i;
  page = e.page;
  item = ap (λ o. unwrap_or o first_item) (item_back e.item) i;
  date = ap (λ ts. date_from (option_map text_of (first ts))) (no-mention-date e.mentions) i;
  place = ap place_found (no-mention-plac e.mentions) i;
  text = e.text;
  mentions = mentions-back e.mentions i;
}
entry-by a e None (Some n) = λ i. record {
  source = e.source;
  kind = ap (λ k. unwrap_or k entry_kind.Baptism) (entry_kind_back e.kind) i;
  page = e.page;
  item = ap (λ o. unwrap_or o first_item) (item_back e.item) i;
  date = ap (λ ts. date_from (option_map text_of (first ts))) (no-mention-date e.mentions) i;
  place = Some n;
  text = e.text;
  mentions = mentions-back e.mentions i;
}
entry-by a e (Some d) None = λ i. record {
  source = e.source;
  kind = ap (λ k. unwrap_or k entry_kind.Baptism) (entry_kind_back e.kind) i;
  page = e.page;
  item = ap (λ o. unwrap_or o first_item) (item_back e.item) i;
  date = date_back (Some d) i;
  place = ap place_found (no-mention-plac e.mentions) i;
  text = e.text;
  mentions = mentions-back e.mentions i;
}
entry-by a e (Some d) (Some n) = λ i. record {
  source = e.source;
  kind = ap (λ k. unwrap_or k entry_kind.Baptism) (entry_kind_back e.kind) i;
  page = e.page;
  item = ap (λ o. unwrap_or o first_item) (item_back e.item) i;
  date = date_back (Some d) i;
  place = Some n;
  text = e.text;
  mentions = mentions-back e.mentions i;
}

same-paths : (known : Known) (a : Around) (o : Option ℕ) → ((m : ℕ) → o ≡ Some m → known.path m ≡ Some (a.path m))
    → entry_place_lines (around known) o ≡ entry_place_lines a o
same-paths known a None h = refl
same-paths known a (Some n) h = ap (λ path. line (codes "PLAC") (value.Text path) (loc_line n ∷ []) ∷ [])
    (ap (λ x. unwrap_or x []) (h n refl))

pub entry_back : (known : Known) (a : Around) (e : model.Entry) → is_entry known e ≡ true
    → ((m : ℕ) → e.place ≡ Some m → known.path m ≡ Some (a.path m))
    → entry_of known (value.Text (entry_kind_word e.kind)) (entry_lines a e) ≡ Some e
unfolding entry_of
entry_back known a e h p =
    let ts = entry_lines a e in
    let v = value.Text (entry_kind_word e.kind) in
    let same : entry_lines (around known) e ≡ ts = ap
    (λ ps. pointer_line (codes "SOUR") e.source [] ∷ (text_line (codes "PAGE") e.page
    ∷ (text_line (codes "_ITEM") (decimal e.item.number) ∷ (text_lines (codes "DATE") (option_map date_text e.date)
    ++ (ps ++ (text_line (codes "TEXT") e.text ∷ map mention_line e.mentions)))))) (same-paths known a e.place p) in
    let its : has_its_lines known v ts e ≡ true =
    λ i. ap is_some (entry_kind_back e.kind) i &&
    (true && ((ap (λ us. same_forest (forest_of ts) (forest_of us)) same ∙ forest-self (forest_of ts)) i && h i)) in
    ap (λ x. entry_if (has_its_lines known v ts x) x) (entry-by a e e.date e.place) ∙ ap (λ b. entry_if b e) its
