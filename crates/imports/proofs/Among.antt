-- The entries looked through by their keys.
use Rattle.std.proofs.Common.{
  ◌≡◌,
  ℕ,
  suc,
  ◌+◌,
  ◌<◌,
  ◌≤◌,
  ◌^◌,
  List,
  [],
  ◌∷◌,
  Bool,
  true,
  false,
  ◌&&◌,
  ◌||◌,
  length,
  drop,
  get_or,
  map,
  refl,
  sym,
  ap,
  ◌∙◌,
  subst,
  cond,
  arith,
}
use Rattle.std.specs.Prelude.{Option, Some, None, option_map, bytes_eq, codes, string_bytes}
use Rattle.std.specs.List.{flat_map, list_any, slice_get}
use Rattle.std.specs.Option.{unwrap_or}
use Rattle.std.specs.Borrow.{Bor}
use Rattle.std.specs.BTreeMap.{is_at}
use Rattle.std.specs.BTreeSet.{BTreeSet, IsEmpty, contains_text}
use Rattle.std.specs.Ordering.{nat_cmp}
use Rattle.std.specs.Cmp.Lexicographic.{slice_cmp}
use Rattle.std.specs.declared.string.String.{String}
use Rattle.std.proofs.Math.ListN.{drop_of_length-le}
use Rattle.std.proofs.Math.Seq.{drop-cons}
use Rattle.std.proofs.lemmas.Bool.{and_parts}
use Rattle.std.proofs.lemmas.Option.{slice_get-map, slice_get_within}
use Rattle.stored_lines.specs.Tree.{Tree, Forest, node, none, forest_of, label, list_of}
use Rattle.stored_lines.specs.Line.{Line, Lines}
use Rattle.stored_lines.specs.declared.carried.Value.{Value}
use Rattle.record_fields.specs.Bytes.{bytes_are}
use Rattle.record_fields.specs.Words.{entry_kind_of}
use Rattle.record_kinds.specs.Model as model
use Rattle.record_kinds.specs.declared.record.Record.TheVariants as kind
use Rattle.record_shapes.specs.Entries.{around, entry_of, entry_on, has_its_lines, is_entry, same_forest}
use Rattle.record_shapes.specs.Forms.{Known, below, is_some, is_text_value, tag_of, tagged, text_in, value_of}
use Rattle.record_shapes.specs.Fields.{family_field, person_field}
use Rattle.record_shapes.specs.Reading.{
  Draft,
  draft_if,
  entry_or_other,
  family_from,
  person_from,
  place_from,
  read,
  repo_from,
  sought,
  source_from,
}
use Rattle.record_shapes.specs.Shapes.{entry_lines}
use Rattle.node_reading.specs.Trees.{draft_tree}
use Rattle.node_reading.specs.declared.drafts.Draft as code
use Rattle.gedcom_tree.specs.declared.node.Node.{Node}
use Rattle.gedcom_tree.specs.declared.node.Node.TheViews.{out-Node}
use Rattle.import_definitions.specs.Nodes.{FileNode, tree_of, trees_at}
use Rattle.import_definitions.specs.Lines.{roots}
use Rattle.import_definitions.proofs.Trees.{tree_out}
use Rattle.import_definitions.specs.Made.{line_of, same_key, second}
use Rattle.import_definitions.specs.Positions.{known, known_before, tag_at}
use Rattle.import_definitions.specs.Sides.{draft_at, drafts_from, root_with_sides, with_sides}
use Rattle.imports.specs.Keys.{is_key, is_seen, key_words, second_by, seen_with, AreSmall, IsSmall}
use Rattle.imports.specs.Seconds.{entry_in, said_of, second_among, second_position}
use Rattle.imports.proofs.Keyed.{one_key}
use Rattle.list_laws.proofs.Lists.{map_map}
use Rattle.import_definitions.proofs.Below.{roots_length}
use Rattle.record_shapes.proofs.EntryLines.{if_entry}

-- ---- what a node is read as is an entry exactly where the node is one
registered_entry : (rs : Lines) (k : ℕ) (tag : List ℕ) (v : Value) (ts : Lines) (o : Option model.Entry)
    → entry_in (with_sides rs k (read (entry_or_other tag v ts o) None)) ≡ o
registered_entry rs k tag v ts None = refl
registered_entry rs k tag v ts (Some e) = refl

-- a tag of an own kind is no other
not_reg : (tag word : List ℕ) → bytes_eq tag word ≡ true → bytes_eq word (codes "_REG") ≡ false
    → bytes_eq tag (codes "_REG") ≡ false
not_reg tag word e h = ap (λ t. bytes_eq t (codes "_REG")) (bytes_are tag word e) ∙ h

module _ (rs : Lines) (k : ℕ) (l : Line) (f : Forest Line) where
  abbrev told : Option model.Entry
  told = entry_of (known rs) l.value (list_of f)

  none_for : (g : Bool) → g ≡ false → None ≡ cond g told None
  none_for g e = ap (λ b. cond b told None) (sym e)

  -- by what the tag is
  by_tag : (a b c d e g : Bool) → (a ≡ true → g ≡ false) → (b ≡ true → g ≡ false) → (c ≡ true → g ≡ false)
      → (d ≡ true → g ≡ false) → (e ≡ true → g ≡ false)
      → entry_in (label (root_with_sides rs k
      (cond a (node (read (kind.Place (place_from (known_before rs k) (list_of f))) None) none)
      (cond b (node (read (kind.Repo (repo_from (list_of f))) None) none)
      (cond c (node (read (kind.Source (source_from (known rs) (list_of f))) None) none)
      (cond d (node (read (kind.Person (person_from (known rs) (list_of f))) None)
      (forest_of (flat_map (λ t. draft_if (known rs) (person_field (known rs) t) t) (list_of f))))
      (cond e (node (read (kind.Family (family_from (known rs) (list_of f))) None)
      (forest_of (flat_map (λ t. draft_if (known rs) (family_field (known rs) t) t) (list_of f))))
      (node (read (entry_or_other l.tag l.value (list_of f) (cond g told None)) None) none))))))))
      ≡ cond g told None
  by_tag true b c d e g pa pb pc pd pe = none_for g (pa refl)
  by_tag false true c d e g pa pb pc pd pe = none_for g (pb refl)
  by_tag false false true d e g pa pb pc pd pe = none_for g (pc refl)
  by_tag false false false true e g pa pb pc pd pe = none_for g (pd refl)
  by_tag false false false false true g pa pb pc pd pe = none_for g (pe refl)
  by_tag false false false false false g pa pb pc pd pe =
      registered_entry rs k l.tag l.value (list_of f) (cond g told None)

-- the entry that a line of level 0 is
abbrev entry_at : Lines → Tree Line → Option model.Entry
entry_at rs r = cond (tagged (codes "_REG") r) (entry_of (known rs) (value_of r) (below r)) None

draft_entry : (rs : Lines) (k : ℕ) (r : Tree Line) → entry_in (label (draft_at rs k r)) ≡ entry_at rs r
draft_entry rs k (node l f) = by_tag rs k l f (bytes_eq l.tag (codes "_LOC")) (bytes_eq l.tag (codes "REPO"))
    (bytes_eq l.tag (codes "SOUR")) (bytes_eq l.tag (codes "INDI")) (bytes_eq l.tag (codes "FAM"))
    (bytes_eq l.tag (codes "_REG")) (λ e. not_reg l.tag (codes "_LOC") e refl)
    (λ e. not_reg l.tag (codes "REPO") e refl) (λ e. not_reg l.tag (codes "SOUR") e refl)
    (λ e. not_reg l.tag (codes "INDI") e refl) (λ e. not_reg l.tag (codes "FAM") e refl)

-- ---- an entry of a file names a source by its position
source_small : (rs : Lines) (n : ℕ) → bytes_eq (tag_at rs n) (codes "SOUR") ≡ true → n < length rs
source_small rs n e = within (slice_get rs n) refl e
  where
    within : (o : Option (Tree Line)) → slice_get rs n ≡ o
        → bytes_eq (unwrap_or (option_map tag_of o) []) (codes "SOUR") ≡ true → n < length rs
    within None at h = absurd cc
    within (Some t) at h = slice_get_within rs n t at

read_names : (k : Known) (v : Value) (ts : Lines) (e : model.Entry) → entry_of k v ts ≡ Some e
    → bytes_eq (k.tag e.source) (codes "SOUR") ≡ true
unfolding entry_of
read_names k v ts e h =
    let e0 : model.Entry = entry_on (text_in v) ts in
    let n = if_entry (has_its_lines k v ts e0) e0 e h in
    let a = and_parts (is_some (entry_kind_of (text_in v))) (is_text_value v
    && (same_forest (forest_of ts) (forest_of (entry_lines (around k) e0)) && is_entry k e0)) n.0 in
    let b = and_parts (is_text_value v)
    (same_forest (forest_of ts) (forest_of (entry_lines (around k) e0)) && is_entry k e0) a.1 in
    let c = and_parts (same_forest (forest_of ts) (forest_of (entry_lines (around k) e0))) (is_entry k e0) b.1 in
    ap (λ (x : model.Entry). bytes_eq (k.tag x.source) (codes "SOUR")) (sym n.1)
    ∙ (and_parts (bytes_eq (k.tag e0.source) (codes "SOUR")) _ c.1).0

entry_names_source : (rs : Lines) (r : Tree Line) (e : model.Entry) → entry_at rs r ≡ Some e
    → bytes_eq (tag_at rs e.source) (codes "SOUR") ≡ true
entry_names_source rs (node l f) e h =
    elim (bytes_eq l.tag (codes "_REG")) as (λ b. cond b (entry_of (known rs) l.value (list_of f)) None ≡ Some e
    → bytes_eq (tag_at rs e.source) (codes "SOUR") ≡ true) [
      | true ↦ λ g. read_names (known rs) l.value (list_of f) e g
      | false ↦ λ g. absurd cc
    ] h

entry_small : (rs : Lines) (r : Tree Line) (e : model.Entry) → length rs < 2 ^ 32 → entry_at rs r ≡ Some e
    → e.source < 2 ^ 64
entry_small rs r e few h =
    let less : e.source < length rs = source_small rs e.source (entry_names_source rs r e h) in
    omega (arith, less, few)

-- what all nodes are read as names sources by positions
pub small_from : (rs : Lines) → length rs < 2 ^ 32 → (us : Lines) (k : ℕ) → AreSmall (map label (drafts_from rs k us))
small_from rs few [] k = tt
small_from rs few (r ∷ us) k =
    (λ e h. entry_small rs r e few (sym (draft_entry rs k r) ∙ h), small_from rs few us (k + 1))

-- ---- drafts before, and the keys that were seen
-- the key of an entry is that of a draft exactly where the draft is an entry of the same key
key_in : (p : Option (List ℕ)) (e : model.Entry) (d : Draft) → e.source < 2 ^ 64
    → IsSmall d
    → is_key (key_words e) (entry_in d) ≡ same_key d (read (kind.Entry e) p)
key_in p e (read (kind.Entry g) q) he hd = one_key e g he (hd g refl)
key_in p e (read (kind.Place x) q) he hd = refl
key_in p e (read (kind.Repo x) q) he hd = refl
key_in p e (read (kind.Source x) q) he hd = refl
key_in p e (read (kind.Person x) q) he hd = refl
key_in p e (read (kind.Family x) q) he hd = refl
key_in p e (read (kind.Citation x) q) he hd = refl
key_in p e (read (kind.Event x) q) he hd = refl
key_in p e (read (kind.Other x) q) he hd = refl
key_in p e (sought path) he hd = refl

keys_in : (p : Option (List ℕ)) (e : model.Entry) (ds : List Draft) → e.source < 2 ^ 64 → AreSmall ds
    → list_any (λ d. is_key (key_words e) (entry_in d)) ds ≡ list_any (λ d. same_key d (read (kind.Entry e) p)) ds
keys_in p e [] he hs = refl
keys_in p e (d ∷ ds) he hs = (λ i. key_in p e d he hs.0 i || keys_in p e ds he hs.1 i)

-- no draft has the key of what is no entry
no_one : (x y : Draft) → entry_in y ≡ None → same_key x y ≡ false
no_one (read (kind.Entry g) q) (read (kind.Entry e) p) h = absurd cc
no_one (read (kind.Entry g) q) (read (kind.Place y) p) h = refl
no_one (read (kind.Entry g) q) (read (kind.Repo y) p) h = refl
no_one (read (kind.Entry g) q) (read (kind.Source y) p) h = refl
no_one (read (kind.Entry g) q) (read (kind.Person y) p) h = refl
no_one (read (kind.Entry g) q) (read (kind.Family y) p) h = refl
no_one (read (kind.Entry g) q) (read (kind.Citation y) p) h = refl
no_one (read (kind.Entry g) q) (read (kind.Event y) p) h = refl
no_one (read (kind.Entry g) q) (read (kind.Other y) p) h = refl
no_one (read (kind.Entry g) q) (sought path) h = refl
no_one (read (kind.Place x) q) y h = refl
no_one (read (kind.Repo x) q) y h = refl
no_one (read (kind.Source x) q) y h = refl
no_one (read (kind.Person x) q) y h = refl
no_one (read (kind.Family x) q) y h = refl
no_one (read (kind.Citation x) q) y h = refl
no_one (read (kind.Event x) q) y h = refl
no_one (read (kind.Other x) q) y h = refl
no_one (sought path) y h = refl

no_key : (d : Draft) (ds : List Draft) → entry_in d ≡ None → list_any (λ b. same_key b d) ds ≡ false
no_key d [] e = refl
no_key d (b ∷ ds) e = (λ i. no_one b d e i || no_key d ds e i)

abbrev AreSeen : (List ℕ → Bool) → List Draft → Type 0
AreSeen seen ds = (words : List ℕ) → seen words ≡ list_any (λ d. is_key words (entry_in d)) ds

seen_is : (seen : List ℕ → Bool) (ds : List Draft) (d : Draft) → AreSeen seen ds → AreSmall ds → IsSmall d
    → is_seen seen (entry_in d) ≡ list_any (λ b. same_key b d) ds
seen_is seen ds (read (kind.Entry e) p) so small own = so (key_words e) ∙ keys_in p e ds (own e refl) small
seen_is seen ds (read (kind.Place x) p) so small own = sym (no_key (read (kind.Place x) p) ds refl)
seen_is seen ds (read (kind.Repo x) p) so small own = sym (no_key (read (kind.Repo x) p) ds refl)
seen_is seen ds (read (kind.Source x) p) so small own = sym (no_key (read (kind.Source x) p) ds refl)
seen_is seen ds (read (kind.Person x) p) so small own = sym (no_key (read (kind.Person x) p) ds refl)
seen_is seen ds (read (kind.Family x) p) so small own = sym (no_key (read (kind.Family x) p) ds refl)
seen_is seen ds (read (kind.Citation x) p) so small own = sym (no_key (read (kind.Citation x) p) ds refl)
seen_is seen ds (read (kind.Event x) p) so small own = sym (no_key (read (kind.Event x) p) ds refl)
seen_is seen ds (read (kind.Other x) p) so small own = sym (no_key (read (kind.Other x) p) ds refl)
seen_is seen ds (sought path) so small own = sym (no_key (sought path) ds refl)

or_turn : (a b : Bool) → (a || b) ≡ (b || a)
or_turn true true = refl
or_turn true false = refl
or_turn false true = refl
or_turn false false = refl

pub second_is : (us : List Draft) (k : ℕ) (seen : List ℕ → Bool) (ds : List Draft) → AreSeen seen ds → AreSmall ds
    → AreSmall us → second_by k seen us ≡ second_among k ds us
second_is [] k seen ds so before small = refl
second_is (d ∷ us) k seen ds so before small =
    let test : is_seen seen (entry_in d) ≡ list_any (λ b. same_key b d) ds = seen_is seen ds d so before small.0 in
    let more : AreSeen (seen_with seen (entry_in d)) (d ∷ ds) =
    λ words. or_turn (seen words) (is_key words (entry_in d)) ∙ ap (λ b. is_key words (entry_in d) || b) (so words) in
    (λ i. cond (test i) (Some k) (second_is us (k + 1) (seen_with seen (entry_in d)) (d ∷ ds) more
    (small.0, before) small.1 i))

-- ---- of the lines of a file
pub second_told : (rs us : Lines) (k : ℕ) (ds : List Draft)
    → second_among k ds (map label (drafts_from rs k us)) ≡ second rs k ds us
second_told rs [] k ds = refl
second_told rs (r ∷ us) k ds =
    ap (cond (list_any (λ b. same_key b (label (draft_at rs k r))) ds) (Some k))
    (second_told rs us (k + 1) (label (draft_at rs k r) ∷ ds))

-- ---- the drafts of code

said_labels : (ds : List code.Draft) → map said_of ds ≡ map label (map draft_tree ds)
said_labels ds = sym (map_map label draft_tree ds)

pub small_drafts : (ks : List FileNode) (ds : List code.Draft) → length ks < 2 ^ 32
    → map draft_tree ds ≡ drafts_from (roots ks) 0 (roots ks) → AreSmall (map said_of ds)
small_drafts ks ds few e =
    subst AreSmall (sym (said_labels ds ∙ ap (map label) e))
    (let n = roots_length ks in small_from (roots ks) (omega (arith, n, few)) (roots ks) 0)

pub position_is : (ks : List FileNode) (ds : List code.Draft) → map draft_tree ds ≡ drafts_from (roots ks) 0 (roots ks)
    → second_among 0 [] (map said_of ds) ≡ second_position ks
position_is ks ds e = ap (second_among 0 []) (said_labels ds ∙ ap (map label) e)
    ∙ second_told (roots ks) (roots ks) 0 []

-- ---- drafts one after the other
pub empty_none : {Y : Type 0} (s : BTreeSet (String Y)) → IsEmpty s → (x : List ℕ) → contains_text s x ≡ false
empty_none {Y} s e x =
    ap (λ (ks : List (String Y)). list_any (is_at (λ k. slice_cmp nat_cmp x (string_bytes k))) ks) e

none_seen : (keys : List ℕ → Bool) → ((x : List ℕ) → keys x ≡ false) → keys ≡ (λ x. false)
none_seen keys h = λ i x. h x i

pub begun : (keys : List ℕ → Bool) (us : List Draft) → ((x : List ℕ) → keys x ≡ false)
    → second_by 0 keys us ≡ second_by 0 (λ x. false) us
begun keys us h = ap (λ seen. second_by 0 seen us) (none_seen keys h)

pub passed : (d : code.Draft) (rest us : List Draft) (k j : ℕ) (old new : List ℕ → Bool) (all : Option ℕ)
    → us ≡ said_of d ∷ rest → j ≡ k + 1 → is_seen old (entry_in (said_of d)) ≡ false
    → ((x : List ℕ) → new x ≡ seen_with old (entry_in (said_of d)) x) → second_by k old us ≡ all
    → second_by j new rest ≡ all
passed d rest us k j old new all e next other more so =
    let seen : new ≡ seen_with old (entry_in (said_of d)) = λ i x. more x i in
    (λ i. second_by (next i) (seen i) rest)
    ∙ sym (ap (λ b. cond b (Some k) (second_by (k + 1) (seen_with old (entry_in (said_of d))) rest)) other)
    ∙ ap (second_by k old) (sym e) ∙ so

pub stopped : (d : code.Draft) (rest us : List Draft) (k : ℕ) (old : List ℕ → Bool) (all : Option ℕ)
    → us ≡ said_of d ∷ rest → is_seen old (entry_in (said_of d)) ≡ true → second_by k old us ≡ all → Some k ≡ all
stopped d rest us k old all e is so =
    sym (ap (λ b. cond b (Some k) (second_by (k + 1) (seen_with old (entry_in (said_of d))) rest)) is)
    ∙ ap (second_by k old) (sym e) ∙ so

pub ended : (us : List Draft) (k : ℕ) (old : List ℕ → Bool) (all : Option ℕ) → us ≡ [] → second_by k old us ≡ all
    → None ≡ all
ended us k old all empty so = ap (second_by k old) (sym empty) ∙ so

pub front_said : (ds : List code.Draft) (i : ℕ) (d : code.Draft) → i < length ds → d ≡ get_or ds i d
    → map said_of (drop i ds) ≡ said_of d ∷ map said_of (drop (i + 1) ds)
front_said ds i d h e =
    let one : suc i ≡ i + 1 = omega arith in
    ap (map said_of) (drop-cons ds i d h ∙ ap (λ y. y ∷ drop (suc i) ds) (sym e)
    ∙ ap (λ k. d ∷ drop k ds) one)

pub none_left : (ds : List code.Draft) (i : ℕ) → length ds ≤ i → map said_of (drop i ds) ≡ []
none_left ds i h = ap (map said_of) (drop_of_length-le ds h)

pub seconds_are : (ds : List Draft) → AreSmall ds → second_by 0 (λ x. false) ds ≡ second_among 0 [] ds
seconds_are ds small = second_is ds 0 (λ x. false) [] (λ x. refl) tt small

-- ---- the line of a node
pub line_there : (ns : List (Bor Node)) (ks : List FileNode) (k : ℕ) (n : Bor Node) → trees_at ns ≡ ks
    → slice_get ns k ≡ Some n → Some ((out-Node n.now).line) ≡ line_of ks k
line_there ns ks k n same at =
    sym (ap (λ ts. option_map (λ (t : FileNode). (label t).line) (slice_get ts k)) (sym same)
    ∙ ap (option_map (λ (t : FileNode). (label t).line))
    (slice_get-map (λ (m : Bor Node). tree_of m.now) ns k ∙ ap (option_map (λ (m : Bor Node). tree_of m.now)) at)
    ∙ ap (λ (t : FileNode). Some (label t).line) (tree_out n.now))

pub line_nowhere : (ns : List (Bor Node)) (ks : List FileNode) (k : ℕ) → trees_at ns ≡ ks
    → slice_get ns k ≡ None → None ≡ line_of ks k
line_nowhere ns ks k same at =
    sym (ap (λ ts. option_map (λ (t : FileNode). (label t).line) (slice_get ts k)) (sym same)
    ∙ ap (option_map (λ (t : FileNode). (label t).line))
    (slice_get-map (λ (m : Bor Node). tree_of m.now) ns k ∙ ap (option_map (λ (m : Bor Node). tree_of m.now)) at))
