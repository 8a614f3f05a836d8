-- The lines of a file's nodes: tags, texts, levels, and pointers to nodes that are there.
use Rattle.std.proofs.Common.{
  ◌≡◌,
  ℕ,
  ◌+◌,
  ◌-◌,
  suc,
  ◌<◌,
  ◌≤◌,
  Bool,
  true,
  false,
  not,
  cond,
  List,
  [],
  ◌∷◌,
  ◌++◌,
  length,
  map,
  refl,
  sym,
  ap,
  ◌∙◌,
  subst,
  arith,
}
use Rattle.std.specs.Prelude.{Option, Some, None, option_map, ◌&&◌, nat_lt, nat_le, codes}
use Rattle.std.specs.List.{list_all}
use Rattle.std.proofs.lemmas.Bool.{and_parts, ltb-true, leb-true}
use Rattle.stored_lines.specs.Levels.{forest_levels}
use Rattle.stored_lines.specs.Line.{Line}
use Rattle.stored_lines.specs.Tree.{Tree, Forest, node, none, more, relabel_all}
use Rattle.stored_lines.specs.declared.carried.Value.{Value}
use Rattle.stored_lines.specs.declared.carried.Value.TheVariants as value
use Rattle.record_fields.specs.Bytes.{bytes_same}
use Rattle.archive_state.specs.Carried.{forest_tags}
use Rattle.archive_state.specs.Links.{Link, forest_links, value_links}
use Rattle.record_text.specs.Text.{IsText}
use Rattle.record_shapes.specs.Lists.{EachOf}
use Rattle.archive_state.specs.Sound.{IsOfRecords}
use Rattle.archive_state.specs.Texts.{forest_texts, value_texts}
use Rattle.gedcom_line.specs.Reading.{is_continuation}
use Rattle.gedcom_line.specs.Value.{Meaning, Text, Pointer}
use Rattle.gedcom_line.specs.Words.{is_word}
use Rattle.gedcom_tree.specs.Forest.{Item}
use Rattle.gedcom_tree.specs.Text.{IsForest, IsNodeValue, is_tag}
use Rattle.import_definitions.specs.Kinds.{is_other, kind_named}
use Rattle.import_definitions.specs.Lines.{
  Lined,
  lined_root,
  lined_roots,
  place_in,
  position_from,
  put,
  resolve,
  resolved,
  root_value,
  roots,
  unlined,
  value_or_empty,
}
use Rattle.import_definitions.specs.Nodes.{FileLine, FileNode, nodes_of}
use Rattle.import_definitions.specs.Roots.{behind_first, candidates, is_called, is_kept, is_society, kept}
use Rattle.imports.specs.Read.{FilesHaveNodes, IsNode, PointsWithin, rows}
use Rattle.imports.proofs.Fine.{empty_text}
use Rattle.imports.proofs.Grown.{HaveFileLines, IsFileLine, IsRoot, all_roots}
use Rattle.imports.proofs.SoundLists.{each_filter}
use Rattle.import_definitions.proofs.InFile.{text_free}
use Rattle.record_shapes.proofs.Each.{each_both, each_more, each_mapped}

-- ---- tags and texts
tag_fits : (tag : List ℕ) → is_tag tag ≡ true → is_continuation tag ≡ false → IsOfRecords tag
tag_fits tag h own =
    let a = and_parts (list_all is_word tag && nat_lt 0 (length tag)) (nat_le (length tag) 31) h in
    let b = and_parts (list_all is_word tag) (nat_lt 0 (length tag)) a.0 in (
      record { some = ltb-true 0 (length tag) b.1; short = leb-true (length tag) 31 a.1; words = b.0 },
      (λ (e : tag ≡ codes "CONC"). let no : true ≡ false = ap is_continuation (sym e) ∙ own in cc),
      (λ (e : tag ≡ codes "CONT"). let no : true ≡ false = ap is_continuation (sym e) ∙ own in cc),
    )

text_fits : (t : List ℕ) → IsNodeValue (Text t) → IsText t
text_fits t h = let free = text_free t h.1.0 in
    record { utf8 = h.0; no_nul = free.0; no_cr = free.1; short = h.1.1 }

-- ---- pointers
position_low : {A : Type 0} (P : A → Bool) (k : ℕ) (xs : List A) (n : ℕ) → position_from P k xs ≡ Some n
    → n < k + length xs
position_low P k [] n e = absurd cc
position_low P k (x ∷ xs) n e =
    elim (P x) as (λ b. cond b (Some k) (position_from P (k + 1) xs) ≡ Some n → n < k + length (x ∷ xs)) [
      | true ↦ λ f. let same : k ≡ n = cc in omega arith
      | false ↦ λ f. let low : n < (k + 1) + length xs = position_low P (k + 1) xs n f in omega arith
    ] e

-- ---- lines below
module _ (count : ℕ) (place : List ℕ → Option ℕ) (low : (name : List ℕ) (n : ℕ) → place name ≡ Some n → n < count) where
  abbrev IsLow : Link → Type 0
  IsLow l = l.0 < count

  -- a value that is there
  record IsValueOf (v : Value) : Type 0 where
    texts : EachOf IsText (value_texts v)
    links : EachOf IsLow (value_links v)

  resolved_value : (m : Meaning) (v : Value) → IsNodeValue m → resolve place m ≡ Some v → IsValueOf v
  resolved_value (Text t) v h e =
      let same : value.Text t ≡ v = cc in
      subst IsValueOf same (record { texts = (text_fits t h, tt); links = tt })
  resolved_value (Pointer name) v h e = by (place name) refl e
    where
      by : (o : Option ℕ) → place name ≡ o → option_map value.Ref o ≡ Some v → IsValueOf v
      by None is f = absurd cc
      by (Some n) is f =
          let same : value.Ref n ≡ v = cc in
          subst IsValueOf same (record { texts = tt; links = (low name n is, tt) })

  -- lines side by side
  record AreFiled (n : ℕ) (f : Forest Line) : Type 0 where
    of_tags : EachOf IsOfRecords (forest_tags f)
    of_texts : EachOf IsText (forest_texts f)
    deep : forest_levels f ≤ n
    links : EachOf IsLow (forest_links f)

  abbrev out : Forest Lined → Forest Line
  out f = relabel_all (λ (l : Lined). l.1) f

  put_filed : (n : ℕ) (l : FileLine) (o : Option Value) (below behind : Forest Lined) → IsFileLine l
      → ((v : Value) → o ≡ Some v → IsValueOf v) → AreFiled n (out below) → AreFiled (n + 1) (out behind)
      → AreFiled (n + 1) (out (put l o below behind))
  put_filed n l None below behind h v one rest = rest
  put_filed n l (Some x) below behind h v one rest =
      let own : IsValueOf x = v x refl in
      let deep : forest_levels (out below) ≤ n = one.deep in
      let beside : forest_levels (out behind) ≤ n + 1 = rest.deep in
      record {
        of_tags = (
          tag_fits l.tag h.tag h.own,
          each_both IsOfRecords (forest_tags (out below))
              (forest_tags (out behind)) one.of_tags rest.of_tags,
        );
        of_texts = each_both IsText (value_texts x ++ forest_texts (out below)) (forest_texts (out behind))
            (each_both IsText (value_texts x) (forest_texts (out below)) own.texts one.of_texts) rest.of_texts;
        deep = omega arith;
        links = each_both IsLow (value_links x ++ forest_links (out below)) (forest_links (out behind))
            (each_both IsLow (value_links x) (forest_links (out below)) own.links one.links) rest.links;
      }

  wider : (n m : ℕ) → n ≤ m → (f : Forest Line) → AreFiled n f → AreFiled m f
  wider n m less f h = let deep : forest_levels f ≤ n = h.deep in
      record { of_tags = h.of_tags; of_texts = h.of_texts; deep = omega arith; links = h.links }

  all_filed : (n : ℕ) (f : Forest FileLine) → HaveFileLines f → forest_levels f ≤ n
      → AreFiled n (out (resolved place f))
  all_filed n none h less = record { of_tags = tt; of_texts = tt; deep = omega arith; links = tt }
  all_filed n (more (node l f) ts) h less =
      let inner : AreFiled (forest_levels f) (out (resolved place f)) = all_filed (forest_levels f) f h.0.1
      (omega arith) in
      let behind : AreFiled n (out (resolved place ts)) = all_filed n ts h.1 (omega arith) in
      let room : (n - 1) + 1 ≡ n = omega arith in
      subst (λ m. AreFiled m (out (put l (resolve place l.value) (resolved place f) (resolved place ts)))) room
      (put_filed (n - 1) l (resolve place l.value) (resolved place f) (resolved place ts) h.0.0
      (λ v e. resolved_value l.value v h.0.0.value e)
      (wider (forest_levels f) (n - 1) (omega arith) (out (resolved place f)) inner)
      (subst (λ m. AreFiled m (out (resolved place ts))) (sym room) behind))

  -- ---- nodes
  empty_value : IsValueOf (value.Text [])
  empty_value = record { texts = (empty_text, tt); links = tt }

  root_value_is : (l : FileLine) → IsFileLine l → IsValueOf (root_value place l)
  root_value_is l h =
      elim (is_other (kind_named l.tag)) as (λ b. IsValueOf
      (cond b (value_or_empty (resolve place l.value)) (value.Text []))) [
        | true ↦ by (resolve place l.value) refl
        | false ↦ empty_value
      ]
    where
      by : (o : Option Value) → resolve place l.value ≡ o → IsValueOf (value_or_empty o)
      by None e = empty_value
      by (Some v) e = resolved_value l.value v h.value e

  pub root_is : (t : FileNode) → IsRoot t → IsNode (unlined (lined_root place t))
      × PointsWithin count (unlined (lined_root place t))
  root_is (node l f) h =
      let own : IsFileLine l = h.lines.0 in
      let v : IsValueOf (root_value place l) = root_value_is l own in
      let deep : forest_levels f + 1 ≤ 99 = h.low in
      let below : AreFiled 98 (out (resolved place f)) = all_filed 98 f h.lines.1 (omega arith) in
      let less : forest_levels (out (resolved place f)) ≤ 98 = below.deep in (
        record {
          line = record {
            of_tags = (tag_fits l.tag own.tag own.own, below.of_tags);
            of_texts = each_both IsText (value_texts (root_value place l)) (forest_texts (out (resolved place f)))
                v.texts below.of_texts;
            low = omega arith;
          };
          own = λ e. let no : true ≡ false = sym (bytes_same l.tag (codes "TRLR") e) ∙ h.other in cc;
        },
        each_both IsLow (value_links (root_value place l)) (forest_links (out (resolved place f))) v.links below.links,
      )

-- ---- all nodes of a file
pub kept_roots : (f : List Item) → IsForest f → EachOf IsRoot (kept (candidates f))
kept_roots f h = each_filter IsRoot (is_kept (candidates f)) (candidates f)
    (each_filter IsRoot (λ t. not (is_society t)) (behind_first (nodes_of f)) (behind (nodes_of f) (all_roots f h)))
  where
    behind : (ts : List FileNode) → EachOf IsRoot ts → EachOf IsRoot (behind_first ts)
    behind [] h = tt
    behind (t ∷ ts) h = h.1

pub count_same : {A B : Type 0} (g : A → B) (xs : List A) → length (map g xs) ≡ length xs
count_same g [] = refl
count_same g (x ∷ xs) = ap (λ n. suc n) (count_same g xs)

pub files_have_nodes : FilesHaveNodes
unfolding roots
files_have_nodes f h =
    let ks : List FileNode = kept (candidates f) in
    let size : length (rows f) ≡ length ks = count_same unlined (lined_roots ks)
    ∙ count_same (lined_root (place_in ks)) ks in
    let P : Tree Line → Type 0 = λ t. IsNode t × PointsWithin (length ks) t in
    let all : EachOf P (rows f) = each_mapped P unlined (lined_roots ks)
    (each_mapped (λ t. P (unlined t)) (lined_root (place_in ks)) ks
    (each_more IsRoot (λ t. P (unlined (lined_root (place_in ks) t)))
    (root_is (length ks) (place_in ks) (λ name n e. let low : n < 0 + length ks =
    position_low (is_called name) 0 ks n e in omega arith)) ks (kept_roots f h))) in
    subst (λ n. EachOf (λ t. IsNode t × PointsWithin n t) (rows f)) (sym size) all
