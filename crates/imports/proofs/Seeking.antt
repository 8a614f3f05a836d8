-- What the nodes of a file are read as seeks places only by paths.
use Rattle.std.proofs.Common.{◌≡◌, ℕ, ◌+◌, Bool, true, false, not, cond, List, [], ◌∷◌, ◌++◌, refl, ap, ◌∙◌, arith}
use Rattle.std.specs.Prelude.{Option, Some, None, IfSome, option_map, ◌&&◌, bytes_eq, codes, map}
use Rattle.std.specs.List.{flat_map}
use Rattle.std.proofs.lemmas.Bool.{and_parts}
use Rattle.stored_lines.specs.Tree.{Tree, Forest, node, none, more, children, forest_of, list_of, relabel_all}
use Rattle.stored_lines.specs.Line.{Line, Lines}
use Rattle.stored_lines.specs.declared.carried.Value.{Value}
use Rattle.stored_lines.specs.declared.carried.Value.TheVariants as value
use Rattle.record_text.specs.Text.{IsPlain}
use Rattle.record_kinds.specs.declared.record.Record.TheVariants as kind
use Rattle.record_shapes.specs.declared.field.Field.{Field}
use Rattle.record_shapes.specs.Fields.{
  a_citation,
  a_date,
  a_participant,
  a_place,
  an_event,
  carried,
  event_field,
  family_field,
  is_citation,
  is_place_text,
  is_same,
  person_field,
  row,
}
use Rattle.record_shapes.specs.Forms.{
  Known,
  below,
  is_bare,
  is_text,
  names_a,
  tagged,
  text_in,
  text_of,
  value_of,
}
use Rattle.record_shapes.specs.Lists.{EachOf}
use Rattle.record_shapes.specs.Paths.{has_part, is_within_limits, normal}
use Rattle.record_shapes.specs.Reading.{
  Draft,
  below_event,
  citation_draft,
  draft_if,
  draft_of,
  place_named,
  read,
  sought,
  sought_drafts,
  sought_on,
  unless_named,
}
use Rattle.gedcom_line.specs.Value.{Meaning, Text, Pointer}
use Rattle.field_rows.proofs.Plain.{name_is_plain}
use Rattle.import_definitions.specs.Nodes.{FileLine, FileNode, HaveLines, IsSaid}
use Rattle.import_definitions.specs.Lines.{Lined, lined_root, put, resolve, resolved, roots, unlined, place_in}
use Rattle.import_definitions.specs.Views.{AreInFile}
use Rattle.import_definitions.specs.Positions.{known, known_before}
use Rattle.import_definitions.specs.Sides.{drafts_from, root_with_sides, with_sides}
use Rattle.import_numbers.specs.Settling.{IsPathText}
use Rattle.imports.specs.Drafts.{AllSeekByPaths, SeeksByPaths}
use Rattle.record_shapes.proofs.Names.{normal_twice}

-- ---- plain lines
abbrev IsPlainValue : Value → Type 0
IsPlainValue (value.Text t) = IsPlain t
IsPlainValue (value.Ref n) = Unit {0}

abbrev mutual
  -- a line whose text is plain, and those below it
  Plain : Tree Line → Type 0
  Plain (node l f) = IsPlainValue l.value × AllPlain f

  AllPlain : Forest Line → Type 0
  AllPlain none = Unit {0}
  AllPlain (more t f) = Plain t × AllPlain f

all_listed : (f : Forest Line) → AllPlain f → EachOf Plain (list_of f)
all_listed none h = tt
all_listed (more t f) h = (h.0, all_listed f h.1)

below_plain : (t : Tree Line) → Plain t → EachOf Plain (below t)
below_plain (node l f) h = all_listed f h.1

text_plain : (t : Tree Line) → Plain t → IsPlain (text_of t)
text_plain (node l f) h = by l.value h.0
  where
    by : (v : Value) → IsPlainValue v → IsPlain (text_in v)
    by (value.Text t) k = k
    by (value.Ref n) k = record { no_nul = refl; no_cr = refl; short = omega arith }

-- ---- the lines of a file
abbrev bare : Forest Lined → Forest Line
bare f = relabel_all (λ (l : Lined). l.1) f

put_plain : (l : FileLine) (v : Option Value) (low behind : Forest Lined) → IfSome v IsPlainValue → AllPlain (bare low)
    → AllPlain (bare behind) → AllPlain (bare (put l v low behind))
put_plain l None low behind h b c = c
put_plain l (Some v) low behind h b c = ((h, b), c)

value_plain : (at : List ℕ → Option ℕ) (m : Meaning) → IsSaid m → IfSome (resolve at m) IsPlainValue
value_plain at (Text t) h = h
value_plain at (Pointer name) h = by (at name)
  where
    by : (o : Option ℕ) → IfSome (option_map value.Ref o) IsPlainValue
    by None = tt
    by (Some k) = tt

resolved_plain : (at : List ℕ → Option ℕ) (f : Forest FileLine) → HaveLines f → AllPlain (bare (resolved at f))
resolved_plain at none h = tt
resolved_plain at (more (node l f) ts) h =
    put_plain l (resolve at l.value) (resolved at f) (resolved at ts) (value_plain at l.value h.0.0.value)
    (resolved_plain at f h.0.1) (resolved_plain at ts h.1)

abbrev HasPlain : Tree Line → Type 0
HasPlain t = AllPlain (children t)

roots_plain : (at : List ℕ → Option ℕ) (ts : List FileNode) → AreInFile ts
    → EachOf HasPlain (map unlined (map (lined_root at) ts))
roots_plain at [] h = tt
roots_plain at (node l f ∷ ts) h = (resolved_plain at f h.0.lines.1, roots_plain at ts h.1)

-- ---- events
module _ (known : Known) where
  place_met : (date place part cited : Bool) → is_same (row date a_date
      (row place a_place (row part a_participant (row cited a_citation carried)))) a_place ≡ true → place ≡ true
  place_met true place part cited e = absurd cc
  place_met false true part cited e = refl
  place_met false false true cited e = absurd cc
  place_met false false false true e = absurd cc
  place_met false false false false e = absurd cc

  path_met : (t : Tree Line) → is_same (event_field known t) a_place ≡ true
      → is_within_limits (normal (text_of t)) ≡ true
  path_met t e =
      let met = place_met (tagged (codes "DATE") t && is_bare t)
      (tagged (codes "PLAC") t && (is_text t && is_place_text (text_of t)))
      (tagged (codes "_PART") t && names_a (codes "INDI") known (value_of t)) (is_citation known t) e in
      let said = (and_parts (is_text t) (is_place_text (text_of t))
      (and_parts (tagged (codes "PLAC") t) (is_text t && is_place_text (text_of t)) met).1).1 in
      (and_parts (is_within_limits (normal (text_of t))) (has_part (normal (text_of t))) said).0

  path_is : (t : Tree Line) → Plain t → is_same (event_field known t) a_place ≡ true → IsPathText (normal (text_of t))
  path_is t h e = record {
    plain = name_is_plain (text_of t) (normal (text_of t)) (is_within_limits (normal (text_of t))) refl
        (text_plain t h) refl (path_met t e);
    within = ap is_within_limits (normal_twice (text_of t)) ∙ path_met t e;
  }

  seeks_both : (xs ys : List (Tree Draft)) → AllSeekByPaths (forest_of xs) → AllSeekByPaths (forest_of ys)
      → AllSeekByPaths (forest_of (xs ++ ys))
  seeks_both [] ys h k = k
  seeks_both (x ∷ xs) ys h k = (h.0, seeks_both xs ys h.1 k)

  sought_seeks : (t : Tree Line) → Plain t → is_same (event_field known t) a_place ≡ true
      → AllSeekByPaths (forest_of (sought_drafts (sought_on known (Some t))))
  sought_seeks t h e = by (place_named known t)
    where
      by : (found : Option (Tree Line))
          → AllSeekByPaths (forest_of (sought_drafts (unless_named (normal (text_of t)) found)))
      by None = (path_is t h e, tt)
      by (Some loc) = tt

  below_seeks : (done : Bool) (ts : Lines) → EachOf Plain ts → AllSeekByPaths (forest_of (below_event known done ts))
  below_seeks done [] h = tt
  below_seeks done (t ∷ ts) h =
      elim (is_same (event_field known t) a_citation) as (λ b. AllSeekByPaths (forest_of
      (cond b (citation_draft t ∷ below_event known done ts)
      (cond (not done && is_same (event_field known t) a_place)
      (sought_drafts (sought_on known (Some t)) ++ below_event known true ts) (below_event known done ts))))) [
        | true ↦ (tt, below_seeks done ts h.1)
        | false ↦ elim (not done && is_same (event_field known t) a_place) as (λ b.
            (not done && is_same (event_field known t) a_place) ≡ b → AllSeekByPaths (forest_of
            (cond b (sought_drafts (sought_on known (Some t)) ++ below_event known true ts)
            (below_event known done ts)))) [
              | true ↦ λ e. seeks_both (sought_drafts (sought_on known (Some t))) (below_event known true ts)
                  (sought_seeks t h.0 (and_parts (not done) (is_same (event_field known t) a_place) e).1)
                  (below_seeks true ts h.1)
              | false ↦ λ e. below_seeks done ts h.1
            ] refl
      ]

  owned_seeks : (x : Field) (t : Tree Line) → Plain t → AllSeekByPaths (forest_of (draft_if known x t))
  owned_seeks an_event t h = (below_seeks false (below t) (below_plain t h), tt)
  owned_seeks a_citation t h = (tt, tt)
  owned_seeks _ t h = tt

  all_owned_seek : (field : Tree Line → Field) (ts : Lines) → EachOf Plain ts
      → AllSeekByPaths (forest_of (flat_map (λ t. draft_if known (field t) t) ts))
  all_owned_seek field [] h = tt
  all_owned_seek field (t ∷ ts) h = seeks_both (draft_if known (field t) t)
      (flat_map (λ u. draft_if known (field u) u) ts) (owned_seeks (field t) t h.0) (all_owned_seek field ts h.1)

-- ---- nodes
either : (b : Bool) (x y : Tree Draft) → SeeksByPaths x → SeeksByPaths y → SeeksByPaths (cond b x y)
either true x y h k = h
either false x y h k = k

draft_seeks : (earlier known : Known) (l : Line) (f : Forest Line) → AllPlain f
    → SeeksByPaths (draft_of earlier known (node l f))
draft_seeks earlier known l f h =
    either (bytes_eq l.tag (codes "_LOC")) _ _ tt
    (either (bytes_eq l.tag (codes "REPO")) _ _ tt
    (either (bytes_eq l.tag (codes "SOUR")) _ _ tt
    (either (bytes_eq l.tag (codes "INDI")) _ _ (all_owned_seek known (person_field known) (list_of f) (all_listed f h))
    (either (bytes_eq l.tag (codes "FAM")) _ _ (all_owned_seek known (family_field known) (list_of f) (all_listed f h))
    tt))))

sides_seek : (rs : Lines) (k : ℕ) (d : Draft) (f : Forest Draft) → SeeksByPaths (node d f)
    → SeeksByPaths (node (with_sides rs k d) f)
sides_seek rs k (read (kind.Family p) path) f h = h
sides_seek rs k (read r path) f h = h
sides_seek rs k (sought path) f h = h

root_seeks : (rs : Lines) (k : ℕ) (t : Tree Draft) → SeeksByPaths t → SeeksByPaths (root_with_sides rs k t)
root_seeks rs k (node d f) h = sides_seek rs k d f h

nodes_seek : (rs : Lines) (k : ℕ) (ts : Lines) → EachOf HasPlain ts → EachOf SeeksByPaths (drafts_from rs k ts)
nodes_seek rs k [] h = tt
nodes_seek rs k (node l f ∷ ts) h = (
  root_seeks rs k (draft_of (known_before rs k) (known rs) (node l f))
      (draft_seeks (known_before rs k) (known rs) l f h.0),
  nodes_seek rs (k + 1) ts h.1,
)

lines_plain : (ts : List FileNode) → AreInFile ts → EachOf HasPlain (roots ts)
unfolding roots
lines_plain ts h = roots_plain (place_in ts) ts h

pub drafts_seek : (ks : List FileNode) → AreInFile ks → EachOf SeeksByPaths (drafts_from (roots ks) 0 (roots ks))
drafts_seek ks h = nodes_seek (roots ks) 0 (roots ks) (lines_plain ks h)
