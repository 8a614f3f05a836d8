-- What the smallest tests answer, and tests of all tags and texts of lines and of fields.
use Rattle.std.proofs.Common.{◌≡◌, ℕ, List, [], ◌∷◌, ◌++◌, Bool, true, ◌&&◌, map, refl, sym, ap, ◌∙◌}
use Rattle.std.specs.Bool.{Decides}
use Rattle.std.specs.List.{list_all, flat_map}
use Rattle.std.proofs.lemmas.Bool.Decides.{same_from_decides}
use Rattle.std.proofs.lemmas.List.Folds.{list_all-append, list_all-map}
use Rattle.stored_lines.specs.Tree.{Tree, Forest, node, none, more}
use Rattle.stored_lines.specs.Line.{Line, Lines}
use Rattle.record_kinds.specs.Model as model
use Rattle.record_text.specs.Text.{IsText}
use Rattle.record_kinds.specs.declared.record.Record.{Record}
use Rattle.archive_state.specs.Carried.{carried, carried_tags, tags, forest_tags}
use Rattle.archive_state.specs.Sound.{own_tags}
use Rattle.archive_state.specs.Texts.{
  there,
  carried_texts,
  date_texts,
  event_texts,
  own_texts,
  source_texts,
  value_texts,
  mention_texts,
  line_texts,
  forest_texts,
}
use Rattle.record_rules.specs.Judged.{has_tags, has_texts, is_of_records, is_text}
use Rattle.record_rules.specs.Lines.{line_all, forest_all, lines_all}
use Rattle.record_rules.proofs.Flat.{all_flat}
use Rattle.record_rules.proofs.Parts.{text}

pub text_passes : (t : List ℕ) → IsText t → is_text t ≡ true
text_passes t h = (text t).1 h

pub text_decided : (t : List ℕ) (b : Bool) → Decides b (IsText t) → b ≡ is_text t
text_decided t b h = same_from_decides b (is_text t) h (text t)

-- ---- the tags of lines
mutual
  tree_tags : (t : Tree Line) → line_all (λ (l : Line). is_of_records l.tag) t ≡ list_all is_of_records (tags t)
  tree_tags (node l f) = ap (λ b. is_of_records l.tag && b) (forest_tags_are f)

  forest_tags_are : (f : Forest Line) → forest_all (λ (l : Line). is_of_records l.tag) f ≡ list_all is_of_records
      (forest_tags f)
  forest_tags_are none = refl
  forest_tags_are (more t f) = ap (λ b. b && forest_all (λ (l : Line). is_of_records l.tag) f) (tree_tags t)
      ∙ ap (λ b. list_all is_of_records (tags t) && b) (forest_tags_are f)
      ∙ sym (list_all-append is_of_records (tags t) (forest_tags f))

pub lines_tags : (ts : Lines) → lines_all (λ (l : Line). is_of_records l.tag) ts ≡ list_all is_of_records
    (flat_map tags ts)
lines_tags [] = refl
lines_tags (t ∷ ts) = ap (λ b. b && lines_all (λ (l : Line). is_of_records l.tag) ts) (tree_tags t)
    ∙ ap (λ b. list_all is_of_records (tags t) && b) (lines_tags ts)
    ∙ sym (list_all-append is_of_records (tags t) (flat_map tags ts))

-- ---- their texts
abbrev text_fits : Line → Bool
text_fits l = list_all is_text (value_texts l.value)

mutual
  tree_texts : (t : Tree Line) → line_all text_fits t ≡ list_all is_text (line_texts t)
  tree_texts (node l f) = ap (λ b. text_fits l && b) (forest_texts_are f)
      ∙ sym (list_all-append is_text (value_texts l.value) (forest_texts f))

  forest_texts_are : (f : Forest Line) → forest_all text_fits f ≡ list_all is_text (forest_texts f)
  forest_texts_are none = refl
  forest_texts_are (more t f) = ap (λ b. b && forest_all text_fits f) (tree_texts t)
      ∙ ap (λ b. list_all is_text (line_texts t) && b) (forest_texts_are f)
      ∙ sym (list_all-append is_text (line_texts t) (forest_texts f))

pub lines_texts : (ts : Lines) → lines_all (λ (l : Line). list_all is_text (value_texts l.value)) ts ≡ list_all is_text
    (flat_map line_texts ts)
lines_texts [] = refl
lines_texts (t ∷ ts) = ap (λ b. b && lines_all text_fits ts) (tree_texts t)
    ∙ ap (λ b. list_all is_text (line_texts t) && b) (lines_texts ts)
    ∙ sym (list_all-append is_text (line_texts t) (flat_map line_texts ts))

-- ---- the texts of fields
pub name_texts : (ns : List model.Name) → list_all is_text (map (λ (n : model.Name). n.text) ns) ≡ list_all
    (λ (n : model.Name). is_text n.text) ns
name_texts ns = list_all-map is_text (λ (n : model.Name). n.text) ns

pub event_all : (e : model.Event) → list_all is_text (event_texts e) ≡ (is_text e.value
    && (list_all is_text (date_texts e.date) && list_all (λ (p : model.Participant). is_text p.role) e.participants))
event_all e = ap (λ b. is_text e.value && b)
    (list_all-append is_text (date_texts e.date) (map (λ (p : model.Participant). p.role) e.participants)
    ∙ ap (λ b. list_all is_text (date_texts e.date) && b)
    (list_all-map is_text (λ (p : model.Participant). p.role) e.participants))

pub source_all : (s : model.Source) → list_all is_text (source_texts s) ≡ (list_all is_text (there s.title)
    && (list_all is_text (there s.author) && (list_all is_text (there s.publisher)
    && list_all (λ (h : model.Holding). list_all is_text (there h.call_number)) s.holdings)))
source_all s =
    let calls = λ (h : model.Holding). there h.call_number in
    let last = flat_map calls s.holdings in
    list_all-append is_text (there s.title) (there s.author ++ (there s.publisher ++ last))
    ∙ ap (λ b. list_all is_text (there s.title) && b)
    (list_all-append is_text (there s.author) (there s.publisher ++ last)
    ∙ ap (λ b. list_all is_text (there s.author) && b)
    (list_all-append is_text (there s.publisher) last
    ∙ ap (λ b. list_all is_text (there s.publisher) && b) (all_flat is_text calls s.holdings)))

pub mentions_texts : (ms : List model.Mention) → list_all is_text (flat_map mention_texts ms)
    ≡ list_all (λ (m : model.Mention). list_all is_text (mention_texts m)) ms
mentions_texts ms = all_flat is_text mention_texts ms

-- ---- all of a record
pub tags_all : (r : Record) → has_tags r ≡ (list_all is_of_records (own_tags r)
    && lines_all (λ (l : Line). is_of_records l.tag) (carried r))
tags_all r = list_all-append is_of_records (own_tags r) (carried_tags r)
    ∙ ap (λ b. list_all is_of_records (own_tags r) && b) (sym (lines_tags (carried r)))

pub texts_all : (r : Record) → has_texts r ≡ (list_all is_text (own_texts r)
    && lines_all (λ (l : Line). list_all is_text (value_texts l.value)) (carried r))
texts_all r = list_all-append is_text (own_texts r) (carried_texts r)
    ∙ ap (λ b. list_all is_text (own_texts r) && b) (sym (lines_texts (carried r)))
