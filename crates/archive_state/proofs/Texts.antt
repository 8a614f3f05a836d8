-- The texts, tags and levels of a record with its numbers changed are those of the record.
use Rattle.std.proofs.Common.{◌≡◌, ℕ, [], ◌∷◌, ◌++◌, refl, sym, ap, ◌∙◌, subst, arith}
use Rattle.std.specs.Prelude.{map, Option, Some, None, option_map, IfSome}
use Rattle.std.specs.List.{flat_map}
use Rattle.std.proofs.lemmas.List.{map-append}
use Rattle.stored_lines.specs.Tree.{Tree, Forest, node, none, more, relabel, relabel_all}
use Rattle.stored_lines.specs.Line.{Line, Lines}
use Rattle.stored_lines.specs.declared.carried.Value.{Value}
use Rattle.stored_lines.specs.declared.carried.Value.TheVariants as value
use Rattle.stored_lines.proofs.Levels.{levels-map}
use Rattle.record_text.specs.Text.{IsText}
use Rattle.record_kinds.specs.Model as model
use Rattle.record_kinds.specs.declared.record.Record.{Record}
use Rattle.record_kinds.specs.declared.record.Record.TheVariants as kind
use Rattle.archive_state.specs.Carried.{carried, carried_tags, forest_tags, place_line_carried, tags}
use Rattle.record_shapes.specs.Levels.{AreWithin, HasRoom, room_below}
use Rattle.record_shapes.specs.Lists.{EachOf}
use Rattle.archive_state.specs.Merging.{
  value_with,
  line_with,
  lines_with,
  holding_with,
  name_with,
  partner_with,
  child_with,
  event_place_with,
  participant_with,
  link_with,
  mention_with,
  record_with,
}
use Rattle.archive_state.specs.Sound.{IsOfRecords, own_tags}
use Rattle.archive_state.specs.Texts.{
  carried_texts,
  date_texts,
  forest_texts,
  line_texts,
  mention_texts,
  own_texts,
  reason_texts,
  there,
  value_texts,
}
use Rattle.list_laws.proofs.Lists.{cat, flat_cat, map_same, flat_same}
use Rattle.record_shapes.proofs.Each.{each_more, each_mapped}

-- ---- carried lines
module _ (f : ℕ → ℕ) where
  abbrev pub moved_line : Tree Line → Tree Line
  moved_line = relabel (line_with f)

  place_carried : (o : Option model.EventPlace) → place_line_carried (option_map (event_place_with f) o)
      ≡ map moved_line (place_line_carried o)
  place_carried None = refl
  place_carried (Some p) = refl

  pub carried_moved : (r : Record) → carried (record_with f r) ≡ map moved_line (carried r)
  carried_moved (kind.Place x) = refl
  carried_moved (kind.Repo x) = refl
  carried_moved (kind.Source x) = cat moved_line (flat_map (λ (h : model.Holding). h.carried) x.holdings) x.carried _ _
      (flat_cat moved_line (holding_with f) (λ h. h.carried) (λ h. h.carried) (λ h. refl) x.holdings) refl
  carried_moved (kind.Person x) = cat moved_line (flat_map (λ (n : model.Name). n.carried) x.names) x.carried _ _
      (flat_cat moved_line (name_with f) (λ n. n.carried) (λ n. n.carried) (λ n. refl) x.names) refl
  carried_moved (kind.Family x) =
      cat moved_line (flat_map (λ (p : model.Partner). p.carried ++ p.carried_by_person) x.partners)
      (flat_map (λ (c : model.Child). c.carried ++ c.carried_by_person) x.children ++ x.carried) _ _
      (flat_cat moved_line (partner_with f) (λ p. p.carried ++ p.carried_by_person)
      (λ p. p.carried ++ p.carried_by_person)
      (λ p. sym (map-append moved_line p.carried p.carried_by_person)) x.partners)
      (cat moved_line (flat_map (λ (c : model.Child). c.carried ++ c.carried_by_person) x.children) x.carried _ _
      (flat_cat moved_line (child_with f) (λ c. c.carried ++ c.carried_by_person)
      (λ c. c.carried ++ c.carried_by_person) (λ c. sym (map-append moved_line c.carried c.carried_by_person))
      x.children) refl)
  carried_moved (kind.Citation x) = refl
  carried_moved (kind.Event x) =
      cat moved_line (place_line_carried x.place)
      (flat_map (λ (p : model.Participant). p.carried) x.participants ++ x.carried) _ _ (place_carried x.place)
      (cat moved_line (flat_map (λ (p : model.Participant). p.carried) x.participants) x.carried _ _
      (flat_cat moved_line (participant_with f) (λ p. p.carried) (λ p. p.carried) (λ p. refl) x.participants) refl)
  carried_moved (kind.Entry x) = refl
  carried_moved (kind.Other x) = refl

-- ---- texts

module _ (f : ℕ → ℕ) where
  value_written : (v : Value) → value_texts (value_with f v) ≡ value_texts v
  value_written (value.Text t) = refl
  value_written (value.Ref n) = refl

  mutual
    line_written : (t : Tree Line) → line_texts (relabel (line_with f) t) ≡ line_texts t
    line_written (node l ts) = λ i. value_written l.value i ++ lines_written ts i

    lines_written : (ts : Forest Line) → forest_texts (relabel_all (line_with f) ts) ≡ forest_texts ts
    lines_written none = refl
    lines_written (more t ts) = λ i. line_written t i ++ lines_written ts i

  all_written : (ts : Lines) → flat_map line_texts (lines_with f ts) ≡ flat_map line_texts ts
  all_written ts = flat_same line_texts (relabel (line_with f)) line_written ts

  reason_written : (o : Option model.Link) → reason_texts (option_map (link_with f) o) ≡ reason_texts o
  reason_written None = refl
  reason_written (Some l) = refl

  mention_written : (m : model.Mention) → mention_texts (mention_with f m) ≡ mention_texts m
  mention_written m = ap (λ l. m.name ∷ l) (reason_written m.link)

  own_written : (r : Record) → own_texts (record_with f r) ≡ own_texts r
  own_written (kind.Place x) = refl
  own_written (kind.Repo x) = refl
  own_written (kind.Source x) = ap (λ l. there x.title ++ (there x.author ++ (there x.publisher ++ l)))
      (flat_same (λ (h : model.Holding). there h.call_number) (holding_with f) (λ h. refl) x.holdings)
  own_written (kind.Person x) = map_same (λ (n : model.Name). n.text) (name_with f) (λ n. refl) x.names
  own_written (kind.Family x) = refl
  own_written (kind.Citation x) = refl
  own_written (kind.Event x) = ap (λ l. x.value ∷ (date_texts x.date ++ l))
      (map_same (λ (p : model.Participant). p.role) (participant_with f) (λ p. refl) x.participants)
  own_written (kind.Entry x) = ap (λ l. x.page ∷ (x.text ∷ (date_texts x.date ++ l)))
      (flat_same mention_texts (mention_with f) mention_written x.mentions)
  own_written (kind.Other x) = value_written x.value

  carried_written : (r : Record) → carried_texts (record_with f r) ≡ carried_texts r
  carried_written r = ap (flat_map line_texts) (carried_moved f r) ∙ all_written (carried r)

  pub texts_with : (r : Record) → EachOf IsText (own_texts r ++ carried_texts r)
      → EachOf IsText (own_texts (record_with f r) ++ carried_texts (record_with f r))
  texts_with r h = subst (EachOf IsText) (λ i. sym (own_written r) i ++ sym (carried_written r) i) h

-- ---- tags
module _ (f : ℕ → ℕ) where
  mutual
    line_tags : (t : Tree Line) → tags (relabel (line_with f) t) ≡ tags t
    line_tags (node l ts) = ap (λ x. l.tag ∷ x) (lines_tags ts)

    lines_tags : (ts : Forest Line) → forest_tags (relabel_all (line_with f) ts) ≡ forest_tags ts
    lines_tags none = refl
    lines_tags (more t ts) = λ i. line_tags t i ++ lines_tags ts i

  all_tags : (ts : Lines) → flat_map tags (lines_with f ts) ≡ flat_map tags ts
  all_tags [] = refl
  all_tags (t ∷ ts) = λ i. line_tags t i ++ all_tags ts i

  tags_moved : (r : Record) → carried_tags (record_with f r) ≡ carried_tags r
  tags_moved r = ap (flat_map tags) (carried_moved f r) ∙ all_tags (carried r)

  own_moved : (r : Record) → own_tags (record_with f r) ≡ own_tags r
  own_moved (kind.Place x) = refl
  own_moved (kind.Repo x) = refl
  own_moved (kind.Source x) = refl
  own_moved (kind.Person x) = refl
  own_moved (kind.Family x) = refl
  own_moved (kind.Citation x) = refl
  own_moved (kind.Event x) = refl
  own_moved (kind.Entry x) = refl
  own_moved (kind.Other x) = refl

  pub of_records_with : (r : Record) → EachOf IsOfRecords (own_tags r ++ carried_tags r)
      → EachOf IsOfRecords (own_tags (record_with f r) ++ carried_tags (record_with f r))
  of_records_with r h = subst (EachOf IsOfRecords) (λ i. sym (own_moved r) i ++ sym (tags_moved r) i) h

-- ---- levels
-- a member of a family with carried lines on both sides
abbrev pub ChildWithin : model.Child → Type 0
ChildWithin c = AreWithin 97 c.carried × AreWithin 97 c.carried_by_person

module _ (f : ℕ → ℕ) where
  within : (n : ℕ) (ts : Lines) → AreWithin n ts → AreWithin n (lines_with f ts)
  within n ts h = omega (arith, levels-map (line_with f) ts)

  place_within : (o : Option model.EventPlace) → IfSome o (λ (p : model.EventPlace). AreWithin 96 p.carried)
      → IfSome (option_map (event_place_with f) o) (λ (p : model.EventPlace). AreWithin 96 p.carried)
  place_within None h = tt
  place_within (Some p) h = within 96 p.carried h

  -- an owner that leaves as much room
  pub room_with : (owner other : Option Record) → room_below owner ≡ room_below other → (r : Record) → HasRoom owner r
      → HasRoom other (record_with f r)
  room_with owner other same (kind.Place p) h = within 98 p.carried h
  room_with owner other same (kind.Repo r) h = within 98 r.carried h
  room_with owner other same (kind.Source s) h =
      let P : model.Holding → Type 0 = λ x. AreWithin 97 x.carried in (
        each_mapped P (holding_with f) s.holdings
            (each_more P (λ x. P (holding_with f x)) (λ x k. within 97 x.carried k) s.holdings h.0),
        within 98 s.carried h.1,
      )
  room_with owner other same (kind.Person p) h =
      let P : model.Name → Type 0 = λ x. AreWithin 97 x.carried in (
        each_mapped P (name_with f) p.names
            (each_more P (λ x. P (name_with f x)) (λ x k. within 97 x.carried k) p.names h.0),
        within 98 p.carried h.1,
      )
  room_with owner other same (kind.Family x) h =
      let P : model.Partner → Type 0 = λ p. AreWithin 97 p.carried × AreWithin 97 p.carried_by_person in (
        each_mapped P (partner_with f) x.partners
            (each_more P (λ p. P (partner_with f p))
            (λ p k. (within 97 p.carried k.0, within 97 p.carried_by_person k.1)) x.partners h.0),
        each_mapped ChildWithin (child_with f) x.children
            (each_more ChildWithin (λ c. ChildWithin (child_with f c))
            (λ c k. (within 97 c.carried k.0, within 97 c.carried_by_person k.1)) x.children h.1),
        within 98 x.carried h.2,
      )
  room_with owner other same (kind.Citation c) h = subst (λ k. AreWithin k (lines_with f c.carried)) same
      (within (room_below owner) c.carried h)
  room_with owner other same (kind.Event e) h =
      let P : model.Participant → Type 0 = λ x. AreWithin 96 x.carried in (
        place_within e.place h.0,
        each_mapped P (participant_with f) e.participants
            (each_more P (λ x. P (participant_with f x)) (λ x k. within 96 x.carried k) e.participants h.1),
        within 97 e.carried h.2,
      )
  room_with owner other same (kind.Entry e) h = tt
  room_with owner other same (kind.Other o) h = within 98 o.carried h
