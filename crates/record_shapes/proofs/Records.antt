-- A record of level 0, with what it owns, is read again from its lines.
use Rattle.std.specs.Prelude.{
  ℕ,
  ◌≡◌,
  List,
  [],
  ◌∷◌,
  ◌++◌,
  map,
  true,
  false,
  cond,
  None,
  option_map,
  codes,
  refl,
  bytes_eq,
}
use Rattle.std.specs.List.{list_any, flat_map}
use Rattle.std.proofs.Common.{ap, sym, ◌∙◌, append-nil}
use Rattle.std.proofs.lemmas.List.{map-append}
use Rattle.std.proofs.lemmas.Bool.{or_parts}
use Rattle.stored_lines.specs.Tree.{Tree, Forest, node, none, forest_of, list_of, relabel_all}
use Rattle.stored_lines.specs.declared.carried.Value.TheVariants as value
use Rattle.stored_lines.proofs.Back.{list_of_forest_of}
use Rattle.record_kinds.specs.Model as model
use Rattle.record_kinds.specs.declared.record.Record.{Record}
use Rattle.record_kinds.specs.declared.record.Record.TheVariants as kind
use Rattle.record_fields.specs.Bytes.{bytes_are}
use Rattle.record_fields.specs.Words.{sex_word, entry_kind_word}
use Rattle.record_shapes.specs.Tags.{family_tags, person_tags}
use Rattle.record_shapes.specs.Forms.{Known}
use Rattle.record_shapes.specs.Fields.{
  a_citation,
  a_member,
  a_name,
  a_sex,
  a_side,
  an_event,
  family_field,
  person_field,
}
use Rattle.record_shapes.specs.Shapes.{
  Around,
  child_line,
  citation_lines,
  entry_lines,
  events_below,
  family_lines,
  name_line,
  partner_line,
  person_lines,
  place_lines,
  repo_lines,
  side_line,
  source_lines,
  text_lines,
}
use Rattle.record_shapes.specs.Entries.{entry_of}
use Rattle.record_shapes.specs.Reading.{
  draft_if,
  entry_or_other,
  family_from,
  person_from,
  place_from,
  read,
  registered,
  repo_from,
  source_from,
}
use Rattle.record_shapes.specs.Untaken.{family_leaves, person_leaves}
use Rattle.record_shapes.specs.Readable.{IsKnown, IsReadableFamily, IsReadablePerson}
use Rattle.record_shapes.specs.Laws.{IsReadAgain, apart, drafted}
use Rattle.record_shapes.proofs.Picked.{text_are, lacks}
use Rattle.record_shapes.proofs.Sources.{repo_back, source_back}
use Rattle.record_shapes.proofs.Places.{place_back}
use Rattle.record_shapes.proofs.Persons.{person_owner, names-are, sex-is, children-are, partners-are, person_back}
use Rattle.record_shapes.proofs.Each.{each_parts}
use Rattle.record_shapes.proofs.Families as families
use Rattle.record_shapes.proofs.Owned.{drafted_below, drafts_skip, drafts_left, drafts_events, drafts_citations}
use Rattle.record_shapes.proofs.Entries.{entry_back}

-- a draft of a record that owns nothing
alone : (r : Record) (f : Forest Record) → f ≡ none → node (read (apart r) None) none ≡ drafted (node r f)
alone r f e = ap (λ (g : Forest Record). node (read (apart r) None) (relabel_all (λ q. read (apart q) None) g)) (sym e)

person-drafts : (known : Known) (a : Around) (n : ℕ) (p : model.Person) (under : List (Tree Record))
    → IsReadablePerson known a n p under
    → flat_map (λ t. draft_if known (person_field known t) t) (person_lines a n p under) ≡ map drafted under
person-drafts known a n p under h =
    let f = person_field known in
    let w = person_owner known in
    let o = h.owned in
    let c = p.carried in
    let q = citation_lines under in
    let fams = map (side_line (codes "FAMS")) (a.partner_in n) in
    let famc = map (side_line (codes "FAMC")) (a.child_in n) in
    let ev = events_below a under in
    let sx = text_lines (codes "SEX") (option_map sex_word p.sex) in
    let nm = map name_line p.names in
    drafts_skip known f person_tags w a a_name nm (sx ++ (ev ++ (famc ++ (fams ++ (q ++ c)))))
    (names-are known p.names) refl refl
    ∙ drafts_skip known f person_tags w a a_sex sx (ev ++ (famc ++ (fams ++ (q ++ c))))
    (text_are f a_sex (codes "SEX") (option_map sex_word p.sex) (sex-is known p.sex)) refl refl
    ∙ drafts_events known f person_tags w a under o (famc ++ (fams ++ (q ++ c)))
    ∙ ap (λ ds. map drafted o.events ++ ds) (
    drafts_skip known f person_tags w a a_side famc (fams ++ (q ++ c))
    (children-are known (a.child_in n) h.child_in) refl refl
    ∙ drafts_skip known f person_tags w a a_side fams (q ++ c)
    (partners-are known (a.partner_in n) h.partner_in) refl refl
    ∙ drafts_citations known f person_tags w a under o c
    ∙ ap (λ ds. map drafted o.citations ++ ds)
    (drafts_left known f person_tags w a c (lacks f (person_leaves p) an_event c h.untaken refl)
    (lacks f (person_leaves p) a_citation c h.untaken refl))
    ∙ append-nil (map drafted o.citations))
    ∙ sym (map-append drafted o.events o.citations) ∙ ap (map drafted) (sym o.all)

family-drafts : (known : Known) (a : Around) (x : model.Family) (under : List (Tree Record))
    → IsReadableFamily known a x under
    → flat_map (λ t. draft_if known (family_field known t) t) (family_lines a x under) ≡ map drafted under
family-drafts known a x under h =
    let f = family_field known in
    let w = families.family_owner known in
    let o = h.owned in
    let c = x.carried in
    let q = citation_lines under in
    let ev = events_below a under in
    let cs = map child_line x.children in
    let ps = map partner_line x.partners in
    let known-both = each_parts (IsKnown (codes "INDI") known)
    (map (λ (p : model.Partner). p.person) x.partners) (map (λ (p : model.Child). p.person) x.children) h.persons in
    drafts_skip known f family_tags w a a_member ps (cs ++ (ev ++ (q ++ c)))
    (families.partners-are known x.partners known-both.0) refl refl
    ∙ drafts_skip known f family_tags w a a_member cs (ev ++ (q ++ c))
    (families.children-are known x.children known-both.1) refl refl
    ∙ drafts_events known f family_tags w a under o (q ++ c)
    ∙ ap (λ ds. map drafted o.events ++ ds) (
    drafts_citations known f family_tags w a under o c
    ∙ ap (λ ds. map drafted o.citations ++ ds)
    (drafts_left known f family_tags w a c (lacks f family_leaves an_event c h.untaken refl)
    (lacks f family_leaves a_citation c h.untaken refl))
    ∙ append-nil (map drafted o.citations))
    ∙ sym (map-append drafted o.events o.citations) ∙ ap (map drafted) (sym o.all)

-- a record of no other kind
registered-other : (known : Known) (o : model.Other) → (o.tag ≡ codes "_REG" → entry_of known o.value o.carried ≡ None)
    → registered known o.tag o.value o.carried ≡ kind.Other o
registered-other known o h =
    elim (bytes_eq o.tag (codes "_REG")) as (λ b. bytes_eq o.tag (codes "_REG") ≡ b
    → entry_or_other o.tag o.value o.carried (cond b (entry_of known o.value o.carried) None) ≡ kind.Other o) [
      | true ↦ λ e. ap (entry_or_other o.tag o.value o.carried) (h (bytes_are o.tag (codes "_REG") e))
      | false ↦ λ e. refl
    ] refl

pub read_again : IsReadAgain
read_again earlier known a n (node (kind.Place p) f) h =
    (λ i. node (read (kind.Place
    ((ap (place_from earlier) (list_of_forest_of (place_lines p)) ∙ place_back earlier p h.0) i)) None) none)
    ∙ alone (kind.Place p) f h.1
read_again earlier known a n (node (kind.Repo r) f) h =
    (λ i. node (read (kind.Repo ((ap repo_from (list_of_forest_of (repo_lines r)) ∙ repo_back r h.0) i)) None) none)
    ∙ alone (kind.Repo r) f h.1
read_again earlier known a n (node (kind.Source s) f) h =
    (λ i. node (read (kind.Source
    ((ap (source_from known) (list_of_forest_of (source_lines s)) ∙ source_back known s h.0) i)) None) none)
    ∙ alone (kind.Source s) f h.1
read_again earlier known a n (node (kind.Person p) f) h =
    let flat = list_of_forest_of (person_lines a n p (list_of f)) in
    (λ i. node (read (kind.Person ((ap (person_from known) flat ∙ person_back known a n p (list_of f) h) i)) None)
    (forest_of ((ap (flat_map (λ t. draft_if known (person_field known t) t)) flat ∙ person-drafts known a n p
    (list_of f) h) i)))
    ∙ drafted_below (kind.Person p) f
read_again earlier known a n (node (kind.Family x) f) h =
    let flat = list_of_forest_of (family_lines a x (list_of f)) in
    (λ i. node (read (kind.Family ((ap (family_from known) flat ∙ families.family_back known a x (list_of f) h) i))
    None)
    (forest_of ((ap (flat_map (λ t. draft_if known (family_field known t) t)) flat ∙ family-drafts known a x
    (list_of f) h) i)))
    ∙ drafted_below (kind.Family x) f
read_again earlier known a n (node (kind.Entry e) f) h =
    (λ i. node (read ((ap (λ ts. entry_or_other (codes "_REG") (value.Text (entry_kind_word e.kind)) ts
    (entry_of known (value.Text (entry_kind_word e.kind)) ts)) (list_of_forest_of (entry_lines a e))
    ∙ ap (entry_or_other (codes "_REG") (value.Text (entry_kind_word e.kind)) (entry_lines a e))
    (entry_back known a e h.0 h.1)) i) None) none) ∙ alone (kind.Entry e) f h.2
read_again earlier known a n (node (kind.Other o) f) h =
    let a1 = or_parts (bytes_eq o.tag (codes "_LOC"))
    (list_any (bytes_eq o.tag) (codes "REPO" ∷ codes "SOUR" ∷ codes "INDI" ∷ codes "FAM" ∷ [])) h.0.own in
    let a2 = or_parts (bytes_eq o.tag (codes "REPO"))
    (list_any (bytes_eq o.tag) (codes "SOUR" ∷ codes "INDI" ∷ codes "FAM" ∷ [])) a1.1 in
    let a3 = or_parts (bytes_eq o.tag (codes "SOUR"))
    (list_any (bytes_eq o.tag) (codes "INDI" ∷ codes "FAM" ∷ [])) a2.1 in
    let a4 = or_parts (bytes_eq o.tag (codes "INDI")) (list_any (bytes_eq o.tag) (codes "FAM" ∷ [])) a3.1 in
    let a5 = or_parts (bytes_eq o.tag (codes "FAM")) false a4.1 in
    rw (a1.0, a2.0, a3.0, a4.0, a5.0)
    ((λ i. node (read ((ap (λ ts. registered known o.tag o.value ts) (list_of_forest_of o.carried)
    ∙ registered-other known o h.0.no_entry) i) None) none) ∙ alone (kind.Other o) f h.1)
read_again earlier known a n (node _ f) h = absurd h
