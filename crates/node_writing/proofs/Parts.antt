-- The pages of persons, families and events, in the parts in which they are written.
use Rattle.std.specs.Prelude.{ℕ, ◌≡◌, List, [], ◌∷◌, ◌++◌, map, codes, option_map}
use Rattle.std.proofs.Common.{ap, sym, ◌∙◌, append_assoc}
use Rattle.stored_lines.specs.Tree.{Forest, Tree, list_of, node}
use Rattle.stored_lines.specs.Line.{Lines}
use Rattle.stored_lines.specs.declared.carried.Value.TheVariants as value
use Rattle.record_kinds.specs.Model as model
use Rattle.record_kinds.specs.declared.record.Record.{Record}
use Rattle.record_kinds.specs.declared.record.Record.TheVariants as kind
use Rattle.record_fields.specs.Dated.{date_text}
use Rattle.record_fields.specs.Words.{sex_word}
use Rattle.record_shapes.specs.Shapes.{
  Around,
  child_line,
  citation_lines,
  event_lines,
  event_part,
  event_place_lines,
  events_below,
  family_lines,
  line,
  name_line,
  participant_line,
  partner_line,
  person_lines,
  shape_of,
  side_line,
  text_lines,
}
use Rattle.node_writing.specs.Pages.{page, record_page}
use Rattle.node_writing.proofs.Pages.{page-append, page-below, record-below}
use Rattle.node_writing.specs.Parts.{event_head, family_head, person_head}

module _ (names : ℕ → List ℕ) where
  parted : (level : ℕ) (ts us : Lines) (rest : List ℕ) → page names level us ≡ rest
      → page names level (ts ++ us) ≡ page names level ts ++ rest
  parted level ts us rest e = page-append names level ts us ∙ ap (λ (x : List ℕ). page names level ts ++ x) e

  -- two parts that are written together
  parted_two : (level : ℕ) (ts us vs : Lines) (rest : List ℕ) → page names level vs ≡ rest
      → page names level (ts ++ (us ++ vs)) ≡ page names level (ts ++ us) ++ rest
  parted_two level ts us vs rest e = ap (page names level) (sym (append_assoc ts us vs))
      ∙ parted level (ts ++ us) vs rest e

  pub person_parts : (a : Around) (n : ℕ) (p : model.Person) (under : List (Tree Record))
      → record_page names n (shape_of a n (kind.Person p) under)
      ≡ record_page names n (line (codes "INDI") (value.Text []) [])
      ++ (page names 1 (person_head p)
      ++ (page names 1 (events_below a under)
      ++ (page names 1 (map (side_line (codes "FAMC")) (a.child_in n))
      ++ (page names 1 (map (side_line (codes "FAMS")) (a.partner_in n))
      ++ (page names 1 (citation_lines under) ++ page names 1 p.carried)))))
  person_parts a n p under =
      let events : Lines = events_below a under in
      let child : Lines = map (side_line (codes "FAMC")) (a.child_in n) in
      let partner : Lines = map (side_line (codes "FAMS")) (a.partner_in n) in
      let cited : Lines = citation_lines under in
      record-below names n (codes "INDI") (value.Text []) (person_lines a n p under)
      ∙ ap (λ (x : List ℕ). record_page names n (line (codes "INDI") (value.Text []) []) ++ x)
      (parted_two 1 (map name_line p.names) (text_lines (codes "SEX") (option_map sex_word p.sex))
      (events ++ (child ++ (partner ++ (cited ++ p.carried)))) _
      (parted 1 events (child ++ (partner ++ (cited ++ p.carried))) _
      (parted 1 child (partner ++ (cited ++ p.carried)) _
      (parted 1 partner (cited ++ p.carried) _ (page-append names 1 cited p.carried)))))

  pub family_parts : (a : Around) (n : ℕ) (f : model.Family) (under : List (Tree Record))
      → record_page names n (shape_of a n (kind.Family f) under)
      ≡ record_page names n (line (codes "FAM") (value.Text []) [])
      ++ (page names 1 (family_head f)
      ++ (page names 1 (events_below a under)
      ++ (page names 1 (citation_lines under) ++ page names 1 f.carried)))
  family_parts a n f under =
      let events : Lines = events_below a under in
      let cited : Lines = citation_lines under in
      record-below names n (codes "FAM") (value.Text []) (family_lines a f under)
      ∙ ap (λ (x : List ℕ). record_page names n (line (codes "FAM") (value.Text []) []) ++ x)
      (parted_two 1 (map partner_line f.partners) (map child_line f.children) (events ++ (cited ++ f.carried)) _
      (parted 1 events (cited ++ f.carried) _ (page-append names 1 cited f.carried)))

  pub event_parts : (a : Around) (e : model.Event) (f : Forest Record)
      → page names 1 (event_part a (node (kind.Event e) f))
      ≡ page names 1 (event_head a e ∷ []) ++ (page names 2 (citation_lines (list_of f)) ++ page names 2 e.carried)
  event_parts a e f =
      let date : Lines = text_lines (codes "DATE") (option_map date_text e.date) in
      let place : Lines = event_place_lines a e.place in
      let with_ : Lines = map participant_line e.participants in
      let cited : Lines = citation_lines (list_of f) in
      let own : List ℕ = page names 1 (line e.tag (value.Text e.value) [] ∷ []) in
      let rest : List ℕ = page names 2 cited ++ page names 2 e.carried in
      page-below names 1 e.tag (value.Text e.value) (event_lines a e (list_of f))
      ∙ ap (λ (ts : Lines). own ++ page names 2 (date ++ ts)) (sym (append_assoc place with_ (cited ++ e.carried)))
      ∙ ap (λ (x : List ℕ). own ++ x)
      (parted_two 2 date (place ++ with_) (cited ++ e.carried) rest (page-append names 2 cited e.carried))
      ∙ sym (append_assoc own (page names 2 (date ++ (place ++ with_))) rest)
      ∙ ap (λ (x : List ℕ). x ++ rest)
      (sym (page-below names 1 e.tag (value.Text e.value) (date ++ (place ++ with_))))
