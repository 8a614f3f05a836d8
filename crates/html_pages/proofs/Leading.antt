-- The links of pages go to what is shown.
use Rattle.std.proofs.Common.{
  ◌≡◌,
  refl,
  sym,
  subst,
  ℕ,
  Bool,
  true,
  false,
  List,
  [],
  ◌∷◌,
  ◌++◌,
  Option,
  Some,
  None,
  flat_map,
}
use Rattle.std.specs.Prelude.{IfSome, if◌then◌else◌}
use Rattle.std.specs.List.{list_any}
use Rattle.std.specs.FinMap.{get}
use Rattle.std.proofs.lemmas.List.Concat.{flat_map-cons}
use Rattle.record_kinds.specs.Model as model
use Rattle.record_kinds.specs.declared.record.Record.{Record}
use Rattle.record_kinds.specs.declared.record.Record.TheVariants as kind
use Rattle.archive_state.specs.Content.{Records}
use Rattle.sheet_lines.specs.Words.{display_of}
use Rattle.sheets.specs.Gathered.{Gathered, gathered}
use Rattle.html_parts.specs.declared.part.Part.{Part}
use Rattle.html_parts.specs.Building.{section_parts}
use Rattle.html_parts.specs.Frame.{end_parts, frame_parts, front_parts}
use Rattle.html_pages.specs.Links.{person_link, register_link}
use Rattle.html_pages.specs.Items.{
  child_item,
  citation_at,
  citation_item,
  citation_items,
  entry_item,
  entry_naming,
  event_at,
  event_item,
  family_at,
  family_item,
  is_named,
  item,
  name_item,
  participant_item,
  partner_item,
  section,
}
use Rattle.html_pages.specs.Pages.{
  child_parts,
  entry_parts,
  family_page,
  family_page_in,
  family_parts,
  family_title,
  note_parts,
  own_parts,
  owned_parts,
  partner_parts,
  pedigree_parts,
  person_page,
  person_page_in,
  person_parts,
}
use Rattle.html_pages.specs.Showing.{IsPersonAt, LeadToShown}

-- what holds of all holds of the one that is there
pub of_any : (P : List Part → Type 0) → ((parts : List Part) → P parts) → (o : Option (List Part)) → IfSome o P
of_any P law None = tt
of_any P law (Some parts) = law parts

-- ---- lists of parts
pub joined : (at : ℕ → Option Record) (xs ys : List Part) → LeadToShown at xs → LeadToShown at ys
    → LeadToShown at (xs ++ ys)
joined at [] ys h k = k
joined at (x ∷ xs) ys h k = (h.0, joined at xs ys h.1 k)

pub each_of : {X : Type 0} (at : ℕ → Option Record) (f : X → List Part) → ((x : X) → LeadToShown at (f x))
    → (xs : List X)
    → LeadToShown at (flat_map f xs)
each_of at f h [] = tt
each_of at f h (x ∷ xs) = subst (LeadToShown at) (sym (flat_map-cons f x xs))
    (joined at (f x) (flat_map f xs) (h x) (each_of at f h xs))

pub if_leads : (at : ℕ → Option Record) (b : Bool) (parts : List Part) → LeadToShown at parts
    → LeadToShown at (if b then parts else [])
if_leads at true parts h = h
if_leads at false parts h = tt

sectioned : (at : ℕ → Option Record) (heading : List ℕ) (parts : List Part) → LeadToShown at parts
    → LeadToShown at (section_parts heading parts)
sectioned at heading [] h = tt
sectioned at heading (p ∷ ps) h =
    (tt, (tt, (tt, (tt, (tt, joined at (p ∷ ps) _ h (tt, (tt, tt)))))))

-- a section whose items lead to what is shown
pub listed : {X : Type 0} (at : ℕ → Option Record) (heading : List ℕ) (f : X → List Part)
    → ((x : X) → LeadToShown at (f x)) → (xs : List X) → LeadToShown at (section heading f xs)
listed at heading f h xs = sectioned at heading (flat_map f xs) (each_of at f h xs)

pub framed_leads : (at : ℕ → Option Record) (society title : List ℕ) (main : List Part) → LeadToShown at main
    → LeadToShown at (frame_parts society title main)
framed_leads at society title main h = joined at (front_parts society title) (main ++ end_parts)
    (tt, (tt, (tt, (tt, (tt, (tt, (tt, (tt, (tt, (tt, (tt, (tt, (tt, (tt, (tt, (tt, (tt, (tt, tt))))))))))))))))))
    (joined at main end_parts h (tt, (tt, (tt, tt))))

-- ---- links
pub to_person : (at : ℕ → Option Record) (n : ℕ) (r : Option Record) → at n ≡ r → LeadToShown at (person_link n r)
to_person at n (Some (kind.Person p)) is = ((p, is), (tt, (tt, tt)))
to_person at n r is = (tt, tt)

pub to_register : (at : ℕ → Option Record) (n : ℕ) (text : List ℕ) (r : Option Record) → at n ≡ r
    → LeadToShown at (register_link n text r)
to_register at n text (Some (kind.Source s)) is = ((s, is), (tt, (tt, tt)))
to_register at n text r is = (tt, tt)

-- ---- items
pub item_leads : (at : ℕ → Option Record) (parts : List Part) → LeadToShown at parts → LeadToShown at (item parts)
item_leads at parts h = (tt, joined at parts _ h (tt, tt))

citation_leads : (at : ℕ → Option Record) (r : Option Record) → LeadToShown at (citation_item at r)
citation_leads at (Some (kind.Citation c)) = item_leads at _ (to_register at c.source _ (at c.source) refl)
citation_leads at r = tt

cited_lead : (g : Gathered) (k : ℕ) → LeadToShown g.at (citation_at g k)
cited_lead g k = citation_leads g.at (g.at k)

citations_lead : (g : Gathered) (n : ℕ) → LeadToShown g.at (citation_items g n)
citations_lead g n = each_of g.at (citation_at g) (cited_lead g) (g.citations n)

participant_leads : (at : ℕ → Option Record) (p : model.Participant) → LeadToShown at (participant_item at p)
participant_leads at p = (tt, joined at _ _ (to_person at p.person (at p.person) refl) (tt, (tt, tt)))

event_leads : (g : Gathered) (k : ℕ) (r : Option Record) → LeadToShown g.at (event_item g k r)
event_leads g k (Some (kind.Event e)) = (
  tt,
  (
    tt,
    (
      tt,
      joined g.at _ _ (each_of g.at (participant_item g.at) (participant_leads g.at) e.participants)
          (joined g.at _ _ (citations_lead g k) (tt, (tt, tt))),
    ),
  ),
)
event_leads g k r = tt

partner_leads : (at : ℕ → Option Record) (p : model.Partner) → LeadToShown at (partner_item at p)
partner_leads at p = (tt, (tt, joined at _ _ (to_person at p.person (at p.person) refl) (tt, tt)))

child_leads : (at : ℕ → Option Record) (c : model.Child) → LeadToShown at (child_item at c)
child_leads at c = (tt, (tt, joined at _ _ (to_person at c.person (at c.person) refl) (tt, tt)))

family_item_leads : (at : ℕ → Option Record) (k : ℕ) (r : Option Record) → at k ≡ r
    → LeadToShown at (family_item at k r)
family_item_leads at k (Some (kind.Family f)) is =
    let partners = each_of at (partner_item at) (partner_leads at) f.partners in
    let children = each_of at (child_item at) (child_leads at) f.children in
    (tt, ((f, is), (tt, (tt, (tt, (tt, joined at _ _ partners (joined at _ _ children (tt, (tt, tt)))))))))
family_item_leads at k r is = tt

families_lead : (g : Gathered) (heading ns : List ℕ) → LeadToShown g.at (section heading (family_at g) ns)
families_lead g heading ns = listed g.at heading (family_at g) (λ k. family_item_leads g.at k (g.at k) refl) ns

entry_leads : (at : ℕ → Option Record) (person : ℕ) (r : Option Record) → LeadToShown at (entry_item at person r)
entry_leads at person (Some (kind.Entry e)) = if_leads at (list_any (is_named person) e.mentions) _
    (item_leads at _ (to_register at e.source _ (at e.source) refl))
entry_leads at person r = tt

-- ---- pages
own_lead : (at : ℕ → Option Record) (n : ℕ) (p : model.Person) → LeadToShown at (own_parts n p)
own_lead at n p = (
  tt,
  (
    tt,
    (
      tt,
      joined at (note_parts n p) _ (tt, (tt, (tt, (tt, (tt, (tt, tt))))))
          (listed at _ name_item (λ x. (tt, (tt, (tt, tt)))) p.names),
    ),
  ),
)

owned_lead : (g : Gathered) (n : ℕ) → LeadToShown g.at (owned_parts g n)
owned_lead g n = joined g.at _ _ (listed g.at _ (event_at g) (λ k. event_leads g k (g.at k)) (g.events n))
    (listed g.at _ (citation_at g) (cited_lead g) (g.citations n))

person_parts_lead : (g : Gathered) (n : ℕ) (p : model.Person) → IsPersonAt g.at n
    → LeadToShown g.at (person_parts g n p)
person_parts_lead g n p is = joined g.at (own_parts n p) _ (own_lead g.at n p)
    (joined g.at (owned_parts g n) _ (owned_lead g n)
    (joined g.at (child_parts g n) _ (families_lead g _ (g.child_in n))
    (joined g.at (partner_parts g n) _ (families_lead g _ (g.partner_in n))
    (joined g.at (entry_parts g n) _ (listed g.at _ (entry_naming n g) (λ k. entry_leads g.at n (g.at k)) g.entries)
    (tt, (is, (tt, (tt, (tt, tt)))))))))

person_in : (g : Gathered) (society : List ℕ) (n : ℕ) (r : Option Record) → g.at n ≡ r
    → IfSome (person_page_in society g n r) (LeadToShown g.at)
person_in g society n (Some (kind.Person p)) is =
    framed_leads g.at society (display_of p.names) (person_parts g n p) (person_parts_lead g n p (p, is))
person_in g society n r is = tt

pub person_leads : (m : Records) (society : List ℕ) (n : ℕ)
    → IfSome (person_page m society n) (LeadToShown (get m))
person_leads m society n = person_in (gathered m) society n (get m n) refl

family_parts_lead : (g : Gathered) (n : ℕ) (f : model.Family) → LeadToShown g.at (family_parts g n f)
family_parts_lead g n f = (
  tt,
  (
    tt,
    (
      tt,
      joined g.at _ _
          (listed g.at _ (partner_item g.at) (partner_leads g.at) f.partners)
          (joined g.at (owned_parts g n) _ (owned_lead g n)
          (listed g.at _ (child_item g.at) (child_leads g.at) f.children)),
    ),
  ),
)

family_in : (g : Gathered) (society : List ℕ) (n : ℕ) (r : Option Record) → g.at n ≡ r
    → IfSome (family_page_in society g n r) (LeadToShown g.at)
family_in g society n (Some (kind.Family f)) is =
    framed_leads g.at society (family_title n) (family_parts g n f) (family_parts_lead g n f)
family_in g society n r is = tt

pub family_leads : (m : Records) (society : List ℕ) (n : ℕ)
    → IfSome (family_page m society n) (LeadToShown (get m))
family_leads m society n = family_in (gathered m) society n (get m n) refl
