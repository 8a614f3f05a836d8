-- The links of pedigrees go to what is shown.
use Rattle.std.proofs.Common.{◌≡◌, refl, ℕ, zero, suc, List, [], ◌∷◌, ◌++◌, Option, Some, None}
use Rattle.std.specs.Prelude.{IfSome}
use Rattle.std.specs.FinMap.{get}
use Rattle.record_fields.specs.declared.words.Partnership.TheVariants as partnership
use Rattle.record_kinds.specs.declared.record.Record.{Record}
use Rattle.record_kinds.specs.declared.record.Record.TheVariants as kind
use Rattle.archive_state.specs.Content.{Records}
use Rattle.sheet_lines.specs.Words.{display_of}
use Rattle.sheets.specs.Gathered.{Gathered, gathered}
use Rattle.sheets.specs.Pedigrees.{parent, words_of}
use Rattle.html_parts.specs.declared.part.Part.{Part}
use Rattle.html_parts.specs.Building.{nested_parts}
use Rattle.html_pages.specs.Pedigrees.{box, boxed, pedigree_in, pedigree_page, titled_tree, tree}
use Rattle.html_pages.specs.Showing.{LeadToShown}
use Rattle.html_pages.proofs.Leading.{framed_leads, joined}

nested_leads : (at : ℕ → Option Record) (parts : List Part) → LeadToShown at parts
    → LeadToShown at (nested_parts parts)
nested_leads at [] h = tt
nested_leads at (p ∷ ps) h = (tt, joined at (p ∷ ps) _ h (tt, tt))

box_leads : (at : ℕ → Option Record) (n : ℕ) (words : List ℕ) (r : Option Record) → at n ≡ r
    → LeadToShown at (box n words r)
box_leads at n words (Some (kind.Person p)) is = ((p, is), (tt, (tt, tt)))
box_leads at n words r is = (tt, tt)

boxed_leads : (g : Gathered) (n : ℕ) (below : List Part) → LeadToShown g.at below
    → LeadToShown g.at (boxed g n below)
boxed_leads g n below h = (
  tt,
  joined g.at _ _ (box_leads g.at n (words_of g n) (g.at n) refl)
      (joined g.at _ _ (nested_leads g.at below h) (tt, tt)),
)

tree_leads : (generations : ℕ) (g : Gathered) (person : Option ℕ) → LeadToShown g.at (tree generations g person)
tree_leads zero g person = tt
tree_leads (suc more) g None = tt
tree_leads (suc more) g (Some n) = boxed_leads g n _ (joined g.at _ _
    (tree_leads more g (parent g partnership.Husband n)) (tree_leads more g (parent g partnership.Wife n)))

titled_leads : (g : Gathered) (title : List ℕ) (n generations : ℕ)
    → LeadToShown g.at (titled_tree g title n generations)
titled_leads g title n generations = (
  tt,
  (
    tt,
    (
      tt,
      (
        tt,
        joined g.at _ _ (tree_leads generations g (Some n)) (tt, tt),
      ),
    ),
  ),
)

pedigree_in_leads : (g : Gathered) (society : List ℕ) (n generations : ℕ) (r : Option Record)
    → IfSome (pedigree_in society g n generations r) (LeadToShown g.at)
pedigree_in_leads g society n generations (Some (kind.Person p)) =
    framed_leads g.at society (display_of p.names) (titled_tree g (display_of p.names) n generations)
    (titled_leads g (display_of p.names) n generations)
pedigree_in_leads g society n generations r = tt

pub pedigree_leads : (m : Records) (society : List ℕ) (n generations : ℕ)
    → IfSome (pedigree_page m society n generations) (LeadToShown (get m))
pedigree_leads m society n generations = pedigree_in_leads (gathered m) society n generations (get m n)
