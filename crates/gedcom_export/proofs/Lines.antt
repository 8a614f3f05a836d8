-- Lines of many records, one record after the other.
use Rattle.std.proofs.Common.{◌≡◌, ℕ, ◌+◌, ◌<◌, ◌≤◌, List, [], ◌∷◌, ◌++◌, length, get_or, drop, map, refl, sym, ap, ◌∙◌}
use Rattle.std.specs.List.{flat_map}
use Rattle.std.specs.FinMap.{get}
use Rattle.std.proofs.Math.ListN.{drop_of_length-le}
use Rattle.std.proofs.lemmas.Grind.{flat_map-append}
use Rattle.stored_lines.specs.Line.{Line, Lines}
use Rattle.stored_lines.specs.Tree.{Tree}
use Rattle.record_shapes.specs.Shapes.{citation_lines, citation_part, event_part, events_below, side_line}
use Rattle.node_writing.specs.Pages.{page}
use Rattle.archive_state.specs.Content.{Records}
use Rattle.gedcom_export.specs.Index.{Index}
use Rattle.gedcom_export.specs.Shown.{around_in}
use Rattle.gedcom_export.specs.declared.membership.Membership.{Membership}
use Rattle.gedcom_export.specs.declared.index_owned.Owned.{Owned}
use Rattle.node_writing.proofs.Appending.{nothing, then_page}
use Rattle.gedcom_export.specs.Pieces.{alone, events_at, those_at, with_citations}
use Rattle.list_laws.proofs.Lists.{from_here}

-- the lines of what is listed
abbrev pub cited : Records → Owned → Lines
cited m o = citation_lines (alone (get m o.number))

abbrev pub evented : Records → Index → Owned → Lines
evented m i o = events_below (around_in i) (with_citations m i o.number (get m o.number))

pub cited_all : (m : Records) (os : List Owned) → flat_map (cited m) os ≡ citation_lines (those_at m os)
cited_all m [] = refl
cited_all m (o ∷ os) =
    ap (λ (l : Lines). cited m o ++ l) (cited_all m os)
    ∙ sym (flat_map-append citation_part (alone (get m o.number)) (those_at m os))

pub evented_all : (m : Records) (i : Index) (os : List Owned) → flat_map (evented m i) os
    ≡ events_below (around_in i) (events_at m i os)
evented_all m i [] = refl
evented_all m i (o ∷ os) =
    ap (λ (l : Lines). evented m i o ++ l) (evented_all m i os)
    ∙ sym (flat_map-append (event_part (around_in i)) (with_citations m i o.number (get m o.number)) (events_at m i os))

-- the line of a family of a person
abbrev pub membership_line : List ℕ → Membership → Tree Line
membership_line tag x = side_line tag x.side

pub membership_lines : (tag : List ℕ) (xs : List Membership) → map (membership_line tag) xs
    ≡ map (side_line tag) (map (λ (x : Membership). x.side) xs)
membership_lines tag [] = refl
membership_lines tag (x ∷ xs) = ap (λ (l : Lines). membership_line tag x ∷ l) (membership_lines tag xs)

module _ (names : ℕ → List ℕ) (level : ℕ) where
  -- the lines of one of a list are written, and those of the rest are left
  pub then_lines : {A : Type 0} (h : A → Lines) (xs : List A) (i : ℕ) (d : A) (old new whole : List ℕ) → i < length xs
      → new ≡ old ++ page names level (h (get_or xs i d))
      → old ++ page names level (flat_map h (drop i xs)) ≡ whole
      → new ++ page names level (flat_map h (drop (i + 1) xs)) ≡ whole
  then_lines {A} h xs i d old new whole less e before =
      then_page names level old new (h (get_or xs i d)) (flat_map h (drop (i + 1) xs)) e
      ∙ ap (λ (ys : List A). old ++ page names level (flat_map h ys)) (sym (from_here xs i d less)) ∙ before

  -- those of all are written
  pub lines_done : {A : Type 0} (h : A → Lines) (xs : List A) (i : ℕ) (old new : List ℕ) (ts : Lines) → length xs ≤ i
      → new ++ page names level (flat_map h (drop i xs)) ≡ old ++ page names level (flat_map h xs)
      → flat_map h xs ≡ ts → new ≡ old ++ page names level ts
  lines_done h xs i old new ts short before e =
      nothing names level new (flat_map h (drop i xs)) (ap (flat_map h) (drop_of_length-le xs short)) ∙ before
      ∙ ap (λ (us : Lines). old ++ page names level us) e
