-- The lines of a record with a text for its date: where the date stands, and what it is when the text is another.
use Rattle.std.proofs.Common.{◌≡◌, ℕ, List, [], ◌∷◌, ◌++◌, refl}
use Rattle.std.specs.Prelude.{true, Option, Some, None, map, option_map, slice_get, IfSome}
use Rattle.stored_lines.specs.Tree.{flat_all, forest_of}
use Rattle.stored_lines.specs.Line.{Branches, Label, Lines}
use Rattle.record_fields.specs.Dated.{date_text}
use Rattle.record_fields.specs.declared.date.Date.{Date}
use Rattle.record_kinds.specs.Model as model
use Rattle.record_kinds.specs.declared.record.Record.{Record}
use Rattle.record_kinds.specs.declared.record.Record.TheVariants as kind
use Rattle.records.specs.declared.field.Field.TheVariants as field
use Rattle.records.specs.Shallow.{IsShallow}
use Rattle.records.specs.Stored.{
  bare_place,
  lines_below,
  mention_tree,
  participant_tree,
  stored,
  text_trees,
  when_trees,
}
use Rattle.date_spans.specs.Spans.{date_in}
use Rattle.older_archives.specs.Anew.{with_date}
use Rattle.older_archives.specs.Lines.{date_line_at, lines_with, place_in, text_on}
use Rattle.older_archives.specs.Old.{has_dates, stored_with}

-- ---- the place of the date
abbrev pub place_of : Record → Option ℕ
place_of (kind.Event e) = Some 2
place_of (kind.Entry e) = Some 4
place_of _ = None

pub place_is : (date : Option (List ℕ)) (r : Record) → place_in (stored_with date r) ≡ place_of r
place_is date (kind.Place p) = refl
place_is date (kind.Repo p) = refl
place_is date (kind.Source p) = refl
place_is date (kind.Person p) = refl
place_is date (kind.Family p) = refl
place_is date (kind.Citation p) = refl
place_is date (kind.Event p) = refl
place_is date (kind.Entry p) = refl
place_is date (kind.Other p) = refl

-- ---- the line that stands there
-- lines of branches, one below the first
abbrev below : Branches → List (ℕ × Label)
below ts = flat_all 1 (forest_of ts)

other_text : (date : Option (List ℕ)) (place : Option model.EventPlace) (rest : Branches)
    → text_on (slice_get (below rest) 0) ≡ None → text_on (slice_get (below (when_trees date place ++ rest)) 0) ≡ date
other_text None None rest other = other
other_text (Some t) None rest other = refl
other_text None (Some p) rest other = refl
other_text (Some t) (Some p) rest other = refl

behind_event : (ps : List model.Participant) (cs : Lines)
    → text_on (slice_get (below (map participant_tree ps ++ lines_below field.Carried cs)) 0) ≡ None
behind_event [] [] = refl
behind_event [] (c ∷ cs) = refl
behind_event (p ∷ ps) cs = refl

pub event_line : (date : Option (List ℕ)) (e : model.Event)
    → date_line_at (stored_with date (kind.Event e)) (Some 2) ≡ date
event_line date e = other_text date e.place (map participant_tree e.participants ++ lines_below field.Carried e.carried)
    (behind_event e.participants e.carried)

pub entry_line : (date : Option (List ℕ)) (e : model.Entry)
    → date_line_at (stored_with date (kind.Entry e)) (Some 4) ≡ date
entry_line date e = other_text date (option_map bare_place e.place)
    (text_trees field.Text (Some e.text) ++ map mention_tree e.mentions) refl

-- ---- another text on it
put_event : (t u : List ℕ) (a b : ℕ × Label) (place : Option model.EventPlace) (rest : Branches)
    → lines_with 2 u (a ∷ b ∷ below (when_trees (Some t) place ++ rest))
    ≡ a ∷ b ∷ below (when_trees (Some u) place ++ rest)
put_event t u a b None rest = refl
put_event t u a b (Some p) rest = refl

put_entry : (t u : List ℕ) (a b c d : ℕ × Label) (place : Option model.EventPlace) (rest : Branches)
    → lines_with 4 u (a ∷ b ∷ c ∷ d ∷ below (when_trees (Some t) place ++ rest))
    ≡ a ∷ b ∷ c ∷ d ∷ below (when_trees (Some u) place ++ rest)
put_entry t u a b c d None rest = refl
put_entry t u a b c d (Some p) rest = refl

pub event_with : (t u : List ℕ) (e : model.Event)
    → lines_with 2 u (stored_with (Some t) (kind.Event e)) ≡ stored_with (Some u) (kind.Event e)
event_with t u e = put_event t u _ _ e.place
    (map participant_tree e.participants ++ lines_below field.Carried e.carried)

pub entry_with : (t u : List ℕ) (e : model.Entry)
    → lines_with 4 u (stored_with (Some t) (kind.Entry e)) ≡ stored_with (Some u) (kind.Entry e)
entry_with t u e = put_entry t u _ _ _ _ (option_map bare_place e.place)
    (text_trees field.Text (Some e.text) ++ map mention_tree e.mentions)

-- ---- with the spelling of a date, the lines are those of the record
pub with_spelling : (date : Option Date) (r : Record) → stored_with (option_map date_text date) r
    ≡ stored (with_date date r)
with_spelling date (kind.Place p) = refl
with_spelling date (kind.Repo p) = refl
with_spelling date (kind.Source p) = refl
with_spelling date (kind.Person p) = refl
with_spelling date (kind.Family p) = refl
with_spelling date (kind.Citation p) = refl
with_spelling date (kind.Event p) = refl
with_spelling date (kind.Entry p) = refl
with_spelling date (kind.Other p) = refl

-- ---- the date of a record, taken away and put back
pub date_taken : (r : Record) → date_in (with_date None r) ≡ None
date_taken (kind.Place p) = refl
date_taken (kind.Repo p) = refl
date_taken (kind.Source p) = refl
date_taken (kind.Person p) = refl
date_taken (kind.Family p) = refl
date_taken (kind.Citation p) = refl
date_taken (kind.Event p) = refl
date_taken (kind.Entry p) = refl
date_taken (kind.Other p) = refl

pub put_back : (r : Record) → with_date (date_in r) (with_date None r) ≡ r
put_back (kind.Place p) = refl
put_back (kind.Repo p) = refl
put_back (kind.Source p) = refl
put_back (kind.Person p) = refl
put_back (kind.Family p) = refl
put_back (kind.Citation p) = refl
put_back (kind.Event p) = refl
put_back (kind.Entry p) = refl
put_back (kind.Other p) = refl

pub put_twice : (date other : Option Date) (r : Record) → with_date date (with_date other r) ≡ with_date date r
put_twice date other (kind.Place p) = refl
put_twice date other (kind.Repo p) = refl
put_twice date other (kind.Source p) = refl
put_twice date other (kind.Person p) = refl
put_twice date other (kind.Family p) = refl
put_twice date other (kind.Citation p) = refl
put_twice date other (kind.Event p) = refl
put_twice date other (kind.Entry p) = refl
put_twice date other (kind.Other p) = refl

any_there : (o : Option Date) → IfSome (option_map date_text o) (λ _. true ≡ true)
any_there None = tt
any_there (Some d) = refl

pub held_there : (r : Record) → IfSome (option_map date_text (date_in r)) (λ _. has_dates (with_date None r) ≡ true)
held_there (kind.Place p) = tt
held_there (kind.Repo p) = tt
held_there (kind.Source p) = tt
held_there (kind.Person p) = tt
held_there (kind.Family p) = tt
held_there (kind.Citation p) = tt
held_there (kind.Event p) = any_there p.date
held_there (kind.Entry p) = any_there p.date
held_there (kind.Other p) = tt

-- no carried line is changed
pub shallow_still : (date : Option Date) (r : Record) → IsShallow r → IsShallow (with_date date r)
shallow_still date (kind.Place p) h = h
shallow_still date (kind.Repo p) h = h
shallow_still date (kind.Source p) h = h
shallow_still date (kind.Person p) h = h
shallow_still date (kind.Family p) h = h
shallow_still date (kind.Citation p) h = h
shallow_still date (kind.Event p) h = h
shallow_still date (kind.Entry p) h = h
shallow_still date (kind.Other p) h = h
