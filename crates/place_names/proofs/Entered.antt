-- A record of no other kind is a register entry with all that is known, exactly if it is one with one path and the
-- numbers counted as its source and as persons, and they are a source and persons.
use Rattle.std.proofs.Common.{◌≡◌, ℕ, List, Bool, true, false, ◌&&◌, sym, ap, ◌∙◌}
use Rattle.std.specs.Prelude.{Option, Some, None, Result, Ok, Err, bytes_eq, codes}
use Rattle.std.specs.FinMap.{get}
use Rattle.std.specs.List.{list_all}
use Rattle.record_text.specs.declared.refusal.RefusalKind.{RefusalKind}
use Rattle.record_kinds.specs.Model as model
use Rattle.record_kinds.specs.declared.record.Record.{Record}
use Rattle.record_shapes.specs.Entries.{entry_of, line_at, names_person, number_on}
use Rattle.record_shapes.specs.Forms.{is_some}
use Rattle.archive_state.specs.Content.{Content}
use Rattle.archive_state.specs.Known.{known_of, tag_at}
use Rattle.archive_state.specs.Looks.{Looked}
use Rattle.place_names.specs.Known.{names_right, one_path}
use Rattle.place_names.specs.Naming.{is_entry, known_as}
use Rattle.place_names.proofs.Alike.{an_entry, no_entry}

-- what is answered after the look at the source
pub right_after : (c : Content) (e : model.Entry) (r : Result Bool RefusalKind) (o : Option Record) (b : Bool)
    (ms : List model.Mention) → o ≡ get c.records e.source → b ≡ bytes_eq (tag_at o) (codes "SOUR") → b ≡ true
    → ms ≡ e.mentions
    → Looked r (λ x. x ≡ list_all (λ (m : model.Mention). names_person (known_of c.records) m.link) ms)
    → Looked r (λ x. x ≡ names_right c e)
right_after c e (Err k) o b ms found is there same h = h
right_after c e (Ok x) o b ms found is there same h =
    let all : List model.Mention → Bool = list_all (λ (m : model.Mention). names_person (known_of c.records) m.link) in
    let source : bytes_eq (tag_at (get c.records e.source)) (codes "SOUR") ≡ true =
    ap (λ x. bytes_eq (tag_at x) (codes "SOUR")) (sym found) ∙ sym is ∙ there in
    h ∙ ap all same ∙ sym (ap (λ b. b && all e.mentions) source)

-- ---- a record of no other kind that is written with the tag of an entry
module _ (c : Content) (n : ℕ) (path : List ℕ) (o : model.Other) (tagged : bytes_eq o.tag (codes "_REG") ≡ true) where
  is_by_lines : is_some (entry_of (known_as c n path) o.value o.carried) ≡ is_entry (known_as c n path) o
  is_by_lines = sym (ap (λ b. b && is_some (entry_of (known_as c n path) o.value o.carried)) tagged)

  -- with one path and the number on the line of its source
  abbrev read_by : ℕ → Option model.Entry
  read_by source = entry_of (one_path n path source) o.value o.carried

  -- it is none
  pub none_here : (source : ℕ) → source ≡ number_on (line_at (codes "SOUR") o.carried) → None ≡ read_by source
      → false ≡ is_entry (known_as c n path) o
  none_here source e h = no_entry c n path o.value o.carried (h ∙ ap read_by e) ∙ is_by_lines

  -- it is one if it names a source and persons
  pub one_here : (source : ℕ) → source ≡ number_on (line_at (codes "SOUR") o.carried) → (x : model.Entry)
      → Some x ≡ read_by source → (r : Result Bool RefusalKind) → Looked r (λ y. y ≡ names_right c x)
      → Looked r (λ y. y ≡ is_entry (known_as c n path) o)
  one_here source e x h (Err k) looked = looked
  one_here source e x h (Ok y) looked =
      looked ∙ an_entry c n path o.value o.carried x (h ∙ ap read_by e) ∙ is_by_lines
