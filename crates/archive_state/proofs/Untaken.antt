-- A field takes a carried line of a record with its numbers changed where it takes that of the record.
use Rattle.std.proofs.Common.{◌≡◌, ℕ, List, [], ◌∷◌, Bool, refl, sym, ap, ◌∙◌}
use Rattle.std.specs.Prelude.{Option, Some, None, option_map, ◌&&◌}
use Rattle.std.specs.List.{list_all}
use Rattle.stored_lines.specs.Tree.{Tree, Forest, node, none, more, relabel, relabel_all}
use Rattle.stored_lines.specs.Line.{Line, Lines}
use Rattle.stored_lines.specs.declared.carried.Value.{Value}
use Rattle.stored_lines.specs.declared.carried.Value.TheVariants as value
use Rattle.record_kinds.specs.Model as model
use Rattle.record_kinds.specs.declared.record.Record.{Record}
use Rattle.record_kinds.specs.declared.record.Record.TheVariants as kind
use Rattle.record_shapes.specs.Forms.{Known, is_some}
use Rattle.record_shapes.specs.declared.field.Field.{Field}
use Rattle.record_shapes.specs.Fields as part
use Rattle.record_shapes.specs.Untaken.{
  AreUntaken,
  HasUntaken,
  event_leaves,
  family_leaves,
  holding_leaves,
  participant_leaves,
  person_leaves,
  place_leaves,
  repo_leaves,
  source_leaves,
  citation_leaves,
}
use Rattle.archive_state.specs.Merging.{
  value_with,
  line_with,
  lines_with,
  holding_with,
  person_with,
  place_with,
  source_with,
  event_with,
  event_place_with,
  participant_with,
  record_with,
}
use Rattle.record_shapes.proofs.Each.{each_mapped, each_under, each_more}

-- what is known of the numbers that these become
abbrev pub through : (ℕ → ℕ) → Known → Known
through f known = record { tag = λ n. known.tag (f n); path = λ n. known.path (f n) }

module _ (f : ℕ → ℕ) where
  -- ---- fields
  abbrev pub with_value : List ℕ → Value → Forest Line → Tree Line
  with_value tag v ts = node (record { tag = tag; value = v }) ts

  abbrev pub then_value : List ℕ → Value → Forest Line → Tree Line
  then_value tag v ts = node (record { tag = tag; value = value_with f v }) (relabel_all (line_with f) ts)

  repo_by : (tag : List ℕ) (v : Value) (ts : Forest Line) → part.repo_field (then_value tag v ts)
      ≡ part.repo_field (with_value tag v ts)
  repo_by tag (value.Text t) none = refl
  repo_by tag (value.Text t) (more u us) = refl
  repo_by tag (value.Ref n) none = refl
  repo_by tag (value.Ref n) (more u us) = refl

  holding_by : (tag : List ℕ) (v : Value) (ts : Forest Line) → part.holding_field (then_value tag v ts)
      ≡ part.holding_field (with_value tag v ts)
  holding_by tag (value.Text t) none = refl
  holding_by tag (value.Text t) (more u us) = refl
  holding_by tag (value.Ref n) none = refl
  holding_by tag (value.Ref n) (more u us) = refl

  citation_by : (tag : List ℕ) (v : Value) (ts : Forest Line) → part.citation_field (then_value tag v ts)
      ≡ part.citation_field (with_value tag v ts)
  citation_by tag (value.Text t) none = refl
  citation_by tag (value.Text t) (more u us) = refl
  citation_by tag (value.Ref n) none = refl
  citation_by tag (value.Ref n) (more u us) = refl

  participant_by : (tag : List ℕ) (v : Value) (ts : Forest Line) → part.participant_field (then_value tag v ts)
      ≡ part.participant_field (with_value tag v ts)
  participant_by tag (value.Text t) none = refl
  participant_by tag (value.Text t) (more u us) = refl
  participant_by tag (value.Ref n) none = refl
  participant_by tag (value.Ref n) (more u us) = refl

  module _ (known : Known) where
    source_by : (tag : List ℕ) (v : Value) (ts : Forest Line) → part.source_field known (then_value tag v ts)
        ≡ part.source_field (through f known) (with_value tag v ts)
    source_by tag (value.Text t) none = refl
    source_by tag (value.Text t) (more u us) = refl
    source_by tag (value.Ref n) none = refl
    source_by tag (value.Ref n) (more u us) = refl

    pub person_by : (tag : List ℕ) (v : Value) (ts : Forest Line) → part.person_field known (then_value tag v ts)
        ≡ part.person_field (through f known) (with_value tag v ts)
    person_by tag (value.Text t) none = refl
    person_by tag (value.Text t) (more u us) = refl
    person_by tag (value.Ref n) none = refl
    person_by tag (value.Ref n) (more u us) = refl

    family_by : (tag : List ℕ) (v : Value) (ts : Forest Line) → part.family_field known (then_value tag v ts)
        ≡ part.family_field (through f known) (with_value tag v ts)
    family_by tag (value.Text t) none = refl
    family_by tag (value.Text t) (more u us) = refl
    family_by tag (value.Ref n) none = refl
    family_by tag (value.Ref n) (more u us) = refl

    event_by : (tag : List ℕ) (v : Value) (ts : Forest Line) → part.event_field known (then_value tag v ts)
        ≡ part.event_field (through f known) (with_value tag v ts)
    event_by tag (value.Text t) none = refl
    event_by tag (value.Text t) (more u us) = refl
    event_by tag (value.Ref n) none = refl
    event_by tag (value.Ref n) (more u us) = refl

    parent_by : (name tag : List ℕ) (v : Value) (ts : Forest Line) → part.parent_field known name (then_value tag v ts)
        ≡ part.parent_field (through f known) name (with_value tag v ts)
    parent_by name tag (value.Text t) none = refl
    parent_by name tag (value.Text t) (more u us) = refl
    parent_by name tag (value.Ref n) none = refl
    parent_by name tag (value.Ref n) (more u us) = refl

  -- ---- lines
  pub by_tree : (g h : Tree Line → Field)
      → ((tag : List ℕ) (v : Value) (ts : Forest Line) → g (then_value tag v ts) ≡ h (with_value tag v ts))
      → (t : Tree Line) → g (relabel (line_with f) t) ≡ h t
  by_tree g h e (node l ts) = e l.tag l.value ts

  -- lines of which the other field leaves as much
  lines_same : (g h : Tree Line → Field)
      → ((tag : List ℕ) (v : Value) (ts : Forest Line) → g (then_value tag v ts) ≡ h (with_value tag v ts))
      → (old new : Field → Bool) → ((x : Field) → new x ≡ old x) → (ts : Lines)
      → list_all (λ t. new (g t)) (lines_with f ts) ≡ list_all (λ t. old (h t)) ts
  lines_same g h e old new leave [] = refl
  lines_same g h e old new leave (t ∷ ts) = λ i. (ap new (by_tree g h e t) ∙ leave (h t)) i && lines_same g h e
      old new leave ts i

  untaken_lines : (g h : Tree Line → Field)
      → ((tag : List ℕ) (v : Value) (ts : Forest Line) → g (then_value tag v ts) ≡ h (with_value tag v ts))
      → (old new : Field → Bool) → ((x : Field) → new x ≡ old x) → (ts : Lines) → AreUntaken h old ts
      → AreUntaken g new (lines_with f ts)
  untaken_lines g h e old new leave ts u = lines_same g h e old new leave ts ∙ u

  lines_back : (g h : Tree Line → Field)
      → ((tag : List ℕ) (v : Value) (ts : Forest Line) → g (then_value tag v ts) ≡ h (with_value tag v ts))
      → (old new : Field → Bool) → ((x : Field) → new x ≡ old x) → (ts : Lines) → AreUntaken g new (lines_with f ts)
      → AreUntaken h old ts
  lines_back g h e old new leave ts u = sym (lines_same g h e old new leave ts) ∙ u

  -- ---- the fields that leave a line
  option_still : {A B : Type 0} (k : A → B) (o : Option A) → is_some (option_map k o) ≡ is_some o
  option_still k None = refl
  option_still k (Some a) = refl

  place_leave : (p : model.Place) (x : Field) → place_leaves (place_with f p) x ≡ place_leaves p x
  place_leave p part.carried = refl
  place_leave p part.a_parent = option_still f p.parent
  place_leave p _ = refl

  event_leave : (e : model.Event) (x : Field) → event_leaves (event_with f e) x ≡ event_leaves e x
  event_leave e part.carried = refl
  event_leave e part.a_date = refl
  event_leave e part.a_place = option_still (event_place_with f) e.place
  event_leave e _ = refl

  source_leave : (s : model.Source) (x : Field) → source_leaves (source_with f s) x ≡ source_leaves s x
  source_leave s part.carried = refl
  source_leave s part.a_title = refl
  source_leave s part.an_author = refl
  source_leave s part.a_publisher = refl
  source_leave s _ = refl

  person_leave : (p : model.Person) (x : Field) → person_leaves (person_with f p) x ≡ person_leaves p x
  person_leave p part.carried = refl
  person_leave p part.a_sex = refl
  person_leave p _ = refl

  repo_leave : (r : model.Repo) (ts : Lines) (x : Field) → repo_leaves (record r { carried = ts }) x ≡ repo_leaves r x
  repo_leave r ts part.carried = refl
  repo_leave r ts part.a_name = refl
  repo_leave r ts _ = refl

  citation_leave : (c d : model.Citation) → d.page ≡ c.page → d.quality ≡ c.quality → (x : Field)
      → citation_leaves d x ≡ citation_leaves c x
  citation_leave c d page quality part.carried = refl
  citation_leave c d page quality part.a_page = ap is_some page
  citation_leave c d page quality part.a_quality = ap is_some quality
  citation_leave c d page quality _ = refl

  holding_leave : (h d : model.Holding) → d.call_number ≡ h.call_number → (x : Field)
      → holding_leaves d x ≡ holding_leaves h x
  holding_leave h d number part.carried = refl
  holding_leave h d number part.a_call_number = ap is_some number
  holding_leave h d number _ = refl

  participant_leave : (p : model.Participant) (x : Field) → participant_leaves (participant_with f p) x
      ≡ participant_leaves p x
  participant_leave p part.carried = refl
  participant_leave p part.a_role = refl
  participant_leave p _ = refl

  same_leaves : (x : Field) → family_leaves x ≡ family_leaves x
  same_leaves x = refl

  -- ---- records
  pub untaken_with : (earlier known : Known) (r : Record) → HasUntaken (through f earlier) (through f known) r
      → HasUntaken earlier known (record_with f r)
  untaken_with earlier known (kind.Place p) u =
      untaken_lines (part.parent_field earlier p.name) (part.parent_field (through f earlier) p.name)
      (parent_by earlier p.name) (place_leaves p) (place_leaves (place_with f p)) (place_leave p) p.carried u
  untaken_with earlier known (kind.Repo r) u =
      untaken_lines part.repo_field part.repo_field repo_by (repo_leaves r)
      (repo_leaves (record r { carried = lines_with f r.carried }))
      (repo_leave r (lines_with f r.carried)) r.carried u
  untaken_with earlier known (kind.Source s) u =
      let P : model.Holding → Type 0 = λ h. AreUntaken part.holding_field (holding_leaves h) h.carried in (
        each_mapped P (holding_with f) s.holdings (each_more P (λ h. P (holding_with f h))
            (λ h k. untaken_lines part.holding_field part.holding_field holding_by (holding_leaves h)
            (holding_leaves (holding_with f h)) (holding_leave h (holding_with f h) refl) h.carried k)
            s.holdings u.0),
        untaken_lines (part.source_field known) (part.source_field (through f known)) (source_by known)
            (source_leaves s) (source_leaves (source_with f s)) (source_leave s) s.carried u.1,
      )
  untaken_with earlier known (kind.Person p) u =
      untaken_lines (part.person_field known) (part.person_field (through f known)) (person_by known) (person_leaves p)
      (person_leaves (person_with f p)) (person_leave p) p.carried u
  untaken_with earlier known (kind.Family x) u =
      untaken_lines (part.family_field known) (part.family_field (through f known)) (family_by known)
      (λ y. family_leaves y) (λ y. family_leaves y) same_leaves x.carried u
  untaken_with earlier known (kind.Citation c) u =
      let d : model.Citation = record c { owner = f c.owner; source = f c.source; carried = lines_with f c.carried } in
      untaken_lines part.citation_field part.citation_field citation_by (citation_leaves c) (citation_leaves d)
      (citation_leave c d refl refl) c.carried u
  untaken_with earlier known (kind.Event e) u =
      let P : model.Participant → Type 0 = λ p. AreUntaken part.participant_field (participant_leaves p) p.carried in (
        each_mapped P (participant_with f) e.participants (each_more P (λ p. P (participant_with f p))
            (λ p k. untaken_lines part.participant_field part.participant_field participant_by (participant_leaves p)
            (participant_leaves (participant_with f p)) (participant_leave p) p.carried k) e.participants u.0),
        untaken_lines (part.event_field known) (part.event_field (through f known)) (event_by known) (event_leaves e)
            (event_leaves (event_with f e)) (event_leave e) e.carried u.1,
      )
  untaken_with earlier known (kind.Entry e) u = tt
  untaken_with earlier known (kind.Other o) u = tt

  pub untaken_back : (earlier known : Known) (r : Record) → HasUntaken earlier known (record_with f r)
      → HasUntaken (through f earlier) (through f known) r
  untaken_back earlier known (kind.Place p) u =
      lines_back (part.parent_field earlier p.name) (part.parent_field (through f earlier) p.name)
      (parent_by earlier p.name) (place_leaves p) (place_leaves (place_with f p)) (place_leave p) p.carried u
  untaken_back earlier known (kind.Repo r) u =
      lines_back part.repo_field part.repo_field repo_by (repo_leaves r)
      (repo_leaves (record r { carried = lines_with f r.carried }))
      (repo_leave r (lines_with f r.carried)) r.carried u
  untaken_back earlier known (kind.Source s) u =
      let P : model.Holding → Type 0 = λ h. AreUntaken part.holding_field (holding_leaves h) h.carried in (
        each_more (λ h. P (holding_with f h)) P
            (λ h k. lines_back part.holding_field part.holding_field holding_by (holding_leaves h)
            (holding_leaves (holding_with f h)) (holding_leave h (holding_with f h) refl) h.carried k) s.holdings
            (each_under P (holding_with f) s.holdings u.0),
        lines_back (part.source_field known) (part.source_field (through f known)) (source_by known) (source_leaves s)
            (source_leaves (source_with f s)) (source_leave s) s.carried u.1,
      )
  untaken_back earlier known (kind.Person p) u =
      lines_back (part.person_field known) (part.person_field (through f known)) (person_by known) (person_leaves p)
      (person_leaves (person_with f p)) (person_leave p) p.carried u
  untaken_back earlier known (kind.Family x) u =
      lines_back (part.family_field known) (part.family_field (through f known)) (family_by known)
      (λ y. family_leaves y) (λ y. family_leaves y) same_leaves x.carried u
  untaken_back earlier known (kind.Citation c) u =
      let d : model.Citation = record c { owner = f c.owner; source = f c.source; carried = lines_with f c.carried } in
      lines_back part.citation_field part.citation_field citation_by (citation_leaves c) (citation_leaves d)
      (citation_leave c d refl refl) c.carried u
  untaken_back earlier known (kind.Event e) u =
      let P : model.Participant → Type 0 = λ p. AreUntaken part.participant_field (participant_leaves p) p.carried in (
        each_more (λ p. P (participant_with f p)) P
            (λ p k. lines_back part.participant_field part.participant_field participant_by (participant_leaves p)
            (participant_leaves (participant_with f p)) (participant_leave p) p.carried k) e.participants
            (each_under P (participant_with f) e.participants u.0),
        lines_back (part.event_field known) (part.event_field (through f known)) (event_by known) (event_leaves e)
            (event_leaves (event_with f e)) (event_leave e) e.carried u.1,
      )
  untaken_back earlier known (kind.Entry e) u = tt
  untaken_back earlier known (kind.Other o) u = tt
