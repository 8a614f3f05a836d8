-- What an entry adds to a record is among the lines that are added to that.
use Rattle.std.proofs.Common.{
  ◌≡◌,
  ◌==◌,
  ◌++◌,
  ◌∙◌,
  ℕ,
  List,
  [],
  ◌∷◌,
  true,
  false,
  refl,
  sym,
  ap,
  subst,
  fold,
  map,
  eq-eqb,
}
use Rattle.std.specs.Prelude.{Option, Some, None, if◌then◌else◌, option_map}
use Rattle.std.specs.FinMap.{get, keys}
use Rattle.std.specs.List.{filter}
use Rattle.std.proofs.lemmas.Bool.{or_left, or_right}
use Rattle.std.proofs.lemmas.List.Folds.{list_any-append}
use Rattle.stored_lines.specs.Tree.{Tree}
use Rattle.stored_lines.specs.Line.{Line}
use Rattle.record_kinds.specs.Model as model
use Rattle.record_kinds.specs.declared.record.Record.TheVariants as kind
use Rattle.record_shapes.specs.Shapes.{Around}
use Rattle.archive_state.specs.Content.{Records}
use Rattle.archive_state.proofs.MapKeys.{among_keys}
use Rattle.gedcom_export.specs.Around.{around}
use Rattle.plain_export.specs.Added.{
  add,
  added,
  added_at,
  added_by,
  added_by_entry,
  below_citation,
  citation,
  cited,
  cited_or_noted,
  data_lines,
  entry_note,
  is_of,
  lines_of,
  note_line,
  noted,
  noted_of,
  with_number,
  with_place,
}
use Rattle.plain_export.specs.Allowed.{page_line}
use Rattle.plain_export.specs.Firsts.{cited_by, firsts}
use Rattle.plain_export.specs.Plain.{IsAmong, added_to}
use Rattle.plain_export.specs.Words.{page_words}
use Rattle.plain_export.specs.declared.added.Added.{Added}
use Rattle.plain_export.specs.declared.noted.Noted.{Noted}
use Rattle.plain_export.proofs.Standing.{filtered, is_in, mapped, of_one, split_any, with_front}

line_there : (k : ℕ) (t : Tree Line) (xs : List Added) → IsAmong (add k t) xs → IsAmong t (lines_of k xs)
line_there k t xs h = mapped (λ (y : Added). y.line) (add k t) (filter (λ (y : Added). y.number == k) xs)
    (filtered (λ (y : Added). y.number == k) (add k t) xs (eq-eqb k k refl) h)

-- what an entry adds is added
added_there : (m : Records) (n : ℕ) (e : model.Entry) (k : ℕ) (t : Tree Line) → get m n ≡ Some (kind.Entry e)
    → IsAmong (add k t) (added_by_entry (around m) (firsts m) e) → IsAmong t (added_to m k)
added_there m n e k t at h = line_there k t (added m (around m))
    (of_one (added_at m (around m) (firsts m)) n (keys m) (add k t) (among_keys m n (kind.Entry e) at)
    (subst (λ o. IsAmong (add k t) (added_by m (around m) (firsts m) n o)) (sym at) h))

-- an entry without a link is a note of its source
pub is_noted : (m : Records) (n : ℕ) (e : model.Entry) → get m n ≡ Some (kind.Entry e)
    → cited (noted (firsts m) e) ≡ [] → IsAmong (entry_note (around m) e) (added_to m e.source)
is_noted m n e at none =
    let note = add e.source (entry_note (around m) e) in
    added_there m n e e.source (entry_note (around m) e) at
    (subst (λ ns. IsAmong note (cited_or_noted (around m) e (noted (firsts m) e) ns)) (sym none) ([], [], refl))

-- ---- what cites an entry
stays_in : (k : ℕ) (ns : List ℕ) (o : Option ℕ) → is_in ns k ≡ true → is_in (with_place ns o) k ≡ true
stays_in k ns None h = h
stays_in k ns (Some n) h = elim (is_in ns n) as (λ b. is_in (if b then ns else ns ++ n ∷ []) k ≡ true) [
  | true ↦ h
  | false ↦ list_any-append (λ j. j == k) ns (n ∷ []) ∙ or_left (is_in ns k) (is_in (n ∷ []) k) h
]

put_in : (k : ℕ) (ns : List ℕ) → is_in (with_number ns k) k ≡ true
put_in k ns = elim (is_in ns k) as (λ b. is_in ns k ≡ b → is_in (if b then ns else ns ++ k ∷ []) k ≡ true) [
  | true ↦ λ is. is
  | false ↦ λ is. list_any-append (λ j. j == k) ns (k ∷ [])
      ∙ or_right (is_in ns k) (is_in (k ∷ []) k) (or_left (k == k) false (eq-eqb k k refl))
] refl

all_stay : (k : ℕ) (xs : List Noted) (ns : List ℕ) → is_in ns k ≡ true
    → is_in (fold (λ ms (x : Noted). with_place ms x.at) ns xs) k ≡ true
all_stay k [] ns h = h
all_stay k (x ∷ xs) ns h = all_stay k xs (with_place ns x.at) (stays_in k ns x.at h)

placed : (k : ℕ) (x : Noted) (front back : List Noted) (ns : List ℕ) → x.at ≡ Some k
    → is_in (fold (λ ms (y : Noted). with_place ms y.at) ns (front ++ x ∷ back)) k ≡ true
placed k x [] back ns at = all_stay k back (with_place ns x.at)
    (ap (λ o. is_in (with_place ns o) k) at ∙ put_in k ns)
placed k x (y ∷ front) back ns at = placed k x front back (with_place ns y.at) at

cites : (a : Around) (e : model.Entry) (xs : List Noted) (ns : List ℕ) (k : ℕ) → is_in ns k ≡ true
    → IsAmong (add k (citation e xs k)) (cited_or_noted a e xs ns)
cites a e xs [] k h = absurd cc
cites a e xs (n ∷ ns) k h = mapped (λ j. add j (citation e xs j)) k (n ∷ ns) (split_any k (n ∷ ns) h)

module _ (m : Records) (e : model.Entry) (x : model.Mention) (l : model.Link) (among : IsAmong x e.mentions)
    (linked : x.link ≡ Some l) where
  abbrev k : ℕ
  k = cited_by (firsts m) e.date x.role l

  at : (noted_of (firsts m) e x).at ≡ Some k
  at = ap (λ o. option_map (cited_by (firsts m) e.date x.role) o) linked

  there : IsAmong (noted_of (firsts m) e x) (noted (firsts m) e)
  there = mapped (noted_of (firsts m) e) x e.mentions among

  is_there : is_in (cited (noted (firsts m) e)) k ≡ true
  is_there = subst (λ xs. is_in (cited xs) k ≡ true) (sym there.2)
      (placed k (noted_of (firsts m) e x) there.0 there.1 [] at)

  -- the entry of a linked mention is cited
  pub is_cited : (n : ℕ) → get m n ≡ Some (kind.Entry e) → IsAmong (citation e (noted (firsts m) e) k) (added_to m k)
  is_cited n found = added_there m n e k (citation e (noted (firsts m) e) k) found
      (cites (around m) e (noted (firsts m) e) (cited (noted (firsts m) e)) k is_there)

  -- with the words of the mention
  pub has_words : IsAmong (note_line (noted_of (firsts m) e x)) (below_citation e (noted (firsts m) e) k)
  has_words =
      let xs = noted (firsts m) e in
      let y = noted_of (firsts m) e x in
      with_front (note_line y) (page_line (page_words e) ∷ data_lines e)
      (map note_line (filter (λ (z : Noted). is_of k z.at) xs))
      (mapped note_line y (filter (λ (z : Noted). is_of k z.at) xs)
      (filtered (λ (z : Noted). is_of k z.at) y xs (ap (is_of k) at ∙ eq-eqb k k refl) there))
