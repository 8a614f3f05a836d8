-- Carried lines stay carried after a correction: none of them is read as a field that the record has not any more.
use Rattle.std.proofs.Common.{◌≡◌, ℕ, List, [], ◌∷◌, Bool, true, false, not, ◌&&◌, ◌||◌, refl, ◌∙◌}
use Rattle.std.specs.List.{list_all, list_any}
use Rattle.std.proofs.lemmas.Bool.{and_parts}
use Rattle.stored_lines.specs.Tree.{Tree}
use Rattle.stored_lines.specs.Line.{Line, Lines}
use Rattle.record_kinds.specs.Model as model
use Rattle.record_shapes.specs.declared.field.Field.{Field}
use Rattle.record_shapes.specs.Fields.{
  citation_field,
  event_field,
  holding_field,
  is_citation,
  person_field,
  row,
  source_field,
}
use Rattle.record_shapes.specs.Fields as part
use Rattle.record_shapes.specs.Forms.{Known, is_among, is_bare, is_some, is_text, names_a, tagged, value_of}
use Rattle.record_shapes.specs.Lists.{EachOf}
use Rattle.record_shapes.specs.Tags.{person_tags}
use Rattle.record_shapes.specs.Untaken.{
  AreUntaken,
  citation_leaves,
  event_leaves,
  holding_leaves,
  person_leaves,
  source_leaves,
}
use Rattle.record_shapes.proofs.Each.{each_zip, more_leave}
use Rattle.std.specs.Prelude.{codes}
use Rattle.field_changes.specs.Carrying.{
  is_author,
  is_call_number,
  is_date,
  is_page,
  is_place,
  is_publisher,
  is_quality,
  is_sex,
}

-- ---- lines of which a test holds of none
both_none : (d x y : Bool) → (d && (x || y)) ≡ false → ((d && x) ≡ false) × ((d && y) ≡ false)
both_none false x y e = (refl, refl)
both_none true false y e = (refl, e)
both_none true true y e = absurd cc

pub none_each : (d : Bool) (taken : Tree Line → Bool) (ts : Lines) → (d && list_any taken ts) ≡ false
    → EachOf (λ t. (d && taken t) ≡ false) ts
none_each d taken [] e = tt
none_each d taken (t ∷ ts) e =
    let both = both_none d (taken t) (list_any taken ts) e in (both.0, none_each d taken ts both.1)

-- so the lines that the fields of before leave, those of after leave too
pub still_left : (field : Tree Line → Field) (old new : Field → Bool) (P : Tree Line → Type 0)
    → ((t : Tree Line) → P t → old (field t) ≡ true → new (field t) ≡ true) → (ts : Lines) → EachOf P ts
    → AreUntaken field old ts → AreUntaken field new ts
still_left field old new P step [] h u = refl
still_left field old new P step (t ∷ ts) h u =
    let both = and_parts (old (field t)) (list_all (λ v. old (field v)) ts) u in
    λ i. step t h.0 both.0 i && still_left field old new P step ts h.1 both.1 i

-- a field that is there, where a line of it is not carried
is_there : (d : Bool) → (not d && true) ≡ false → d ≡ true
is_there true e = refl
is_there false e = absurd cc

-- ---- persons
abbrev person_row : Bool → Bool → Bool → Bool → Bool → Field
person_row a b c d e =
    row a part.a_name (row b part.a_sex (row c part.an_event (row d part.a_side (row e part.a_citation part.carried))))

person_still : (p q : model.Person) (a b c d e : Bool) → (not (is_some q.sex) && b) ≡ false
    → person_leaves p (person_row a b c d e) ≡ true → person_leaves q (person_row a b c d e) ≡ true
person_still p q true b c d e none old = old
person_still p q false true c d e none old = is_there (is_some q.sex) none
person_still p q false false true d e none old = old
person_still p q false false false true e none old = old
person_still p q false false false false true none old = old
person_still p q false false false false false none old = refl

pub person_left : (known : Known) (p q : model.Person) (ts : Lines)
    → (not (is_some q.sex) && list_any is_sex ts) ≡ false → AreUntaken (person_field known) (person_leaves p) ts
    → AreUntaken (person_field known) (person_leaves q) ts
person_left known p q ts none =
    still_left (person_field known) (person_leaves p) (person_leaves q) (λ t. (not (is_some q.sex) && is_sex t) ≡ false)
    (λ t h old. person_still p q (tagged (codes "NAME") t && is_text t) (is_sex t) (is_among person_tags t && is_text t)
    ((tagged (codes "FAMC") t || tagged (codes "FAMS") t) && names_a (codes "FAM") known (value_of t))
    (is_citation known t) h old) ts (none_each (not (is_some q.sex)) is_sex ts none)

-- ---- events
abbrev event_row : Bool → Bool → Bool → Bool → Field
event_row a b c d =
    row a part.a_date (row b part.a_place (row c part.a_participant (row d part.a_citation part.carried)))

event_still : (e f : model.Event) (a b c d : Bool)
    → ((not (is_some f.date) && a) ≡ false) × ((not (is_some f.place) && b) ≡ false)
    → event_leaves e (event_row a b c d) ≡ true → event_leaves f (event_row a b c d) ≡ true
event_still e f true b c d none old = is_there (is_some f.date) none.0
event_still e f false true c d none old = is_there (is_some f.place) none.1
event_still e f false false true d none old = old
event_still e f false false false true none old = old
event_still e f false false false false none old = refl

-- two tests on each
abbrev Neither : Bool → (Tree Line → Bool) → Bool → (Tree Line → Bool) → Tree Line → Type 0
Neither d one e other t = ((d && one t) ≡ false) × ((e && other t) ≡ false)

neither_each : (d : Bool) (one : Tree Line → Bool) (e : Bool) (other : Tree Line → Bool) (ts : Lines)
    → (d && list_any one ts) ≡ false → (e && list_any other ts) ≡ false → EachOf (Neither d one e other) ts
neither_each d one e other ts h k =
    each_zip (λ t. (d && one t) ≡ false) (λ t. (e && other t) ≡ false) (Neither d one e other) (λ t x y. (x, y)) ts
    (none_each d one ts h) (none_each e other ts k)

pub event_left : (known : Known) (e f : model.Event) (ts : Lines)
    → (not (is_some f.date) && list_any is_date ts) ≡ false → (not (is_some f.place) && list_any is_place ts) ≡ false
    → AreUntaken (event_field known) (event_leaves e) ts → AreUntaken (event_field known) (event_leaves f) ts
event_left known e f ts dates places =
    still_left (event_field known) (event_leaves e) (event_leaves f)
    (Neither (not (is_some f.date)) is_date (not (is_some f.place)) is_place)
    (λ t h old. event_still e f (is_date t) (is_place t)
    (tagged (codes "_PART") t && names_a (codes "INDI") known (value_of t)) (is_citation known t) h old) ts
    (neither_each (not (is_some f.date)) is_date (not (is_some f.place)) is_place ts dates places)

-- of an event of the same date and place, whatever they are
same_leaves : (e f : model.Event) → is_some f.date ≡ is_some e.date → is_some f.place ≡ is_some e.place → (x : Field)
    → event_leaves e x ≡ true → event_leaves f x ≡ true
same_leaves e f date place part.carried h = refl
same_leaves e f date place part.a_date h = date ∙ h
same_leaves e f date place part.a_place h = place ∙ h
same_leaves e f date place _ h = absurd cc

pub event_same : (known : Known) (e f : model.Event) → is_some f.date ≡ is_some e.date
    → is_some f.place ≡ is_some e.place → (ts : Lines) → AreUntaken (event_field known) (event_leaves e) ts
    → AreUntaken (event_field known) (event_leaves f) ts
event_same known e f date place =
    more_leave (event_field known) (event_leaves e) (event_leaves f) (same_leaves e f date place)

-- ---- citations
citation_still : (c d : model.Citation) (a b : Bool)
    → ((not (is_some d.page) && a) ≡ false) × ((not (is_some d.quality) && b) ≡ false)
    → citation_leaves c (row a part.a_page (row b part.a_quality part.carried)) ≡ true
    → citation_leaves d (row a part.a_page (row b part.a_quality part.carried)) ≡ true
citation_still c d true b none old = is_there (is_some d.page) none.0
citation_still c d false true none old = is_there (is_some d.quality) none.1
citation_still c d false false none old = refl

pub citation_left : (c d : model.Citation) (ts : Lines) → (not (is_some d.page) && list_any is_page ts) ≡ false
    → (not (is_some d.quality) && list_any is_quality ts) ≡ false → AreUntaken citation_field (citation_leaves c) ts
    → AreUntaken citation_field (citation_leaves d) ts
citation_left c d ts pages qualities =
    still_left citation_field (citation_leaves c) (citation_leaves d)
    (Neither (not (is_some d.page)) is_page (not (is_some d.quality)) is_quality)
    (λ t h old. citation_still c d (is_page t) (is_quality t) h old) ts
    (neither_each (not (is_some d.page)) is_page (not (is_some d.quality)) is_quality ts pages qualities)

-- ---- where a source is kept
holding_still : (g h : model.Holding) (a : Bool) → (not (is_some h.call_number) && a) ≡ false
    → holding_leaves g (row a part.a_call_number part.carried) ≡ true
    → holding_leaves h (row a part.a_call_number part.carried) ≡ true
holding_still g h true none old = is_there (is_some h.call_number) none
holding_still g h false none old = refl

pub holding_left : (g h : model.Holding) (ts : Lines)
    → (not (is_some h.call_number) && list_any is_call_number ts) ≡ false
    → AreUntaken holding_field (holding_leaves g) ts → AreUntaken holding_field (holding_leaves h) ts
holding_left g h ts none =
    still_left holding_field (holding_leaves g) (holding_leaves h)
    (λ t. (not (is_some h.call_number) && is_call_number t) ≡ false)
    (λ t k old. holding_still g h (is_call_number t) k old) ts
    (none_each (not (is_some h.call_number)) is_call_number ts none)

-- ---- sources: a title stays
source_still : (s u : model.Source) (t a b c : Bool) → (is_some s.title ≡ true → is_some u.title ≡ true)
    → ((not (is_some u.author) && a) ≡ false) × ((not (is_some u.publisher) && b) ≡ false)
    → source_leaves s (row t part.a_title (row a part.an_author (row b part.a_publisher (row c part.a_holding
    part.carried))))
    ≡ true
    → source_leaves u (row t part.a_title (row a part.an_author (row b part.a_publisher (row c part.a_holding
    part.carried))))
    ≡ true
source_still s u true a b c title none old = title old
source_still s u false true b c title none old = is_there (is_some u.author) none.0
source_still s u false false true c title none old = is_there (is_some u.publisher) none.1
source_still s u false false false true title none old = old
source_still s u false false false false title none old = refl

pub source_left : (known : Known) (s u : model.Source) (ts : Lines) → (is_some s.title ≡ true → is_some u.title ≡ true)
    → (not (is_some u.author) && list_any is_author ts) ≡ false
    → (not (is_some u.publisher) && list_any is_publisher ts) ≡ false
    → AreUntaken (source_field known) (source_leaves s) ts → AreUntaken (source_field known) (source_leaves u) ts
source_left known s u ts title authors publishers =
    still_left (source_field known) (source_leaves s) (source_leaves u)
    (Neither (not (is_some u.author)) is_author (not (is_some u.publisher)) is_publisher)
    (λ t h old. source_still s u (tagged (codes "TITL") t && is_bare t) (is_author t) (is_publisher t)
    (tagged (codes "REPO") t && names_a (codes "REPO") known (value_of t)) title h old) ts
    (neither_each (not (is_some u.author)) is_author (not (is_some u.publisher)) is_publisher ts authors publishers)
