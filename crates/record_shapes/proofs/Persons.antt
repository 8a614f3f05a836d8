-- What is read from the lines of a person is that person.
use Rattle.std.specs.Prelude.{
  ℕ,
  ◌≡◌,
  List,
  [],
  ◌∷◌,
  ◌++◌,
  map,
  true,
  false,
  Option,
  Some,
  None,
  option_map,
  codes,
  refl,
  bytes_eq,
}
use Rattle.std.specs.List.{filter, list_any}
use Rattle.std.proofs.Common.{ap, sym, ◌∙◌, append-nil}
use Rattle.std.proofs.lemmas.List.Elements.{filter-append}
use Rattle.stored_lines.specs.Tree.{Tree}
use Rattle.stored_lines.specs.Line.{Lines}
use Rattle.stored_lines.specs.declared.carried.Value.TheVariants as value
use Rattle.stored_lines.proofs.Back.{list_of_forest_of}
use Rattle.record_kinds.specs.Model as model
use Rattle.record_kinds.specs.declared.record.Record.{Record}
use Rattle.record_fields.specs.Bytes.{bytes_are}
use Rattle.record_fields.specs.Words.{sex_word, sex_of}
use Rattle.record_fields.specs.declared.words.Sex.{Sex}
use Rattle.record_fields.specs.declared.words.Sex.TheVariants as sex
use Rattle.record_shapes.specs.Lists.{EachOf}
use Rattle.record_shapes.specs.Tags.{person_tags}
use Rattle.record_shapes.specs.Forms.{Known, is_some}
use Rattle.record_shapes.specs.Fields.{
  Field,
  a_citation,
  a_name,
  a_sex,
  a_side,
  an_event,
  carried,
  is_same,
  person_field,
  row,
}
use Rattle.record_shapes.specs.Picking.{all_of, is_left}
use Rattle.record_shapes.specs.Shapes.{
  Around,
  Side,
  citation_lines,
  events_below,
  line,
  name_line,
  person_lines,
  side_line,
  text_line,
  text_lines,
}
use Rattle.record_shapes.specs.Reading.{name_from, person_from, read_by}
use Rattle.record_shapes.specs.Untaken.{person_leaves}
use Rattle.record_shapes.specs.Readable.{IsKnown, IsReadablePerson}
use Rattle.record_shapes.proofs.Owned.{IsOwner, are_events, are_citations}
use Rattle.record_shapes.proofs.Picked.{
  Are,
  kept_all,
  all_own,
  all_skip,
  all_take,
  lacks,
  keep_skip,
  skip_first,
  text_are,
  out_first,
  text_here,
  text_skip,
  left_more,
}

-- a tag of a list is none that is not on it
pub other_tag : (tags : List (List ℕ)) (tag word : List ℕ) → list_any (bytes_eq tag) tags ≡ true
    → list_any (bytes_eq word) tags ≡ false → bytes_eq tag word ≡ false
other_tag tags tag word h n =
    elim (bytes_eq tag word) as (λ b. bytes_eq tag word ≡ b → b ≡ false) [
      | true ↦ λ e. let same : tag ≡ word = bytes_are tag word e in
          let wrong : true ≡ false = sym h ∙ ap (λ x. list_any (bytes_eq x) tags) same ∙ n in absurd cc
      | false ↦ λ e. refl
    ] refl

event-field : (known : Known) (tag v : List ℕ) (under : Lines) → list_any (bytes_eq tag) person_tags ≡ true
    → person_field known (line tag (value.Text v) under) ≡ an_event
event-field known tag v under h =
    let no-name : bytes_eq tag (codes "NAME") ≡ false = other_tag person_tags tag (codes "NAME") h refl in
    let no-sex : bytes_eq tag (codes "SEX") ≡ false = other_tag person_tags tag (codes "SEX") h refl in
    rw (no-name, no-sex, h)

pub person_owner : (known : Known) → IsOwner known (person_field known) person_tags
person_owner known = record { events = event-field known; citations = λ c h. ap (λ b. row b a_citation carried) h }

module _ (known : Known) where
  pub names-are : (ns : List model.Name) → Are (person_field known) a_name (map name_line ns)
  names-are [] = tt
  names-are (n ∷ ns) = (refl, names-are ns)

  pub sex-is : (o : Option Sex) (t : List ℕ) → option_map sex_word o ≡ Some t
      → person_field known (text_line (codes "SEX") t) ≡ a_sex
  sex-is None t e = absurd cc
  sex-is (Some sex.Male) t e = let same : codes "M" ≡ t = cc in
      ap (λ u. person_field known (text_line (codes "SEX") u)) (sym same)
  sex-is (Some sex.Female) t e = let same : codes "F" ≡ t = cc in
      ap (λ u. person_field known (text_line (codes "SEX") u)) (sym same)
  sex-is (Some sex.Unknown) t e = let same : codes "U" ≡ t = cc in
      ap (λ u. person_field known (text_line (codes "SEX") u)) (sym same)

  pub children-are : (ss : List Side) → EachOf (λ (s : Side). IsKnown (codes "FAM") known s.family) ss
      → Are (person_field known) a_side (map (side_line (codes "FAMC")) ss)
  children-are [] h = tt
  children-are (s ∷ ss) h = (rw h.0, children-are ss h.1)

  pub partners-are : (ss : List Side) → EachOf (λ (s : Side). IsKnown (codes "FAM") known s.family) ss
      → Are (person_field known) a_side (map (side_line (codes "FAMS")) ss)
  partners-are [] h = tt
  partners-are (s ∷ ss) h = (rw h.0, partners-are ss h.1)

names-back : (ns : List model.Name) → map name_from (map name_line ns) ≡ ns
names-back [] = refl
names-back (n ∷ ns) = λ i. record { text = n.text; carried = list_of_forest_of n.carried i } ∷ names-back ns i

sex-back : (o : Option Sex) → read_by sex_of (option_map sex_word o) ≡ o
sex-back None = refl
sex-back (Some sex.Male) = refl
sex-back (Some sex.Female) = refl
sex-back (Some sex.Unknown) = refl

person-kept : (p : model.Person) (x : Field) → person_leaves p x ≡ true → is_left (a_sex ∷ []) x ≡ true
person-kept p carried e = refl
person-kept p a_sex e = refl
person-kept p _ e = absurd cc

no-word : (o : Option Sex) → option_map sex_word o ≡ None → o ≡ None
no-word None e = refl
no-word (Some s) e = absurd cc

pub person_back : (known : Known) (a : Around) (n : ℕ) (p : model.Person) (under : List (Tree Record))
    → IsReadablePerson known a n p under → person_from known (person_lines a n p under) ≡ p
person_back known a n p under h =
    let f = person_field known in
    let c = p.carried in
    let q = citation_lines under in
    let fams = map (side_line (codes "FAMS")) (a.partner_in n) in
    let famc = map (side_line (codes "FAMC")) (a.child_in n) in
    let ev = events_below a under in
    let sx = text_lines (codes "SEX") (option_map sex_word p.sex) in
    let nm = map name_line p.names in
    let are-q : Are f a_citation q = are_citations known f person_tags (person_owner known) a under h.owned in
    let are-fams : Are f a_side fams = partners-are known (a.partner_in n) h.partner_in in
    let are-famc : Are f a_side famc = children-are known (a.child_in n) h.child_in in
    let are-ev : Are f an_event ev = are_events known f person_tags (person_owner known) a under h.owned in
    let are-sx : Are f a_sex sx = text_are f a_sex (codes "SEX") (option_map sex_word p.sex) (sex-is known p.sex) in
    let are-nm : Are f a_name nm = names-are known p.names in
    let behind = ev ++ (famc ++ (fams ++ (q ++ c))) in
    let no-sex : p.sex ≡ None → all_of f a_sex behind ≡ [] = λ e.
    all_skip f a_sex an_event ev (famc ++ (fams ++ (q ++ c))) are-ev refl ∙ all_skip f a_sex a_side famc
    (fams ++ (q ++ c)) are-famc refl
    ∙ all_skip f a_sex a_side fams (q ++ c) are-fams refl ∙ all_skip f a_sex a_citation q c are-q refl
    ∙ lacks f (person_leaves p) a_sex c h.untaken (ap is_some e) in
    let no-sex-word : option_map sex_word p.sex ≡ None → all_of f a_sex behind ≡ [] = λ e. no-sex (no-word p.sex e) in
    let no-name : all_of f a_name (sx ++ behind) ≡ [] =
    all_skip f a_name a_sex sx behind are-sx refl
    ∙ all_skip f a_name an_event ev (famc ++ (fams ++ (q ++ c))) are-ev refl ∙ all_skip f a_name a_side famc
    (fams ++ (q ++ c)) are-famc refl
    ∙ all_skip f a_name a_side fams (q ++ c) are-fams refl ∙ all_skip f a_name a_citation q c are-q refl
    ∙ lacks f (person_leaves p) a_name c h.untaken refl in
    λ i. record {
      names = (ap (map name_from) (all_take f a_name nm (sx ++ behind) are-nm refl no-name ∙ append-nil nm)
          ∙ names-back p.names) i;
      sex = (ap (read_by sex_of) (text_skip f a_sex a_name nm (sx ++ behind) are-nm refl
          ∙ text_here f a_sex (codes "SEX") (option_map sex_word p.sex) behind (sex-is known p.sex) refl no-sex-word)
          ∙ sex-back p.sex) i;
      carried = (ap (filter (λ t. is_left (a_sex ∷ []) (f t))) (skip_first f a_sex a_name nm (sx ++ behind) are-nm refl
          ∙ ap (λ (us : Lines). nm ++ us) (out_first f a_sex (codes "SEX") (option_map sex_word p.sex) behind
          (sex-is known p.sex) refl no-sex-word))
          ∙ keep_skip f (is_left (a_sex ∷ [])) a_name nm behind are-nm refl
          ∙ keep_skip f (is_left (a_sex ∷ [])) an_event ev (famc ++ (fams ++ (q ++ c))) are-ev refl
          ∙ keep_skip f (is_left (a_sex ∷ [])) a_side famc (fams ++ (q ++ c)) are-famc refl
          ∙ keep_skip f (is_left (a_sex ∷ [])) a_side fams (q ++ c) are-fams refl
          ∙ keep_skip f (is_left (a_sex ∷ [])) a_citation q c are-q refl
          ∙ kept_all f (is_left (a_sex ∷ [])) c
          (left_more f (person_leaves p) (is_left (a_sex ∷ [])) c (person-kept p) h.untaken)) i;
    }

-- the lines of a person that name families are those of its sides
pub sides_picked : (known : Known) (a : Around) (n : ℕ) (p : model.Person) (under : List (Tree Record))
    → IsReadablePerson known a n p under
    → all_of (person_field known) a_side (person_lines a n p under) ≡ map (side_line (codes "FAMC")) (a.child_in n)
    ++ map (side_line (codes "FAMS")) (a.partner_in n)
sides_picked known a n p under h =
    let f = person_field known in
    let c = p.carried in
    let q = citation_lines under in
    let fams = map (side_line (codes "FAMS")) (a.partner_in n) in
    let famc = map (side_line (codes "FAMC")) (a.child_in n) in
    let ev = events_below a under in
    let sx = text_lines (codes "SEX") (option_map sex_word p.sex) in
    let nm = map name_line p.names in
    let behind : all_of f a_side (q ++ c) ≡ [] = all_skip f a_side a_citation q c
    (are_citations known f person_tags (person_owner known) a under h.owned) refl ∙ lacks f
    (person_leaves p) a_side c h.untaken refl in
    all_skip f a_side a_name nm (sx ++ (ev ++ (famc ++ (fams ++ (q ++ c))))) (names-are known p.names) refl
    ∙ all_skip f a_side a_sex sx (ev ++ (famc ++ (fams ++ (q ++ c))))
    (text_are f a_sex (codes "SEX") (option_map sex_word p.sex) (sex-is known p.sex)) refl
    ∙ all_skip f a_side an_event ev (famc ++ (fams ++ (q ++ c)))
    (are_events known f person_tags (person_owner known) a under h.owned) refl
    ∙ filter-append (λ t. is_same (f t) a_side) famc (fams ++ (q ++ c))
    ∙ (λ i. all_own f a_side famc (children-are known (a.child_in n) h.child_in) refl i
    ++ (filter-append (λ t. is_same (f t) a_side) fams (q ++ c)
    ∙ (λ j. all_own f a_side fams (partners-are known (a.partner_in n) h.partner_in) refl j ++ behind j)
    ∙ append-nil fams) i)
