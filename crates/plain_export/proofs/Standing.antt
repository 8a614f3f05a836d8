-- What stands in lists, and with it names, partners and values in the plain archive.
use Rattle.std.proofs.Common.{
  ◌≡◌,
  ◌==◌,
  ◌⊎◌,
  ◌++◌,
  ℕ,
  List,
  [],
  ◌∷◌,
  Bool,
  true,
  false,
  cond,
  refl,
  sym,
  ap,
  subst,
  inl,
  inr,
  ◌∙◌,
  map,
  eqb-true,
}
use Rattle.std.specs.Prelude.{◌||◌, not, codes, Option, Some, None}
use Rattle.std.specs.List.{filter, flat_map, list_any}
use Rattle.std.specs.Str.{bytes_eq}
use Rattle.std.proofs.lemmas.List.{append_assoc, map-append}
use Rattle.std.proofs.lemmas.List.Elements.{filter-append}
use Rattle.std.proofs.lemmas.Grind.{flat_map-append}
use Rattle.std.proofs.lemmas.Simd.{map-map}
use Rattle.stored_lines.specs.Line.{Line, Lines}
use Rattle.stored_lines.specs.Tree.{Tree}
use Rattle.stored_lines.specs.declared.carried.Value.TheVariants as value
use Rattle.record_fields.specs.declared.date.Date.{Date}
use Rattle.record_kinds.specs.Model as model
use Rattle.record_shapes.specs.Shapes.{Around, line, text_line}
use Rattle.archive_state.specs.Content.{Records}
use Rattle.plain_export.specs.Added.{below_citation, below_data, data_of, date_lines, is_of, note_line}
use Rattle.plain_export.specs.Allowed.{
  has_lines,
  have_one_role,
  is_blank,
  is_long,
  is_said,
  lined_value,
  may_have,
  one_line,
  page_line,
  page_note,
  said_lines,
  second_in_other,
  short_page,
  value_note,
}
use Rattle.plain_export.specs.Kept.{kept}
use Rattle.plain_export.specs.Plain.{
  IsAmong,
  place_line,
  place_lines,
  plain_citation,
  plain_event,
  plain_family,
  plain_name,
  plain_names,
  plain_partner,
  plain_person,
}
use Rattle.plain_export.specs.Words.{page_words}
use Rattle.plain_export.specs.declared.noted.Noted.{Noted}

-- ---- lists
pub mapped : {A B : Type 0} (f : A → B) (x : A) (xs : List A) → IsAmong x xs → IsAmong (f x) (map f xs)
mapped f x xs h = (map f h.0, map f h.1, ap (map f) h.2 ∙ map-append f h.0 (x ∷ h.1))

pub filtered : {A : Type 0} (p : A → Bool) (x : A) (xs : List A) → p x ≡ true → IsAmong x xs → IsAmong x (filter p xs)
filtered p x xs passes h = (
  filter p h.0,
  filter p h.1,
  ap (filter p) h.2 ∙ filter-append p h.0 (x ∷ h.1)
      ∙ ap (λ b. filter p h.0 ++ cond b (x ∷ filter p h.1) (filter p h.1)) passes,
)

pub with_front : {A : Type 0} (x : A) (front xs : List A) → IsAmong x xs → IsAmong x (front ++ xs)
with_front x front xs h = (
  front ++ h.0,
  h.1,
  ap (λ ys. front ++ ys) h.2 ∙ sym (append_assoc front h.0 (x ∷ h.1)),
)

with_back : {A : Type 0} (x : A) (xs back : List A) → IsAmong x xs → IsAmong x (xs ++ back)
with_back x xs back h = (h.0, h.1 ++ back, ap (λ ys. ys ++ back) h.2 ∙ append_assoc h.0 (x ∷ h.1) back)

abbrev pub is_in : List ℕ → ℕ → Bool
is_in ns n = list_any (λ j. j == n) ns

later : (n k : ℕ) (ns : List ℕ) → IsAmong n ns → IsAmong n (k ∷ ns)
later n k ns s = (k ∷ s.0, s.1, ap (λ ks. k ∷ ks) s.2)

pub split_any : (n : ℕ) (ns : List ℕ) → is_in ns n ≡ true → IsAmong n ns
split_any n [] e = absurd cc
split_any n (k ∷ ns) e = (elim (k == n) as (λ b. (k == n) ≡ b → (b || is_in ns n) ≡ true → IsAmong n (k ∷ ns)) [
  | true ↦ λ is t. ([], ns, ap (λ j. j ∷ ns) (eqb-true k n is))
  | false ↦ λ is t. later n k ns (split_any n ns t)
]) refl e

-- what one number has
pub of_one : {A : Type 0} (f : ℕ → List A) (n : ℕ) (ns : List ℕ) (x : A) → is_in ns n ≡ true → IsAmong x (f n)
    → IsAmong x (flat_map f ns)
of_one f n ns x there among =
    let s = split_any n ns there in
    subst (IsAmong x) (sym (ap (flat_map f) s.2 ∙ flat_map-append f s.0 (n ∷ s.1)))
    (with_front x (flat_map f s.0) (f n ++ flat_map f s.1) (with_back x (f n) (flat_map f s.1) among))

-- ---- names
abbrev with_text : (m : Records) (x : model.Name) → Bool → model.Name
with_text m x b = record { text = cond b (codes "//") (one_line x.text); carried = kept m x.carried }

pub name_stays : (m : Records) (more : Lines) (p : model.Person) (x : model.Name) → IsAmong x p.names
    → is_blank x.text ≡ false
    → IsAmong (record { text = one_line x.text; carried = kept m x.carried }) (plain_person m more p).names
name_stays m more p x among text = subst (λ y. IsAmong y (plain_names m p.names)) (ap (with_text m x) text)
    (mapped (plain_name m) x (filter is_said p.names)
    (filtered is_said x p.names (ap (λ b. not b || has_lines x.carried) text) among))

-- ---- partners
abbrev person_of : model.Partner → ℕ
person_of p = p.person

same_second : (ps : List model.Partner) → map person_of (second_in_other ps) ≡ map person_of ps
same_second [] = refl
same_second (p ∷ []) = refl
same_second (p ∷ q ∷ ps) = refl

same_pair : (ps : List model.Partner) (b : Bool) → map person_of (cond b (second_in_other ps) ps) ≡ map person_of ps
same_pair ps true = same_second ps
same_pair ps false = refl

pub same_partners : (m : Records) (f : model.Family)
    → map (λ (p : model.Partner). p.person) (plain_family m f).partners
    ≡ map (λ (p : model.Partner). p.person) f.partners
same_partners m f =
    same_pair (map (plain_partner m) f.partners) (have_one_role (map (plain_partner m) f.partners))
    ∙ map-map person_of (plain_partner m) f.partners

-- ---- values
abbrev Stays : List ℕ → List ℕ → Lines → Type 0
Stays text value lines = (value ≡ text)
    ⊎ ((value ≡ one_line text) ⊎ IsAmong (text_line (codes "NOTE") text) lines)

said : (text : List ℕ) (front back : Lines) → Stays text [] (front ++ (said_lines (codes "NOTE") text ++ back))
said [] front back = inl refl
said (b ∷ bs) front back = inr (inr (front, back, refl))

lined : (b : Bool) (text : List ℕ) (lines : Lines) → Stays text (cond b text (one_line text)) lines
lined true text lines = inl refl
lined false text lines = inr (inl refl)

pub value_stays : (m : Records) (a : Around) (more : Lines) (e : model.Event)
    → Stays e.value (plain_event m a more e).value (plain_event m a more e).carried
value_stays m a more e = elim (may_have e.tag e.value) as (λ b. Stays e.value (cond b (lined_value e.tag e.value) [])
    (place_lines m a e.place ++ (cond b [] (said_lines (codes "NOTE") e.value) ++ (kept m e.carried ++ more)))) [
      | true ↦ lined (bytes_eq e.tag (codes "DSCR")) e.value (place_lines m a e.place ++ (kept m e.carried ++ more))
      | false ↦ said e.value (place_lines m a e.place) (kept m e.carried ++ more)
    ]

-- ---- pages
paged : (page : List ℕ) (back : Lines) (b : Bool) → (cond b None (Some (one_line page)) ≡ Some (one_line page))
    ⊎ IsAmong (text_line (codes "NOTE") page) (cond b (text_line (codes "NOTE") page ∷ []) [] ++ back)
paged page back true = inr ([], back, refl)
paged page back false = inl refl

pub page_stays : (m : Records) (c : model.Citation) (page : List ℕ) → c.page ≡ Some page
    → ((plain_citation m c).page ≡ Some (one_line page))
    ⊎ IsAmong (text_line (codes "NOTE") page) (plain_citation m c).carried
page_stays m c page at = subst (λ o. (short_page o ≡ Some (one_line page))
    ⊎ IsAmong (text_line (codes "NOTE") page) (page_note o ++ kept m c.carried)) (sym at)
    (paged page (kept m c.carried) (is_long page))

-- ---- dates and places
pub place_stands : (m : Records) (a : Around) (more : Lines) (e : model.Event) (p : model.EventPlace)
    → e.place ≡ Some p → IsAmong (place_line m a p) (plain_event m a more e).carried
place_stands m a more e p at =
    let after : Lines = value_note e.tag e.value ++ (kept m e.carried ++ more) in
    subst (λ (o : Option model.EventPlace). IsAmong (place_line m a p) (place_lines m a o ++ after)) (sym at)
    ([], after, refl)

-- ---- citations of entries
pub data_stand : (e : model.Entry) (xs : List Noted) (n : ℕ) (t : Tree Line) → IsAmong t (below_data e)
    → IsAmong (line (codes "DATA") (value.Text []) (below_data e)) (below_citation e xs n)
data_stand e xs n t among =
    let notes : Lines = map note_line (filter (λ (x : Noted). is_of n x.at) xs) in
    of_some (page_line (page_words e)) notes (below_data e) among.0 t among.1 among.2
  where
    of_some : (p : Tree Line) (notes ts front : Lines) (t : Tree Line) (back : Lines) → ts ≡ front ++ t ∷ back
        → IsAmong (line (codes "DATA") (value.Text []) ts) (p ∷ (data_of ts ++ notes))
    of_some p notes [] [] t back is = absurd cc
    of_some p notes [] (f ∷ front) t back is = absurd cc
    of_some p notes (u ∷ us) front t back is = (p ∷ [], notes, refl)

pub date_among : (e : model.Entry) (d : Date) → e.date ≡ Some d
    → IsAmong (text_line (codes "DATE") d.text) (below_data e)
date_among e d at = subst (λ (o : Option Date). IsAmong (text_line (codes "DATE") d.text)
    (date_lines o ++ said_lines (codes "TEXT") e.text)) (sym at) ([], said_lines (codes "TEXT") e.text, refl)

pub text_among : (e : model.Entry) (b : ℕ) (bs : List ℕ) → e.text ≡ b ∷ bs
    → IsAmong (text_line (codes "TEXT") e.text) (below_data e)
text_among e b bs at = subst (λ (text : List ℕ). IsAmong (text_line (codes "TEXT") text)
    (date_lines e.date ++ said_lines (codes "TEXT") text)) (sym at) (date_lines e.date, [], refl)
