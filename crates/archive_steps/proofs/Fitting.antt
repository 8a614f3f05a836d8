-- The records that commands make are fit for a sound archive.
use Rattle.std.proofs.Common.{
  ◌≡◌,
  ℕ,
  ◌<◌,
  ◌≤◌,
  List,
  [],
  ◌∷◌,
  ◌++◌,
  length,
  Bool,
  true,
  false,
  not,
  nat_lt,
  nat_le,
  ◌||◌,
  ◌==◌,
  refl,
  sym,
  ap,
  ◌∙◌,
  subst,
  map,
  arith,
}
use Rattle.std.proofs.lemmas.Grind.{flat_map-append}
use Rattle.std.proofs.lemmas.List.{map_push, append-nil, append_assoc}
use Rattle.std.proofs.lemmas.List.Folds.{list_any-append}
use Rattle.std.specs.Prelude.{◌&&◌, Option, Some, None, option_map, IfSome, codes}
use Rattle.std.proofs.lemmas.Bool.Decides.{nat_tests}
use Rattle.std.specs.FinMap.{get}
use Rattle.std.specs.List.{list_all, list_any, flat_map}
use Rattle.std.specs.Str.{bytes_eq}
use Rattle.std.proofs.lemmas.Bool.{and_parts, or_parts}
use Rattle.record_fields.specs.declared.date.Date.{Date}
use Rattle.record_fields.specs.declared.words.Sex.{Sex}
use Rattle.record_text.specs.Text.{IsText, is_word}
use Rattle.record_fields.specs.Bytes.{bytes_are}
use Rattle.stored_lines.specs.Tree.{Tree}
use Rattle.stored_lines.specs.Line.{Line, Lines}
use Rattle.record_kinds.specs.Model as model
use Rattle.record_kinds.specs.declared.record.Record.{Record}
use Rattle.record_kinds.specs.declared.record.Record.TheVariants as kind
use Rattle.archive_state.specs.Links.{
  Link,
  a_place,
  a_person,
  a_holder,
  links,
  is_wanted,
  name_links,
  partner_links,
  child_links,
  participant_links,
  place_line_links,
  carried_links,
}
use Rattle.archive_state.specs.Carried.{carried, carried_tags, tags, place_line_carried}
use Rattle.record_shapes.specs.Forms.{is_some}
use Rattle.record_shapes.specs.declared.field.Field.{Field}
use Rattle.record_shapes.specs.Fields.{person_field, event_field, participant_field}
use Rattle.record_shapes.specs.Fields as part
use Rattle.record_shapes.specs.Untaken.{AreUntaken, person_leaves, event_leaves, participant_leaves, HasUntaken}
use Rattle.record_shapes.specs.Levels.{AreWithin, HasRoom}
use Rattle.archive_state.specs.Known.{known_of, known_before}
use Rattle.archive_state.specs.Texts.{own_texts, carried_texts, date_texts, line_texts}
use Rattle.archive_state.specs.Content.{Content}
use Rattle.record_shapes.specs.Tags.{event_tags, is_event_tag, person_tags, family_tags}
use Rattle.record_shapes.specs.Paths.{has_part}
use Rattle.archive_state.specs.Paths.{HasPath}
use Rattle.record_shapes.specs.Lists.{EachOf, IsOnce}
use Rattle.record_shapes.specs.Members.{members}
use Rattle.archive_state.specs.Sound.{IsOfRecords, HasSaidPlace, HasEventTag, Stands, IsSound, owner_in}
use Rattle.command_checks.specs.Checks.{tags_of, is_tag_of}
use Rattle.archive_steps.specs.Steps.{
  plain_name,
  plain_person,
  with_name,
  plain_partners,
  plain_child,
  with_child,
  is_same,
  is_partner,
  is_child,
  plain_place,
  plain_participant,
  with_participant,
  or_kept_date,
  or_kept_place,
  or_kept_text,
  with_fields,
}
use Rattle.command_checks.specs.declared.looks.Owner.{Owner}
use Rattle.command_checks.specs.declared.looks.Owner.TheVariants as owner
use Rattle.archive_state.proofs.Keeping.{IsAlike}
use Rattle.record_changes.proofs.Keeping.{IsFit}
use Rattle.merging.proofs.Alike.{events_alike, families_alike, persons_alike}
use Rattle.list_laws.proofs.Numbers.{other_way}
use Rattle.list_laws.proofs.Lists.{any_mapped}
use Rattle.record_shapes.proofs.Each.{more_leave, each_both, each_front, each_back}
use Rattle.record_shapes.proofs.Limits.{none_within}

-- ---- lists
-- one more that gives nothing
none_more : {X A : Type 0} (f : X → List A) (xs : List X) (x : X) → f x ≡ []
    → flat_map f (xs ++ (x ∷ [])) ≡ flat_map f xs
none_more f xs x e = flat_map-append f xs (x ∷ []) ∙ ap (λ l. flat_map f xs ++ (l ++ [])) e ∙ append-nil (flat_map f xs)

-- one more of which all is right
each_push : {X A : Type 0} (P : A → Type 0) (f : X → List A) (xs : List X) (x : X) (ys : List A)
    → EachOf P (flat_map f xs ++ ys) → EachOf P (f x) → EachOf P (flat_map f (xs ++ (x ∷ [])) ++ ys)
each_push P f xs x ys h k =
    let front : EachOf P (flat_map f xs ++ (f x ++ [])) = each_both P (flat_map f xs) (f x ++ [])
    (each_front P (flat_map f xs) ys h) (each_both P (f x) [] k tt) in
    each_both P (flat_map f (xs ++ (x ∷ []))) ys (subst (EachOf P) (sym (flat_map-append f xs (x ∷ []))) front)
    (each_back P (flat_map f xs) ys h)

map_one : {X Y : Type 0} (f : X → Y) (xs : List X) (x : X) → map f xs ++ (f x ∷ []) ≡ map f (xs ++ (x ∷ []))
map_one f xs x = sym (map_push f xs x)

-- ---- what stands at a number
-- a sound archive has nothing at its next number
pub none_at_next : (c : Content) → IsSound c → (old : Record) → get c.records c.next ≡ Some old → ⊥
none_at_next c sound old e = let less : c.next < c.next = (sound.rules.numbered c.next old e).1 in absurd (omega arith)

-- a number from the next one on, where nothing stands
abbrev pub IsFresh : Content → ℕ → Type 0
IsFresh c n = get c.records n ≡ None → c.next ≤ n

-- the next one is
pub fresh_at_next : (c : Content) → IsFresh c c.next
fresh_at_next c none = omega arith

-- where a record stands there is no need
pub not_fresh : (c : Content) (n : ℕ) (r : Record) → get c.records n ≡ Some r → IsFresh c n
not_fresh c n r at none = let both : Some r ≡ None = sym at ∙ none in absurd cc

it_is : (c : Content) (n : ℕ) (r old : Record) → get c.records n ≡ Some r → get c.records n ≡ Some old → r ≡ old
it_is c n r old e f = let both : Some r ≡ Some old = sym e ∙ f in cc

-- a record of the kind of the one that is there
pub over : (c : Content) (n : ℕ) (r new : Record) → get c.records n ≡ Some r → IsAlike r new → (old : Record)
    → get c.records n ≡ Some old → IsAlike old new
over c n r new at alike old e = subst (λ x. IsAlike x new) (it_is c n r old at e) alike

pub anew : (c : Content) (new : Record) → IsSound c → (old : Record) → get c.records c.next ≡ Some old → IsAlike old new
anew c new sound old e = absurd (none_at_next c sound old e)

-- ---- texts
-- those of a record in the place of one with the same carried lines
still_written : (c : Content) (n : ℕ) (old new : Record) → IsSound c → get c.records n ≡ Some old
    → carried new ≡ carried old → EachOf IsText (own_texts new) → EachOf IsText (own_texts new ++ carried_texts new)
still_written c n old new sound at carry own =
    each_both IsText (own_texts new) (carried_texts new) own
    (subst (λ l. EachOf IsText (flat_map line_texts l)) (sym carry)
    (each_back IsText (own_texts old) (carried_texts old) (sound.rules.texts n old at)))

own_written : (c : Content) (n : ℕ) (old : Record) → IsSound c → get c.records n ≡ Some old
    → EachOf IsText (own_texts old)
own_written c n old sound at = each_front IsText (own_texts old) (carried_texts old) (sound.rules.texts n old at)

-- ---- persons
person_fits : (c : Content) (n : ℕ) (p : model.Person)
    → ((old : Record) → get c.records n ≡ Some old → IsAlike old (kind.Person p)) → IsFresh c n
    → EachOf (Stands c.records) (links (kind.Person p)) → EachOf IsOfRecords (carried_tags (kind.Person p))
    → EachOf IsText (own_texts (kind.Person p) ++ carried_texts (kind.Person p))
    → HasUntaken (known_before c.records n) (known_of c.records) (kind.Person p)
    → HasRoom (owner_in c.records (kind.Person p)) (kind.Person p) → IsFit c n (kind.Person p)
person_fits c n p alike free named carry written untaken levels = record {
  alike = alike;
  fresh = free;
  no_place = λ q e. absurd cc;
  keys = λ q e k there. absurd cc;
  no_other = λ q e. absurd cc;
  named = named;
  parents = tt;
  normal = tt;
  once = tt;
  data_tags = carry;
  trailers = tt;
  texts = written;
  places = tt;
  events = tt;
  mentions = tt;
  untaken = untaken;
  levels = levels;
}

pub new_person_fits : (c : Content) (name : List ℕ) (sex : Option Sex) → IsSound c → IsText name
    → IsFit c c.next (kind.Person (plain_person name sex))
new_person_fits c name sex sound is =
    person_fits c c.next (plain_person name sex) (anew c (kind.Person (plain_person name sex)) sound)
    (fresh_at_next c) tt tt (is, tt) refl ((none_within 97, tt), none_within 98)

-- a person in the place of one with the same links and the same carried lines, that has a sex where the other has one
person_over : (c : Content) (n : ℕ) (p q : model.Person) → IsSound c → get c.records n ≡ Some (kind.Person p)
    → links (kind.Person q) ≡ links (kind.Person p) → carried (kind.Person q) ≡ carried (kind.Person p)
    → EachOf IsText (own_texts (kind.Person q))
    → q.carried ≡ p.carried → (is_some p.sex ≡ true → is_some q.sex ≡ true)
    → EachOf (λ (x : model.Name). AreWithin 97 x.carried) q.names → IsFit c n (kind.Person q)
person_over c n p q sound at linked carry written own sex names =
    let field : Tree Line → Field = person_field (known_of c.records) in
    person_fits c n q
    (over c n (kind.Person p) (kind.Person q) at (persons_alike p q))
    (not_fresh c n (kind.Person p) at)
    (subst (EachOf (Stands c.records)) (sym linked) (sound.named n (kind.Person p) at))
    (subst (λ l. EachOf IsOfRecords (flat_map tags l)) (sym carry) (sound.rules.tags n (kind.Person p) at))
    (still_written c n (kind.Person p) (kind.Person q) sound at carry written)
    (subst (λ (l : Lines). AreUntaken field (person_leaves q) l) (sym own)
    (more_leave field (person_leaves p) (person_leaves q) more p.carried
    (sound.rules.untaken n (kind.Person p) at)))
    (names, subst (λ (l : Lines). AreWithin 98 l) (sym own) (sound.rules.levels n (kind.Person p) at).1)
  where
    more : (x : Field) → person_leaves p x ≡ true → person_leaves q x ≡ true
    more part.carried e = refl
    more part.a_sex e = sex e
    more _ e = absurd cc

pub add_name_fits : (c : Content) (n : ℕ) (p : model.Person) (name : List ℕ) → IsSound c
    → get c.records n ≡ Some (kind.Person p) → IsText name → IsFit c n (kind.Person (with_name name p))
add_name_fits c n p name sound at is =
    person_over c n p (with_name name p) sound at
    (ap (λ l. l ++ carried_links p.carried) (none_more name_links p.names (plain_name name) refl))
    (ap (λ l. l ++ p.carried) (none_more (λ (x : model.Name). x.carried) p.names (plain_name name) refl))
    (subst (EachOf IsText) (map_one (λ (x : model.Name). x.text) p.names (plain_name name))
    (each_both IsText (map (λ (x : model.Name). x.text) p.names) (name ∷ [])
    (own_written c n (kind.Person p) sound at) (is, tt)))
    refl (λ e. e) (each_both (λ (x : model.Name). AreWithin 97 x.carried) p.names (plain_name name ∷ [])
    (sound.rules.levels n (kind.Person p) at).0 (none_within 97, tt))

pub set_sex_fits : (c : Content) (n : ℕ) (p : model.Person) (sex : Sex) → IsSound c
    → get c.records n ≡ Some (kind.Person p) → IsFit c n (kind.Person (record p { sex = Some sex }))
set_sex_fits c n p sex sound at = person_over c n p (record p { sex = Some sex }) sound at refl refl
    (own_written c n (kind.Person p) sound at) refl (λ e. refl) (sound.rules.levels n (kind.Person p) at).0

-- ---- families
family_fits : (c : Content) (n : ℕ) (f : model.Family)
    → ((old : Record) → get c.records n ≡ Some old → IsAlike old (kind.Family f)) → IsFresh c n
    → EachOf (Stands c.records) (links (kind.Family f)) → IsOnce (members f) → EachOf IsOfRecords
    (carried_tags (kind.Family f)) → EachOf IsText (carried_texts (kind.Family f))
    → HasUntaken (known_before c.records n) (known_of c.records) (kind.Family f)
    → HasRoom (owner_in c.records (kind.Family f)) (kind.Family f) → IsFit c n (kind.Family f)
family_fits c n f alike free named once carry written untaken levels = record {
  alike = alike;
  fresh = free;
  no_place = λ q e. absurd cc;
  keys = λ q e k there. absurd cc;
  no_other = λ q e. absurd cc;
  named = named;
  parents = tt;
  normal = tt;
  once = once;
  data_tags = carry;
  trailers = tt;
  texts = written;
  places = tt;
  events = tt;
  mentions = tt;
  untaken = untaken;
  levels = levels;
}

-- a person stands there, where a number is given
abbrev pub PersonAt : Content → Option ℕ → Type 0
PersonAt c None = Unit {0}
PersonAt c (Some n) = Stands c.records (n, a_person)

abbrev family_of : Option ℕ → Option ℕ → model.Family
family_of husband wife = record { partners = plain_partners husband wife; children = []; carried = [] }

partners_stand : (c : Content) (husband wife : Option ℕ) → PersonAt c husband → PersonAt c wife
    → EachOf (Stands c.records) (links (kind.Family (family_of husband wife)))
partners_stand c None None h w = tt
partners_stand c (Some a) None h w = (h, tt)
partners_stand c None (Some b) h w = (w, tt)
partners_stand c (Some a) (Some b) h w = (h, (w, tt))

partners_once : (husband wife : Option ℕ) → is_same husband wife ≡ false → IsOnce (members (family_of husband wife))
partners_once None None e = tt
partners_once (Some a) None e = (refl, tt)
partners_once None (Some b) e = (refl, tt)
partners_once (Some a) (Some b) e = (ap (λ x. x || false) (other_way a b false e), (refl, tt))

partners_carry : (husband wife : Option ℕ) → carried (kind.Family (family_of husband wife)) ≡ []
partners_carry None None = refl
partners_carry (Some a) None = refl
partners_carry None (Some b) = refl
partners_carry (Some a) (Some b) = refl

partners_room : (husband wife : Option ℕ)
    → EachOf (λ (p : model.Partner). AreWithin 97 p.carried × AreWithin 97 p.carried_by_person)
    (plain_partners husband wife)
partners_room None None = tt
partners_room (Some a) None = ((none_within 97, none_within 97), tt)
partners_room None (Some b) = ((none_within 97, none_within 97), tt)
partners_room (Some a) (Some b) = ((none_within 97, none_within 97), ((none_within 97, none_within 97), tt))

pub new_family_fits : (c : Content) (husband wife : Option ℕ) → IsSound c → PersonAt c husband → PersonAt c wife
    → is_same husband wife ≡ false
    → IsFit c c.next (kind.Family (record { partners = plain_partners husband wife; children = []; carried = [] }))
new_family_fits c husband wife sound h w other =
    family_fits c c.next (family_of husband wife) (anew c (kind.Family (family_of husband wife)) sound)
    (fresh_at_next c)
    (partners_stand c husband wife h w) (partners_once husband wife other)
    (subst (λ l. EachOf IsOfRecords (flat_map tags l)) (sym (partners_carry husband wife)) tt)
    (subst (λ l. EachOf IsText (flat_map line_texts l)) (sym (partners_carry husband wife)) tt)
    refl (partners_room husband wife, tt, none_within 98)

-- a number that is not among those that are once
once_more : (ns : List ℕ) (n : ℕ) → IsOnce ns → list_any (λ m. m == n) ns ≡ false → IsOnce (ns ++ (n ∷ []))
once_more [] n h e = (refl, tt)
once_more (m ∷ ns) n h e = (
  list_any-append (λ k. k == m) ns (n ∷ []) ∙ ap (λ b. b || ((n == m) || false)) h.0 ∙ ap (λ b. b || false)
      (other_way m n false (or_parts (m == n) (list_any (λ k. k == n) ns) e).0),
  once_more ns n h.1 (or_parts (m == n) (list_any (λ k. k == n) ns) e).1,
)

pub member_more : (f : model.Family) (n : ℕ) → members (with_child n f) ≡ members f ++ (n ∷ [])
member_more f n =
    let person : model.Child → ℕ = λ c. c.person in
    ap (λ l. map (λ (p : model.Partner). p.person) f.partners ++ l) (sym (map_one person f.children (plain_child n)))
    ∙ sym (append_assoc (map (λ (p : model.Partner). p.person) f.partners) (map person f.children) (n ∷ []))

no_member : (f : model.Family) (n : ℕ) → (is_partner n f || is_child n f) ≡ false
    → list_any (λ m. m == n) (members f) ≡ false
no_member f n e =
    list_any-append (λ m. m == n) (map (λ (p : model.Partner). p.person) f.partners)
    (map (λ (c : model.Child). c.person) f.children)
    ∙ ap (λ b. b || list_any (λ m. m == n) (map (λ (c : model.Child). c.person) f.children))
    (any_mapped (λ m. m == n) (λ (p : model.Partner). p.person) f.partners)
    ∙ ap (λ b. is_partner n f || b) (any_mapped (λ m. m == n) (λ (c : model.Child). c.person) f.children)
    ∙ e

pub add_child_fits : (c : Content) (n : ℕ) (f : model.Family) (person : ℕ) → IsSound c
    → get c.records n ≡ Some (kind.Family f) → Stands c.records (person, a_person)
    → (is_partner person f || is_child person f) ≡ false → IsFit c n (kind.Family (with_child person f))
add_child_fits c n f person sound at stands other =
    let P : Link → Type 0 = Stands c.records in
    let old : EachOf P (links (kind.Family f)) = sound.named n (kind.Family f) at in
    let rest : EachOf P (flat_map child_links f.children ++ carried_links f.carried) = each_back P
    (flat_map partner_links f.partners) (flat_map child_links f.children ++ carried_links f.carried) old in
    let front : EachOf P (flat_map partner_links f.partners) = each_front P (flat_map partner_links f.partners)
    (flat_map child_links f.children ++ carried_links f.carried) old in
    let more : EachOf P (flat_map child_links (f.children ++ (plain_child person ∷ [])) ++ carried_links f.carried) =
    each_push P child_links f.children (plain_child person) (carried_links f.carried) rest (stands, tt) in
    let carry : carried (kind.Family (with_child person f)) ≡ carried (kind.Family f) =
    ap (λ l. flat_map (λ (p : model.Partner). p.carried ++ p.carried_by_person) f.partners ++ (l ++ f.carried))
    (none_more (λ (x : model.Child). x.carried ++ x.carried_by_person) f.children (plain_child person) refl) in
    let room : HasRoom None (kind.Family f) = sound.rules.levels n (kind.Family f) at in
    family_fits c n (with_child person f)
    (over c n (kind.Family f) (kind.Family (with_child person f)) at (families_alike f (with_child person f)))
    (not_fresh c n (kind.Family f) at)
    (each_both P (flat_map partner_links f.partners)
    (flat_map child_links (f.children ++ (plain_child person ∷ [])) ++ carried_links f.carried) front more)
    (subst IsOnce (sym (member_more f person))
    (once_more (members f) person (sound.rules.once n (kind.Family f) at) (no_member f person other)))
    (subst (λ l. EachOf IsOfRecords (flat_map tags l)) (sym carry) (sound.rules.tags n (kind.Family f) at))
    (still_written c n (kind.Family f) (kind.Family (with_child person f)) sound at carry tt)
    (sound.rules.untaken n (kind.Family f) at) (
      room.0,
      each_both (λ (x : model.Child). AreWithin 97 x.carried × AreWithin 97 x.carried_by_person) f.children
          (plain_child person ∷ []) room.1 ((none_within 97, none_within 97), tt),
      room.2,
    )

-- ---- events
event_fits : (c : Content) (n : ℕ) (e : model.Event)
    → ((old : Record) → get c.records n ≡ Some old → IsAlike old (kind.Event e)) → IsFresh c n
    → EachOf (Stands c.records) (links (kind.Event e)) → EachOf IsOfRecords (e.tag ∷ carried_tags (kind.Event e))
    → EachOf IsText (own_texts (kind.Event e) ++ carried_texts (kind.Event e)) → HasSaidPlace c.records (kind.Event e)
    → HasEventTag c.records (kind.Event e) → HasUntaken (known_before c.records n) (known_of c.records) (kind.Event e)
    → HasRoom (owner_in c.records (kind.Event e)) (kind.Event e) → IsFit c n (kind.Event e)
event_fits c n e alike free named carry written place event untaken levels = record {
  alike = alike;
  fresh = free;
  no_place = λ q e. absurd cc;
  keys = λ q e k there. absurd cc;
  no_other = λ q e. absurd cc;
  named = named;
  parents = tt;
  normal = tt;
  once = tt;
  data_tags = carry;
  trailers = tt;
  texts = written;
  places = place;
  events = event;
  mentions = tt;
  untaken = untaken;
  levels = levels;
}

-- a place stands there whose path has a part that is not empty, where a number is given
abbrev pub PlaceAt : Content → Option ℕ → Type 0
PlaceAt c None = Unit {0}
PlaceAt c (Some n) = Stands c.records (n, a_place) × ((path : List ℕ) → HasPath c.records n path → has_part path ≡ true)

-- a tag of an event is a tag, and none of a continuation
abbrev is_fine : List ℕ → Bool
is_fine t = (nat_lt 0 (length t) && (nat_le (length t) 31 && list_all is_word t)) && not
    (bytes_eq t (codes "CONC") || bytes_eq t (codes "CONT"))

is_one : (tags : List (List ℕ)) (tag : List ℕ) → list_all is_fine tags ≡ true → list_any (bytes_eq tag) tags ≡ true
    → is_fine tag ≡ true
is_one [] tag h e = absurd cc
is_one (t ∷ ts) tag h e =
    let both : (is_fine t ≡ true) × (list_all is_fine ts ≡ true) = and_parts (is_fine t) (list_all is_fine ts) h in
    elim (bytes_eq tag t) as (λ b. bytes_eq tag t ≡ b → (b || list_any (bytes_eq tag) ts) ≡ true → is_fine tag ≡ true) [
      | true ↦ λ same f. ap is_fine (bytes_are tag t same) ∙ both.0
      | false ↦ λ same f. is_one ts tag both.1 f
    ] refl e

fine_range : (k : ℕ) (words other : Bool) → ((nat_lt 0 k && (nat_le k 31 && words)) && other) ≡ true
    → (0 < k) × ((k ≤ 31) × ((words ≡ true) × (other ≡ true)))
fine_range k words other e = grind (arith, nat_tests)

fine_tag : (tag : List ℕ) → is_fine tag ≡ true → IsOfRecords tag
fine_tag tag e =
    let r = fine_range (length tag) (list_all is_word tag)
    (not (bytes_eq tag (codes "CONC") || bytes_eq tag (codes "CONT"))) e in (
      record { some = r.0; short = r.1.0; words = r.1.1.0 },
      (λ (same : tag ≡ codes "CONC"). let f : is_fine (codes "CONC") ≡ true = ap is_fine (sym same) ∙ e in absurd cc),
      (λ (same : tag ≡ codes "CONT"). let f : is_fine (codes "CONT") ≡ true = ap is_fine (sym same) ∙ e in absurd cc),
    )

fine_of_owner : (o : Owner) (tag : List ℕ) → is_tag_of o tag ≡ true → IsOfRecords tag
fine_of_owner owner.Person tag e = fine_tag tag (is_one person_tags tag refl e)
fine_of_owner owner.Family tag e = fine_tag tag (is_one family_tags tag refl e)

abbrev plain_event : ℕ → List ℕ → List ℕ → Option Date → Option ℕ → model.Event
plain_event owner tag value date place = record {
  owner = owner;
  tag = tag;
  value = value;
  date = date;
  place = option_map plain_place place;
  participants = [];
  carried = [];
}

new_links : (c : Content) (owner : ℕ) (tag value : List ℕ) (date : Option Date) (place : Option ℕ)
    → Stands c.records (owner, a_holder) → PlaceAt c place → EachOf (Stands c.records)
    (links (kind.Event (plain_event owner tag value date place)))
new_links c owner tag value date None h p = (h, tt)
new_links c owner tag value date (Some n) h p = (h, (p.0, tt))

new_carried : (owner : ℕ) (tag value : List ℕ) (date : Option Date) (place : Option ℕ)
    → carried (kind.Event (plain_event owner tag value date place)) ≡ []
new_carried owner tag value date None = refl
new_carried owner tag value date (Some n) = refl

new_written : (owner : ℕ) (tag value : List ℕ) (date : Option Date) (place : Option ℕ) → IsText value
    → EachOf IsText (date_texts date)
    → EachOf IsText (own_texts (kind.Event (plain_event owner tag value date place)) ++ carried_texts
    (kind.Event (plain_event owner tag value date place)))
new_written owner tag value date place is dated =
    let event : Record = kind.Event (plain_event owner tag value date place) in
    each_both IsText (own_texts event) (carried_texts event) (is, each_both IsText (date_texts date) [] dated tt)
    (subst (λ l. EachOf IsText (flat_map line_texts l)) (sym (new_carried owner tag value date place)) tt)

new_said : (c : Content) (owner : ℕ) (tag value : List ℕ) (date : Option Date) (place : Option ℕ) → PlaceAt c place
    → HasSaidPlace c.records (kind.Event (plain_event owner tag value date place))
new_said c owner tag value date None p = tt
new_said c owner tag value date (Some n) p = p.1

-- the tag is one of the owner's kind
tag_of_owner : (c : Content) (k : ℕ) (o : Owner) (old : Record) (tag : List ℕ) → get c.records k ≡ Some old
    → event_tags old ≡ tags_of o → is_tag_of o tag ≡ true → IfSome (get c.records k) (λ r. is_event_tag tag r ≡ true)
tag_of_owner c k o old tag at tags e =
    subst (λ (r : Option Record). IfSome r (λ x. is_event_tag tag x ≡ true)) (sym at)
    (ap (list_any (bytes_eq tag)) tags ∙ e)

new_room : (place : Option ℕ) → IfSome (option_map plain_place place) (λ (p : model.EventPlace). AreWithin 96 p.carried)
new_room None = tt
new_room (Some n) = none_within 96

pub new_event_fits : (c : Content) (n : ℕ) (o : Owner) (old : Record) (tag value : List ℕ) (date : Option Date)
    (place : Option ℕ) → IsSound c → get c.records n ≡ Some old → is_wanted a_holder old ≡ true
    → event_tags old ≡ tags_of o → is_tag_of o tag ≡ true → PlaceAt c place → IsText value
    → EachOf IsText (date_texts date)
    → IsFit c c.next (kind.Event
    (record {
      owner = n;
      tag = tag;
      value = value;
      date = date;
      place = option_map plain_place place;
      participants = [];
      carried = [];
    }))
new_event_fits c n o old tag value date place sound at holder tagged one said is dated =
    event_fits c c.next (plain_event n tag value date place)
    (anew c (kind.Event (plain_event n tag value date place)) sound) (fresh_at_next c)
    (new_links c n tag value date place (ap (option_map (is_wanted a_holder)) at ∙ ap Some holder) said) (
      fine_of_owner o tag one,
      subst (λ l. EachOf IsOfRecords (flat_map tags l))
          (sym (new_carried n tag value date place)) tt,
    )
    (new_written n tag value date place is dated)
    (new_said c n tag value date place said)
    (tag_of_owner c n o old tag at tagged one)
    (tt, refl)
    (new_room place, tt, none_within 97)

-- an event in the place of one of the same owner, tag and carried lines, that has a date and a place where the other
-- has them
event_over : (c : Content) (n : ℕ) (e f : model.Event) → IsSound c → get c.records n ≡ Some (kind.Event e)
    → f.owner ≡ e.owner → f.tag ≡ e.tag → EachOf (Stands c.records) (links (kind.Event f))
    → EachOf IsOfRecords (carried_tags (kind.Event f))
    → EachOf IsText (own_texts (kind.Event f) ++ carried_texts (kind.Event f)) → HasSaidPlace c.records (kind.Event f)
    → f.carried ≡ e.carried → (is_some e.date ≡ true → is_some f.date ≡ true)
    → (is_some e.place ≡ true → is_some f.place ≡ true)
    → EachOf (λ (p : model.Participant). AreUntaken participant_field (participant_leaves p) p.carried) f.participants
    → IfSome f.place (λ (p : model.EventPlace). AreWithin 96 p.carried)
    → EachOf (λ (p : model.Participant). AreWithin 96 p.carried) f.participants → IsFit c n (kind.Event f)
event_over c n e f sound at owner tag named carry written place own date put took placed_room took_room =
    let field : Tree Line → Field = event_field (known_of c.records) in
    event_fits c n f
    (over c n (kind.Event e) (kind.Event f) at (events_alike e f))
    (not_fresh c n (kind.Event e) at)
    named
    (subst IsOfRecords (sym tag) (sound.rules.tags n (kind.Event e) at).0, carry)
    written
    place
    (subst (λ (t : List ℕ). IfSome (get c.records f.owner) (λ r. is_event_tag t r ≡ true)) (sym tag)
    (subst (λ (k : ℕ). IfSome (get c.records k) (λ r. is_event_tag e.tag r ≡ true)) (sym owner)
    (sound.rules.events n (kind.Event e) at))) (
      took,
      subst (λ (l : Lines). AreUntaken field (event_leaves f) l) (sym own)
          (more_leave field (event_leaves e) (event_leaves f) more e.carried
          (sound.rules.untaken n (kind.Event e) at).1),
    )
    (placed_room, took_room, subst (λ (l : Lines). AreWithin 97 l) (sym own) (sound.rules.levels n (kind.Event e) at).2)
  where
    more : (x : Field) → event_leaves e x ≡ true → event_leaves f x ≡ true
    more part.carried e = refl
    more part.a_date e = date e
    more part.a_place e = put e
    more _ e = absurd cc

one_role_more : (e : model.Event) (person : ℕ) (role : List ℕ) → EachOf IsText (own_texts (kind.Event e)) → IsText role
    → EachOf IsText (own_texts (kind.Event (with_participant person role e)))
one_role_more e person role old is =
    let role_of : model.Participant → List ℕ = λ p. p.role in
    let dates : List (List ℕ) = date_texts e.date in
    let roles : List (List ℕ) = map role_of e.participants in (
      old.0,
      each_both IsText dates (map role_of (e.participants ++ (plain_participant person role ∷ [])))
          (each_front IsText dates roles old.1)
          (subst (EachOf IsText) (map_one role_of e.participants (plain_participant person role))
          (each_both IsText roles (role ∷ []) (each_back IsText dates roles old.1) (is, tt))),
    )

pub add_participant_fits : (c : Content) (n : ℕ) (e : model.Event) (person : ℕ) (role : List ℕ) → IsSound c
    → get c.records n ≡ Some (kind.Event e) → Stands c.records (person, a_person) → IsText role
    → IsFit c n (kind.Event (with_participant person role e))
add_participant_fits c n e person role sound at stands is =
    let P : Link → Type 0 = Stands c.records in
    let old : EachOf P (links (kind.Event e)) = sound.named n (kind.Event e) at in
    let more : model.Event = with_participant person role e in
    let rest : EachOf P (flat_map participant_links e.participants ++ carried_links e.carried) = each_back P
    (place_line_links e.place) (flat_map participant_links e.participants ++ carried_links e.carried) old.1 in
    let front : EachOf P (place_line_links e.place) = each_front P (place_line_links e.place)
    (flat_map participant_links e.participants ++ carried_links e.carried) old.1 in
    let back : EachOf P (flat_map participant_links more.participants ++ carried_links e.carried) = each_push P
    participant_links e.participants (plain_participant person role) (carried_links e.carried) rest (stands, tt) in
    let carry : carried (kind.Event more) ≡ carried (kind.Event e) =
    ap (λ l. place_line_carried e.place ++ (l ++ e.carried))
    (none_more (λ (x : model.Participant). x.carried) e.participants (plain_participant person role) refl) in
    let room : HasRoom None (kind.Event e) = sound.rules.levels n (kind.Event e) at in
    event_over c n e more sound at refl refl (
      old.0,
      each_both P (place_line_links e.place)
          (flat_map participant_links more.participants ++ carried_links e.carried) front back,
    )
    (subst (λ l. EachOf IsOfRecords (flat_map tags l)) (sym carry) (sound.rules.tags n (kind.Event e) at).1)
    (still_written c n (kind.Event e) (kind.Event more) sound at carry
    (one_role_more e person role (own_written c n (kind.Event e) sound at) is))
    (sound.rules.places n (kind.Event e) at)
    refl (λ q. q) (λ q. q)
    (each_both (λ (p : model.Participant). AreUntaken participant_field (participant_leaves p) p.carried) e.participants
    (plain_participant person role ∷ []) (sound.rules.untaken n (kind.Event e) at).0 (refl, tt))
    room.0 (each_both (λ (p : model.Participant). AreWithin 96 p.carried) e.participants
    (plain_participant person role ∷ []) room.1 (none_within 96, tt))

-- ---- another place
amended_links : (c : Content) (place : Option ℕ) (p : Option model.EventPlace) → PlaceAt c place
    → EachOf (Stands c.records) (place_line_links p) → EachOf (Stands c.records)
    (place_line_links (or_kept_place place p))
amended_links c None p h old = old
amended_links c (Some n) None h old = (h.0, tt)
amended_links c (Some n) (Some p) h old = (h.0, old.1)

amended_carried : (place : Option ℕ) (p : Option model.EventPlace) → place_line_carried (or_kept_place place p)
    ≡ place_line_carried p
amended_carried None p = refl
amended_carried (Some n) None = refl
amended_carried (Some n) (Some p) = refl

amended_said : (c : Content) (place : Option ℕ) (p : Option model.EventPlace) → PlaceAt c place
    → IfSome (option_map (λ (x : model.EventPlace). x.place) p)
    (λ k. (path : List ℕ) → HasPath c.records k path → has_part path ≡ true)
    → IfSome (option_map (λ (x : model.EventPlace). x.place) (or_kept_place place p))
    (λ k. (path : List ℕ) → HasPath c.records k path → has_part path ≡ true)
amended_said c None p h old = old
amended_said c (Some n) None h old = h.1
amended_said c (Some n) (Some p) h old = h.1

amended_room : (place : Option ℕ) (p : Option model.EventPlace)
    → IfSome p (λ (x : model.EventPlace). AreWithin 96 x.carried) → IfSome (or_kept_place place p)
    (λ (x : model.EventPlace). AreWithin 96 x.carried)
amended_room None p h = h
amended_room (Some n) None h = none_within 96
amended_room (Some n) (Some p) h = h

amended_place : (place : Option ℕ) (p : Option model.EventPlace) → is_some p ≡ true
    → is_some (or_kept_place place p) ≡ true
amended_place None p e = e
amended_place (Some n) None e = refl
amended_place (Some n) (Some p) e = refl

amended_date : (date old : Option Date) → is_some old ≡ true → is_some (or_kept_date date old) ≡ true
amended_date None old e = e
amended_date (Some d) old e = refl

amended_text : (value old : List ℕ) → IsText value → IsText old → IsText (or_kept_text value old)
amended_text [] old is was = was
amended_text (b ∷ bs) old is was = is

amended_dates : (date old : Option Date) → EachOf IsText (date_texts date) → EachOf IsText (date_texts old)
    → EachOf IsText (date_texts (or_kept_date date old))
amended_dates None old is was = was
amended_dates (Some d) old is was = is

amended_written : (value : List ℕ) (date : Option Date) (place : Option ℕ) (e : model.Event)
    → EachOf IsText (own_texts (kind.Event e)) → IsText value → EachOf IsText (date_texts date)
    → EachOf IsText (own_texts (kind.Event (with_fields value date place e)))
amended_written value date place e old is dated =
    let dates : List (List ℕ) = date_texts e.date in
    let roles : List (List ℕ) = map (λ (p : model.Participant). p.role) e.participants in (
      amended_text value e.value is old.0,
      each_both IsText (date_texts (or_kept_date date e.date)) roles
          (amended_dates date e.date dated (each_front IsText dates roles old.1)) (each_back IsText dates roles old.1),
    )

pub amend_event_fits : (c : Content) (n : ℕ) (e : model.Event) (value : List ℕ) (date : Option Date) (place : Option ℕ)
    → IsSound c → get c.records n ≡ Some (kind.Event e) → PlaceAt c place → IsText value
    → EachOf IsText (date_texts date) → IsFit c n (kind.Event (with_fields value date place e))
amend_event_fits c n e value date place sound at said is dated =
    let P : Link → Type 0 = Stands c.records in
    let old : EachOf P (links (kind.Event e)) = sound.named n (kind.Event e) at in
    let after : model.Event = with_fields value date place e in
    let rest : List Link = flat_map participant_links e.participants ++ carried_links e.carried in
    let front : EachOf P (place_line_links after.place) = amended_links c place e.place said
    (each_front P (place_line_links e.place) rest old.1) in
    let back : EachOf P rest = each_back P (place_line_links e.place) rest old.1 in
    let carry : carried (kind.Event after) ≡ carried (kind.Event e) =
    ap (λ l. l ++ (flat_map (λ (x : model.Participant). x.carried) e.participants ++ e.carried))
    (amended_carried place e.place) in
    let room : HasRoom None (kind.Event e) = sound.rules.levels n (kind.Event e) at in
    event_over c n e after sound at refl refl
    (old.0, each_both P (place_line_links after.place) rest front back)
    (subst (λ l. EachOf IsOfRecords (flat_map tags l)) (sym carry) (sound.rules.tags n (kind.Event e) at).1)
    (still_written c n (kind.Event e) (kind.Event after) sound at carry
    (amended_written value date place e (own_written c n (kind.Event e) sound at) is dated))
    (amended_said c place e.place said (sound.rules.places n (kind.Event e) at))
    refl (amended_date date e.date) (amended_place place e.place)
    (sound.rules.untaken n (kind.Event e) at).0
    (amended_room place e.place room.0) room.1
