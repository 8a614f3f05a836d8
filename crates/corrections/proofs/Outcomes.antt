-- What each correction makes of each kind of record, one case after the other: whether the record has the field, what
-- stays of its fields, and what of its carried lines.
use Rattle.std.specs.Prelude.{
  ◌≡◌,
  ◌↔◌,
  ℕ,
  ◌&&◌,
  ◌==◌,
  not,
  nat_le,
  Bool,
  true,
  false,
  List,
  ◌++◌,
  length,
  drop,
  Option,
  Some,
  None,
  Result,
  Ok,
  Err,
  IfErr,
  IfOk,
  refl,
  if◌then◌else◌,
}
use Rattle.std.proofs.Common.{ap, sym, ◌∙◌}
use Rattle.record_text.specs.declared.refusal.RefusalKind.{RefusalKind}
use Rattle.record_text.specs.declared.refusal.RefusalKind.TheVariants.{NoSuchField, BadText, NotOfKind}
use Rattle.record_fields.specs.Words.{role_of}
use Rattle.record_fields.specs.declared.entry_words.Role.{Role}
use Rattle.record_kinds.specs.Model as model
use Rattle.record_kinds.specs.declared.record.Record.{Record}
use Rattle.record_kinds.specs.declared.record.Record.TheVariants as kind
use Rattle.record_shapes.specs.Forms.{is_empty}
use Rattle.record_shapes.specs.Roles.{is_role_of}
use Rattle.corrections.specs.Corrections.{
  called,
  corrected,
  first_is_called,
  has_mention,
  held_at,
  is_place_name,
  made,
  mention_as,
  mention_named,
  mentions_with,
  names_with,
  or_none,
  place_with,
  role_for,
}
use Rattle.corrections.specs.Fields.{field_of, has_field}
use Rattle.corrections.specs.Laws.{
  GivesBack,
  LaterCounts,
  LeavesCarriedLines,
  LeavesOtherFields,
  RefusesItself,
  RefusesOtherFields,
  apart,
  carried_of,
  is_own,
  takes_away,
}
use Rattle.corrections.specs.Lists.{changed_at}
use Rattle.corrections.proofs.Same.{of_date, of_item, of_place, of_quality, of_repository, of_sex, of_tag, of_text}
use Rattle.corrections.specs.declared.correction.Correction.{Correction}
use Rattle.corrections.specs.declared.correction.Correction.TheVariants as value
use Rattle.corrections.specs.declared.field.TextField.TheVariants as text_field
use Rattle.corrections.specs.declared.position.Position.{Position}
use Rattle.corrections.proofs.Repeated.{
  another_place,
  another_repo,
  call_later,
  first_later,
  mention_later,
  name_later,
  names_carried,
  place_later,
  role_later,
  same_carried,
}

-- ---- outcomes that a test decides
made_if : {A : Type 0} (f : A → Record) (x : A) (e : RefusalKind) (P : Result Record RefusalKind → Type 0)
    (b : Bool) → (b ≡ true → P (Ok (f x))) → (b ≡ false → P (Err e)) → P (made f (if b then Ok x else Err e))
made_if f x e P true h k = h refl
made_if f x e P false h k = k refl

made_unless : {A : Type 0} (f : A → Record) (x : A) (e : RefusalKind) (P : Result Record RefusalKind → Type 0)
    (b : Bool) → P (Ok (f x)) → P (Err e) → P (made f (if b then Err e else Ok x))
made_unless f x e P true h k = k
made_unless f x e P false h k = h

-- ---- what is shown of each outcome
-- what is corrected and the record give the same by another correction
abbrev Same : Record → Record → Correction → Type 0
Same r s d = corrected d s ≡ corrected d r

-- what a refusal of a record itself says of its having the field
abbrev own_says : RefusalKind → Option Bool
own_says NoSuchField = Some false
own_says BadText = Some true
own_says NotOfKind = Some true
own_says _ = None

the_lack : (e : RefusalKind) → own_says e ≡ Some false → e ≡ NoSuchField
the_lack NoSuchField h = refl
the_lack _ h = absurd cc

own_is : (e : RefusalKind) (has : Bool) → own_says e ≡ Some has → is_own e ≡ true
own_is NoSuchField has h = refl
own_is BadText has h = refl
own_is NotOfKind has h = refl
own_is _ has h = absurd cc

abbrev pub Good : Record → Correction → Result Record RefusalKind → Type 0
Good r c (Ok s) =
    (has_field r (field_of c) ≡ true) × (apart s (field_of c) ≡ apart r (field_of c))
    × (takes_away r c ≡ false → carried_of s ≡ carried_of r)
    × (takes_away r c ≡ false → (d : Correction) → field_of d ≡ field_of c → corrected d s ≡ corrected d r)
Good r c (Err e) = own_says e ≡ Some (has_field r (field_of c))

-- a role by the word and the kind
as_role : (e : model.Entry) (k : Position) (t : List ℕ) (o : Option Role) → has_mention k.number e ≡ true
    → Good (kind.Entry e) (value.Text (text_field.RoleAt k) t)
    (made (λ x. kind.Entry x) (made (λ r. mentions_with k.number (mention_as r) e) (role_for e.kind o)))
as_role e k t None has = ap Some (sym has)
as_role e k t (Some r) has = fits (is_role_of e.kind r)
  where
    fits : (b : Bool) → Good (kind.Entry e) (value.Text (text_field.RoleAt k) t)
        (made (λ x. kind.Entry x) (made (λ r. mentions_with k.number (mention_as r) e)
        (if b then Ok r else Err NotOfKind)))
    fits true = (
      has,
      refl,
      λ _. refl,
      λ _. of_text (text_field.RoleAt k)
          (Same (kind.Entry e) (kind.Entry (mentions_with k.number (mention_as r) e)))
          (λ u. ap (λ o. made (λ x. kind.Entry x) o) (role_later e k r u)),
    )
    fits false = ap Some (sym has)

another_role : (e : model.Entry) (k : Position) (t : List ℕ)
    → Good (kind.Entry e) (value.Text (text_field.RoleAt k) t) (corrected (value.Text (text_field.RoleAt k) t)
    (kind.Entry e))
another_role e k t = by_place (has_mention k.number e) refl
  where
    by_place : (b : Bool) → has_mention k.number e ≡ b → Good (kind.Entry e) (value.Text (text_field.RoleAt k) t)
        (made (λ x. kind.Entry x) (if b then made (λ r. mentions_with k.number (mention_as r) e) (role_for e.kind
        (role_of t))
        else Err NoSuchField))
    by_place true has = as_role e k t (role_of t) has
    by_place false lacks = ap Some (sym lacks)

-- ---- every kind, and every correction
pub good : (r : Record) (c : Correction) → Good r c (corrected c r)
good (kind.Person p) (value.Sex a) =
    (refl, refl, λ _. refl, λ _. of_sex (Same (kind.Person p) (kind.Person (record p { sex = a }))) (λ _. refl))
good (kind.Person p) (value.Tag a) = refl
good (kind.Person p) (value.Date a) = refl
good (kind.Person p) (value.Place a) = refl
good (kind.Person p) (value.Repository a) = refl
good (kind.Person p) (value.Quality a) = refl
good (kind.Person p) (value.Item a) = refl
good (kind.Person p) (value.Text text_field.Value t) = refl
good (kind.Person p) (value.Text text_field.Name t) = refl
good (kind.Person p) (value.Text text_field.Title t) = refl
good (kind.Person p) (value.Text text_field.Author t) = refl
good (kind.Person p) (value.Text text_field.Publisher t) = refl
good (kind.Person p) (value.Text text_field.CallNumber t) = refl
good (kind.Person p) (value.Text text_field.Page t) = refl
good (kind.Person p) (value.Text text_field.Text t) = refl
good (kind.Person p) (value.Text (text_field.NameAt k) t) =
    made_if (λ x. kind.Person x) (record p { names = names_with k.number t p.names }) NoSuchField
    (Good (kind.Person p) (value.Text (text_field.NameAt k) t)) (nat_le k.number (length p.names))
    (λ has. (
      has,
      refl,
      λ stays. ap (λ l. l ++ p.carried) (names_carried k.number t p.names stays),
      λ stays. of_text (text_field.NameAt k)
          (Same (kind.Person p) (kind.Person (record p { names = names_with k.number t p.names })))
          (λ u. ap (λ o. made (λ x. kind.Person x) o) (name_later p k t u stays)),
    )) (λ lacks. ap Some (sym lacks))
good (kind.Person p) (value.Text (text_field.RoleAt k) t) = refl
good (kind.Event e) (value.Sex a) = refl
good (kind.Event e) (value.Tag a) =
    (refl, refl, λ _. refl, λ _. of_tag (Same (kind.Event e) (kind.Event (record e { tag = a }))) (λ _. refl))
good (kind.Event e) (value.Date a) =
    (refl, refl, λ _. refl, λ _. of_date (Same (kind.Event e) (kind.Event (record e { date = a }))) (λ _. refl))
good (kind.Event e) (value.Place None) = (refl, refl, λ stays. absurd cc, λ stays. absurd cc)
good (kind.Event e) (value.Place (Some n)) = (
  refl,
  refl,
  λ _. ap (λ l. l ++ e.carried) (another_place n e.place),
  λ _. of_place (Same (kind.Event e) (kind.Event (record e { place = place_with (Some n) e.place })))
      (λ m. ap (λ o. Ok (kind.Event (record e { place = o }))) (place_later n m e.place)),
)
good (kind.Event e) (value.Repository a) = refl
good (kind.Event e) (value.Quality a) = refl
good (kind.Event e) (value.Item a) = refl
good (kind.Event e) (value.Text text_field.Value t) = (
  refl,
  refl,
  λ _. refl,
  λ _. of_text text_field.Value (Same (kind.Event e) (kind.Event
      (record e { value = t }))) (λ _. refl),
)
good (kind.Event e) (value.Text text_field.Name t) = refl
good (kind.Event e) (value.Text text_field.Title t) = refl
good (kind.Event e) (value.Text text_field.Author t) = refl
good (kind.Event e) (value.Text text_field.Publisher t) = refl
good (kind.Event e) (value.Text text_field.CallNumber t) = refl
good (kind.Event e) (value.Text text_field.Page t) = refl
good (kind.Event e) (value.Text text_field.Text t) = refl
good (kind.Event e) (value.Text (text_field.NameAt k) t) = refl
good (kind.Event e) (value.Text (text_field.RoleAt k) t) = refl
good (kind.Place p) (value.Sex a) = refl
good (kind.Place p) (value.Tag a) = refl
good (kind.Place p) (value.Date a) = refl
good (kind.Place p) (value.Place a) = refl
good (kind.Place p) (value.Repository a) = refl
good (kind.Place p) (value.Quality a) = refl
good (kind.Place p) (value.Item a) = refl
good (kind.Place p) (value.Text text_field.Value t) = refl
good (kind.Place p) (value.Text text_field.Name t) = made_if (λ x. kind.Place x) (record p { name = t }) BadText
    (Good (kind.Place p) (value.Text text_field.Name t)) (is_place_name t)
    (λ _. (
      refl,
      refl,
      λ _. refl,
      λ _. of_text text_field.Name (Same (kind.Place p) (kind.Place (record p { name = t })))
          (λ _. refl),
    )) (λ _. refl)
good (kind.Place p) (value.Text text_field.Title t) = refl
good (kind.Place p) (value.Text text_field.Author t) = refl
good (kind.Place p) (value.Text text_field.Publisher t) = refl
good (kind.Place p) (value.Text text_field.CallNumber t) = refl
good (kind.Place p) (value.Text text_field.Page t) = refl
good (kind.Place p) (value.Text text_field.Text t) = refl
good (kind.Place p) (value.Text (text_field.NameAt k) t) = refl
good (kind.Place p) (value.Text (text_field.RoleAt k) t) = refl
good (kind.Repo r) (value.Sex a) = refl
good (kind.Repo r) (value.Tag a) = refl
good (kind.Repo r) (value.Date a) = refl
good (kind.Repo r) (value.Place a) = refl
good (kind.Repo r) (value.Repository a) = refl
good (kind.Repo r) (value.Quality a) = refl
good (kind.Repo r) (value.Item a) = refl
good (kind.Repo r) (value.Text text_field.Value t) = refl
good (kind.Repo r) (value.Text text_field.Name t) = (
  refl,
  refl,
  λ _. refl,
  λ _. of_text text_field.Name (Same (kind.Repo r) (kind.Repo
      (record r { name = Some t }))) (λ _. refl),
)
good (kind.Repo r) (value.Text text_field.Title t) = refl
good (kind.Repo r) (value.Text text_field.Author t) = refl
good (kind.Repo r) (value.Text text_field.Publisher t) = refl
good (kind.Repo r) (value.Text text_field.CallNumber t) = refl
good (kind.Repo r) (value.Text text_field.Page t) = refl
good (kind.Repo r) (value.Text text_field.Text t) = refl
good (kind.Repo r) (value.Text (text_field.NameAt k) t) = refl
good (kind.Repo r) (value.Text (text_field.RoleAt k) t) = refl
good (kind.Source s) (value.Sex a) = refl
good (kind.Source s) (value.Tag a) = refl
good (kind.Source s) (value.Date a) = refl
good (kind.Source s) (value.Place a) = refl
good (kind.Source s) (value.Repository None) =
    made_unless (λ x. kind.Source x) (record s { holdings = drop 1 s.holdings }) BadText
    (Good (kind.Source s) (value.Repository None)) (first_is_called s.holdings)
    (refl, refl, λ stays. absurd cc, λ stays. absurd cc) refl
good (kind.Source s) (value.Repository (Some n)) = (
  refl,
  refl,
  λ _. ap (λ l. l ++ s.carried) (another_repo n s.holdings),
  λ _. of_repository (Same (kind.Source s) (kind.Source (record s { holdings = held_at n s.holdings })))
      (λ m. first_later s n m s.holdings),
)
good (kind.Source s) (value.Quality a) = refl
good (kind.Source s) (value.Item a) = refl
good (kind.Source s) (value.Text text_field.Value t) = refl
good (kind.Source s) (value.Text text_field.Name t) = refl
good (kind.Source s) (value.Text text_field.Title t) = (
  refl,
  refl,
  λ _. refl,
  λ _. of_text text_field.Title (Same (kind.Source s) (kind.Source
      (record s { title = Some t }))) (λ _. refl),
)
good (kind.Source s) (value.Text text_field.Author t) = (
  refl,
  refl,
  λ _. refl,
  λ _. of_text text_field.Author (Same (kind.Source s) (kind.Source
      (record s { author = or_none t }))) (λ _. refl),
)
good (kind.Source s) (value.Text text_field.Publisher t) = (
  refl,
  refl,
  λ _. refl,
  λ _. of_text text_field.Publisher (Same (kind.Source s) (kind.Source
      (record s { publisher = or_none t }))) (λ _. refl),
)
good (kind.Source s) (value.Text text_field.CallNumber t) = made_unless (λ x. kind.Source x)
    (record s { holdings = changed_at 0 (called (or_none t)) s.holdings }) BadText
    (Good (kind.Source s) (value.Text text_field.CallNumber t)) (not (is_empty t) && length s.holdings == 0) (
      refl,
      refl,
      λ _. ap (λ l. l ++ s.carried)
          (same_carried (λ (h : model.Holding). h.carried) (called (or_none t)) (λ _. refl) 0 s.holdings),
      λ _. of_text text_field.CallNumber
          (Same (kind.Source s) (kind.Source (record s { holdings = changed_at 0 (called (or_none t)) s.holdings })))
          (λ u. call_later s t u),
    ) refl
good (kind.Source s) (value.Text text_field.Page t) = refl
good (kind.Source s) (value.Text text_field.Text t) = refl
good (kind.Source s) (value.Text (text_field.NameAt k) t) = refl
good (kind.Source s) (value.Text (text_field.RoleAt k) t) = refl
good (kind.Citation x) (value.Sex a) = refl
good (kind.Citation x) (value.Tag a) = refl
good (kind.Citation x) (value.Date a) = refl
good (kind.Citation x) (value.Place a) = refl
good (kind.Citation x) (value.Repository a) = refl
good (kind.Citation x) (value.Quality a) = (
  refl,
  refl,
  λ _. refl,
  λ _. of_quality (Same (kind.Citation x) (kind.Citation (record x { quality = a })))
      (λ _. refl),
)
good (kind.Citation x) (value.Item a) = refl
good (kind.Citation x) (value.Text text_field.Value t) = refl
good (kind.Citation x) (value.Text text_field.Name t) = refl
good (kind.Citation x) (value.Text text_field.Title t) = refl
good (kind.Citation x) (value.Text text_field.Author t) = refl
good (kind.Citation x) (value.Text text_field.Publisher t) = refl
good (kind.Citation x) (value.Text text_field.CallNumber t) = refl
good (kind.Citation x) (value.Text text_field.Page t) = (
  refl,
  refl,
  λ _. refl,
  λ _. of_text text_field.Page (Same (kind.Citation x) (kind.Citation
      (record x { page = or_none t }))) (λ _. refl),
)
good (kind.Citation x) (value.Text text_field.Text t) = refl
good (kind.Citation x) (value.Text (text_field.NameAt k) t) = refl
good (kind.Citation x) (value.Text (text_field.RoleAt k) t) = refl
good (kind.Entry e) (value.Sex a) = refl
good (kind.Entry e) (value.Tag a) = refl
good (kind.Entry e) (value.Date a) =
    (refl, refl, λ _. refl, λ _. of_date (Same (kind.Entry e) (kind.Entry (record e { date = a }))) (λ _. refl))
good (kind.Entry e) (value.Place a) =
    (refl, refl, λ _. refl, λ _. of_place (Same (kind.Entry e) (kind.Entry (record e { place = a }))) (λ _. refl))
good (kind.Entry e) (value.Repository a) = refl
good (kind.Entry e) (value.Quality a) = refl
good (kind.Entry e) (value.Item a) =
    (refl, refl, λ _. refl, λ _. of_item (Same (kind.Entry e) (kind.Entry (record e { item = a }))) (λ _. refl))
good (kind.Entry e) (value.Text text_field.Value t) = refl
good (kind.Entry e) (value.Text text_field.Name t) = refl
good (kind.Entry e) (value.Text text_field.Title t) = refl
good (kind.Entry e) (value.Text text_field.Author t) = refl
good (kind.Entry e) (value.Text text_field.Publisher t) = refl
good (kind.Entry e) (value.Text text_field.CallNumber t) = refl
good (kind.Entry e) (value.Text text_field.Page t) = (
  refl,
  refl,
  λ _. refl,
  λ _. of_text text_field.Page (Same (kind.Entry e) (kind.Entry (record e { page = t })))
      (λ _. refl),
)
good (kind.Entry e) (value.Text text_field.Text t) = (
  refl,
  refl,
  λ _. refl,
  λ _. of_text text_field.Text (Same (kind.Entry e) (kind.Entry (record e { text = t })))
      (λ _. refl),
)
good (kind.Entry e) (value.Text (text_field.NameAt k) t) =
    made_if (λ x. kind.Entry x) (mentions_with k.number (mention_named t) e) NoSuchField
    (Good (kind.Entry e) (value.Text (text_field.NameAt k) t)) (has_mention k.number e)
    (λ has. (
      has,
      refl,
      λ _. refl,
      λ _. of_text (text_field.NameAt k)
          (Same (kind.Entry e) (kind.Entry (mentions_with k.number (mention_named t) e)))
          (λ u. ap (λ o. made (λ x. kind.Entry x) o) (mention_later e k t u)),
    )) (λ lacks. ap Some (sym lacks))
good (kind.Entry e) (value.Text (text_field.RoleAt k) t) = another_role e k t
good (kind.Family f) c = refl
good (kind.Other o) c = refl

-- ---- the laws
other_fields : (r : Record) (c : Correction) (o : Result Record RefusalKind) → Good r c o
    → (o ≡ Err NoSuchField) ↔ (has_field r (field_of c) ≡ false)
other_fields r c (Ok s) h = (λ e. absurd cc, λ e. absurd cc)
other_fields r c (Err e) h = (
  λ same.
      let it : e ≡ NoSuchField = cc in
      let says : Some false ≡ Some (has_field r (field_of c)) = ap own_says (sym it) ∙ h in
      cc,
  λ lacks. ap Err (the_lack e (h ∙ ap Some lacks)),
)

pub refuses_other_fields : RefusesOtherFields
refuses_other_fields r c = other_fields r c (corrected c r) (good r c)

own_refusal : (r : Record) (c : Correction) (o : Result Record RefusalKind) → Good r c o
    → IfErr o (λ e. is_own e ≡ true)
own_refusal r c (Ok s) h = tt
own_refusal r c (Err e) h = own_is e (has_field r (field_of c)) h

pub refuses_itself : RefusesItself
refuses_itself r c = own_refusal r c (corrected c r) (good r c)

fields_stay : (r : Record) (c : Correction) (o : Result Record RefusalKind) → Good r c o
    → IfOk o (λ s. apart s (field_of c) ≡ apart r (field_of c))
fields_stay r c (Ok s) h = h.1
fields_stay r c (Err e) h = tt

pub leaves_other_fields : LeavesOtherFields
leaves_other_fields r c = fields_stay r c (corrected c r) (good r c)

lines_stay : (r : Record) (c : Correction) (o : Result Record RefusalKind) → Good r c o → takes_away r c ≡ false
    → IfOk o (λ s. carried_of s ≡ carried_of r)
lines_stay r c (Ok s) h stays = h.2 stays
lines_stay r c (Err e) h stays = tt

pub leaves_carried_lines : LeavesCarriedLines
leaves_carried_lines r c stays = lines_stay r c (corrected c r) (good r c) stays

later_counts_in : (r : Record) (c : Correction) (o : Result Record RefusalKind) → Good r c o → takes_away r c ≡ false
    → (d : Correction) → field_of d ≡ field_of c → IfOk o (λ s. corrected d s ≡ corrected d r)
later_counts_in r c (Ok s) h stays d same = h.3 stays d same
later_counts_in r c (Err e) h stays d same = tt

pub later_counts : LaterCounts
later_counts r c stays d same = later_counts_in r c (corrected c r) (good r c) stays d same

given_back : (r : Record) (c : Correction) (o : Result Record RefusalKind) → Good r c o → takes_away r c ≡ false
    → (d : Correction) → field_of d ≡ field_of c → corrected d r ≡ Ok r → IfOk o (λ s. corrected d s ≡ Ok r)
given_back r c (Ok s) h stays d same e = h.3 stays d same ∙ e
given_back r c (Err x) h stays d same e = tt

pub gives_back : GivesBack
gives_back r c stays d same e = given_back r c (corrected c r) (good r c) stays d same e
