-- A correction that is accepted keeps an archive sound.
use Rattle.std.proofs.Common.{
  ◌≡◌,
  ℕ,
  ◌-◌,
  List,
  [],
  ◌++◌,
  Bool,
  true,
  false,
  ◌==◌,
  ◌&&◌,
  not,
  drop,
  length,
  refl,
  sym,
  ap,
  ◌∙◌,
  subst,
}
use Rattle.std.specs.Prelude.{Option, Some, None, Result, Ok, Err, IfOk, if◌then◌else◌, nat_le}
use Rattle.std.specs.FinMap.{get}
use Rattle.record_text.specs.Text.{IsText}
use Rattle.record_text.specs.declared.refusal.RefusalKind.{RefusalKind}
use Rattle.record_text.specs.declared.refusal.RefusalKind.TheVariants.{BadText, NoSuchField, NotOfKind, StillCarried}
use Rattle.record_fields.specs.Words.{role_of}
use Rattle.record_fields.specs.declared.date.Date.{Date}
use Rattle.record_fields.specs.declared.entry_words.EntryKind.{EntryKind}
use Rattle.record_fields.specs.declared.entry_words.Role.{Role}
use Rattle.record_fields.specs.declared.item.Item.{Item}
use Rattle.record_fields.specs.declared.words.Quality.{Quality}
use Rattle.record_fields.specs.declared.words.Sex.{Sex}
use Rattle.record_kinds.specs.Model as model
use Rattle.record_kinds.specs.declared.record.Record.{Record}
use Rattle.record_kinds.specs.declared.record.Record.TheVariants as kind
use Rattle.record_shapes.specs.Lists.{EachOf}
use Rattle.record_shapes.specs.Roles.{is_role_of}
use Rattle.record_shapes.specs.Forms.{is_empty}
use Rattle.archive_state.specs.Content.{Content}
use Rattle.archive_state.specs.Links.{a_repo}
use Rattle.archive_state.specs.Sound.{IsSound, Stands}
use Rattle.archive_state.specs.Texts.{date_texts}
use Rattle.commands.specs.Rows.{and_then}
use Rattle.command_checks.specs.Checks.{date_in, demanded_at, each, passed, said_place_at, text_in}
use Rattle.command_checks.specs.declared.kinds.Demand.TheVariants as demand
use Rattle.command_checks.proofs.Found.{demanded_stands, passes}
use Rattle.command_checks.proofs.SaidPaths.{said_has_part}
use Rattle.corrections.specs.Corrections.{
  called,
  citation_with,
  corrected,
  entry_with,
  event_with,
  first_is_called,
  has_mention,
  held_at,
  made,
  mention_as,
  mention_named,
  mentions_with,
  names_with,
  or_none,
  person_with,
  place_named,
  place_with,
  repo_named,
  role_for,
  source_with,
}
use Rattle.corrections.specs.Lists.{changed_at}
use Rattle.corrections.specs.declared.correction.Correction.{Correction}
use Rattle.corrections.specs.declared.correction.Correction.TheVariants as correction
use Rattle.corrections.specs.declared.field.TextField.{TextField}
use Rattle.corrections.specs.declared.field.TextField.TheVariants as text_field
use Rattle.record_changes.specs.Laws.{ChangesOnly}
use Rattle.record_changes.specs.Steps.{replaced}
use Rattle.record_changes.proofs.Following.{leaves_all_else as else_left, replaced_sound}
use Rattle.record_changes.proofs.Keeping.{IsFit}
use Rattle.field_changes.specs.Carrying.{still_carried}
use Rattle.field_changes.specs.Laws.{IsNoPlace, IsUtf8Value, KeepsSound, LeavesAllElse}
use Rattle.field_changes.specs.Steps.{
  changed,
  checked_after,
  correction_in,
  keyed,
  named,
  named_record,
  record_there,
  said,
}
use Rattle.commands.specs.declared.correction.GivenValue.{GivenValue}
use Rattle.commands.specs.declared.correction.GivenValue.TheVariants as given
use Rattle.field_changes.proofs.Entries.{
  entry_date_fits,
  entry_page_fits,
  entry_place_fits,
  item_fits,
  mention_name_fits,
  mention_role_fits,
  text_fits,
}
use Rattle.field_changes.proofs.Events.{PlaceAt, date_fits, place_fits, value_fits}
use Rattle.field_changes.proofs.Persons.{name_fits, sex_fits}
use Rattle.field_changes.proofs.Sources.{
  author_fits,
  called_fits,
  kept_fits,
  page_fits,
  publisher_fits,
  quality_fits,
  repo_fits,
  title_fits,
  unkept_fits,
}
use Rattle.field_changes.proofs.Wording.{maybe_date, text_found}

-- ---- what an accepted step has found
pub then_ok : {A B : Type 0} (r : Result A RefusalKind) (f : A → Result B RefusalKind) (b : B) → and_then r f ≡ Ok b
    → (a : A) × (r ≡ Ok a) × (f a ≡ Ok b)
then_ok (Ok a) f b e = (a, refl, e)
then_ok (Err k) f b e = absurd cc

unless_ok : {B : Type 0} (b : Bool) (r : Result B RefusalKind) (x : B) → (if b then Err StillCarried else r) ≡ Ok x
    → (b ≡ false) × (r ≡ Ok x)
unless_ok true r x e = absurd cc
unless_ok false r x e = (refl, e)

made_ok : {A B : Type 0} (f : A → B) (r : Result A RefusalKind) (b : B) → made f r ≡ Ok b
    → (a : A) × (r ≡ Ok a) × (f a ≡ b)
made_ok f (Ok a) b e = let same : f a ≡ b = cc in (a, refl, same)
made_ok f (Err k) b e = absurd cc

if_ok : {A : Type 0} (b : Bool) (x : A) (k : RefusalKind) (a : A) → (if b then Ok x else Err k) ≡ Ok a → x ≡ a
if_ok true x k a e = cc
if_ok false x k a e = absurd cc

else_ok : {A : Type 0} (b : Bool) (x : A) (k : RefusalKind) (a : A) → (if b then Err k else Ok x) ≡ Ok a → x ≡ a
else_ok true x k a e = absurd cc
else_ok false x k a e = cc

if_then : {A : Type 0} (b : Bool) (r : Result A RefusalKind) (k : RefusalKind) (a : A)
    → (if b then r else Err k) ≡ Ok a → r ≡ Ok a
if_then true r k a e = e
if_then false r k a e = absurd cc

pub there_ok : (o : Option Record) (r : Record) → record_there o ≡ Ok r → o ≡ Some r
there_ok (Some x) r e = let same : x ≡ r = cc in ap Some same
there_ok None r e = absurd cc

role_ok : (k : EntryKind) (o : Option Role) (r : Role) → role_for k o ≡ Ok r → is_role_of k r ≡ true
role_ok k None r e = absurd cc
role_ok k (Some x) r e = by (is_role_of k x) refl e
  where
    by : (b : Bool) → is_role_of k x ≡ b → (if b then Ok x else Err NotOfKind) ≡ Ok r → is_role_of k r ≡ true
    by true is f = let same : x ≡ r = cc in ap (is_role_of k) (sym same) ∙ is
    by false is f = absurd cc

-- ---- each field
module _ (c : Content) (n : ℕ) (sound : IsSound c) where
  -- the record after, which nothing speaks against
  abbrev Passes : Record → Type 0
  Passes s = (still_carried s ≡ false) × (keyed c n s ≡ Ok tt)

  abbrev Goal : Correction → Record → Type 0
  Goal x r = (s : Record) → get c.records n ≡ Some r → corrected x r ≡ Ok s → Passes s → IsNoPlace s → IsFit c n s

  sex_case : (x : Option Sex) (r : Record) → Goal (correction.Sex x) r
  sex_case x (kind.Person p) s at e ok none =
      let same : kind.Person (record p { sex = x }) ≡ s = cc in
      subst (IsFit c n) same (sex_fits c n p x sound at (ap still_carried same ∙ ok.0))
  sex_case x (kind.Event y) s at e ok none = absurd cc
  sex_case x (kind.Place y) s at e ok none = absurd cc
  sex_case x (kind.Repo y) s at e ok none = absurd cc
  sex_case x (kind.Source y) s at e ok none = absurd cc
  sex_case x (kind.Citation y) s at e ok none = absurd cc
  sex_case x (kind.Entry y) s at e ok none = absurd cc
  sex_case x (kind.Family y) s at e ok none = absurd cc
  sex_case x (kind.Other y) s at e ok none = absurd cc

  date_case : (d : Option Date) → EachOf IsText (date_texts d) → (r : Record) → Goal (correction.Date d) r
  date_case d is (kind.Event y) s at e ok none =
      let same : kind.Event (record y { date = d }) ≡ s = cc in
      subst (IsFit c n) same (date_fits c n y d sound at is (ap still_carried same ∙ ok.0))
  date_case d is (kind.Entry y) s at e ok none =
      let same : kind.Entry (record y { date = d }) ≡ s = cc in
      subst (IsFit c n) same (entry_date_fits c n y d sound at is (ap (keyed c n) same ∙ ok.1))
  date_case d is (kind.Person y) s at e ok none = absurd cc
  date_case d is (kind.Place y) s at e ok none = absurd cc
  date_case d is (kind.Repo y) s at e ok none = absurd cc
  date_case d is (kind.Source y) s at e ok none = absurd cc
  date_case d is (kind.Citation y) s at e ok none = absurd cc
  date_case d is (kind.Family y) s at e ok none = absurd cc
  date_case d is (kind.Other y) s at e ok none = absurd cc

  place_case : (k : Option ℕ) → PlaceAt c k → (r : Record) → Goal (correction.Place k) r
  place_case k is (kind.Event y) s at e ok none =
      let same : kind.Event (record y { place = place_with k y.place }) ≡ s = cc in
      subst (IsFit c n) same (place_fits c n y k sound at is (ap still_carried same ∙ ok.0))
  place_case k is (kind.Entry y) s at e ok none =
      let same : kind.Entry (record y { place = k }) ≡ s = cc in
      subst (IsFit c n) same (entry_place_fits c n y k sound at is (ap (keyed c n) same ∙ ok.1))
  place_case k is (kind.Person y) s at e ok none = absurd cc
  place_case k is (kind.Place y) s at e ok none = absurd cc
  place_case k is (kind.Repo y) s at e ok none = absurd cc
  place_case k is (kind.Source y) s at e ok none = absurd cc
  place_case k is (kind.Citation y) s at e ok none = absurd cc
  place_case k is (kind.Family y) s at e ok none = absurd cc
  place_case k is (kind.Other y) s at e ok none = absurd cc

  -- a repository stands there, where a number is given
  abbrev RepoAt : Option ℕ → Type 0
  RepoAt None = Unit {0}
  RepoAt (Some k) = Stands c.records (k, a_repo)

  kept_case : (k : Option ℕ) → RepoAt k → (y : model.Source) → Goal (correction.Repository k) (kind.Source y)
  kept_case None is y s at e ok none =
      let found = made_ok (λ x. kind.Source x) (source_with (correction.Repository None) y) s e in
      let changed : record y { holdings = drop 1 y.holdings } ≡ found.0 = else_ok (first_is_called y.holdings)
      (record y { holdings = drop 1 y.holdings }) BadText found.0 found.1 in
      let same : kind.Source (record y { holdings = drop 1 y.holdings }) ≡ s = ap (λ x. kind.Source x) changed
      ∙ found.2 in
      subst (IsFit c n) same (unkept_fits c n y sound at (ap still_carried same ∙ ok.0))
  kept_case (Some k) is y s at e ok none =
      let same : kind.Source (record y { holdings = held_at k y.holdings }) ≡ s = cc in
      subst (IsFit c n) same (kept_fits c n y k sound at is (ap still_carried same ∙ ok.0))

  -- of a record of another kind
  repository_case : (k : Option ℕ) → RepoAt k → (r : Record) → Goal (correction.Repository k) r
  repository_case k is (kind.Source y) s at e ok none = kept_case k is y s at e ok none
  repository_case None is (kind.Person y) s at e ok none = absurd cc
  repository_case (Some k) is (kind.Person y) s at e ok none = absurd cc
  repository_case None is (kind.Event y) s at e ok none = absurd cc
  repository_case (Some k) is (kind.Event y) s at e ok none = absurd cc
  repository_case None is (kind.Place y) s at e ok none = absurd cc
  repository_case (Some k) is (kind.Place y) s at e ok none = absurd cc
  repository_case None is (kind.Repo y) s at e ok none = absurd cc
  repository_case (Some k) is (kind.Repo y) s at e ok none = absurd cc
  repository_case None is (kind.Citation y) s at e ok none = absurd cc
  repository_case (Some k) is (kind.Citation y) s at e ok none = absurd cc
  repository_case None is (kind.Entry y) s at e ok none = absurd cc
  repository_case (Some k) is (kind.Entry y) s at e ok none = absurd cc
  repository_case None is (kind.Family y) s at e ok none = absurd cc
  repository_case (Some k) is (kind.Family y) s at e ok none = absurd cc
  repository_case None is (kind.Other y) s at e ok none = absurd cc
  repository_case (Some k) is (kind.Other y) s at e ok none = absurd cc

  quality_case : (q : Option Quality) (r : Record) → Goal (correction.Quality q) r
  quality_case q (kind.Citation y) s at e ok none =
      let same : kind.Citation (record y { quality = q }) ≡ s = cc in
      subst (IsFit c n) same (quality_fits c n y q sound at (ap still_carried same ∙ ok.0))
  quality_case q (kind.Person y) s at e ok none = absurd cc
  quality_case q (kind.Event y) s at e ok none = absurd cc
  quality_case q (kind.Place y) s at e ok none = absurd cc
  quality_case q (kind.Repo y) s at e ok none = absurd cc
  quality_case q (kind.Source y) s at e ok none = absurd cc
  quality_case q (kind.Entry y) s at e ok none = absurd cc
  quality_case q (kind.Family y) s at e ok none = absurd cc
  quality_case q (kind.Other y) s at e ok none = absurd cc

  item_case : (i : Item) (r : Record) → Goal (correction.Item i) r
  item_case i (kind.Entry y) s at e ok none =
      let same : kind.Entry (record y { item = i }) ≡ s = cc in
      subst (IsFit c n) same (item_fits c n y i sound at (ap (keyed c n) same ∙ ok.1))
  item_case i (kind.Person y) s at e ok none = absurd cc
  item_case i (kind.Event y) s at e ok none = absurd cc
  item_case i (kind.Place y) s at e ok none = absurd cc
  item_case i (kind.Repo y) s at e ok none = absurd cc
  item_case i (kind.Source y) s at e ok none = absurd cc
  item_case i (kind.Citation y) s at e ok none = absurd cc
  item_case i (kind.Family y) s at e ok none = absurd cc
  item_case i (kind.Other y) s at e ok none = absurd cc

  -- ---- texts, by the kind of the record
  person_case : (f : TextField) (t : List ℕ) → IsText t → (y : model.Person)
      → Goal (correction.Text f t) (kind.Person y)
  person_case (text_field.NameAt k) t is y s at e ok none =
      let found = made_ok (λ x. kind.Person x) (person_with (correction.Text (text_field.NameAt k) t) y) s e in
      let changed : record y { names = names_with k.number t y.names } ≡ found.0 = if_ok
      (nat_le k.number (length y.names)) (record y { names = names_with k.number t y.names }) NoSuchField
      found.0 found.1 in
      let same : kind.Person (record y { names = names_with k.number t y.names }) ≡ s = ap (λ x. kind.Person x) changed
      ∙ found.2 in
      subst (IsFit c n) same (name_fits c n y k.number t sound at is)
  person_case _ t is y s at e ok none = absurd cc

  event_case : (f : TextField) (t : List ℕ) → IsText t → (y : model.Event) → Goal (correction.Text f t) (kind.Event y)
  event_case text_field.Value t is y s at e ok none =
      let same : kind.Event (record y { value = t }) ≡ s = cc in
      subst (IsFit c n) same (value_fits c n y t sound at is)
  event_case _ t is y s at e ok none = absurd cc

  repo_case : (f : TextField) (t : List ℕ) → IsText t → (y : model.Repo) → Goal (correction.Text f t) (kind.Repo y)
  repo_case text_field.Name t is y s at e ok none =
      let same : kind.Repo (record y { name = Some t }) ≡ s = cc in
      subst (IsFit c n) same (repo_fits c n y t sound at is)
  repo_case _ t is y s at e ok none = absurd cc

  source_case : (f : TextField) (t : List ℕ) → IsText t → (y : model.Source)
      → Goal (correction.Text f t) (kind.Source y)
  source_case text_field.Title t is y s at e ok none =
      let same : kind.Source (record y { title = Some t }) ≡ s = cc in
      subst (IsFit c n) same (title_fits c n y t sound at is (ap still_carried same ∙ ok.0))
  source_case text_field.Author t is y s at e ok none =
      let same : kind.Source (record y { author = or_none t }) ≡ s = cc in
      subst (IsFit c n) same (author_fits c n y t sound at is (ap still_carried same ∙ ok.0))
  source_case text_field.Publisher t is y s at e ok none =
      let same : kind.Source (record y { publisher = or_none t }) ≡ s = cc in
      subst (IsFit c n) same (publisher_fits c n y t sound at is (ap still_carried same ∙ ok.0))
  source_case text_field.CallNumber t is y s at e ok none =
      let found = made_ok (λ x. kind.Source x) (source_with (correction.Text text_field.CallNumber t) y) s e in
      let changed : record y { holdings = changed_at 0 (called (or_none t)) y.holdings } ≡ found.0 = else_ok
      (not (is_empty t) && length y.holdings == 0)
      (record y { holdings = changed_at 0 (called (or_none t)) y.holdings }) BadText found.0 found.1 in
      let same : kind.Source (record y { holdings = changed_at 0 (called (or_none t)) y.holdings }) ≡ s =
      ap (λ x. kind.Source x) changed ∙ found.2 in
      subst (IsFit c n) same (called_fits c n y t sound at is (ap still_carried same ∙ ok.0))
  source_case _ t is y s at e ok none = absurd cc

  citation_case : (f : TextField) (t : List ℕ) → IsText t → (y : model.Citation)
      → Goal (correction.Text f t) (kind.Citation y)
  citation_case text_field.Page t is y s at e ok none =
      let same : kind.Citation (record y { page = or_none t }) ≡ s = cc in
      subst (IsFit c n) same (page_fits c n y t sound at is (ap still_carried same ∙ ok.0))
  citation_case _ t is y s at e ok none = absurd cc

  entry_case : (f : TextField) (t : List ℕ) → IsText t → (y : model.Entry) → Goal (correction.Text f t) (kind.Entry y)
  entry_case text_field.Page t is y s at e ok none =
      let same : kind.Entry (record y { page = t }) ≡ s = cc in
      subst (IsFit c n) same (entry_page_fits c n y t sound at is (ap (keyed c n) same ∙ ok.1))
  entry_case text_field.Text t is y s at e ok none =
      let same : kind.Entry (record y { text = t }) ≡ s = cc in
      subst (IsFit c n) same (text_fits c n y t sound at is (ap (keyed c n) same ∙ ok.1))
  entry_case (text_field.NameAt k) t is y s at e ok none =
      let found = made_ok (λ x. kind.Entry x) (entry_with (correction.Text (text_field.NameAt k) t) y) s e in
      let changed : mentions_with k.number (mention_named t) y ≡ found.0 = if_ok (has_mention k.number y)
      (mentions_with k.number (mention_named t) y) NoSuchField found.0 found.1 in
      let same : kind.Entry (mentions_with k.number (mention_named t) y) ≡ s = ap (λ x. kind.Entry x) changed
      ∙ found.2 in
      subst (IsFit c n) same (mention_name_fits c n y k.number t sound at is (ap (keyed c n) same ∙ ok.1))
  entry_case (text_field.RoleAt k) t is y s at e ok none =
      let found = made_ok (λ x. kind.Entry x) (entry_with (correction.Text (text_field.RoleAt k) t) y) s e in
      let inner = if_then (has_mention k.number y)
      (made (λ r. mentions_with k.number (mention_as r) y) (role_for y.kind (role_of t))) NoSuchField found.0 found.1 in
      let role = made_ok (λ r. mentions_with k.number (mention_as r) y) (role_for y.kind (role_of t)) found.0 inner in
      let same : kind.Entry (mentions_with k.number (mention_as role.0) y) ≡ s = ap (λ x. kind.Entry x) role.2
      ∙ found.2 in
      subst (IsFit c n) same (mention_role_fits c n y k.number role.0 sound at
      (role_ok y.kind (role_of t) role.0 role.1) (ap (keyed c n) same ∙ ok.1))
  entry_case _ t is y s at e ok none = absurd cc

  -- a place, whose name may change paths, is not among them
  not_place : (f : TextField) (t : List ℕ) (y : model.Place) → Goal (correction.Text f t) (kind.Place y)
  not_place f t y s at e ok none =
      let found = made_ok (λ x. kind.Place x) (place_named (correction.Text f t) y) s e in
      absurd (subst IsNoPlace (sym found.2) none)

  text_case : (f : TextField) (t : List ℕ) → IsText t → (r : Record) → Goal (correction.Text f t) r
  text_case f t is (kind.Person y) = person_case f t is y
  text_case f t is (kind.Event y) = event_case f t is y
  text_case f t is (kind.Place y) = not_place f t y
  text_case f t is (kind.Repo y) = repo_case f t is y
  text_case f t is (kind.Source y) = source_case f t is y
  text_case f t is (kind.Citation y) = citation_case f t is y
  text_case f t is (kind.Entry y) = entry_case f t is y
  text_case f t is (kind.Family y) = λ s at e ok none. absurd cc
  text_case f t is (kind.Other y) = λ s at e ok none. absurd cc

  -- ---- what is given
  repo_at : (k : Option ℕ) → named c (given.Repository k) ≡ Ok tt → RepoAt k
  repo_at None e = tt
  repo_at (Some k) e =
      let found = passes (each (demanded_at c demand.Repo) (Some k)) tt e in
      let one = then_ok (demanded_at c demand.Repo k) (λ b. Ok (Some b)) found.0 found.1 in
      demanded_stands demand.Repo (get c.records k) one.0 one.1

  place_at : (k : Option ℕ) → named c (given.Place k) ≡ Ok tt → said c (given.Place k) ≡ Ok tt → PlaceAt c k
  place_at None e f = tt
  place_at (Some k) e f =
      let found = passes (each (demanded_at c demand.Place) (Some k)) tt e in
      let one = then_ok (demanded_at c demand.Place k) (λ b. Ok (Some b)) found.0 found.1 in
      let part = passes (each (said_place_at c) (Some k)) tt f in
      let spoken = then_ok (said_place_at c k) (λ b. Ok (Some b)) part.0 part.1 in
      (demanded_stands demand.Place (get c.records k) one.0 one.1, said_has_part c k spoken.1)

  by_value : (v : GivenValue) → IsUtf8Value v → (x : Correction) → correction_in v ≡ Ok x → named c v ≡ Ok tt
      → said c v ≡ Ok tt → (r : Record) → Goal x r
  by_value (given.Sex y) is x e f g r =
      let same : correction.Sex y ≡ x = cc in subst (λ z. Goal z r) same (sex_case y r)
  by_value (given.Date d) is x e f g r =
      let found = then_ok (each date_in d) (λ z. Ok (correction.Date z)) x e in
      let same : correction.Date found.0 ≡ x = let h = found.2 in cc in
      subst (λ z. Goal z r) same (date_case found.0 (maybe_date d found.0 is found.1) r)
  by_value (given.Place k) is x e f g r =
      let same : correction.Place k ≡ x = cc in subst (λ z. Goal z r) same (place_case k (place_at k f g) r)
  by_value (given.Repository k) is x e f g r =
      let same : correction.Repository k ≡ x = cc in subst (λ z. Goal z r) same (repository_case k (repo_at k f) r)
  by_value (given.Quality q) is x e f g r =
      let same : correction.Quality q ≡ x = cc in subst (λ z. Goal z r) same (quality_case q r)
  by_value (given.Item i) is x e f g r =
      let same : correction.Item i ≡ x = cc in subst (λ z. Goal z r) same (item_case i r)
  by_value (given.Text t words) is x e f g r =
      let found = then_ok (text_in words) (λ z. Ok (correction.Text t z)) x e in
      let same : correction.Text t found.0 ≡ x = let h = found.2 in cc in
      subst (λ z. Goal z r) same (text_case t found.0 (text_found words found.0 is found.1) r)

-- ---- the whole
-- what an accepted correction has found
pub record Found (c : Content) (n : ℕ) (v : GivenValue) (s : Record) : Type 0 where
  pub old : Record
  pub at : get c.records n ≡ Some old
  pub value : Correction
  pub gives : correction_in v ≡ Ok value
  pub names_one : named c v ≡ Ok tt
  pub makes : corrected value old ≡ Ok s
  pub says : said c v ≡ Ok tt
  pub free : still_carried s ≡ false
  pub key : keyed c n s ≡ Ok tt

found_of : (c : Content) (n : ℕ) (v : GivenValue) (s : Record) → changed c n v ≡ Ok s → Found c n v s
found_of c n v s e =
    let x = then_ok (correction_in v) (λ x. and_then (named_record c n v) (λ r. and_then (corrected x r)
    (λ t. and_then (checked_after c n v t) (λ _. Ok t)))) s e in
    let r = then_ok (named_record c n v) (λ r. and_then (corrected x.0 r)
    (λ t. and_then (checked_after c n v t) (λ _. Ok t))) s x.2 in
    let t = then_ok (corrected x.0 r.0) (λ t. and_then (checked_after c n v t) (λ _. Ok t)) s r.2 in
    let u = then_ok (checked_after c n v t.0) (λ _. Ok t.0) s t.2 in
    let same : t.0 ≡ s = let h = u.2 in cc in
    let old = then_ok (record_there (get c.records n)) (λ r. and_then (named c v) (λ _. Ok r)) r.0 r.1 in
    let name = then_ok (named c v) (λ _. Ok old.0) r.0 old.2 in
    let was : old.0 ≡ r.0 = let h = name.2 in cc in
    let part = then_ok (said c v) (λ _. if still_carried t.0 then Err StillCarried else keyed c n t.0) u.0 u.1 in
    let left = unless_ok (still_carried t.0) (keyed c n t.0) u.0 part.2 in
    record {
      old = r.0;
      at = there_ok (get c.records n) old.0 old.1 ∙ ap Some was;
      value = x.0;
      gives = x.1;
      names_one = name.1;
      makes = t.1 ∙ ap Ok same;
      says = part.1;
      free = ap still_carried (sym same) ∙ left.0;
      key = ap (keyed c n) (sym same) ∙ left.1;
    }

-- an outcome, by what it is
pub if_answered : {A E : Type 0} (P : A → Type 0) (r : Result A E) → ((a : A) → r ≡ Ok a → P a) → IfOk r P
if_answered P (Ok a) h = h a refl
if_answered P (Err k) h = tt

pub keeps_sound : KeepsSound
keeps_sound c n v is sound =
    if_answered (λ s. IsNoPlace s → IsSound (replaced c n s).0) (changed c n v) (λ s e none.
    let f = found_of c n v s e in
    replaced_sound c n f.old s sound f.at
    (by_value c n sound v is f.value f.gives f.names_one f.says f.old s f.at f.makes (f.free, f.key) none))

pub leaves_all_else : LeavesAllElse
leaves_all_else c n v =
    if_answered (λ s. ChangesOnly c n (replaced c n s)) (changed c n v) (λ s e.
    let f = found_of c n v s e in else_left c n f.old s f.at)
