-- A correction keeps an archive sound: that of a place by what was looked at, each other one by itself.
use Rattle.std.proofs.Common.{◌≡◌, ℕ, List, Bool, true, false, refl, sym, ap, ◌∙◌, subst}
use Rattle.std.specs.Prelude.{Option, Some, None, Result, Ok, Err, not, if◌then◌else◌}
use Rattle.std.specs.FinMap.{get}
use Rattle.std.specs.Str.{bytes_eq}
use Rattle.std.proofs.lemmas.Bool.{and_parts}
use Rattle.list_laws.proofs.Booleans.{neither, not_true}
use Rattle.record_text.specs.Text.{IsText}
use Rattle.record_text.specs.declared.refusal.RefusalKind.{RefusalKind}
use Rattle.record_text.specs.declared.refusal.RefusalKind.TheVariants.{BadText, StillCarried}
use Rattle.record_fields.specs.Bytes.{bytes_are}
use Rattle.record_kinds.specs.Model as model
use Rattle.record_kinds.specs.declared.record.Record.{Record}
use Rattle.record_kinds.specs.declared.record.Record.TheVariants as kind
use Rattle.record_shapes.specs.Forms.{is_empty}
use Rattle.record_shapes.specs.Paths.{IsNormal, normal}
use Rattle.archive_state.specs.Content.{Content}
use Rattle.archive_state.specs.Known.{known_before}
use Rattle.archive_state.specs.Sound.{IsSound}
use Rattle.commands.specs.Rows.{and_then}
use Rattle.command_checks.specs.Checks.{date_in, each, need, text_in}
use Rattle.command_checks.specs.Fits.{new_path}
use Rattle.command_checks.proofs.Found.{needed}
use Rattle.corrections.specs.Corrections.{
  citation_with,
  corrected,
  entry_with,
  event_with,
  is_place_name,
  made,
  person_with,
  place_named,
  repo_named,
  source_with,
}
use Rattle.corrections.specs.declared.correction.Correction.{Correction}
use Rattle.corrections.specs.declared.correction.Correction.TheVariants as correction
use Rattle.corrections.specs.declared.field.TextField.{TextField}
use Rattle.corrections.specs.declared.field.TextField.TheVariants as text_field
use Rattle.record_changes.specs.Steps.{replaced}
use Rattle.field_changes.specs.Laws.{IsNoPlace, IsUtf8Value}
use Rattle.field_changes.specs.Steps.{changed, checked_after, correction_in, named, named_record, record_there}
use Rattle.commands.specs.declared.correction.GivenCorrection.{GivenCorrection}
use Rattle.commands.specs.declared.correction.GivenCorrection.TheVariants as given
use Rattle.commands.specs.declared.correction.GivenValue.{GivenValue}
use Rattle.commands.specs.declared.correction.GivenValue.TheVariants as given_value
use Rattle.field_changes.proofs.Retagging.{keeps_sound_tags}
use Rattle.field_changes.proofs.Stepping.{if_answered, keeps_sound as field_keeps_sound, then_ok, there_ok}
use Rattle.field_changes.proofs.Wording.{text_found}
use Rattle.place_names.specs.Laws.{IsUtf8Given, KeepsSound}
use Rattle.place_names.specs.Naming.{all_may, any_reads, is_read_anew, takes_parent}
use Rattle.place_names.specs.Steps.{correct, corrected_record, name_passes, path_passes, paths_pass}
use Rattle.place_names.proofs.Leaving.{of_answer}
use Rattle.place_names.proofs.Resounding.{renamed_sound}

-- ---- the record and the value of a correction that is accepted
pub record Corrects (c : Content) (n : ℕ) (v : GivenValue) (s : Record) : Type 0 where
  pub old : Record
  pub at : get c.records n ≡ Some old
  pub value : Correction
  pub gives : correction_in v ≡ Ok value
  pub makes : corrected value old ≡ Ok s

pub corrects : (c : Content) (n : ℕ) (v : GivenValue) (s : Record) → changed c n v ≡ Ok s → Corrects c n v s
corrects c n v s e =
    let x = then_ok (correction_in v) (λ x. and_then (named_record c n v) (λ r. and_then (corrected x r)
    (λ t. and_then (checked_after c n v t) (λ _. Ok t)))) s e in
    let r = then_ok (named_record c n v) (λ r. and_then (corrected x.0 r)
    (λ t. and_then (checked_after c n v t) (λ _. Ok t))) s x.2 in
    let t = then_ok (corrected x.0 r.0) (λ t. and_then (checked_after c n v t) (λ _. Ok t)) s r.2 in
    let u = then_ok (checked_after c n v t.0) (λ _. Ok t.0) s t.2 in
    let same : t.0 ≡ s = let h = u.2 in cc in
    let old = then_ok (record_there (get c.records n)) (λ r. and_then (named c v) (λ _. Ok r)) r.0 r.1 in
    let name = then_ok (named c v) (λ _. Ok old.0) r.0 old.2 in
    let was : old.0 ≡ r.0 = let h = name.2 in cc in
    record {
      old = r.0;
      at = there_ok (get c.records n) old.0 old.1 ∙ ap Some was;
      value = x.0;
      gives = x.1;
      makes = t.1 ∙ ap Ok same;
    }

-- ---- a place is made only of a place, by a name
made_ok : {A B : Type 0} (f : A → B) (r : Result A RefusalKind) (b : B) → made f r ≡ Ok b
    → (a : A) × (r ≡ Ok a) × (f a ≡ b)
made_ok f (Ok a) b e = let same : f a ≡ b = cc in (a, refl, same)
made_ok f (Err k) b e = absurd cc

pub record Renames (x : Correction) (r : Record) (p : model.Place) : Type 0 where
  pub old : model.Place
  pub name : List ℕ
  pub was : r ≡ kind.Place old
  pub value : x ≡ correction.Text text_field.Name name
  pub fits : is_place_name name ≡ true
  pub now : record old { name = name } ≡ p

if_name : (b : Bool) (y p : model.Place) → (if b then Ok y else Err BadText) ≡ Ok p → (b ≡ true) × (y ≡ p)
if_name true y p e = let same : y ≡ p = cc in (refl, same)
if_name false y p e = absurd cc

by_text : (f : TextField) (t : List ℕ) (y p : model.Place) → place_named (correction.Text f t) y ≡ Ok p
    → Renames (correction.Text f t) (kind.Place y) p
by_text text_field.Name t y p e =
    let found = if_name (is_place_name t) (record y { name = t }) p e in
    record { old = y; name = t; was = refl; value = refl; fits = found.0; now = found.1 }
by_text _ t y p e = absurd cc

by_name : (x : Correction) (y p : model.Place) → place_named x y ≡ Ok p → Renames x (kind.Place y) p
by_name (correction.Text f t) y p e = by_text f t y p e
by_name _ y p e = absurd cc

pub renames : (x : Correction) (r : Record) (p : model.Place) → corrected x r ≡ Ok (kind.Place p) → Renames x r p
renames x (kind.Place y) p e =
    let found = made_ok (λ z. kind.Place z) (place_named x y) (kind.Place p) e in
    let same : found.0 ≡ p = let h = found.2 in cc in
    by_name x y p (found.1 ∙ ap Ok same)
renames x (kind.Person y) p e = let f = made_ok (λ z. kind.Person z) (person_with x y) (kind.Place p) e in
    let h = f.2 in absurd cc
renames x (kind.Event y) p e = let f = made_ok (λ z. kind.Event z) (event_with x y) (kind.Place p) e in
    let h = f.2 in absurd cc
renames x (kind.Repo y) p e = let f = made_ok (λ z. kind.Repo z) (repo_named x y) (kind.Place p) e in
    let h = f.2 in absurd cc
renames x (kind.Source y) p e = let f = made_ok (λ z. kind.Source z) (source_with x y) (kind.Place p) e in
    let h = f.2 in absurd cc
renames x (kind.Citation y) p e = let f = made_ok (λ z. kind.Citation z) (citation_with x y) (kind.Place p) e in
    let h = f.2 in absurd cc
renames x (kind.Entry y) p e = let f = made_ok (λ z. kind.Entry z) (entry_with x y) (kind.Place p) e in
    let h = f.2 in absurd cc
renames x (kind.Family y) p e = absurd cc
renames x (kind.Other y) p e = absurd cc

-- ---- the name is a text
text_of_name : (v : GivenValue) → IsUtf8Value v → (f : TextField) (t : List ℕ)
    → correction_in v ≡ Ok (correction.Text f t) → IsText t
text_of_name (given_value.Text g words) is f t e =
    let found = then_ok (text_in words) (λ z. Ok (correction.Text g z)) (correction.Text f t) e in
    let same : found.0 ≡ t = let h = found.2 in cc in
    subst IsText same (text_found words found.0 is found.1)
text_of_name (given_value.Date d) is f t e =
    let found = then_ok (each date_in d) (λ z. Ok (correction.Date z)) (correction.Text f t) e in
    let h = found.2 in absurd cc
text_of_name (given_value.Sex y) is f t e = absurd cc
text_of_name (given_value.Place y) is f t e = absurd cc
text_of_name (given_value.Repository y) is f t e = absurd cc
text_of_name (given_value.Quality y) is f t e = absurd cc
text_of_name (given_value.Item y) is f t e = absurd cc

-- ---- what was looked at
pub record Passes (c : Content) (n : ℕ) (p : model.Place) : Type 0 where
  pub path : List ℕ
  pub is_new : new_path c.records p.name p.parent ≡ Some path
  pub may : all_may 32 c n path ≡ true
  pub free : takes_parent (known_before c.records n).path p ≡ false
  pub unread : any_reads 32 c n path ≡ false

passed : (c : Content) (n : ℕ) (p : model.Place) → name_passes c n p ≡ Ok tt → Passes c n p
passed c n p = by (new_path c.records p.name p.parent) refl
  where
    by : (o : Option (List ℕ)) → new_path c.records p.name p.parent ≡ o → path_passes c n p o ≡ Ok tt → Passes c n p
    by None is e = absurd cc
    by (Some path) is e =
        let one = then_ok (need (all_may 32 c n path) BadText)
        (λ _. need (not (is_read_anew c n p path)) StillCarried) tt e in
        let apart = neither (takes_parent (known_before c.records n).path p) (any_reads 32 c n path)
        (not_true (is_read_anew c n p path) (needed (not (is_read_anew c n p path)) StillCarried tt one.2)) in
        record {
          path = path;
          is_new = is;
          may = needed (all_may 32 c n path) BadText one.0 one.1;
          free = apart.0;
          unread = apart.1;
        }

is_normal : (t : List ℕ) → is_place_name t ≡ true → IsNormal t
is_normal t e = bytes_are (normal t) t (and_parts (not (is_empty t)) (bytes_eq (normal t) t) e).1

place_sound : (c : Content) (n : ℕ) (v : GivenValue) (p : model.Place) → IsUtf8Value v → IsSound c
    → changed c n v ≡ Ok (kind.Place p) → name_passes c n p ≡ Ok tt → IsSound (replaced c n (kind.Place p)).0
place_sound c n v p is sound e pass =
    let f = corrects c n v (kind.Place p) e in
    let named = renames f.value f.old p f.makes in
    let looked = passed c n (record named.old { name = named.name })
    (subst (λ (q : model.Place). name_passes c n q ≡ Ok tt) (sym named.now) pass) in
    subst (λ (q : model.Place). IsSound (replaced c n (kind.Place q)).0) named.now
    (renamed_sound c n named.old named.name sound (f.at ∙ ap Some named.was) looked.path looked.is_new looked.may
    looked.unread (text_of_name v is text_field.Name named.name (f.gives ∙ ap Ok named.value))
    (is_normal named.name named.fits) looked.free)

value_sound : (c : Content) (n : ℕ) (v : GivenValue) (r : Record) → IsUtf8Value v → IsSound c → changed c n v ≡ Ok r
    → paths_pass c n r ≡ Ok tt → IsSound (replaced c n r).0
value_sound c n v r is sound e pass = by r e pass
  where
    other : (s : Record) → changed c n v ≡ Ok s → IsNoPlace s → IsSound (replaced c n s).0
    other s f = of_answer (λ x. IsNoPlace x → IsSound (replaced c n x).0) (changed c n v) s
        (field_keeps_sound c n v is sound) f

    by : (s : Record) → changed c n v ≡ Ok s → paths_pass c n s ≡ Ok tt → IsSound (replaced c n s).0
    by (kind.Place p) f q = place_sound c n v p is sound f q
    by (kind.Repo x) f q = other (kind.Repo x) f tt
    by (kind.Source x) f q = other (kind.Source x) f tt
    by (kind.Person x) f q = other (kind.Person x) f tt
    by (kind.Family x) f q = other (kind.Family x) f tt
    by (kind.Event x) f q = other (kind.Event x) f tt
    by (kind.Citation x) f q = other (kind.Citation x) f tt
    by (kind.Entry x) f q = other (kind.Entry x) f tt
    by (kind.Other x) f q = other (kind.Other x) f tt

record_sound : (c : Content) (n : ℕ) (x : GivenCorrection) (r : Record) → IsUtf8Given x → IsSound c
    → corrected_record c n x ≡ Ok r → paths_pass c n r ≡ Ok tt → IsSound (replaced c n r).0
record_sound c n (given.Tag words) r is sound e pass =
    of_answer (λ s. IsSound (replaced c n s).0) (corrected_record c n (given.Tag words)) r
    (keeps_sound_tags c n words sound) e
record_sound c n (given.Value v) r is sound e pass = value_sound c n v r is sound e pass

pub keeps_sound : KeepsSound
keeps_sound c n x is sound =
    if_answered (λ done. IsSound done.0) (correct c n x) (λ done e.
    let r = then_ok (corrected_record c n x) (λ r. and_then (paths_pass c n r) (λ _. Ok (replaced c n r))) done e in
    let p = then_ok (paths_pass c n r.0) (λ _. Ok (replaced c n r.0)) done r.2 in
    let same : replaced c n r.0 ≡ done = let f = p.2 in cc in
    subst (λ d. IsSound d.0) same (record_sound c n x r.0 is sound r.1 p.1))
