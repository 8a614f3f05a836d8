-- What an accepted step leaves beside its records: receipts and the next number; and that it is sound.
use Rattle.std.proofs.Common.{
  ◌≡◌,
  ℕ,
  ◌+◌,
  ◌<◌,
  ◌≤◌,
  List,
  [],
  ◌∷◌,
  Bool,
  true,
  false,
  refl,
  sym,
  ap,
  ◌∙◌,
  inl,
  inr,
  nat_le,
  subst,
  arith,
}
use Rattle.std.specs.Prelude.{Option, Some, None, Result, Ok, Err, IfOk, if◌then◌else◌, not, ◌||◌, option_map}
use Rattle.std.proofs.lemmas.Bool.Decides.{nat_tests}
use Rattle.std.specs.FinMap.{get, insert, remove}
use Rattle.record_text.specs.declared.refusal.RefusalKind.{RefusalKind}
use Rattle.record_text.specs.declared.refusal.RefusalKind.TheVariants.{
  Full,
  SamePerson,
  AlreadyInFamily,
  BadText,
  NoSuchMention,
  NotOfKind,
  StillNamed,
}
use Rattle.record_kinds.specs.Model as model
use Rattle.record_kinds.specs.declared.record.Record.{Record}
use Rattle.record_kinds.specs.declared.record.Record.TheVariants as kind
use Rattle.receipts.specs.declared.answer.Answer.{Answer}
use Rattle.archive_state.specs.Content.{Content}
use Rattle.archive_state.specs.Sound.{IsSound}
use Rattle.std.specs.Str.{IsUtf8}
use Rattle.std.proofs.lemmas.Bool.{not-true}
use Rattle.commands.specs.Rows.{and_then}
use Rattle.commands.specs.Sound.{WhereSome}
use Rattle.commands.specs.declared.row_command.RowCommand.{RowCommand}
use Rattle.commands.specs.declared.row_command.RowCommand.TheVariants as row_command
use Rattle.command_checks.specs.Checks.{
  text_in,
  date_in,
  person_at,
  family_at,
  event_at,
  owner_at,
  place_at,
  tag_in,
  event_tag,
  is_tag_of,
  is_said,
  said_place_at,
  record_at,
  demanded_at,
  is_named,
  maybe_text_in,
  passed,
  each,
  need,
  place_name,
  place_name_in,
}
use Rattle.command_checks.specs.Entries.{entry_at, key_is_free, not_empty, reason_in, texts_fit}
use Rattle.command_checks.proofs.Likes.{entry_is_found}
use Rattle.member_changes.specs.Steps.{partner, unchild, unparticipant, unpartner}
use Rattle.member_changes.proofs.Stepping.{keeps_sound, leaves_all_else}
use Rattle.record_changes.specs.Laws.{ChangesOnly}
use Rattle.place_names.specs.Laws.{IsUtf8Given}
use Rattle.place_names.specs.Steps.{correct}
use Rattle.place_names.proofs.Leaving.{leaves_all_else as others_stay}
use Rattle.place_names.proofs.Mending.{keeps_sound as stays_sound}
use Rattle.merging.specs.Steps.{RowStep, merge_step, undo_step}
use Rattle.merging.proofs.Drawing.{merge_draws, merge_uses_none, undo_draws, undo_uses_none}
use Rattle.merging.proofs.Stepping.{merged_by, merged_sound, undone_by, undone_sound}
use Rattle.archive_steps.proofs.Entered.{LinkAt, entry_found, new_entry_fits, relinked_fits}
use Rattle.archive_steps.specs.Steps.{
  entry_of,
  has_mention,
  relinked,
  with_link,
  place_within,
  row_step,
  creates,
  replaces,
  removes,
  plain_repo,
  given_source,
  plain_citation,
  plain_person,
  plain_partners,
  plain_place,
  with_name,
  with_child,
  with_fields,
  with_participant,
  is_same,
  is_partner,
  is_child,
}
use Rattle.command_checks.specs.Fits.{new_path, is_fit}
use Rattle.record_text.specs.Text.{IsText}
use Rattle.record_shapes.specs.Paths.{IsNormal}
use Rattle.command_checks.proofs.PlaceNames.{name_taken}
use Rattle.archive_steps.proofs.Placed.{PlacedAt, place_keeps}
use Rattle.command_checks.specs.Numbers.{Draws, UsesNoneAgain}
use Rattle.archive_steps.specs.Words.{IsUtf8Date, IsUtf8Entry, IsUtf8Row}
use Rattle.command_checks.specs.declared.kinds.Demand.TheVariants as demand
use Rattle.command_checks.specs.declared.looks.Owner.{Owner}
use Rattle.archive_state.proofs.Putting.{put_elsewhere, put_here}
use Rattle.record_changes.proofs.Keeping.{IsFit, put_keeps}
use Rattle.command_checks.proofs.Found.{
  person_found,
  family_found,
  event_found,
  owner_found,
  person_stands,
  place_stands,
  demanded_stands,
  passes,
}
use Rattle.archive_steps.proofs.Named.{gone_still, removed_sound}
use Rattle.command_checks.proofs.SaidPaths.{said_has_part}
use Rattle.archive_steps.proofs.Sourced.{
  RepoAt,
  new_repo_fits,
  new_citation_fits,
  given_fits,
  source_found,
  maybe_text_found,
}
use Rattle.archive_steps.proofs.Worded.{text_found, maybe_date}
use Rattle.archive_steps.proofs.Fitting.{
  PersonAt,
  PlaceAt,
  new_person_fits,
  add_name_fits,
  set_sex_fits,
  new_family_fits,
  add_child_fits,
  new_event_fits,
  amend_event_fits,
  add_participant_fits,
}
use Rattle.commands.proofs.Chains.{both_answered}

-- an accepted step leaves receipts as they are, draws the numbers of what it makes, uses no number again, and
-- where W holds leaves a sound archive sound
abbrev pub Follows : {E : Type 0} → Type 0 → Content → Result (Content × Answer) E → Type 0
Follows W c (Ok done) = (done.0.receipts ≡ c.receipts) × Draws c done.1 done.0 × UsesNoneAgain c done.0
    × (W → IsSound c → IsSound done.0)
Follows W c (Err e) = Unit {0}

then_follows : {A : Type 0} (W : Type 0) (c : Content) (r : Result A RefusalKind) (f : A → RowStep)
    → ((a : A) → r ≡ Ok a → Follows W c (f a)) → Follows W c (and_then r f)
then_follows W c (Ok a) f h = h a refl
then_follows W c (Err e) f h = tt

need_follows : (W : Type 0) (c : Content) (b : Bool) (k : RefusalKind) (f : Unit {0} → RowStep)
    → (b ≡ true → Follows W c (f tt)) → Follows W c (and_then (need b k) f)
need_follows W c true k f h = h refl
need_follows W c false k f h = tt

-- a record changes that is there
replaces_again : (c : Content) (n : ℕ) (old r : Record) → get c.records n ≡ Some old
    → UsesNoneAgain c (record c { records = insert c.records n r })
replaces_again c n old r at = (
  omega arith,
  (λ k less none. none),
  λ k used. (
    used.0,
    put_elsewhere c.records n r k (λ same. let both : Some old ≡ None = sym at
        ∙ (ap (get c.records) (sym same) ∙ used.1) in absurd cc) ∙ used.1,
    used.2,
  ),
)

replaces_draws : (c : Content) (n : ℕ) (r : Record) → Draws c (record { first = 0; count = 0 })
    (record c { records = insert c.records n r })
replaces_draws c n r = (omega arith, inr (refl, refl), λ k low high. absurd (omega arith))

replaces_follows : (W : Type 0) (c : Content) (n : ℕ) (old r : Record) → get c.records n ≡ Some old
    → (W → IsSound c → IsFit c n r) → Follows W c (replaces c n r)
replaces_follows W c n old r at fit = (
  refl,
  replaces_draws c n r,
  replaces_again c n old r at,
  (λ w sound. put_keeps c n c.next r sound (fit w sound) (omega arith) sound.bounded (sound.rules.numbered n old at)),
)

-- a record is made at the next number
abbrev created : Content → ℕ → Record → RowStep
created c n r = Ok (record c { records = insert c.records n r; next = n + 1 }, record { first = n; count = 1 })

creates_again : (c : Content) (r : Record)
    → UsesNoneAgain c (record c { records = insert c.records c.next r; next = c.next + 1 })
creates_again c r = (
  omega arith,
  (λ k less none. none),
  λ k used. let below : k < c.next = used.0 in (
    omega arith,
    put_elsewhere c.records c.next r k (λ same. let here : c.next < c.next = subst (λ x. x < c.next) same below in
        absurd (omega arith)) ∙ used.1,
    used.2,
  ),
)

creates_draws : (c : Content) (r : Record) → Draws c (record { first = c.next; count = 1 })
    (record c { records = insert c.records c.next r; next = c.next + 1 })
creates_draws c r = (
  refl,
  inl refl,
  λ k low high.
      let same : c.next ≡ k = omega arith in
      inl (λ none. let both : Some r ≡ None = sym (put_here c.records c.next r)
      ∙ ap (get (insert c.records c.next r)) same ∙ none in absurd cc),
)

one_more_free : (n : ℕ) → nat_le n 4_294_967_295 ≡ true → n + 1 ≤ 4294967296
one_more_free n e = grind (arith, nat_tests)

creates_follows : (W : Type 0) (c : Content) (r : Record) → (W → IsSound c → IsFit c c.next r)
    → Follows W c (creates c r)
creates_follows W c r fit = elim (nat_le c.next 4_294_967_295) as (λ b. nat_le c.next 4_294_967_295 ≡ b
    → Follows W c (and_then (if b then Ok c.next else Err Full) (λ n. created c n r))) [
      | true ↦ λ e. (
        refl,
        creates_draws c r,
        creates_again c r,
        (λ w sound. let begun : 0 < c.next = sound.begun in put_keeps c c.next (c.next + 1) r sound (fit w sound)
            (omega arith) (one_more_free c.next e) (begun, omega arith)),
      )
      | false ↦ λ e. tt
    ] refl

-- a place is made
place_follows : (W : Type 0) (c : Content) (name : List ℕ) (parent : Option ℕ)
    → (W → IsSound c → IsText name × IsNormal name × PlacedAt c parent) → is_fit (new_path c.records name parent) ≡ true
    → Follows W c (creates c (kind.Place (place_within name parent)))
place_follows W c name parent given fit = elim (nat_le c.next 4_294_967_295) as (λ b. nat_le c.next 4_294_967_295 ≡ b
    → Follows W c (and_then (if b then Ok c.next else Err Full)
    (λ n. created c n (kind.Place (place_within name parent))))) [
      | true ↦ λ e. (
        refl,
        creates_draws c (kind.Place (place_within name parent)),
        creates_again c (kind.Place (place_within name parent)),
        (λ w sound. let g = given w sound in place_keeps c name parent sound g.2 g.0 g.1 fit (one_more_free c.next e)),
      )
      | false ↦ λ e. tt
    ] refl

-- a record is removed
removes_draws : (c : Content) (n : ℕ) → Draws c (record { first = 0; count = 0 })
    (record c { records = remove c.records n })
removes_draws c n = (omega arith, inr (refl, refl), λ k low high. absurd (omega arith))

removes_again : (c : Content) (n : ℕ) → UsesNoneAgain c (record c { records = remove c.records n })
removes_again c n = (omega arith, (λ k less none. none), (λ k used. (used.0, gone_still c.records n k used.1, used.2)))

removes_follows : (W : Type 0) (c : Content) (n : ℕ) → is_named c n ≡ false → Follows W c (removes c n)
removes_follows W c n none = (refl, removes_draws c n, removes_again c n, (λ w sound. removed_sound c n sound none))

-- ---- what a look has found
each_passed : {A : Type 0} (r : Result A RefusalKind) (u : Unit {0}) → passed (and_then r (λ a. Ok (Some a))) ≡ Ok u
    → passed r ≡ Ok u
each_passed (Ok a) u e = e
each_passed (Err k) u e = e

tag_found : (o : Owner) (t tag : List ℕ) → tag_in o t ≡ Ok tag → is_tag_of o tag ≡ true
tag_found o t tag e = elim (is_tag_of o t) as (λ b. is_tag_of o t ≡ b → (if b then Ok t else Err NotOfKind) ≡ Ok tag
    → is_tag_of o tag ≡ true) [
      | true ↦ λ q f. let same : t ≡ tag = cc in subst (λ x. is_tag_of o x ≡ true) same q
      | false ↦ λ q f. absurd cc
    ] refl e

one_person : (c : Content) (n : ℕ) (u : Unit {0}) → passed (person_at c n) ≡ Ok u → PersonAt c (Some n)
one_person c n u e = let p = passes (person_at c n) u e in person_stands (get c.records n) p.0 p.1

maybe_person : (c : Content) (n : Option ℕ) (u : Unit {0}) → passed (each (person_at c) n) ≡ Ok u → PersonAt c n
maybe_person c None u e = tt
maybe_person c (Some n) u e = one_person c n u (each_passed (person_at c n) u e)

maybe_place : (c : Content) (n : Option ℕ) (u : Unit {0}) → passed (each (said_place_at c) n) ≡ Ok u → PlaceAt c n
maybe_place c None u e = tt
maybe_place c (Some n) u e =
    let said = passes (said_place_at c n) u (each_passed (said_place_at c n) u e) in
    let place = both_answered (place_at c n) (λ p. need (is_said n c.records n p) BadText) said.0 said.1 in
    (place_stands (get c.records n) place.0 place.1, said_has_part c n said.1)

maybe_repo : (c : Content) (n : Option ℕ) (u : Unit {0}) → passed (each (demanded_at c demand.Repo) n)
    ≡ Ok u → RepoAt c n
maybe_repo c None u e = tt
maybe_repo c (Some n) u e =
    let p = passes (demanded_at c demand.Repo n) u (each_passed (demanded_at c demand.Repo n) u e) in
    demanded_stands demand.Repo (get c.records n) p.0 p.1

maybe_parent : (c : Content) (n : Option ℕ) (u : Unit {0}) → passed (each (demanded_at c demand.Place) n)
    ≡ Ok u → PlacedAt c n
maybe_parent c None u e = tt
maybe_parent c (Some n) u e =
    let p = passes (demanded_at c demand.Place n) u (each_passed (demanded_at c demand.Place n) u e) in
    demanded_stands demand.Place (get c.records n) p.0 p.1

-- words that are taken as the name of a place
name_found : (words t : List ℕ) → IsUtf8 words → place_name_in words ≡ Ok t → IsText t × IsNormal t
name_found words t utf8 e =
    let b = both_answered (text_in words) place_name t e in
    let n = name_taken b.0 t b.2 in
    (subst IsText n.0 (text_found words b.0 utf8 b.1), n.1)

-- the owner, and what is known of its place and its tag
event_tag_found : (c : Content) (owner : ℕ) (place : Option ℕ) (t tag : List ℕ) → event_tag c owner place t ≡ Ok tag
    → (o : Owner) × (owner_at c owner ≡ Ok o) × PlaceAt c place × (is_tag_of o tag ≡ true)
event_tag_found c owner place t tag e =
    let o = both_answered (owner_at c owner) (λ o. and_then (passed (each (said_place_at c) place)) (λ _. tag_in o t))
    tag
    e in
    let p = both_answered (passed (each (said_place_at c) place)) (λ _. tag_in o.0 t) tag o.2 in
    (o.0, o.1, maybe_place c place p.0 p.1, tag_found o.0 t tag p.2)

-- why a mention is of a person
reason_found : (words t : List ℕ) → IsUtf8 words → reason_in words ≡ Ok t → IsText t
reason_found words t utf8 e =
    let b = both_answered (text_in words) not_empty t e in
    subst IsText (some_text b.0 t b.2) (text_found words b.0 utf8 b.1)
  where
    some_text : (x y : List ℕ) → not_empty x ≡ Ok y → x ≡ y
    some_text [] y f = absurd cc
    some_text (b ∷ bs) y f = cc

-- another link of a mention
relinked_follows : (W : Type 0) (c : Content) (n : ℕ) (e : model.Entry) (k : ℕ) (link : Option model.Link)
    → get c.records n ≡ Some (kind.Entry e) → (W → IsSound c → LinkAt c link) → Follows W c (relinked c n e k link)
relinked_follows W c n e k link at there =
    need_follows W c (has_mention k e) NoSuchMention _
    (λ is. replaces_follows W c n (kind.Entry e) (kind.Entry (with_link k link e)) at
    (λ w sound. relinked_fits c n e k link sound at (there w sound)))

-- two persons become one, and a merge is undone
merge_follows : (c : Content) (keep gone : ℕ) → Follows (Unit {0}) c (merge_step c keep gone)
merge_follows c keep gone = elim (merge_step c keep gone) as (λ s. merge_step c keep gone ≡ s
    → Follows (Unit {0}) c s) [
      | Ok done ↦ λ e. (
        ap (λ (x : Content). x.receipts) (sym (merged_by c done.0 keep gone done.1 e).left),
        merge_draws c done.0 keep gone done.1 e,
        merge_uses_none c done.0 keep gone done.1 e,
        (λ w sound. merged_sound c done.0 keep gone done.1 sound e),
      )
      | Err k ↦ λ e. tt
    ] refl

undo_follows : (c : Content) (n : ℕ) → Follows (Unit {0}) c (undo_step c n)
undo_follows c n = elim (undo_step c n) as (λ s. undo_step c n ≡ s → Follows (Unit {0}) c s) [
  | Ok done ↦ λ e. (
    ap (λ (x : Content). x.receipts) (sym (undone_by c done.0 n done.1 e).left),
    undo_draws c done.0 n done.1 e,
    undo_uses_none c done.0 n done.1 e,
    (λ w sound. undone_sound c done.0 n done.1 sound e),
  )
  | Err k ↦ λ e. tt
] refl

-- one record changes, and all else is as it was
changes_follow : (c : Content) (n : ℕ) (step : RowStep) → IfOk step (λ done. IsSound c → IsSound done.0)
    → IfOk step (ChangesOnly c n) → Follows (Unit {0}) c step
changes_follow c n (Ok done) sound only = (only.receipts, only.draws, only.again, (λ w before. sound before))
changes_follow c n (Err e) sound only = tt

-- the same of a step that leaves a sound archive sound where its words are as their types keep them
worded_follows : (W : Type 0) (c : Content) (n : ℕ) (step : RowStep)
    → (W → IsSound c → IfOk step (λ done. IsSound done.0)) → IfOk step (ChangesOnly c n) → Follows W c step
worded_follows W c n (Ok done) sound only = (only.receipts, only.draws, only.again, sound)
worded_follows W c n (Err e) sound only = tt

-- ---- each command
pub row_follows : (c : Content) (k : RowCommand) → Follows (IsUtf8Row k) c (row_step c k)
row_follows c (row_command.Person name sex) =
    then_follows (IsUtf8 name) c (text_in name) _
    (λ t e. creates_follows (IsUtf8 name) c (kind.Person (plain_person t sex))
    (λ w sound. new_person_fits c t sex sound (text_found name t w e)))
row_follows c (row_command.Name person name) =
    then_follows (IsUtf8 name) c (text_in name) _
    (λ t e. then_follows (IsUtf8 name) c (person_at c person) _ (λ p found.
    let at : get c.records person ≡ Some (kind.Person p) = person_found (get c.records person) p found in
    replaces_follows (IsUtf8 name) c person (kind.Person p) (kind.Person (with_name t p)) at
    (λ w sound. add_name_fits c person p t sound at (text_found name t w e))))
row_follows c (row_command.Sex person sex) =
    then_follows (Unit {0}) c (person_at c person) _ (λ p found.
    let at : get c.records person ≡ Some (kind.Person p) = person_found (get c.records person) p found in
    replaces_follows (Unit {0}) c person (kind.Person p) (kind.Person (record p { sex = Some sex })) at
    (λ w sound. set_sex_fits c person p sex sound at))
row_follows c (row_command.Family husband wife) =
    let family : model.Family = record { partners = plain_partners husband wife; children = []; carried = [] } in
    then_follows (Unit {0}) c (passed (each (person_at c) husband)) _
    (λ h first. then_follows (Unit {0}) c (passed (each (person_at c) wife)) _ (λ w second.
    need_follows (Unit {0}) c (not (is_same husband wife)) SamePerson _
    (λ other. creates_follows (Unit {0}) c (kind.Family family)
    (λ w sound. new_family_fits c husband wife sound (maybe_person c husband h first) (maybe_person c wife w second)
    (not-true (is_same husband wife) other)))))
row_follows c (row_command.Child family person) =
    then_follows (Unit {0}) c (family_at c family) _
    (λ f found. then_follows (Unit {0}) c (passed (person_at c person)) _ (λ u there.
    need_follows (Unit {0}) c (not (is_partner person f || is_child person f)) AlreadyInFamily _ (λ other.
    let at : get c.records family ≡ Some (kind.Family f) = family_found (get c.records family) f found in
    replaces_follows (Unit {0}) c family (kind.Family f) (kind.Family (with_child person f)) at
    (λ w sound. add_child_fits c family f person sound at (one_person c person u there)
    (not-true (is_partner person f || is_child person f) other)))))
row_follows c (row_command.Event owner tag value date place) =
    then_follows (IsUtf8 tag × IsUtf8 value × WhereSome IsUtf8Date date) c (text_in tag) _
    (λ t i. then_follows (IsUtf8 tag × IsUtf8 value × WhereSome IsUtf8Date date) c (text_in value) _
    (λ v j. then_follows (IsUtf8 tag × IsUtf8 value × WhereSome IsUtf8Date date) c (each date_in date) _ (λ d k.
    then_follows (IsUtf8 tag × IsUtf8 value × WhereSome IsUtf8Date date) c (event_tag c owner place t) _ (λ is found.
    let event : model.Event = record {
      owner = owner;
      tag = is;
      value = v;
      date = d;
      place = option_map plain_place place;
      participants = [];
      carried = [];
    } in
    let one = event_tag_found c owner place t is found in
    let holder = owner_found (get c.records owner) one.0 one.1 in
    creates_follows (IsUtf8 tag × IsUtf8 value × WhereSome IsUtf8Date date) c (kind.Event event)
    (λ w sound. new_event_fits c owner one.0 holder.0 is v d place sound holder.1 holder.2 holder.3 one.3 one.2
    (text_found value v w.1 j) (maybe_date date d w.2 k))))))
row_follows c (row_command.Amend event value date place) =
    then_follows (IsUtf8 value × WhereSome IsUtf8Date date) c (text_in value) _
    (λ v i. then_follows (IsUtf8 value × WhereSome IsUtf8Date date) c (each date_in date) _
    (λ d j. then_follows (IsUtf8 value × WhereSome IsUtf8Date date) c (event_at c event) _ (λ e found.
    then_follows (IsUtf8 value × WhereSome IsUtf8Date date) c (passed (each (said_place_at c) place)) _ (λ u there.
    let at : get c.records event ≡ Some (kind.Event e) = event_found (get c.records event) e found in
    replaces_follows (IsUtf8 value × WhereSome IsUtf8Date date) c event (kind.Event e)
    (kind.Event (with_fields v d place e)) at
    (λ w sound. amend_event_fits c event e v d place sound at (maybe_place c place u there) (text_found value v w.0 i)
    (maybe_date date d w.1 j))))))
row_follows c (row_command.Participant event person role) =
    then_follows (IsUtf8 role) c (text_in role) _
    (λ r i. then_follows (IsUtf8 role) c (event_at c event) _
    (λ e found. then_follows (IsUtf8 role) c (passed (person_at c person)) _ (λ u there.
    let at : get c.records event ≡ Some (kind.Event e) = event_found (get c.records event) e found in
    replaces_follows (IsUtf8 role) c event (kind.Event e) (kind.Event (with_participant person r e)) at
    (λ w sound. add_participant_fits c event e person r sound at (one_person c person u there)
    (text_found role r w i)))))
row_follows c (row_command.Place name parent) =
    then_follows (IsUtf8 name) c (place_name_in name) _
    (λ t e. then_follows (IsUtf8 name) c (passed (each (demanded_at c demand.Place) parent)) _ (λ u there.
    need_follows (IsUtf8 name) c (is_fit (new_path c.records t parent)) BadText _ (λ fit.
    place_follows (IsUtf8 name) c t parent (λ w sound. let n = name_found name t w e in
    (n.0, n.1, maybe_parent c parent u there)) fit)))
row_follows c (row_command.Repo name) =
    then_follows (IsUtf8 name) c (text_in name) _
    (λ t e. creates_follows (IsUtf8 name) c (kind.Repo (plain_repo t))
    (λ w sound. new_repo_fits c t sound (text_found name t w e)))
row_follows c (row_command.Source title author publisher repo call_number) =
    then_follows (IsUtf8 title × IsUtf8 author × IsUtf8 publisher × IsUtf8 call_number) c
    (given_source title author publisher repo call_number) _ (λ s given.
    then_follows (IsUtf8 title × IsUtf8 author × IsUtf8 publisher × IsUtf8 call_number) c
    (passed (each (demanded_at c demand.Repo) repo)) _ (λ u there.
    creates_follows (IsUtf8 title × IsUtf8 author × IsUtf8 publisher × IsUtf8 call_number) c (kind.Source s)
    (λ w sound. given_fits c s repo sound (source_found title author publisher repo call_number s w.0 w.1 w.2 w.3 given)
    (maybe_repo c repo u there))))
row_follows c (row_command.Citation owner source page quality) =
    then_follows (IsUtf8 page) c (maybe_text_in page) _
    (λ p i. then_follows (IsUtf8 page) c (demanded_at c demand.Cited owner) _
    (λ u cited. then_follows (IsUtf8 page) c (demanded_at c demand.Source source) _ (λ v sourced.
    creates_follows (IsUtf8 page) c (kind.Citation (plain_citation owner source p quality))
    (λ w sound. new_citation_fits c owner source p quality sound (maybe_text_found page p w i)
    (demanded_stands demand.Cited (get c.records owner) u cited)
    (demanded_stands demand.Source (get c.records source) v sourced)))))
row_follows c (row_command.Entry source row) =
    then_follows (IsUtf8Entry row) c (texts_fit row) _
    (λ t i. then_follows (IsUtf8Entry row) c (demanded_at c demand.Source source) _
    (λ u sourced. then_follows (IsUtf8Entry row) c (passed (each (said_place_at c) row.place)) _ (λ v placed.
    then_follows (IsUtf8Entry row) c (entry_of source row) _
    (λ e given. then_follows (IsUtf8Entry row) c (key_is_free c.records source e.kind e.page e.item) _ (λ w free.
    creates_follows (IsUtf8Entry row) c (kind.Entry e)
    (λ utf8 sound. new_entry_fits c source row e w sound (entry_found source row e utf8 given)
    (demanded_stands demand.Source (get c.records source) u sourced) (maybe_place c row.place v placed) free))))))
row_follows c (row_command.Link entry mention person reason) =
    then_follows (IsUtf8 reason) c (reason_in reason) _
    (λ t i. then_follows (IsUtf8 reason) c (entry_at c entry) _
    (λ e found. then_follows (IsUtf8 reason) c (passed (person_at c person)) _ (λ u there.
    relinked_follows (IsUtf8 reason) c entry e mention (Some (record { person = person; reason = t }))
    (entry_is_found (get c.records entry) e found)
    (λ w sound. (one_person c person u there, reason_found reason t w i)))))
row_follows c (row_command.Unlink entry mention) =
    then_follows (Unit {0}) c (entry_at c entry) _
    (λ e found. relinked_follows (Unit {0}) c entry e mention None (entry_is_found (get c.records entry) e found)
    (λ w sound. tt))
row_follows c (row_command.Merge keep gone) = merge_follows c keep gone
row_follows c (row_command.Undo slip) = undo_follows c slip
row_follows c (row_command.Remove number) =
    then_follows (Unit {0}) c (record_at c number) _
    (λ u there. need_follows (Unit {0}) c (not (is_named c number)) StillNamed _ (λ alone.
    removes_follows (Unit {0}) c number (not-true (is_named c number) alone)))
row_follows c (row_command.Partner family partnership person) =
    changes_follow c family (partner c family partnership person) ((keeps_sound c family).0 partnership person)
    ((leaves_all_else c family).0 partnership person)
row_follows c (row_command.Unpartner family person) =
    changes_follow c family (unpartner c family person) ((keeps_sound c family).1 person)
    ((leaves_all_else c family).1 person)
row_follows c (row_command.Unchild family person) =
    changes_follow c family (unchild c family person) ((keeps_sound c family).2 person)
    ((leaves_all_else c family).2 person)
row_follows c (row_command.Unparticipant event place) =
    changes_follow c event (unparticipant c event place) ((keeps_sound c event).3 place)
    ((leaves_all_else c event).3 place)
row_follows c (row_command.Correct number given) =
    worded_follows (IsUtf8Given given) c number (correct c number given) (stays_sound c number given)
    (others_stay c number given)
