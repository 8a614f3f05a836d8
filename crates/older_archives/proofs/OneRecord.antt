-- A record with another date keeps each rule that one record keeps by itself, and is what it was to all others.
use Rattle.std.proofs.Common.{◌≡◌, ℕ, List, [], ◌∷◌, ◌++◌, refl, ap, ◌∙◌}
use Rattle.std.specs.Prelude.{Bool, Option, Some, None, map, option_map}
use Rattle.std.specs.List.{flat_map, list_all}
use Rattle.record_fields.specs.declared.date.Date.{Date}
use Rattle.record_kinds.specs.Model as model
use Rattle.record_kinds.specs.declared.record.Record.{Record}
use Rattle.record_kinds.specs.declared.record.Record.TheVariants as kind
use Rattle.archive_state.specs.Links.{
  Wanted,
  a_cited,
  a_holder,
  a_person,
  a_place,
  a_repo,
  a_source,
  at_level_0,
  is_wanted,
  links,
}
use Rattle.record_shapes.specs.Fields as part
use Rattle.record_shapes.specs.Fields.{event_field}
use Rattle.record_shapes.specs.declared.field.Field.{Field}
use Rattle.record_shapes.specs.Forms.{Known, is_some}
use Rattle.record_shapes.specs.Levels.{room_below}
use Rattle.record_shapes.specs.Lists.{EachOf}
use Rattle.record_shapes.specs.Tags.{is_event_tag}
use Rattle.record_shapes.specs.Untaken.{HasUntaken, event_leaves}
use Rattle.record_text.specs.Text.{IsText}
use Rattle.archive_state.specs.Known.{path_with, tag_at}
use Rattle.archive_state.specs.Merging.{clashes, merged_record}
use Rattle.archive_state.specs.Sound.{IsEmptyPerson, IsPerson}
use Rattle.archive_state.specs.Texts.{carried_texts, date_texts, mention_texts, own_texts}
use Rattle.older_archives.specs.Anew.{redated}
use Rattle.record_shapes.proofs.Each.{each_back, each_both, each_front}

module _ (f : Date → Date) where
  -- ---- what holds of any date holds of another
  pub by_kind : (P : Record → Type 0)
      → ((e : model.Event) → P (kind.Event e) → P (redated f (kind.Event e)))
      → ((e : model.Entry) → P (kind.Entry e) → P (redated f (kind.Entry e))) → (r : Record) → P r → P (redated f r)
  by_kind P events entries (kind.Place p) h = h
  by_kind P events entries (kind.Repo p) h = h
  by_kind P events entries (kind.Source p) h = h
  by_kind P events entries (kind.Person p) h = h
  by_kind P events entries (kind.Family p) h = h
  by_kind P events entries (kind.Citation p) h = h
  by_kind P events entries (kind.Event p) h = events p h
  by_kind P events entries (kind.Entry p) h = entries p h
  by_kind P events entries (kind.Other p) h = h

  -- ---- what is the same of it
  pub same_links : (r : Record) → links (redated f r) ≡ links r
  same_links (kind.Place p) = refl
  same_links (kind.Repo p) = refl
  same_links (kind.Source p) = refl
  same_links (kind.Person p) = refl
  same_links (kind.Family p) = refl
  same_links (kind.Citation p) = refl
  same_links (kind.Event p) = refl
  same_links (kind.Entry p) = refl
  same_links (kind.Other p) = refl

  pub same_wanted : (w : Wanted) (r : Record) → is_wanted w (redated f r) ≡ is_wanted w r
  same_wanted w (kind.Place p) = refl
  same_wanted w (kind.Repo p) = refl
  same_wanted w (kind.Source p) = refl
  same_wanted w (kind.Person p) = refl
  same_wanted w (kind.Family p) = refl
  same_wanted w (kind.Citation p) = refl
  same_wanted a_place (kind.Event p) = refl
  same_wanted a_repo (kind.Event p) = refl
  same_wanted a_source (kind.Event p) = refl
  same_wanted a_person (kind.Event p) = refl
  same_wanted a_holder (kind.Event p) = refl
  same_wanted a_cited (kind.Event p) = refl
  same_wanted at_level_0 (kind.Event p) = refl
  same_wanted a_place (kind.Entry p) = refl
  same_wanted a_repo (kind.Entry p) = refl
  same_wanted a_source (kind.Entry p) = refl
  same_wanted a_person (kind.Entry p) = refl
  same_wanted a_holder (kind.Entry p) = refl
  same_wanted a_cited (kind.Entry p) = refl
  same_wanted at_level_0 (kind.Entry p) = refl
  same_wanted w (kind.Other p) = refl

  pub same_event_tag : (tag : List ℕ) (r : Record) → is_event_tag tag (redated f r) ≡ is_event_tag tag r
  same_event_tag tag (kind.Place p) = refl
  same_event_tag tag (kind.Repo p) = refl
  same_event_tag tag (kind.Source p) = refl
  same_event_tag tag (kind.Person p) = refl
  same_event_tag tag (kind.Family p) = refl
  same_event_tag tag (kind.Citation p) = refl
  same_event_tag tag (kind.Event p) = refl
  same_event_tag tag (kind.Entry p) = refl
  same_event_tag tag (kind.Other p) = refl

  pub same_tag : (o : Option Record) → tag_at (option_map (redated f) o) ≡ tag_at o
  same_tag None = refl
  same_tag (Some (kind.Place p)) = refl
  same_tag (Some (kind.Repo p)) = refl
  same_tag (Some (kind.Source p)) = refl
  same_tag (Some (kind.Person p)) = refl
  same_tag (Some (kind.Family p)) = refl
  same_tag (Some (kind.Citation p)) = refl
  same_tag (Some (kind.Event p)) = refl
  same_tag (Some (kind.Entry p)) = refl
  same_tag (Some (kind.Other p)) = refl

  pub same_path : (n : ℕ) (above : ℕ → Option (List ℕ)) (o : Option Record)
      → path_with n above (option_map (redated f) o) ≡ path_with n above o
  same_path n above None = refl
  same_path n above (Some (kind.Place p)) = refl
  same_path n above (Some (kind.Repo p)) = refl
  same_path n above (Some (kind.Source p)) = refl
  same_path n above (Some (kind.Person p)) = refl
  same_path n above (Some (kind.Family p)) = refl
  same_path n above (Some (kind.Citation p)) = refl
  same_path n above (Some (kind.Event p)) = refl
  same_path n above (Some (kind.Entry p)) = refl
  same_path n above (Some (kind.Other p)) = refl

  pub same_room : (o : Option Record) → room_below (option_map (redated f) o) ≡ room_below o
  same_room None = refl
  same_room (Some (kind.Place p)) = refl
  same_room (Some (kind.Repo p)) = refl
  same_room (Some (kind.Source p)) = refl
  same_room (Some (kind.Person p)) = refl
  same_room (Some (kind.Family p)) = refl
  same_room (Some (kind.Citation p)) = refl
  same_room (Some (kind.Event p)) = refl
  same_room (Some (kind.Entry p)) = refl
  same_room (Some (kind.Other p)) = refl

  pub same_clash : (keep gone : ℕ) (r : Record) → clashes keep gone (redated f r) ≡ clashes keep gone r
  same_clash keep gone (kind.Place p) = refl
  same_clash keep gone (kind.Repo p) = refl
  same_clash keep gone (kind.Source p) = refl
  same_clash keep gone (kind.Person p) = refl
  same_clash keep gone (kind.Family p) = refl
  same_clash keep gone (kind.Citation p) = refl
  same_clash keep gone (kind.Event p) = refl
  same_clash keep gone (kind.Entry p) = refl
  same_clash keep gone (kind.Other p) = refl

  pub merges_alike : (keep gone : ℕ) (r : Record)
      → merged_record keep gone (redated f r) ≡ redated f (merged_record keep gone r)
  merges_alike keep gone (kind.Place p) = refl
  merges_alike keep gone (kind.Repo p) = refl
  merges_alike keep gone (kind.Source p) = refl
  merges_alike keep gone (kind.Person p) = refl
  merges_alike keep gone (kind.Family p) = refl
  merges_alike keep gone (kind.Citation p) = refl
  merges_alike keep gone (kind.Event p) = refl
  merges_alike keep gone (kind.Entry p) = refl
  merges_alike keep gone (kind.Other p) = refl

  -- ---- persons
  pub person_still : (r : Record) → IsPerson r → IsPerson (redated f r)
  person_still = by_kind IsPerson (λ e h. h) (λ e h. h)

  pub person_was : (r : Record) → IsPerson (redated f r) → IsPerson r
  person_was (kind.Place p) h = h
  person_was (kind.Repo p) h = h
  person_was (kind.Source p) h = h
  person_was (kind.Person p) h = h
  person_was (kind.Family p) h = h
  person_was (kind.Citation p) h = h
  person_was (kind.Event p) h = h
  person_was (kind.Entry p) h = h
  person_was (kind.Other p) h = h

  pub empty_still : (r : Record) → IsEmptyPerson r → IsEmptyPerson (redated f r)
  empty_still = by_kind IsEmptyPerson (λ e h. h) (λ e h. h)

  -- ---- texts
  text_of : ((d : Date) → IsText d.text → IsText (f d).text) → (o : Option Date) → EachOf IsText (date_texts o)
      → EachOf IsText (date_texts (option_map f o))
  text_of are None h = tt
  text_of are (Some d) h = (are d h.0, tt)

  mid_still : ((d : Date) → IsText d.text → IsText (f d).text) → (front : List (List ℕ)) (o : Option Date)
      (back rest : List (List ℕ))
      → EachOf IsText ((front ++ (date_texts o ++ back)) ++ rest)
      → EachOf IsText ((front ++ (date_texts (option_map f o) ++ back)) ++ rest)
  mid_still are front o back rest h =
      let own = each_front IsText (front ++ (date_texts o ++ back)) rest h in
      let mid = each_back IsText front (date_texts o ++ back) own in
      each_both IsText (front ++ (date_texts (option_map f o) ++ back)) rest
      (each_both IsText front (date_texts (option_map f o) ++ back)
      (each_front IsText front (date_texts o ++ back) own)
      (each_both IsText (date_texts (option_map f o)) back (text_of are o (each_front IsText (date_texts o) back mid))
      (each_back IsText (date_texts o) back mid)))
      (each_back IsText (front ++ (date_texts o ++ back)) rest h)

  pub texts_still : ((d : Date) → IsText d.text → IsText (f d).text) → (r : Record)
      → EachOf IsText (own_texts r ++ carried_texts r)
      → EachOf IsText (own_texts (redated f r) ++ carried_texts (redated f r))
  texts_still are = by_kind (λ r. EachOf IsText (own_texts r ++ carried_texts r))
      (λ e h. mid_still are (e.value ∷ []) e.date (map (λ (p : model.Participant). p.role) e.participants)
      (carried_texts (kind.Event e)) h)
      (λ e h. mid_still are (e.page ∷ e.text ∷ []) e.date (flat_map mention_texts e.mentions)
      (carried_texts (kind.Entry e)) h)

  -- ---- carried lines that no field would take
  date_there : (o : Option Date) → is_some (option_map f o) ≡ is_some o
  date_there None = refl
  date_there (Some d) = refl

  leaves_still : (e : model.Event) (x : Field)
      → event_leaves (record e { date = option_map f e.date }) x ≡ event_leaves e x
  leaves_still e part.carried = refl
  leaves_still e part.a_name = refl
  leaves_still e part.a_parent = refl
  leaves_still e part.a_sex = refl
  leaves_still e part.an_event = refl
  leaves_still e part.a_side = refl
  leaves_still e part.a_citation = refl
  leaves_still e part.a_title = refl
  leaves_still e part.an_author = refl
  leaves_still e part.a_publisher = refl
  leaves_still e part.a_holding = refl
  leaves_still e part.a_call_number = refl
  leaves_still e part.a_member = refl
  leaves_still e part.a_page = refl
  leaves_still e part.a_quality = refl
  leaves_still e part.a_date = date_there e.date
  leaves_still e part.a_place = refl
  leaves_still e part.a_participant = refl
  leaves_still e part.a_role = refl

  pub untaken_still : (earlier known : Known) (r : Record) → HasUntaken earlier known r
      → HasUntaken earlier known (redated f r)
  untaken_still earlier known = by_kind (HasUntaken earlier known)
      (λ e h. (
        h.0,
        ap (λ (leaves : Field → Bool). list_all (λ t. leaves (event_field known t)) e.carried)
            (λ i x. leaves_still e x i) ∙ h.1,
      ))
      (λ e h. h)
