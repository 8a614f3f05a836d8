-- What events and citations that are read name.
use Rattle.std.proofs.Common.{◌≡◌, ℕ, Bool, true, false, not, cond, List, [], ◌∷◌, ◌++◌, refl, ap, inl, inr}
use Rattle.std.specs.Prelude.{Option, Some, None, IfSome, option_map, ◌&&◌, bytes_eq, codes}
use Rattle.std.specs.List.{filter, flat_map}
use Rattle.std.proofs.lemmas.Bool.{and_parts}
use Rattle.stored_lines.specs.Line.{Line, Lines}
use Rattle.stored_lines.specs.Tree.{Tree, node, forest_of}
use Rattle.record_kinds.specs.Model as model
use Rattle.record_kinds.specs.declared.record.Record.{Record}
use Rattle.record_kinds.specs.declared.record.Record.TheVariants as kind
use Rattle.record_fields.specs.Bytes.{bytes_are}
use Rattle.archive_state.specs.Links.{Link, a_cited, a_holder, carried_links, participant_links}
use Rattle.record_shapes.specs.declared.field.Field.{Field}
use Rattle.record_shapes.specs.Fields.{
  a_citation,
  a_date,
  a_page,
  a_participant,
  a_place,
  a_quality,
  a_role,
  carried,
  citation_field,
  event_field,
  is_citation,
  is_place_text,
  is_same,
  participant_field,
  row,
}
use Rattle.record_shapes.specs.Forms.{
  Known,
  below,
  is_bare,
  is_childless,
  is_text,
  names_a,
  number_of,
  tagged,
  text_of,
  value_of,
}
use Rattle.record_shapes.specs.Lists.{EachOf}
use Rattle.record_shapes.specs.Paths.{has_part, is_within_limits, normal}
use Rattle.record_shapes.specs.Picking.{all_of, first}
use Rattle.record_shapes.specs.Reading.{
  Draft,
  below_event,
  citation_draft,
  citation_from,
  event_draft,
  event_from,
  event_place_from,
  event_place_with,
  has_path,
  is_loc,
  participant_from,
  place_named,
  read,
  sought,
  sought_drafts,
  sought_on,
  unless_named,
}
use Rattle.imports.specs.Read.{IsLine}
use Rattle.imports.proofs.Clean.{text_clean}
use Rattle.imports.proofs.Fine.{each_left, text_is}
use Rattle.imports.proofs.Left.{row_is, row_next, row_not}
use Rattle.imports.proofs.Links.{
  AllNamed,
  EachNamed,
  IsPath,
  IsSought,
  Low,
  Names,
  OwnerIs,
  PlaceIs,
  below_low,
  field_lines,
  lines_named,
  made_of_each,
  named_a,
  named_both,
}
use Rattle.imports.proofs.SoundLists.{each_filter, each_without, filter_holds, if_first}
use Rattle.imports.proofs.Normal.{normal_clean}
use Rattle.record_shapes.proofs.Each.{each_both, each_zip, each_flat}
use Rattle.record_shapes.proofs.Names.{normal_twice}

-- a line of a citation names a source
pub citation_met : (known : Known) (t : Tree Line) → is_citation known t ≡ true
    → bytes_eq (known.tag (number_of t)) (codes "SOUR") ≡ true
citation_met known t e = named_a (codes "SOUR") known (value_of t)
    (and_parts (tagged (codes "SOUR") t) (names_a (codes "SOUR") known (value_of t)) e).1

module _ (known : Known) (count : ℕ) where
  abbrev N : Link → Type 0
  N l = Names known count l

  pub citation_named : (o : Option Record) (t : Tree Line) → OwnerIs a_cited o → Low known count t
      → is_citation known t ≡ true → EachNamed known count o (citation_draft t)
  citation_named o t owner low e = (
    (
      owner,
      citation_met known t e,
      lines_named known count (citation_from t).carried (each_left (Low known count) citation_field
          (a_page ∷ a_quality ∷ []) (below t) (below_low known count t low)),
    ),
    tt,
    tt,
  )

  -- ---- fields of an event
  abbrev is_part : Tree Line → Bool
  is_part t = tagged (codes "_PART") t && names_a (codes "INDI") known (value_of t)

  abbrev is_plac : Tree Line → Bool
  is_plac t = tagged (codes "PLAC") t && (is_text t && is_place_text (text_of t))

  abbrev is_date : Tree Line → Bool
  is_date t = tagged (codes "DATE") t && is_bare t

  place_met : (t : Tree Line) → is_same (event_field known t) a_place ≡ true → is_place_text (text_of t) ≡ true
  place_met t e =
      let last : Field = row (is_citation known t) a_citation carried in
      let rest : Field = row (is_part t) a_participant last in
      let met : is_plac t ≡ true = row_is (is_plac t) a_place rest a_place
      (row_next (is_date t) a_date (row (is_plac t) a_place rest) a_place e refl)
      (row_not (is_part t) a_participant last a_place refl
      (row_not (is_citation known t) a_citation carried a_place refl refl)) in
      (and_parts (is_text t) (is_place_text (text_of t))
      (and_parts (tagged (codes "PLAC") t) (is_text t && is_place_text (text_of t)) met).1).1

  participant_met : (t : Tree Line) → is_same (event_field known t) a_participant ≡ true
      → bytes_eq (known.tag (number_of t)) (codes "INDI") ≡ true
  participant_met t e =
      let last : Field = row (is_citation known t) a_citation carried in
      let rest : Field = row (is_part t) a_participant last in
      let met : is_part t ≡ true = row_is (is_part t) a_participant last a_participant
      (row_next (is_plac t) a_place rest a_participant
      (row_next (is_date t) a_date (row (is_plac t) a_place rest) a_participant e refl) refl)
      (row_not (is_citation known t) a_citation carried a_participant refl refl) in
      named_a (codes "INDI") known (value_of t)
      (and_parts (tagged (codes "_PART") t) (names_a (codes "INDI") known (value_of t)) met).1

  event_citation_met : (t : Tree Line) → is_same (event_field known t) a_citation ≡ true → is_citation known t ≡ true
  event_citation_met t e =
      let last : Field = row (is_citation known t) a_citation carried in
      let rest : Field = row (is_part t) a_participant last in
      row_is (is_citation known t) a_citation carried a_citation
      (row_next (is_part t) a_participant last a_citation
      (row_next (is_plac t) a_place rest a_citation
      (row_next (is_date t) a_date (row (is_plac t) a_place rest) a_citation e refl) refl) refl) refl

  participant_named : (t : Tree Line) → Low known count t × (is_same (event_field known t) a_participant ≡ true)
      → EachOf N (participant_links (participant_from t))
  participant_named t h = (
    participant_met t h.1,
    lines_named known count (participant_from t).carried (each_left (Low known count) participant_field (a_role ∷ [])
        (below t) (below_low known count t h.0)),
  )

  -- ---- the place of an event
  path_is : (t : Tree Line) → IsLine 97 t → is_place_text (text_of t) ≡ true → IsPath (normal (text_of t))
  path_is t h e =
      let p = and_parts (is_within_limits (normal (text_of t))) (has_part (normal (text_of t))) e in
      record {
        normal_is = normal_twice (text_of t);
        within = p.0;
        said = p.1;
        clean = normal_clean (text_of t) (text_clean (text_of t) (text_is 97 t h));
      }

  path_has : (path : List ℕ) (o : Option (List ℕ)) → has_path path o ≡ true → o ≡ Some path
  path_has path None e = absurd cc
  path_has path (Some p) e = ap Some (bytes_are p path e)

  loc_met : (t loc : Tree Line) → is_loc known (normal (text_of t)) loc ≡ true → is_place_text (text_of t) ≡ true
      → PlaceIs known None (number_of loc)
  loc_met t loc e said =
      let path : List ℕ = normal (text_of t) in
      let a = and_parts (tagged (codes "_LOC") loc)
      (is_childless loc && (not (is_text loc) && has_path path (known.path (number_of loc)))) e in
      let b = and_parts (is_childless loc) (not (is_text loc) && has_path path (known.path (number_of loc))) a.1 in
      let c = and_parts (not (is_text loc)) (has_path path (known.path (number_of loc))) b.1 in
      (path, path_has path (known.path (number_of loc)) c.1, (and_parts (is_within_limits path) (has_part path) said).1)

  abbrev IsPlaced : Option (List ℕ) → model.EventPlace → Type 0
  IsPlaced path p = PlaceIs known path p.place × EachOf N (carried_links p.carried)

  with_named : (t : Tree Line) (o : Option (Tree Line)) → IsLine 97 t → EachOf (Low known count) (below t)
      → is_place_text (text_of t) ≡ true → IfSome o (λ loc. is_loc known (normal (text_of t)) loc ≡ true)
      → IsPlaced (unless_named (normal (text_of t)) o) (event_place_with known t o)
  with_named t None line low said h = (path_is t line said, lines_named known count (below t) low)
  with_named t (Some loc) line low said h = (
    loc_met t loc h said,
    lines_named known count _ (each_without (Low known count) (is_loc known (normal (text_of t))) (below t) low),
  )

  place_named_is : (o : Option (Tree Line))
      → IfSome o (λ t. IsLine 97 t × Low known count t × (is_same (event_field known t) a_place ≡ true))
      → IfSome (option_map (event_place_from known) o) (IsPlaced (sought_on known o))
  place_named_is None h = tt
  place_named_is (Some t) h = with_named t (place_named known t) h.0 (below_low known count t h.1) (place_met t h.2)
      (if_first (λ loc. is_loc known (normal (text_of t)) loc
      ≡ true) (filter (is_loc known (normal (text_of t))) (below t))
      (filter_holds (is_loc known (normal (text_of t))) (below t)))

  -- ---- what is below an event
  not_place : (x : Field) → is_same x a_citation ≡ true → is_same x a_place ≡ false
  not_place a_citation e = refl
  not_place _ e = absurd cc

  sought_both : (q : List ℕ) (xs ys : List (Tree Draft)) → IsSought q (forest_of ys)
      → IsSought q (forest_of (xs ++ ys))
  sought_both q [] ys h = h
  sought_both q (node (sought p) g ∷ xs) ys h = inr (sought_both q xs ys h)
  sought_both q (node (read r path) g ∷ xs) ys h = sought_both q xs ys h

  sought_first : (o : Option (List ℕ)) (ys : List (Tree Draft))
      → IfSome o (λ q. IsSought q (forest_of (sought_drafts o ++ ys)))
  sought_first None ys = tt
  sought_first (Some q) ys = inl refl

  if_mapped : (o : Option (List ℕ)) (P Q : List ℕ → Type 0) → ((q : List ℕ) → P q → Q q) → IfSome o P → IfSome o Q
  if_mapped None P Q f h = tt
  if_mapped (Some q) P Q f h = f q h

  -- the path by which the place is sought is sought below the event
  pub seeks : (ts : Lines) → IfSome (sought_on known (first (all_of (event_field known) a_place ts)))
      (λ q. IsSought q (forest_of (below_event known false ts)))
  seeks [] = tt
  seeks (t ∷ ts) =
      let field : Tree Line → Field = event_field known in
      let rest = all_of field a_place ts in
      let drafts : List (Tree Draft) = sought_drafts (sought_on known (Some t)) ++ below_event known true ts in
      elim (is_same (field t) a_citation) as (λ b. is_same (field t) a_citation ≡ b
      → IfSome (sought_on known (first (cond (is_same (field t) a_place) (t ∷ rest) rest)))
      (λ q. IsSought q (forest_of (cond b (citation_draft t ∷ below_event known false ts)
      (cond (is_same (field t) a_place) drafts (below_event known false ts)))))) [
        | true ↦ λ e. elim (is_same (field t) a_place) as (λ v. v ≡ false
            → IfSome (sought_on known (first (cond v (t ∷ rest) rest)))
            (λ q. IsSought q (forest_of (below_event known false ts)))) [
              | true ↦ λ f. absurd cc
              | false ↦ λ f. seeks ts
            ] (not_place (field t) e)
        | false ↦ λ e. elim (is_same (field t) a_place) as (λ v.
            IfSome (sought_on known (first (cond v (t ∷ rest) rest)))
            (λ q. IsSought q (forest_of (cond v drafts (below_event known false ts))))) [
              | true ↦ sought_first (sought_on known (Some t)) (below_event known true ts)
              | false ↦ seeks ts
            ]
      ] refl

  abbrev IsFit : Tree Line → Type 0
  IsFit t = IsLine 97 t × Low known count t

  -- a path that is sought is one
  sought_named : (o : Option Record) (t : Tree Line) → IsFit t → is_same (event_field known t) a_place ≡ true
      → AllNamed known count o (forest_of (sought_drafts (sought_on known (Some t))))
  sought_named o t h e = by (place_named known t)
    where
      by : (found : Option (Tree Line))
          → AllNamed known count o (forest_of (sought_drafts (unless_named (normal (text_of t)) found)))
      by None = (path_is t h.0 (place_met t e), tt)
      by (Some loc) = tt

  below_named : (o : Option Record) → OwnerIs a_cited o → (done : Bool) (ts : Lines) → EachOf IsFit ts
      → AllNamed known count o (forest_of (below_event known done ts))
  below_named o owner done [] h = tt
  below_named o owner done (t ∷ ts) h =
      let field : Tree Line → Field = event_field known in
      elim (is_same (field t) a_citation) as (λ b. is_same (field t) a_citation ≡ b → AllNamed known count o (forest_of
      (cond b (citation_draft t ∷ below_event known done ts)
      (cond (not done && is_same (field t) a_place)
      (sought_drafts (sought_on known (Some t)) ++ below_event known true ts) (below_event known done ts))))) [
        | true ↦ λ e. (citation_named o t owner h.0.1 (event_citation_met t e), below_named o owner done ts h.1)
        | false ↦ λ e. elim (not done && is_same (field t) a_place) as (λ b.
            (not done && is_same (field t) a_place) ≡ b → AllNamed known count o (forest_of
            (cond b (sought_drafts (sought_on known (Some t)) ++ below_event known true ts)
            (below_event known done ts)))) [
              | true ↦ λ f. named_both known count o (sought_drafts (sought_on known (Some t)))
                  (below_event known true ts) (sought_named o t h.0 (and_parts (not done) (is_same
                  (field t) a_place) f).1)
                  (below_named o owner true ts h.1)
              | false ↦ λ f. below_named o owner done ts h.1
            ] refl
      ] refl

  pub event_named : (o : Option Record) (t : Tree Line) → OwnerIs a_holder o → Low known count t
      → EachOf IsFit (below t) → EachNamed known count o (event_draft known t)
  event_named o t owner low fit =
      let field : Tree Line → Field = event_field known in
      let e : model.Event = event_from known t in
      let ts : Lines = below t in
      let lows : EachOf (Low known count) ts = below_low known count t low in
      let Q : Tree Line → Type 0 = λ u. IsLine 97 u × Low known count u × (is_same (field u) a_place ≡ true) in
      let places : IfSome (first (all_of field a_place ts)) Q = if_first Q (all_of field a_place ts)
      (each_zip IsFit (λ u. is_same (field u) a_place ≡ true) Q (λ u a b. (a.0, a.1, b)) (all_of field a_place ts)
      (each_filter IsFit (λ u. is_same (field u) a_place) ts fit) (filter_holds (λ u. is_same
      (field u) a_place) ts)) in (
        (
          owner,
          place_named_is (first (all_of field a_place ts)) places,
          each_both N (flat_map participant_links e.participants) (carried_links e.carried)
              (each_flat N participant_links e.participants
              (made_of_each known count (λ u. Low known count u × (is_same (field u) a_participant ≡ true))
              (λ p. EachOf N (participant_links p)) participant_from participant_named (all_of field a_participant ts)
              (field_lines known count field a_participant ts lows)))
              (lines_named known count e.carried
              (each_left (Low known count) field (a_date ∷ a_place ∷ []) ts lows)),
        ),
        seeks ts,
        below_named (Some (kind.Event e)) refl false ts fit,
      )
