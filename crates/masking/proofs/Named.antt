-- What is shown names what is shown.
use Rattle.std.proofs.Common.{◌≡◌, ℕ, List, [], ◌∷◌, ◌++◌, Bool, true, false, refl, sym, ap, ◌∙◌}
use Rattle.std.specs.Prelude.{Option, Some, None, map, option_map, not, ℤ}
use Rattle.std.specs.List.{flat_map, filter}
use Rattle.std.specs.FinMap.{get}
use Rattle.record_kinds.specs.Model as model
use Rattle.record_kinds.specs.declared.record.Record.{Record}
use Rattle.record_kinds.specs.declared.record.Record.TheVariants as kind
use Rattle.archive_state.specs.Links.{
  Wanted,
  a_place,
  a_repo,
  a_source,
  a_person,
  a_holder,
  a_cited,
  links,
  field_links,
  carried_links,
  holding_links,
  name_links,
  partner_links,
  child_links,
  place_line_links,
  participant_links,
  mention_links,
  is_wanted,
}
use Rattle.record_shapes.specs.Lists.{EachOf}
use Rattle.archive_state.specs.Content.{Content, Records}
use Rattle.archive_state.specs.Sound.{Stands}
use Rattle.archive_state.proofs.Keeping.{stands_as}
use Rattle.masking.specs.Masking.{
  Judged,
  Looks,
  IsMasked,
  shown_of,
  shown_name,
  shown_holding,
  shown_partner,
  shown_child,
  shown_participant,
  shown_event_place,
  shown_person,
  is_gone,
  is_cited_silent,
  unless,
}
use Rattle.masking.proofs.Lists.{each_part, each_filtered}
use Rattle.masking.proofs.Showing.{shown_where}
use Rattle.record_shapes.proofs.Each.{each_front, each_back, each_both}

-- ---- what is wanted is not gone, and is shown as what is wanted
abbrev IsKept : Judged → Looks → Wanted → ℕ → Record → Type 0
IsKept j look w n t = (is_gone j look n t ≡ false) × (is_wanted w (shown_of j n t) ≡ true)

kept_place : (j : Judged) (look : Looks) (n : ℕ) (t : Record) → is_wanted a_place t ≡ true → IsKept j look a_place n t
kept_place j look n (kind.Place p) e = (refl, refl)
kept_place j look n _ e = absurd cc

kept_repo : (j : Judged) (look : Looks) (n : ℕ) (t : Record) → is_wanted a_repo t ≡ true → IsKept j look a_repo n t
kept_repo j look n (kind.Repo p) e = (refl, refl)
kept_repo j look n _ e = absurd cc

kept_source : (j : Judged) (look : Looks) (n : ℕ) (t : Record) → is_wanted a_source t ≡ true
    → IsKept j look a_source n t
kept_source j look n (kind.Source p) e = (refl, refl)
kept_source j look n _ e = absurd cc

kept_person : (j : Judged) (look : Looks) (n : ℕ) (t : Record) → is_wanted a_person t ≡ true
    → IsKept j look a_person n t
kept_person j look n (kind.Person p) e = (refl, refl)
kept_person j look n _ e = absurd cc

pub kept_holder : (j : Judged) (look : Looks) (n : ℕ) (t : Record) → is_wanted a_holder t ≡ true
    → IsKept j look a_holder n t
kept_holder j look n (kind.Person p) e = (refl, refl)
kept_holder j look n (kind.Family p) e = (refl, refl)
kept_holder j look n _ e = absurd cc

-- what is cited is gone only with its citations
kept_cited : (j : Judged) (look : Looks) (n : ℕ) (t : Record) → is_wanted a_cited t ≡ true
    → is_cited_silent j.living look n (Some t) ≡ false → IsKept j look a_cited n t
kept_cited j look n (kind.Person p) e h = (refl, refl)
kept_cited j look n (kind.Family p) e h = (refl, refl)
kept_cited j look n (kind.Event p) e h = (h, refl)
kept_cited j look n _ e h = absurd cc

module _ (c : Content) (today : ℤ) (d : Content) (h : IsMasked c today d) where
  abbrev m : Records
  m = c.records

  abbrev j : Judged
  j = h.judged

  abbrev look : Looks
  look = get c.records

  -- a link stands where what it names is kept
  stands_on : (w : Wanted) (n : ℕ) (t : Record) → look n ≡ Some t → IsKept j look w n t → Stands d.records (n, w)
  stands_on w n t at kept =
      ap (option_map (is_wanted w)) (shown_where c today d n t h at ∙ ap (λ b. unless b (shown_of j n t)) kept.0)
      ∙ ap Some kept.1

  still : (w : Wanted) → ((n : ℕ) (t : Record) → is_wanted w t ≡ true → IsKept j look w n t) → (n : ℕ)
      → Stands m (n, w) → Stands d.records (n, w)
  still w kept n s = let t = stands_as w (look n) s in stands_on w n t.0 t.1 (kept n t.0 t.2)

  place : (n : ℕ) → Stands m (n, a_place) → Stands d.records (n, a_place)
  place n s = still a_place (kept_place j look) n s

  person : (n : ℕ) → Stands m (n, a_person) → Stands d.records (n, a_person)
  person n s = still a_person (kept_person j look) n s

  source : (n : ℕ) → Stands m (n, a_source) → Stands d.records (n, a_source)
  source n s = still a_source (kept_source j look) n s

  pub owner_shown : (n : ℕ) → Stands m (n, a_holder) → (t : Record) × (look n ≡ Some t)
      × (get d.records n ≡ Some (shown_of j n t))
  owner_shown n s =
      let t = stands_as a_holder (look n) s in
      let kept = kept_holder j look n t.0 t.2 in (
        t.0,
        t.1,
        shown_where c today d n t.0 h t.1
            ∙ ap (λ b. unless b (shown_of j n t.0)) kept.0,
      )

  cited : (n : ℕ) → is_cited_silent j.living look n (look n) ≡ false → Stands m (n, a_cited)
      → Stands d.records (n, a_cited)
  cited n silent s =
      let t = stands_as a_cited (look n) s in
      stands_on a_cited n t.0 t.1
      (kept_cited j look n t.0 t.2 (ap (is_cited_silent j.living look n) (sym t.1) ∙ silent))

  maybe_place : (o : Option ℕ) → EachOf (Stands m) (field_links a_place o)
      → EachOf (Stands d.records) (field_links a_place o)
  maybe_place None s = tt
  maybe_place (Some n) s = (place n s.0, tt)

  event_place : (o : Option model.EventPlace) → EachOf (Stands m) (place_line_links o)
      → EachOf (Stands d.records) (place_line_links (option_map shown_event_place o))
  event_place None s = tt
  event_place (Some p) s = (place p.place s.0, tt)

  maybe_person : (o : Option ℕ) → EachOf (Stands m) (field_links a_person o)
      → EachOf (Stands d.records) (field_links a_person o)
  maybe_person None s = tt
  maybe_person (Some n) s = (person n s.0, tt)

  mentioned : (xs : List model.Mention) → EachOf (Stands m) (flat_map mention_links xs)
      → EachOf (Stands d.records) (flat_map mention_links xs)
  mentioned [] s = tt
  mentioned (x ∷ xs) s =
      each_both (Stands d.records) (mention_links x) (flat_map mention_links xs)
      (maybe_person (option_map (λ (l : model.Link). l.person) x.link)
      (each_front (Stands m) (mention_links x) (flat_map mention_links xs) s))
      (mentioned xs (each_back (Stands m) (mention_links x) (flat_map mention_links xs) s))

  named_person : (b : Bool) (p : model.Person)
      → EachOf (Stands d.records) (links (kind.Person (shown_person b p)))
  named_person true p = tt
  named_person false p =
      each_both (Stands d.records) (flat_map name_links (map shown_name p.names)) (carried_links []) (names p.names) tt
    where
      names : (xs : List model.Name) → EachOf (Stands d.records) (flat_map name_links (map shown_name xs))
      names [] = tt
      names (x ∷ xs) = names xs

  -- each link of what is shown of a record stands
  pub links_shown : (n : ℕ) (r : Record) → is_gone j look n r ≡ false → EachOf (Stands m) (links r)
      → EachOf (Stands d.records) (links (shown_of j n r))
  links_shown n (kind.Place p) gone s =
      each_both (Stands d.records) (field_links a_place p.parent) (carried_links [])
      (maybe_place p.parent (each_front (Stands m) (field_links a_place p.parent) (carried_links p.carried) s)) tt
  links_shown n (kind.Repo r) gone s = tt
  links_shown n (kind.Source x) gone s =
      each_both (Stands d.records) (flat_map holding_links (map shown_holding x.holdings)) (carried_links [])
      (each_part (Stands m) (Stands d.records) holding_links shown_holding
      (λ y e. (still a_repo (kept_repo j look) y.repo e.0, tt)) x.holdings
      (each_front (Stands m) (flat_map holding_links x.holdings) (carried_links x.carried) s)) tt
  links_shown n (kind.Person p) gone s = named_person (j.living n) p
  links_shown n (kind.Family x) gone s =
      let back = each_back (Stands m) (flat_map partner_links x.partners)
      (flat_map child_links x.children ++ carried_links x.carried) s in
      each_both (Stands d.records) (flat_map partner_links (map shown_partner x.partners))
      (flat_map child_links (map shown_child x.children) ++ carried_links [])
      (each_part (Stands m) (Stands d.records) partner_links shown_partner (λ y e. (person y.person e.0, tt)) x.partners
      (each_front (Stands m) (flat_map partner_links x.partners)
      (flat_map child_links x.children ++ carried_links x.carried) s))
      (each_both (Stands d.records) (flat_map child_links (map shown_child x.children)) (carried_links [])
      (each_part (Stands m) (Stands d.records) child_links shown_child (λ y e. (person y.person e.0, tt)) x.children
      (each_front (Stands m) (flat_map child_links x.children) (carried_links x.carried) back)) tt)
  links_shown n (kind.Citation x) gone s = (cited x.owner gone s.0, (source x.source s.1.0, tt))
  links_shown n (kind.Event e) gone s =
      let keep : model.Participant → Bool = λ p. not (j.living p.person) in
      let kept : List model.Participant = filter keep e.participants in
      let rest = each_back (Stands m) (place_line_links e.place)
      (flat_map participant_links e.participants ++ carried_links e.carried) s.1 in (
        still a_holder (kept_holder j look) e.owner s.0,
        each_both (Stands d.records) (place_line_links (option_map shown_event_place e.place))
            (flat_map participant_links (map shown_participant kept) ++ carried_links [])
            (event_place e.place
            (each_front (Stands m) (place_line_links e.place)
            (flat_map participant_links e.participants ++ carried_links e.carried) s.1))
            (each_both (Stands d.records) (flat_map participant_links (map shown_participant kept)) (carried_links [])
            (each_part (Stands m) (Stands d.records) participant_links shown_participant
            (λ y x. (person y.person x.0, tt)) kept
            (each_filtered (Stands m) participant_links keep e.participants
            (each_front (Stands m) (flat_map participant_links e.participants) (carried_links e.carried) rest))) tt),
      )
  links_shown n (kind.Entry e) gone s = (
    source e.source s.0,
    each_both (Stands d.records) (field_links a_place e.place) (flat_map mention_links e.mentions)
        (maybe_place e.place
        (each_front (Stands m) (field_links a_place e.place) (flat_map mention_links e.mentions) s.1))
        (mentioned e.mentions
        (each_back (Stands m) (field_links a_place e.place) (flat_map mention_links e.mentions) s.1)),
  )
  links_shown n (kind.Other o) gone s = absurd cc
