-- Each record of a sound archive is read again from its lines.
use Rattle.std.proofs.Common.{
  ◌≡◌,
  ℕ,
  ◌+◌,
  zero,
  suc,
  ◌<◌,
  ◌≤◌,
  List,
  [],
  ◌∷◌,
  ◌++◌,
  length,
  Bool,
  true,
  ◌&&◌,
  nat_lt,
  nat_le,
  refl,
  sym,
  ap,
  ◌∙◌,
  subst,
  cond,
  arith,
}
use Rattle.std.specs.Prelude.{Option, Some, None, option_map, IfSome, codes, bytes_eq, map}
use Rattle.std.specs.List.{list_any, list_all, flat_map}
use Rattle.std.proofs.lemmas.Bool.Decides.{nat_tests}
use Rattle.std.specs.FinMap.{get}
use Rattle.stored_lines.specs.Tree.{Tree, node, list_of}
use Rattle.record_kinds.specs.Model as model
use Rattle.record_kinds.specs.declared.record.Record.{Record}
use Rattle.record_kinds.specs.declared.record.Record.TheVariants as kind
use Rattle.archive_state.specs.Links.{
  Link,
  a_place,
  a_repo,
  a_source,
  a_person,
  links,
  is_wanted,
  holding_links,
  partner_links,
  child_links,
  participant_links,
  place_line_links,
  mention_links,
  carried_links,
  field_links,
}
use Rattle.record_shapes.specs.Lists.{EachOf}
use Rattle.record_shapes.specs.Members.{members}
use Rattle.record_shapes.specs.Tags.{family_tags, person_tags, is_event_tag}
use Rattle.record_shapes.specs.Roles.{is_role_of}
use Rattle.record_shapes.specs.Paths.{normal, has_part, IsWithinLimits, is_within_limits}
use Rattle.record_shapes.specs.Fields.{path_below, is_above, is_place_text}
use Rattle.record_shapes.specs.Shapes.{Around, Side}
use Rattle.record_shapes.specs.Entries.{is_entry, is_said, is_said_path, names_person}
use Rattle.record_shapes.specs.Readable.{
  IsKnown,
  IsReadable,
  IsReadablePlace,
  IsReadableSource,
  IsReadableHolding,
  IsReadableCitation,
  IsReadableParticipant,
  IsReadableEvent,
  IsCitationBelow,
  IsEventBelow,
  IsOwned,
  HasShownPlace,
}
use Rattle.archive_state.specs.Content.{Content}
use Rattle.archive_state.specs.Known.{tag_at, path_of, known_of, known_before}
use Rattle.archive_state.specs.Paths.{HasPath}
use Rattle.archive_state.specs.Owned.{IsCitationOf, IsEventOf, AreOwned, IsWithOwned, IsSideIn, IsAround}
use Rattle.archive_state.specs.Sound.{IsSound, Stands}
use Rattle.archive_state.proofs.Climbing.{goes_path}
use Rattle.archive_state.proofs.Known.{path_known}
use Rattle.archive_state.proofs.PathTexts.{normal_below, limits_are, limits_of_name}
use Rattle.record_shapes.proofs.Each.{each_front, each_back, each_both, each_more}

-- ---- what a link names has the tag of its kind
source_tag : (o : Option Record) → option_map (is_wanted a_source) o ≡ Some true
    → bytes_eq (tag_at o) (codes "SOUR") ≡ true
source_tag None e = absurd cc
source_tag (Some (kind.Source s)) e = refl
source_tag (Some _) e = absurd cc

person_tag : (o : Option Record) → option_map (is_wanted a_person) o ≡ Some true
    → bytes_eq (tag_at o) (codes "INDI") ≡ true
person_tag None e = absurd cc
person_tag (Some (kind.Person p)) e = refl
person_tag (Some _) e = absurd cc

repo_tag : (o : Option Record) → option_map (is_wanted a_repo) o ≡ Some true → bytes_eq (tag_at o) (codes "REPO") ≡ true
repo_tag None e = absurd cc
repo_tag (Some (kind.Repo r)) e = refl
repo_tag (Some _) e = absurd cc

place_there : (o : Option Record) → option_map (is_wanted a_place) o ≡ Some true → (p : model.Place)
    × (o ≡ Some (kind.Place p))
place_there None e = absurd cc
place_there (Some (kind.Place p)) e = (p, refl)
place_there (Some _) e = absurd cc

-- ---- lists
-- of each of a list, what holds of all that it gives
of_each : {X A : Type 0} (P : A → Type 0) (Q R : X → Type 0) (f : X → List A) → ((x : X) → EachOf P (f x) → Q x → R x)
    → (xs : List X) → EachOf P (flat_map f xs) → EachOf Q xs → EachOf R xs
of_each P Q R f h [] k q = tt
of_each P Q R f h (x ∷ xs) k q = (
  h x (each_front P (f x) (flat_map f xs) k) q.0,
  of_each P Q R f h xs (each_back P (f x) (flat_map f xs) k) q.1,
)

of_map : {X A : Type 0} (P : A → Type 0) (Q : ℕ → Type 0) (f : X → List A) (g : X → ℕ)
    → ((x : X) → EachOf P (f x) → Q (g x)) → (xs : List X) → EachOf P (flat_map f xs) → EachOf Q (map g xs)
of_map P Q f g h [] k = tt
of_map P Q f g h (x ∷ xs) k = (
  h x (each_front P (f x) (flat_map f xs) k),
  of_map P Q f g h xs (each_back P (f x) (flat_map f xs) k),
)

module _ (c : Content) (sound : IsSound c) where
  -- ---- places
  path_at : (steps n : ℕ) (p : model.Place) → n < steps → get c.records n ≡ Some (kind.Place p)
      → (path : List ℕ) × HasPath c.records n path × (normal path ≡ path)
  path_at zero n p less at = absurd (omega arith)
  path_at (suc steps) n p less at = by (λ q x. path_at steps q x) p.parent refl
      (sound.rules.parents n (kind.Place p) at) (sound.named n (kind.Place p) at)
    where
      by : ((q : ℕ) (x : model.Place) → q < steps → get c.records q ≡ Some (kind.Place x) → (path : List ℕ)
          × HasPath c.records q path × (normal path ≡ path)) → (o : Option ℕ) → p.parent ≡ o
          → IfSome p.parent (λ q. q < n) → EachOf (Stands c.records)
          (field_links a_place p.parent ++ carried_links p.carried) → (path : List ℕ) × HasPath c.records n path
          × (normal path ≡ path)
      by up None e low named = (
        p.name,
        goes_path c.records n p p.name None at e refl,
        sound.rules.normal n (kind.Place p) at,
      )
      by up (Some q) e low named =
          let lower : q < n = subst (λ (o : Option ℕ). IfSome o (λ k. k < n)) e low in
          let stands : EachOf (Stands c.records) (field_links a_place (Some q) ++ carried_links p.carried) = subst
          (λ (o : Option ℕ). EachOf (Stands c.records) (field_links a_place o ++ carried_links p.carried)) e
          named in
          let there = place_there (get c.records q) stands.0 in
          let above = up q there.0 (omega arith) there.1 in (
            path_below p.name above.0,
            goes_path c.records n p (path_below p.name above.0) (Some q) at e (lower, (above.0, refl, above.1)),
            normal_below p.name above.0 (sound.rules.normal n (kind.Place p) at) above.2,
          )

  -- where a place is named, its path
  path_of_place : (n : ℕ) → Stands c.records (n, a_place) → (path : List ℕ) × HasPath c.records n path
      × (normal path ≡ path)
  path_of_place n h = let there = place_there (get c.records n) h in path_at (n + 1) n there.0 (omega arith) there.1

  is_less : (a b : ℕ) → a < b → nat_lt a b ≡ true
  is_less a b h = grind (arith, nat_tests)

  known_path : (n : ℕ) (path : List ℕ) → HasPath c.records n path → (known_of c.records).path n ≡ Some path
  known_path n path h = (path_known c.records n path).0 h

  place_readable : (n : ℕ) (p : model.Place) → get c.records n ≡ Some (kind.Place p)
      → IsReadablePlace (known_before c.records n) p
  place_readable n p at = by p.parent refl (sound.rules.parents n (kind.Place p) at) (sound.named n (kind.Place p) at)
    where
      by : (o : Option ℕ) → p.parent ≡ o → IfSome p.parent (λ q. q < n) → EachOf (Stands c.records)
          (field_links a_place p.parent ++ carried_links p.carried) → IsReadablePlace (known_before c.records n) p
      by None e low named = record {
        normal_name = sound.rules.normal n (kind.Place p) at;
        short_name = limits_are p.name (sound.rules.paths n p.name (goes_path c.records n p p.name None at e refl));
        parent = λ q f. let no : None ≡ Some q = sym e ∙ f in absurd cc;
        untaken = sound.rules.untaken n (kind.Place p) at;
      }
      by (Some q) e low named =
          let lower : q < n = subst (λ (o : Option ℕ). IfSome o (λ k. k < n)) e low in
          let stands : EachOf (Stands c.records) (field_links a_place (Some q) ++ carried_links p.carried) = subst
          (λ (o : Option ℕ). EachOf (Stands c.records) (field_links a_place o ++ carried_links p.carried)) e
          named in
          let above = path_of_place q stands.0 in
          let within : IsWithinLimits (path_below p.name above.0) = sound.rules.paths n (path_below p.name above.0)
          (goes_path c.records n p (path_below p.name above.0) (Some q) at e (lower, (above.0, refl, above.1))) in
          let before : (known_before c.records n).path q ≡ Some above.0 = ap (λ b. cond b (path_of c.records q) None)
          (is_less q n lower) ∙ known_path q above.0 above.1 in
          record {
            normal_name = sound.rules.normal n (kind.Place p) at;
            short_name = limits_are p.name (limits_of_name p.name above.0 within);
            parent = λ k f. let same : q ≡ k = (let g : Some q ≡ Some k = sym e ∙ f in cc) in
                subst (λ j. is_above p.name ((known_before c.records n).path j) ≡ true) same
                (ap (is_above p.name) before ∙ limits_are (path_below p.name above.0) within);
            untaken = sound.rules.untaken n (kind.Place p) at;
          }

  -- ---- sources, citations
  source_readable : (n : ℕ) (s : model.Source) → get c.records n ≡ Some (kind.Source s)
      → IsReadableSource (known_of c.records) s
  source_readable n s at =
      let u = sound.rules.untaken n (kind.Source s) at in (
        of_each (Stands c.records) _ (IsReadableHolding (known_of c.records)) holding_links
            (λ h k own. (repo_tag (get c.records h.repo) k.0, own)) s.holdings
            (each_front (Stands c.records) (flat_map holding_links s.holdings) (carried_links s.carried)
            (sound.named n (kind.Source s) at)) u.0,
        u.1,
      )

  citation_readable : (n : ℕ) (x : model.Citation) → get c.records n ≡ Some (kind.Citation x)
      → IsReadableCitation (known_of c.records) x
  citation_readable n x at = record {
    source = source_tag (get c.records x.source) (sound.named n (kind.Citation x) at).1.0;
    untaken = sound.rules.untaken n (kind.Citation x) at;
  }

  citation_below : (owner : ℕ) (t : Tree Record) → IsCitationOf c.records owner t
      → IsCitationBelow (known_of c.records) t
  citation_below owner (node (kind.Citation x) f) (k, at, is, alone) = (alone, citation_readable k x at)
  citation_below owner (node _ f) h = absurd h

  -- ---- events
  module _ (a : Around) (around : IsAround c.records a) where
    shown : (n : ℕ) (place : Option model.EventPlace) → EachOf (Stands c.records) (place_line_links place)
        → IfSome (option_map (λ (p : model.EventPlace). p.place) place)
        (λ k. (path : List ℕ) → HasPath c.records k path → has_part path ≡ true)
        → HasShownPlace (known_of c.records) a place
    shown n None named said = tt
    shown n (Some p) named said =
        let there = path_of_place p.place named.0 in
        let same : a.path p.place ≡ there.0 = around.paths p.place there.0 there.1 in
        let normal_is : normal (a.path p.place) ≡ a.path p.place = subst (λ t. normal t ≡ t) (sym same) there.2 in (
          known_path p.place there.0 there.1 ∙ ap Some (sym same),
          normal_is,
          subst (λ t. is_place_text t ≡ true) (sym same)
              (λ i. (ap is_within_limits there.2 ∙ limits_are there.0 (sound.rules.paths p.place there.0 there.1)) i &&
              (ap has_part there.2 ∙ said there.0 there.1) i),
        )

    event_readable : (n : ℕ) (e : model.Event) (under : List (Tree Record)) → get c.records n ≡ Some (kind.Event e)
        → EachOf (IsCitationOf c.records n) under → IsReadableEvent (known_of c.records) a e under
    event_readable n e under at owned =
        let named = sound.named n (kind.Event e) at in
        let u = sound.rules.untaken n (kind.Event e) at in
        let rest : EachOf (Stands c.records) (flat_map participant_links e.participants ++ carried_links e.carried) =
        each_back (Stands c.records) (place_line_links e.place)
        (flat_map participant_links e.participants ++ carried_links e.carried) named.1 in
        record {
          owned = each_more (IsCitationOf c.records n) (IsCitationBelow (known_of c.records))
              (citation_below n) under owned;
          place = shown n e.place
              (each_front (Stands c.records) (place_line_links e.place)
              (flat_map participant_links e.participants ++ carried_links e.carried) named.1)
              (sound.rules.places n (kind.Event e) at);
          participants = of_each (Stands c.records) _ (IsReadableParticipant (known_of c.records)) participant_links
              (λ p k own. (person_tag (get c.records p.person) k.0, own)) e.participants
              (each_front (Stands c.records) (flat_map participant_links e.participants) (carried_links e.carried) rest)
              u.0;
          untaken = u.1;
        }

    event_below : (n : ℕ) (owner : Record) (tags : List (List ℕ)) → get c.records n ≡ Some owner
        → ((tag : List ℕ) → is_event_tag tag owner ≡ true → list_any (bytes_eq tag) tags ≡ true)
        → (t : Tree Record) → IsEventOf c.records n t → IsEventBelow (known_of c.records) a tags t
    event_below n owner tags there one (node (kind.Event e) f) (k, at, is, owned) = (
      one e.tag (subst (λ (o : Option Record). IfSome o (λ r. is_event_tag e.tag r ≡ true))
          (ap (get c.records) is ∙ there) (sound.rules.events k (kind.Event e) at)),
      event_readable k e (list_of f) at owned,
    )
    event_below n owner tags there one (node _ f) h = absurd h

    owned_readable : (n : ℕ) (owner : Record) (tags : List (List ℕ)) (under : List (Tree Record))
        → get c.records n ≡ Some owner
        → ((tag : List ℕ) → is_event_tag tag owner ≡ true → list_any (bytes_eq tag) tags ≡ true)
        → AreOwned c.records n under → IsOwned (known_of c.records) a tags under
    owned_readable n owner tags under there one h = record {
      events = h.events;
      citations = h.citations;
      all = h.all;
      are_events = each_more (IsEventOf c.records n) (IsEventBelow (known_of c.records) a tags)
          (event_below n owner tags there one) h.events h.are_events;
      are_citations = each_more (IsCitationOf c.records n) (IsCitationBelow (known_of c.records))
          (citation_below n) h.citations h.are_citations;
    }

    side_known : (s : Side) → IsSideIn c.records s → IsKnown (codes "FAM") (known_of c.records) s.family
    side_known s h = ap (λ o. bytes_eq (tag_at o) (codes "FAM")) h.1

    -- ---- entries
    mention_known : (known_kind : model.Mention → Bool) (x : model.Mention) → EachOf (Stands c.records)
        (mention_links x) → known_kind x ≡ true → (known_kind x && names_person (known_of c.records) x.link) ≡ true
    mention_known role x k own = λ i. own i && named x.link k i
      where
        named : (o : Option model.Link) → EachOf (Stands c.records)
            (field_links a_person (option_map (λ (l : model.Link). l.person) o))
            → names_person (known_of c.records) o ≡ true
        named None h = refl
        named (Some l) h = person_tag (get c.records l.person) h.0

    all_of_each : (P : model.Mention → Bool) (xs : List model.Mention) → EachOf (λ x. P x ≡ true) xs
        → list_all P xs ≡ true
    all_of_each P [] h = refl
    all_of_each P (x ∷ xs) h = λ i. h.0 i && all_of_each P xs h.1 i

    said_place : (place : Option ℕ) → EachOf (Stands c.records) (field_links a_place place)
        → IfSome place (λ k. (path : List ℕ) → HasPath c.records k path → has_part path ≡ true)
        → is_said (known_of c.records) place ≡ true
    said_place None h s = refl
    said_place (Some k) h s = let there = path_of_place k h.0 in ap is_said_path (known_path k there.0 there.1)
        ∙ s there.0 there.1

    counted : (k : ℕ) → 1 ≤ k → k ≤ 100 → (rest : Bool) → rest ≡ true → (nat_le 1 k && (nat_le k 100 && rest)) ≡ true
    counted k low high rest e = grind (arith, nat_tests)

    entry_readable : (n : ℕ) (e : model.Entry) → get c.records n ≡ Some (kind.Entry e)
        → (is_entry (known_of c.records) e ≡ true)
        × ((k : ℕ) → e.place ≡ Some k → (known_of c.records).path k ≡ Some (a.path k))
    entry_readable n e at =
        let named = sound.named n (kind.Entry e) at in
        let placed : EachOf (Stands c.records) (field_links a_place e.place) = each_front (Stands c.records)
        (field_links a_place e.place) (flat_map mention_links e.mentions) named.1 in
        let mentioned : EachOf (Stands c.records) (flat_map mention_links e.mentions) = each_back (Stands c.records)
        (field_links a_place e.place) (flat_map mention_links e.mentions) named.1 in
        let rules = sound.rules.mentions n (kind.Entry e) at in
        let role : model.Mention → Bool = λ x. is_role_of e.kind x.role in
        let whole : model.Mention → Bool = λ x. role x && names_person (known_of c.records) x.link in (
          (λ i. source_tag (get c.records e.source) named.0 i &&
              (said_place e.place placed (sound.rules.places n (kind.Entry e) at) i
              && counted (length e.mentions) rules.0.0 rules.0.1 (list_all whole e.mentions)
              (all_of_each whole e.mentions
              (of_each (Stands c.records) (λ x. role x ≡ true) (λ x. whole x ≡ true) mention_links
              (mention_known role) e.mentions mentioned rules.1)) i)),
          (λ k is.
              let stands : EachOf (Stands c.records) (field_links a_place (Some k)) = subst
              (λ o. EachOf (Stands c.records) (field_links a_place o)) is placed in
              let there = path_of_place k stands.0 in
              known_path k there.0 there.1 ∙ ap Some (sym (around.paths k there.0 there.1))),
        )

    -- ---- all kinds
    family_members : (x : model.Family) → EachOf (Stands c.records) (links (kind.Family x))
        → EachOf (IsKnown (codes "INDI") (known_of c.records)) (members x)
    family_members x named =
        let P : Link → Type 0 = Stands c.records in
        let Q : ℕ → Type 0 = IsKnown (codes "INDI") (known_of c.records) in
        let rest : EachOf P (flat_map child_links x.children ++ carried_links x.carried) = each_back P
        (flat_map partner_links x.partners) (flat_map child_links x.children ++ carried_links x.carried) named in
        each_both Q (map (λ (p : model.Partner). p.person) x.partners) (map (λ (p : model.Child). p.person) x.children)
        (of_map P Q partner_links (λ p. p.person) (λ p k. person_tag (get c.records p.person) k.0) x.partners
        (each_front P (flat_map partner_links x.partners)
        (flat_map child_links x.children ++ carried_links x.carried) named))
        (of_map P Q child_links (λ p. p.person) (λ p k. person_tag (get c.records p.person) k.0) x.children
        (each_front P (flat_map child_links x.children) (carried_links x.carried) rest))

    pub record_readable : (n : ℕ) (t : Tree Record) → IsWithOwned c.records n t
        → IsReadable (known_before c.records n) (known_of c.records) a n t
    record_readable n (node (kind.Place p) f) h = (place_readable n p h.0, h.1)
    record_readable n (node (kind.Repo r) f) h = (sound.rules.untaken n (kind.Repo r) h.0, h.1)
    record_readable n (node (kind.Source s) f) h = (source_readable n s h.0, h.1)
    record_readable n (node (kind.Person p) f) h = record {
      owned = owned_readable n (kind.Person p) person_tags (list_of f) h.0 (λ tag e. e) h.1;
      child_in = each_more (IsSideIn c.records) (λ s. IsKnown (codes "FAM") (known_of c.records) s.family) side_known
          (a.child_in n) (around.child_in n);
      partner_in = each_more (IsSideIn c.records) (λ s. IsKnown (codes "FAM") (known_of c.records) s.family) side_known
          (a.partner_in n) (around.partner_in n);
      untaken = sound.rules.untaken n (kind.Person p) h.0;
    }
    record_readable n (node (kind.Family x) f) h = record {
      owned = owned_readable n (kind.Family x) family_tags (list_of f) h.0 (λ tag e. e) h.1;
      persons = family_members x (sound.named n (kind.Family x) h.0);
      once = sound.rules.once n (kind.Family x) h.0;
      untaken = sound.rules.untaken n (kind.Family x) h.0;
    }
    record_readable n (node (kind.Event e) f) h = absurd h
    record_readable n (node (kind.Citation x) f) h = absurd h
    record_readable n (node (kind.Entry e) f) h = let r = entry_readable n e h.0 in (r.0, r.1, h.1)
    record_readable n (node (kind.Other o) f) h = (sound.rules.shapes n (kind.Other o) h.0, h.1)
