-- A family with a partner more, or with fewer members, is fit for a sound archive.
use Rattle.std.proofs.Common.{
  ◌≡◌,
  ℕ,
  ◌+◌,
  List,
  [],
  ◌∷◌,
  ◌++◌,
  Bool,
  true,
  false,
  not,
  ◌||◌,
  ◌==◌,
  refl,
  sym,
  ap,
  ◌∙◌,
  subst,
  map,
}
use Rattle.std.specs.Prelude.{Option, Some, None}
use Rattle.std.specs.FinMap.{get}
use Rattle.std.specs.List.{filter, flat_map, list_any}
use Rattle.std.proofs.lemmas.Grind.{flat_map-append}
use Rattle.std.proofs.lemmas.List.{append-nil, append_assoc, map_push}
use Rattle.std.proofs.lemmas.List.Folds.{list_any-append}
use Rattle.stored_lines.specs.Tree.{Tree}
use Rattle.stored_lines.specs.Line.{Line, Lines}
use Rattle.record_fields.specs.declared.words.Partnership.{Partnership}
use Rattle.record_kinds.specs.Model as model
use Rattle.record_kinds.specs.declared.record.Record.{Record}
use Rattle.record_kinds.specs.declared.record.Record.TheVariants as kind
use Rattle.archive_state.specs.Carried.{carried}
use Rattle.archive_state.specs.Content.{Content}
use Rattle.archive_state.specs.Links.{Link, a_person, carried_links, child_links, links, partner_links}
use Rattle.archive_state.specs.Sound.{IsSound, Stands, owner_in}
use Rattle.record_shapes.specs.Levels.{AreWithin, HasRoom}
use Rattle.record_shapes.specs.Lists.{EachOf, IsOnce}
use Rattle.record_shapes.specs.Members.{members}
use Rattle.record_shapes.proofs.Each.{each_back, each_both, each_front}
use Rattle.record_shapes.proofs.Limits.{none_within}
use Rattle.list_laws.proofs.Lists.{any_mapped}
use Rattle.list_laws.proofs.Numbers.{other_way}
use Rattle.std.proofs.lemmas.Bool.{or_parts}
use Rattle.memberships.specs.Members.{is_child, is_partner, other_children, other_partners, plain_partner}
use Rattle.record_changes.proofs.Fitting.{IsLeft, not_fresh, over, tags_left, texts_left}
use Rattle.record_changes.proofs.Keeping.{IsFit}
use Rattle.archive_state.specs.Known.{known_before, known_of}
use Rattle.record_shapes.specs.Untaken.{HasUntaken}
use Rattle.record_changes.proofs.Alike.{families_alike}
use Rattle.record_changes.proofs.Lists.{after_front, each_filtered, each_of_filtered}
use Rattle.member_changes.proofs.Lists.{less_after, less_before, less_filtered}

-- a family in the place of one of which all carried lines are left, or fewer
family_fits : (c : Content) (n : ℕ) (f g : model.Family) → IsSound c → get c.records n ≡ Some (kind.Family f)
    → EachOf (Stands c.records) (links (kind.Family g)) → IsOnce (members g)
    → IsLeft (kind.Family f) (kind.Family g)
    → HasUntaken (known_before c.records n) (known_of c.records) (kind.Family g)
    → HasRoom (owner_in c.records (kind.Family g)) (kind.Family g) → IsFit c n (kind.Family g)
family_fits c n f g sound at named once left untaken levels = record {
  alike = over c n (kind.Family f) (kind.Family g) at (families_alike f g);
  fresh = not_fresh c n (kind.Family f) at;
  no_place = λ q e. absurd cc;
  keys = λ q e k there. absurd cc;
  no_other = λ q e. absurd cc;
  named = named;
  parents = tt;
  normal = tt;
  once = once;
  data_tags = tags_left c n (kind.Family f) (kind.Family g) sound at left tt;
  trailers = tt;
  texts = texts_left c n (kind.Family f) (kind.Family g) sound at left tt;
  places = tt;
  events = tt;
  mentions = tt;
  untaken = untaken;
  levels = levels;
}

-- ---- a partner more
abbrev more : Partnership → ℕ → model.Family → model.Family
more as_what n f = record f { partners = f.partners ++ plain_partner as_what n ∷ [] }

-- a number that is not among those that are once
once_with : (ms ns : List ℕ) (n : ℕ) → IsOnce (ms ++ ns) → list_any (λ m. m == n) (ms ++ ns) ≡ false
    → IsOnce ((ms ++ n ∷ []) ++ ns)
once_with [] ns n h e = (e, h)
once_with (m ∷ ms) ns n h e =
    let apart = or_parts (m == n) (list_any (λ k. k == n) (ms ++ ns)) e in
    let front : list_any (λ k. k == m) ms ≡ false =
    (or_parts (list_any (λ k. k == m) ms) (list_any (λ k. k == m) ns)
    (sym (list_any-append (λ k. k == m) ms ns) ∙ h.0)).0 in
    let back : list_any (λ k. k == m) ns ≡ false =
    (or_parts (list_any (λ k. k == m) ms) (list_any (λ k. k == m) ns)
    (sym (list_any-append (λ k. k == m) ms ns) ∙ h.0)).1 in (
      list_any-append (λ k. k == m) (ms ++ n ∷ []) ns
          ∙ ap (λ b. b || list_any (λ k. k == m) ns) (list_any-append (λ k. k == m) ms (n ∷ [])
          ∙ ap (λ b. b || ((n == m) || false)) front ∙ ap (λ b. b || false) (other_way m n false apart.0))
          ∙ back,
      once_with ms ns n h.1 apart.1,
    )

no_member : (f : model.Family) (n : ℕ) → (is_partner n f || is_child n f) ≡ false
    → list_any (λ m. m == n) (members f) ≡ false
no_member f n e =
    list_any-append (λ m. m == n) (map (λ (p : model.Partner). p.person) f.partners)
    (map (λ (c : model.Child). c.person) f.children)
    ∙ ap (λ b. b || list_any (λ m. m == n) (map (λ (c : model.Child). c.person) f.children))
    (any_mapped (λ m. m == n) (λ (p : model.Partner). p.person) f.partners)
    ∙ ap (λ b. is_partner n f || b) (any_mapped (λ m. m == n) (λ (c : model.Child). c.person) f.children)
    ∙ e

once_more : (f : model.Family) (as_what : Partnership) (n : ℕ) → IsOnce (members f)
    → (is_partner n f || is_child n f) ≡ false → IsOnce (members (more as_what n f))
once_more f as_what n h e =
    let person : model.Partner → ℕ = λ p. p.person in
    let children : List ℕ = map (λ (c : model.Child). c.person) f.children in
    subst (λ l. IsOnce (l ++ children)) (sym (map_push person f.partners (plain_partner as_what n)))
    (once_with (map person f.partners) children n h (no_member f n e))

-- what each of all gives, and nothing of one more
each_push : {X A : Type 0} (P : A → Type 0) (f : X → List A) (xs : List X) (x : X) (ys : List A)
    → EachOf P (flat_map f xs ++ ys) → EachOf P (f x) → EachOf P (flat_map f (xs ++ (x ∷ [])) ++ ys)
each_push P f xs x ys h k =
    let front : EachOf P (flat_map f xs ++ (f x ++ [])) = each_both P (flat_map f xs) (f x ++ [])
    (each_front P (flat_map f xs) ys h) (each_both P (f x) [] k tt) in
    each_both P (flat_map f (xs ++ (x ∷ []))) ys (subst (EachOf P) (sym (flat_map-append f xs (x ∷ []))) front)
    (each_back P (flat_map f xs) ys h)

pub partner_fits : (c : Content) (n : ℕ) (f : model.Family) (as_what : Partnership) (person : ℕ) → IsSound c
    → get c.records n ≡ Some (kind.Family f) → Stands c.records (person, a_person)
    → (is_partner person f || is_child person f) ≡ false
    → IsFit c n (kind.Family (record f { partners = f.partners ++ plain_partner as_what person ∷ [] }))
partner_fits c n f as_what person sound at stands other =
    let new : model.Partner = plain_partner as_what person in
    let room : HasRoom None (kind.Family f) = sound.rules.levels n (kind.Family f) at in
    family_fits c n f (more as_what person f) sound at
    (each_push (Stands c.records) partner_links f.partners new
    (flat_map child_links f.children ++ carried_links f.carried) (sound.named n (kind.Family f) at) (stands, tt))
    (once_more f as_what person (sound.rules.once n (kind.Family f) at) other)
    (λ Q h. each_push Q (λ (p : model.Partner). p.carried ++ p.carried_by_person) f.partners new
    (flat_map (λ (x : model.Child). x.carried ++ x.carried_by_person) f.children ++ f.carried) h tt)
    (sound.rules.untaken n (kind.Family f) at) (
      each_both (λ (p : model.Partner). AreWithin 97 p.carried × AreWithin 97 p.carried_by_person) f.partners
          (new ∷ []) room.0 ((none_within 97, none_within 97), tt),
      room.1,
      room.2,
    )

-- ---- members less
pub other_partners_fit : (c : Content) (n : ℕ) (f : model.Family) (person : ℕ) → IsSound c
    → get c.records n ≡ Some (kind.Family f)
    → IsFit c n (kind.Family (record f { partners = other_partners person f.partners }))
other_partners_fit c n f person sound at =
    let test : model.Partner → Bool = λ p. not (p.person == person) in
    let room : HasRoom None (kind.Family f) = sound.rules.levels n (kind.Family f) at in
    family_fits c n f (record f { partners = other_partners person f.partners }) sound at
    (each_of_filtered (Stands c.records) partner_links test f.partners
    (flat_map child_links f.children ++ carried_links f.carried) (sound.named n (kind.Family f) at))
    ((less_before (λ (p : model.Partner). p.person) test f.partners
    (map (λ (x : model.Child). x.person) f.children)).once (sound.rules.once n (kind.Family f) at))
    (λ Q h. each_of_filtered Q (λ (p : model.Partner). p.carried ++ p.carried_by_person) test f.partners
    (flat_map (λ (x : model.Child). x.carried ++ x.carried_by_person) f.children ++ f.carried) h)
    (sound.rules.untaken n (kind.Family f) at) (
      each_filtered (λ (p : model.Partner). AreWithin 97 p.carried × AreWithin 97 p.carried_by_person) test
          f.partners room.0,
      room.1,
      room.2,
    )

pub other_children_fit : (c : Content) (n : ℕ) (f : model.Family) (person : ℕ) → IsSound c
    → get c.records n ≡ Some (kind.Family f)
    → IsFit c n (kind.Family (record f { children = other_children person f.children }))
other_children_fit c n f person sound at =
    let test : model.Child → Bool = λ x. not (x.person == person) in
    let kept : List model.Child = other_children person f.children in
    let both : model.Child → Lines = λ x. x.carried ++ x.carried_by_person in
    let room : HasRoom None (kind.Family f) = sound.rules.levels n (kind.Family f) at in
    family_fits c n f (record f { children = kept }) sound at
    (after_front (Stands c.records) (flat_map partner_links f.partners)
    (flat_map child_links f.children ++ carried_links f.carried) (flat_map child_links kept ++ carried_links f.carried)
    (each_of_filtered (Stands c.records) child_links test f.children (carried_links f.carried))
    (sound.named n (kind.Family f) at))
    ((less_after (map (λ (p : model.Partner). p.person) f.partners) (map (λ (x : model.Child). x.person) kept)
    (map (λ (x : model.Child). x.person) f.children)
    (less_filtered (λ (x : model.Child). x.person) test f.children)).once (sound.rules.once n (kind.Family f) at))
    (λ Q h. after_front Q (flat_map (λ (p : model.Partner). p.carried ++ p.carried_by_person) f.partners)
    (flat_map both f.children ++ f.carried) (flat_map both kept ++ f.carried)
    (each_of_filtered Q both test f.children f.carried) h)
    (sound.rules.untaken n (kind.Family f) at) (
      room.0,
      each_filtered (λ (x : model.Child). AreWithin 97 x.carried × AreWithin 97 x.carried_by_person) test
          f.children room.1,
      room.2,
    )
