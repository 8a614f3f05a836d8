-- A sound archive with a record more, or another of the same kind, is sound: one change of those that `archive_state`
-- has in its proofs/Keeping.
use Rattle.std.proofs.Common.{◌≡◌, ◌⊎◌, ℕ, ◌<◌, ◌≤◌, List, ◌++◌, false, refl, sym, ap, ◌∙◌, inl, inr, subst, arith}
use Rattle.std.specs.Prelude.{Option, Some, None}
use Rattle.std.specs.FinMap.{get, insert}
use Rattle.record_kinds.specs.Model as model
use Rattle.record_kinds.specs.declared.record.Record.{Record}
use Rattle.record_kinds.specs.declared.record.Record.TheVariants as kind
use Rattle.archive_state.specs.Links.{Link, a_place, links, is_wanted}
use Rattle.archive_state.specs.Carried.{carried_tags}
use Rattle.record_text.specs.Text.{IsText}
use Rattle.record_shapes.specs.Lists.{EachOf}
use Rattle.record_shapes.specs.Levels.{HasRoom}
use Rattle.record_shapes.specs.Untaken.{HasUntaken}
use Rattle.archive_state.specs.Content.{Content, Records}
use Rattle.archive_state.specs.Entries.{IsEntryAt}
use Rattle.archive_state.specs.Known.{path_with, path_of, known_of, known_before}
use Rattle.archive_state.specs.Texts.{own_texts, carried_texts}
use Rattle.archive_state.specs.Sound.{
  IsNumber,
  HasSmallerParent,
  HasNormalName,
  HasMembersOnce,
  HasSaidPlace,
  HasEventTag,
  HasSoundMentions,
  IsNoTrailer,
  own_tags,
  IsOfRecords,
  HasOwnShape,
  owner_in,
  Stands,
  IsPerson,
  IsSound,
}
use Rattle.archive_state.proofs.Keeping.{
  IsAlike,
  alike_itself,
  StaysAlike,
  Stays,
  KeepsRules,
  nothing_at_zero,
  rules_still,
  keeps_sound,
  slip_later,
  if_there,
  no_slip_from,
  person_alike,
  stayed_at,
  stays_below,
}
use Rattle.archive_state.proofs.Changing.{cases_of}
use Rattle.archive_state.specs.Slips.{Slip}
use Rattle.archive_state.proofs.Known.{path_known, path_same}
use Rattle.archive_state.proofs.Putting.{put_cases, put_elsewhere}
use Rattle.record_shapes.proofs.Each.{each_all}

-- ---- a record that may be put at a number
pub record IsFit (c : Content) (n : ℕ) (r : Record) : Type 0 where
  -- it is of the kind of what is there; where nothing is, the number is one from the next one on
  pub alike : (old : Record) → get c.records n ≡ Some old → IsAlike old r
  pub fresh : get c.records n ≡ None → c.next ≤ n
  -- it is no place and of no other kind, and where it is an entry, no other one has its key
  pub no_place : (p : model.Place) → r ≡ kind.Place p → ⊥
  pub keys : (e : model.Entry) → r ≡ kind.Entry e → (k : ℕ) → IsEntryAt c.records e.source e.kind e.page
      e.item k → k ≡ n
  pub no_other : (o : model.Other) → r ≡ kind.Other o → ⊥
  -- it keeps the rules
  pub named : EachOf (Stands c.records) (links r)
  pub parents : HasSmallerParent n r
  pub normal : HasNormalName r
  pub once : HasMembersOnce r
  pub data_tags : EachOf IsOfRecords (own_tags r ++ carried_tags r)
  pub trailers : IsNoTrailer r
  pub texts : EachOf IsText (own_texts r ++ carried_texts r)
  pub places : HasSaidPlace c.records r
  pub events : HasEventTag c.records r
  pub mentions : HasSoundMentions r
  pub untaken : HasUntaken (known_before c.records n) (known_of c.records) r
  pub levels : HasRoom (owner_in c.records r) r

own_shape : (m : Records) (r : Record) → ((o : model.Other) → r ≡ kind.Other o → ⊥) → HasOwnShape m r
own_shape m (kind.Other o) none = absurd (none o refl)
own_shape m (kind.Event p) none = tt
own_shape m (kind.Place p) none = tt
own_shape m (kind.Repo p) none = tt
own_shape m (kind.Source p) none = tt
own_shape m (kind.Person p) none = tt
own_shape m (kind.Family p) none = tt
own_shape m (kind.Citation p) none = tt
own_shape m (kind.Entry p) none = tt

-- ---- what stays
module _ (m : Records) (n : ℕ) (r : Record) (alike : (old : Record) → get m n ≡ Some old → IsAlike old r)
    (none : (p : model.Place) → r ≡ kind.Place p → ⊥) where
  no_place_put : (x : Record) → is_wanted a_place x ≡ false → (k : ℕ) (above : ℕ → Option (List ℕ))
      → path_with k above (Some x) ≡ None
  no_place_put (kind.Place p) e k above = absurd cc
  no_place_put (kind.Repo p) e k above = refl
  no_place_put (kind.Source p) e k above = refl
  no_place_put (kind.Person p) e k above = refl
  no_place_put (kind.Family p) e k above = refl
  no_place_put (kind.Citation p) e k above = refl
  no_place_put (kind.Event p) e k above = refl
  no_place_put (kind.Entry p) e k above = refl
  no_place_put (kind.Other p) e k above = refl

  is_no_place : (x : Record) → ((p : model.Place) → x ≡ kind.Place p → ⊥) → is_wanted a_place x ≡ false
  is_no_place (kind.Place p) h = absurd (h p refl)
  is_no_place (kind.Repo p) h = refl
  is_no_place (kind.Source p) h = refl
  is_no_place (kind.Person p) h = refl
  is_no_place (kind.Family p) h = refl
  is_no_place (kind.Citation p) h = refl
  is_no_place (kind.Event p) h = refl
  is_no_place (kind.Entry p) h = refl
  is_no_place (kind.Other p) h = refl

  no_path_before : (k : ℕ) (above : ℕ → Option (List ℕ)) → (o : Option Record) → get m n ≡ o
      → path_with k above o ≡ None
  no_path_before k above None at = refl
  no_path_before k above (Some old) at = no_place_put old ((alike old at).wanted a_place ∙ is_no_place r none) k above

  path_at : (k : ℕ) (above : ℕ → Option (List ℕ)) → path_with k above (get (insert m n r) k)
      ≡ path_with k above (get m k)
  path_at k above = elim (put_cases m n r k (get (insert m n r) k) refl) as (λ _. path_with k above
      (get (insert m n r) k) ≡ path_with k above (get m k)) [
        | inl p ↦
            ap (path_with k above) (sym p.1) ∙ no_place_put r (is_no_place r none) k above
            ∙ sym (no_path_before k above (get m k) (ap (get m) (sym p.0)))
        | inr p ↦ ap (path_with k above) (sym p.1)
      ]

  paths_known : path_of m ≡ path_of (insert m n r)
  paths_known = λ i k. sym (path_same m (insert m n r) path_at k) i

  -- of each number the kind stays, and the path
  stays_alike : (k : ℕ) → StaysAlike m (insert m n r) k
  stays_alike k = record {
    alike = λ old at. elim (put_cases m n r k (get (insert m n r) k) refl) as (λ _. (x : Record)
        × (get (insert m n r) k ≡ Some x) × IsAlike old x) [
          | inl p ↦ (r, sym p.1, alike old (ap (get m) (sym p.0) ∙ at))
          | inr p ↦ (old, sym p.1 ∙ at, alike_itself old)
        ];
    path = λ i. paths_known i k;
  }

-- ---- entries
-- no two entries have one key, with one more that has another
keys_put : (m : Records) (n : ℕ) (r : Record)
    → ((e : model.Entry) → r ≡ kind.Entry e → (k : ℕ) → IsEntryAt m e.source e.kind e.page e.item k → k ≡ n)
    → ((k j : ℕ) (e : model.Entry) → get m k ≡ Some (kind.Entry e) → IsEntryAt m e.source e.kind e.page
    e.item j → k ≡ j)
    → (k j : ℕ) (e : model.Entry) → get (insert m n r) k ≡ Some (kind.Entry e)
    → IsEntryAt (insert m n r) e.source e.kind e.page e.item j → k ≡ j
keys_put m n r own old k j e h there =
    elim (put_cases m n r k (Some (kind.Entry e)) h) as (λ _. k ≡ j) [
      | inl p ↦
          elim (put_cases m n r j (Some (kind.Entry there.0)) there.1) as (λ _. k ≡ j) [
            | inl q ↦ p.0 ∙ sym q.0
            | inr q ↦ let same : r ≡ kind.Entry e = let f = p.1 in cc in
                p.0 ∙ sym (own e same j (there.0, q.1, there.2))
          ]
      | inr p ↦
          elim (put_cases m n r j (Some (kind.Entry there.0)) there.1) as (λ _. k ≡ j) [
            | inl q ↦
                let same : r ≡ kind.Entry there.0 = let f = q.1 in cc in
                own there.0 same k (e, p.1, (sym there.2.0, sym there.2.1, sym there.2.2, sym there.2.3)) ∙ sym q.0
            | inr q ↦ old k j e p.1 (there.0, q.1, there.2)
          ]
    ]

-- ---- all rules
rules_of : (c : Content) (n next : ℕ) (r : Record) → IsFit c n r → IsNumber next n → KeepsRules next c.records n r
rules_of c n next r fit number = record {
  number = number;
  named = fit.named;
  parents = fit.parents;
  normal = fit.normal;
  once = fit.once;
  tags = fit.data_tags;
  trailers = fit.trailers;
  texts = fit.texts;
  places = fit.places;
  events = fit.events;
  mentions = fit.mentions;
  untaken = fit.untaken;
  shapes = own_shape c.records r fit.no_other;
  levels = fit.levels;
}

-- no slip stands there
no_slip_there : (c : Content) (n : ℕ) (r : Record) → IsSound c → IsFit c n r → get c.slips n ≡ None
no_slip_there c n r sound fit = elim (cases_of c.records n) as (λ _. get c.slips n ≡ None) [
  | inl was ↦ sound.distinct n was.0 was.1
  | inr none ↦ no_slip_from c n sound (fit.fresh none)
]

-- where a slip says that a person stays there, the record is one
stayed_there : (c : Content) (n : ℕ) (r : Record) → IsSound c → IsFit c n r → (k : ℕ) (s : Slip)
    → get c.slips k ≡ Some s → s.keep ≡ n → IsPerson r
stayed_there c n r sound fit k s e same = elim (cases_of c.records n) as (λ _. IsPerson r) [
  | inl was ↦ person_alike was.0 r (fit.alike was.0 was.1) (stayed_at c k n s was.0 sound e same was.1)
  | inr none ↦ absurd (stays_below c k s sound e (subst (λ x. c.next ≤ x) (sym same) (fit.fresh none)))
]

pub put_keeps : (c : Content) (n next : ℕ) (r : Record) → IsSound c → IsFit c n r → c.next ≤ next → next ≤ 4294967296
    → IsNumber next n → IsSound (record c { records = insert c.records n r; next = next })
put_keeps c n next r sound fit later bounded number =
    let m : Records = c.records in
    let after : Records = insert m n r in
    let alike : (k : ℕ) → StaysAlike m after k = stays_alike m n r fit.alike fit.no_place in
    let zero : get m 0 ≡ None = nothing_at_zero c sound in
    let zero_after : get after 0 ≡ None = put_elsewhere m n r 0
    (λ same. let less : 0 < 0 = subst (λ x. 0 < x) (sym same) number.0 in absurd (omega arith)) ∙ zero in
    let new : KeepsRules next after n r =
    rules_still m after zero zero_after next next n r (omega arith)
    (each_all (λ (l : Link). StaysAlike m after l.0) (λ l. alike l.0) (links r)) (rules_of c n next r fit number) in
    keeps_sound c (record c { records = after; next = next }) sound (record {
      later = later;
      bounded = bounded;
      records = λ k x e. elim (put_cases m n r k (Some x) e) as (λ _. Stays m after k x ⊎ KeepsRules next after k x) [
        | inl h ↦ let same : r ≡ x = let f = h.1 in cc in
            inr (subst (λ q. KeepsRules next after q x) (sym h.0) (subst (KeepsRules next after n) same new))
        | inr h ↦ inl (record {
          there = h.1;
          named = each_all (λ (l : Link). StaysAlike m after l.0)
              (λ l. alike l.0) (links x);
        })
      ];
      distinct = λ k x e. elim (put_cases m n r k (Some x) e) as (λ _. get c.slips k ≡ None) [
        | inl h ↦ ap (get c.slips) h.0 ∙ no_slip_there c n r sound fit
        | inr h ↦ sound.distinct k x h.1
      ];
      paths = λ k path h. sound.rules.paths k path
          ((path_known m k path).1 ((alike k).path ∙ (path_known after k path).0 h));
      keys = keys_put m n r fit.keys sound.rules.keys;
      slips = λ k s e. slip_later c.next next later k s (sound.slips k s e);
      stayed = λ k s e. if_there (get after s.keep) IsPerson
          (λ x at. elim (put_cases m n r s.keep (Some x) at) as (λ _. IsPerson x) [
            | inl h ↦ let same : r ≡ x = let f = h.1 in cc in
                subst IsPerson same (stayed_there c n r sound fit k s e h.0)
            | inr h ↦ stayed_at c k s.keep s x sound e refl h.1
          ]);
      free = sound.free;
    })
