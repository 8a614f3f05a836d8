-- Archives that differ only in what is hidden show the same.
use Rattle.std.proofs.Common.{◌≡◌, ℕ, List, [], ◌∷◌, Bool, true, false, refl, sym, ap, ◌∙◌, subst, inl, inr}
use Rattle.std.specs.Prelude.{Option, Some, None, IfSome, map, ℤ, ◌||◌}
use Rattle.std.specs.List.{list_any}
use Rattle.std.specs.FinMap.{get}
use Rattle.record_kinds.specs.Model as model
use Rattle.record_kinds.specs.declared.record.Record.{Record}
use Rattle.record_kinds.specs.declared.record.Record.TheVariants as kind
use Rattle.archive_state.specs.Links.{a_cited, is_wanted}
use Rattle.archive_state.specs.Content.{Content}
use Rattle.archive_state.specs.Sound.{IsSound}
use Rattle.archive_state.proofs.Keeping.{stands_as}
use Rattle.masking.specs.Masking.{
  Judged,
  Looks,
  IsMasked,
  shown_at,
  shown_of,
  shown_partner,
  is_gone,
  is_silent,
  is_cited_silent,
  unless,
}
use Rattle.masking.specs.Hidden.{IsHiddenAt, AreAlike}
use Rattle.masking.proofs.Once.{same_at, same_records}

-- ---- whether a record is silent follows from what is shown of it
partners_same : (living : ℕ → Bool) (ps : List model.Partner)
    → list_any (λ (p : model.Partner). living p.person) (map shown_partner ps)
    ≡ list_any (λ (p : model.Partner). living p.person) ps
partners_same living [] = refl
partners_same living (p ∷ ps) = ap (λ b. living p.person || b) (partners_same living ps)

silent_left : (j : Judged) (n : ℕ) (r : Record) → is_silent j.living n (Some (shown_of j n r))
    ≡ is_silent j.living n (Some r)
silent_left j n (kind.Place p) = refl
silent_left j n (kind.Repo r) = refl
silent_left j n (kind.Source s) = refl
silent_left j n (kind.Person p) = refl
silent_left j n (kind.Family x) = partners_same j.living x.partners
silent_left j n (kind.Citation c) = refl
silent_left j n (kind.Event e) = refl
silent_left j n (kind.Entry e) = refl
silent_left j n (kind.Other o) = refl

cited_left : (j : Judged) (look : Looks) (n : ℕ) (r : Record)
    → is_cited_silent j.living look n (Some (shown_of j n r)) ≡ is_cited_silent j.living look n (Some r)
cited_left j look n (kind.Place p) = refl
cited_left j look n (kind.Repo r) = refl
cited_left j look n (kind.Source s) = refl
cited_left j look n (kind.Person p) = refl
cited_left j look n (kind.Family x) = partners_same j.living x.partners
cited_left j look n (kind.Citation c) = refl
cited_left j look n (kind.Event e) = refl
cited_left j look n (kind.Entry e) = refl
cited_left j look n (kind.Other o) = refl

gone_left : (j : Judged) (look : Looks) (n : ℕ) (r : Record) → is_gone j look n (shown_of j n r) ≡ is_gone j look n r
gone_left j look n (kind.Place p) = refl
gone_left j look n (kind.Repo r) = refl
gone_left j look n (kind.Source s) = refl
gone_left j look n (kind.Person p) = refl
gone_left j look n (kind.Family x) = refl
gone_left j look n (kind.Citation c) = refl
gone_left j look n (kind.Event e) = refl
gone_left j look n (kind.Entry e) = refl
gone_left j look n (kind.Other o) = refl

-- ---- what is hidden is not silent, but where it is an event
hidden_silent : (j : Judged) (look : Looks) (n : ℕ) (r : Record) → is_gone j look n r ≡ true
    → is_silent j.living n (Some r) ≡ false
hidden_silent j look n (kind.Place p) h = absurd cc
hidden_silent j look n (kind.Repo r) h = absurd cc
hidden_silent j look n (kind.Source s) h = absurd cc
hidden_silent j look n (kind.Person p) h = absurd cc
hidden_silent j look n (kind.Family x) h = absurd cc
hidden_silent j look n (kind.Citation c) h = refl
hidden_silent j look n (kind.Event e) h = refl
hidden_silent j look n (kind.Entry e) h = refl
hidden_silent j look n (kind.Other o) h = refl

hidden_at : (j : Judged) (look : Looks) (n : ℕ) (o : Option Record) → IfSome o (λ r. is_gone j look n r ≡ true)
    → is_silent j.living n o ≡ false
hidden_at j look n None h = refl
hidden_at j look n (Some r) h = hidden_silent j look n r h

-- of what is hidden, citations are only of events, which are silent
hidden_cited : (j : Judged) (look : Looks) (n : ℕ) (r : Record) → is_wanted a_cited r ≡ true
    → is_gone j look n r ≡ true → is_cited_silent j.living look n (Some r) ≡ true
hidden_cited j look n (kind.Place p) w h = absurd cc
hidden_cited j look n (kind.Repo r) w h = absurd cc
hidden_cited j look n (kind.Source s) w h = absurd cc
hidden_cited j look n (kind.Person p) w h = absurd cc
hidden_cited j look n (kind.Family x) w h = absurd cc
hidden_cited j look n (kind.Citation c) w h = absurd cc
hidden_cited j look n (kind.Event e) w h = h
hidden_cited j look n (kind.Entry e) w h = absurd cc
hidden_cited j look n (kind.Other o) w h = absurd cc

-- what is hidden is not shown
not_shown : (j : Judged) (look : Looks) (n : ℕ) (o : Option Record) → IfSome o (λ r. is_gone j look n r ≡ true)
    → shown_at j look n o ≡ None
not_shown j look n None h = refl
not_shown j look n (Some r) h = ap (λ b. unless b (shown_of j n r)) h

-- what is shown as a citation is one, of the same owner
citation_back : (j : Judged) (n : ℕ) (z : model.Citation) (r : Record) → kind.Citation z ≡ shown_of j n r
    → (x : model.Citation) × (r ≡ kind.Citation x) × (x.owner ≡ z.owner)
citation_back j n z (kind.Citation x) e =
    let same : record x { carried = [] } ≡ z = cc in
    (x, refl, ap (λ (y : model.Citation). y.owner) same)
citation_back j n z (kind.Place p) e = absurd cc
citation_back j n z (kind.Repo p) e = absurd cc
citation_back j n z (kind.Source p) e = absurd cc
citation_back j n z (kind.Person p) e = absurd cc
citation_back j n z (kind.Family p) e = absurd cc
citation_back j n z (kind.Event p) e = absurd cc
citation_back j n z (kind.Entry p) e = absurd cc
citation_back j n z (kind.Other p) e = absurd cc

-- ---- two archives
module _ (a b : Content) (today : ℤ) (sound_a : IsSound a) (sound_b : IsSound b) (h : AreAlike a b today) where
  abbrev j : Judged
  j = h.judged

  abbrev left : Looks
  left = get a.records

  abbrev right : Looks
  right = get b.records

  silent_same : (n : ℕ) → is_silent j.living n (left n) ≡ is_silent j.living n (right n)
  silent_same n = elim (h.alike n) as (λ _. is_silent j.living n (left n) ≡ is_silent j.living n (right n)) [
    | inl both ↦ hidden_at j left n (left n) both.0 ∙ sym (hidden_at j right n (right n) both.1)
    | inr (r, s, at, bt, e) ↦ ap (is_silent j.living n) at ∙ sym (silent_left j n r)
        ∙ ap (λ x. is_silent j.living n (Some x)) e ∙ silent_left j n s ∙ sym (ap (is_silent j.living n) bt)
  ]

  -- the same record is cited as silent in both
  cited_looks : (n : ℕ) (r : Record) → is_cited_silent j.living left n (Some r)
      ≡ is_cited_silent j.living right n (Some r)
  cited_looks n (kind.Place p) = refl
  cited_looks n (kind.Repo r) = refl
  cited_looks n (kind.Source s) = refl
  cited_looks n (kind.Person p) = refl
  cited_looks n (kind.Family x) = refl
  cited_looks n (kind.Citation c) = refl
  cited_looks n (kind.Event e) = silent_same e.owner
  cited_looks n (kind.Entry e) = refl
  cited_looks n (kind.Other o) = refl

  -- what a citation is of is hidden
  owner_hidden : (c : Content) (n k : ℕ) (x : model.Citation) → IsSound c → get c.records k ≡ Some (kind.Citation x)
      → x.owner ≡ n → IsHiddenAt j (get c.records) n → is_cited_silent j.living (get c.records) n (get c.records n)
      ≡ true
  owner_hidden c n k x sound at is hidden =
      let stands = stands_as a_cited (get c.records x.owner) (sound.named k (kind.Citation x) at).0 in
      let found : get c.records n ≡ Some stands.0 = ap (get c.records) (sym is) ∙ stands.1 in
      let gone : is_gone j (get c.records) n stands.0 ≡ true = subst
      (λ (o : Option Record). IfSome o (λ r. is_gone j (get c.records) n r ≡ true)) found hidden in
      ap (is_cited_silent j.living (get c.records) n) found
      ∙ hidden_cited j (get c.records) n stands.0 stands.2 gone

  cited_same : (n k i : ℕ) (x y : model.Citation) → get a.records k ≡ Some (kind.Citation x)
      → get b.records i ≡ Some (kind.Citation y) → x.owner ≡ n → y.owner ≡ n
      → is_cited_silent j.living left n (left n) ≡ is_cited_silent j.living right n (right n)
  cited_same n k i x y at bt isx isy =
      elim (h.alike n) as (λ _. is_cited_silent j.living left n (left n)
      ≡ is_cited_silent j.living right n (right n)) [
        | inl both ↦ owner_hidden a n k x sound_a at isx both.0 ∙ sym (owner_hidden b n i y sound_b bt isy both.1)
        | inr (r, s, ar, bs, e) ↦ ap (is_cited_silent j.living left n) ar ∙ sym (cited_left j left n r)
            ∙ ap (λ z. is_cited_silent j.living left n (Some z)) e ∙ cited_looks n (shown_of j n s)
            ∙ cited_left j right n s ∙ sym (ap (is_cited_silent j.living right n) bs)
      ]

  -- a record that is shown alike is gone from both or from none
  gone_looks : (n : ℕ) (r s : Record) → left n ≡ Some r → right n ≡ Some s → shown_of j n r ≡ shown_of j n s
      → (z : Record) → z ≡ shown_of j n s → is_gone j left n z ≡ is_gone j right n z
  gone_looks n r s at bt e (kind.Place p) is = refl
  gone_looks n r s at bt e (kind.Repo p) is = refl
  gone_looks n r s at bt e (kind.Source p) is = refl
  gone_looks n r s at bt e (kind.Person p) is = refl
  gone_looks n r s at bt e (kind.Family p) is = refl
  gone_looks n r s at bt e (kind.Citation z) is =
      let x = citation_back j n z r (is ∙ sym e) in
      let y = citation_back j n z s is in
      cited_same z.owner n n x.0 y.0 (at ∙ ap Some x.1) (bt ∙ ap Some y.1) x.2 y.2
  gone_looks n r s at bt e (kind.Event z) is = silent_same z.owner
  gone_looks n r s at bt e (kind.Entry p) is = refl
  gone_looks n r s at bt e (kind.Other p) is = refl

  alike_at : (n : ℕ) → shown_at j left n (left n) ≡ shown_at j right n (right n)
  alike_at n = elim (h.alike n) as (λ _. shown_at j left n (left n) ≡ shown_at j right n (right n)) [
    | inl both ↦ not_shown j left n (left n) both.0 ∙ sym (not_shown j right n (right n) both.1)
    | inr (r, s, at, bt, e) ↦
        let gone : is_gone j left n r ≡ is_gone j right n s = sym (gone_left j left n r)
        ∙ ap (is_gone j left n) e ∙ gone_looks n r s at bt e (shown_of j n s) refl ∙ gone_left j right n s in
        ap (shown_at j left n) at ∙ ap (λ x. unless (is_gone j left n r) x) e
        ∙ ap (λ x. unless x (shown_of j n s)) gone ∙ sym (ap (shown_at j right n) bt)
  ]

  pub alike_shown : (s t : Content) → IsMasked a today s → IsMasked b today t → s.records ≡ t.records
  alike_shown s t k l = same_records s t
      (λ n. k.records n
      ∙ same_at a.records today k.judged j left n (left n) k.judges h.first refl
      ∙ alike_at n
      ∙ sym (same_at b.records today l.judged j right n (right n) l.judges h.second refl)
      ∙ sym (l.records n))
