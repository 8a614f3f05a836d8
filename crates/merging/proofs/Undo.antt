-- A sound archive stays sound when a merge is undone.
use Rattle.std.proofs.Common.{◌≡◌, ◌⊎◌, ℕ, ◌<◌, refl, sym, ap, ◌∙◌, inl, inr, subst, arith}
use Rattle.std.specs.Prelude.{Some, None}
use Rattle.std.specs.FinMap.{get, insert}
use Rattle.record_kinds.specs.declared.record.Record.{Record}
use Rattle.record_kinds.specs.declared.record.Record.TheVariants as kind
use Rattle.archive_state.specs.Applied.{as_undone}
use Rattle.archive_state.specs.Content.{Content, Records}
use Rattle.archive_state.specs.Known.{tag_at, path_of, known_of}
use Rattle.archive_state.specs.Merging.{merged, renamed}
use Rattle.archive_state.specs.Slips.{Slip}
use Rattle.archive_state.specs.Sound.{IsPerson, IsSoundSlip, IsSound, old_records}
use Rattle.archive_state.proofs.Changing.{cases_of}
use Rattle.archive_state.proofs.Keeping.{keeps_sound, if_there, nothing_at_zero, person_alike, stayed_at}
use Rattle.archive_state.proofs.Knowing.{AgreeAt}
use Rattle.archive_state.proofs.Putting.{put_cases, put_elsewhere}
use Rattle.merging.specs.Merges.{over, undone_records, with_undo}
use Rattle.merging.proofs.MergeComparing.{IsNow}
use Rattle.merging.proofs.Keys.{keys_still}
use Rattle.merging.proofs.Merged.{renamed_other}
use Rattle.merging.proofs.PutBack.{undone_over, new_now, undone_slip}
use Rattle.merging.proofs.Undoing.{
  gone_or_there,
  gone_there,
  like,
  paths_same,
  person_then,
  undo_keeps,
  undo_path,
  was_entry,
}
use Rattle.archive_state.proofs.Untaken.{through}

module _ (c : Content) (n : ℕ) (s : Slip) (sound : IsSound c) (at : get c.slips n ≡ Some s)
    (now : IsNow c.records s.changes) where
  abbrev m : Records
  m = c.records

  abbrev after : Records
  after = undone_records s m

  slip : IsSoundSlip c.next n s
  slip = sound.slips n s at

  put : (k : ℕ) → get after k ≡ over (get (old_records s) k) (get m k)
  put = undone_over s slip.ascending m now

  new : (k : ℕ) (old : Record) → get (old_records s) k ≡ Some old → get m k ≡ merged s.keep s.gone
      (get (old_records s)) k
  new = new_now c.next n s slip m now

  -- nothing stands at 0, and it stays itself
  no_old : get (old_records s) 0 ≡ None
  no_old = elim (cases_of (old_records s) 0) as (λ _. get (old_records s) 0 ≡ None) [
    | inl old ↦ let less : 0 < 0 = (slip.rules.numbered 0 old.0 old.1).0 in absurd (omega arith)
    | inr none ↦ none
  ]

  zero_stays : renamed s.keep s.gone 0 ≡ 0
  zero_stays = renamed_other s.keep s.gone 0 (λ same. let more : 0 < s.gone = slip.numbered.1.1.0.0 in
      absurd (omega arith))

  zero_same : AgreeAt (through (renamed s.keep s.gone) (known_of m)) (known_of after) 0
  zero_same =
      let none : get m 0 ≡ None = nothing_at_zero c sound in
      let left : get after 0 ≡ None = put 0 ∙ ap (λ x. over x (get m 0)) no_old ∙ none in
      record {
        tag = ap tag_at (ap (get m) zero_stays ∙ none) ∙ sym (ap tag_at left);
        path = ap (path_of m) zero_stays
            ∙ sym (paths_same c.next n s slip m after put new sound.named (sound.stayed n s at) 0);
      }

  there : (k : ℕ) (r : Record) → get after k ≡ Some r → (k ≡ s.gone) ⊎ ((x : Record) × (get m k ≡ Some x))
  there = gone_or_there c.next n s slip m after put new sound.named (sound.stayed n s at)

  -- what has no slip has none when the slip is undone
  still_none : (k : ℕ) → get c.slips k ≡ None → get (insert c.slips n (as_undone s)) k ≡ None
  still_none k none = put_elsewhere c.slips n (as_undone s) k
      (λ same. let both : Some s ≡ None = sym at ∙ ap (get c.slips) (sym same) ∙ none in absurd cc) ∙ none

  -- each slip of then is one of now, but for being undone
  was_slip : (k : ℕ) (x : Slip) → get (insert c.slips n (as_undone s)) k ≡ Some x → (old : Slip)
      × (get c.slips k ≡ Some old) × (old.keep ≡ x.keep) × (old.gone ≡ x.gone)
  was_slip k x e = elim (put_cases c.slips n (as_undone s) k (Some x) e) as (λ _. (old : Slip)
      × (get c.slips k ≡ Some old) × (old.keep ≡ x.keep) × (old.gone ≡ x.gone)) [
        | inl h ↦
            let same : as_undone s ≡ x = let g = h.1 in cc in
            (s, ap (get c.slips) h.0 ∙ at, ap (λ (y : Slip). y.keep) same, ap (λ (y : Slip). y.gone) same)
        | inr h ↦ (x, h.1, refl, refl)
      ]

  -- whoever stands where a person stayed is one
  person_there : (k : ℕ) (x : Slip) → get c.slips k ≡ Some x → (r : Record) → get after x.keep ≡ Some r → IsPerson r
  person_there k x e r is = elim (there x.keep r is) as (λ _. IsPerson r) [
    | inl gone ↦
        let one = gone_there c.next n s slip in
        let same : kind.Person one.0 ≡ r = let q : Some (kind.Person one.0) ≡ Some r = sym
        (person_then c.next n s slip m after put new sound.named (sound.stayed n s at))
        ∙ ap (get after) (sym gone) ∙ is in cc in
        subst IsPerson same tt
    | inr old ↦
        let y = like c.next n s slip m after put new sound.named (sound.stayed n s at) x.keep old.0 old.1 in
        let same : y.0 ≡ r = let q : Some y.0 ≡ Some r = sym y.1 ∙ is in cc in
        subst IsPerson same (person_alike old.0 y.0 y.2 (stayed_at c k x.keep x old.0 sound e refl old.1))
  ]

  pub undo_sound : IsSound (with_undo n s c)
  undo_sound = keeps_sound c (with_undo n s c) sound (record {
    later = omega arith;
    bounded = sound.bounded;
    records = undo_keeps c.next n s slip m after put new sound.named (sound.stayed n s at) sound.rules zero_same;
    distinct = λ k r e. still_none k (elim (there k r e) as (λ _. get c.slips k ≡ None) [
      | inl gone ↦ ap (get c.slips) gone ∙ sound.free n s at
      | inr old ↦ sound.distinct k old.0 old.1
    ]);
    paths = λ k path h. sound.rules.paths k path
        (undo_path c.next n s slip m after put new sound.named (sound.stayed n s at) k path h);
    keys = keys_still m after (was_entry c.next n s slip m after put new sound.named (sound.stayed n s at))
        sound.rules.keys;
    slips = λ k x e. elim (put_cases c.slips n (as_undone s) k (Some x) e) as (λ _. IsSoundSlip c.next k x) [
      | inl h ↦ let same : as_undone s ≡ x = let g = h.1 in cc in
          subst (λ i. IsSoundSlip c.next i x) (sym h.0)
          (subst (IsSoundSlip c.next n) same (undone_slip c.next n s slip))
      | inr h ↦ sound.slips k x h.1
    ];
    stayed = λ k x e. let old = was_slip k x e in
        if_there (get after x.keep) IsPerson (λ r is. person_there k old.0 old.1 r (ap (get after) old.2 ∙ is));
    free = λ k x e. let old = was_slip k x e in
        still_none x.gone (ap (get c.slips) (sym old.3) ∙ sound.free k old.0 old.1);
  })
