-- A slip with other dates for those of its records is sound where it was.
use Rattle.std.proofs.Common.{◌≡◌, ℕ, List, [], ◌∷◌, ◌++◌, Bool, true, false, cond, refl, sym, ap, subst, ◌∙◌}
use Rattle.std.specs.Prelude.{Option, Some, None, ◌==◌, map, option_map, MatchOption, if◌then◌else◌}
use Rattle.std.specs.List.{flat_map}
use Rattle.std.specs.FinMap.{find, get, get-from_entries}
use Rattle.std.specs.Cmp.{nat_cmp_total}
use Rattle.std.specs.Ordering.{eq_by_cmp, nat_cmp}
use Rattle.record_fields.specs.declared.date.Date.{Date}
use Rattle.record_kinds.specs.declared.record.Record.{Record}
use Rattle.record_kinds.specs.declared.record.Record.TheVariants as kind
use Rattle.archive_state.specs.Links.{names}
use Rattle.record_shapes.specs.Lists.{Ascends, EachOf}
use Rattle.record_text.specs.Text.{IsText}
use Rattle.archive_state.specs.Merging.{clashes, merged, merged_person, merged_record}
use Rattle.archive_state.specs.Slips.{Slip}
use Rattle.archive_state.specs.Sound.{
  IsEmptyPerson,
  IsNumber,
  IsPerson,
  IsSoundSlip,
  change_names,
  new_names,
  old_records,
}
use Rattle.archive_state.specs.declared.slip.Change.{Change}
use Rattle.older_archives.specs.Anew.{redated, redated_change, redated_slip}
use Rattle.older_archives.proofs.AllRecords.{each_redated, named_too, redated_from, rules_still}
use Rattle.older_archives.proofs.OneRecord.{empty_still, merges_alike, person_still, same_clash, same_links}

module _ (f : Date → Date) where
  -- ---- the numbers in it
  same_names : (r : Record) → names (redated f r) ≡ names r
  same_names r = ap (map (λ l. l.0)) (same_links f r)

  same_new : (o : Option Record) → new_names (option_map (redated f) o) ≡ new_names o
  same_new None = refl
  same_new (Some r) = same_names r

  same_change : (c : Change) → change_names (redated_change f c) ≡ change_names c
  same_change c = λ i. c.number ∷ (same_names c.old i ++ same_new c.«new» i)

  all_names : (cs : List Change) → flat_map change_names (map (redated_change f) cs) ≡ flat_map change_names cs
  all_names [] = refl
  all_names (c ∷ cs) = λ i. same_change c i ++ all_names cs i

  all_numbers : (cs : List Change) → map (λ (c : Change). c.number) (map (redated_change f) cs)
      ≡ map (λ (c : Change). c.number) cs
  all_numbers [] = refl
  all_numbers (c ∷ cs) = ap (λ ns. c.number ∷ ns) (all_numbers cs)

  -- ---- the old records
  abbrev entry_of : Change → ℕ × Record
  entry_of c = (c.number, c.old)

  here : (b : Bool) (r : Record) (o : Option Record) → cond b (Some (redated f r)) (option_map (redated f) o)
      ≡ option_map (redated f) (cond b (Some r) o)
  here true r o = refl
  here false r o = refl

  found : (n : ℕ) (cs : List Change) → find nat_cmp n (map entry_of (map (redated_change f) cs))
      ≡ option_map (redated f) (find nat_cmp n (map entry_of cs))
  found n [] = refl
  found n (c ∷ cs) =
      ap (cond (eq_by_cmp nat_cmp n c.number) (Some (redated f c.old))) (found n cs)
      ∙ here (eq_by_cmp nat_cmp n c.number) c.old (find nat_cmp n (map entry_of cs))

  old_at : (s : Slip) (n : ℕ) → get (old_records (redated_slip f s)) n ≡ option_map (redated f) (get (old_records s) n)
  old_at s n =
      get-from_entries nat_cmp_total (map entry_of (map (redated_change f) s.changes)) n ∙ found n s.changes
      ∙ ap (option_map (redated f)) (sym (get-from_entries nat_cmp_total (map entry_of s.changes) n))

  -- ---- the merge of them
  person_merged : (keep gone : ℕ) (k g : Option Record)
      → merged_person keep gone (option_map (redated f) k) (option_map (redated f) g)
      ≡ option_map (redated f) (merged_person keep gone k g)
  person_merged keep gone None g = refl
  person_merged keep gone (Some (kind.Person k)) None = refl
  person_merged keep gone (Some (kind.Person k)) (Some (kind.Place g)) = refl
  person_merged keep gone (Some (kind.Person k)) (Some (kind.Repo g)) = refl
  person_merged keep gone (Some (kind.Person k)) (Some (kind.Source g)) = refl
  person_merged keep gone (Some (kind.Person k)) (Some (kind.Person g)) = refl
  person_merged keep gone (Some (kind.Person k)) (Some (kind.Family g)) = refl
  person_merged keep gone (Some (kind.Person k)) (Some (kind.Citation g)) = refl
  person_merged keep gone (Some (kind.Person k)) (Some (kind.Event g)) = refl
  person_merged keep gone (Some (kind.Person k)) (Some (kind.Entry g)) = refl
  person_merged keep gone (Some (kind.Person k)) (Some (kind.Other g)) = refl
  person_merged keep gone (Some (kind.Place k)) g = refl
  person_merged keep gone (Some (kind.Repo k)) g = refl
  person_merged keep gone (Some (kind.Source k)) g = refl
  person_merged keep gone (Some (kind.Family k)) g = refl
  person_merged keep gone (Some (kind.Citation k)) g = refl
  person_merged keep gone (Some (kind.Event k)) g = refl
  person_merged keep gone (Some (kind.Entry k)) g = refl
  person_merged keep gone (Some (kind.Other k)) g = refl

  record_merged : (keep gone : ℕ) (o : Option Record)
      → option_map (merged_record keep gone) (option_map (redated f) o)
      ≡ option_map (redated f) (option_map (merged_record keep gone) o)
  record_merged keep gone None = refl
  record_merged keep gone (Some r) = ap Some (merges_alike f keep gone r)

  chosen : (a b : Bool) (p q x y : Option Record) → p ≡ option_map (redated f) q → x ≡ option_map (redated f) y
      → (if a then None else (if b then p else x)) ≡ option_map (redated f) (if a then None else (if b then q else y))
  chosen true b p q x y e g = refl
  chosen false true p q x y e g = e
  chosen false false p q x y e g = g

  all_merged : (keep gone : ℕ) (look : ℕ → Option Record) (n : ℕ)
      → merged keep gone (λ k. option_map (redated f) (look k)) n ≡ option_map (redated f) (merged keep gone look n)
  all_merged keep gone look n = chosen (n == gone) (n == keep) _ _ _ _ (person_merged keep gone (look keep) (look gone))
      (record_merged keep gone (look n))

  each_merged : (keep gone : ℕ) (look now : ℕ → Option Record) → ((n : ℕ) → now n ≡ option_map (redated f) (look n))
      → (cs : List Change) → EachOf (λ (c : Change). c.«new» ≡ merged keep gone look c.number) cs
      → EachOf (λ (c : Change). c.«new» ≡ merged keep gone now c.number) (map (redated_change f) cs)
  each_merged keep gone look now at [] h = tt
  each_merged keep gone look now at (c ∷ cs) h = (
    ap (option_map (redated f)) h.0 ∙ sym (all_merged keep gone look c.number)
        ∙ ap (λ (l : ℕ → Option Record). merged keep gone l c.number) (λ i n. sym (at n) i),
    each_merged keep gone look now at cs h.1,
  )

  -- ---- all of it
  person_there : (o : Option Record) → (r : Record) × (o ≡ Some r) × IsPerson r
      → (r : Record) × (option_map (redated f) o ≡ Some r) × IsPerson r
  person_there o (r, at, is) = (redated f r, ap (option_map (redated f)) at, person_still f r is)

  keep_there : (keep gone : Option Record)
      → MatchOption keep ((r : Record) → gone ≡ Some r → IsEmptyPerson r) IsPerson
      → MatchOption (option_map (redated f) keep)
      ((r : Record) → option_map (redated f) gone ≡ Some r → IsEmptyPerson r) IsPerson
  keep_there None other h = λ x e.
      let (r, was, is) = redated_from f other x e in subst IsEmptyPerson is (empty_still f r (h r was))
  keep_there (Some r) other h = person_still f r h

  pub slip_still : ((d : Date) → IsText d.text → IsText (f d).text) → (next n : ℕ) (s : Slip) → IsSoundSlip next n s
      → IsSoundSlip next n (redated_slip f s)
  slip_still are next n s sound = record {
    numbered = subst (λ ns. EachOf (IsNumber next) (n ∷ (s.keep ∷ (s.gone ∷ ns)))) (sym (all_names s.changes))
        sound.numbered;
    ascending = subst Ascends (sym (all_numbers s.changes)) sound.ascending;
    gone = subst (λ (o : Option Record). (r : Record) × (o ≡ Some r) × IsPerson r) (sym (old_at s s.gone))
        (person_there (get (old_records s) s.gone) sound.gone);
    keep = subst (λ (o : Option Record). MatchOption o
        ((r : Record) → get (old_records (redated_slip f s)) s.gone ≡ Some r → IsEmptyPerson r) IsPerson)
        (sym (old_at s s.keep))
        (subst (λ (g : Option Record). MatchOption (option_map (redated f) (get (old_records s) s.keep))
        ((r : Record) → g ≡ Some r → IsEmptyPerson r) IsPerson) (sym (old_at s s.gone))
        (keep_there (get (old_records s) s.keep) (get (old_records s) s.gone) sound.keep));
    apart = sound.apart;
    joinable = each_redated f (old_records s) (old_records (redated_slip f s)) (old_at s)
        (λ k r. clashes s.keep s.gone r ≡ false) (λ k r. clashes s.keep s.gone r ≡ false)
        (λ k r h. same_clash f s.keep s.gone r ∙ h) sound.joinable;
    merges = each_merged s.keep s.gone (get (old_records s)) (get (old_records (redated_slip f s))) (old_at s) s.changes
        sound.merges;
    named = named_too f (old_records s) (old_records (redated_slip f s)) (old_at s) sound.named;
    rules = rules_still f (old_records s) (old_records (redated_slip f s)) (old_at s) are next sound.rules;
  }
