-- The changes of a merge and of an undoing are of what differs, and of nothing else.
use Rattle.std.proofs.Common.{◌≡◌, ℕ, ◌<◌, List, [], ◌∷◌, ◌++◌, true, false, refl, sym, ap, ◌∙◌, subst, arith}
use Rattle.std.specs.Prelude.{◌≢◌, Option, Some, None, map, option_map, ◌||◌, ◌==◌, if◌then◌else◌}
use Rattle.std.specs.List.{list_any, filter, flat_map}
use Rattle.std.specs.FinMap.{get, entries}
use Rattle.record_kinds.specs.Model as model
use Rattle.record_kinds.specs.declared.record.Record.{Record}
use Rattle.record_kinds.specs.declared.record.Record.TheVariants as kind
use Rattle.record_shapes.specs.Lists.{Ascends, EachOf}
use Rattle.archive_state.specs.Changes.{Changes}
use Rattle.archive_state.specs.Content.{Content, Records}
use Rattle.archive_state.specs.Merging.{merged}
use Rattle.archive_state.specs.Slips.{Slip}
use Rattle.archive_state.specs.Sound.{IsSound}
use Rattle.archive_state.specs.declared.changes.Numbered.{Numbered}
use Rattle.archive_state.specs.declared.changes.SlipChange.TheVariants as change
use Rattle.archive_state.specs.declared.slip.Change.{Change}
use Rattle.command_checks.specs.Exact.{IsExact}
use Rattle.merging.specs.Looks.{made_changes}
use Rattle.merging.specs.Comparing.{is_same_record}
use Rattle.merging.specs.Merges.{change_at, is_changed, merge_changes, put_new, put_of, put_old}
use Rattle.merging.proofs.MergeComparing.{IsNow, record_same}
use Rattle.merging.proofs.Changing.{changes_rise, each_found}
use Rattle.merging.proofs.Differs.{changed_differs}
use Rattle.record_shapes.proofs.Each.{each_flat, each_mapped}
use Rattle.merging.proofs.Merge.{entries_there}
use Rattle.merging.proofs.Merged.{at_gone}
use Rattle.merging.proofs.Once.{number_other}

abbrev number : Change → ℕ
number c = c.number

abbrev put_number : Numbered → ℕ
put_number p = p.number

-- ---- the numbers of what is put
more_above : (n k : ℕ) (o : Option Record) (ps : List Numbered) → n < k → EachOf (λ j. n < j) (map put_number ps)
    → EachOf (λ j. n < j) (map put_number (put_of k o ++ ps))
more_above n k None ps h rest = rest
more_above n k (Some r) ps h rest = (h, rest)

all_above : (n : ℕ) (cs : List Change) → EachOf (λ j. n < j) (map number cs) → EachOf (λ j. n < j)
    (map put_number (flat_map put_new cs))
all_above n [] h = tt
all_above n (c ∷ cs) h = more_above n c.number c.new (flat_map put_new cs) h.0 (all_above n cs h.1)

more_rise : (k : ℕ) (o : Option Record) (ps : List Numbered) → EachOf (λ j. k < j) (map put_number ps)
    → Ascends (map put_number ps) → Ascends (map put_number (put_of k o ++ ps))
more_rise k None ps above rest = rest
more_rise k (Some r) ps above rest = (above, rest)

puts_rise : (cs : List Change) → Ascends (map number cs) → Ascends (map put_number (flat_map put_new cs))
puts_rise [] h = tt
puts_rise (c ∷ cs) h = more_rise c.number c.new (flat_map put_new cs) (all_above c.number cs h.0) (puts_rise cs h.1)

abbrev back : Change → Option Record
back c = if is_same_record (Some c.old) c.new then None else Some c.old

old_above : (n : ℕ) (cs : List Change) → EachOf (λ j. n < j) (map number cs) → EachOf (λ j. n < j)
    (map put_number (flat_map put_old cs))
old_above n [] h = tt
old_above n (c ∷ cs) h = more_above n c.number (back c) (flat_map put_old cs) h.0 (old_above n cs h.1)

old_rise : (cs : List Change) → Ascends (map number cs) → Ascends (map put_number (flat_map put_old cs))
old_rise [] h = tt
old_rise (c ∷ cs) h = more_rise c.number (back c) (flat_map put_old cs) (old_above c.number cs h.0) (old_rise cs h.1)

-- the one that is gone is not put
module _ (gone : ℕ) where
  one_apart : (k : ℕ) (o : Option Record) (ps : List Numbered) → (k ≡ gone → o ≡ None)
      → list_any (λ n. n == gone) (map put_number ps) ≡ false → list_any (λ n. n == gone)
      (map put_number (put_of k o ++ ps)) ≡ false
  one_apart k None ps h rest = rest
  one_apart k (Some r) ps h rest =
      ap (λ b. b || list_any (λ n. n == gone) (map put_number ps))
      (number_other k gone (λ same. let never : Some r ≡ None = h same in absurd cc)) ∙ rest

  none_put : (cs : List Change) → EachOf (λ (c : Change). c.number ≡ gone → c.new ≡ None) cs
      → list_any (λ n. n == gone) (map put_number (flat_map put_new cs)) ≡ false
  none_put [] h = refl
  none_put (c ∷ cs) h = one_apart c.number c.new (flat_map put_new cs) h.0 (none_put cs h.1)

-- ---- a merge
put_differs : (m : Records) (k : ℕ) (o : Option Record) → ((r : Record) → o ≡ Some r → get m k ≢ Some r)
    → EachOf (λ (p : Numbered). get m p.number ≢ Some p.«record») (put_of k o)
put_differs m k None h = tt
put_differs m k (Some r) h = (h r refl, tt)

-- no slip of a sound archive has the next number
free_slip : (c : Content) → IsSound c → get c.slips c.next ≡ None
free_slip c sound = elim (get c.slips c.next) as (λ o. get c.slips c.next ≡ o → o ≡ None) [
  | None ↦ λ e. refl
  | Some s ↦ λ e. let less : c.next < c.next = (sound.slips c.next s e).numbered.0.1 in absurd (omega arith)
] refl

module _ (c : Content) (keep gone : ℕ) (k g : model.Person) (at_k : get c.records keep ≡ Some (kind.Person k))
    (at_g : get c.records gone ≡ Some (kind.Person g)) (apart : keep ≡ gone → ⊥) where
  abbrev m : Records
  m = c.records

  changes_apart : (es : List (ℕ × Record)) → EachOf (λ (x : Change). x.number ≡ gone → x.new ≡ None)
      (map (change_at keep gone m) es)
  changes_apart [] = tt
  changes_apart (e ∷ es) = ((λ same. ap (merged keep gone (get m)) same ∙ at_gone keep gone (get m)), changes_apart es)

  change_differs : (n : ℕ) (r : Record) → get m n ≡ Some r → is_changed keep gone m n r ≡ true
      → EachOf (λ (p : Numbered). get m p.number ≢ Some p.«record») (put_new (change_at keep gone m (n, r)))
  change_differs n r at t = put_differs m n (merged keep gone (get m) n) (λ x new is.
      let same : r ≡ x = let q : Some r ≡ Some x = sym at ∙ is in cc in
      changed_differs keep gone m k g apart at_k at_g n x is
      (subst (λ y. is_changed keep gone m n y ≡ true) same t) new)

  all_differ : EachOf (λ (p : Numbered). get m p.number ≢ Some p.«record»)
      (flat_map put_new (merge_changes keep gone m))
  all_differ =
      each_flat (λ (p : Numbered). get m p.number ≢ Some p.«record») put_new (merge_changes keep gone m)
      (each_mapped (λ (x : Change). EachOf (λ (p : Numbered). get m p.number ≢ Some p.«record») (put_new x))
      (change_at keep gone m) (filter (λ e. is_changed keep gone m e.0 e.1) (entries m))
      (each_found keep gone m (λ e. EachOf (λ (p : Numbered). get m p.number ≢ Some p.«record»)
      (put_new (change_at keep gone m e))) change_differs (entries m) (entries_there m)))

  pub merge_is_exact : IsExact c (made_changes keep gone c c.next)
  merge_is_exact = record {
    puts = λ _. puts_rise (merge_changes keep gone m) (changes_rise keep gone m);
    removals = (tt, tt);
    apart = (
      none_put gone (merge_changes keep gone m)
          (changes_apart (filter (λ e. is_changed keep gone m e.0 e.1) (entries m))),
      tt,
    );
    new = λ _. all_differ;
    there = ((λ none. let never : Some (kind.Person g) ≡ None = sym at_g ∙ none in absurd cc), tt);
    slip = free_slip c;
  }

-- ---- an undoing
back_differs : (m : Records) (c : Change) → get m c.number ≡ c.new → (r : Record) → back c ≡ Some r
    → get m c.number ≢ Some r
back_differs m c now r = elim (is_same_record (Some c.old) c.new) as (λ b. is_same_record (Some c.old) c.new ≡ b
    → (if b then None else Some c.old) ≡ Some r → get m c.number ≢ Some r) [
      | true ↦ λ q is. absurd cc
      | false ↦ λ q is at.
          let same : Some c.old ≡ c.new = is ∙ sym at ∙ now in
          let yes : is_same_record (Some c.old) c.new ≡ true = ap (is_same_record (Some c.old)) (sym same)
          ∙ record_same (Some c.old) in
          let both : true ≡ false = sym yes ∙ q in absurd cc
    ] refl

old_differ : (m : Records) (cs : List Change) → IsNow m cs
    → EachOf (λ (x : Change). EachOf (λ (p : Numbered). get m p.number ≢ Some p.«record») (put_old x)) cs
old_differ m [] now = tt
old_differ m (c ∷ cs) now = (put_differs m c.number (back c) (back_differs m c now.0), old_differ m cs now.1)

pub undo_is_exact : (c : Content) (n : ℕ) (s : Slip) (changes : Changes) → get c.slips n ≡ Some s → s.is_undone ≡ false
    → IsNow c.records s.changes
    → changes ≡ record {
      puts = flat_map put_old s.changes;
      removals = [];
      next = c.next;
      answer = record { first = 0; count = 0 };
      kept = None;
      slip = Some (change.Undone n);
    }
    → IsExact c changes
undo_is_exact c n s changes there fresh now e =
    subst (IsExact c) (sym e) (record {
      puts = λ sound. old_rise s.changes (sound.slips n s there).ascending;
      removals = tt;
      apart = tt;
      new = λ _. each_flat (λ (p : Numbered). get c.records p.number ≢ Some p.«record») put_old s.changes
          (old_differ c.records s.changes now);
      there = tt;
      slip = λ _. ap (option_map (λ (x : Slip). x.is_undone)) there ∙ ap Some fresh;
    })
