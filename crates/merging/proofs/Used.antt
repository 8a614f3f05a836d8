-- A number that is used up stays so: no merge and no undoing puts a record there.
use Rattle.std.proofs.Common.{
  ◌≡◌,
  ℕ,
  ◌<◌,
  List,
  [],
  ◌∷◌,
  Bool,
  true,
  false,
  cond,
  refl,
  sym,
  ap,
  ◌∙◌,
  inl,
  inr,
  subst,
  arith,
}
use Rattle.std.specs.Prelude.{Some, None, Ok, map, is_none, ◌++◌, ◌&&◌, ◌||◌, ◌==◌, if◌then◌else◌}
use Rattle.std.specs.List.{filter, flat_map, list_any}
use Rattle.std.specs.FinMap.{get, insert, entries}
use Rattle.std.proofs.lemmas.Bool.{or_parts, eqb-true}
use Rattle.record_kinds.specs.declared.record.Record.{Record}
use Rattle.receipts.specs.declared.answer.Answer.{Answer}
use Rattle.archive_state.specs.Content.{Content, Records}
use Rattle.archive_state.specs.Slips.{Slip}
use Rattle.archive_state.specs.declared.slip.Change.{Change}
use Rattle.record_shapes.specs.Lists.{EachOf}
use Rattle.archive_state.specs.Applied.{as_undone, with_puts}
use Rattle.merging.specs.Comparing.{is_same_record}
use Rattle.merging.specs.Merges.{change_at, is_changed, put_of, put_old, slip_of}
use Rattle.merging.specs.Steps.{merge_step, undo_step}
use Rattle.command_checks.specs.Numbers.{IsUsedUp, takes_away}
use Rattle.archive_state.proofs.Putting.{put_cases, put_elsewhere}
use Rattle.merging.proofs.MergeComparing.{IsNow}
use Rattle.merging.proofs.Changing.{made_none}
use Rattle.merging.proofs.Merge.{entries_there}
use Rattle.merging.proofs.Stepping.{Merged, merged_by, Undone, undone_by}
use Rattle.list_laws.proofs.Numbers.{same_self}

abbrev takes : ℕ → Change → Bool
takes n x = x.number == n && is_none x.new

-- a merge changes no number without a record
not_taken : (keep gone n : ℕ) (m : Records) (p : ℕ × Record → Bool) (es : List (ℕ × Record)) → get m n ≡ None
    → EachOf (λ (e : ℕ × Record). get m e.0 ≡ Some e.1) es
    → list_any (takes n) (map (change_at keep gone m) (filter p es)) ≡ false
not_taken keep gone n m p [] none there = refl
not_taken keep gone n m p (e ∷ es) none there =
    elim (p e) as (λ b. list_any (takes n) (map (change_at keep gone m) (cond b (e ∷ filter p es) (filter p es)))
    ≡ false) [
      | true ↦ elim (e.0 == n) as (λ b. (e.0 == n) ≡ b
          → ((b && is_none (change_at keep gone m e).new) || list_any (takes n)
          (map (change_at keep gone m) (filter p es)))
          ≡ false) [
            | true ↦ λ q. let both : Some e.1 ≡ None = sym there.0 ∙ ap (get m) (eqb-true e.0 n q)
                ∙ none in absurd cc
            | false ↦ λ q. not_taken keep gone n m p es none there.1
          ] refl
      | false ↦ not_taken keep gone n m p es none there.1
    ]

pub merge_keeps_used : (c after : Content) (keep gone n : ℕ) (a : Answer) → merge_step c keep gone ≡ Ok (after, a)
    → IsUsedUp c n → IsUsedUp after n
merge_keeps_used c after keep gone n a e (below, none, undone) =
    let h : Merged c keep gone after a = merged_by c after keep gone a e in
    let made : Slip = slip_of keep gone c.records in
    let less : n < c.next = below in
    subst (λ x. IsUsedUp x n) h.left (
      omega arith,
      made_none keep gone c.records n none,
      λ k s at away. elim (put_cases c.slips c.next made k (Some s) at) as (λ _. s.is_undone ≡ true) [
        | inl x ↦
            let same : made ≡ s = let q = x.1 in cc in
            let left : takes_away made n ≡ false = not_taken keep gone n c.records
            (λ e. is_changed keep gone c.records e.0 e.1) (entries c.records) none (entries_there c.records) in
            let both : false ≡ true = sym left ∙ ap (λ y. takes_away y n) same ∙ away in absurd cc
        | inr x ↦ undone k s x.1 away
      ],
    )

taken_at : (n : ℕ) (c : Change) → c.number ≡ n → c.new ≡ None → takes n c ≡ true
taken_at n c at new = ap (λ k. k == n && is_none c.new) at ∙ ap (λ o. n == n && is_none o) new
    ∙ ap (λ b. b && true) (same_self n)

-- what is put back leaves a number as it is that has no record now, where its record was not taken away
left_alone : (m : Records) (n : ℕ) (cs : List Change) (x : Records) → get m n ≡ None → IsNow m cs
    → list_any (takes n) cs ≡ false → get (with_puts x (flat_map put_old cs)) n ≡ get x n
left_alone m n [] x none now kept = refl
left_alone m n (c ∷ cs) x none now kept =
    let no = or_parts (takes n c) (list_any (takes n) cs) kept in
    elim (is_same_record (Some c.old) c.new) as (λ b. get
    (with_puts x (put_of c.number (if b then None else Some c.old) ++ flat_map put_old cs)) n ≡ get x n) [
      | true ↦ left_alone m n cs x none now.1 no.1
      | false ↦
          left_alone m n cs (insert x c.number c.old) none now.1 no.1
          ∙ put_elsewhere x c.number c.old n (λ same.
          let new : c.new ≡ None = sym now.0 ∙ ap (get m) (sym same) ∙ none in
          let both : true ≡ false = sym (taken_at n c (sym same) new) ∙ no.0 in absurd cc)
    ]

pub undo_keeps_used : (c after : Content) (k n : ℕ) (a : Answer) → undo_step c k ≡ Ok (after, a) → IsUsedUp c n
    → IsUsedUp after n
undo_keeps_used c after k n a e (below, none, undone) =
    let h : Undone c k after = undone_by c after k a e in
    let s : Slip = h.slip in
    let kept : takes_away s n ≡ false = elim (takes_away s n) as (λ b. takes_away s n ≡ b → b ≡ false) [
      | true ↦ λ away. sym (undone k s h.there away) ∙ h.open_yet
      | false ↦ λ away. refl
    ] refl in
    subst (λ x. IsUsedUp x n) h.left (
      below,
      left_alone c.records n s.changes c.records none h.now kept ∙ none,
      λ j t at away. elim (put_cases c.slips k (as_undone s) j (Some t) at) as (λ _. t.is_undone ≡ true) [
        | inl x ↦ let same : as_undone s ≡ t = let q = x.1 in cc in sym (ap (λ (y : Slip). y.is_undone) same)
        | inr x ↦ undone j t x.1 away
      ],
    )
