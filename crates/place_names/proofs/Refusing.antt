-- A name that is refused since something would be read otherwise: the archive after would break those rules.
use Rattle.std.proofs.Common.{
  ◌≡◌,
  ℕ,
  zero,
  suc,
  ◌<◌,
  ◌≤◌,
  List,
  [],
  ◌∷◌,
  Bool,
  true,
  false,
  refl,
  sym,
  ap,
  ◌∙◌,
  inl,
  inr,
  subst,
  arith,
}
use Rattle.std.specs.Prelude.{
  Option,
  Some,
  None,
  Result,
  Ok,
  Err,
  IfSome,
  not,
  nat_lt,
  ◌&&◌,
  ◌||◌,
  ◌==◌,
  bytes_eq,
  codes,
  if◌then◌else◌,
}
use Rattle.std.specs.FinMap.{get, insert}
use Rattle.std.specs.List.{list_any}
use Rattle.std.proofs.lemmas.Bool.{and_from, and_parts, ltb-true, or_cases}
use Rattle.list_laws.proofs.Booleans.{true_not_false}
use Rattle.list_laws.proofs.Numbers.{it}
use Rattle.stored_lines.specs.Tree.{Tree}
use Rattle.stored_lines.specs.Line.{Line}
use Rattle.record_text.specs.declared.refusal.RefusalKind.{RefusalKind}
use Rattle.record_text.specs.declared.refusal.RefusalKind.TheVariants.{BadText, StillCarried}
use Rattle.record_fields.specs.Bytes.{bytes_are}
use Rattle.record_kinds.specs.Model as model
use Rattle.record_kinds.specs.declared.record.Record.{Record}
use Rattle.record_kinds.specs.declared.record.Record.TheVariants as kind
use Rattle.record_shapes.specs.Entries.{entry_of, entry_on, is_said, is_said_path}
use Rattle.record_shapes.specs.Fields.{is_above, path_below}
use Rattle.record_shapes.specs.Forms.{is_childless, is_some, is_text, number_of, tagged, text_in}
use Rattle.archive_state.specs.Content.{Content, Records}
use Rattle.archive_state.specs.Known.{known_before, known_of, path_of}
use Rattle.archive_state.specs.Referrers.{referrers}
use Rattle.archive_state.specs.Sound.{IsSound}
use Rattle.archive_state.proofs.Putting.{put_elsewhere, put_here}
use Rattle.commands.specs.Rows.{and_then}
use Rattle.command_checks.specs.Checks.{need, text_in as text_taken}
use Rattle.command_checks.specs.Fits.{new_path}
use Rattle.record_changes.specs.Steps.{replaced}
use Rattle.field_changes.specs.Steps.{record_there, retag, with_tag}
use Rattle.commands.specs.declared.correction.GivenCorrection.{GivenCorrection}
use Rattle.commands.specs.declared.correction.GivenCorrection.TheVariants as given
use Rattle.field_changes.proofs.Stepping.{then_ok}
use Rattle.place_names.specs.Laws.{IsReadAlike, RefusesOnlyIfRead}
use Rattle.place_names.specs.Naming.{
  all_may,
  any_reads,
  is_entry,
  is_number,
  is_parent,
  is_read_anew,
  known_as,
  path_only,
  place_within,
  reads_anew,
  reads_at,
  takes_parent,
  where_place,
}
use Rattle.place_names.specs.Steps.{corrected_record, name_passes, path_passes, paths_pass}
use Rattle.place_names.proofs.Mending.{corrects, renames}
use Rattle.place_names.proofs.Reaching.{own_path, path_on}
use Rattle.place_names.proofs.Rereading.{if_untaken}
use Rattle.place_names.proofs.Resounding.{paths_before, smaller, tags, tags_now}
use Rattle.place_names.proofs.Shaping.{entry_by_path, said_if}

any_more : {A : Type 0} (p q : A → Bool) → ((a : A) → p a ≡ true → q a ≡ true) → (xs : List A)
    → list_any p xs ≡ true → list_any q xs ≡ true
any_more p q f [] e = e
any_more p q f (x ∷ xs) e = elim (or_cases (p x) (list_any p xs) e) as (λ _. (q x || list_any q xs) ≡ true) [
  | inl h ↦ ap (λ b. b || list_any q xs) (f x h)
  | inr h ↦ later (q x) (list_any q xs) (any_more p q f xs h)
]
  where
    later : (a b : Bool) → b ≡ true → (a || b) ≡ true
    later true b h = refl
    later false b h = h

both_not : (b : Bool) → b ≡ true → b ≡ false → ⊥
both_not b e f = true_not_false (sym e ∙ f)

-- a line that is that of a parent if one path is known, is it if this path is among others
line_is : (f : ℕ → Option (List ℕ)) (j : ℕ) (q name : List ℕ) → f j ≡ Some q → (u : Tree Line)
    → is_parent (path_only j q) name u ≡ true → is_parent f name u ≡ true
line_is f j q name there u e = elim (number_of u == j) as (λ b. (number_of u == j) ≡ b
    → with_path (if b then Some q else None) ≡ true → with_path (f (number_of u)) ≡ true) [
      | true ↦ λ h g. ap with_path (ap f (it (number_of u) j h) ∙ there) ∙ g
      | false ↦ λ h g. absurd (both_not (with_path None) g (nothing (tagged (codes "_LOC") u) (is_childless u)
          (not (is_text u))))
    ] refl e
  where
    with_path : Option (List ℕ) → Bool
    with_path o = tagged (codes "_LOC") u && (is_childless u && (not (is_text u) && is_above name o))

    nothing : (a b d : Bool) → (a && (b && (d && false))) ≡ false
    nothing false b d = refl
    nothing true false d = refl
    nothing true true false = refl
    nothing true true true = refl

parent_is : (j : ℕ) (o : Option ℕ) → is_number j o ≡ true → o ≡ Some j
parent_is j None e = absurd cc
parent_is j (Some k) e = ap Some (it k j e)

-- no path says nothing
unsaid : (o : Option (List ℕ)) → o ≡ None → is_said_path o ≡ true → ⊥
unsaid None is said = absurd cc
unsaid (Some path) is said = absurd cc

module _ (c : Content) (n : ℕ) (old : model.Place) (t : List ℕ) (sound : IsSound c)
    (at : get c.records n ≡ Some (kind.Place old)) where
  abbrev p : model.Place
  p = record old { name = t }

  abbrev new : Records
  new = insert c.records n (kind.Place p)

  abbrev Alike : Type 0
  Alike = IsReadAlike new

  stays : (k : ℕ) → (k ≡ n → ⊥) → (r : Record) → get c.records k ≡ Some r → get new k ≡ Some r
  stays k other r at_k = put_elsewhere c.records n (kind.Place p) k other ∙ at_k

  -- ---- what is read otherwise
  no_line : Alike → (k j : ℕ) (x : model.Place) (q : List ℕ) → path_of new j ≡ Some q
      → get new k ≡ Some (kind.Place x) → nat_lt j k ≡ true → takes_parent (path_only j q) x ≡ true → ⊥
  no_line alike k j x q there at_k less e =
      let free : takes_parent (known_before new k).path x ≡ false =
      if_untaken (known_before new k) x (alike.0 k (kind.Place x) at_k) in
      let both = and_parts (not (is_some x.parent)) (list_any (is_parent (path_only j q) x.name) x.carried) e in
      let known : (known_before new k).path j ≡ Some q =
      ap (λ b. if b then path_of new j else None) less ∙ there in
      let taken : takes_parent (known_before new k).path x ≡ true =
      and_from (not (is_some x.parent)) (list_any (is_parent (known_before new k).path x.name) x.carried) both.0
      (any_more (is_parent (path_only j q) x.name) (is_parent (known_before new k).path x.name)
      (line_is (known_before new k).path j q x.name known) x.carried both.1) in
      both_not (takes_parent (known_before new k).path x) taken free

  no_entry : Alike → (k j : ℕ) (o : model.Other) (q : List ℕ) → path_of new j ≡ Some q
      → get new k ≡ Some (kind.Other o) → is_entry (known_as c j q) o ≡ true → ⊥
  no_entry alike k j o q there at_k e =
      let both = and_parts (bytes_eq o.tag (codes "_REG"))
      (is_some (entry_of (known_as c j q) o.value o.carried)) e in
      let none : entry_of (known_of new) o.value o.carried ≡ None =
      (alike.1 k (kind.Other o) at_k).no_entry (bytes_are o.tag (codes "_REG") both.0) in
      let some : is_some (entry_of (record { tag = after; path = path_only j q }) o.value o.carried) ≡ true =
      subst (λ f. is_some (entry_of (record { tag = f; path = path_only j q }) o.value o.carried) ≡ true)
      (tags_now c n old t sound at) both.1 in
      let same : entry_of (known_of new) o.value o.carried
      ≡ entry_of (record { tag = after; path = path_only j q }) o.value o.carried =
      entry_by_path after (path_of new) (path_only j q) o.value o.carried
      (agrees (entry_on (text_in o.value) o.carried).place (said_if after (path_only j q) (path_only j q) o.value
      o.carried some)) in
      both_not (is_some (entry_of (known_of new) o.value o.carried)) (ap is_some same ∙ some) (ap is_some none)
    where
      after : ℕ → List ℕ
      after = tags c n old t sound at

      agrees : (x : Option ℕ) → is_said (record { tag = after; path = path_only j q }) x ≡ true
          → IfSome x (λ i. path_of new i ≡ path_only j q i)
      agrees None h = tt
      agrees (Some i) h = by (i == j) refl h
        where
          by : (b : Bool) → (i == j) ≡ b → is_said (record { tag = after; path = path_only j q }) (Some i) ≡ true
              → path_of new i ≡ path_only j q i
          by true is said = ap (path_of new) (it i j is) ∙ there ∙ sym (ap (λ b. if b then Some q else None) is)
          by false is said = let none : path_only j q i ≡ None = ap (λ b. if b then Some q else None) is in
              absurd (unsaid (path_only j q i) none said)

  -- ---- the first record on the way down
  module _ (alike : Alike) (s : ℕ) (below : (k : ℕ) (q : List ℕ) → n ≤ k → path_of new k ≡ Some q
      → any_reads s c k q ≡ true → ⊥) (j : ℕ) (q : List ℕ) (from : n ≤ j) (there : path_of new j ≡ Some q) where
    above : (k : ℕ) → nat_lt j k ≡ true → k ≡ n → ⊥
    above k less same = let lower : j < k = ltb-true j k less in absurd (omega arith)

    anew : (k : ℕ) (r : Option Record) → get c.records k ≡ r → reads_anew c j q k r ≡ true → ⊥
    anew k (Some (kind.Place x)) at_k e =
        let both = and_parts (nat_lt j k) (takes_parent (path_only j q) x) e in
        no_line alike k j x q there (stays k (above k both.0) (kind.Place x) at_k) both.0 both.1
    anew k (Some (kind.Other o)) at_k e =
        no_entry alike k j o q there (stays k (λ same. let both : Some (kind.Other o) ≡ Some (kind.Place old) =
        sym at_k ∙ ap (get c.records) same ∙ at in absurd cc) (kind.Other o) at_k) e
    anew k None at_k e = absurd cc
    anew k (Some (kind.Repo x)) at_k e = absurd cc
    anew k (Some (kind.Source x)) at_k e = absurd cc
    anew k (Some (kind.Person x)) at_k e = absurd cc
    anew k (Some (kind.Family x)) at_k e = absurd cc
    anew k (Some (kind.Event x)) at_k e = absurd cc
    anew k (Some (kind.Citation x)) at_k e = absurd cc
    anew k (Some (kind.Entry x)) at_k e = absurd cc

    abbrev deeper : ℕ → Option model.Place → Bool
    deeper k o = where_place false (λ y. any_reads s c k (path_below y.name q)) o

    on_place : (k : ℕ) (x : model.Place) → get c.records k ≡ Some (kind.Place x) → (b : Bool)
        → (nat_lt j k && is_number j x.parent) ≡ b → deeper k (if b then Some x else None) ≡ true → ⊥
    on_place k x at_k false within e = absurd cc
    on_place k x at_k true within e =
        let both = and_parts (nat_lt j k) (is_number j x.parent) within in
        let lower : j < k = ltb-true j k both.0 in
        below k (path_below x.name q) (omega arith)
        (path_on c n p k j x q (above k both.0) both.0 at_k (parent_is j x.parent both.1) there) e

    on : (k : ℕ) (r : Option Record) → get c.records k ≡ r → deeper k (place_within j k r) ≡ true → ⊥
    on k (Some (kind.Place x)) at_k e = on_place k x at_k (nat_lt j k && is_number j x.parent) refl e
    on k None at_k e = absurd cc
    on k (Some (kind.Other x)) at_k e = absurd cc
    on k (Some (kind.Repo x)) at_k e = absurd cc
    on k (Some (kind.Source x)) at_k e = absurd cc
    on k (Some (kind.Person x)) at_k e = absurd cc
    on k (Some (kind.Family x)) at_k e = absurd cc
    on k (Some (kind.Event x)) at_k e = absurd cc
    on k (Some (kind.Citation x)) at_k e = absurd cc
    on k (Some (kind.Entry x)) at_k e = absurd cc

    one_of : (ks : List ℕ) → list_any (reads_at s c j q) ks ≡ true → ⊥
    one_of [] e = absurd cc
    one_of (k ∷ ks) e = elim (or_cases (reads_at s c j q k) (list_any (reads_at s c j q) ks) e) as (λ _. ⊥) [
      | inl h ↦
          elim (or_cases (reads_anew c j q k (get c.records k)) (deeper k (place_within j k (get c.records k))) h) as
          (λ _. ⊥) [
            | inl a ↦ anew k (get c.records k) refl a
            | inr b ↦ on k (get c.records k) refl b
          ]
      | inr h ↦ one_of ks h
    ]

  none_reads : Alike → (s j : ℕ) (q : List ℕ) → n ≤ j → path_of new j ≡ Some q → any_reads s c j q ≡ true → ⊥
  none_reads alike zero j q from there e = absurd cc
  none_reads alike (suc s) j q from there e =
      one_of alike s (λ k r less at_k h. none_reads alike s k r less at_k h) j q from there (referrers c j) e

  -- ---- the refusal
  needs : (a b : Bool) → and_then (need a BadText) (λ _. need (not b) StillCarried) ≡ Err StillCarried → b ≡ true
  needs true true e = refl
  needs true false e = absurd cc
  needs false b e = absurd cc

  pub none_refused : Alike → name_passes c n p ≡ Err StillCarried → ⊥
  none_refused alike = by (new_path c.records t old.parent) refl
    where
      by : (o : Option (List ℕ)) → new_path c.records t old.parent ≡ o → path_passes c n p o ≡ Err StillCarried → ⊥
      by None is e = absurd cc
      by (Some path) is e =
          let m : Records = c.records in
          elim (or_cases (takes_parent (known_before m n).path p) (any_reads 32 c n path)
          (needs (all_may 32 c n path) (is_read_anew c n p path) e)) as (λ _. ⊥) [
            | inl h ↦
                let free : takes_parent (known_before new n).path p ≡ false =
                if_untaken (known_before new n) p
                (alike.0 n (kind.Place p) (put_here m n (kind.Place p))) in
                both_not (takes_parent (known_before m n).path p) h
                (sym (ap (λ f. takes_parent f p) (paths_before c n old t sound at)) ∙ free)
            | inr h ↦ none_reads alike 32 n path (omega arith)
                (own_path c n p path (smaller c n old t sound at) is) h
          ]

-- ---- no tag makes a place
no_tag : (c : Content) (n : ℕ) (words : List ℕ) (q : model.Place)
    → corrected_record c n (given.Tag words) ≡ Ok (kind.Place q) → ⊥
no_tag c n words q e =
    let t = then_ok (text_taken words) (λ t. and_then (record_there (get c.records n)) (λ r. retag c t r))
    (kind.Place q) e in
    let r = then_ok (record_there (get c.records n)) (λ r. retag c t.0 r) (kind.Place q) t.2 in
    of_record t.0 r.0 r.2
  where
    of_record : (w : List ℕ) (r : Record) → retag c w r ≡ Ok (kind.Place q) → ⊥
    of_record w (kind.Event x) f =
        let made = then_ok (with_tag c x w) (λ y. Ok (kind.Event y)) (kind.Place q) f in
        let h = made.2 in absurd cc
    of_record w (kind.Place x) f = absurd cc
    of_record w (kind.Repo x) f = absurd cc
    of_record w (kind.Source x) f = absurd cc
    of_record w (kind.Person x) f = absurd cc
    of_record w (kind.Family x) f = absurd cc
    of_record w (kind.Citation x) f = absurd cc
    of_record w (kind.Entry x) f = absurd cc
    of_record w (kind.Other x) f = absurd cc

-- ---- all corrections
then_err : {A B : Type 0} (r : Result A RefusalKind) (b : B) (k : RefusalKind) → and_then r (λ _. Ok b) ≡ Err k
    → r ≡ Err k
then_err (Ok a) b k e = absurd cc
then_err (Err x) b k e = let same : x ≡ k = cc in ap Err same

place_refused : (c : Content) (n : ℕ) (x : GivenCorrection) (q : model.Place) → IsSound c
    → corrected_record c n x ≡ Ok (kind.Place q) → name_passes c n q ≡ Err StillCarried
    → IsReadAlike (replaced c n (kind.Place q)).0.records → ⊥
place_refused c n (given.Tag words) q sound e f alike = no_tag c n words q e
place_refused c n (given.Value v) q sound e f alike =
    let found = corrects c n v (kind.Place q) e in
    let named = renames found.value found.old q found.makes in
    none_refused c n named.old named.name sound (found.at ∙ ap Some named.was)
    (subst (λ (y : model.Place). IsReadAlike (replaced c n (kind.Place y)).0.records) (sym named.now) alike)
    (subst (λ (y : model.Place). name_passes c n y ≡ Err StillCarried) (sym named.now) f)

pub refuses_only_if_read : RefusesOnlyIfRead
refuses_only_if_read c n x r sound e f = by r e (then_err (paths_pass c n r) (replaced c n r) StillCarried
    (sym (ap (λ y. and_then y (λ s. and_then (paths_pass c n s) (λ _. Ok (replaced c n s)))) e) ∙ f))
  where
    by : (s : Record) → corrected_record c n x ≡ Ok s → paths_pass c n s ≡ Err StillCarried
        → IsReadAlike (replaced c n s).0.records → ⊥
    by (kind.Place q) g h alike = place_refused c n x q sound g h alike
    by (kind.Repo y) g h alike = absurd cc
    by (kind.Source y) g h alike = absurd cc
    by (kind.Person y) g h alike = absurd cc
    by (kind.Family y) g h alike = absurd cc
    by (kind.Event y) g h alike = absurd cc
    by (kind.Citation y) g h alike = absurd cc
    by (kind.Entry y) g h alike = absurd cc
    by (kind.Other y) g h alike = absurd cc
