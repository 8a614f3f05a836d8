-- Whether an entry of a key is among the records: what a look for the key answers is what the test on their list says.
use Rattle.std.proofs.Common.{
  ◌≡◌,
  ℕ,
  List,
  [],
  ◌∷◌,
  Bool,
  true,
  false,
  not,
  ◌&&◌,
  ◌||◌,
  ◌==◌,
  refl,
  sym,
  ap,
  subst,
  ◌∙◌,
  cond,
  eqb-true,
  eq-eqb,
}
use Rattle.std.specs.Prelude.{Option, Some, None, Result, Ok, Err, T, bytes_eq}
use Rattle.std.specs.Cmp.{nat_cmp_is, ranked}
use Rattle.std.specs.FinMap.{find, entries, entries_sorted, get-entries, is_sorted}
use Rattle.std.specs.FinMap.Entries.{below_all}
use Rattle.std.specs.List.{list_any}
use Rattle.std.specs.Ordering.{nat_cmp, is_eq}
use Rattle.std.specs.declared.cmp.Ordering.{Ordering}
use Rattle.std.specs.declared.cmp.Ordering.TheVariants.{Less, Equal, Greater}
use Rattle.std.proofs.lemmas.Bool.{and_parts}
use Rattle.record_text.specs.declared.refusal.RefusalKind.{RefusalKind}
use Rattle.record_text.specs.declared.refusal.RefusalKind.TheVariants.{DuplicateEntry}
use Rattle.record_fields.specs.Bytes.{bytes_same, bytes_are}
use Rattle.record_fields.specs.Words.{entry_kind_word}
use Rattle.record_fields.specs.declared.entry_words.EntryKind.{EntryKind}
use Rattle.record_fields.specs.declared.item.Item.{Item}
use Rattle.record_fields.proofs.Items.{same_item}
use Rattle.record_kinds.specs.Model as model
use Rattle.record_kinds.specs.declared.record.Record.{Record}
use Rattle.record_kinds.specs.declared.record.Record.TheVariants as kind
use Rattle.archive_state.specs.Content.{Records}
use Rattle.archive_state.specs.Entries.{HasKey, IsEntryAt}
use Rattle.archive_state.specs.Paths.{IsLowest}
use Rattle.command_checks.specs.Checks.{need}
use Rattle.command_checks.specs.Entries.{entry_in, is_like, key_is_free}
use Rattle.archive_state.proofs.Rising.{not_found}
use Rattle.record_fields.proofs.WordTexts.{same_kind}
use Rattle.list_laws.proofs.Booleans.{first_holds, rest_holds}

module _ (f : Record → Bool) where
  -- a record that stands at a number passes, and so one of the list does
  any_at : (n : ℕ) (r : Record) (es : List (ℕ × Record)) → find nat_cmp n es ≡ Some r → f r ≡ true
      → list_any (λ e. f e.1) es ≡ true
  any_at n r [] found h = absurd cc
  any_at n r (e ∷ es) found h =
      elim (f e.1) as (λ b. f e.1 ≡ b → (b || list_any (λ x. f x.1) es) ≡ true) [
        | true ↦ λ q. refl
        | false ↦ λ q.
            elim (nat_cmp n e.0) as (λ o. cond (is_eq o) (Some e.1) (find nat_cmp n es) ≡ Some r
            → list_any (λ x. f x.1) es ≡ true) [
              | Less ↦ λ g. any_at n r es g h
              | Equal ↦ λ g. let it : e.1 ≡ r = cc in let wrong : true ≡ false = sym h ∙ ap f (sym it) ∙ q in absurd cc
              | Greater ↦ λ g. any_at n r es g h
            ] found
      ] refl

  -- where one of the list passes, a record that stands at a number does
  at_any : (es : List (ℕ × Record)) → T (is_sorted nat_cmp es) → list_any (λ e. f e.1) es ≡ true
      → (n : ℕ) × (r : Record) × (find nat_cmp n es ≡ Some r) × (f r ≡ true)
  at_any [] rises h = absurd cc
  at_any (e ∷ es) rises h =
      elim (f e.1) as (λ b. f e.1 ≡ b → (b || list_any (λ x. f x.1) es) ≡ true
      → (n : ℕ) × (r : Record) × (cond (is_eq (nat_cmp n e.0)) (Some e.1) (find nat_cmp n es) ≡ Some r)
      × (f r ≡ true)) [
        | true ↦ λ q g. (
          e.0,
          e.1,
          ap (λ o. cond (is_eq o) (Some e.1) (find nat_cmp e.0 es))
              (sym (nat_cmp_is e.0 e.0 Equal refl)),
          q,
        )
        | false ↦ λ q g.
            let more = at_any es (rest_holds (below_all nat_cmp e.0 es) (is_sorted nat_cmp es) rises) g in
            let apart : (o : Ordering) → nat_cmp more.0 e.0 ≡ o → cond (is_eq o) (Some e.1)
            (find nat_cmp more.0 es) ≡ Some more.1 =
            λ o. elim o as (λ o. nat_cmp more.0 e.0 ≡ o → cond (is_eq o) (Some e.1) (find nat_cmp more.0 es)
            ≡ Some more.1) [
              | Less ↦ λ is. more.2
              | Equal ↦ λ is.
                  let same : more.0 ≡ e.0 = ranked more.0 e.0 Equal (sym is) in
                  let gone : find nat_cmp more.0 es ≡ None = ap (λ k. find nat_cmp k es) same
                  ∙ not_found e.0 es (first_holds (below_all nat_cmp e.0 es) (is_sorted nat_cmp es) rises) in
                  let wrong : None ≡ Some more.1 = sym gone ∙ more.2 in absurd cc
              | Greater ↦ λ is. more.2
            ] in
            (more.0, more.1, apart (nat_cmp more.0 e.0) refl, more.3)
      ] refl h

module _ (source : ℕ) (k : EntryKind) (page : List ℕ) (item : Item) where
  pub has_key : (e : model.Entry) → HasKey source k page item e → is_like source k page item (kind.Entry e) ≡ true
  has_key e (is, same, on, of) =
      ap (λ b. b && (bytes_eq (entry_kind_word e.kind) (entry_kind_word k) &&
      (bytes_eq e.page page && e.item.number == item.number))) (eq-eqb e.source source is)
      ∙ ap (λ b. b && (bytes_eq e.page page && e.item.number == item.number))
      (bytes_same (entry_kind_word e.kind) (entry_kind_word k) (ap entry_kind_word same))
      ∙ ap (λ b. b && e.item.number == item.number) (bytes_same e.page page on)
      ∙ eq-eqb e.item.number item.number (ap (λ (x : Item). x.number) of)

  pub key_of : (e : model.Entry) → is_like source k page item (kind.Entry e) ≡ true → HasKey source k page item e
  key_of e h =
      let rest = (and_parts (e.source == source)
      (bytes_eq (entry_kind_word e.kind) (entry_kind_word k) &&
      (bytes_eq e.page page && e.item.number == item.number)) h).1 in
      let last = (and_parts (bytes_eq (entry_kind_word e.kind) (entry_kind_word k))
      (bytes_eq e.page page && e.item.number == item.number) rest).1 in (
        eqb-true e.source source
            (and_parts (e.source == source) (bytes_eq (entry_kind_word e.kind) (entry_kind_word k) &&
            (bytes_eq e.page page && e.item.number == item.number)) h).0,
        same_kind e.kind k (bytes_are (entry_kind_word e.kind) (entry_kind_word k)
            (and_parts (bytes_eq (entry_kind_word e.kind) (entry_kind_word k))
            (bytes_eq e.page page && e.item.number == item.number) rest).0),
        bytes_are e.page page (and_parts (bytes_eq e.page page) (e.item.number == item.number) last).0,
        same_item e.item item
            (eqb-true e.item.number item.number
            (and_parts (bytes_eq e.page page) (e.item.number == item.number) last).1),
      )

  like_is : (r : Record) → is_like source k page item r ≡ true → (e : model.Entry) × (r ≡ kind.Entry e)
      × HasKey source k page item e
  like_is (kind.Entry e) h = (e, refl, key_of e h)
  like_is (kind.Place p) h = absurd cc
  like_is (kind.Repo p) h = absurd cc
  like_is (kind.Source p) h = absurd cc
  like_is (kind.Person p) h = absurd cc
  like_is (kind.Family p) h = absurd cc
  like_is (kind.Citation p) h = absurd cc
  like_is (kind.Event p) h = absurd cc
  like_is (kind.Other p) h = absurd cc

  like_there : (m : Records) (n : ℕ) → IsEntryAt m source k page item n → list_any (λ e. is_like source k page item e.1)
      (entries m) ≡ true
  like_there m n (e, at, key) = any_at (is_like source k page item) n (kind.Entry e) (entries m)
      (sym (get-entries m n) ∙ at) (has_key e key)

  there_like : (m : Records) → list_any (λ e. is_like source k page item e.1) (entries m) ≡ true
      → (n : ℕ) × IsEntryAt m source k page item n
  there_like m h =
      let one = at_any (is_like source k page item) (entries m) (entries_sorted m) h in
      let it = like_is one.1 one.3 in
      (one.0, (it.0, get-entries m one.0 ∙ one.2 ∙ ap Some it.1, it.2))

  -- where a look finds no entry of the key, the key is free; where it finds one, it is taken
  pub key_free : (m : Records) → IsLowest (λ n. IsEntryAt m source k page item n) None
      → key_is_free m source k page item ≡ Ok tt
  key_free m none =
      elim (list_any (λ e. is_like source k page item e.1) (entries m)) as (λ b. list_any
      (λ e. is_like source k page item e.1) (entries m) ≡ b
      → ◌≡◌ {A = Result (Unit {0}) RefusalKind} (need (not b) DuplicateEntry) (Ok tt)) [
        | true ↦ λ q. let one = there_like m q in absurd (none one.0 one.1)
        | false ↦ λ q. refl
      ] refl

  pub key_taken : (m : Records) (o : Option ℕ) (n : ℕ) → o ≡ Some n → IsLowest (λ j. IsEntryAt m source k page item j) o
      → key_is_free m source k page item ≡ Err DuplicateEntry
  key_taken m o n is found =
      let there = subst (IsLowest (λ j. IsEntryAt m source k page item j)) is found in
      rw (like_there m n there.0) refl

  -- where a key is free, no entry has it
  pub none_there : (m : Records) (u : Unit {0}) → key_is_free m source k page item ≡ Ok u → (n : ℕ)
      → IsEntryAt m source k page item n → ⊥
  none_there m u e n there =
      let taken : key_is_free m source k page item ≡ Err DuplicateEntry = rw (like_there m n there) refl in
      let wrong : ◌≡◌ {A = Result (Unit {0}) RefusalKind} (Err DuplicateEntry) (Ok u) = sym taken ∙ e in cc

pub entry_is_found : (o : Option Record) (x : model.Entry) → entry_in o ≡ Ok x → o ≡ Some (kind.Entry x)
entry_is_found None x e = absurd cc
entry_is_found (Some (kind.Place y)) x e = absurd cc
entry_is_found (Some (kind.Repo y)) x e = absurd cc
entry_is_found (Some (kind.Source y)) x e = absurd cc
entry_is_found (Some (kind.Person y)) x e = absurd cc
entry_is_found (Some (kind.Family y)) x e = absurd cc
entry_is_found (Some (kind.Citation y)) x e = absurd cc
entry_is_found (Some (kind.Event y)) x e = absurd cc
entry_is_found (Some (kind.Entry y)) x e = let same : y ≡ x = cc in ap (λ z. Some (kind.Entry z)) same
entry_is_found (Some (kind.Other y)) x e = absurd cc
