-- The keys of the entries at the first of some numbers.
use Rattle.std.proofs.Common.{
  ◌≡◌,
  ℕ,
  zero,
  suc,
  ◌+◌,
  ◌<◌,
  List,
  [],
  ◌∷◌,
  length,
  take,
  get_or,
  Bool,
  true,
  false,
  not,
  ◌||◌,
  ◌==◌,
  refl,
  sym,
  ap,
  subst,
  ◌∙◌,
  cond,
  arith,
  eqb-true,
  eq-eqb,
}
use Rattle.std.specs.Prelude.{Option, Some, None, bytes_eq}
use Rattle.std.proofs.lemmas.List.{take_more}
use Rattle.std.proofs.lemmas.List.Folds.{list_any-append}
use Rattle.std.specs.BTreeSet.{BTreeSet, contains_text}
use Rattle.std.specs.List.{list_any}
use Rattle.std.specs.FinMap.{get}
use Rattle.std.specs.declared.string.String.{String}
use Rattle.record_fields.specs.Bytes.{bytes_are, bytes_same}
use Rattle.record_kinds.specs.Model as model
use Rattle.record_kinds.specs.declared.record.Record.{Record}
use Rattle.record_kinds.specs.declared.record.Record.TheVariants as kind
use Rattle.record_shapes.specs.Lists.{Ascends, EachOf}
use Rattle.archive_state.specs.Content.{Records}
use Rattle.sound_records.specs.Knowing.{HasAll}
use Rattle.sound_records.proofs.Surveyed.{is_in}
use Rattle.sound_records.specs.Keys.{Adds, AddsKey, AreApart, HasTaken, IsKeyed, entry_in, has_words, key_words}
use Rattle.sound_records.proofs.Worded.{same_key, same_words}
use Rattle.list_laws.proofs.Booleans.{or_right, or_nothing}

-- each of these entries has a key of its own, and the set has their keys
pub record AreKeyed {Y : Type 0} (keys : BTreeSet (String Y)) (m : Records) (front : List ℕ) : Type 0 where
  pub keyed : IsKeyed keys m front
  pub fits : (n : ℕ) (e : model.Entry) → is_in front n ≡ true → entry_in (get m n) ≡ Some e → e.source < 4294967296
  pub apart : (n k : ℕ) (e f : model.Entry) → is_in front n ≡ true → is_in front k ≡ true
      → entry_in (get m n) ≡ Some e → entry_in (get m k) ≡ Some f → key_words f ≡ key_words e → n ≡ k

pub none_keyed : {Y : Type 0} (keys : BTreeSet (String Y)) (m : Records)
    → ((words : List ℕ) → contains_text keys words ≡ false) → AreKeyed keys m []
none_keyed keys m h = record {
  keyed = h;
  fits = λ n e is. absurd cc;
  apart = λ n k e f is. absurd cc;
}

-- ---- a set with one more
pub or_set : (a o : Bool) (n : Bool) → n ≡ cond a true o → n ≡ (o || a)
or_set true true n e = e
or_set true false n e = e
or_set false true n e = e
or_set false false n e = e

-- one of two holds
either_of : (a b : Bool) → (a || b) ≡ true → (P : Type 0) → (a ≡ true → P) → (b ≡ true → P) → P
either_of true b e P f g = f refl
either_of false b e P f g = g e

-- what an element of the list says
some_has : (p : ℕ → Bool) (ns : List ℕ) → list_any p ns ≡ true → (n : ℕ) × (is_in ns n ≡ true) × (p n ≡ true)
some_has p [] e = absurd cc
some_has p (n ∷ ns) e = elim (p n) as (λ b. p n ≡ b → (b || list_any p ns) ≡ true
    → (k : ℕ) × (is_in (n ∷ ns) k ≡ true) × (p k ≡ true)) [
      | true ↦ λ is _. (n, ap (λ b. b || is_in ns n) (eq-eqb n n refl), is)
      | false ↦ λ _ rest. let h = some_has p ns rest in
          (h.0, or_right (n == h.0) (is_in ns h.0) h.1, h.2)
    ] refl e

has_some : (p : ℕ → Bool) (ns : List ℕ) (n : ℕ) → is_in ns n ≡ true → p n ≡ true → list_any p ns ≡ true
has_some p [] n e h = absurd cc
has_some p (k ∷ ns) n e h = elim (k == n) as (λ b. (k == n) ≡ b → (b || is_in ns n) ≡ true
    → (p k || list_any p ns) ≡ true) [
      | true ↦ λ same _. ap (λ b. b || list_any p ns) (subst (λ x. p x ≡ true) (sym (eqb-true k n same)) h)
      | false ↦ λ _ rest. or_right (p k) (list_any p ns) (has_some p ns n rest h)
    ] refl e

-- an entry that has these words
entry_with : (words : List ℕ) (o : Option model.Entry) → has_words words o ≡ true
    → (e : model.Entry) × (o ≡ Some e) × (key_words e ≡ words)
entry_with words None h = absurd cc
entry_with words (Some e) h = (e, refl, bytes_are (key_words e) words h)

words_at : (o : Option model.Entry) (e : model.Entry) (words : List ℕ) → o ≡ Some e → key_words e ≡ words
    → has_words words o ≡ true
words_at o e words is same = ap (has_words words) is ∙ bytes_same (key_words e) words same

entry_is : (o : Option Record) (e : model.Entry) → entry_in o ≡ Some e → o ≡ Some (kind.Entry e)
entry_is (Some (kind.Entry f)) e h = let same : f ≡ e = cc in ap (λ x. Some (kind.Entry x)) same
entry_is (Some (kind.Place f)) e h = absurd cc
entry_is (Some (kind.Repo f)) e h = absurd cc
entry_is (Some (kind.Source f)) e h = absurd cc
entry_is (Some (kind.Person f)) e h = absurd cc
entry_is (Some (kind.Family f)) e h = absurd cc
entry_is (Some (kind.Citation f)) e h = absurd cc
entry_is (Some (kind.Event f)) e h = absurd cc
entry_is (Some (kind.Other f)) e h = absurd cc
entry_is None e h = absurd cc

-- no number stands twice among some that ascend
pub in_list : (P : ℕ → Type 0) (ns : List ℕ) (q : ℕ) → EachOf P ns → is_in ns q ≡ true → P q
in_list P [] q h e = absurd cc
in_list P (n ∷ ns) q h e = elim (n == q) as (λ b. (n == q) ≡ b → (b || is_in ns q) ≡ true → P q) [
  | true ↦ λ same _. subst P (eqb-true n q same) h.0
  | false ↦ λ _ rest. in_list P ns q h.1 rest
] refl e

before_is : (ns : List ℕ) (i q : ℕ) → Ascends ns → i < length ns → is_in (take i ns) q ≡ true → q < get_or ns i 0
before_is [] i q asc less e = absurd (omega arith)
before_is (n ∷ ns) zero q asc less e = absurd cc
before_is (n ∷ ns) (suc i) q asc less e = elim (n == q) as (λ b. (n == q) ≡ b → (b || is_in (take i ns) q) ≡ true
    → q < get_or ns i 0) [
      | true ↦ λ same _. subst (λ x. x < get_or ns i 0) (eqb-true n q same) (each_at ns i asc.0 (omega arith))
      | false ↦ λ _ rest. before_is ns i q asc.1 (omega arith) rest
    ] refl e
  where
    each_at : (ks : List ℕ) (j : ℕ) → EachOf (λ x. n < x) ks → j < length ks → n < get_or ks j 0
    each_at [] j h l = absurd (omega arith)
    each_at (k ∷ ks) zero h l = h.0
    each_at (k ∷ ks) (suc j) h l = each_at ks j h.1 (omega arith)

-- ---- one number more
more_any : (p : ℕ → Bool) (ns : List ℕ) (i : ℕ) → i < length ns
    → list_any p (take (i + 1) ns) ≡ (list_any p (take i ns) || p (get_or ns i 0))
more_any p ns i less = ap (list_any p) (take_more ns i 0 less)
    ∙ list_any-append p (take i ns) (get_or ns i 0 ∷ []) ∙ ap (λ b. list_any p (take i ns) || b) (or_nothing _)

not_true : (b : Bool) → true ≡ not b → b ≡ true → ⊥
not_true true e h = absurd cc
not_true false e h = absurd cc

is_true : (b : Bool) → false ≡ not b → b ≡ true
is_true true e = refl
is_true false e = absurd cc

module _ {Y : Type 0} (m : Records) (ns : List ℕ) (asc : Ascends ns) (i : ℕ) (less : i < length ns)
    (old : BTreeSet (String Y)) (h : AreKeyed old m (take i ns)) where
  there : (n : ℕ) → is_in (take (i + 1) ns) n ≡ true → (P : Type 0) → (is_in (take i ns) n ≡ true → P)
      → (get_or ns i 0 ≡ n → P) → P
  there n is P f g = either_of (is_in (take i ns) n) (get_or ns i 0 == n)
      (sym (more_any (λ k. k == n) ns i less) ∙ is) P f (λ e. g (eqb-true (get_or ns i 0) n e))

  -- what the set has, an entry in front has
  in_set : (words : List ℕ) (n : ℕ) (f : model.Entry) → is_in (take i ns) n ≡ true → entry_in (get m n) ≡ Some f
      → key_words f ≡ words → contains_text old words ≡ true
  in_set words n f is at same = h.keyed words
      ∙ has_some (λ k. has_words words (entry_in (get m k))) (take i ns) n is (words_at (entry_in (get m n)) f words at
      same)

  module _ (new : BTreeSet (String Y)) where
    -- no entry stands there
    without : entry_in (get m (get_or ns i 0)) ≡ None → Adds old new None true → AreKeyed new m (take (i + 1) ns)
    without none adds = record {
      keyed = λ words. adds.1 words ∙ h.keyed words ∙ no_more words;
      fits = λ n e is at. there n is (e.source < 4294967296) (λ before. h.fits n e before at)
          (λ same. absurd (not_there n e same at));
      apart = λ n k e f is_n is_k at_n at_k same. there n is_n (n ≡ k)
          (λ before. there k is_k (n ≡ k) (λ too. h.apart n k e f before too at_n at_k same)
          (λ now. absurd (not_there k f now at_k)))
          (λ now. absurd (not_there n e now at_n));
    }
      where
        not_there : (n : ℕ) (e : model.Entry) → get_or ns i 0 ≡ n → entry_in (get m n) ≡ Some e → ⊥
        not_there n e same at =
            let both : None ≡ Some e = sym none ∙ ap (λ k. entry_in (get m k)) same ∙ at in absurd cc

        no_more : (words : List ℕ) → list_any (λ n. has_words words (entry_in (get m n))) (take i ns)
            ≡ list_any (λ n. has_words words (entry_in (get m n))) (take (i + 1) ns)
        no_more words = sym (or_nothing _)
            ∙ ap (λ b. list_any (λ n. has_words words (entry_in (get m n))) (take i ns) || b)
            (sym (ap (has_words words) none))
            ∙ sym (more_any (λ n. has_words words (entry_in (get m n))) ns i less)

    module _ (e : model.Entry) (is : entry_in (get m (get_or ns i 0)) ≡ Some e) where
      same_entry : (n : ℕ) (f : model.Entry) → get_or ns i 0 ≡ n → entry_in (get m n) ≡ Some f → e ≡ f
      same_entry n f same at =
          let both : Some e ≡ Some f = sym is ∙ ap (λ k. entry_in (get m k)) same ∙ at in cc

      -- an entry stands there, whose key is new
      with_new : AddsKey old new e true → AreKeyed new m (take (i + 1) ns)
      with_new adds = record {
        keyed = λ words. adds.added words
            ∙ ap (λ b. b || bytes_eq (key_words e) words) (h.keyed words)
            ∙ ap (λ b. list_any (λ n. has_words words (entry_in (get m n))) (take i ns) || b)
            (sym (ap (has_words words) is))
            ∙ sym (more_any (λ n. has_words words (entry_in (get m n))) ns i less);
        fits = λ n f in_n at. there n in_n (f.source < 4294967296) (λ before. h.fits n f before at)
            (λ same. subst (λ (x : model.Entry). x.source < 4294967296) (same_entry n f same at) adds.fits);
        apart = λ n k f g in_n in_k at_n at_k same. there n in_n (n ≡ k)
            (λ before. there k in_k (n ≡ k) (λ too. h.apart n k f g before too at_n at_k same)
            (λ now. absurd (not_true (contains_text old (key_words e)) adds.told
            (in_set (key_words e) n f before at_n (sym same ∙ ap key_words (sym (same_entry k g now at_k)))))))
            (λ here. there k in_k (n ≡ k) (λ too. absurd (not_true (contains_text old (key_words e)) adds.told
            (in_set (key_words e) k g too at_k (same ∙ ap key_words (sym (same_entry n f here at_n))))))
            (λ now. sym here ∙ now));
      }

      -- an entry stands there, whose key another in front has
      is_taken : AddsKey old new e false → HasTaken m (get_or ns i 0)
      is_taken adds =
          let found = some_has (λ n. has_words (key_words e) (entry_in (get m n))) (take i ns)
          (sym (h.keyed (key_words e)) ∙ is_true (contains_text old (key_words e)) adds.told) in
          let f = entry_with (key_words e) (entry_in (get m found.0)) found.2 in (
            e,
            entry_is (get m (get_or ns i 0)) e is,
            (
              found.0,
              (f.0, entry_is (get m found.0) f.0 f.1, same_key e f.0 adds.fits (h.fits found.0 f.0 found.1 f.1) f.2),
              λ same. not_less (get_or ns i 0) found.0 same (before_is ns i found.0 asc less found.1),
            ),
          )
        where
          not_less : (a b : ℕ) → a ≡ b → b < a → ⊥
          not_less a b e l = omega arith

    pub one_keyed : Adds old new (entry_in (get m (get_or ns i 0))) true → AreKeyed new m (take (i + 1) ns)
    one_keyed adds = elim (entry_in (get m (get_or ns i 0))) as (λ o. entry_in (get m (get_or ns i 0)) ≡ o
        → Adds old new o true → AreKeyed new m (take (i + 1) ns)) [
          | None ↦ λ none a. without none a
          | (Some e) ↦ λ is a. with_new e is a
        ] refl adds

    pub one_taken : Adds old new (entry_in (get m (get_or ns i 0))) false → HasTaken m (get_or ns i 0)
    one_taken adds = elim (entry_in (get m (get_or ns i 0))) as (λ o. entry_in (get m (get_or ns i 0)) ≡ o
        → Adds old new o false → HasTaken m (get_or ns i 0)) [
          | None ↦ λ none a. absurd (not_so a.0)
          | (Some e) ↦ λ is a. is_taken e is a
        ] refl adds
      where
        not_so : false ≡ true → ⊥
        not_so e = absurd cc

-- ---- all of them
pub all_apart : {Y : Type 0} (keys : BTreeSet (String Y)) (m : Records) (ns : List ℕ) → HasAll ns m
    → AreKeyed keys m ns → AreApart m
all_apart keys m ns all h n k e at (f, other, key) =
    h.apart n k e f (all n (kind.Entry e) at) (all k (kind.Entry f) other) (ap entry_in at) (ap entry_in other)
    (same_words e f key)
