-- Sets of numbers that get those that pass a test.
use Rattle.std.proofs.Common.{
  ◌≡◌,
  ◌<◌,
  ◌+◌,
  ℕ,
  List,
  [],
  ◌∷◌,
  Bool,
  true,
  false,
  cond,
  length,
  take,
  get_or,
  refl,
  sym,
  ap,
  subst,
  ◌∙◌,
}
use Rattle.std.specs.Prelude.{◌||◌, ◌==◌}
use Rattle.std.specs.BTreeMap.{is_at}
use Rattle.std.specs.BTreeSet as set
use Rattle.std.specs.BTreeSet.{BTreeSet}
use Rattle.std.specs.Cmp.{unsigned_tied}
use Rattle.std.specs.List.{list_any}
use Rattle.std.specs.Ordering.{nat_cmp}
use Rattle.std.proofs.lemmas.List.{take_more}
use Rattle.std.proofs.lemmas.List.Folds.{list_any-append}
use Rattle.plain_export.specs.LeftOut.{Gets}

or_no : (b : Bool) → b ≡ (b || false)
or_no true = refl
or_no false = refl

pub none_got : (s : BTreeSet ℕ) → Gets s s (λ _. false)
none_got s n = or_no (set.contains nat_cmp s n)

one : (b c : Bool) → cond b true c ≡ (c || b)
one true true = refl
one true false = refl
one false c = or_no c

pub one_got : (before after : BTreeSet ℕ) (k : ℕ)
    → ((q : ℕ) → set.contains nat_cmp after q ≡ cond (is_at (nat_cmp k) q) true (set.contains nat_cmp before q))
    → Gets before after (λ n. k == n)
one_got before after k h n =
    h n ∙ ap (λ b. cond b true (set.contains nat_cmp before n)) (unsigned_tied k n)
    ∙ one (k == n) (set.contains nat_cmp before n)

step : (p : ℕ → Bool) (ns : List ℕ) (i : ℕ) (a b : Bool) → i < length ns → b ≡ (a || p (get_or ns i 0))
    → a ≡ list_any p (take i ns) → b ≡ list_any p (take (i + 1) ns)
step p ns i a b less e f =
    let k = get_or ns i 0 in
    e ∙ ap (λ x. x || p k) f
    ∙ sym (ap (list_any p) (take_more ns i 0 less) ∙ list_any-append p (take i ns) (k ∷ [])
    ∙ ap (λ x. list_any p (take i ns) || x) (sym (or_no (p k))))

pub next_named : (p : ℕ → Bool) (ns xs : List ℕ) (i : ℕ) (a b : Bool) → xs ≡ ns → i < length xs
    → b ≡ (a || p (get_or xs i 0)) → a ≡ list_any p (take i ns) → b ≡ list_any p (take (i + 1) ns)
next_named p ns xs i a b same less e =
    subst (λ ks. a ≡ list_any p (take i ks) → b ≡ list_any p (take (i + 1) ks)) same (step p xs i a b less e)
