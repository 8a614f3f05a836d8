-- The numbers of the records whose rows show a tag.
use Rattle.std.proofs.Common.{◌≡◌, ◌==◌, ◌||◌, ◌∙◌, ℕ, Bool, true, false, List, [], ◌∷◌}
use Rattle.std.proofs.Common.{filter, cond, inl, refl, ap, arith, Result, Ok, IfOk, IfErr}
use Rattle.std.specs.Prelude.{Option, Some, None, is_some}
use Rattle.std.specs.BTreeSet as set
use Rattle.std.specs.BTreeSet.{BTreeSet}
use Rattle.std.specs.Cmp.{unsigned_tied}
use Rattle.std.specs.Ordering.{nat_cmp}
use Rattle.std.specs.FinMap.{contains_key-keys, get, keys}
use Rattle.std.specs.List.{list_any}
use Rattle.std.proofs.lemmas.Bool.{false≢true}
use Rattle.std.proofs.lemmas.Bool.Decides.{nat_tests}
use Rattle.std.proofs.lemmas.Result.{IfErr-weaker}
use Rattle.sqlite.specs.State.{State}
use Rattle.record_kinds.specs.declared.record.Record.{Record}
use Rattle.record_kinds.specs.declared.record.Record.TheVariants as kind
use Rattle.records.specs.Stored.{stored}
use Rattle.kind_views.specs.Kinds.{is_among, is_at, numbers_of}
use Rattle.kind_views.specs.declared.kinds.Kinds.{Kinds}
use Rattle.kind_views.specs.declared.kinds.Kinds.TheVariants as of
use Rattle.record_text.specs.declared.refusal.RefusalKind.{RefusalKind}
use Rattle.archive_state.specs.Content.{Content}
use Rattle.store_tables.specs.Keyed.{AreTagged, begin_with}
use Rattle.store_tables.specs.Looking.{IsFailure, Looks}
use Rattle.store_tables.specs.Rows.{Rows, lines_of}
use Rattle.store_tables.proofs.Calls.{if_ok}
use Rattle.store_rows.specs.Looking.{Sees}
use Rattle.store_rows.specs.Meaning.{IsRecordAt, Means}
use Rattle.store_rows.specs.Tagged.{is_tagged, numbers_tagged, tags_of}
use Rattle.store_rows.proofs.Ascending.{has_it}

-- ---- a look at rows, and then one at the records
pub sees_beside : {A B X : Type 0} {P : Rows → A → Type 0} {Q : Content → B → Type 0} {Is : Content → X → Type 0}
    {old mid new : State} {a : A} {b : B} (result : Result X RefusalKind) → Looks P old mid (Ok a)
    → Sees Q mid new (Ok b)
    → IfOk result (λ x. (rows : Rows) → P rows a → (c : Content) → Means rows c → Q c b → Is c x)
    → IfErr result (λ kind. IsFailure kind) → Sees Is old new result
sees_beside result h k ok err = record {
  read = λ clean. if_ok result (λ x is rows was c means. is rows (h.read (k.clean clean) rows was) c means
      (k.read clean rows (h.same (k.clean clean) rows was) c means)) ok;
  same = λ clean. if_ok result (λ x is rows was. k.same clean rows (h.same (k.clean clean) rows was)) ok;
  refused = λ clean. IfErr-weaker result _ _ (λ kind is rows was. inl is) err;
  crash = λ clean rows was. k.crash clean rows (h.same (k.clean clean) rows was);
  clean = λ clean. h.clean (k.clean clean);
}

-- ---- tests that are alike on the members of a list choose the same of it
or_right : (a b : Bool) → b ≡ true → (a || b) ≡ true
or_right true b e = refl
or_right false b e = e

itself : (n : ℕ) (b : Bool) → ((n == n) || b) ≡ true
itself n b = let is : (n == n) ≡ true = grind (arith, nat_tests) in ap (λ x. x || b) is

chosen_alike : (p q : ℕ → Bool) (ns : List ℕ) → ((n : ℕ) → list_any (λ k. k == n) ns ≡ true → p n ≡ q n)
    → filter p ns ≡ filter q ns
chosen_alike p q [] same = refl
chosen_alike p q (n ∷ ns) same =
    ap (λ b. cond b (n ∷ filter p ns) (filter p ns)) (same n (itself n (list_any (λ k. k == n) ns)))
    ∙ ap (λ ks. cond (q n) (n ∷ ks) ks)
    (chosen_alike p q ns (λ m is. same m (or_right (n == m) (list_any (λ k. k == m) ns) is)))

-- ---- a set with one number more
or_else : (b x : Bool) → cond b true x ≡ (x || b)
or_else true true = refl
or_else true false = refl
or_else false true = refl
or_else false false = refl

pub with_number : (v : ℕ) (old new : BTreeSet ℕ) → set.Updates nat_cmp old new v true → (q : ℕ)
    → set.contains nat_cmp new q ≡ (set.contains nat_cmp old q || (v == q))
with_number v old new h q =
    h.0 q ∙ ap (λ b. cond b true (set.contains nat_cmp old q)) (unsigned_tied v q)
    ∙ or_else (v == q) (set.contains nat_cmp old q)

-- ---- the numbers
tagged_at : (tags : List (List ℕ)) (rows : Rows) (n : ℕ) (found : Option Record) → IsRecordAt rows n found
    → is_some found ≡ true → begin_with tags (lines_of n rows) ≡ is_tagged tags found
tagged_at tags rows n None at has = absurd (false≢true has)
tagged_at tags rows n (Some r) at has = ap (begin_with tags) at.1

pub tagged_numbers : (tags : List (List ℕ)) (rows : Rows) (c : Content) (tagged : List ℕ) (has : ℕ → Bool)
    → Means rows c → AreTagged tags rows tagged → ((n : ℕ) → has n ≡ list_any (λ k. k == n) tagged)
    → filter has (keys c.records) ≡ numbers_tagged tags c
tagged_numbers tags rows c tagged has means are is =
    chosen_alike has (λ n. is_tagged tags (get c.records n)) (keys c.records) (λ n among.
    is n ∙ are n ∙ tagged_at tags rows n (get c.records n) (means.records n)
    (contains_key-keys c.records n ∙ has_it (keys c.records) n ∙ among))

-- ---- the words of kinds
of_kind : (kinds : Kinds) (r : Record) → begin_with (tags_of kinds) (stored r) ≡ is_among kinds r
of_kind of.Persons (kind.Person x) = refl
of_kind of.Persons (kind.Family x) = refl
of_kind of.Persons (kind.Event x) = refl
of_kind of.Persons (kind.Place x) = refl
of_kind of.Persons (kind.Repo x) = refl
of_kind of.Persons (kind.Source x) = refl
of_kind of.Persons (kind.Citation x) = refl
of_kind of.Persons (kind.Entry x) = refl
of_kind of.Persons (kind.Other x) = refl
of_kind of.Families (kind.Person x) = refl
of_kind of.Families (kind.Family x) = refl
of_kind of.Families (kind.Event x) = refl
of_kind of.Families (kind.Place x) = refl
of_kind of.Families (kind.Repo x) = refl
of_kind of.Families (kind.Source x) = refl
of_kind of.Families (kind.Citation x) = refl
of_kind of.Families (kind.Entry x) = refl
of_kind of.Families (kind.Other x) = refl
of_kind of.Events (kind.Person x) = refl
of_kind of.Events (kind.Family x) = refl
of_kind of.Events (kind.Event x) = refl
of_kind of.Events (kind.Place x) = refl
of_kind of.Events (kind.Repo x) = refl
of_kind of.Events (kind.Source x) = refl
of_kind of.Events (kind.Citation x) = refl
of_kind of.Events (kind.Entry x) = refl
of_kind of.Events (kind.Other x) = refl
of_kind of.Places (kind.Person x) = refl
of_kind of.Places (kind.Family x) = refl
of_kind of.Places (kind.Event x) = refl
of_kind of.Places (kind.Place x) = refl
of_kind of.Places (kind.Repo x) = refl
of_kind of.Places (kind.Source x) = refl
of_kind of.Places (kind.Citation x) = refl
of_kind of.Places (kind.Entry x) = refl
of_kind of.Places (kind.Other x) = refl
of_kind of.Repositories (kind.Person x) = refl
of_kind of.Repositories (kind.Family x) = refl
of_kind of.Repositories (kind.Event x) = refl
of_kind of.Repositories (kind.Place x) = refl
of_kind of.Repositories (kind.Repo x) = refl
of_kind of.Repositories (kind.Source x) = refl
of_kind of.Repositories (kind.Citation x) = refl
of_kind of.Repositories (kind.Entry x) = refl
of_kind of.Repositories (kind.Other x) = refl
of_kind of.Sources (kind.Person x) = refl
of_kind of.Sources (kind.Family x) = refl
of_kind of.Sources (kind.Event x) = refl
of_kind of.Sources (kind.Place x) = refl
of_kind of.Sources (kind.Repo x) = refl
of_kind of.Sources (kind.Source x) = refl
of_kind of.Sources (kind.Citation x) = refl
of_kind of.Sources (kind.Entry x) = refl
of_kind of.Sources (kind.Other x) = refl
of_kind of.Citations (kind.Person x) = refl
of_kind of.Citations (kind.Family x) = refl
of_kind of.Citations (kind.Event x) = refl
of_kind of.Citations (kind.Place x) = refl
of_kind of.Citations (kind.Repo x) = refl
of_kind of.Citations (kind.Source x) = refl
of_kind of.Citations (kind.Citation x) = refl
of_kind of.Citations (kind.Entry x) = refl
of_kind of.Citations (kind.Other x) = refl
of_kind of.Entries (kind.Person x) = refl
of_kind of.Entries (kind.Family x) = refl
of_kind of.Entries (kind.Event x) = refl
of_kind of.Entries (kind.Place x) = refl
of_kind of.Entries (kind.Repo x) = refl
of_kind of.Entries (kind.Source x) = refl
of_kind of.Entries (kind.Citation x) = refl
of_kind of.Entries (kind.Entry x) = refl
of_kind of.Entries (kind.Other x) = refl
of_kind of.Others (kind.Person x) = refl
of_kind of.Others (kind.Family x) = refl
of_kind of.Others (kind.Event x) = refl
of_kind of.Others (kind.Place x) = refl
of_kind of.Others (kind.Repo x) = refl
of_kind of.Others (kind.Source x) = refl
of_kind of.Others (kind.Citation x) = refl
of_kind of.Others (kind.Entry x) = refl
of_kind of.Others (kind.Other x) = refl
of_kind of.Named (kind.Person x) = refl
of_kind of.Named (kind.Family x) = refl
of_kind of.Named (kind.Event x) = refl
of_kind of.Named (kind.Place x) = refl
of_kind of.Named (kind.Repo x) = refl
of_kind of.Named (kind.Source x) = refl
of_kind of.Named (kind.Citation x) = refl
of_kind of.Named (kind.Entry x) = refl
of_kind of.Named (kind.Other x) = refl

at_kind : (kinds : Kinds) (found : Option Record) → is_tagged (tags_of kinds) found ≡ is_at kinds found
at_kind kinds None = refl
at_kind kinds (Some r) = of_kind kinds r

pub numbers_are : (kinds : Kinds) (c : Content) → numbers_tagged (tags_of kinds) c ≡ numbers_of kinds c
numbers_are kinds c =
    chosen_alike (λ n. is_tagged (tags_of kinds) (get c.records n)) (λ n. is_at kinds (get c.records n))
    (keys c.records) (λ n among. at_kind kinds (get c.records n))
