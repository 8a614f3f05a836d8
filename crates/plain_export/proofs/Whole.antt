-- The plain archive: there is one, and what is made is it.
use Rattle.std.proofs.Common.{◌≡◌, ◌++◌, ◌∷◌, [], ℕ, List, length, sym, ap, subst, ◌∙◌, map}
use Rattle.std.proofs.lemmas.List.{append-nil, append_assoc}
use Rattle.std.specs.Ordering.{nat_cmp}
use Rattle.std.specs.Prelude.{Option, Some, Result, Ok, Err, MatchResult}
use Rattle.std.specs.Cmp.{nat_cmp_total}
use Rattle.std.specs.FinMap.{empty, entries, get, get-empty, keys, nat_cmp-IsAntisymmetric, same_map}
use Rattle.record_text.specs.declared.refusal.Refusal.{Refusal}
use Rattle.record_text.specs.declared.refusal.RefusalKind.{RefusalKind}
use Rattle.record_kinds.specs.declared.record.Record.{Record}
use Rattle.record_shapes.specs.Shapes.{Around}
use Rattle.archive_state.specs.Content.{Records}
use Rattle.gedcom_export.specs.Around.{around}
use Rattle.gedcom_export.specs.Ends.{IsBegun, IsWhole}
use Rattle.gedcom_export.specs.Index.{Index, IsIndexOf}
use Rattle.gedcom_export.specs.Owned.{IsArrangedBy}
use Rattle.gedcom_export.specs.Shown.{around_in}
use Rattle.gedcom_export.proofs.Places.{paths_are}
use Rattle.plain_export.specs.Added.{added, lines_of}
use Rattle.plain_export.specs.Fitting.{IsPlainBegun}
use Rattle.plain_export.specs.Made.{AreMade, made_at, put_if}
use Rattle.plain_export.specs.Plain.{IsPlain, added_to, plain_at}
use Rattle.plain_export.specs.declared.added.Added.{Added}
use Rattle.plain_export.proofs.Among.{ArePut, all_made, one_more}
use Rattle.plain_export.proofs.Failing.{plain_reason}

-- what has to stand at more numbers can be put there
put_all : (at : ℕ → Option Record) (ns js : List ℕ) (made : Records) → ArePut at ns made
    → (all : Records) × ArePut at (ns ++ js) all
put_all at ns [] made h = (made, subst (λ ks. ArePut at ks made) (sym (append-nil ns)) h)
put_all at ns (j ∷ js) made h =
    let more = put_all at (ns ++ j ∷ []) js (put_if made j (at j)) (one_more at ns j made h) in
    (more.0, subst (λ ks. ArePut at ks more.0) (append_assoc ns (j ∷ []) js) more.1)

pub some_plain : (m : Records) → (p : Records) × IsPlain m p
some_plain m =
    let xs = added m (around m) in
    let none : ArePut (made_at m (around m) xs) [] empty = λ n. get-empty nat_cmp n in
    let all = put_all (made_at m (around m) xs) [] (keys m) empty none in
    (all.0, record { records = all_made m (around m) xs all.0 all.1 })

pub one_plain : (m p q : Records) → IsPlain m p → IsPlain m q → p ≡ q
one_plain m p q h k = same_map nat_cmp_total nat_cmp-IsAntisymmetric _ _ (λ n. h.records n ∙ sym (k.records n))

-- what stands in the plain archive where a record stands
pub there : (m p : Records) (n : ℕ) (r : Record) → IsPlain m p → get m n ≡ Some r
    → get p n ≡ plain_at m (around m) (added_to m n) (Some r)
there m p n r h at = h.records n ∙ ap (plain_at m (around m) (added_to m n)) at

-- an index shows what an archive does
pub same_around : (m : Records) (x : Index) → IsIndexOf (entries m) x → around_in x ≡ around m
same_around m x h = λ i. record {
  path = λ n. paths_are m x h.gathered n i;
  child_in = λ n. h.gathered.child_in n i;
  partner_in = λ n. h.gathered.partner_in n i;
}

-- what is added to a record is the same in any order of the records that it is added to
same_added : (m : Records) (a : Around) (xs : List Added) (n : ℕ)
    → IsArrangedBy (λ (x : Added). x.number) (added m a) xs → lines_of n xs ≡ lines_of n (added m a)
same_added m a xs n h = ap (map (λ (x : Added). x.line)) (h.same n)

pub made_is : (m made : Records) (x : Index) (xs : List Added) → IsIndexOf (entries m) x
    → IsArrangedBy (λ (y : Added). y.number) (added m (around_in x)) xs → AreMade m (around_in x) xs made
    → IsPlain m made
made_is m made x xs h sorted made_at = record {
  records = λ n. made_at n
      ∙ ap (λ more. plain_at m (around_in x) more (get m n)) (same_added m (around_in x) xs n sorted)
      ∙ ap (λ a. plain_at m a (lines_of n (added m a)) (get m n)) (same_around m x h);
}

-- how the export of a plain archive ends
begun : (m : Records) (old new : Option (List ℕ)) (t : List ℕ) (e : RefusalKind) → IsBegun old new t e
    → IsPlainBegun old new m t e
begun m old new t e h = record { reason = plain_reason m (length t) e h.reason; written = h.written }

pub ends : {A : Type 0} (m : Records) (r : Result A Refusal) (old new : Option (List ℕ)) (t u : List ℕ) → t ≡ u
    → MatchResult r (λ _. IsWhole old new t) (λ e. IsBegun old new t e.kind)
    → MatchResult r (λ _. IsWhole old new u) (λ e. IsPlainBegun old new m u e.kind)
ends m (Ok a) old new t u same h = subst (IsWhole old new) same h
ends m (Err e) old new t u same h =
    subst (λ (x : List ℕ). IsPlainBegun old new m x e.kind) same (begun m old new t e.kind h)
