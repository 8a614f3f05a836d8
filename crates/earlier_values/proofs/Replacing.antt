-- The records that changes overwrite are all that they say.
use Rattle.std.proofs.Common.{
  ◌≡◌,
  ◌⊎◌,
  ℕ,
  ◌<◌,
  List,
  [],
  ◌∷◌,
  ◌++◌,
  Bool,
  true,
  false,
  refl,
  sym,
  ap,
  ◌∙◌,
  subst,
  map,
  inl,
  inr,
  ◌||◌,
  ◌==◌,
  cond,
  arith,
}
use Rattle.std.specs.Prelude.{◌≢◌, Option, Some, None}
use Rattle.std.specs.FinMap.{get, get-remove, insert, remove}
use Rattle.std.specs.List.{flat_map, list_any}
use Rattle.std.specs.Ordering.{nat_cmp, eq_by_cmp}
use Rattle.std.specs.Cmp.{nat_cmp_total}
use Rattle.std.proofs.lemmas.Bool.{eqb-false, eqb-true, or_parts}
use Rattle.std.proofs.lemmas.List.{append-nil}
use Rattle.record_kinds.specs.declared.record.Record.{Record}
use Rattle.record_shapes.specs.Lists.{Ascends, EachOf}
use Rattle.record_shapes.proofs.Each.{each_more}
use Rattle.list_laws.proofs.Numbers.{is_apart, itself, other_way}
use Rattle.archive_state.specs.Applied.{applied, with_puts, without}
use Rattle.archive_state.specs.Changes.{Changes}
use Rattle.archive_state.specs.Content.{Content, Records}
use Rattle.archive_state.specs.declared.changes.Numbered.{Numbered}
use Rattle.archive_state.proofs.Putting.{one_number, put_elsewhere, put_here}
use Rattle.command_checks.specs.Exact.{IsExact}
use Rattle.earlier_values.specs.Earlier.{found_at, replaced, standing, standing_at}
use Rattle.earlier_values.specs.Laws.{AreAllOverwritten, AreOverwritten, IsOverwritten}

abbrev number_of : Numbered → ℕ
number_of row = row.number

-- ---- what stands at ascending numbers
-- each number of what stands there is one of them
above : (m : Records) (k : ℕ) (ns : List ℕ) → EachOf (λ n. k < n) ns → EachOf (λ n. k < n)
    (map number_of (standing m ns))
above m k [] h = tt
above m k (n ∷ ns) h = by (get m n) (above m k ns h.1)
  where
    by : (o : Option Record) → EachOf (λ n. k < n) (map number_of (standing m ns))
        → EachOf (λ n. k < n) (map number_of (found_at n o ++ standing m ns))
    by None rest = rest
    by (Some r) rest = (h.0, rest)

ascend : (m : Records) (ns : List ℕ) → Ascends ns → Ascends (map number_of (standing m ns))
ascend m [] h = tt
ascend m (n ∷ ns) h = by (get m n) (ascend m ns h.1)
  where
    by : (o : Option Record) → Ascends (map number_of (standing m ns))
        → Ascends (map number_of (found_at n o ++ standing m ns))
    by None rest = rest
    by (Some r) rest = (above m n ns h.0, rest)

-- what stood at a number is no more there
abbrev IsGone : Records → Records → ℕ → Type 0
IsGone m after n = (r : Record) → get m n ≡ Some r → get after n ≢ Some r

each_gone : (m after : Records) (ns : List ℕ) → EachOf (IsGone m after) ns
    → EachOf (IsOverwritten m after) (standing m ns)
each_gone m after [] h = tt
each_gone m after (n ∷ ns) h = by (get m n) refl (each_gone m after ns h.1)
  where
    by : (o : Option Record) → get m n ≡ o → EachOf (IsOverwritten m after) (standing m ns)
        → EachOf (IsOverwritten m after) (found_at n o ++ standing m ns)
    by None e rest = rest
    by (Some r) e rest = ((e, h.0 r e), rest)

-- a number among them where a record stood is among what stands there
among : (m : Records) (ns : List ℕ) (n : ℕ) (r : Record) → get m n ≡ Some r → list_any (λ k. k == n) ns ≡ true
    → list_any (λ (row : Numbered). row.number == n) (standing m ns) ≡ true
among m [] n r at e = absurd cc
among m (k ∷ ns) n r at e = by (get m k) refl (k == n) refl e (among m ns n r at)
  where
    by : (o : Option Record) → get m k ≡ o → (b : Bool) → (k == n) ≡ b → (b || list_any (λ j. j == n) ns) ≡ true
        → (list_any (λ j. j == n) ns ≡ true → list_any (λ (row : Numbered). row.number == n) (standing m ns) ≡ true)
        → list_any (λ (row : Numbered). row.number == n) (found_at k o ++ standing m ns) ≡ true
    by (Some x) f true same h rest = rw same refl
    by (Some x) f false same h rest = rw same (rest h)
    by None f false same h rest = rest h
    by None f true same h rest =
        let both : Some r ≡ None = sym at ∙ ap (get m) (sym (eqb-true k n same)) ∙ f in absurd cc

-- a number is among others or not
is_among : (ns : List ℕ) (n : ℕ) → (list_any (λ k. k == n) ns ≡ true) ⊎ (list_any (λ k. k == n) ns ≡ false)
is_among ns n = by (list_any (λ k. k == n) ns)
  where
    by : (b : Bool) → (b ≡ true) ⊎ (b ≡ false)
    by true = inl refl
    by false = inr refl

-- at ascending numbers what stood is no more there, and all others stay
gone_at : (m after : Records) (ns : List ℕ) → Ascends ns → EachOf (IsGone m after) ns
    → ((n : ℕ) → list_any (λ k. k == n) ns ≡ false → get after n ≡ get m n) → AreOverwritten m after (standing m ns)
gone_at m after ns ascends gone stay = record {
  ascending = ascend m ns ascends;
  each = each_gone m after ns gone;
  all = λ n r at other. elim (is_among ns n) as (λ _. list_any (λ (row : Numbered). row.number == n) (standing m ns)
      ≡ true) [
        | inl there ↦ among m ns n r at there
        | inr none ↦ absurd (other (stay n none ∙ at))
      ];
}

-- ---- what puts leave
put_stays : (m : Records) (puts : List Numbered) (n : ℕ) → list_any (λ k. k == n) (map number_of puts) ≡ false
    → get (with_puts m puts) n ≡ get m n
put_stays m [] n e = refl
put_stays m (p ∷ puts) n e =
    let apart = or_parts (p.number == n) (list_any (λ k. k == n) (map number_of puts)) e in
    put_stays (insert m p.number p.«record») puts n apart.1
    ∙ put_elsewhere m p.number p.«record» n (λ same. eqb-false p.number n apart.0 (sym same))

-- a number before all others is not among them
before_all : (n : ℕ) (ns : List ℕ) → EachOf (λ k. n < k) ns → list_any (λ k. k == n) ns ≡ false
before_all n [] h = refl
before_all n (k ∷ ns) h =
    ap (λ b. b || list_any (λ j. j == n) ns) (other_way n k false (is_apart n k h.0)) ∙ before_all n ns h.1

puts_stand : (m : Records) (puts : List Numbered) → Ascends (map number_of puts)
    → EachOf (λ (p : Numbered). get (with_puts m puts) p.number ≡ Some p.«record») puts
puts_stand m [] h = tt
puts_stand m (p ∷ puts) h = (
  put_stays (insert m p.number p.«record») puts p.number (before_all p.number (map number_of puts) h.0)
      ∙ put_here m p.number p.«record»,
  puts_stand (insert m p.number p.«record») puts h.1,
)

-- so each number that gets another record has not the one of before
puts_gone : (m after : Records) (puts : List Numbered)
    → EachOf (λ (p : Numbered). get after p.number ≡ Some p.«record») puts
    → EachOf (λ (p : Numbered). get m p.number ≢ Some p.«record») puts → EachOf (IsGone m after) (map number_of puts)
puts_gone m after [] there other = tt
puts_gone m after (p ∷ puts) there other = (
  (λ r at same.
      let both : Some p.«record» ≡ Some r = sym there.0 ∙ same in
      other.0 (at ∙ sym both)),
  puts_gone m after puts there.1 other.1,
)

replaced_standing : (m : Records) (puts : List Numbered) → replaced m puts ≡ standing m (map number_of puts)
replaced_standing m [] = refl
replaced_standing m (p ∷ puts) = ap (λ l. standing_at m p.number ++ l) (replaced_standing m puts)

-- ---- what removals leave
removed_at : (m : Records) (k n : ℕ) (b : Bool) → eq_by_cmp nat_cmp n k ≡ b → get (remove m k) n
    ≡ cond b None (get m n)
removed_at m k n b e = get-remove nat_cmp_total m k n ∙ ap (λ x. cond x None (get m n)) e

none_without : (m : Records) (ns : List ℕ) (n : ℕ) → get m n ≡ None → get (without m ns) n ≡ None
none_without m [] n e = e
none_without m (k ∷ ns) n e = none_without (remove m k) ns n (by (eq_by_cmp nat_cmp n k) refl)
  where
    by : (b : Bool) → eq_by_cmp nat_cmp n k ≡ b → get (remove m k) n ≡ None
    by true f = removed_at m k n true f
    by false f = removed_at m k n false f ∙ e

none_left : (m : Records) (ns : List ℕ) → EachOf (λ n. get (without m ns) n ≡ None) ns
none_left m [] = tt
none_left m (k ∷ ns) = (none_without (remove m k) ns k (removed_at m k k true (itself k)), none_left (remove m k) ns)

stay_without : (m : Records) (ns : List ℕ) (n : ℕ) → list_any (λ k. k == n) ns ≡ false
    → get (without m ns) n ≡ get m n
stay_without m [] n e = refl
stay_without m (k ∷ ns) n e =
    let apart = or_parts (k == n) (list_any (λ j. j == n) ns) e in
    stay_without (remove m k) ns n apart.1 ∙ by apart.0 (eq_by_cmp nat_cmp n k) refl
  where
    by : (k == n) ≡ false → (b : Bool) → eq_by_cmp nat_cmp n k ≡ b → get (remove m k) n ≡ get m n
    by other true f = absurd (eqb-false k n other (sym (one_number n k f)))
    by other false f = removed_at m k n false f

nothing_there : (m after : Records) (n : ℕ) → get after n ≡ None → IsGone m after n
nothing_there m after n none r at same = let both : None ≡ Some r = sym none ∙ same in absurd cc

-- ---- changes
by_puts : (m : Records) (puts : List Numbered) → Ascends (map number_of puts)
    → EachOf (λ (p : Numbered). get m p.number ≢ Some p.«record») puts
    → AreOverwritten m (with_puts m puts) (replaced m puts ++ [])
by_puts m puts ascends other =
    subst (AreOverwritten m (with_puts m puts)) (sym (append-nil (replaced m puts) ∙ replaced_standing m puts))
    (gone_at m (with_puts m puts) (map number_of puts) ascends
    (puts_gone m (with_puts m puts) puts (puts_stand m puts ascends) other) (put_stays m puts))

by_removals : (m : Records) (ns : List ℕ) → Ascends ns → AreOverwritten m (without m ns) (standing m ns)
by_removals m ns ascends =
    gone_at m (without m ns) ns ascends
    (each_more (λ n. get (without m ns) n ≡ None) (IsGone m (without m ns)) (nothing_there m (without m ns)) ns
    (none_left m ns)) (stay_without m ns)

pub all_overwritten : AreAllOverwritten
all_overwritten c changes sound exact (inr none) =
    subst (λ ns. AreOverwritten c.records (without (with_puts c.records changes.puts) ns)
    (replaced c.records changes.puts ++ standing c.records ns)) (sym none)
    (by_puts c.records changes.puts (exact.puts sound) (exact.new sound))
all_overwritten c changes sound exact (inl none) =
    subst (λ (ps : List Numbered). AreOverwritten c.records (without (with_puts c.records ps) changes.removals)
    (replaced c.records ps ++ standing c.records changes.removals)) (sym none)
    (by_removals c.records changes.removals exact.removals)
