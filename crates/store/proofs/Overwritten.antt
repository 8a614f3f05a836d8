-- The values that a request overwrites, and the rows that are added for them.
use Rattle.std.proofs.Common.{
  ◌≡◌,
  ◌≢◌,
  ◌∙◌,
  ◌||◌,
  ℕ,
  Bool,
  true,
  false,
  List,
  [],
  ◌∷◌,
  ◌++◌,
  map,
  Option,
  None,
  Some,
  refl,
  sym,
  ap,
  subst,
  append_assoc,
}
use Rattle.std.specs.Prelude.{◌==◌, if◌then◌else◌}
use Rattle.std.specs.FinMap.{get, insert, remove}
use Rattle.std.specs.List.{flat_map, list_any}
use Rattle.std.proofs.lemmas.Bool.{eqb-false, eqb-true, or_parts}
use Rattle.std.proofs.lemmas.Grind.{flat_map-append}
use Rattle.std.proofs.lemmas.List.{append-nil}
use Rattle.list_laws.proofs.Booleans.{or_none}
use Rattle.list_laws.proofs.Numbers.{other_way}
use Rattle.archive_core.specs.Machine.{Done}
use Rattle.archive_core.specs.declared.request.Request.{Request}
use Rattle.archive_state.specs.Applied.{applied, with_puts, without}
use Rattle.archive_state.specs.Changes.{Changes}
use Rattle.archive_state.specs.Content.{Content, Records}
use Rattle.archive_state.specs.Sound.{IsSound}
use Rattle.archive_state.specs.declared.changes.Kept.{Kept}
use Rattle.archive_state.specs.declared.changes.Numbered.{Numbered}
use Rattle.archive_state.proofs.Putting.{put_elsewhere}
use Rattle.command_checks.specs.Exact.{IsExact, put_numbers}
use Rattle.earlier_values.specs.Earlier.{earlier, found_at, replaced, standing, standing_at}
use Rattle.earlier_values.specs.Laws.{IsOverwritten}
use Rattle.import_commits.specs.Commits.{IsAddition, IsBegun}
use Rattle.record_kinds.specs.declared.record.Record.{Record}
use Rattle.record_shapes.specs.Lists.{EachOf, IsOnce}
use Rattle.record_shapes.proofs.Each.{each_both, each_mapped, each_more, each_zip, has, once_ascending}
use Rattle.staged_rows.specs.Staging.{
  StagedRow,
  a_link,
  a_pack,
  a_record,
  a_sought,
  a_span,
  with_published,
  with_staged,
  with_staged_row,
}
use Rattle.staging.specs.Opened.{Import}
use Rattle.store_rows.specs.Pasts.{AddsPasts, HasMorePasts, IsPastRow, with_all_changes}
use Rattle.store_rows.specs.Spans.{Drawn}
use Rattle.store_rows.specs.Writing.{with_kept_written}
use Rattle.store_rows.proofs.PastsAside.{all_adds}
use Rattle.store_tables.specs.Conversion.{EachWith}
use Rattle.store_tables.specs.Rows.{PastRow, Rows, with_batch, with_closed, with_next}
use Rattle.store.specs.Calls.{RunsOn}
use Rattle.store.specs.Overwritten.{AddsValues, AreKept, AreValuesOfBefore, keeps_past, kept_values}
use Rattle.store.proofs.Unchanged.{gone, left_at, put_there}

abbrev number_of : Numbered → ℕ
number_of v = v.number

-- ---- lists of numbers that have none in common
has_neither : (n : ℕ) (xs ys : List ℕ) → has n xs ≡ false → has n ys ≡ false → has n (xs ++ ys) ≡ false
has_neither n [] ys e f = f
has_neither n (x ∷ xs) ys e f =
    let parts = or_parts (x == n) (has n xs) e in
    or_none (x == n) (has n (xs ++ ys)) parts.0 (has_neither n xs ys parts.1 f)

not_first : (x : ℕ) (xs ys : List ℕ) → EachOf (λ y. has y (x ∷ xs) ≡ false) ys → has x ys ≡ false
not_first x xs [] h = refl
not_first x xs (y ∷ ys) h =
    or_none (y == x) (has x ys) (other_way x y false (or_parts (x == y) (has y xs) h.0).0) (not_first x xs ys h.1)

once_both : (xs ys : List ℕ) → IsOnce xs → IsOnce ys → EachOf (λ y. has y xs ≡ false) ys → IsOnce (xs ++ ys)
once_both [] ys o p h = p
once_both (x ∷ xs) ys o p h = (
  has_neither x xs ys o.0 (not_first x xs ys h),
  once_both xs ys o.1 p (each_more (λ y. has y (x ∷ xs) ≡ false) (λ y. has y xs ≡ false)
      (λ y e. (or_parts (x == y) (has y xs) e).1) ys h),
)

-- ---- what stands at numbers of which each is there once
none_more : (m : Records) (n : ℕ) (ks : List ℕ) → has n ks ≡ false → has n (map number_of (standing m ks)) ≡ false
none_more m n [] e = refl
none_more m n (k ∷ ks) e =
    let parts = or_parts (k == n) (has n ks) e in
    by (get m k) parts.0 (none_more m n ks parts.1)
  where
    by : (o : Option Record) → (k == n) ≡ false → has n (map number_of (standing m ks)) ≡ false
        → has n (map number_of (found_at k o ++ standing m ks)) ≡ false
    by None other rest = rest
    by (Some r) other rest = or_none (k == n) (has n (map number_of (standing m ks))) other rest

once_standing : (m : Records) (ks : List ℕ) → IsOnce ks → IsOnce (map number_of (standing m ks))
once_standing m [] h = tt
once_standing m (k ∷ ks) h = by (get m k) (once_standing m ks h.1)
  where
    by : (o : Option Record) → IsOnce (map number_of (standing m ks))
        → IsOnce (map number_of (found_at k o ++ standing m ks))
    by None rest = rest
    by (Some r) rest = (none_more m k ks h.0, rest)

-- what stood at a number is no more there
abbrev IsGone : Records → Records → ℕ → Type 0
IsGone m after n = (r : Record) → get m n ≡ Some r → get after n ≢ Some r

each_gone : (m after : Records) (ks : List ℕ) → EachOf (IsGone m after) ks
    → EachOf (IsOverwritten m after) (standing m ks)
each_gone m after [] h = tt
each_gone m after (k ∷ ks) h = by (get m k) refl (each_gone m after ks h.1)
  where
    by : (o : Option Record) → get m k ≡ o → EachOf (IsOverwritten m after) (standing m ks)
        → EachOf (IsOverwritten m after) (found_at k o ++ standing m ks)
    by None e rest = rest
    by (Some r) e rest = ((e, h.0 r e), rest)

-- a number among them where a record stood is among what stands there
among : (m : Records) (ks : List ℕ) (n : ℕ) (r : Record) → get m n ≡ Some r → has n ks ≡ true
    → list_any (λ (v : Numbered). v.number == n) (standing m ks) ≡ true
among m [] n r at e = absurd cc
among m (k ∷ ks) n r at e = by (get m k) refl (k == n) refl e (among m ks n r at)
  where
    by : (o : Option Record) → get m k ≡ o → (b : Bool) → (k == n) ≡ b → (b || has n ks) ≡ true
        → (has n ks ≡ true → list_any (λ (v : Numbered). v.number == n) (standing m ks) ≡ true)
        → list_any (λ (v : Numbered). v.number == n) (found_at k o ++ standing m ks) ≡ true
    by (Some x) f true same h rest = rw same refl
    by (Some x) f false same h rest = rw same (rest h)
    by None f false same h rest = rest h
    by None f true same h rest =
        let both : Some r ≡ None = sym at ∙ ap (get m) (sym (eqb-true k n same)) ∙ f in absurd cc

of_numbers : (m after : Records) (ks : List ℕ) → IsOnce ks → EachOf (IsGone m after) ks
    → ((n : ℕ) → has n ks ≡ false → get after n ≡ get m n) → AreValuesOfBefore m after (standing m ks)
of_numbers m after ks once none stay = record {
  once = once_standing m ks once;
  each = each_gone m after ks none;
  all = λ v over. by v over (has v.number ks) refl;
}
  where
    by : (v : Numbered) → IsOverwritten m after v → (b : Bool) → has v.number ks ≡ b
        → list_any (λ (w : Numbered). w.number == v.number) (standing m ks) ≡ true
    by v over true e = among m ks v.number v.«record» over.0 e
    by v over false e = absurd (over.1 (stay v.number e ∙ over.0))

-- ---- what changes leave
put_stays : (m : Records) (puts : List Numbered) (n : ℕ) → has n (map number_of puts) ≡ false
    → get (with_puts m puts) n ≡ get m n
put_stays m [] n e = refl
put_stays m (p ∷ puts) n e =
    let apart = or_parts (p.number == n) (has n (map number_of puts)) e in
    put_stays (insert m p.number p.«record») puts n apart.1
    ∙ put_elsewhere m p.number p.«record» n (λ same. eqb-false p.number n apart.0 (sym same))

are_others : (n : ℕ) (ks : List ℕ) → has n ks ≡ false → EachOf (λ k. k ≢ n) ks
are_others n [] e = tt
are_others n (k ∷ ks) e =
    let parts = or_parts (k == n) (has n ks) e in
    (eqb-false k n parts.0, are_others n ks parts.1)

in_parts : (n : ℕ) (ks js : List ℕ) → has n (ks ++ js) ≡ false → (has n ks ≡ false) × (has n js ≡ false)
in_parts n [] js e = (refl, e)
in_parts n (k ∷ ks) js e =
    let here = or_parts (k == n) (has n (ks ++ js)) e in
    let rest = in_parts n ks js here.1 in
    (or_none (k == n) (has n ks) here.0 rest.0, rest.1)

replaced_standing : (m : Records) (puts : List Numbered) → replaced m puts ≡ standing m (map number_of puts)
replaced_standing m [] = refl
replaced_standing m (p ∷ puts) = ap (λ l. standing_at m p.number ++ l) (replaced_standing m puts)

-- exact changes overwrite, at the numbers that get another record and at those that lose theirs, what stood there
pub all_values : (c : Content) (changes : Changes) → IsSound c → IsExact c changes
    → AreValuesOfBefore c.records (applied c changes).records (earlier c.records changes)
all_values c changes sound exact =
    let m = c.records in
    let after = (applied c changes).records in
    let ks = put_numbers changes ++ changes.removals in
    let same : earlier m changes ≡ standing m ks =
    ap (λ l. l ++ standing m changes.removals) (replaced_standing m changes.puts)
    ∙ sym (flat_map-append (standing_at m) (put_numbers changes) changes.removals) in
    let replace : EachOf (IsGone m after) (put_numbers changes) =
    each_mapped (IsGone m after) number_of changes.puts
    (each_zip (λ (p : Numbered). get m p.number ≢ Some p.«record»)
    (λ (p : Numbered). get after p.number ≡ Some p.«record») (λ (p : Numbered). IsGone m after p.number)
    (λ p new there r at still. new (at ∙ sym still ∙ there)) changes.puts (exact.new sound)
    (put_there c changes exact sound)) in
    let remove : EachOf (IsGone m after) changes.removals =
    each_more (λ n. get after n ≡ None) (IsGone m after)
    (λ n none r at still. absurd (some_is_none r (sym still ∙ none))) changes.removals
    (gone changes.removals (with_puts m changes.puts)) in
    subst (AreValuesOfBefore m after) (sym same)
    (of_numbers m after ks
    (once_both (put_numbers changes) changes.removals (once_ascending (put_numbers changes) (exact.puts sound))
    (once_ascending changes.removals exact.removals) exact.apart)
    (each_both (IsGone m after) (put_numbers changes) changes.removals replace remove)
    (λ n e.
    let parts = in_parts n (put_numbers changes) changes.removals e in
    left_at changes.removals (with_puts m changes.puts) n (are_others n changes.removals parts.1)
    ∙ put_stays m changes.puts n parts.0))
  where
    some_is_none : (r : Record) → ◌≡◌ {A = Option Record} (Some r) None → ⊥
    some_is_none r e = absurd cc

-- ---- what overwrites nothing
pub none_over : (m : Records) → AreValuesOfBefore m m []
none_over m = record { once = tt; each = tt; all = λ v over. absurd (over.1 over.0) }

-- records at numbers that were free
free_elsewhere : (m : Records) (n : ℕ) (r : Record) (puts : List Numbered) → get m n ≡ Some r
    → EachOf (λ (p : Numbered). get m p.number ≡ None) puts → has n (map number_of puts) ≡ false
free_elsewhere m n r [] at free = refl
free_elsewhere m n r (p ∷ puts) at free =
    or_none (p.number == n) (has n (map number_of puts)) (by (p.number == n) refl)
    (free_elsewhere m n r puts at free.1)
  where
    by : (b : Bool) → (p.number == n) ≡ b → (p.number == n) ≡ false
    by false e = e
    by true e = let both : Some r ≡ None = sym at ∙ ap (get m) (sym (eqb-true p.number n e)) ∙ free.0 in absurd cc

pub addition_over : (c : Content) (changes : Changes) → IsAddition c changes
    → AreValuesOfBefore c.records (applied c changes).records []
addition_over c changes adds = record {
  once = tt;
  each = tt;
  all = λ v over. absurd (over.1 (ap (λ ns. get (without (with_puts c.records changes.puts) ns) v.number) adds.removals
      ∙ put_stays c.records changes.puts v.number
      (free_elsewhere c.records v.number v.«record» changes.puts over.0 adds.free) ∙ over.0));
}

-- ---- the rows that are added
kept_none : (b : Bool) (c after : Content) → AreValuesOfBefore c.records after.records [] → AreKept b c after []
kept_none true c after h = h
kept_none false c after h = refl

adds_none : (c after : Content) (r : Request) (rows now : Rows) → AreValuesOfBefore c.records after.records []
    → now.pasts ≡ rows.pasts → AddsValues c r after rows now
adds_none c after r rows now over same =
    ([], kept_none (keeps_past r.command) c after over, [], tt, same ∙ sym (append-nil rows.pasts))

-- a request that changes nothing adds none
pub adds_again : (c : Content) (r : Request) (rows : Rows) → AddsValues c r c rows rows
adds_again c r rows = adds_none c c r rows rows (none_over c.records) refl

kept_all : (b : Bool) (c : Content) (changes : Changes) → IsSound c → IsExact c changes
    → AreKept b c (applied c changes) (if b then earlier c.records changes else [])
kept_all true c changes sound exact = all_values c changes sound exact
kept_all false c changes sound exact = refl

-- one that is accepted anew adds those of what it overwrites
pub adds_anew : (c : Content) (r : Request) (changes : Changes) (drawn : Drawn) (rows : Rows) (kept : Kept) → IsSound c
    → IsExact c changes → changes.kept ≡ Some kept → kept.token ≡ r.token
    → AddsValues c r (applied c changes) rows
    (with_all_changes changes drawn (kept_values c r.command changes) rows)
adds_anew c r changes drawn rows kept sound exact is same =
    let values = kept_values c r.command changes in
    let now = with_all_changes changes drawn values rows in
    let (more, are, first) =
    subst (λ token. (more : List PastRow) × EachWith (IsPastRow token) values more × HasMorePasts rows now more) same
    (subst (λ k. AddsPasts k values rows now) is (all_adds changes drawn values rows)) in
    (values, kept_all (keeps_past r.command) c changes sound exact, more, are, first)

-- ---- a run of requests
-- all values of before that there were stay, and first
pub run_adds : (calls : List Done) (c after : Content) (rows now : Rows) → RunsOn c rows calls after now
    → (more : List PastRow) × HasMorePasts rows now more
run_adds [] c after rows now h = ([], ap (λ (s : Rows). s.pasts) h.1 ∙ sym (append-nil rows.pasts))
run_adds (call ∷ calls) c after rows now h =
    let (values, kept, one, are, is) = h.4 in
    let (rest, on) = run_adds calls h.0 after h.1 now h.5 in
    (one ++ rest, on ∙ ap (λ l. l ++ rest) is ∙ append_assoc rows.pasts one rest)

-- ---- an import
staged_pasts : (rs : List StagedRow) (rows : Rows) → (with_staged rs rows).pasts ≡ rows.pasts
staged_pasts [] rows = refl
staged_pasts (a_record r ∷ rs) rows = staged_pasts rs (with_staged_row (a_record r) rows)
staged_pasts (a_pack n ls ∷ rs) rows = staged_pasts rs (with_staged_row (a_pack n ls) rows)
staged_pasts (a_link l ∷ rs) rows = staged_pasts rs (with_staged_row (a_link l) rows)
staged_pasts (a_sought n s ∷ rs) rows = staged_pasts rs (with_staged_row (a_sought n s) rows)
staged_pasts (a_span n span ∷ rs) rows = staged_pasts rs (with_staged_row (a_span n span) rows)

kept_pasts : (kept : Option Kept) (rows : Rows) → (with_kept_written kept rows).pasts ≡ rows.pasts
kept_pasts None rows = refl
kept_pasts (Some kept) rows = refl

-- one that is published overwrites nothing, and adds none
pub published_adds : (c : Content) (r : Request) (before rows : Rows) (i : Import) → IsBegun before i rows
    → IsAddition c i.changes
    → AddsValues c r (applied c i.changes) before (with_published i.batch i.changes rows)
published_adds c r before rows i begun adds =
    adds_none c (applied c i.changes) r before (with_published i.batch i.changes rows)
    (addition_over c i.changes adds)
    (kept_pasts i.changes.kept (with_next i.changes.next (with_closed i.batch rows))
    ∙ ap (λ (s : Rows). s.pasts) begun.rows_are ∙ staged_pasts begun.done (with_batch i.batch true before))
