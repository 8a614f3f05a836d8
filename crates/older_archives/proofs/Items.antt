-- Records and slips that are read anew, one after the other.
use Rattle.std.proofs.Common.{
  ◌≡◌,
  ◌⊎◌,
  inl,
  inr,
  ℕ,
  Bool,
  true,
  false,
  List,
  [],
  ◌∷◌,
  ◌++◌,
  refl,
  sym,
  ap,
  ◌∙◌,
  subst,
  arith,
  ◌<◌,
  length,
  get_or,
  take,
  suc,
  ◌+◌,
}
use Rattle.std.specs.Prelude.{◌==◌, ◌&&◌, ◌||◌}
use Rattle.std.specs.List.{list_any}
use Rattle.std.proofs.Math.Seq.{take-suc}
use Rattle.std.proofs.lemmas.Bool.{and_parts}
use Rattle.std.proofs.lemmas.List.Folds.{list_any_at}
use Rattle.stored_lines.specs.Line.{Label}
use Rattle.record_kinds.specs.declared.record.Record.{Record}
use Rattle.records.specs.Stored.{stored}
use Rattle.record_shapes.specs.Lists.{EachOf}
use Rattle.date_spans.specs.Spans.{IsSpanOf, date_in}
use Rattle.older_archives.specs.Anew.{anew}
use Rattle.older_archives.specs.Old.{OldRecord, WasKeptAs}
use Rattle.older_archives.specs.RecordReading as reading
use Rattle.older_archives.proofs.OneOld.{one_old}
use Rattle.store_tables.specs.Rows.{SlipRow, SlipSide}
use Rattle.store_rows.specs.Sides.{SideLine}
use Rattle.store_rows.specs.Sought.{sought_of}
use Rattle.older_archives.specs.Reading.{AreChangesAnewOf, AreRecordsAnew, AreSlipsAnew}
use Rattle.older_archives.specs.Renewing.{Anew, IsAnewOf, RecordAnew, SlipAnew}
use Rattle.list_laws.proofs.Numbers.{same_self}

-- ---- lists
pub each_more : {A : Type 0} (P : A → Type 0) (xs : List A) (x : A) → EachOf P xs → P x → EachOf P (xs ++ x ∷ [])
each_more P [] x all here = (here, tt)
each_more P (y ∷ ys) x all here = (all.0, each_more P ys x all.1 here)

module _ {A : Type 0} (p : A → Bool) where
  pub any_first : (xs ys : List A) → list_any p xs ≡ true → list_any p (xs ++ ys) ≡ true
  any_first [] ys e = absurd cc
  any_first (x ∷ xs) ys e =
      elim (p x) as (λ b. (b || list_any p xs) ≡ true → (b || list_any p (xs ++ ys)) ≡ true)
      [ true ↦ λ _. refl | false ↦ λ h. any_first xs ys h ] e

  pub any_last : (xs : List A) (x : A) → p x ≡ true → list_any p (xs ++ x ∷ []) ≡ true
  any_last [] x e = rw e refl
  any_last (y ∷ ys) x e =
      elim (p y) as (λ b. (b || list_any p (ys ++ x ∷ [])) ≡ true) [ true ↦ refl | false ↦ any_last ys x e ]

  or_cases : (b : Bool) → (b || false) ≡ true → b ≡ true
  or_cases true e = refl
  or_cases false e = e

  pub any_cases : (xs : List A) (x : A) → list_any p (xs ++ x ∷ []) ≡ true → (list_any p xs ≡ true) ⊎ (p x ≡ true)
  any_cases [] x e = inr (or_cases (p x) e)
  any_cases (y ∷ ys) x e =
      elim (p y) as (λ b. (b || list_any p (ys ++ x ∷ [])) ≡ true
      → ((b || list_any p ys) ≡ true) ⊎ (p x ≡ true))
      [ true ↦ λ _. inl refl | false ↦ λ h. any_cases ys x h ] e

-- what was gone through, and one more
pub taken : {A : Type 0} → (xs : List A) (i : ℕ) (x : A) → i < length xs → x ≡ get_or xs i x
    → take (i + 1) xs ≡ take i xs ++ x ∷ []
taken xs i x low at =
    let next : suc i ≡ i + 1 = omega arith in
    ap (λ k. take k xs) (sym next) ∙ take-suc xs i x low ∙ ap (λ y. take i xs ++ y ∷ []) (sym at)

-- ---- a record
pub read_is : (lines : List (ℕ × Label)) (r : Record) (a : Anew) → reading.IsAnewOf lines r → a.lines ≡ stored r
    → IsSpanOf (date_in r) a.span → a.sought ≡ sought_of r → IsAnewOf lines a
read_is lines r a found kept spanned sought =
    let is : (o : OldRecord) → WasKeptAs lines o → r ≡ anew o = λ o was. found.2 ∙ ap anew
    (one_old lines found.0 o found.1 was) in
    record {
      kept = λ o was. kept ∙ ap stored (is o was);
      spanned = λ o was. subst (λ (x : Record). IsSpanOf (date_in x) a.span) (is o was) spanned;
      sought = λ o was. sought ∙ ap sought_of (is o was);
    }

-- ---- records
module _ (closed : ℕ → Bool) (lines : ℕ → List (ℕ × Label)) where
  pub no_records : AreRecordsAnew closed lines [] []
  no_records = record { each = tt; all = λ n e. absurd cc }

  pub one_record : (rows : List (ℕ × ℕ)) (r : ℕ × ℕ) (found more : List RecordAnew) (a : Anew)
      → more ≡ found ++ record { number = r.0; anew = a } ∷ [] → IsAnewOf (lines r.0) a
      → AreRecordsAnew closed lines rows found → AreRecordsAnew closed lines (rows ++ r ∷ []) more
  one_record rows r found more a pushed is was =
      let item : RecordAnew = record { number = r.0; anew = a } in
      subst (AreRecordsAnew closed lines (rows ++ r ∷ [])) (sym pushed)
      (record {
        each = each_more (λ (x : RecordAnew). IsAnewOf (lines x.number) x.anew) found item was.each is;
        all = λ n e. elim (any_cases (λ (q : ℕ × ℕ). (q.0 == n) && closed q.1) rows r e) [
          | inl before ↦ any_first (λ (x : RecordAnew). x.number == n) found (item ∷ []) (was.all n before)
          | inr here ↦ any_last (λ (x : RecordAnew). x.number == n) found item
              (and_parts (r.0 == n) (closed r.1) here).0
        ];
      })

  pub no_record : (rows : List (ℕ × ℕ)) (r : ℕ × ℕ) (found : List RecordAnew) → closed r.1 ≡ false
      → AreRecordsAnew closed lines rows found → AreRecordsAnew closed lines (rows ++ r ∷ []) found
  no_record rows r found none was = record {
    each = was.each;
    all = λ n e. elim (any_cases (λ (q : ℕ × ℕ). (q.0 == n) && closed q.1) rows r e) [
      | inl before ↦ was.all n before
      | inr here ↦ absurd (let no : true ≡ false = sym (and_parts (r.0 == n) (closed r.1) here).1 ∙ none in cc)
    ];
  }

-- ---- slips
-- each row has a number that some row has
pub slip_at : (rows : List SlipRow) (i : ℕ) (r : SlipRow) → i < length rows → r ≡ get_or rows i r
    → list_any (λ (s : SlipRow). s.no == r.no) rows ≡ true
slip_at rows i r low at =
    list_any_at (λ (s : SlipRow). s.no == r.no) rows i r low
    (subst (λ (s : SlipRow). (s.no == r.no) ≡ true) at (same_self r.no))

module _ (lines : ℕ → List SideLine) where
  pub no_slips : AreSlipsAnew lines [] []
  no_slips = record { each = tt; all = λ n e. absurd cc }

  pub one_slip : (rows : List SlipRow) (r : SlipRow) (found more : List SlipAnew) (n : ℕ) (sides : List SlipSide)
      → more ≡ found ++ record { number = n; sides = sides } ∷ [] → AreChangesAnewOf (lines n) sides → r.no ≡ n
      → AreSlipsAnew lines rows found → AreSlipsAnew lines (rows ++ r ∷ []) more
  one_slip rows r found more n sides pushed is at was =
      let item : SlipAnew = record { number = n; sides = sides } in
      subst (AreSlipsAnew lines (rows ++ r ∷ [])) (sym pushed)
      (record {
        each = each_more (λ (s : SlipAnew). AreChangesAnewOf (lines s.number) s.sides) found item was.each is;
        all = λ m e. elim (any_cases (λ (s : SlipRow). s.no == m) rows r e) [
          | inl before ↦ any_first (λ (s : SlipAnew). s.number == m) found (item ∷ []) (was.all m before)
          | inr here ↦ any_last (λ (s : SlipAnew). s.number == m) found item (ap (λ k. k == m) (sym at) ∙ here)
        ];
      })
