-- An archive has one masked state.
use Rattle.std.proofs.Common.{◌≡◌, ℕ, Bool, true, false, refl, sym, ap, ◌∙◌}
use Rattle.std.specs.Prelude.{◌↔◌, IsTrue, Option, Some, None, not, ℤ}
use Rattle.std.specs.FinMap.{get, same_map, nat_cmp-IsAntisymmetric}
use Rattle.std.specs.Cmp.{nat_cmp_total}
use Rattle.record_kinds.specs.Model as model
use Rattle.record_kinds.specs.declared.record.Record.{Record}
use Rattle.record_kinds.specs.declared.record.Record.TheVariants as kind
use Rattle.archive_state.specs.Content.{Content, Records}
use Rattle.masking.specs.Masking.{Judged, Judges, Looks, IsMasked, shown_at, unless}

-- two tests of one thing are the same
pub same_test : {P : Type 0} (a b : Bool) → IsTrue a ↔ P → IsTrue b ↔ P → a ≡ b
same_test true true h k = refl
same_test false false h k = refl
same_test true false h k = sym (k.1 (h.0 refl))
same_test false true h k = h.1 (k.0 refl)

-- who is living is judged alike by two judgements
same_living : (m : Records) (today : ℤ) (j k : Judged) → Judges m today j → Judges m today k → j.living ≡ k.living
same_living m today j k h i = λ at n. same_test (j.living n) (k.living n) (h.living n) (i.living n) at

-- so is whether an entry that stands there is open
at_entry : (m : Records) (today : ℤ) (j k : Judged) (look : Looks) (n : ℕ) (e : model.Entry) → Judges m today j
    → Judges m today k → get m n ≡ Some (kind.Entry e)
    → shown_at j look n (Some (kind.Entry e)) ≡ shown_at k look n (Some (kind.Entry e))
at_entry m today j k look n e h i is = ap (λ b. unless (not b) (kind.Entry e))
    (same_test (j.is_open n) (k.is_open n) (h.opens n e is) (i.opens n e is))

-- what is shown at a number follows from who is living, but for an entry
by_living : (m : Records) (today : ℤ) (j k : Judged) (look : Looks) (n : ℕ) (r : Record) → Judges m today j
    → Judges m today k → (opens : ℕ → Bool)
    → shown_at (record { living = j.living; is_open = opens }) look n (Some r)
    ≡ shown_at (record { living = k.living; is_open = opens }) look n (Some r)
by_living m today j k look n r h i opens =
    ap (λ (living : ℕ → Bool). shown_at (record { living = living; is_open = opens }) look n (Some r))
    (same_living m today j k h i)

pub same_at : (m : Records) (today : ℤ) (j k : Judged) (look : Looks) (n : ℕ) (o : Option Record) → Judges m today j
    → Judges m today k → get m n ≡ o → shown_at j look n o ≡ shown_at k look n o
same_at m today j k look n None h i is = refl
same_at m today j k look n (Some (kind.Place p)) h i is = refl
same_at m today j k look n (Some (kind.Repo r)) h i is = refl
same_at m today j k look n (Some (kind.Source s)) h i is = refl
same_at m today j k look n (Some (kind.Person p)) h i is = by_living m today j k look n (kind.Person p) h i j.is_open
same_at m today j k look n (Some (kind.Family p)) h i is = refl
same_at m today j k look n (Some (kind.Citation p)) h i is =
    by_living m today j k look n (kind.Citation p) h i j.is_open
same_at m today j k look n (Some (kind.Event p)) h i is = by_living m today j k look n (kind.Event p) h i j.is_open
same_at m today j k look n (Some (kind.Entry e)) h i is = at_entry m today j k look n e h i is
same_at m today j k look n (Some (kind.Other p)) h i is = refl

-- two masked states that show the same at each number have the same records
pub same_records : (s t : Content) → ((n : ℕ) → get s.records n ≡ get t.records n) → s.records ≡ t.records
same_records s t same = same_map nat_cmp_total nat_cmp-IsAntisymmetric s.records t.records same

pub one_masked : (c : Content) (today : ℤ) (s t : Content) → IsMasked c today s → IsMasked c today t → s ≡ t
one_masked c today s t h k =
    let same = same_records s t (λ n. h.records n
    ∙ same_at c.records today h.judged k.judged (get c.records) n (get c.records n) h.judges k.judges refl
    ∙ sym (k.records n)) in
    λ i. record {
      records = same i;
      next = (h.next ∙ sym k.next) i;
      receipts = (h.receipts ∙ sym k.receipts) i;
      slips = (h.slips ∙ sym k.slips) i;
    }
