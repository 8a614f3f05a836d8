-- Two records with the same lines are the same.
use Rattle.std.proofs.Common.{◌≡◌, ℕ, List, [], ◌∷◌, Bool, true, false, refl, sym, ap, ◌∙◌}
use Rattle.std.specs.Prelude.{Option, Some, None, IsTrue, ◌&&◌, ◌==◌}
use Rattle.std.specs.Str.{bytes_eq}
use Rattle.std.specs.FinMap.{get}
use Rattle.std.proofs.lemmas.Bool.{and_parts, and_from, eqb-true}
use Rattle.stored_lines.specs.Line.{Label}
use Rattle.record_fields.specs.Bytes.{bytes_are, bytes_same}
use Rattle.records.specs.Stored.{stored}
use Rattle.records.proofs.Shallow.{stored_one}
use Rattle.record_kinds.specs.declared.record.Record.{Record}
use Rattle.archive_state.specs.Content.{Records}
use Rattle.archive_state.specs.declared.slip.Change.{Change}
pub use Rattle.merging.specs.Comparing.{IsNow}
use Rattle.merging.specs.Comparing.{
  is_same_text,
  is_same_target,
  is_same_label,
  are_same_lines,
  is_same_record,
  is_now,
}
use Rattle.list_laws.proofs.Booleans.{true_not_false}
use Rattle.list_laws.proofs.Numbers.{same_self}

text_is : (s t : Option (List ℕ)) → is_same_text s t ≡ true → s ≡ t
text_is None None e = refl
text_is (Some s) (Some t) e = ap Some (bytes_are s t e)
text_is None (Some t) e = absurd cc
text_is (Some s) None e = absurd cc

target_is : (s t : Option ℕ) → is_same_target s t ≡ true → s ≡ t
target_is None None e = refl
target_is (Some s) (Some t) e = ap Some (eqb-true s t e)
target_is None (Some t) e = absurd cc
target_is (Some s) None e = absurd cc

label_is : (a b : Label) → is_same_label a b ≡ true → a ≡ b
label_is a b e =
    let x = and_parts (bytes_eq a.tag b.tag) (is_same_text a.text b.text && is_same_target a.target b.target) e in
    let y = and_parts (is_same_text a.text b.text) (is_same_target a.target b.target) x.1 in
    λ i. record {
      tag = bytes_are a.tag b.tag x.0 i;
      text = text_is a.text b.text y.0 i;
      target = target_is a.target b.target y.1 i;
    }

lines_are : (ls ms : List (ℕ × Label)) → are_same_lines ls ms ≡ true → ls ≡ ms
lines_are [] [] e = refl
lines_are (a ∷ ls) (b ∷ ms) e =
    let x = and_parts (a.0 == b.0) (is_same_label a.1 b.1 && are_same_lines ls ms) e in
    let y = and_parts (is_same_label a.1 b.1) (are_same_lines ls ms) x.1 in
    λ i. (eqb-true a.0 b.0 x.0 i, label_is a.1 b.1 y.0 i) ∷ lines_are ls ms y.1 i
lines_are [] (b ∷ ms) e = absurd cc
lines_are (a ∷ ls) [] e = absurd cc

pub record_is : (r s : Option Record) → is_same_record r s ≡ true → r ≡ s
record_is None None e = refl
record_is (Some r) (Some s) e = ap Some (stored_one r s (lines_are (stored r) (stored s) e))
record_is None (Some s) e = absurd cc
record_is (Some r) None e = absurd cc

pub now_is : (m : Records) (cs : List Change) → is_now m cs ≡ true → IsNow m cs
now_is m [] e = tt
now_is m (c ∷ cs) e = let x = and_parts (is_same_record (get m c.number) c.new) (is_now m cs) e in
    (record_is (get m c.number) c.new x.0, now_is m cs x.1)

-- ---- and back
text_same : (t : Option (List ℕ)) → is_same_text t t ≡ true
text_same None = refl
text_same (Some t) = bytes_same t t refl

target_same : (t : Option ℕ) → is_same_target t t ≡ true
target_same None = refl
target_same (Some t) = same_self t

label_same : (a : Label) → is_same_label a a ≡ true
label_same a = and_from (bytes_eq a.tag a.tag) _ (bytes_same a.tag a.tag refl)
    (and_from (is_same_text a.text a.text) _ (text_same a.text) (target_same a.target))

lines_same : (ls : List (ℕ × Label)) → are_same_lines ls ls ≡ true
lines_same [] = refl
lines_same (a ∷ ls) = and_from (a.0 == a.0) _ (same_self a.0)
    (and_from (is_same_label a.1 a.1) _ (label_same a.1) (lines_same ls))

pub record_same : (r : Option Record) → is_same_record r r ≡ true
record_same None = refl
record_same (Some r) = lines_same (stored r)

pub is_now_new : (m : Records) (cs : List Change) → IsNow m cs → is_now m cs ≡ true
is_now_new m [] h = refl
is_now_new m (c ∷ cs) h = and_from (is_same_record (get m c.number) c.new) _
    (ap (is_same_record (get m c.number)) (sym h.0) ∙ record_same (get m c.number)) (is_now_new m cs h.1)

-- ---- by a test of lines

yes_is : (b : Bool) (ls ms : List (ℕ × Label)) → (IsTrue b → ls ≡ ms) → b ≡ true → b ≡ are_same_lines ls ms
yes_is b ls ms h e = e ∙ sym (ap (are_same_lines ls) (sym (h e)) ∙ lines_same ls)

pub same_by_test : (b : Bool) (ls ms : List (ℕ × Label)) (r s : Record) → ls ≡ stored r → ms ≡ stored s
    → (IsTrue b → ls ≡ ms) × (ls ≡ ms → IsTrue b) → b ≡ is_same_record (Some r) (Some s)
same_by_test b ls ms r s e f h =
    elim b as (λ x. b ≡ x → b ≡ are_same_lines ls ms) [
      | true ↦ λ q. yes_is b ls ms h.0 q
      | false ↦ λ q. q ∙ elim (are_same_lines ls ms) as (λ y. are_same_lines ls ms ≡ y → false ≡ y) [
        | true ↦ λ w. let there : b ≡ true = h.1 (lines_are ls ms w) in absurd (true_not_false (sym there ∙ q))
        | false ↦ λ w. refl
      ] refl
    ] refl
    ∙ (λ i. are_same_lines (e i) (f i))
