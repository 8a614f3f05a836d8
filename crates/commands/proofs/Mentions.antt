-- The fields of mentions, and the mentions of fields.
use Rattle.std.specs.Prelude.{
  map,
  ◌≡◌,
  ◌≤◌,
  ◌<◌,
  ◌*◌,
  ◌-◌,
  ◌++◌,
  ◌&&◌,
  nat_le,
  ℕ,
  List,
  [],
  ◌∷◌,
  length,
  Bool,
  true,
  false,
  cond,
  Option,
  Some,
  None,
  option_map,
  Result,
  Ok,
  Err,
  suc,
  refl,
}
use Rattle.std.proofs.Common.{ap, ◌∙◌, subst, arith, append_assoc, get_or, take, drop, Bor}
use Rattle.std.proofs.lemmas.List.{length-map, take_all}
use Rattle.std.proofs.lemmas.Bool.Decides.{nat_tests}
use Rattle.record_text.specs.declared.refusal.RefusalKind.{RefusalKind}
use Rattle.record_text.specs.declared.refusal.RefusalKind.TheVariants.{FieldCount}
use Rattle.commands.specs.Bytes.{mention_fields}
use Rattle.commands.specs.Mentions.{IsCount, is_count}
use Rattle.commands.specs.Rows.{Decided, and_then, counted, mentions_in, ok_or, pairs}
use Rattle.commands.specs.declared.entry_row.GivenMention.{GivenMention}

-- ---- 1 to 100
few : (ms : List GivenMention) → IsCount ms → is_count ms ≡ true
few ms h = in-range (length ms) h.0 h.1
  where
    in-range : (n : ℕ) → 1 ≤ n → n ≤ 100 → (nat_le 1 n && nat_le n 100) ≡ true
    in-range n l h = grind (arith, nat_tests)

few-is : (ms : List GivenMention) → is_count ms ≡ true → IsCount ms
few-is ms e = (least (length ms) e, most (length ms) e)
  where
    least : (n : ℕ) → (nat_le 1 n && nat_le n 100) ≡ true → 1 ≤ n
    least n e = grind (arith, nat_tests)

    most : (n : ℕ) → (nat_le 1 n && nat_le n 100) ≡ true → n ≤ 100
    most n e = grind (arith, nat_tests)

few-not : (b : Bool) (ms : List GivenMention) → is_count ms ≡ b → ¬ (IsCount ms)
    → ◌≡◌ {A = Result (List GivenMention) RefusalKind} (Err FieldCount) (cond b (Ok ms) (Err FieldCount))
few-not true ms e lacks = absurd (lacks (few-is ms e))
few-not false ms e lacks = refl

counted-few : (ms : List GivenMention) → IsCount ms → counted ms ≡ Ok ms
counted-few ms h = rw (few ms h) refl

counted-not : (ms : List GivenMention) → ¬ (IsCount ms) → Err FieldCount ≡ counted ms
counted-not ms lacks = few-not (is_count ms) ms refl lacks

-- ---- mentions of the fields that they have
pub pairs_back : (ms : List GivenMention) → pairs (mention_fields ms) ≡ Some ms
pairs_back [] = refl
pairs_back (m ∷ ms) = ap (option_map (λ ns. m ∷ ns)) (pairs_back ms)

pub mentions_back : (ms : List GivenMention) → IsCount ms → mentions_in (mention_fields ms) ≡ Ok ms
mentions_back ms h = ap (λ o. and_then (ok_or FieldCount o) counted) (pairs_back ms) ∙ counted-few ms h

-- ---- what fields are read as
counted-bound : (b : Bool) (ms ns : List GivenMention) → is_count ms ≡ b
    → ◌≡◌ {A = Result (List GivenMention) RefusalKind} (cond b (Ok ms) (Err FieldCount)) (Ok ns) → IsCount ns
counted-bound true ms ns few same = let e : ms ≡ ns = cc in
    few-is ns (subst (λ (l : List GivenMention). is_count l ≡ true) e few)
counted-bound false ms ns few same = absurd cc

option-bound : (o : Option (List GivenMention)) (ns : List GivenMention) → and_then (ok_or FieldCount o) counted
    ≡ Ok ns → IsCount ns
option-bound None ns e = absurd cc
option-bound (Some ms) ns e = counted-bound (is_count ms) ms ns refl e

pub mentions_bound : (fields : List (List ℕ)) (ns : List GivenMention) → mentions_in fields ≡ Ok ns → IsCount ns
mentions_bound fields ns e = option-bound (pairs fields) ns e

-- two fields for each
mutual-length : (o : Option (List GivenMention)) (n : ℕ) (m : GivenMention) (ns : List GivenMention)
    → ((ms : List GivenMention) → o ≡ Some ms → n ≡ 2 * length ms) → option_map (λ ms. m ∷ ms) o ≡ Some ns
    → suc (suc n) ≡ 2 * length ns
mutual-length None n m ns h e = absurd cc
mutual-length (Some ms) n m ns h e =
    let same : m ∷ ms ≡ ns = cc in
    let count : n ≡ 2 * length ms = h ms refl in
    subst (λ (l : List GivenMention). suc (suc n) ≡ 2 * length l) same (omega arith)

pair-count : (fields : List (List ℕ)) (ns : List GivenMention) → pairs fields ≡ Some ns → length fields ≡ 2 * length ns
pair-count [] ns e = let same : [] ≡ ns = cc in subst (λ (l : List GivenMention). 0 ≡ 2 * length l) same refl
pair-count (role ∷ []) ns e = absurd cc
pair-count (role ∷ name ∷ more) ns e =
    mutual-length (pairs more) (length more) (record { role = role; name = name }) ns (λ ms s. pair-count more ms s) e

-- ---- too many fields
option-many : (fields : List (List ℕ)) (o : Option (List GivenMention)) → pairs fields ≡ o → 200 < length fields
    → Err FieldCount ≡ and_then (ok_or FieldCount o) counted
option-many fields None e h = refl
option-many fields (Some ms) e h =
    let count : length fields ≡ 2 * length ms = pair-count fields ms e in
    let more : 100 < length ms = omega arith in
    counted-not ms (λ bound. let most : length ms ≤ 100 = bound.1 in absurd (omega arith))

pub many_mentions : (fields : List (Bor (List ℕ))) → 200 < length fields → Err FieldCount ≡ mentions_in
    (map (λ f. f.now) fields)
many_mentions fields h =
    let words : List (List ℕ) = map (λ f. f.now) fields in
    option-many words (pairs words) refl (rw (length-map fields (λ f. f.now)) h)

-- ---- mentions after others
abbrev behind : List GivenMention → Option (List GivenMention) → Result (List GivenMention) RefusalKind
behind have o = and_then (ok_or FieldCount (option_map (λ ms. have ++ ms) o)) counted

one-more : (have : List GivenMention) (m : GivenMention) (o : Option (List GivenMention))
    → behind (have ++ (m ∷ [])) o ≡ behind have (option_map (λ ms. m ∷ ms) o)
one-more have m None = refl
one-more have m (Some ms) = ap counted (append_assoc have (m ∷ []) ms)

then-read : (r : Result (List GivenMention) RefusalKind) (p q : Result (List GivenMention) RefusalKind) → p ≡ q
    → Decided r (λ x. x ≡ p) → Decided r (λ x. x ≡ q)
then-read (Ok ms) p q e h = h ∙ e
then-read (Err k) p q e h = λ w. h w ∙ e

-- after the first two fields
pub two_more : (have all : List GivenMention) (fields : List (Bor (List ℕ))) (else : Bor (List ℕ))
    (r : Result (List GivenMention) RefusalKind)
    → 2 ≤ length fields → all ≡ have
    ++ (record { role = (get_or fields 0 else).now; name = (get_or fields 1 else).now } ∷ [])
    → Decided r (λ x. x ≡ behind all (pairs (map (λ f. f.now) (take (length fields - 2) (drop 2 fields)))))
    → Decided r (λ x. x ≡ behind have (pairs (map (λ f. f.now) fields)))
two_more have all [] else r l e h = absurd (omega arith)
two_more have all (role ∷ []) else r l e h = absurd (omega arith)
two_more have all (role ∷ name ∷ more) else r l e h =
    let m : GivenMention = record { role = role.now; name = name.now } in
    let rest : take (suc (suc (length more)) - 2) more ≡ more = take_all (suc (suc (length more)) - 2) more
    (omega arith) in
    then-read r (behind all (pairs (map (λ f. f.now) (take (suc (suc (length more)) - 2) more))))
    (behind have (pairs (role.now ∷ name.now ∷ map (λ f. f.now) more)))
    (ap (λ (fs : List (Bor (List ℕ))). behind all (pairs (map (λ f. f.now) fs))) rest
    ∙ ap (λ (l : List GivenMention). behind l (pairs (map (λ f. f.now) more))) e ∙ one-more have m
    (pairs (map (λ f. f.now) more))) h

-- after none: all of them
behind-none : (o : Option (List GivenMention)) → behind [] o ≡ and_then (ok_or FieldCount o) counted
behind-none None = refl
behind-none (Some ms) = refl

pub all_mentions : (none : List GivenMention) (fields : List (Bor (List ℕ)))
    (r : Result (List GivenMention) RefusalKind) → none ≡ []
    → Decided r (λ x. x ≡ behind none (pairs (map (λ f. f.now) fields)))
    → Decided r (λ x. x ≡ mentions_in (map (λ f. f.now) fields))
all_mentions none fields r e decided =
    let words : List (List ℕ) = map (λ f. f.now) fields in
    then-read r (behind none (pairs words)) (mentions_in words)
    (ap (λ (n : List GivenMention). behind n (pairs words)) e ∙ behind-none (pairs words)) decided
