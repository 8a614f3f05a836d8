-- The mentions that a row gives, one after the other.
use Rattle.std.proofs.Common.{
  ◌≡◌,
  ◌≤◌,
  ◌-◌,
  List,
  [],
  ◌∷◌,
  ◌++◌,
  length,
  take,
  drop,
  get_or,
  refl,
  sym,
  ap,
  subst,
  ◌∙◌,
  arith,
  append_assoc,
}
use Rattle.std.specs.Prelude.{Result, Ok, Err, IfOk}
use Rattle.std.proofs.Math.Seq.{take-length}
use Rattle.std.proofs.lemmas.Result.{IfOk-weaker}
use Rattle.record_text.specs.declared.refusal.RefusalKind.{RefusalKind}
use Rattle.record_fields.specs.declared.entry_words.EntryKind.{EntryKind}
use Rattle.record_kinds.specs.Model as model
use Rattle.archive_state.specs.Looks.{Agrees, is_stop}
use Rattle.commands.specs.Rows.{and_then}
use Rattle.commands.specs.declared.entry_row.GivenMention.{GivenMention}
use Rattle.command_checks.specs.Checks.{passed}
use Rattle.command_checks.specs.Entries.{mention_in, mentions_in}

-- what stands after the first
abbrev pub behind : List GivenMention → List GivenMention
behind xs = take (length xs - 1) (drop 1 xs)

-- a list that has an item begins with it
begins : (xs : List GivenMention) (x : GivenMention) → 1 ≤ length xs → x ≡ get_or xs 0 x → xs ≡ x ∷ behind xs
begins [] x some is = absurd (omega arith)
begins (y ∷ ys) x some is =
    let all : length (y ∷ ys) - 1 ≡ length ys = omega arith in
    ap (λ z. z ∷ ys) (sym is) ∙ ap (λ t. x ∷ t) (sym (ap (λ n. take n ys) all ∙ take-length ys))

passed_more : {A B : Type 0} (r : Result A RefusalKind) (f : A → B) → passed (and_then r (λ a. Ok (f a))) ≡ passed r
passed_more (Ok a) f = refl
passed_more (Err e) f = refl

first_passed : (k : EntryKind) (m : GivenMention) (ms : List GivenMention) (x : model.Mention) → mention_in k m ≡ Ok x
    → passed (mentions_in k (m ∷ ms)) ≡ passed (mentions_in k ms)
first_passed k m ms x e = ap (λ r. passed (and_then r (λ y. and_then (mentions_in k ms) (λ ys. Ok (y ∷ ys))))) e
    ∙ passed_more (mentions_in k ms) (λ ys. x ∷ ys)

pub all_passed : (k : EntryKind) (xs : List GivenMention) (m : GivenMention) (x : model.Mention)
    (r : Result (Unit {0}) RefusalKind) → 1 ≤ length xs → m ≡ get_or xs 0 m → mention_in k m ≡ Ok x
    → Agrees is_stop r (passed (mentions_in k (behind xs))) → Agrees is_stop r (passed (mentions_in k xs))
all_passed k xs m x r some is e h =
    subst (λ y. Agrees is_stop r (passed (mentions_in k y))) (sym (begins xs m some is))
    (subst (Agrees is_stop r) (sym (first_passed k m (behind xs) x e)) h)

-- what is read of the rest is after the first
read_more : (k : EntryKind) (m : GivenMention) (ms : List GivenMention) (x : model.Mention) (all : List model.Mention)
    → mention_in k m ≡ Ok x → mentions_in k (m ∷ ms) ≡ Ok all
    → (rest : List model.Mention) × (mentions_in k ms ≡ Ok rest) × (x ∷ rest ≡ all)
read_more k m ms x all e h =
    by (mentions_in k ms) refl (sym (ap (λ r. and_then r (λ y. and_then (mentions_in k ms) (λ ys. Ok (y ∷ ys)))) e) ∙ h)
  where
    by : (r : Result (List model.Mention) RefusalKind) → mentions_in k ms ≡ r → and_then r (λ ys. Ok (x ∷ ys)) ≡ Ok all
        → (rest : List model.Mention) × (mentions_in k ms ≡ Ok rest) × (x ∷ rest ≡ all)
    by (Ok rest) is f = (rest, is, cc)
    by (Err k) is f = absurd cc

all_added : (k : EntryKind) (xs : List GivenMention) (m : GivenMention) (x : model.Mention)
    (old mid new : List model.Mention) → 1 ≤ length xs → m ≡ get_or xs 0 m → mention_in k m ≡ Ok x
    → mid ≡ old ++ (x ∷ []) → ((added : List model.Mention) → mentions_in k (behind xs) ≡ Ok added → new ≡ mid ++ added)
    → (added : List model.Mention) → mentions_in k xs ≡ Ok added → new ≡ old ++ added
all_added k xs m x old mid new some is e put more added h =
    let one = read_more k m (behind xs) x added e (sym (ap (mentions_in k) (begins xs m some is)) ∙ h) in
    more one.0 one.1 ∙ ap (λ y. y ++ one.0) put ∙ append_assoc old (x ∷ []) one.0 ∙ ap (λ y. old ++ y) one.2

-- the same of what is answered
pub if_added : (k : EntryKind) (xs : List GivenMention) (m : GivenMention) (x : model.Mention)
    (r : Result (Unit {0}) RefusalKind) (old mid new : List model.Mention) → 1 ≤ length xs → m ≡ get_or xs 0 m
    → mention_in k m ≡ Ok x
    → mid ≡ old ++ (x ∷ []) → IfOk r (λ _. (added : List model.Mention) → mentions_in k (behind xs) ≡ Ok added
    → new ≡ mid ++ added)
    → IfOk r (λ _. (added : List model.Mention) → mentions_in k xs ≡ Ok added → new ≡ old ++ added)
if_added k xs m x r old mid new some is e put h =
    IfOk-weaker r (λ _. (added : List model.Mention) → mentions_in k (behind xs) ≡ Ok added → new ≡ mid ++ added)
    (λ _. (added : List model.Mention) → mentions_in k xs ≡ Ok added → new ≡ old ++ added)
    (λ u more. all_added k xs m x old mid new some is e put more) h
