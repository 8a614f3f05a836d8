-- What is found of pieces, and why nothing is.
use Rattle.std.proofs.Common.{
  ◌≡◌,
  ◌≢◌,
  ◌==◌,
  ◌<◌,
  ◌∙◌,
  ◌++◌,
  ◌∷◌,
  [],
  List,
  MatchOption,
  Option,
  Some,
  None,
  IfErr,
  IfSome,
  Err,
  Ok,
  Result,
  ap,
  append_assoc,
  arith,
  get_or,
  inl,
  inr,
  length,
  option_map,
  refl,
  subst,
  suc,
  sym,
  zero,
  ℕ,
}
use Rattle.std.specs.List.{list_any, AllByRecursion}
use Rattle.std.proofs.lemmas.List.{append-nil}
use denote.Ref.{Bor}
use Rattle.list_laws.proofs.Booleans.{or_first, or_second}
use Rattle.list_laws.proofs.Lists.{all_then}
use Rattle.list_laws.proofs.Numbers.{not_it}
use Rattle.list_laws.proofs.Outcomes.{some_is}
use Rattle.stored_lines.specs.Line.{Label}
use Rattle.record_text.specs.Text.{IsText}
use Rattle.record_text.specs.Words.{Without, replaced}
use Rattle.record_text.specs.declared.refusal.RefusalKind.{RefusalKind}
use Rattle.packed_rows.specs.Packed.{
  StoredLines,
  IsTypedLine,
  line_text,
  lines_text,
  on_one_line,
  FailsUnless,
  HaveText,
}
use Rattle.packed_rows.specs.Pieces.{IsLineOf, Lacks}
use Rattle.packed_rows.proofs.Parted.{lacks}
use Rattle.packed_rows.proofs.Texts.{put_back}

-- a text that is cut, or has not the character
pub cut_found : (c : ℕ) (bs : List ℕ) (r : Option (Bor (List ℕ) × Bor (List ℕ)))
    → MatchOption r ((i : ℕ) → i < length bs → get_or bs i 0 ≢ c)
    (λ x. (bs ≡ x.0.now ++ (c ∷ x.1.now)) × ((i : ℕ) → i < length x.0.now → get_or x.0.now i 0 ≢ c))
    → MatchOption r (Lacks c bs) (λ x. (bs ≡ x.0.now ++ (c ∷ x.1.now)) × Lacks c x.0.now)
cut_found c bs None h = lacks c bs h
cut_found c bs (Some x) h = (h.0, lacks c x.0.now h.1)

pub without : (c : ℕ) (xs : List ℕ) → Lacks c xs → Without c xs
without c [] h i lt = absurd (omega arith)
without c (x ∷ xs) h zero lt = not_it x c (or_first (x == c) (list_any (λ z. z == c) xs) h)
without c (x ∷ xs) h (suc i) lt = without c xs (or_second (x == c) (list_any (λ z. z == c) xs) h) i (omega arith)

-- a refusal of a part is one of the whole, where the whole has the part
pub fails_more : (P Q : Type 0) → (Q → P) → (k : RefusalKind) → FailsUnless P k → FailsUnless Q k
fails_more P Q f k (inl e) = inl e
fails_more P Q f k (inr x) = inr (x.0, λ q. x.1 (f q))

-- what may be there is written as nothing else than what is written there
pub written : {A : Type 0} (f : A → List ℕ) (P : A → Type 0) (p : Option (List ℕ)) (w : List ℕ) → p ≡ Some w
    → (o : Option A) × (p ≡ option_map f o) × IfSome o P → (a : A) × (w ≡ f a) × P a
written {A} f P p w is x = go x.0 (sym is ∙ x.1) x.2
  where
    go : (o : Option A) → Some w ≡ option_map f o → IfSome o P → (a : A) × (w ≡ f a) × P a
    go None e h = absurd cc
    go (Some a) e h = (a, some_is w (f a) e, h)

-- ---- the text of words
pub text_found : (words t : List ℕ) → Lacks 10 words → t ≡ replaced 13 (10 ∷ []) words → words ≡ on_one_line t
text_found words t h e = sym (put_back 13 10 words h) ∙ ap on_one_line (sym e)

pub text_unfound : (words string : List ℕ) → string ≡ replaced 13 (10 ∷ []) words → ¬ (IsText string)
    → (t : List ℕ) × (words ≡ on_one_line t) × IsText t → ⊥
text_unfound words string e off x =
    let same : string ≡ x.0 = e ∙ (ap (replaced 13 (10 ∷ [])) x.1 ∙ put_back 10 13 x.0 x.2.no_cr) in
    off (subst IsText (sym same) x.2)

-- ---- the lines of a text
-- the lines that were read so far, and what is left of the text
pub record IsBehind (old new : StoredLines) (text rest : List ℕ) : Type 0 where
  pub more : StoredLines
  pub are : new ≡ old ++ more
  pub typed : AllByRecursion IsTypedLine more
  pub tell : text ≡ lines_text more ++ rest

pub none_behind : (old : StoredLines) (text : List ℕ) → IsBehind old old text text
none_behind old text = record { more = []; are = sym (append-nil old); typed = tt; tell = refl }

pub one_behind : (old now new : StoredLines) (text rest line after : List ℕ) (l : ℕ × Label)
    → IsBehind old now text rest → rest ≡ line ++ 10 ∷ after → IsLineOf line l → new ≡ now ++ l ∷ []
    → IsBehind old new text after
one_behind old now new text rest line after l so e is f = record {
  more = so.more ++ l ∷ [];
  are = f ∙ ap (λ (x : StoredLines). x ++ l ∷ []) so.are ∙ append_assoc old so.more (l ∷ []);
  typed = all_then IsTypedLine so.more l so.typed is.typed;
  tell = so.tell ∙ ap (λ (x : List ℕ). lines_text so.more ++ x) (e ∙ ap (λ (x : List ℕ). x ++ 10 ∷ after) is.tell)
      ∙ sym (more_text so.more l after);
}
  where
    more_text : (ls : StoredLines) (l : ℕ × Label) (after : List ℕ) → lines_text (ls ++ l ∷ []) ++ after
        ≡ lines_text ls ++ (line_text l ++ 10 ∷ after)
    more_text [] l after = append_assoc (line_text l) (10 ∷ []) after
    more_text (x ∷ ls) l after =
        append_assoc (line_text x) (10 ∷ lines_text (ls ++ l ∷ [])) after
        ∙ ap (λ (t : List ℕ). line_text x ++ 10 ∷ t) (more_text ls l after)
        ∙ sym (append_assoc (line_text x) (10 ∷ lines_text ls) (line_text l ++ 10 ∷ after))

-- all are read where nothing is left
pub all_behind : (old new : StoredLines) (text rest : List ℕ) → IsBehind old new text rest → rest ≡ []
    → (more : StoredLines) × (new ≡ old ++ more) × HaveText text more
all_behind old new text rest so e = (
  so.more,
  so.are,
  record {
    typed = so.typed;
    tell = so.tell ∙ ap (λ (x : List ℕ). lines_text so.more ++ x) e ∙ append-nil (lines_text so.more);
  },
)

-- ---- what a call answers, handed on
pub err_more : {A : Type 0} (P Q : RefusalKind → Type 0) → ((k : RefusalKind) → P k → Q k) → (r : Result A RefusalKind)
    → IfErr r P → IfErr r Q
err_more P Q f (Ok a) h = h
err_more P Q f (Err k) h = f k h
