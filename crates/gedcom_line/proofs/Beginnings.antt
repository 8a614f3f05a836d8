-- A text that got a beginning of more at its end.
use Rattle.std.proofs.Common.{
  ◌≡◌,
  ℕ,
  ◌+◌,
  ◌/◌,
  ◌%◌,
  ◌<◌,
  ◌≤◌,
  List,
  [],
  ◌∷◌,
  ◌++◌,
  length,
  take,
  sym,
  ap,
  ◌∙◌,
  subst,
  arith,
  append_assoc,
  length-append,
  cond,
  Result,
  Ok,
  Err,
  is_ok,
}
use Rattle.std.specs.Fmt.{decimal}
use Rattle.std.specs.Result.{OnErr}
use Rattle.std.proofs.lemmas.Fmt.{decimal_step}
use Rattle.std.proofs.lemmas.List.{append-nil, take-append-le}
use Rattle.std.proofs.Math.Seq.{take-append-add}
use Rattle.gedcom_line.specs.Spelling.{Begun}
use Rattle.list_laws.proofs.Lists.{behind}

-- nothing of it
pub begun_same : (old new more : List ℕ) → new ≡ old → Begun old new more
begun_same old new more e = (0, (omega arith, e ∙ sym (append-nil old)))

-- and of what goes on after it
pub begun_longer : (old new a b : List ℕ) → Begun old new a → Begun old new (a ++ b)
begun_longer old new a b h = (
  h.0,
  (
    omega (arith, length-append a b, h.1.0),
    h.1.1 ∙ ap (λ (x : List ℕ). old ++ x)
        (sym (take-append-le h.0 a b h.1.0)),
  ),
)

-- a beginning of what goes on after what is there
pub begun_behind : (old mid new a b : List ℕ) → mid ≡ old ++ a → Begun mid new b → Begun old new (a ++ b)
begun_behind old mid new a b e h = (
  length a + h.0,
  (
    omega (arith, length-append a b, h.1.0),
    h.1.1 ∙ ap (λ (x : List ℕ). x ++ take h.0 b) e ∙ append_assoc old a (take h.0 b) ∙ ap (λ (x : List ℕ). old ++ x)
        (sym (take-append-add a b h.0)),
  ),
)

-- a beginning of the part after what is there, with more after it
pub begun_part : (old mid new a b c whole : List ℕ) → mid ≡ old ++ a → Begun mid new b → whole ≡ a ++ (b ++ c)
    → Begun old new whole
begun_part old mid new a b c whole e h w = subst (Begun old new) (sym w)
    (begun_behind old mid new a (b ++ c) e (begun_longer mid new b c h))

-- what is left of a line after each of its parts
pub from_level : (d x t r : List ℕ) → (d ++ 32 ∷ (x ++ (t ++ r))) ++ 10 ∷ [] ≡ d
    ++ (32 ∷ [] ++ (x ++ (t ++ (r ++ 10 ∷ []))))
from_level d x t r = simp append_assoc

pub from_xref : (d x t r : List ℕ) → (d ++ 32 ∷ (x ++ (t ++ r))) ++ 10 ∷ [] ≡ (d ++ 32 ∷ [])
    ++ (x ++ (t ++ (r ++ 10 ∷ [])))
from_xref d x t r = simp append_assoc

pub from_tag : (d x t r : List ℕ) → (d ++ 32 ∷ (x ++ (t ++ r))) ++ 10 ∷ [] ≡ ((d ++ 32 ∷ []) ++ x)
    ++ (t ++ (r ++ 10 ∷ []))
from_tag d x t r = simp append_assoc

pub from_raw : (d x t r : List ℕ) → (d ++ 32 ∷ (x ++ (t ++ r))) ++ 10 ∷ [] ≡ (((d ++ 32 ∷ []) ++ x) ++ t)
    ++ (r ++ 10 ∷ [])
from_raw d x t r = simp append_assoc

pub from_end : (d x t r : List ℕ) → (d ++ 32 ∷ (x ++ (t ++ r))) ++ 10 ∷ [] ≡ ((((d ++ 32 ∷ []) ++ x) ++ t) ++ r)
    ++ (10 ∷ [] ++ [])
from_end d x t r = simp append_assoc

-- a level of two digits or three
pub level_begun : (old new : List ℕ) (n : ℕ) → 10 ≤ n → n < 256 → Begun old new (decimal (n / 10))
    → Begun old new (decimal n)
level_begun old new n h lt b = rw (decimal_step n h (omega arith))
    (begun_longer old new (decimal (n / 10)) ((48 + n % 10) ∷ []) b)

pub level_ends : (old mid new : List ℕ) (n : ℕ) → 10 ≤ n → n < 256 → mid ≡ old ++ decimal (n / 10)
    → new ≡ mid ++ (48 + n % 10) ∷ [] → new ≡ old ++ decimal n
level_ends old mid new n h lt e f = rw (decimal_step n h (omega arith))
    (behind old mid new (decimal (n / 10)) ((48 + n % 10) ∷ []) e f)

pub level_stops : (old mid new : List ℕ) (n : ℕ) → 10 ≤ n → n < 256 → mid ≡ old ++ decimal (n / 10) → new ≡ mid
    → Begun old new (decimal n)
level_stops old mid new n h lt e f = rw (decimal_step n h (omega arith))
    (begun_behind old mid new (decimal (n / 10)) ((48 + n % 10) ∷ []) e (begun_same mid new ((48 + n % 10) ∷ []) f))

-- what an append that failed leaves
pub err_keeps : {T E P : Type 0} (r : Result T E) (old new more : List ℕ) → new ≡ cond (is_ok r) (old ++ more) old
    → (new ≡ old → P) → OnErr r P
err_keeps (Ok x) old new more e f = tt
err_keeps (Err x) old new more e f = f e
