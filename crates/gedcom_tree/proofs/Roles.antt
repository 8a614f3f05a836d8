-- What the rules know the tag of a node by.
use Rattle.std.proofs.Common.{◌≡◌, ℕ, true, false, List, refl, inl, inr, codes}
use Rattle.std.specs.Str.{bytes_eq}
use Rattle.std.proofs.lemmas.Slice.Eq.{bytes_eq-Decides}
use Rattle.std.proofs.lemmas.Bool.{cases_Bool}
use Rattle.gedcom_line.specs.Reading.{is_continuation}
use Rattle.gedcom_rules.specs.Rules.{role_of, is_charset_tag, is_version_tag, is_gedcom_tag, is_continued}

-- the tag is one of those that have a role, or none
record Other (t : List ℕ) : Type 0 where
  own : is_continuation t ≡ false
  charset : bytes_eq t (codes "CHAR") ≡ false
  gedcom : bytes_eq t (codes "GEDC") ≡ false
  version : bytes_eq t (codes "VERS") ≡ false

by_tag : (P : List ℕ → Type 0) (t : List ℕ) → is_continuation t ≡ false → P (codes "CHAR") → P (codes "GEDC")
    → P (codes "VERS") → (Other t → P t) → P t
by_tag P t own a b c d = elim (cases_Bool (bytes_eq t (codes "CHAR"))) [
  | inl e ↦ rw ((bytes_eq-Decides t (codes "CHAR")).0 e) a
  | inr e ↦ elim (cases_Bool (bytes_eq t (codes "GEDC"))) [
    | inl f ↦ rw ((bytes_eq-Decides t (codes "GEDC")).0 f) b
    | inr f ↦ elim (cases_Bool (bytes_eq t (codes "VERS"))) [
      | inl g ↦ rw ((bytes_eq-Decides t (codes "VERS")).0 g) c
      | inr g ↦ d (record { own = own; charset = e; gedcom = f; version = g })
    ]
  ]
]

pub own_role : (t : List ℕ) → is_continuation t ≡ false → is_continued (role_of t) ≡ false
own_role t own = by_tag (λ x. is_continued (role_of x) ≡ false) t own refl refl refl
    (λ o. rw (o.own, o.charset, o.gedcom, o.version) refl)

pub charset_role : (t : List ℕ) → is_continuation t ≡ false → is_charset_tag (role_of t) ≡ bytes_eq t (codes "CHAR")
charset_role t own = by_tag (λ x. is_charset_tag (role_of x) ≡ bytes_eq x (codes "CHAR")) t own refl refl refl
    (λ o. rw (o.own, o.charset, o.gedcom, o.version) refl)

pub gedcom_role : (t : List ℕ) → is_continuation t ≡ false → is_gedcom_tag (role_of t) ≡ bytes_eq t (codes "GEDC")
gedcom_role t own = by_tag (λ x. is_gedcom_tag (role_of x) ≡ bytes_eq x (codes "GEDC")) t own refl refl refl
    (λ o. rw (o.own, o.charset, o.gedcom, o.version) refl)

pub version_role : (t : List ℕ) → is_continuation t ≡ false → is_version_tag (role_of t) ≡ bytes_eq t (codes "VERS")
version_role t own = by_tag (λ x. is_version_tag (role_of x) ≡ bytes_eq x (codes "VERS")) t own refl refl refl
    (λ o. rw (o.own, o.charset, o.gedcom, o.version) refl)

-- a continuation names nothing
pub continued_charset : (t : List ℕ) → is_continuation t ≡ true → is_charset_tag (role_of t) ≡ false
continued_charset t h = rw h refl

pub continued_version : (t : List ℕ) → is_continuation t ≡ true → is_version_tag (role_of t) ≡ false
continued_version t h = rw h refl
