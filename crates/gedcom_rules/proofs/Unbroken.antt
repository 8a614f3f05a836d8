-- What a line keeps that breaks no rule.
use Rattle.std.proofs.Common.{
  ◌≡◌,
  ◌+◌,
  ◌-◌,
  Bool,
  true,
  false,
  cond,
  eqb,
  ltb,
  not,
  ◌&&◌,
  ◌||◌,
  List,
  [],
  ◌∷◌,
  length,
  refl,
  Some,
  None,
}
use Rattle.std.specs.Prelude.{find, is_some}
use Rattle.std.specs.Option.{option_map_or}
use Rattle.gedcom_line.specs.Reading.{Parts, is_continuation}
use Rattle.gedcom_line.specs.Value.{value_of}
use Rattle.gedcom_rules.specs.declared.fault.TreeKind.TheVariants.{
  LevelJump,
  NoHead,
  AfterTrailer,
  BadContinuation,
  ContinuationHasChildren,
  DuplicateXref,
  TextTooLong,
  Charset,
  Version,
}
use Rattle.gedcom_rules.specs.Continuing.{adds}
use Rattle.gedcom_rules.specs.Rules.{
  Progress,
  is_head,
  role_of,
  parent,
  is_continued,
  names_set,
  names_version,
  may_go_on,
  is_charset,
  is_version_value,
  breaks,
  first_broken,
}

pub record Unbroken (q : Progress) (l : Parts) : Type 0 where
  pub done : q.done ≡ false
  pub head : (eqb q.count 0 && not (is_head l)) ≡ false
  pub jump : ltb (q.last + 1) l.level ≡ false
  pub above : option_map_or (λ s. is_continued s.role) (parent q l.level) false ≡ false
  pub goes_on : (is_continuation l.tag &&
      (is_some l.xref || not (option_map_or (may_go_on q (l.level - 1)) (parent q l.level) false))) ≡ false
  pub name : option_map_or q.named l.xref false ≡ false
  pub room : (is_continuation l.tag && option_map_or (λ s. ltb s.room (length (adds l))) (parent q l.level) false)
      ≡ false
  pub charset : (names_set q l.level (role_of l.tag) && not (is_charset l.raw)) ≡ false
  pub version : (names_version q l.level (role_of l.tag) && not (is_version_value (value_of l))) ≡ false

find_none : {A : Type 0} (test : A → Bool) (x : A) (xs : List A) → find test (x ∷ xs) ≡ None
    → (test x ≡ false) × (find test xs ≡ None)
find_none test x xs h = elim (test x) as (λ v. cond v (Some x) (find test xs) ≡ None → (v ≡ false)
    × (find test xs ≡ None)) [ true ↦ λ e. absurd cc | false ↦ λ e. (refl, e) ] h

pub unbroken : (q : Progress) (l : Parts) → first_broken q l ≡ None → Unbroken q l
unbroken q l h =
    let a = find_none (breaks q l) AfterTrailer
    (NoHead ∷ LevelJump ∷ ContinuationHasChildren ∷ BadContinuation ∷ DuplicateXref ∷ TextTooLong ∷ Charset
    ∷ Version ∷ []) h in
    let b = find_none (breaks q l) NoHead (LevelJump ∷ ContinuationHasChildren ∷ BadContinuation ∷ DuplicateXref
    ∷ TextTooLong ∷ Charset ∷ Version ∷ []) a.1 in
    let c = find_none (breaks q l) LevelJump
    (ContinuationHasChildren ∷ BadContinuation ∷ DuplicateXref ∷ TextTooLong ∷ Charset ∷ Version ∷ []) b.1 in
    let d = find_none (breaks q l) ContinuationHasChildren
    (BadContinuation ∷ DuplicateXref ∷ TextTooLong ∷ Charset ∷ Version ∷ []) c.1 in
    let e = find_none (breaks q l) BadContinuation (DuplicateXref ∷ TextTooLong ∷ Charset ∷ Version ∷ []) d.1 in
    let f = find_none (breaks q l) DuplicateXref (TextTooLong ∷ Charset ∷ Version ∷ []) e.1 in
    let g = find_none (breaks q l) TextTooLong (Charset ∷ Version ∷ []) f.1 in
    let i = find_none (breaks q l) Charset (Version ∷ []) g.1 in
    let j = find_none (breaks q l) Version [] i.1 in
    record {
      done = a.0;
      head = b.0;
      jump = c.0;
      above = d.0;
      goes_on = e.0;
      name = f.0;
      room = g.0;
      charset = i.0;
      version = j.0;
    }

pub unbroken_none : (q : Progress) (l : Parts) → Unbroken q l → first_broken q l ≡ None
unbroken_none q l u = rw (u.done, u.head, u.jump, u.above, u.goes_on, u.name, u.room, u.charset, u.version) refl
