-- What reading answers is what the definitions of a line, a blank piece and a fault say, and the other way round.
use Rattle.std.proofs.Common.{
  ◌≡◌,
  ℕ,
  ◌<◌,
  Bool,
  true,
  false,
  cond,
  eqb,
  not,
  ◌&&◌,
  List,
  [],
  ◌∷◌,
  get_or,
  refl,
  sym,
  ap,
  ◌∙◌,
  subst,
  eq-eqb,
  inl,
  inr,
  Option,
  Some,
  None,
  Ok,
  Err,
  Result,
  ◌⊎◌,
  codes,
}
use Rattle.std.specs.List.{list_all, list_any}
use Rattle.std.specs.Option.{ok_or}
use Rattle.std.specs.Str.{IsUtf8, is_utf8, bytes_eq}
use Rattle.std.proofs.lemmas.Bool.{eqb-true, not-true, and_parts, or_cases}
use Rattle.std.proofs.lemmas.Slice.Eq.{bytes_eq-Decides}
use Rattle.std.proofs.lemmas.Str.{is_utf8-from_IsUtf8, IsUtf8-from_is_utf8, IsUtf8-from_ascii}
use Rattle.gedcom_line.specs.Words.{is_white}
use Rattle.gedcom_line.specs.Line.{HasLevel, HasXref, IsPiece, IsText, IsBlank, Spelled, Line, Fault, IsContinuation}
use Rattle.gedcom_line.specs.Reading.{
  Parts,
  skip,
  level_at,
  xref_at,
  tag_at,
  is_continuation,
  with_tag,
  text_at,
  ◌>>=r◌,
  reading_from,
  reading,
}
use Rattle.gedcom_line.specs.declared.fault.LineKind.{LineKind}
use Rattle.gedcom_line.specs.declared.fault.LineKind.TheVariants.{NotUtf8, BadLevel, BadXref, BadTag, Nul}
use Rattle.gedcom_line.proofs.Steps.{
  spans_only,
  eqb_false,
  level_spelled,
  spelled_level,
  xref_spelled,
  spelled_xref,
  tag_spelled,
  spelled_tag,
}
use Rattle.gedcom_line.proofs.Texts.{is_utf8_false}
use Rattle.gedcom_line.proofs.Spans.{in_class_ascii}
use Rattle.gedcom_line.specs.declared.class.Class.TheVariants.{White}
use Rattle.std.proofs.lemmas.List.{append-nil}
use Rattle.std.proofs.lemmas.List.Sums.{AllPass-from_list_all}
use Rattle.std.proofs.lemmas.Str.Ascii.{IsAscii-from_all}
use Rattle.list_laws.proofs.Outcomes.{some_is}

-- results, one step after another
ok_is : {A : Type 0} (x y : A) → let r : Result A LineKind = Ok x in r ≡ Ok y → x ≡ y
ok_is x y e = cc

err_is : {A : Type 0} (x y : LineKind) → let r : Result A LineKind = Err x in r ≡ Err y → x ≡ y
err_is x y e = cc

ok_step : {A B : Type 0} (r : Option A) (k : LineKind) (f : A → Result B LineKind) (y : B) → (ok_or r k >>=r f) ≡ Ok y
    → (x : A) × ((r ≡ Some x) × (f x ≡ Ok y))
ok_step (Some x) k f y e = (x, (refl, e))
ok_step None k f y e = absurd cc

err_step : {A B : Type 0} (r : Option A) (k : LineKind) (f : A → Result B LineKind) (e : LineKind)
    → (ok_or r k >>=r f) ≡ Err e → ((r ≡ None) × (k ≡ e)) ⊎ ((x : A) × ((r ≡ Some x) × (f x ≡ Err e)))
err_step (Some x) k f e h = inr (x, (refl, h))
err_step {A} {B} None k f e h = inl (refl, err_is {A = B} k e h)

chosen : {A : Type 0} (b : Bool) (x y z : A) → cond b x y ≡ z → ((b ≡ true) × (x ≡ z)) ⊎ ((b ≡ false) × (y ≡ z))
chosen true x y z e = inl (refl, e)
chosen false x y z e = inr (refl, e)

-- CONC and CONT
continuation_is : (t : List ℕ) → is_continuation t ≡ true → IsContinuation t
continuation_is t h = elim (or_cases (bytes_eq t (codes "CONC")) (bytes_eq t (codes "CONT")) h) [
  | inl k ↦ inl ((bytes_eq-Decides t (codes "CONC")).0 k)
  | inr k ↦ inr ((bytes_eq-Decides t (codes "CONT")).0 k)
]

no_continuation : (t : List ℕ) → ¬ (IsContinuation t) → is_continuation t ≡ false
no_continuation t h = elim (is_continuation t) as (λ v. is_continuation t ≡ v → v ≡ false)
    [ true ↦ λ e. absurd (h (continuation_is t e)) | false ↦ λ e. refl ] refl

pub is_continuation_of : (t : List ℕ) → IsContinuation t → is_continuation t ≡ true
is_continuation_of t (inl h) = rw h refl
is_continuation_of t (inr h) = rw h refl

-- a line from its level on
pub record From (t : List ℕ) (l : Parts) : Type 0 where
  pub rest : List ℕ
  pub last : List ℕ
  pub level : level_at t ≡ Some (l.level, rest)
  pub xref : xref_at rest ≡ Some (l.xref, last)
  pub tag : tag_at last ≡ Some (l.tag, l.raw)

-- the level is not too high for the tag
abbrev pub IsLow : Parts → Type 0
IsLow l = l.level ≡ 99 → IsContinuation l.tag

put : (n : ℕ) (x : Option (List ℕ)) (t : List ℕ × List ℕ) (l : Parts) → with_tag n x t ≡ Ok l
    → (record { level = n; xref = x; tag = t.0; raw = t.1 } ≡ l) × (n ≡ 99 → IsContinuation t.0)
put n x t l e = elim (chosen (eqb n 99 && not (is_continuation t.0)) (Err BadLevel)
    (Ok (record { level = n; xref = x; tag = t.0; raw = t.1 })) (Ok l) e) [
      | inl h ↦ absurd (let bad : Err BadLevel ≡ Ok l = h.1 in cc)
      | inr h ↦ (
        ok_is (record { level = n; xref = x; tag = t.0; raw = t.1 }) l h.1,
        λ k. elim (is_continuation t.0) as (λ v. is_continuation t.0 ≡ v → IsContinuation t.0) [
          | true ↦ λ c. continuation_is t.0 c
          | false ↦ λ c. let bad : eqb n 99 && not (is_continuation t.0) ≡ true = rw (eq-eqb n 99 k, c) refl in
              absurd cc
        ] refl,
      )
    ]

put_fault : (n : ℕ) (x : Option (List ℕ)) (t : List ℕ × List ℕ) (k : LineKind) → with_tag n x t ≡ Err k
    → (BadLevel ≡ k) × ((n ≡ 99) × (¬ (IsContinuation t.0)))
put_fault n x t k e =
    elim (chosen (eqb n 99 && not (is_continuation t.0)) (Err BadLevel)
    (Ok (record { level = n; xref = x; tag = t.0; raw = t.1 })) (Err k) e) [
      | inl h ↦ let b = and_parts (eqb n 99) (not (is_continuation t.0)) h.0 in (
        err_is {A = Parts} BadLevel k h.1,
        (
          eqb-true n 99 b.0,
          λ c. let y : is_continuation t.0 ≡ true = is_continuation_of t.0 c in
              let z : is_continuation t.0 ≡ false = not-true _ b.1 in absurd cc,
        ),
      )
      | inr h ↦ absurd (let bad : Ok (record { level = n; xref = x; tag = t.0; raw = t.1 }) ≡ Err k = h.1 in cc)
    ]

from_line : (t : List ℕ) (l : Parts) → reading_from t ≡ Ok l → From t l × IsLow l
unfolding reading_from
from_line t l e =
    let a = ok_step (level_at t) BadLevel
    (λ n. ok_or (xref_at n.1) BadXref >>=r λ x. ok_or (tag_at x.1) BadTag >>=r λ tag. with_tag n.0 x.0 tag) l e in
    let b = ok_step (xref_at a.0.1) BadXref (λ x. ok_or (tag_at x.1) BadTag >>=r λ tag. with_tag a.0.0 x.0 tag) l
    a.1.1 in
    let c = ok_step (tag_at b.0.1) BadTag (λ tag. with_tag a.0.0 b.0.0 tag) l b.1.1 in
    let p = put a.0.0 b.0.0 c.0 l c.1.1 in
    let made : Parts = record { level = a.0.0; xref = b.0.0; tag = c.0.0; raw = c.0.1 } in
    subst (λ (y : Parts). From t y × IsLow y) p.0
    (record { rest = a.0.1; last = b.0.1; level = a.1.0; xref = b.1.0; tag = c.1.0 }, p.1)

low_test : (l : Parts) → IsLow l → (eqb l.level 99 && not (is_continuation l.tag)) ≡ false
low_test l h = elim (eqb l.level 99) as (λ v. eqb l.level 99 ≡ v → (v && not (is_continuation l.tag)) ≡ false) [
  | true ↦ λ e. rw (is_continuation_of l.tag (h (eqb-true l.level 99 e))) refl
  | false ↦ λ e. refl
] refl

line_from : (t : List ℕ) (l : Parts) → From t l → IsLow l → reading_from t ≡ Ok l
unfolding reading_from
line_from t l f h = rw (f.level, f.xref, f.tag, low_test l h) refl

-- texts
text_is : (b t : List ℕ) → IsPiece b → text_at b ≡ Ok t → (t ≡ b) × IsText b
text_is b t p e = elim (chosen (list_any (λ x. eqb x 0) b) (Err Nul) (cond (is_utf8 b) (Ok b) (Err NotUtf8)) (Ok t) e) [
  | inl h ↦ absurd (let bad : Err Nul ≡ Ok t = h.1 in cc)
  | inr h ↦ elim (chosen (is_utf8 b) (Ok b) (Err NotUtf8) (Ok t) h.1) [
    | inl k ↦ (sym (ok_is b t k.1), record { utf8 = IsUtf8-from_is_utf8 b k.0; no_nul = h.0; piece = p })
    | inr k ↦ absurd (let bad : Err NotUtf8 ≡ Ok t = k.1 in cc)
  ]
]

is_text : (b : List ℕ) → IsText b → text_at b ≡ Ok b
is_text b h = rw (h.no_nul, is_utf8-from_IsUtf8 b h.utf8) refl

not_text : (b : List ℕ) → is_utf8 b ≡ false → ¬ (IsUtf8 b)
not_text b h u = let y : is_utf8 b ≡ true = is_utf8-from_IsUtf8 b u in cc

text_fault : (b : List ℕ) (k : LineKind) → text_at b ≡ Err k → Fault b k
text_fault b k e = elim
    (chosen (list_any (λ x. eqb x 0) b) (Err Nul) (cond (is_utf8 b) (Ok b) (Err NotUtf8)) (Err k) e) [
      | inl h ↦ subst (Fault b) (err_is {A = List ℕ} Nul k h.1) h.0
      | inr h ↦ elim (chosen (is_utf8 b) (Ok b) (Err NotUtf8) (Err k) h.1) [
        | inl i ↦ absurd (let bad : Ok b ≡ Err k = i.1 in cc)
        | inr i ↦ subst (Fault b) (err_is {A = List ℕ} NotUtf8 k i.1) (h.0, not_text b i.0)
      ]
    ]

-- a blank piece
blank_skip : (b : List ℕ) → IsBlank b → skip is_white b ≡ []
blank_skip b h = (spans_only is_white b b [] (record { parts = sym (append-nil b); passes = h; stops = tt })).1

white_ascii : (b : ℕ) → is_white b ≡ true → b < 128
white_ascii b h = in_class_ascii White b h

blank_utf8 : (b : List ℕ) → IsBlank b → IsUtf8 b
blank_utf8 b h = IsUtf8-from_ascii b
    (IsAscii-from_all b (λ i d lt. white_ascii (get_or b i d) (AllPass-from_list_all is_white b h i d lt)))

blank_no_nul : (b : List ℕ) → IsBlank b → list_any (λ x. eqb x 0) b ≡ false
blank_no_nul [] h = refl
blank_no_nul (x ∷ xs) h =
    let k = and_parts (is_white x) (list_all is_white xs) h in
    let no : eqb x 0 ≡ false = eqb_false x 0
    (λ e. let bad : is_white 0 ≡ true = subst (λ (y : ℕ). is_white y ≡ true) e k.0 in absurd cc) in
    rw (no, blank_no_nul xs k.1) refl

level_nil : level_at [] ≡ None
unfolding level_at
level_nil = refl

blank_level : (b : List ℕ) (n : ℕ) (rest : List ℕ) → IsBlank b → ¬ (HasLevel b n rest)
blank_level b n rest h l = let e : level_at (skip is_white b) ≡ Some (n, rest) = spelled_level b n rest l in
    let k : level_at (skip is_white b) ≡ None = ap level_at (blank_skip b h) ∙ level_nil in absurd cc

not_blank : (b : List ℕ) → ¬ (IsBlank b) → list_all is_white b ≡ false
not_blank b h = elim (list_all is_white b) as (λ v. list_all is_white b ≡ v → v ≡ false)
    [ true ↦ λ e. absurd (h e) | false ↦ λ e. refl ] refl

is_not_blank : (b : List ℕ) → list_all is_white b ≡ false → ¬ (IsBlank b)
is_not_blank b e h = cc

-- the text, and then the line
abbrev pub Rest : List ℕ → Result (Option Parts) LineKind
Rest b = text_at b >>=r λ t. reading_from (skip is_white t) >>=r λ l. Ok (Some l)

ok_bind : {A B : Type 0} (r : Result A LineKind) (f : A → Result B LineKind) (y : B) → (r >>=r f) ≡ Ok y
    → (x : A) × ((r ≡ Ok x) × (f x ≡ Ok y))
ok_bind (Ok x) f y e = (x, (refl, e))
ok_bind (Err k) f y e = absurd cc

err_bind : {A B : Type 0} (r : Result A LineKind) (f : A → Result B LineKind) (k : LineKind) → (r >>=r f) ≡ Err k
    → (r ≡ Err k) ⊎ ((x : A) × ((r ≡ Ok x) × (f x ≡ Err k)))
err_bind (Ok x) f k e = inr (x, (refl, e))
err_bind {A} {B} (Err j) f k e = inl (ap Err (err_is {A = B} j k e))

spelled_from : (b : List ℕ) (l : Parts) → Spelled b l → From (skip is_white b) l
spelled_from b l h = record {
  rest = h.rest;
  last = h.last;
  level = spelled_level b l.level h.rest h.level;
  xref = spelled_xref h.rest l.xref h.last h.xref;
  tag = spelled_tag h.last l.tag l.raw h.tag;
}

from_spelled : (b : List ℕ) (l : Parts) → IsText b → ¬ (IsBlank b) → From (skip is_white b) l → Spelled b l
from_spelled b l t n f = record {
  text = t;
  some = n;
  rest = f.rest;
  last = f.last;
  level = level_spelled b l.level f.rest f.level;
  xref = xref_spelled f.rest l.xref f.last f.xref;
  tag = tag_spelled f.last l.tag l.raw f.tag;
}

rest_line : (b : List ℕ) (l : Parts) → IsPiece b → Rest b ≡ Ok (Some l) → IsText b × From (skip is_white b) l × IsLow l
rest_line b l p e =
    let a = ok_bind (text_at b) (λ t. reading_from (skip is_white t) >>=r λ l. Ok (Some l)) (Some l) e in
    let t = text_is b a.0 p a.1.0 in
    let r = ok_bind (reading_from (skip is_white a.0)) (λ l. Ok (Some l)) (Some l) a.1.1 in
    let same : r.0 ≡ l = some_is r.0 l (ok_is (Some r.0) (Some l) r.1.1) in
    let f = from_line (skip is_white b) l (ap (λ (x : List ℕ). reading_from (skip is_white x)) (sym t.0) ∙ r.1.0
    ∙ ap Ok same) in
    (t.1, f.0, f.1)

line_rest : (b : List ℕ) (l : Parts) → IsText b → From (skip is_white b) l → IsLow l → Rest b ≡ Ok (Some l)
line_rest b l t f h = rw (is_text b t, line_from (skip is_white b) l f h) refl

rest_some : (b : List ℕ) → Rest b ≡ Ok None → ⊥
rest_some b e =
    let a = ok_bind (text_at b) (λ t. reading_from (skip is_white t) >>=r λ l. Ok (Some l)) None e in
    let r = ok_bind (reading_from (skip is_white a.0)) (λ l. Ok (Some l)) None a.1.1 in
    let same : Some r.0 ≡ None = ok_is (Some r.0) None r.1.1 in
    absurd cc

pub reading_line : (b : List ℕ) (l : Parts) → IsPiece b → reading b ≡ Ok (Some l) → Line b l
unfolding reading
reading_line b l p e = elim (chosen (list_all is_white b) (Ok None) (Rest b) (Ok (Some l)) e) [
  | inl h ↦ absurd (let bad : None ≡ Some l = ok_is None (Some l) h.1 in cc)
  | inr h ↦ let r = rest_line b l p h.1 in
      record { spelled = from_spelled b l r.0 (is_not_blank b h.0) r.1; high = r.2 }
]

pub line_reading : (b : List ℕ) (l : Parts) → Line b l → reading b ≡ Ok (Some l)
unfolding reading
line_reading b l h = rw (not_blank b h.spelled.some) (line_rest b l h.spelled.text (spelled_from b l h.spelled) h.high)

pub reading_blank : (b : List ℕ) → reading b ≡ Ok None → IsBlank b
unfolding reading
reading_blank b e = elim (chosen (list_all is_white b) (Ok None) (Rest b) (Ok None) e)
    [ inl h ↦ h.0 | inr h ↦ absurd (rest_some b h.1) ]

pub blank_reading : (b : List ℕ) → IsBlank b → reading b ≡ Ok None
unfolding reading
blank_reading b h = rw h refl

-- what is wrong from the level on
from_fault : (b : List ℕ) (k : LineKind) → IsText b → ¬ (IsBlank b) → reading_from (skip is_white b) ≡ Err k → Fault b k
unfolding reading_from
from_fault b k t n e =
    let at : List ℕ = skip is_white b in
    elim (err_step (level_at at) BadLevel
    (λ n. ok_or (xref_at n.1) BadXref >>=r λ x. ok_or (tag_at x.1) BadTag >>=r λ tag. with_tag n.0 x.0 tag) k e) [
      | inl h ↦ subst (Fault b) h.1 (
        t,
        n,
        inl (λ m rest l. let f : level_at at ≡ Some (m, rest) = spelled_level b m rest l in
            let g : level_at at ≡ None = h.0 in absurd cc),
      )
      | inr h ↦
          let level : HasLevel b h.0.0 h.0.1 = level_spelled b h.0.0 h.0.1 h.1.0 in
          elim (err_step (xref_at h.0.1) BadXref
          (λ x. ok_or (tag_at x.1) BadTag >>=r λ tag. with_tag h.0.0 x.0 tag) k h.1.1) [
            | inl i ↦ subst (Fault b) i.1 (
              t,
              record {
                level = h.0.0;
                rest = h.0.1;
                has_level = level;
                none = λ x last l.
                    let f : xref_at h.0.1 ≡ Some (x, last) = spelled_xref h.0.1 x last l in
                    let g : xref_at h.0.1 ≡ None = i.0 in absurd cc;
              },
            )
            | inr i ↦
                let xref : HasXref h.0.1 i.0.0 i.0.1 = xref_spelled h.0.1 i.0.0 i.0.1 i.1.0 in
                elim (err_step (tag_at i.0.1) BadTag (λ tag. with_tag h.0.0 i.0.0 tag) k i.1.1) [
                  | inl j ↦ subst (Fault b) j.1 (
                    t,
                    record {
                      level = h.0.0;
                      rest = h.0.1;
                      xref = i.0.0;
                      last = i.0.1;
                      has_level = level;
                      has_xref = xref;
                      none = λ tag raw l. let f : tag_at i.0.1 ≡ Some (tag, raw) = spelled_tag i.0.1
                          tag raw l in let g : tag_at i.0.1 ≡ None = j.0 in absurd cc;
                    },
                  )
                  | inr j ↦
                      let made : Parts = record { level = h.0.0; xref = i.0.0; tag = j.0.0; raw = j.0.1 } in
                      let f : From at made = record {
                        rest = h.0.1;
                        last = i.0.1;
                        level = h.1.0;
                        xref = i.1.0;
                        tag = j.1.0;
                      } in
                      let p = put_fault h.0.0 i.0.0 j.0 k j.1.1 in
                      subst (Fault b) p.0 (
                        t,
                        n,
                        inr (record {
                          line = made;
                          spelled = from_spelled b made t n f;
                          highest = p.1.0;
                          other = p.1.1;
                        }),
                      )
                ]
          ]
    ]

pub reading_fault : (b : List ℕ) (k : LineKind) → IsPiece b → reading b ≡ Err k → Fault b k
unfolding reading
reading_fault b k p e = elim (chosen (list_all is_white b) (Ok None) (Rest b) (Err k) e) [
  | inl h ↦ absurd (let r : Result (Option Parts) LineKind = Ok None in let bad : r ≡ Err k = h.1 in cc)
  | inr h ↦ elim (err_bind (text_at b) (λ t. reading_from (skip is_white t) >>=r λ l. Ok (Some l)) k h.1) [
    | inl i ↦ text_fault b k i
    | inr i ↦
        let t = text_is b i.0 p i.1.0 in
        elim (err_bind (reading_from (skip is_white i.0)) (λ l. Ok (Some l)) k i.1.1) [
          | inl j ↦ from_fault b k t.1 (is_not_blank b h.0)
              (ap (λ (x : List ℕ). reading_from (skip is_white x)) (sym t.0) ∙ j)
          | inr j ↦ absurd (let r : Result (Option Parts) LineKind = Ok (Some j.0) in let bad : r ≡ Err k = j.1.1 in cc)
        ]
  ]
]

none_of : {A : Type 0} (r : Option A) → ((x : A) → r ≡ Some x → ⊥) → r ≡ None
none_of (Some x) h = absurd (h x refl)
none_of None h = refl

no_level : (t : List ℕ) → level_at t ≡ None → reading_from t ≡ Err BadLevel
unfolding reading_from
no_level t h = rw h refl

no_xref : (t : List ℕ) (n : ℕ) (rest : List ℕ) → level_at t ≡ Some (n, rest) → xref_at rest ≡ None
    → reading_from t ≡ Err BadXref
unfolding reading_from
no_xref t n rest l h = rw (l, h) refl

no_tag : (t : List ℕ) (n : ℕ) (rest : List ℕ) → level_at t ≡ Some (n, rest) → (x : Option (List ℕ)) (last : List ℕ)
    → xref_at rest ≡ Some (x, last) → tag_at last ≡ None → reading_from t ≡ Err BadTag
unfolding reading_from
no_tag t n rest l x last f h = rw (l, f, h) refl

high_from : (t : List ℕ) (l : Parts) → From t l → l.level ≡ 99 → ¬ (IsContinuation l.tag)
    → reading_from t ≡ Err BadLevel
unfolding reading_from
high_from t l f h n = rw (f.level, f.xref, f.tag, eq-eqb l.level 99 h, no_continuation l.tag n) refl

pub fault_reading : (b : List ℕ) (k : LineKind) → Fault b k → reading b ≡ Err k
unfolding reading
fault_reading b Nul h = let n : list_all is_white b ≡ false = not_blank b (λ k. let e = blank_no_nul b k in
    absurd cc) in rw (n, h) refl
fault_reading b NotUtf8 h = let n : list_all is_white b ≡ false = not_blank b (λ k. h.1 (blank_utf8 b k)) in
    rw (n, h.0, is_utf8_false b h.1) refl
fault_reading b BadLevel h = rw (not_blank b h.1, is_text b h.0) (elim h.2 [
  | inl none ↦ rw (no_level (skip is_white b)
      (none_of (level_at (skip is_white b)) (λ x e. none x.0 x.1 (level_spelled b x.0 x.1 e)))) refl
  | inr hi ↦ rw (high_from (skip is_white b) hi.line (spelled_from b hi.line hi.spelled) hi.highest hi.other) refl
])
fault_reading b BadXref h =
    let x = h.1 in
    let level = spelled_level b x.level x.rest x.has_level in
    let n = not_blank b (λ k. blank_level b x.level x.rest k x.has_level) in
    rw (
      n,
      is_text b h.0,
      no_xref (skip is_white b) x.level x.rest level
          (none_of (xref_at x.rest) (λ y e. x.none y.0 y.1 (xref_spelled x.rest y.0 y.1 e))),
    ) refl
fault_reading b BadTag h =
    let x = h.1 in
    let level = spelled_level b x.level x.rest x.has_level in
    let n = not_blank b (λ k. blank_level b x.level x.rest k x.has_level) in
    rw (
      n,
      is_text b h.0,
      no_tag (skip is_white b) x.level x.rest level x.xref x.last
          (spelled_xref x.rest x.xref x.last x.has_xref)
          (none_of (tag_at x.last) (λ y e. x.none y.0 y.1 (tag_spelled x.last y.0 y.1 e))),
    ) refl

-- bytes are one line at most, and no blank piece is one
pub line_same : (b : List ℕ) (l m : Parts) → Line b l → Line b m → l ≡ m
line_same b l m x y =
    let p = line_reading b l x in
    let q = line_reading b m y in
    cc
