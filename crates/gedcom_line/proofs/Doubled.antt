-- Escaping and unescaping, step by step, and that one undoes the other.
use Rattle.std.proofs.Common.{
  ◌≡◌,
  ◌≢◌,
  ℕ,
  suc,
  Bool,
  true,
  false,
  cond,
  eqb,
  ltb,
  ◌&&◌,
  not,
  List,
  [],
  ◌∷◌,
  ◌++◌,
  length,
  refl,
  sym,
  ap,
  ◌∙◌,
  subst,
  inl,
  inr,
  ◌⊎◌,
  arith,
  append_assoc,
  Some,
  None,
}
use Rattle.std.specs.Prelude.{is_some, unwrap_or}
use Rattle.std.specs.List.{position_or_len, before_first, after_first, list_all}
use Rattle.std.specs.Option.{option_map_or}
use Rattle.std.proofs.lemmas.Bool.{eqb-true, ltb-true, not-true, and_parts, cases_Bool}
use Rattle.std.proofs.lemmas.List.{append-nil}
use Rattle.gedcom_line.specs.Words.{is_at}
use Rattle.gedcom_line.specs.Past.{past_char}
use Rattle.gedcom_line.specs.Escape.{NoAt, ends_escape, begins_escape, escaped_from, escaped, unescaped, past_pair}
use Rattle.gedcom_line.proofs.Steps.{eqb_false, eqb_no, at_parts, all_front}

pub tail_no_at : (c : ℕ) (cs : List ℕ) → NoAt (c ∷ cs) → NoAt cs
tail_no_at c cs h = λ i lt. h (suc i) (omega arith)

pub head_no_at : (c : ℕ) (cs : List ℕ) → NoAt (c ∷ cs) → eqb c 64 ≡ false
head_no_at c cs h = eqb_false c 64 (h 0 (omega arith))

pub escaped_skip : (inside : Bool) (front after : List ℕ) → NoAt front → escaped_from inside (front ++ after)
    ≡ front ++ escaped_from inside after
escaped_skip inside [] after h = refl
escaped_skip inside (c ∷ cs) after h = rw (head_no_at c cs h, escaped_skip inside cs after (tail_no_at c cs h)) refl

pub escaped_all : (inside : Bool) (xs : List ℕ) → NoAt xs → escaped_from inside xs ≡ xs
escaped_all inside xs h = ap (escaped_from inside) (sym (append-nil xs)) ∙ escaped_skip inside xs [] h ∙ append-nil xs

-- one turn: the front, a mark, and what is left
pub turn : (out front mark after rest whole : List ℕ) (i j : Bool) → rest ≡ front ++ 64 ∷ after → NoAt front
    → escaped_from i (64 ∷ after) ≡ mark ++ escaped_from j after → out ++ escaped_from i rest ≡ whole
    → ((out ++ front) ++ mark) ++ escaped_from j after ≡ whole
turn out front mark after rest whole i j parts none step so_far =
    let e : escaped_from i rest ≡ front ++ (mark ++ escaped_from j after) = ap (escaped_from i) parts
    ∙ escaped_skip i front (64 ∷ after) none ∙ ap (λ (x : List ℕ). front ++ x) step in
    append_assoc (out ++ front) mark (escaped_from j after) ∙ append_assoc out front (mark ++ escaped_from j after)
    ∙ ap (λ (x : List ℕ). out ++ x) (sym e) ∙ so_far

pub last_turn : (out rest whole : List ℕ) (i : Bool) → NoAt rest → out ++ escaped_from i rest ≡ whole
    → out ++ rest ≡ whole
last_turn out rest whole i none so_far = ap (λ (x : List ℕ). out ++ x) (sym (escaped_all i rest none)) ∙ so_far

-- the same of unescaping
pub unescaped_cons : (c : ℕ) (cs : List ℕ) → c ≢ 64 → unescaped (c ∷ cs) ≡ c ∷ unescaped cs
unescaped_cons c [] h = refl
unescaped_cons c (d ∷ cs) h = rw (eqb_false c 64 h) refl

pub unescaped_at : (cs : List ℕ) → unescaped (64 ∷ cs) ≡ 64 ∷ unescaped (past_pair cs)
unescaped_at [] = refl
unescaped_at (d ∷ cs) = elim (eqb d 64) as (λ v. cond v (64 ∷ unescaped cs) (64 ∷ unescaped (d ∷ cs))
    ≡ 64 ∷ unescaped (unwrap_or (cond v (Some cs) None) (d ∷ cs))) [ true ↦ refl | false ↦ refl ]

pub unescaped_skip : (front after : List ℕ) → NoAt front → unescaped (front ++ after) ≡ front ++ unescaped after
unescaped_skip [] after h = refl
unescaped_skip (c ∷ cs) after h = unescaped_cons c (cs ++ after) (h 0 (omega arith)) ∙ ap (λ (x : List ℕ). c ∷ x)
    (unescaped_skip cs after (tail_no_at c cs h))

pub unescaped_all : (xs : List ℕ) → NoAt xs → unescaped xs ≡ xs
unescaped_all xs h = ap unescaped (sym (append-nil xs)) ∙ unescaped_skip xs [] h ∙ append-nil xs

pub unturn : (out front after rest whole : List ℕ) → rest ≡ front ++ 64 ∷ after → NoAt front
    → out ++ unescaped rest ≡ whole → ((out ++ front) ++ 64 ∷ []) ++ unescaped (past_pair after) ≡ whole
unturn out front after rest whole parts none so_far =
    let e : unescaped rest ≡ front ++ (64 ∷ unescaped (past_pair after)) = ap unescaped parts
    ∙ unescaped_skip front (64 ∷ after) none ∙ ap (λ (x : List ℕ). front ++ x) (unescaped_at after) in
    append_assoc (out ++ front) (64 ∷ []) (unescaped (past_pair after)) ∙ append_assoc out front
    (64 ∷ unescaped (past_pair after)) ∙ ap (λ (x : List ℕ). out ++ x) (sym e) ∙ so_far

pub last_unturn : (out rest whole : List ℕ) → NoAt rest → out ++ unescaped rest ≡ whole → out ++ rest ≡ whole
last_unturn out rest whole none so_far = ap (λ (x : List ℕ). out ++ x) (sym (unescaped_all rest none)) ∙ so_far

-- inside an escape the text goes on to an @ with a space after it
abbrev pub Ends : Bool → List ℕ → Type 0
Ends false cs = Unit {0}
Ends true [] = ⊥
Ends true (c ∷ cs) = ((c ≡ 64) × ((ds : List ℕ) × (cs ≡ 32 ∷ ds))) ⊎ ((c ≢ 64) × Ends true cs)

-- the three marks
pub marks_inside : (i : Bool) (after : List ℕ) → i ≡ true → escaped_from i (64 ∷ after) ≡ (64 ∷ [])
    ++ escaped_from false after
marks_inside i after h = rw h refl

pub marks_begin : (i : Bool) (after : List ℕ) → i ≡ false → begins_escape after ≡ true
    → escaped_from i (64 ∷ after) ≡ (64 ∷ []) ++ escaped_from true after
marks_begin i after h b = rw (h, b) refl

pub marks_pair : (i : Bool) (after : List ℕ) → i ≡ false → begins_escape after ≡ false
    → escaped_from i (64 ∷ after) ≡ (64 ∷ 64 ∷ []) ++ escaped_from false after
marks_pair i after h b = rw (h, b) refl

ends_after : (front ds : List ℕ) → list_all (λ b. not (is_at b)) front ≡ true → Ends true (front ++ 64 ∷ 32 ∷ ds)
ends_after [] ds h = inl (refl, (ds, refl))
ends_after (c ∷ cs) ds h =
    let k = and_parts (not (is_at c)) (list_all (λ b. not (is_at b)) cs) h in
    inr (eqb_no c 64 (not-true (is_at c) k.0), ends_after cs ds k.1)

pub space_after : (t : List ℕ) → is_some (past_char 32 t) ≡ true → (ds : List ℕ) × (t ≡ 32 ∷ ds)
space_after [] e = absurd cc
space_after (c ∷ cs) e = elim (eqb c 32) as (λ v. eqb c 32 ≡ v → is_some (cond v (Some cs) None) ≡ true
    → (ds : List ℕ) × (c ∷ cs ≡ 32 ∷ ds)) [
      | true ↦ λ k _. (cs, ap (λ (x : ℕ). x ∷ cs) (eqb-true c 32 k))
      | false ↦ λ k f. absurd cc
    ] refl e

ends_made : (es : List ℕ) → ends_escape es ≡ true → Ends true es
ends_made es e =
    let a = and_parts (ltb 0 (position_or_len is_at es) && ltb (position_or_len is_at es) (length es))
    (is_some (past_char 32 (after_first is_at es))) e in
    let b = and_parts (ltb 0 (position_or_len is_at es)) (ltb (position_or_len is_at es) (length es)) a.0 in
    let s = space_after (after_first is_at es) a.1 in
    let whole : es ≡ before_first is_at es ++ 64 ∷ 32 ∷ s.0 = at_parts es (ltb-true _ _ b.1)
    ∙ ap (λ (x : List ℕ). before_first is_at es ++ 64 ∷ x) s.1 in
    subst (Ends true) (sym whole) (ends_after (before_first is_at es) s.0 (all_front (λ b. not (is_at b)) es))

pub begins_made : (cs : List ℕ) → begins_escape cs ≡ true → (es : List ℕ) × ((cs ≡ 35 ∷ es) × Ends true es)
begins_made [] e = absurd cc
begins_made (c ∷ cs) e = elim (eqb c 35) as (λ v. eqb c 35 ≡ v → option_map_or ends_escape (cond v (Some cs) None) false
    ≡ true → (es : List ℕ) × ((c ∷ cs ≡ 35 ∷ es) × Ends true es)) [
      | true ↦ λ k f. (cs, (ap (λ (x : ℕ). x ∷ cs) (eqb-true c 35 k), ends_made cs f))
      | false ↦ λ k f. absurd cc
    ] refl e

-- one character of a text that was escaped is read again, given the rest
plain_step : (i : Bool) (c : ℕ) (cs : List ℕ) → eqb c 64 ≡ false → unescaped (escaped_from i cs) ≡ cs
    → unescaped (escaped_from i (c ∷ cs)) ≡ c ∷ cs
plain_step i c cs e h = rw e (unescaped_cons c (escaped_from i cs) (eqb_no c 64 e) ∙ ap (λ (x : List ℕ). c ∷ x) h)

pair_step : (c : ℕ) (cs : List ℕ) → c ≡ 64 → begins_escape cs ≡ false → unescaped (escaped_from false cs) ≡ cs
    → unescaped (escaped_from false (c ∷ cs)) ≡ c ∷ cs
pair_step c cs e f h = rw (e, f, h) refl

begin_step : (c : ℕ) (cs : List ℕ) → c ≡ 64 → begins_escape cs ≡ true
    → (Ends true cs → unescaped (escaped_from true cs) ≡ cs) → unescaped (escaped_from false (c ∷ cs)) ≡ c ∷ cs
begin_step c cs e f h =
    let b = begins_made cs f in
    let ends : Ends true cs = subst (Ends true) (sym b.1.0) (inr (λ k. let bad : 35 ≡ 64 = k in absurd cc, b.1.1)) in
    let plain : past_pair (escaped_from true cs) ≡ escaped_from true cs = rw b.1.0 refl in
    rw (e, f) (unescaped_at (escaped_from true cs) ∙ rw (plain, h ends) refl)

end_step : (c : ℕ) (cs ds : List ℕ) → c ≡ 64 → cs ≡ 32 ∷ ds → unescaped (escaped_from false cs) ≡ cs
    → unescaped (escaped_from true (c ∷ cs)) ≡ c ∷ cs
end_step c cs ds e f h =
    let plain : past_pair (escaped_from false cs) ≡ escaped_from false cs = rw f refl in
    rw e (unescaped_at (escaped_from false cs) ∙ rw (plain, h) refl)

outside_step : (c : ℕ) (cs : List ℕ) → unescaped (escaped_from false cs) ≡ cs
    → (Ends true cs → unescaped (escaped_from true cs) ≡ cs) → unescaped (escaped_from false (c ∷ cs)) ≡ c ∷ cs
outside_step c cs h k = elim (cases_Bool (eqb c 64)) [
  | inr e ↦ plain_step false c cs e h
  | inl e ↦ elim (cases_Bool (begins_escape cs)) [
    | inl f ↦ begin_step c cs (eqb-true c 64 e) f k
    | inr f ↦
        pair_step c cs (eqb-true c 64 e) f h
  ]
]

inside_step : (c : ℕ) (cs : List ℕ) → unescaped (escaped_from false cs) ≡ cs
    → (Ends true cs → unescaped (escaped_from true cs) ≡ cs) → Ends true (c ∷ cs)
    → unescaped (escaped_from true (c ∷ cs)) ≡ c ∷ cs
inside_step c cs h k (inl e) = end_step c cs e.1.0 e.0 e.1.1 h
inside_step c cs h k (inr e) = plain_step true c cs (eqb_false c 64 e.0) (k e.1)

-- what was escaped is read again
unescaped-escaped_from : (t : List ℕ) → (unescaped (escaped_from false t) ≡ t)
    × (Ends true t → unescaped (escaped_from true t) ≡ t)
unescaped-escaped_from [] = (refl, λ h. absurd h)
unescaped-escaped_from (c ∷ cs) =
    let h = unescaped-escaped_from cs in
    (outside_step c cs h.0 h.1, inside_step c cs h.0 h.1)

pub unescaped-escaped : (t : List ℕ) → unescaped (escaped t) ≡ t
unescaped-escaped t = (unescaped-escaped_from t).0
