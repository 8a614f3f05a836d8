-- Texts that are put after what waits one after the other, and what of them is handed over.
use Rattle.std.proofs.Common.{
  ◌≡◌,
  ℕ,
  ◌+◌,
  ◌<◌,
  ◌≤◌,
  List,
  [],
  ◌∷◌,
  ◌++◌,
  length,
  get_or,
  drop,
  drop-cons,
  add-one,
  true,
  refl,
  sym,
  ap,
  subst,
  ◌∙◌,
  inl,
  inr,
  arith,
  append_assoc,
  append-nil,
  length-append,
  Option,
  Result,
  Ok,
  Err,
}
use Rattle.std.specs.Prelude.{MatchResult, OnOk, string_bytes}
use Rattle.std.specs.Io.KnownBytes.{Appends}
use Rattle.std.specs.List.{flat_map}
use Rattle.std.proofs.KnownBytes.{Appends-nil, Appends-trans}
use Rattle.std.proofs.lemmas.List.{take-append-le}
use Rattle.devices.specs.Devices.{AppendsBeginning}
use Rattle.record_text.specs.declared.refusal.RefusalKind.{RefusalKind}
use Rattle.archive_state.specs.Looks.{is_stop}
use Rattle.gedcom_tree.proofs.Handing.{going_stops}
use Rattle.gedcom_export.specs.Ends.{IsBegun, IsReason, IsWhole}
use Rattle.gedcom_export.specs.Waiting.{Halts, IsShort, Moves}
use Rattle.gedcom_export.specs.declared.output.Output.{Output}
use Rattle.devices.proofs.Begun.{begins_none}

pub by_result : {A E : Type 0} {P Q : A → Type 0} {S T : E → Type 0} (r : Result A E) → ((a : A) → P a → Q a)
    → ((e : E) → S e → T e) → MatchResult r P S → MatchResult r Q T
by_result (Ok a) f g h = f a h
by_result (Err e) f g h = g e h

-- ---- reasons
pub reason_more : (n m : ℕ) (e : RefusalKind) → n ≤ m → IsReason n e → IsReason m e
reason_more n m e le (inl stop) = inl stop
reason_more n m e le (inr (inl failed)) = inr (inl failed)
reason_more n m e le (inr (inr large)) =
    let more : 67108864 < n = large.1 in inr (inr (large.0, omega arith))

-- ---- a beginning of a text is one of a longer text
pub begins_more : (a b : Option (List ℕ)) (s t : List ℕ) → AppendsBeginning a b s → AppendsBeginning a b (s ++ t)
begins_more a b s t h =
    let n : ℕ = h.0 in
    let short : n ≤ length s = h.1 in
    (n, omega (arith, length-append s t), subst (Appends a b) (sym (take-append-le n s t h.1)) h.2)

module _ (a b : Option (List ℕ)) (x : Output) where
  -- where it ends after a part, and more was to come
  pub halts_early : (s t : List ℕ) (e : RefusalKind) → Halts a b x s e → Halts a b x (s ++ t) e
  halts_early s t e h =
      let waits : List ℕ = string_bytes x.text in
      let whole : (waits ++ s) ++ t ≡ waits ++ (s ++ t) = append_assoc waits s t in
      record {
        reason = reason_more (x.written + length (waits ++ s)) (x.written + length (waits ++ (s ++ t))) e
            (omega (arith, ap length whole, length-append (waits ++ s) t)) h.reason;
        written = subst (AppendsBeginning a b) whole (begins_more a b (waits ++ s) t h.written);
      }

-- nothing is handed over
pub waits_more : (a : Option (List ℕ)) (x y : Output) (t : List ℕ) → y.written ≡ x.written
    → string_bytes y.text ≡ string_bytes x.text ++ t → Moves a a x y t
waits_more a x y t count e = record { front = []; taken = Appends-nil a; parts = e; counted = omega (arith, count) }

pub stops_here : (a : Option (List ℕ)) (x : Output) (t : List ℕ) (e : RefusalKind) → is_stop e ≡ true → Halts a a x t e
stops_here a x t e stop = record { reason = inl stop; written = begins_none a (string_bytes x.text ++ t) }

module _ (a b c : Option (List ℕ)) (x y : Output) where
  pub moves_more : (z : Output) (s t : List ℕ) → Moves a b x y s → Moves b c y z t → Moves a c x z (s ++ t)
  moves_more z s t m n = record {
    front = m.front ++ n.front;
    taken = Appends-trans a b c m.front n.front m.taken n.taken;
    parts =
        append_assoc m.front n.front (string_bytes z.text) ∙ ap (λ (l : List ℕ). m.front ++ l) n.parts
        ∙ sym (append_assoc m.front (string_bytes y.text) t) ∙ ap (λ (l : List ℕ). l ++ t) m.parts
        ∙ append_assoc (string_bytes x.text) s t;
    counted = omega (arith, m.counted, n.counted, length-append m.front n.front);
  }

  pub halts_more : (s t : List ℕ) (e : RefusalKind) → Moves a b x y s → Halts b c y t e → Halts a c x (s ++ t) e
  halts_more s t e m h =
      let waits : List ℕ = string_bytes x.text in
      let left : List ℕ = string_bytes y.text in
      let whole : m.front ++ (left ++ t) ≡ waits ++ (s ++ t) =
      sym (append_assoc m.front left t) ∙ ap (λ (l : List ℕ). l ++ t) m.parts ∙ append_assoc waits s t in
      record {
        reason = reason_more (y.written + length (left ++ t)) (x.written + length (waits ++ (s ++ t))) e
            (omega (arith, m.counted, ap length whole, length-append m.front (left ++ t))) h.reason;
        written = going_stops a b c (waits ++ (s ++ t)) left t t []
            (record { front = m.front; taken = m.taken; parts = whole }) (sym (append-nil t)) h.written;
      }

-- ---- of a whole text a part is moved, and the rest is left
pub record IsOnTheWay (a b : Option (List ℕ)) (x y : Output) (whole rest : List ℕ) : Type 0 where
  pub added : List ℕ
  pub moved : Moves a b x y added
  pub parts : added ++ rest ≡ whole

pub at_start : (a : Option (List ℕ)) (x : Output) (whole : List ℕ) → IsOnTheWay a a x x whole whole
at_start a x whole = record {
  added = [];
  moved = waits_more a x x [] refl (sym (append-nil (string_bytes x.text)));
  parts = refl;
}

pub one_further : (a b c : Option (List ℕ)) (x y z : Output) (whole rest t left : List ℕ)
    → IsOnTheWay a b x y whole rest → rest ≡ t ++ left → Moves b c y z t → IsOnTheWay a c x z whole left
one_further a b c x y z whole rest t left w e m = record {
  added = w.added ++ t;
  moved = moves_more a b c x y z w.added t w.moved m;
  parts = append_assoc w.added t left ∙ ap (λ (l : List ℕ). w.added ++ l) (sym e) ∙ w.parts;
}

pub ends_between : (a b c : Option (List ℕ)) (x y : Output) (whole rest t left : List ℕ) (e : RefusalKind)
    → IsOnTheWay a b x y whole rest → rest ≡ t ++ left → Halts b c y t e → Halts a c x whole e
ends_between a b c x y whole rest t left e w is h =
    subst (λ (l : List ℕ). Halts a c x l e)
    (append_assoc w.added t left ∙ ap (λ (l : List ℕ). w.added ++ l) (sym is) ∙ w.parts)
    (halts_early a c x (w.added ++ t) left e (halts_more a b c x y w.added t e w.moved h))

pub at_end : (a b : Option (List ℕ)) (x y : Output) (whole rest : List ℕ) → IsOnTheWay a b x y whole rest → rest ≡ []
    → Moves a b x y whole
at_end a b x y whole rest w e =
    subst (Moves a b x y) (sym (append-nil w.added) ∙ ap (λ (l : List ℕ). w.added ++ l) (sym e) ∙ w.parts) w.moved

-- the text of the next of a list
pub next_text : {A : Type 0} (f : A → List ℕ) (xs : List A) (i : ℕ) (d : A) → i < length xs
    → flat_map f (drop i xs) ≡ f (get_or xs i d) ++ flat_map f (drop (i + 1) xs)
next_text f xs i d less = ap (flat_map f)
    (drop-cons xs i d less ∙ ap (λ k. get_or xs i d ∷ drop k xs) (sym (add-one i)))

-- ---- where nothing waited at the start
pub whole_of : (a b c : Option (List ℕ)) (x y z : Output) (t : List ℕ) → x.written ≡ 0 → string_bytes x.text ≡ []
    → Moves a b x y t → Moves b c y z [] → IsShort z → string_bytes z.text ≡ [] → IsWhole a c t
whole_of a b c x y z t none empty m n short all =
    let both : Moves a c x z t = subst (Moves a c x z) (append-nil t) (moves_more a b c x y z t [] m n) in
    let same : both.front ≡ t =
    sym (append-nil both.front) ∙ ap (λ (l : List ℕ). both.front ++ l) (sym all) ∙ both.parts
    ∙ ap (λ (l : List ℕ). l ++ t) empty in
    record {
      short = omega (arith, none, both.counted, short, ap length same, ap length all);
      written = subst (Appends a c) same both.taken;
    }

pub begun_of : (a b : Option (List ℕ)) (x : Output) (t : List ℕ) (e : RefusalKind) → x.written ≡ 0
    → string_bytes x.text ≡ [] → Halts a b x t e → IsBegun a b t e
begun_of a b x t e none empty h =
    let same : string_bytes x.text ++ t ≡ t = ap (λ (l : List ℕ). l ++ t) empty in
    record {
      reason = subst (λ (n : ℕ). IsReason n e)
          (let counted : x.written + length (string_bytes x.text ++ t) ≡ length t =
          omega (arith, none, ap length same) in counted) h.reason;
      written = subst (AppendsBeginning a b) same h.written;
    }

pub ends_of : {A : Type 0} (r : Result A RefusalKind) (a b c : Option (List ℕ)) (x y z : Output) (t : List ℕ)
    → x.written ≡ 0 → string_bytes x.text ≡ [] → Moves a b x y t
    → MatchResult r (λ _. Moves b c y z []) (λ e. Halts b c y [] e) → OnOk r (IsShort z)
    → OnOk r (string_bytes z.text ≡ []) → MatchResult r (λ _. IsWhole a c t) (λ e. IsBegun a c t e)
ends_of (Ok u) a b c x y z t none empty m n short all = whole_of a b c x y z t none empty m n short all
ends_of (Err e) a b c x y z t none empty m h short all =
    begun_of a c x t e none empty
    (subst (λ (l : List ℕ). Halts a c x l e) (append-nil t) (halts_more a b c x y t [] e m h))

pub same_ends : {A : Type 0} (r : Result A RefusalKind) (a b : Option (List ℕ)) (s t : List ℕ) → s ≡ t
    → MatchResult r (λ _. IsWhole a b s) (λ e. IsBegun a b s e)
    → MatchResult r (λ _. IsWhole a b t) (λ e. IsBegun a b t e)
same_ends r a b s t e h =
    by_result r (λ _ whole. subst (IsWhole a b) e whole) (λ k begun. subst (λ (l : List ℕ). IsBegun a b l k) e begun) h
