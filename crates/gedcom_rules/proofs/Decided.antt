-- What the bytes so far decide: the computed answer is that of the definition, both ways.
use Rattle.std.proofs.Common.{
  ◌≡◌,
  ℕ,
  ◌+◌,
  ◌<◌,
  ◌≤◌,
  true,
  false,
  eqb,
  ltb,
  ◌&&◌,
  List,
  [],
  length,
  refl,
  sym,
  ap,
  ◌∙◌,
  subst,
  inl,
  inr,
  ◌⊎◌,
  Option,
  Some,
  None,
  Ok,
  Err,
  Result,
}
use Rattle.std.specs.Prelude.{is_some}
use Rattle.std.proofs.lemmas.Bool.{ltb-true, and_parts, or_cases, cases_Bool}
use Rattle.gedcom_rules.specs.declared.fault.TreeKind.TheVariants.{TooLong, FileTooLarge}
use Rattle.gedcom_rules.specs.Pieces.{file_pieces, skip_mark}
use Rattle.gedcom_rules.specs.Rules.{Progress, progress_of}
use Rattle.gedcom_rules.specs.Faults.{max_line, max_file, Fault, FaultIn, overflows, within, extra, Decides, IsOpen}
use Rattle.gedcom_rules.specs.Judging.{start, run, fault_behind, open_fault, decided}
use Rattle.gedcom_rules.proofs.Cuts.{pieces_whole}
use Rattle.gedcom_rules.proofs.Runs.{Ran, ran, clean_run, fault_run}
use Rattle.gedcom_rules.proofs.Limits.{no_extra, extra_large}

pub some_is : (x y : Fault) → Some x ≡ Some y → x ≡ y
some_is x y e = cc

-- what is decided, from what the pieces that have ended leave
open_decides : (b : List ℕ) (r : Result Progress Fault) → Ran [] (file_pieces (within b)).ended r → (f : Fault)
    → open_fault (file_pieces (within b)).open_ (extra b) r ≡ Some f → Decides b f
open_decides b (Err g) h f e = inl (subst (FaultIn [] (file_pieces (within b)).ended) (some_is g f e) h)
open_decides b (Ok q) h f e = elim (cases_Bool (overflows (file_pieces (within b)).open_ (extra b))) [
  | inl o ↦
      let at : fault_behind q.count TooLong ≡ f = some_is (fault_behind q.count TooLong) f (rw o at e) in
      inr (record {
        lines = h.0;
        clean = h.1.0;
        at = sym (ap (λ (g : Fault). g.at) at)
            ∙ ap (λ (p : Progress). Some (p.count + 1)) h.1.1;
        kind = inl (sym (ap (λ (g : Fault). g.kind) at), o);
      })
  | inr o ↦ elim (cases_Bool (is_some (extra b))) [
    | inl x ↦
        let at : fault_behind q.count FileTooLarge ≡ f = some_is (fault_behind q.count FileTooLarge) f
        (rw (o, x) at e) in
        inr (record {
          lines = h.0;
          clean = h.1.0;
          at = sym (ap (λ (g : Fault). g.at) at)
              ∙ ap (λ (p : Progress). Some (p.count + 1)) h.1.1;
          kind = inr (sym (ap (λ (g : Fault). g.kind) at), (o, x));
        })
    | inr x ↦ let bad : None ≡ Some f = rw (o, x) at e in absurd cc
  ]
]

pub decided_is : (b : List ℕ) (f : Fault) → decided b ≡ Some f → Decides b f
unfolding decided
decided_is b f e = open_decides b (run start (file_pieces (within b)).ended)
    (ran [] (file_pieces (within b)).ended (pieces_whole (skip_mark (within b))).0) f e

over_kind : (b : List ℕ) (f : Fault) (n : ℕ) → f.at ≡ Some (n + 1)
    → ((f.kind ≡ TooLong) × (overflows (file_pieces (within b)).open_ (extra b) ≡ true))
    ⊎ ((f.kind ≡ FileTooLarge) × ((overflows (file_pieces (within b)).open_ (extra b) ≡ false)
    × (is_some (extra b) ≡ true))) → (p : Progress) → p.count ≡ n → open_fault (file_pieces (within b)).open_
    (extra b) (Ok p) ≡ Some f
over_kind b f n at (inl h) p c = rw (h.1, c, ← h.0, ← at) refl
over_kind b f n at (inr h) p c = rw (h.1.0, h.1.1, c, ← h.0, ← at) refl

pub is_decided : (b : List ℕ) (f : Fault) → Decides b f → decided b ≡ Some f
unfolding decided
is_decided b f (inl h) = rw (fault_run [] (file_pieces (within b)).ended f h) refl
is_decided b f (inr h) =
    ap (open_fault (file_pieces (within b)).open_ (extra b))
    (clean_run [] (file_pieces (within b)).ended h.lines h.clean)
    ∙ over_kind b f (length h.lines) h.at h.kind (progress_of h.lines) refl

pub undecided : (b : List ℕ) → decided b ≡ None → IsOpen b
undecided b e = λ f h. let k : decided b ≡ Some f = is_decided b f h in absurd cc

pub open_undecided : (b : List ℕ) → IsOpen b → decided b ≡ None
open_undecided b h = elim (decided b) as (λ o. decided b ≡ o → o ≡ None) [
  | None ↦ λ e. refl
  | Some f ↦ λ e. absurd (h f (decided_is b f e))
] refl

pub decided_one : (b : List ℕ) (f g : Fault) → Decides b f → Decides b g → f ≡ g
decided_one b f g x y =
    let p : decided b ≡ Some f = is_decided b f x in
    let q : decided b ≡ Some g = is_decided b g y in
    some_is f g (sym p ∙ q)

-- bytes that decide nothing are not too many
open_small : (rest : List ℕ) (next : Option ℕ) (r : Result Progress Fault) → open_fault rest next r ≡ None
    → is_some next ≡ false
open_small rest next (Err f) e = absurd cc
open_small rest next (Ok p) e = elim (cases_Bool (overflows rest next)) [
  | inl o ↦ let bad : Some (fault_behind p.count TooLong) ≡ None = rw o at e in absurd cc
  | inr o ↦ elim (cases_Bool (is_some next)) [
    | inl x ↦ let bad : Some (fault_behind p.count FileTooLarge) ≡ None = rw (o, x) at e in absurd cc
    | inr x ↦ x
  ]
]

pub decided_small : (b : List ℕ) → decided b ≡ None → length b ≤ max_file
unfolding decided
decided_small b e = no_extra b
    (open_small (file_pieces (within b)).open_ (extra b) (run start (file_pieces (within b)).ended) e)

-- more bytes than a file may have decide one
large_open : (rest : List ℕ) (next : Option ℕ) (r : Result Progress Fault) → is_some next ≡ true
    → (f : Fault) × (open_fault rest next r ≡ Some f)
large_open rest next (Err f) h = (f, refl)
large_open rest next (Ok p) h = elim (cases_Bool (overflows rest next)) [
  | inl o ↦ (fault_behind p.count TooLong, rw o refl)
  | inr o ↦ (fault_behind p.count FileTooLarge, rw (o, h) refl)
]

pub large_decided : (b : List ℕ) → max_file < length b → (f : Fault) × (decided b ≡ Some f)
unfolding decided
large_decided b lt = large_open (file_pieces (within b)).open_ (extra b) (run start (file_pieces (within b)).ended)
    (ap is_some (sym (extra_large b lt)))

-- a line that has not ended, where no byte follows
pub no_overflow : (rest : List ℕ) → overflows rest None ≡ true → max_line < length rest
no_overflow rest h = elim (or_cases (ltb max_line (length rest)) (eqb (length rest) max_line && false) h) [
  | inl a ↦ ltb-true max_line (length rest) a
  | inr a ↦ absurd (let k = and_parts (eqb (length rest) max_line) false a in let bad : false ≡ true = k.1 in cc)
]
