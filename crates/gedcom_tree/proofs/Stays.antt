-- A fault that bytes decide is that of each file that begins with them.
use Rattle.std.proofs.Common.{
  ◌≡◌,
  ℕ,
  suc,
  ◌-◌,
  ◌<◌,
  ◌≤◌,
  List,
  [],
  ◌∷◌,
  ◌++◌,
  length,
  take,
  refl,
  sym,
  ap,
  ◌∙◌,
  inl,
  inr,
  ◌⊎◌,
  arith,
  Option,
  Some,
  None,
  Ok,
  Err,
  Result,
}
use Rattle.std.proofs.lemmas.Bool.{cases_lt, lt-ltb, or_parts, cases_Bool}
use Rattle.gedcom_line.specs.Words.{is_end}
use Rattle.gedcom_line.specs.Line.{IsPiece}
use Rattle.gedcom_rules.specs.Pieces.{Pieces, pieces, onto_first, skip_mark, file_pieces}
use Rattle.gedcom_rules.specs.Rules.{Progress}
use Rattle.gedcom_rules.specs.declared.fault.TreeKind.TheVariants.{TooLong}
use Rattle.gedcom_rules.specs.Faults.{max_line, max_file, Fault, overflows, within, extra, Decides, FaultOf}
use Rattle.gedcom_rules.specs.Judging.{start, run, fault_behind, open_fault, decided}
use Rattle.gedcom_rules.proofs.Cuts.{pieces_whole}
use Rattle.gedcom_rules.proofs.Judged.{judge_long}
use Rattle.gedcom_rules.proofs.Runs.{run-append, run_err, run_nil}
use Rattle.gedcom_rules.proofs.Limits.{within_small, extra_small, within-append, front_same, extra_same}
use Rattle.gedcom_rules.proofs.Marks.{resumed, file_pieces-append, long_resumed}
use Rattle.gedcom_rules.proofs.Decided.{decided_is, is_decided, no_overflow}
use Rattle.gedcom_tree.proofs.Ends.{decides_fault}

-- the first piece is not shorter than this
abbrev Longer : ℕ → Pieces → Type 0
Longer n p = ((p.ended ≡ []) × (n ≤ length p.open_))
    ⊎ ((q : List ℕ) × ((qs : List (List ℕ)) × ((p.ended ≡ q ∷ qs) × (n ≤ length q))))

any_longer : (ended : List (List ℕ)) (open_ : List ℕ) → Longer 0 (record { ended = ended; open_ = open_ })
any_longer [] o = inl (refl, omega arith)
any_longer (q ∷ qs) o = inr (q, (qs, (refl, omega arith)))

onto_longer : (x n : ℕ) (ended : List (List ℕ)) (open_ : List ℕ) → Longer n (record { ended = ended; open_ = open_ })
    → Longer (suc n) (onto_first x ended open_)
onto_longer x n [] o (inl h) = inl (refl, omega (arith, h.1))
onto_longer x n [] o (inr h) = absurd (let bad = h.1.1.0 in cc)
onto_longer x n (q ∷ qs) o (inl h) = absurd (let bad = h.0 in cc)
onto_longer x n (q ∷ qs) o (inr h) =
    inr (
      x ∷ q,
      (
        qs,
        (
          refl,
          let same : q ≡ h.0 = first_of q h.0 qs h.1.0 h.1.1.0 in
              omega (arith, h.1.1.1, ap length same),
        ),
      ),
    )
  where
    first_of : (a b : List ℕ) (xs ys : List (List ℕ)) → a ∷ xs ≡ b ∷ ys → a ≡ b
    first_of a b xs ys e = cc

first_longer : (o c : List ℕ) → IsPiece o → Longer (length o) (pieces (o ++ c))
unfolding pieces
first_longer [] c w = any_longer (pieces c).ended (pieces c).open_
first_longer (x ∷ xs) c w =
    let n = or_parts (is_end x) _ w in
    rw n.0 (onto_longer x (length xs) (pieces (xs ++ c)).ended (pieces (xs ++ c)).open_ (first_longer xs c n.1))

-- a line that is too long stays so
long_stays : (p : Progress) (o c : List ℕ) (next : Option ℕ) → IsPiece o → max_line < length o
    → open_fault (pieces (o ++ c)).open_ next (run p (pieces (o ++ c)).ended) ≡ Some (fault_behind p.count TooLong)
long_stays p o c next w lt = elim (first_longer o c w) [
  | inl h ↦ rw h.0 (long_open p (pieces (o ++ c)).open_ next (omega (arith, h.1, lt)))
  | inr h ↦ rw (h.1.1.0, run_err p h.0 h.1.0 TooLong (judge_long p h.0 (omega (arith, h.1.1.1, lt)))) refl
]
  where
    long_open : (p : Progress) (rest : List ℕ) (next : Option ℕ) → max_line < length rest
        → open_fault rest next (run p []) ≡ Some (fault_behind p.count TooLong)
    long_open p rest next lt = rw (run_nil p, lt-ltb max_line (length rest) lt) refl

decided_more : (b c : List ℕ) (f : Fault) (next : Option ℕ) (r : Result Progress Fault)
    → run start (file_pieces b).ended ≡ r → open_fault (file_pieces b).open_ None r ≡ Some f
    → open_fault (file_pieces (b ++ c)).open_ next (run start (file_pieces (b ++ c)).ended) ≡ Some f
decided_more b c f next (Err g) e h =
    rw (
      file_pieces-append b c,
      run-append start (file_pieces b).ended
          (pieces (resumed (length b) (file_pieces b).open_ c)).ended,
      e,
    ) h
decided_more b c f next (Ok p) e h = elim (cases_Bool (overflows (file_pieces b).open_ None)) [
  | inr o ↦ absurd (let bad : None ≡ Some f = rw o at h in cc)
  | inl o ↦
      let lt : max_line < length (file_pieces b).open_ = no_overflow (file_pieces b).open_ o in
      let k : Some (fault_behind p.count TooLong) ≡ Some f = rw o at h in
      let rest : List ℕ = (file_pieces b).open_ in
      rw (
        file_pieces-append b c,
        long_resumed b c (omega (arith, lt)),
        run-append start (file_pieces b).ended (pieces (rest ++ c)).ended,
        e,
      )
      (long_stays p rest c next (pieces_whole (skip_mark b)).1 lt ∙ k)
]

small_stays : (b c : List ℕ) (f : Fault) → length b ≤ max_file → decided b ≡ Some f → decided (b ++ c) ≡ Some f
unfolding decided
small_stays b c f s e =
    ap (λ (x : List ℕ). open_fault (file_pieces x).open_ (extra (b ++ c)) (run start (file_pieces x).ended))
    (within-append b c s)
    ∙ decided_more b (take (max_file - length b) c) f (extra (b ++ c)) (run start (file_pieces b).ended) refl
    (ap (λ (x : List ℕ). open_fault (file_pieces x).open_ None (run start (file_pieces x).ended))
    (sym (within_small b s)) ∙ ap (λ (o : Option ℕ). open_fault (file_pieces (within b)).open_ o
    (run start (file_pieces (within b)).ended)) (sym (extra_small b s)) ∙ e)

large_stays : (b c : List ℕ) → max_file < length b → decided (b ++ c) ≡ decided b
unfolding decided
large_stays b c lt = rw (front_same b c (omega (arith, lt)), extra_same b c lt) refl

pub stays_decided : (b c : List ℕ) (f : Fault) → Decides b f → FaultOf (b ++ c) f
stays_decided b c f h = decides_fault (b ++ c) f (decided_is (b ++ c) f (elim (cases_lt max_file (length b)) [
  | inl lt ↦ large_stays b c lt ∙ is_decided b f h
  | inr le ↦ small_stays b c f le (is_decided b f h)
]))
