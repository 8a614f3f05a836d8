use Rattle.std.proofs.Common.{
  ◌≡◌,
  ℕ,
  ◌+◌,
  ◌<◌,
  ◌≤◌,
  length,
  drop,
  Bool,
  true,
  false,
  List,
  [],
  ◌∷◌,
  ◌++◌,
  slice_index_or,
  sym,
  ap,
  ◌∙◌,
  subst,
  arith,
}
use Rattle.std.proofs.lemmas.List.{append-nil}
use Rattle.merging.specs.Merges as specs
use Rattle.merging.specs.Rest.{rest_of}
use Rattle.merging.proofs.Numbering.{more_in, more_less, more_same, more_above, joined, at_end}
use Rattle.merging.proofs.finding.with_number.Goals as goal
use Rattle.merging.proofs.finding.with_number.Goals.{
  then-not-is_in+then-number-n+then-number-n-2+in_ok-push,
  then-not-is_in+then-number-n+else-number-n-2,
  else-not-is_in,
  else-not-is_in-via-then-not-is_in+else-number-n,
  else-not-is_in-via-else-not-is_in,
  then-not-is_in-2+in_ok-push-3,
  else-not-is_in-2,
}

pub all-init : goal.all-init
all-init c = sym (ap (λ l. l ++ specs.with_number c.args.number c.args.numbers.now) c.new-found.ensures.items)

pub all-preserved : goal.all-preserved
all-preserved c =
    let whole : List ℕ = specs.with_number c.args.number c.args.numbers.now in
    let s : List ℕ = c.args.numbers.now in
    let n : ℕ = c.args.number in
    let i : ℕ = c.all.i in
    let f : List ℕ = c.all.found.items in
    let k : ℕ = slice_index_or s i 0 in
    let h : i < length s = c.all-test.true in
    let was : whole ≡ f ++ rest_of c.all.is_in n (drop i s) = c.all.invariant in
    let pushed : c.push-in-all.new.self.items ≡ c.if-not-is_in.found.items ++ (k ∷ []) = c.in_ok-push-2.ensures.items in
    elim c.if-not-is_in.branch [
      | then-not-is_in+then-number-n+then-number-n-2+in_ok-push w ↦
          let out : whole ≡ f ++ rest_of false n (drop i s) = subst (λ (b : Bool). whole ≡ f ++ rest_of b n (drop i s))
          w.if-not-is_in.true was in
          joined whole c.push-in-all.new.self.items c.if-not-is_in.found.items (f ++ (n ∷ [])) k n c.if-not-is_in.is_in
          true (drop (i + 1) s)
          (more_less whole f s i n 0 h w.if-number-n-2.true out) pushed
          (ap (λ v. v.items) w.found-is ∙ w.in_ok-push.ensures.items) w.is_in-is
      | then-not-is_in+then-number-n+else-number-n-2 w ↦
          let out : whole ≡ f ++ rest_of false n (drop i s) = subst (λ (b : Bool). whole ≡ f ++ rest_of b n (drop i s))
          w.if-not-is_in.true was in
          let low : n ≤ k = w.if-number-n.true in
          let high : k ≤ n = w.if-number-n-2.false in
          joined whole c.push-in-all.new.self.items c.if-not-is_in.found.items f k n c.if-not-is_in.is_in true
          (drop (i + 1) s)
          (more_same whole f s i n 0 h (omega arith) out) pushed (ap (λ v. v.items) w.found-is) w.is_in-is
      | else-not-is_in w ↦ elim w.else-not-is_in.branch [
        | else-not-is_in-via-then-not-is_in+else-number-n x ↦
            let no_yet : c.all.is_in ≡ false = x.if-not-is_in.true in
            let out : whole ≡ f ++ rest_of false n (drop i s) = subst
            (λ (b : Bool). whole ≡ f ++ rest_of b n (drop i s)) no_yet was in
            joined whole c.push-in-all.new.self.items c.if-not-is_in.found.items f k n c.if-not-is_in.is_in false
            (drop (i + 1) s)
            (more_above whole f s i n 0 h x.if-number-n.false out) pushed (ap (λ v. v.items) w.found-is)
            (w.is_in-is ∙ no_yet)
        | else-not-is_in-via-else-not-is_in x ↦
            let yes : c.all.is_in ≡ true = x.if-not-is_in.false in
            let out : whole ≡ f ++ rest_of true n (drop i s) = subst
            (λ (b : Bool). whole ≡ f ++ rest_of b n (drop i s)) yes was in
            joined whole c.push-in-all.new.self.items c.if-not-is_in.found.items f k n c.if-not-is_in.is_in true
            (drop (i + 1) s)
            (more_in whole f s i n 0 h out) pushed (ap (λ v. v.items) w.found-is) (w.is_in-is ∙ yes)
      ]
    ]

pub returns : goal.returns
returns c =
    let whole : List ℕ = specs.with_number c.args.number c.args.numbers.now in
    let n : ℕ = c.args.number in
    let f : List ℕ = c.all.found.items in
    let was : whole ≡ f ++ rest_of c.all.is_in n [] = at_end whole f c.args.numbers.now c.all.i n c.all.is_in
    c.all-test.false c.all.invariant in
    elim c.if-not-is_in-2.branch [
      | then-not-is_in-2+in_ok-push-3 w ↦
          let out : whole ≡ f ++ rest_of false n [] = subst (λ (b : Bool). whole ≡ f ++ rest_of b n [])
          w.if-not-is_in-2.true was in
          ap (λ v. v.items) w.found-is ∙ w.in_ok-push-3.ensures.items ∙ sym out
      | else-not-is_in-2 w ↦
          let out : whole ≡ f ++ rest_of true n [] = subst (λ (b : Bool). whole ≡ f ++ rest_of b n [])
          w.if-not-is_in-2.false was in
          ap (λ v. v.items) w.found-is ∙ sym (out ∙ append-nil f)
    ]
