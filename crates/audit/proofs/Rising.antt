-- Numbers that rise from one to the next ascend.
use Rattle.std.proofs.Common.{
  ◌≡◌,
  ℕ,
  ◌+◌,
  ◌<◌,
  nat_lt,
  List,
  [],
  ◌∷◌,
  length,
  drop,
  get_or,
  Bool,
  true,
  false,
  ◌&&◌,
  refl,
  sym,
  ap,
  ◌∙◌,
  arith,
}
use Rattle.std.proofs.lemmas.List.{drop_more}
use Rattle.archive_state.specs.declared.slip.Change.{Change}
use Rattle.audit.specs.Parts.{changed}
use Rattle.std.specs.Bool.{Decides}
use Rattle.std.proofs.lemmas.Bool.Decides.{Decides-and, Decides-ltb}
use Rattle.record_shapes.specs.Lists.{Ascends}
use Rattle.audit.specs.Rising.{rises_from}
use Rattle.record_shapes.proofs.Each.{each_more}

pub rise : (n : ℕ) (ns : List ℕ) → Decides (rises_from n ns) (Ascends (n ∷ ns))
rise n [] = (λ _. (tt, tt), λ _. refl)
rise n (k ∷ ns) =
    let both = Decides-and (nat_lt n k) (rises_from k ns) (Decides-ltb n k) (rise k ns) in (
      λ e. let h = both.0 e in
          ((h.0, each_more (λ m. k < m) (λ m. n < m) (λ m less. further n k m h.0 less) ns h.1.0), h.1),
      λ h. both.1 (h.0.0, h.1),
    )
  where
    further : (a b c : ℕ) → a < b → b < c → a < c
    further a b c x y = omega arith

-- ---- one change more
rising : (last : ℕ) (cs : List Change) (i : ℕ) (x : Change) → i < length cs → x ≡ get_or cs i x
    → rises_from last (changed (drop i cs)) ≡ (nat_lt last x.number && rises_from x.number (changed (drop (i + 1) cs)))
rising last cs i x less is = ap (λ ys. rises_from last (changed ys)) (drop_more cs i x less)
    ∙ ap (λ (y : Change). nat_lt last y.number && rises_from y.number (changed (drop (i + 1) cs))) (sym is)

pub rises_on : (last : ℕ) (cs : List Change) (i : ℕ) (x : Change) (all b : Bool) → i < length cs → x ≡ get_or cs i x
    → rises_from last (changed (drop i cs)) ≡ all → b ≡ nat_lt last x.number → b ≡ true
    → rises_from x.number (changed (drop (i + 1) cs)) ≡ all
rises_on last cs i x all b less is before test so =
    ap (λ v. v && rises_from x.number (changed (drop (i + 1) cs))) (sym so ∙ test) ∙ sym (rising last cs i x less is)
    ∙ before

pub rises_not : (last : ℕ) (cs : List Change) (i : ℕ) (x : Change) (all b : Bool) → i < length cs → x ≡ get_or cs i x
    → rises_from last (changed (drop i cs)) ≡ all → b ≡ nat_lt last x.number → b ≡ false → false ≡ all
rises_not last cs i x all b less is before test not_yet =
    ap (λ v. v && rises_from x.number (changed (drop (i + 1) cs))) (sym not_yet ∙ test)
    ∙ sym (rising last cs i x less is) ∙ before
