-- Texts of places made normal: they are normal, and texts where the text was one.
use Rattle.std.proofs.Common.{
  ◌≡◌,
  ℕ,
  ◌<◌,
  ◌≤◌,
  ◌==◌,
  true,
  false,
  cond,
  List,
  [],
  ◌∷◌,
  ◌++◌,
  length,
  map,
  refl,
  sym,
  ap,
  subst,
  arith,
}
use Rattle.std.specs.Prelude.{codes}
use Rattle.std.specs.List.{join_with_byte, list_any}
use Rattle.std.proofs.Math.Seq.{drop-append_seam}
use Rattle.std.proofs.lemmas.Bool.{eqb-true, or_parts}
use Rattle.std.proofs.lemmas.List.Splits.{join_with_byte-slice_split}
use Rattle.std.proofs.lemmas.Str.{IsCharBoundary-after_ascii, IsUtf8-drop, IsUtf8-nil}
use Rattle.std.specs.Str.{IsCharBoundary, IsUtf8}
use Rattle.record_text.specs.Text.{IsText}
use Rattle.record_shapes.specs.Lists.{EachOf}
use Rattle.record_shapes.specs.Paths.{backwards, from_word, is_within_limits, joined, normal, parts, trimmed}
use Rattle.imports.proofs.Clean.{IsClean, clean_both, clean_front, clean_short, clean_text, text_clean}
use Rattle.record_shapes.proofs.Names.{names_back, IsName}
use Rattle.record_shapes.proofs.Limits.{limits_are}
use Rattle.record_shapes.proofs.Trimmed.{twice}
use Rattle.record_shapes.proofs.Each.{each_more, each_mapped}

-- ---- names joined

pub joined_normal : (n : List ℕ) (ns : List (List ℕ)) → EachOf IsName (n ∷ ns)
    → normal (joined (n ∷ ns)) ≡ joined (n ∷ ns)
unfolding normal
joined_normal n ns h = ap joined (names_back n ns h)

pub name_normal : (n : List ℕ) → IsName n → normal n ≡ n
name_normal n h = joined_normal n [] (h, tt)

-- ---- what is UTF-8 stays so
clean_behind : (c : ℕ) (t : List ℕ) → c < 128 → IsClean (c ∷ t) → IsClean t
clean_behind c t low h =
    let cut : IsCharBoundary (c ∷ t) 1 = IsCharBoundary-after_ascii (c ∷ t) 0 h.utf8 (omega arith) (omega arith) in
    record {
      utf8 = subst IsUtf8 (drop-append_seam (c ∷ []) t) (IsUtf8-drop (c ∷ t) 1 h.utf8 cut);
      no_nul = (or_parts (c == 0) (list_any (λ x. x == 0) t) h.no_nul).1;
      no_cr = (or_parts (c == 13) (list_any (λ x. x == 13) t) h.no_cr).1;
    }

parts_clean : (ps : List (List ℕ)) → IsClean (join_with_byte 44 ps) → EachOf IsClean ps
parts_clean [] h = tt
parts_clean (p ∷ []) h = (h, tt)
parts_clean (p ∷ (q ∷ ps)) h =
    let two = clean_front p (join_with_byte 44 (q ∷ ps)) 44 (omega arith) h in
    (two.0, parts_clean (q ∷ ps) (clean_behind 44 (join_with_byte 44 (q ∷ ps)) (omega arith) two.1))

word_clean : (t : List ℕ) → IsClean t → IsClean (from_word t)
word_clean [] h = h
word_clean (b ∷ bs) h =
    elim (b == 32) as (λ x. (b == 32) ≡ x → IsClean (cond x (from_word bs) (b ∷ bs))) [
      | true ↦ λ e.
          let is : b ≡ 32 = eqb-true b 32 e in
          word_clean bs (clean_behind 32 bs (omega arith) (subst (λ x. IsClean (x ∷ bs)) is h))
      | false ↦ λ e. h
    ] refl

back_clean : (w : List ℕ) → IsClean (backwards w) → IsClean (backwards (from_word w))
back_clean [] h = h
back_clean (b ∷ bs) h =
    elim (b == 32) as (λ x. (b == 32) ≡ x → IsClean (backwards (cond x (from_word bs) (b ∷ bs)))) [
      | true ↦ λ e.
          let is : b ≡ 32 = eqb-true b 32 e in
          back_clean bs (clean_front (backwards bs) [] 32 (omega arith)
          (subst (λ x. IsClean (backwards bs ++ (x ∷ []))) is h)).0
      | false ↦ λ e. h
    ] refl

trimmed_clean : (t : List ℕ) → IsClean t → IsClean (trimmed t)
trimmed_clean t h = back_clean (backwards (from_word t)) (subst IsClean (sym (twice (from_word t))) (word_clean t h))

pub names_clean : (t : List ℕ) → IsClean t → EachOf IsClean (map trimmed (parts t))
names_clean t h = each_mapped IsClean trimmed (parts t) (each_more IsClean (λ p. IsClean (trimmed p)) trimmed_clean
    (parts t) (parts_clean (parts t) (subst IsClean (sym (join_with_byte-slice_split 44 t)) h)))

pub joined_clean : (ns : List (List ℕ)) → EachOf IsClean ns → IsClean (joined ns)
joined_clean [] h = record { utf8 = IsUtf8-nil; no_nul = refl; no_cr = refl }
joined_clean (n ∷ []) h = h.0
joined_clean (n ∷ (m ∷ ns)) h =
    clean_both n (codes ", " ++ joined (m ∷ ns)) h.0
    (clean_both (codes ", ") (joined (m ∷ ns)) (clean_short 2 (codes ", ")
    (record { bytes = refl; short = omega arith }))
    (joined_clean (m ∷ ns) h.1))

pub normal_clean : (t : List ℕ) → IsClean t → IsClean (normal t)
unfolding normal
normal_clean t h = joined_clean (map trimmed (parts t)) (names_clean t h)

-- ---- limits

pub normal_text : (t : List ℕ) → IsText t → is_within_limits (normal t) ≡ true → IsText (normal t)
normal_text t h within =
    let short : length (normal t) ≤ 4096 = (limits_are (normal t) within).1 in
    clean_text (normal t) (normal_clean t (text_clean t h)) (omega arith)
