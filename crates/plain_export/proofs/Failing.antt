-- What cannot be made if a part of it cannot be.
use Rattle.std.proofs.Common.{
  ◌≡◌,
  ◌⊎◌,
  ◌<◌,
  ◌≤◌,
  ◌++◌,
  ◌+◌,
  ℕ,
  List,
  [],
  ◌∷◌,
  Bool,
  true,
  ap,
  length,
  get_or,
  inl,
  inr,
  map,
  arith,
  subst,
  sym,
  zero,
  suc,
}
use Rattle.std.specs.Prelude.{IfErr, Result, Ok, Err, codes, if◌then◌else◌}
use Rattle.std.specs.List.{flat_map}
use Rattle.stored_lines.specs.Levels.{forest_levels}
use Rattle.stored_lines.specs.Line.{Lines}
use Rattle.stored_lines.specs.Tree.{forest_of}
use Rattle.record_text.specs.Text.{IsText}
use Rattle.record_text.specs.declared.refusal.RefusalKind.{RefusalKind}
use Rattle.record_text.specs.declared.refusal.RefusalKind.TheVariants.{ExportTooLarge, OutOfMemory}
use Rattle.record_kinds.specs.Model as model
use Rattle.record_shapes.specs.Shapes.{Around, text_line}
use Rattle.archive_state.specs.Content.{Records}
use Rattle.archive_state.specs.Looks.{is_stop}
use Rattle.gedcom_export.specs.Ends.{IsReason}
use Rattle.plain_export.specs.Added.{cited_or_noted, citations, data_of, entry_note}
use Rattle.plain_export.specs.Allowed.{is_long, one_line, page_line}
use Rattle.plain_export.specs.Fitting.{AddedFit, AreTexts, Fails, Fits, IsFit, IsPlainReason, LinesFit}
use Rattle.plain_export.specs.declared.added.Added.{Added}
use Rattle.plain_export.specs.declared.noted.Noted.{Noted}

pub weaker : {P W : Type 0} (e : RefusalKind) → (W → P) → Fails e P → Fails e W
weaker e part (inl is) = inl is
weaker e part (inr unfit) = inr (λ whole. unfit (part whole))

-- the same of a result
pub fails_by : {A P W : Type 0} (r : Result A RefusalKind) → (W → P) → IfErr r (λ e. Fails e P)
    → IfErr r (λ e. Fails e W)
fails_by (Ok a) part h = h
fails_by (Err e) part h = weaker e part h

-- ---- lines
pub lines_front : (xs ys : Lines) → LinesFit (xs ++ ys) → LinesFit xs
lines_front [] ys h = tt
lines_front (t ∷ ts) ys h = (h.0, lines_front ts ys h.1)

-- the lines of a line that has few levels below it, or there is none of them
pub few_in_data : (ts : Lines) → LinesFit (data_of ts) → forest_levels (forest_of ts) ≤ 98
few_in_data [] h = omega arith
few_in_data (t ∷ ts) h = h.0.1.0

-- ---- what is added
pub added_front : (xs ys : List Added) → AddedFit (xs ++ ys) → AddedFit xs
added_front [] ys h = tt
added_front (x ∷ xs) ys h = (h.0, added_front xs ys h.1)

pub added_back : (xs ys : List Added) → AddedFit (xs ++ ys) → AddedFit ys
added_back [] ys h = h
added_back (x ∷ xs) ys h = added_back xs ys h.1

-- of a list that a loop goes over, at its step i
module _ {A : Type 0} where
  at_mapped : (f : A → Added) (xs : List A) (i : ℕ) (d : A) → i < length xs → AddedFit (map f xs)
      → Fits (f (get_or xs i d)).line
  at_mapped f [] i d less h = absurd (omega arith)
  at_mapped f (x ∷ xs) zero d less h = h.0
  at_mapped f (x ∷ xs) (suc i) d less h = at_mapped f xs i d (omega arith) h.1

  at_flat : (g : A → ℕ) (f : ℕ → List Added) (xs : List A) (i : ℕ) (d : A) → i < length xs
      → AddedFit (flat_map f (map g xs)) → AddedFit (f (g (get_or xs i d)))
  at_flat g f [] i d less h = absurd (omega arith)
  at_flat g f (x ∷ xs) zero d less h = added_front (f (g x)) (flat_map f (map g xs)) h
  at_flat g f (x ∷ xs) (suc i) d less h =
      at_flat g f xs i d (omega arith) (added_back (f (g x)) (flat_map f (map g xs)) h)

  at_text : (f : A → List ℕ) (xs : List A) (i : ℕ) (d : A) → i < length xs → AreTexts (map f xs)
      → IsText (f (get_or xs i d))
  at_text f [] i d less h = absurd (omega arith)
  at_text f (x ∷ xs) zero d less h = h.0
  at_text f (x ∷ xs) (suc i) d less h = at_text f xs i d (omega arith) h.1

  pub added_in : (f : A → Added) (all xs : List A) (i : ℕ) (x : A) → xs ≡ all → i < length xs → x ≡ get_or xs i x
      → AddedFit (map f all) → Fits (f x).line
  added_in f all xs i x same less is h =
      subst (λ (y : A). Fits (f y).line) (sym is)
      (at_mapped f xs i x less (subst (λ (ys : List A). AddedFit (map f ys)) (sym same) h))

  pub flat_in : (g : A → ℕ) (f : ℕ → List Added) (all xs : List A) (i : ℕ) (x : A) → xs ≡ all → i < length xs
      → x ≡ get_or xs i x → AddedFit (flat_map f (map g all)) → AddedFit (f (g x))
  flat_in g f all xs i x same less is h =
      subst (λ (y : A). AddedFit (f (g y))) (sym is)
      (at_flat g f xs i x less (subst (λ (ys : List A). AddedFit (flat_map f (map g ys))) (sym same) h))

  pub text_in : (f : A → List ℕ) (all xs : List A) (i : ℕ) (x : A) → xs ≡ all → i < length xs → x ≡ get_or xs i x
      → AreTexts (map f all) → IsText (f x)
  text_in f all xs i x same less is h =
      subst (λ (y : A). IsText (f y)) (sym is)
      (at_text f xs i x less (subst (λ (ys : List A). AreTexts (map f ys)) (sym same) h))

pub number_in : (f : ℕ → Added) (xs : List ℕ) (i : ℕ) → i < length xs → AddedFit (map f xs)
    → Fits (f (get_or xs i 0)).line
number_in f xs i less h = at_mapped f xs i 0 less h

-- ---- entries
-- an entry that is cited nowhere is a note, and has no citations
pub citations_fit : (a : Around) (e : model.Entry) (xs : List Noted) (ns : List ℕ)
    → AddedFit (cited_or_noted a e xs ns) → AddedFit (citations e xs ns)
citations_fit a e xs [] h = tt
citations_fit a e xs (n ∷ ns) h = h

pub note_fits : (a : Around) (e : model.Entry) (xs : List Noted) (ns : List ℕ) → length ns ≡ 0
    → AddedFit (cited_or_noted a e xs ns) → Fits (entry_note a e)
note_fits a e xs [] empty h = h.0
note_fits a e xs (n ∷ ns) empty h = absurd (omega arith)

-- ---- pages
pub long_fits : (text : List ℕ) → is_long text ≡ true → Fits (page_line text) → Fits (text_line (codes "NOTE") text)
long_fits text is h = subst (λ (b : Bool).
    Fits (if b then text_line (codes "NOTE") text else text_line (codes "PAGE") (one_line text))) is h

-- ---- the export
pub plain_reason : (m : Records) (size : ℕ) (e : RefusalKind) → IsReason size e → IsPlainReason m size e
plain_reason m size e (inl stop) = inl stop
plain_reason m size e (inr (inl failed)) = inr (inl failed)
plain_reason m size e (inr (inr large)) = inr (inr (large.0, inl large.1))

pub not_made : (m : Records) (size : ℕ) (k e : RefusalKind) → Fails k (IsFit m)
    → ((k ≡ OutOfMemory) × (e ≡ OutOfMemory)) ⊎ ((¬ (k ≡ OutOfMemory)) × (e ≡ ExportTooLarge))
    → IsPlainReason m size e
not_made m size k e why (inl memory) = inl (ap is_stop memory.1)
not_made m size k e (inl is) (inr large) = absurd (large.0 is)
not_made m size k e (inr unfit) (inr large) = inr (inr (large.1, inr unfit))
