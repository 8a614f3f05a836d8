-- What is answered of a place whose referrers were looked at, with one step less.
use Rattle.std.proofs.Common.{◌≡◌, ℕ, suc, List, Bool, true, ◌&&◌, sym, ap, ◌∙◌, subst}
use Rattle.std.specs.Prelude.{Result, Ok, Err}
use Rattle.std.specs.List.{list_all, list_any}
use Rattle.record_text.specs.declared.refusal.RefusalKind.{RefusalKind}
use Rattle.archive_state.specs.Content.{Content}
use Rattle.archive_state.specs.Looks.{Looked}
use Rattle.archive_state.specs.Referrers.{referrers}
use Rattle.place_names.specs.Naming.{all_may, any_reads, may_at, may_have, reads_at}

module _ (c : Content) (n : ℕ) (path : List ℕ) where
  may_here : (t : ℕ) (r : Result Bool RefusalKind) (may : Bool) (ns ks : List ℕ) → may ≡ may_have c n path → may ≡ true
      → ns ≡ referrers c n → ks ≡ ns → Looked r (λ x. x ≡ list_all (may_at t c n path) ks)
      → Looked r (λ x. x ≡ all_may (suc t) c n path)
  may_here t (Err k) may ns ks is there refs same h = h
  may_here t (Ok x) may ns ks is there refs same h =
      h ∙ ap (list_all (may_at t c n path)) (same ∙ refs)
      ∙ sym (ap (λ b. b && list_all (may_at t c n path) (referrers c n)) (sym is ∙ there))

  pub all_may_is : (s t : ℕ) → suc t ≡ s → (r : Result Bool RefusalKind) (may : Bool) (ns ks : List ℕ)
      → may ≡ may_have c n path → may ≡ true → ns ≡ referrers c n → ks ≡ ns
      → Looked r (λ x. x ≡ list_all (may_at t c n path) ks) → Looked r (λ x. x ≡ all_may s c n path)
  all_may_is s t e r may ns ks is there refs same h =
      subst (λ q. Looked r (λ x. x ≡ all_may q c n path)) e (may_here t r may ns ks is there refs same h)

  reads_here : (t : ℕ) (r : Result Bool RefusalKind) (ns ks : List ℕ) → ns ≡ referrers c n → ks ≡ ns
      → Looked r (λ x. x ≡ list_any (reads_at t c n path) ks) → Looked r (λ x. x ≡ any_reads (suc t) c n path)
  reads_here t (Err k) ns ks refs same h = h
  reads_here t (Ok x) ns ks refs same h = h ∙ ap (list_any (reads_at t c n path)) (same ∙ refs)

  pub any_reads_is : (s t : ℕ) → suc t ≡ s → (r : Result Bool RefusalKind) (ns ks : List ℕ) → ns ≡ referrers c n
      → ks ≡ ns → Looked r (λ x. x ≡ list_any (reads_at t c n path) ks) → Looked r (λ x. x ≡ any_reads s c n path)
  any_reads_is s t e r ns ks refs same h =
      subst (λ q. Looked r (λ x. x ≡ any_reads q c n path)) e (reads_here t r ns ks refs same h)
