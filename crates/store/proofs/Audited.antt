-- An audit, from what is judged of the tables and what the connection answers afterwards.
use Rattle.std.proofs.Common.{
  ◌≡◌,
  ◌⊎◌,
  ◌∙◌,
  inl,
  inr,
  ℕ,
  Bool,
  true,
  false,
  List,
  length,
  Ok,
  Err,
  refl,
  sym,
  ap,
  subst,
}
use Rattle.std.specs.FinMap.{keys}
use Rattle.sqlite.specs.State.{State}
use Rattle.sqlite.specs.Tree.{Trees}
use Rattle.record_text.specs.declared.refusal.RefusalKind.{RefusalKind}
use Rattle.record_text.specs.declared.refusal.RefusalKind.TheVariants.{BadStored}
use Rattle.archive_state.specs.Content.{Content}
use Rattle.store_tables.specs.Calls.{LeavesOnly, Settled}
use Rattle.store_tables.specs.Looking.{IsFailure}
use Rattle.store_tables.specs.Rows.{Rows}
use Rattle.store_rows.proofs.OneContent.{one_content}
use Rattle.table_looks.specs.Judging.{AreNone, Judges, KeepsTables}
use Rattle.store.specs.Archives.{HasArchive}
use Rattle.store.specs.Calls.{Reads}
use Rattle.store.specs.Histories.{is_storage}
use Rattle.store.proofs.Looked.{err_reads, ok_reads, storage_is}

-- the number is that of the records
abbrev pub IsCount : List ℕ → Content → ℕ → Type 0
IsCount society c n = n ≡ length (keys c.records)

module _ (old : State) where
  pub audit_reads : (new : State) (n : ℕ) → Judges old (Ok n)
      → ((rows : Rows) → Settled old rows → Settled new rows) → KeepsTables old new → Reads IsCount old (Ok n) new
  audit_reads new n judges same kept = ok_reads IsCount old new n (λ rows society c was keeps.
      let good = judges.good rows was in
      good.4 ∙ ap (λ (d : Content). length (keys d.records)) (one_content rows good.0 c good.1 keeps.means))
      same kept.crash kept.clean

  -- where the connection was asked afterwards whether it answers still
  module _ (kind result : RefusalKind) (judges : Judges old (Err kind)) (same : is_storage result ≡ false
      → result ≡ kind) where
    failed : (society : List ℕ) (c : Content) → HasArchive society c old → IsFailure kind
    failed society c has = elim (judges.bad has.0 has.1) [
      | inl failure ↦ failure
      | inr none ↦ absurd (none.1 c has.2.means has.2.shallow has.2.sound has.2.dated.has_spans
          (record { spans = has.2.spans; links = has.2.links; soughts = has.2.soughts }))
    ]

    pub refused_reads : (mid new : State) → KeepsTables old mid
        → (is_storage result ≡ false → (rows : Rows) → LeavesOnly mid rows → Settled new rows)
        → ((t : Trees) → new.may_leave t → mid.may_leave t) → Reads IsCount old (Err result) new
    refused_reads mid new kept settled left = err_reads IsCount old mid new kind result failed kept.crash kept.clean
        settled same left

    refused_as : (rows : Rows) (b : Bool) → is_storage result ≡ b → (b ≡ false → result ≡ kind)
        → IsFailure kind ⊎ ((kind ≡ BadStored) × AreNone rows)
        → IsFailure result ⊎ ((result ≡ BadStored) × AreNone rows)
    refused_as rows true e still bad = inl (inr (storage_is result e))
    refused_as rows false e still bad =
        subst (λ k. IsFailure k ⊎ ((k ≡ BadStored) × AreNone rows)) (sym (still refl)) bad

    pub refused_judges : Judges old (Err result)
    refused_judges = record {
      only = tt;
      good = tt;
      bad = λ rows was. refused_as rows (is_storage result) refl same (judges.bad rows was);
    }
