-- What is judged of rows, from what is judged of what they mean.
use Rattle.std.proofs.Common.{◌≡◌, ◌⊎◌, inl, inr, length, true, Ok, Err, subst, sym}
use Rattle.std.specs.Prelude.{Option, Some, None, IfOk, IfErr, IfSome}
use Rattle.std.specs.FinMap.{keys}
use Rattle.sqlite.specs.State.{State}
use Rattle.record_text.specs.declared.refusal.RefusalKind.{RefusalKind}
use Rattle.record_text.specs.declared.refusal.RefusalKind.TheVariants.{BadStored, OutOfMemory}
use Rattle.archive_state.specs.Content.{Content}
use Rattle.archive_state.specs.Sound.{IsSound}
use Rattle.store_tables.specs.Calls.{Settled}
use Rattle.store_tables.specs.Looking.{IsFailure}
use Rattle.store_tables.specs.Rows.{Rows}
use Rattle.store_tables.specs.Schema.{archive_schema}
use Rattle.store_tables.specs.Showing.{ShowsRows}
use Rattle.store_rows.specs.Meaning.{Means, AreReadable}
use Rattle.store_rows.proofs.OneContent.{one_content}
use Rattle.table_looks.specs.declared.flaw.Flaw.{Flaw}
use Rattle.table_looks.specs.declared.flaw.Flaw.TheVariants as flaw
use Rattle.table_looks.specs.Judging.{
  AreFlawed,
  AreNone,
  Audit,
  Beside,
  HaveOwn,
  IsFlaw,
  Judges,
  ShowsBeside,
  Tells,
  beside_in,
  without_fault,
}

-- the rows mean the content, and this is what they have beside it, where they are of the second schema
abbrev pub AreOf : Content → Beside → Rows → Type 0
AreOf c b rows = (rows.has_spans ≡ true → b ≡ beside_in rows) × Means rows c

not_good : (rows : Rows) (c : Content) (b : Beside) → AreOf c b rows → (IsSound c → ¬ (HaveOwn b c)) → AreNone rows
not_good rows c b of fails d seen shallow sound has keeps =
    let same : d ≡ c = one_content rows d c seen of.1 in
    fails (subst IsSound same sound) (subst (λ (x : Beside). HaveOwn x c) (sym (of.0 has))
    (subst (λ (e : Content). HaveOwn (beside_in rows) e) same keeps))

not_readable : (rows : Rows) → ¬ (AreReadable rows) → AreNone rows
not_readable rows fails d means shallow sound has keeps = fails (d, means, shallow)

flawed : (rows : Rows) (c : Content) (b : Beside) (f : Flaw) → AreOf c b rows → IsFlaw c b f → AreFlawed f rows
flawed rows c b (flaw.Rule fault) of is = (c, of.1, is)
flawed rows c b (flaw.Span n) of is = λ has. (c, of.1, subst (λ x. IsFlaw c x (flaw.Span n)) (of.0 has) is)
flawed rows c b (flaw.Link n target) of is =
    λ has. (c, of.1, subst (λ x. IsFlaw c x (flaw.Link n target)) (of.0 has) is)
flawed rows c b (flaw.Sought n) of is = λ has. (c, of.1, subst (λ x. IsFlaw c x (flaw.Sought n)) (of.0 has) is)

-- where the rows were read
module _ (old : State) (c : Content) (b : Beside) (of : (rows : Rows) → Settled old rows → AreOf c b rows) where
  flaw_of : (o : Option Flaw) → IfSome o (IsFlaw c b)
      → IfSome o (λ f. (rows : Rows) → Settled old rows → AreFlawed f rows)
  flaw_of None is = tt
  flaw_of (Some f) is = λ rows was. flawed rows c b f (of rows was) is

  pub read_judges : (result : Audit)
      → (old.now.schema ≡ archive_schema true → ShowsBeside b old
      × (rows : Rows) × ShowsRows rows old × Means rows c)
      → IfOk result (λ n. IsSound c × HaveOwn b c × (n ≡ length (keys c.records)))
      → IfErr result (λ e. (e.0 ≡ OutOfMemory) ⊎ ((e.0 ≡ BadStored) × (IsSound c → ¬ (HaveOwn b c))))
      → Judges old (without_fault result)
  read_judges (Ok n) shown good bad = record {
    only = λ has. let it = shown has in (it.1, b, it.2, it.0, (c, it.3, good.0, good.1, good.2));
    good = λ rows was. (
      c,
      (of rows was).1,
      good.0,
      λ has. subst (λ (x : Beside). HaveOwn x c) ((of rows was).0 has) good.1,
      good.2,
    );
    bad = tt;
  }
  read_judges (Err e) shown good bad = record {
    only = tt;
    good = tt;
    bad = λ rows was. elim bad [
      | inl memory ↦ inl (inl memory)
      | inr stored ↦ inr (stored.0, not_good rows c b (of rows was) stored.1)
    ];
  }

  pub read_tells : (result : Audit) → IfErr result (λ e. IfSome e.1 (IsFlaw c b)) → Tells old result
  read_tells (Ok n) told = tt
  read_tells (Err e) told = flaw_of e.1 told

-- where they were not
pub unread_judges : (old : State) (kind : RefusalKind) → ((rows : Rows) → Settled old rows
    → IsFailure kind ⊎ ((kind ≡ BadStored) × ¬ (AreReadable rows))) → Judges old (Err kind)
unread_judges old kind refused = record {
  only = tt;
  good = tt;
  bad = λ rows was. elim (refused rows was) [
    | inl failure ↦ inl failure
    | inr stored ↦ inr (stored.0, not_readable rows stored.1)
  ];
}
