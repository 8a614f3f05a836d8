-- Looks at tables that come one after the other.
use Rattle.std.proofs.Common.{◌≡◌, inl, inr, Result, Ok, Err, OnOk, IfOk, IfErr, ◌∙◌, arith}
use Rattle.std.specs.Prelude.{⊤, List, ℕ}
use Rattle.sqlite.specs.State.{State, HasCleanDisk, Survives}
use Rattle.record_text.specs.declared.refusal.RefusalKind.{RefusalKind}
use Rattle.store_tables.specs.Looking.{IsFailure, Looks, version_number}
use Rattle.store_tables.specs.Prepared.{PreparesAll}
use Rattle.store_tables.specs.Calls.{Settled}
use Rattle.store_tables.specs.Rows.{Rows}
use Rattle.store_tables.specs.declared.version.Version.{Version}
use Rattle.store_tables.proofs.Queries.{still_settled}

pub survives_both : (old mid new : State) → Survives old mid (λ _. ⊥) → Survives mid new (λ _. ⊥)
    → Survives old new (λ _. ⊥)
survives_both old mid new p q = record {
  clean = omega (arith, p.clean, q.clean);
  shield = λ shield. q.shield (p.shield shield);
  counts = omega (arith, p.counts, q.counts);
  limit = q.limit ∙ p.limit;
  closes = λ clean was_open. elim (p.closes (omega (arith, q.clean, clean)) was_open) [
    | inl is_open ↦ elim (q.closes clean is_open) [
      | inl still ↦ inl still
      | inr faults ↦
          inr (omega (arith, faults, p.counts))
    ]
    | inr faults ↦ inr (omega (arith, faults, q.counts))
  ];
  crash = λ clean db leaves. elim (q.crash clean db leaves) [
    | inl before ↦
        p.crash (omega (arith, q.clean, clean)) db before
    | inr commits ↦ absurd commits
  ];
}

any_read : {A E : Type 0} {P : A → Type 0} (r : Result A E) → ((a : A) → P a) → IfOk r P
any_read (Ok a) h = h a
any_read (Err e) h = tt

same_read : {A E : Type 0} {P Q : Type 0} (r : Result A E) → (P → Q) → OnOk r P → IfOk r (λ _. Q)
same_read (Ok a) f h = f h
same_read (Err e) f h = tt

-- tables that show the version that was found are looked at as in one call
pub looks_at_tables : {B : Type 0} {queries : List (List ℕ)} (old mid new : State) (version : Version)
    (result : Result B RefusalKind)
    → Looks (λ rows (found : Version). rows.version ≡ version_number found) old mid (Ok version)
    → PreparesAll queries mid new result
    → ((rows : Rows) → Settled mid rows → rows.version ≡ version_number version → Looks (λ _ _. ⊤) mid new result)
    → Looks (λ _ _. ⊤) old new result
looks_at_tables {B} old mid new version result first p then = record {
  read = λ clean. any_read result (λ b rows was. tt);
  same = λ clean. same_read result
      (λ same rows was. still_settled mid new rows same (first.same (before clean) rows was)) (p.same clean);
  refused = λ clean. each_settled result (first.same (before clean)) (λ rows was. (at clean rows was).refused clean);
  crash = λ clean rows was. (at clean rows was).crash clean rows (first.same (before clean) rows was);
  clean = λ clean. first.clean (before clean);
}
  where
    before : HasCleanDisk new → HasCleanDisk mid
    before clean = omega (arith, p.survives.clean, clean)

    at : HasCleanDisk new → (rows : Rows) → Settled old rows → Looks (λ _ _. ⊤) mid new result
    at clean rows was = then rows (first.same (before clean) rows was) (first.read (before clean) rows was)

    each_settled : (r : Result B RefusalKind) → ((rows : Rows) → Settled old rows → Settled mid rows)
        → ((rows : Rows) → Settled old rows → IfErr r (λ kind. (it : Rows) → Settled mid it → IsFailure kind))
        → IfErr r (λ kind. (rows : Rows) → Settled old rows → IsFailure kind)
    each_settled (Ok b) to h = tt
    each_settled (Err kind) to h = λ rows was. h rows was rows (to rows was)
