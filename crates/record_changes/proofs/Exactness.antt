-- What is put differs from what is there.
use Rattle.std.proofs.Common.{◌≡◌, ℕ, [], ◌∷◌, sym, subst, ap, ◌∙◌}
use Rattle.std.specs.Prelude.{◌≢◌, Some, None, Result, Ok, Err, IfOk}
use Rattle.std.specs.FinMap.{get}
use Rattle.receipts.specs.declared.answer.Answer.{Answer}
use Rattle.record_kinds.specs.declared.record.Record.{Record}
use Rattle.archive_state.specs.Changes.{Changes}
use Rattle.archive_state.specs.Content.{Content}
use Rattle.command_checks.specs.Exact.{IsExact}

-- one record is put, and it is not what is there
pub one_is_exact : (c : Content) (n next : ℕ) (r : Record) (a : Answer) (changes : Changes)
    → changes ≡ record {
      puts = record { number = n; «record» = r } ∷ [];
      removals = [];
      next = next;
      answer = a;
      kept = None;
      slip = None;
    }
    → get c.records n ≢ Some r → IsExact c changes
one_is_exact c n next r a changes e other =
    subst (IsExact c) (sym e)
    (record { puts = λ _. (tt, tt); removals = tt; apart = tt; new = λ _. (other, tt); there = tt; slip = λ _. tt })

-- nothing is put
pub none_is_exact : (c : Content) (next : ℕ) (a : Answer) (changes : Changes)
    → changes ≡ record { puts = []; removals = []; next = next; answer = a; kept = None; slip = None }
    → IsExact c changes
none_is_exact c next a changes e =
    subst (IsExact c) (sym e)
    (record { puts = λ _. tt; removals = tt; apart = tt; new = λ _. tt; there = tt; slip = λ _. tt })

-- what is answered where another record is put
pub exact_if : {E : Type 0} (r : Result Changes E) (c : Content) (n : ℕ) (v : Record)
    → IfOk r (λ changes. get c.records n ≢ Some v → IsExact c changes) → get c.records n ≢ Some v → IfOk r (IsExact c)
exact_if (Ok a) c n v h other = h other
exact_if (Err k) c n v h other = tt
