-- Options and results, and clauses of a call that are handed on.
use Rattle.std.proofs.Common.{refl, List, ℕ, ◌≡◌}
use Rattle.std.specs.Prelude.{None, Some, Option, Ok, Result, Err, IfOk, OnOk, IfErr, IfSome}
use Rattle.std.specs.Io.KnownBytes.{Keeps}
use Rattle.std.specs.Result.{OnErr}

pub keeps : (old : Option (List ℕ)) → Keeps old old
keeps None = tt
keeps (Some bytes) = refl

-- what holds, holds where there is an error
pub on_err : {A E P : Type 0} (r : Result A E) → P → OnErr r P
on_err (Ok a) p = tt
on_err (Err e) p = p

pub ok_more : {A E : Type 0} (P Q : A → Type 0) → ((a : A) → P a → Q a) → (r : Result A E) → IfOk r P → IfOk r Q
ok_more P Q f (Ok a) p = f a p
ok_more P Q f (Err e) p = p

pub on_ok_more : {A E : Type 0} {P Q : Type 0} → (P → Q) → (r : Result A E) → OnOk r P → OnOk r Q
on_ok_more f (Ok a) p = f p
on_ok_more f (Err e) p = p

pub any_ok : {A E P : Type 0} (r : Result A E) → P → OnOk r P
any_ok (Ok a) p = p
any_ok (Err e) p = tt

pub ok_then : {A E P Q : Type 0} (r : Result A E) → (P → Q) → OnOk r P → OnOk r Q
ok_then (Ok x) f p = f p
ok_then (Err e) f p = tt

-- the exit of a `?`
pub if_err : {A E : Type 0} (r : Result A E) (P : E → Type 0) → ((e : E) → P e) → IfErr r P
if_err (Ok a) P h = tt
if_err (Err e) P h = h e

pub if_some : {A : Type 0} (P Q : A → Type 0) → ((a : A) → P a → Q a) → (o : Option A) → IfSome o P → IfSome o Q
if_some P Q f None h = tt
if_some P Q f (Some a) h = f a h

pub some_is : {A : Type 0} (x y : A) → Some x ≡ Some y → x ≡ y
some_is x y e = cc
